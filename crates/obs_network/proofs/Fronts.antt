-- The rows at a bus are the first of the branches there; the loops over items.
use Rattle.std.proofs.Common.{◌≡◌, ◌≢◌, ℕ, ◌+◌, ◌-◌, ◌<◌, ◌≤◌, true, false, Option, None, List, ◌++◌, length, take, drop, get_or, set, refl, sym, ap, ◌∙◌, subst, arith, inl, inr, length-append, get_or-set_same, get_or-set_other, below_more}
use Rattle.std.specs.Prelude.{AllPairs, nat_lt}
use Rattle.std.specs.List.Sorted.{IsPartitionPoint, IsPartitionedBy}
use Rattle.std.proofs.lemmas.Bool.{cases_lt, ltb-false, ltb-true}
use Rattle.std.proofs.lemmas.List.{ext_get_or, get_or-append_right, get_or_append_left, length-take-le, take-append-drop, take-append-le, take_all}
use Rattle.std.proofs.Math.Seq.{take-append_seam}
use Rattle.std.proofs.lemmas.List.Sums.{count_by-le-length}
use Rattle.std.proofs.lemmas.List.Sorted.{IsPartitionedBy-ltb}
use Rattle.obs_graph.specs.declared.Ends.{Ends}
use Rattle.obs_graph.specs.Positions.{branches_at, has_end, positions_from}
use Rattle.obs_graph.proofs.AtVertex.{branches_at-append, branches_at-entry, positions_from-pass}
use Rattle.obs_graph.proofs.FlatParts.{length-positions_from}
use Rattle.obs_case.specs.declared.rows.Candidate.{Candidate}
use Rattle.obs_case.specs.declared.rows.Meter.{Meter}
use Rattle.obs_meter.specs.declared.Touch.{Touch}
use Rattle.obs_meter.specs.declared.Touch.TheVariants.{Nothing}
use Rattle.obs_network.specs.Touching.{candidate_touch, candidate_touches, meter_touch, meter_touches}
use Rattle.obs_case.specs.declared.rows.Kind.TheVariants.{Flow}
use Rattle.obs_case.specs.Tables.{IsValid, Tables}
use Rattle.obs_network.specs.Switched.{case_buses}
use Rattle.obs_network.specs.Network.{case_angles, case_branches, case_meters, case_rows}
use Rattle.obs_network.proofs.OfCase.{length-candidate_touches, length-case_rows, length-meter_touches, meters-at_nodes}
use Rattle.obs_network.proofs.Items.{candidate_touches-at, meter_touches-at, some_row}

-- those that stand below a bound come first in a rising list
pub parted_by : (xs : List ℕ) (bound : ℕ) → AllPairs ◌<◌ xs → IsPartitionedBy (λ e. nat_lt e bound) xs
parted_by xs bound rise =
    IsPartitionedBy-ltb (λ e. e) xs bound
    (λ i j d low within. elim (cases_lt i j) [
      | inl under ↦ omega (arith, rise i j d under within)
      | inr over ↦ let same : i ≡ j = omega (arith, low, over) in rw same (omega arith)
    ])

-- no more branches stand at a bus than there are
pub length-branches_at : (ends : List (Option Ends)) (bus : ℕ) → length (branches_at ends bus) ≤ length ends
length-branches_at ends bus = omega (arith, length-positions_from (has_end bus) 0 ends, count_by-le-length (has_end bus) ends)

-- where there are only rows, all branches at a bus are rows
pub rows_all : (ends : List (Option Ends)) (rows bus : ℕ) → length ends ≡ rows → branches_at (take rows ends) bus ≡ branches_at ends bus
rows_all ends rows bus same = ap (λ l. branches_at l bus) (take_all rows ends (omega (arith, same)))

-- else as many are rows as stand below the others
pub rows_below : (ends : List (Option Ends)) (rows bus i : ℕ) → rows ≤ length ends → i ≤ length (branches_at ends bus)
    → IsPartitionPoint (λ e. nat_lt e rows ≡ true) (λ e. nat_lt e rows ≡ false) (branches_at ends bus) i → i ≡ length (branches_at (take rows ends) bus)
rows_below ends rows bus i few within point =
    let front = branches_at (take rows ends) bus in
    let back = positions_from (has_end bus) (length (take rows ends)) (drop rows ends) in
    let len = length-take-le rows ends few in
    let is : branches_at ends bus ≡ front ++ back =
    ap (λ l. branches_at l bus) (sym (take-append-drop rows ends)) ∙ branches_at-append (take rows ends) (drop rows ends) bus in
    let all : length (branches_at ends bus) ≡ length front + length back = ap (λ (l : List ℕ). length l) is ∙ length-append front back in
    elim (cases_lt i (length front)) [
      | inl less ↦
          let at : get_or (branches_at ends bus) i 0 ≡ get_or front i 0 = ap (λ l. get_or l i 0) is ∙ get_or_append_left front back 0 i less in
          let low = (branches_at-entry (take rows ends) bus i less).0 in
          let high = ltb-false (get_or (branches_at ends bus) i 0) rows (point.1 i 0 (omega arith) (omega (arith, less, all))) in
          absurd (omega (arith, at, low, high, len))
      | inr as_many ↦ elim (cases_lt (length front) i) [
        | inr at_most ↦ omega (arith, as_many, at_most)
        | inl more ↦
            let n = length front in
            let at : get_or (branches_at ends bus) n 0 ≡ get_or back (n - n) 0 = ap (λ l. get_or l n 0) is ∙ get_or-append_right front back n n 0 refl (omega arith) in
            let none : n - n ≡ 0 = omega arith in
            let some : n - n < length back = omega (arith, none, more, within, all) in
            let high = (positions_from-pass (has_end bus) (length (take rows ends)) (drop rows ends) (n - n) 0 None some).2 in
            let low = ltb-true (get_or (branches_at ends bus) n 0) rows (point.0 n 0 (omega arith) more) in
            absurd (omega (arith, at, low, high, len))
      ]
    ]

-- the rows are the first of a case's branches
pub rows_are_first : (t : Tables) (ends : List (Option Ends)) (rows : ℕ) → ends ≡ case_branches t → rows ≡ length t.branches → take rows ends ≡ case_rows t
unfolding case_branches
rows_are_first t ends rows is all =
    let same : rows ≡ length (case_rows t) = all ∙ sym (length-case_rows t) in
    ap (λ l. take rows l) is ∙ ap (λ n. take n (case_rows t ++ case_angles t)) same ∙ take-append_seam (case_rows t) (case_angles t)

-- one item more was written
pub written_more : (touch : ℕ → Touch) (touches : List Touch) (i : ℕ) (x : Touch) → i < length touches → x ≡ touch i → ((k : ℕ) → k < i → get_or touches k Nothing ≡ touch k)
    → (k : ℕ) → k < i + 1 → get_or (set touches i x) k Nothing ≡ touch k
written_more touch touches i x low is before =
    below_more _ _ (λ k l. get_or-set_other touches i k x Nothing (omega (arith, l)) ∙ before k l) (get_or-set_same touches i x Nothing low ∙ is)

-- all meters were
pub meters_written : (rows : List (Option Ends)) (buses : List ℕ) (meters : List Meter) (touches : List Touch) → length meters ≡ length touches
    → ((k : ℕ) (d : Meter) → k < length meters → get_or touches k Nothing ≡ meter_touch rows buses k (get_or meters k d)) → touches ≡ meter_touches rows buses 0 meters
meters_written rows buses meters touches len at =
    ext_get_or Nothing touches (meter_touches rows buses 0 meters) (sym len ∙ sym (length-meter_touches rows buses 0 meters))
    (λ k l.
    let low : k < length meters = omega (arith, l, len) in
    let same : 0 + k ≡ k = omega arith in
    let d = some_row meters k low in
    at k d low ∙ sym (meter_touches-at rows buses 0 meters k d low ∙ ap (λ i. meter_touch rows buses i (get_or meters k d)) same))

-- and all candidates
pub candidates_written : (rows : List (Option Ends)) (buses : List ℕ) (first : ℕ) (candidates : List Candidate) (touches : List Touch) → length candidates ≡ length touches
    → ((k : ℕ) (d : Candidate) → k < length candidates → get_or touches k Nothing ≡ candidate_touch rows buses (first + k) (get_or candidates k d)) → touches ≡ candidate_touches rows buses first candidates
candidates_written rows buses first candidates touches len at =
    ext_get_or Nothing touches (candidate_touches rows buses first candidates) (sym len ∙ sym (length-candidate_touches rows buses first candidates))
    (λ k l.
    let low : k < length candidates = omega (arith, l, len) in
    let d = some_row candidates k low in
    at k d low ∙ sym (candidate_touches-at rows buses first candidates k d low))

-- what the changed row touches
pub touch_at_row : (t : Tables) (m : ℕ) (row : Meter) → m < length t.meters → row ≡ get_or t.meters m row → meter_touch (case_rows t) (case_buses t) m row ≡ get_or (case_meters t) m Nothing
unfolding case_meters
touch_at_row t m row low is =
    let same : 0 + m ≡ m = omega arith in
    ap (meter_touch (case_rows t) (case_buses t) m) is ∙ ap (λ i. meter_touch (case_rows t) (case_buses t) i (get_or t.meters m row)) (sym same) ∙ sym (meter_touches-at (case_rows t) (case_buses t) 0 t.meters m row low)

-- what is no flow stands at a node
pub row_at_node : (t : Tables) → IsValid t → (m : ℕ) → m < length t.meters → (row : Meter) → row ≡ get_or t.meters m row → row.kind ≢ Flow → row.at < length t.nodes
row_at_node t valid m low row is other = subst (λ (r : Meter). r.kind ≢ Flow → r.at < length t.nodes) (sym is) (meters-at_nodes t valid m row low) other

-- two lists written one behind the other have room where their numbers have
pub both_fit : {X : Type 0} (m n : ℕ) (xs ys : List X) (most : ℕ) → length xs ≡ m → length ys ≡ n → m + n ≤ most → length (xs ++ ys) ≤ most
both_fit m n xs ys most one other few = omega (arith, length-append xs ys, one, other, few)

-- what was written at the front of a longer list
pub front : {X : Type 0} (n : ℕ) (xs ys : List X) → n ≡ length xs → take n (xs ++ ys) ≡ xs
front n xs ys long = take-append-le n xs ys (omega (arith, long)) ∙ take_all n xs (omega (arith, long))
