-- A generated case is valid.
use Rattle.std.proofs.Common.{◌≡◌, ℕ, zero, suc, ◌+◌, ◌*◌, ◌/◌, ◌%◌, ◌^◌, ◌<◌, ◌≤◌, false, eqb, ltb, List, [], ◌∷◌, ◌++◌, length, map, decimal, Ok, refl, sym, ap, ◌∙◌, subst, inl, inr, arith, zero-add}
use Rattle.std.proofs.Math.Nat.{mul-le-mul_left}
use Rattle.std.proofs.lemmas.Bool.{cases_Bool, ltb-true, ne_eqb}
use Rattle.std.proofs.lemmas.List.{append-nil, length-append, length-map}
use Rattle.std.proofs.lemmas.List.FromFn.{length-map-range_with_len, map-range_with_len_more}
use Rattle.std.proofs.lemmas.Nat.{div_below}
use Rattle.std.specs.List.{enumerate_from, range_with_len}
use Rattle.std.specs.Str.{bytes_eq}
use Rattle.obs_case.specs.Adds.{with_branch, with_meter}
use Rattle.obs_case.specs.Tables.{IsValid, Tables, has_name, places, usual_rows}
use Rattle.obs_case.specs.inner.Tables.{no_rows}
use Rattle.obs_case.specs.declared.rows.Meter.{Meter}
use Rattle.obs_case.proofs.ValidLemmas.{valid-branches, valid-meters, valid-no_rows, valid-nodes}
use Rattle.obs_trial.specs.Draws.{draw_at}
use Rattle.obs_trial.specs.Trial.{branch_at, branch_name, ends_of_first, kind_drawn, meter_at, meter_name, node_at, node_name, nodes_of, place_drawn, to_below, to_right, trial_of, trial_with}
use Rattle.obs_trial.proofs.NameLemmas.{is_name-numbered, names_from, same_numbered}
use Rattle.obs_trial.proofs.RowLemmas.{ends-more, length-branches, names_of_branches, names_of_nodes, one_more}

-- a number above those of some names has another name
absent : (letter a count n : ℕ) → a + count ≤ n → n < 2 ^ 64 → has_name (names_from letter a count) (letter ∷ decimal n) ≡ false
absent letter a zero n above small = refl
absent letter a (suc count) n above small =
    let other : bytes_eq (letter ∷ decimal n) (letter ∷ decimal a) ≡ false = same_numbered letter a n (omega arith) small ∙ ne_eqb a n (omega arith) in
    let later = absent letter (a + 1) count n (omega arith) small in
    rw (other, later) refl

-- so many nodes are valid
valid_nodes : (count : ℕ) → count ≤ usual_rows → IsValid (record no_rows { nodes = nodes_of count })
valid_nodes zero few = valid-no_rows
valid_nodes (suc count) few =
    let before = valid_nodes count (omega arith) in
    let new = ap (λ names. has_name names (node_name count)) (names_of_nodes (range_with_len 0 count)) ∙ absent 0x6E 0 count count (omega arith) (omega arith) in
    let more = map-range_with_len_more node_at 0 count count (zero-add count) in
    let size : count + 1 ≡ suc count = omega arith in
    valid-nodes (record no_rows { nodes = nodes_of count }) before (Ok 0) (node_at count) (nodes_of (suc count)) (is_name-numbered 0x6E count refl (omega arith))
    (λ full. omega (arith, full, length-map-range_with_len node_at 0 count)) new (ap nodes_of (sym size) ∙ more) tt

names_of_meters : (seed a : ℕ) (ends : List (ℕ × ℕ)) → map (λ (row : Meter). row.name) (map (meter_at seed) (enumerate_from a ends)) ≡ map meter_name (range_with_len a (length ends))
names_of_meters seed a [] = refl
names_of_meters seed a (e ∷ ends) = ap (λ names. meter_name a ∷ names) (names_of_meters seed (a + 1) ends)

length-meters : (n seed : ℕ) (ends : List (ℕ × ℕ)) → length (trial_with n seed ends).meters ≡ length ends
length-meters n seed ends =
    sym (length-map (trial_with n seed ends).meters (λ (row : Meter). row.name)) ∙ ap length (names_of_meters seed 0 ends) ∙ length-map-range_with_len meter_name 0 (length ends)

module _ (n seed : ℕ) (ends : List (ℕ × ℕ)) (e : ℕ × ℕ) (valid : IsValid (trial_with n seed ends)) (few : length ends < usual_rows) (from : e.0 < n * n) (to : e.1 < n * n) where
  abbrev pub now : Tables
  now = trial_with n seed ends

  abbrev pub mid : Tables
  mid = with_branch now (branch_at (length ends, e))

  nodes : length now.nodes ≡ n * n
  nodes = length-map-range_with_len node_at 0 (n * n)

  valid_mid : IsValid mid
  valid_mid =
      let new = ap (λ names. has_name names (branch_name (length ends))) (names_of_branches 0 ends) ∙ absent 0x62 0 (length ends) (length ends) (omega arith) (omega arith) in
      valid-branches now valid (Ok 0) (branch_at (length ends, e)) (now.branches ++ branch_at (length ends, e) ∷ []) (is_name-numbered 0x62 (length ends) refl (omega arith))
      (λ full. omega (arith, full, length-branches n seed ends)) (omega (arith, nodes), omega (arith, nodes)) new refl tt

  branches : length mid.branches ≡ length ends + 1
  branches = length-append now.branches (branch_at (length ends, e) ∷ []) ∙ ap (λ k. k + 1) (length-branches n seed ends)

  inside : (draw : ℕ) → place_drawn draw (length ends) e < places mid (kind_drawn draw)
  inside draw =
      elim (cases_Bool (eqb (draw % 3) 0)) [
        | inl flow ↦ rw flow (omega (arith, branches))
        | inr other ↦ elim (cases_Bool (eqb (draw % 3) 1)) [
          | inl first ↦ rw (other, first) (omega (arith, nodes))
          | inr second ↦ rw (other, second) (omega (arith, nodes))
        ]
      ]

  pub valid_more : IsValid (trial_with n seed (ends ++ e ∷ []))
  valid_more =
      let row = meter_at seed (length ends, e) in
      let new = ap (λ names. has_name names (meter_name (length ends))) (names_of_meters seed 0 ends) ∙ absent 0x6D 0 (length ends) (length ends) (omega arith) (omega arith) in
      let after : IsValid (with_meter mid row) =
      valid-meters mid valid_mid (Ok 0) row (mid.meters ++ row ∷ []) (is_name-numbered 0x6D (length ends) refl (omega arith))
      (λ full. omega (arith, full, length-meters n seed ends)) (inside (draw_at seed (length ends))) new refl tt in
      subst IsValid (one_more n seed ends e now mid (with_meter mid row) (length ends) refl refl refl refl) after

module _ (n seed : ℕ) (some : 1 ≤ n) (high : n ≤ 100) where
  -- with the branch to the right, if there is one
  right : (ends : List (ℕ × ℕ)) (i : ℕ) → IsValid (trial_with n seed ends) → length ends ≤ 2 * i → i < n * n → i < 10000 → IsValid (trial_with n seed (ends ++ to_right n i)) × (length (ends ++ to_right n i) ≤ 2 * i + 1)
  right ends i valid few within small =
      elim (cases_Bool (ltb (i % n + 1) n)) [
        | inl there ↦
            (let inner : i % n + 1 < n = ltb-true (i % n + 1) n there in
            let up : n * (i / n + 1) ≤ n * n = mul-le-mul_left n (let row : i / n < n = div_below i n n (omega arith) within in omega arith) in
            rw there (valid_more n seed ends (i, i + 1) valid (omega arith) within (omega (arith, up)), omega (arith, length-append ends ((i, i + 1) ∷ []))))
        | inr none ↦ rw none (subst (λ es. IsValid (trial_with n seed es)) (sym (append-nil ends)) valid, omega (arith, length-append ends []))
      ]

  -- with the branch downwards, if there is one
  below : (ends : List (ℕ × ℕ)) (i : ℕ) → IsValid (trial_with n seed ends) → length ends ≤ 2 * i + 1 → i < n * n → i < 10000 → IsValid (trial_with n seed (ends ++ to_below n i)) × (length (ends ++ to_below n i) ≤ 2 * (i + 1))
  below ends i valid few within small =
      elim (cases_Bool (ltb (i / n + 1) n)) [
        | inl there ↦
            (let inner : i / n + 1 < n = ltb-true (i / n + 1) n there in
            let down : n * (i / n + 2) ≤ n * n = mul-le-mul_left n (omega arith) in
            rw there (valid_more n seed ends (i, i + n) valid (omega arith) within (omega (arith, down)), omega (arith, length-append ends ((i, i + n) ∷ []))))
        | inr none ↦ rw none (subst (λ es. IsValid (trial_with n seed es)) (sym (append-nil ends)) valid, omega (arith, length-append ends []))
      ]

  few_nodes : n * n ≤ 10000
  few_nodes = let by_row : n * n ≤ n * 100 = mul-le-mul_left n high in omega (arith, by_row)

  valid_first : (i : ℕ) → i ≤ n * n → IsValid (trial_with n seed (ends_of_first n i)) × (length (ends_of_first n i) ≤ 2 * i)
  valid_first zero within = (valid_nodes (n * n) (omega (arith, few_nodes)), omega arith)
  valid_first (suc i) within =
      let before = valid_first i (omega arith) in
      let first = right (ends_of_first n i) i before.0 before.1 (omega arith) (omega (arith, few_nodes)) in
      let second = below (ends_of_first n i ++ to_right n i) i first.0 first.1 (omega arith) (omega (arith, few_nodes)) in
      let size : i + 1 ≡ suc i = omega arith in
      let is : (ends_of_first n i ++ to_right n i) ++ to_below n i ≡ ends_of_first n (suc i) = sym (ends-more n i) ∙ ap (ends_of_first n) size in
      (subst (λ es. IsValid (trial_with n seed es)) is second.0, subst (λ es. length es ≤ 2 * suc i) is (omega (arith, second.1)))

  pub valid_trial : IsValid (trial_of n seed)
  unfolding trial_of
  valid_trial = (valid_first (n * n) (omega arith)).0
