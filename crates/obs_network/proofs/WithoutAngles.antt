-- Where the branches of items stand, and what is left where no node is absolute.
use Rattle.std.proofs.Common.{◌≡◌, ℕ, zero, suc, ◌+◌, ◌-◌, ◌<◌, ◌≤◌, Bool, true, false, not, ◌&&◌, Option, None, List, [], ◌∷◌, ◌++◌, length, map, filter, take, get_or, refl, sym, ap, ◌∙◌, subst, arith, inl, inr}
use Rattle.std.specs.Prelude.{All, if◌then◌else◌, slice_index, slice_index_or, ◌==◌}
use Rattle.std.specs.List.{list_any, range_with_len}
use Rattle.std.proofs.lemmas.Bool.{cases_Bool, cases_lt, cond-false}
use Rattle.std.proofs.lemmas.List.{get_or-append_right, get_or_append_left, get_or_past, length-map, map-append, take_all}
use Rattle.std.proofs.lemmas.List.Elements.{All-head, All-tail}
use Rattle.std.proofs.lemmas.List.FromFn.{get_or-map-range_with_len, length-map-range_with_len}
use Rattle.obs_graph.specs.declared.Ends.{Ends}
use Rattle.obs_graph.specs.Graph.{itself_of}
use Rattle.obs_graph.specs.Positions.{branches_at, positions_from}
use Rattle.obs_graph.proofs.AtVertex.{branches_at-front}
use Rattle.obs_graph.proofs.Present.{present_low}
use Rattle.obs_case.specs.declared.rows.Candidate.{Candidate}
use Rattle.obs_case.specs.declared.rows.Kind.{Kind}
use Rattle.obs_case.specs.declared.rows.Kind.TheVariants.{Flow, Injection, Zero, Angle}
use Rattle.obs_case.specs.declared.rows.Meter.{Meter}
use Rattle.obs_case.specs.declared.rows.Node.{Node}
use Rattle.obs_case.specs.Items.{angle_flags, angle_position, is_angle, is_angle_kind}
use Rattle.obs_case.specs.Tables.{Tables, IsValid, places}
use Rattle.obs_matroid.specs.Lists.{In}
use Rattle.obs_meter.specs.declared.Touch.{Touch}
use Rattle.obs_meter.specs.declared.Touch.TheVariants.{Nothing, Star}
use Rattle.obs_meter.specs.Touches.{touch_at, touched}
use Rattle.obs_meter.proofs.Touched.{itself_from, touched-present}
use Rattle.obs_network.specs.Switched.{case_buses}
use Rattle.obs_network.specs.Components.{is_absolute_node, is_marked}
use Rattle.obs_network.specs.Angles.{has_angle, item_angle, takes_angles}
use Rattle.obs_network.specs.Touching.{candidate_touch, candidate_touches, meter_touch, meter_touches, touch_of}
use Rattle.obs_network.specs.Network.{case_absolute, case_angles, case_branches, case_component_count, case_components, case_energised, case_live, case_need, case_offered, case_rows, case_sizes}
use Rattle.obs_network.specs.inner.Plain.{HasNoAbsolute, other_touches_in_order, touches_in_order, without_angles}
use Rattle.obs_network.proofs.Items.{item_at, length-angle_flags}
use Rattle.obs_network.proofs.OfCase.{length-case_offered, length-case_rows, length-meter_touches}

-- what is touched at a bus are the rows there, whatever stands behind the rows
pub front_is : (t : Tables) (bus : ℕ) → take (length (branches_at (case_rows t) bus)) (branches_at (case_branches t) bus) ≡ branches_at (case_rows t) bus
unfolding case_branches
front_is t bus = branches_at-front (case_rows t) (case_angles t) bus

pub row_below : (t : Tables) (bus e : ℕ) → In e (take (length (branches_at (case_rows t) bus)) (branches_at (case_branches t) bus)) → e < length t.branches
row_below t bus e i =
    let here : In e (branches_at (case_rows t) bus) = subst (λ (l : List ℕ). In e l) (front_is t bus) i in
    omega (arith, present_low (case_rows t) e (touched-present (case_rows t) (Star bus) e here), length-case_rows t)

-- where the branches stand that an item of some kind touches
by_kind : (t : Tables) (m e : ℕ) (kind : Kind) (at : ℕ) → at < places t kind → In e (touched (case_branches t) (touch_of (case_rows t) (case_buses t) m kind at))
    → (is_angle_kind kind ≡ true → e ≡ angle_position t m) × (is_angle_kind kind ≡ false → e < length t.branches)
by_kind t m e Flow at l i =
    let same = (itself_from (slice_index_or (case_branches t) at None) at e i).0 in
    ((λ f. absurd (cc f)), (λ f. omega (arith, same, l)))
by_kind t m e Injection at l i = let low = row_below t (slice_index (case_buses t) at) e i in ((λ f. absurd (cc f)), (λ f. low))
by_kind t m e Zero at l i = let low = row_below t (slice_index (case_buses t) at) e i in ((λ f. absurd (cc f)), (λ f. low))
by_kind t m e Angle at l i =
    let p = length (case_rows t) + m in
    let same = (itself_from (slice_index_or (case_branches t) p None) p e i).0 in
    ((λ f. omega (arith, same, length-case_rows t)), (λ f. absurd (cc f)))

pub nothing_touched : (ends : List (Option Ends)) (touch : Touch) (e : ℕ) → touch ≡ Nothing → In e (touched ends touch) → ⊥
nothing_touched ends touch e none i = subst (λ (x : Touch). In e (touched ends x)) none i

-- an angle item touches its angle branch alone, and another item rows alone
pub position_of_item : (t : Tables) → IsValid t → (m e : ℕ) → In e (touch_at (case_branches t) (case_offered t) m)
    → (is_angle t m ≡ true → e ≡ angle_position t m) × (is_angle t m ≡ false → e < length t.branches)
position_of_item t v m e i =
    elim (cases_lt m (length (case_offered t))) [
      | inr past ↦ absurd (nothing_touched (case_branches t) (slice_index_or (case_offered t) m Nothing) e (get_or_past (case_offered t) m Nothing past) i)
      | inl l ↦
          let item = item_at t v m (omega (arith, l, length-case_offered t)) in
          elim item.is [
            | inl none ↦ absurd (nothing_touched (case_branches t) (slice_index_or (case_offered t) m Nothing) e none i)
            | inr is ↦
                let both = by_kind t m e item.kind item.at item.low (subst (λ (x : Touch). In e (touched (case_branches t) x)) is i) in
                ((λ f. both.0 (sym item.flag ∙ f)), (λ f. both.1 (sym item.flag ∙ f)))
          ]
    ]

-- no component is absolute
no_marks : (nodes : List Node) (i : ℕ) → All (λ (row : Node). row.absolute ≡ false) nodes → positions_from is_absolute_node i nodes ≡ []
no_marks [] i none = refl
no_marks (row ∷ nodes) i none =
    let here : is_absolute_node row ≡ false = All-head (λ (r : Node). r.absolute ≡ false) row nodes none in
    rw here (no_marks nodes (suc i) (All-tail (λ (r : Node). r.absolute ≡ false) row nodes none))

not_absolute : (t : Tables) → HasNoAbsolute t → (c : ℕ) → slice_index_or (case_absolute t) c false ≡ false
unfolding case_absolute
not_absolute t none c =
    let components = case_components t in
    let count = case_component_count t in
    let f : ℕ → Bool = is_marked is_absolute_node components (case_buses t) t.nodes in
    let there : ℕ → Bool = λ u. slice_index components (slice_index (case_buses t) u) == c in
    elim (cases_lt c count) [
      | inl l ↦ get_or-map-range_with_len f 0 count c c false l (omega arith) ∙ ap (list_any there) (no_marks t.nodes 0 none)
      | inr past ↦ get_or_past (map f (range_with_len 0 count)) c false (omega (arith, past, length-map-range_with_len f 0 count))
    ]

pub plain_need : (t : Tables) → HasNoAbsolute t → (c : ℕ) → case_need t c ≡ slice_index (case_sizes t) c - 1
plain_need t none c =
    cond-false {A = ℕ} (slice_index_or (case_absolute t) c false) (slice_index (case_sizes t) c) (slice_index (case_sizes t) c - 1) (not_absolute t none c)

and_false : (a b : Bool) → b ≡ false → (a && b) ≡ false
and_false true b e = e
and_false false b e = refl

-- no angle branch is present
no_angle : (t : Tables) → HasNoAbsolute t → (kind : Kind) (at : ℕ) → item_angle (case_buses t) (case_components t) (case_energised t) (case_absolute t) kind at ≡ None
no_angle t none Flow at = refl
no_angle t none Injection at = refl
no_angle t none Zero at = refl
no_angle t none Angle at =
    let c = slice_index (case_components t) (slice_index (case_buses t) at) in
    cond-false (takes_angles (case_energised t) (case_absolute t) c) _ None (and_false (slice_index_or (case_energised t) c false) (slice_index_or (case_absolute t) c false) (not_absolute t none c))

absent_map : {X : Type 0} (f : X → Option Ends) → ((x : X) → f x ≡ None) → (xs : List X) (k : ℕ) → get_or (map f xs) k None ≡ None
absent_map f none [] k = refl
absent_map f none (x ∷ xs) zero = none x
absent_map f none (x ∷ xs) (suc k) = absent_map f none xs k

absent_append : (xs ys : List (Option Ends)) → ((k : ℕ) → get_or xs k None ≡ None) → ((k : ℕ) → get_or ys k None ≡ None) → (k : ℕ) → get_or (xs ++ ys) k None ≡ None
absent_append [] ys f g k = g k
absent_append (x ∷ xs) ys f g zero = f 0
absent_append (x ∷ xs) ys f g (suc k) = absent_append xs ys (λ i. f (suc i)) g k

no_angles : (t : Tables) → HasNoAbsolute t → (k : ℕ) → get_or (case_angles t) k None ≡ None
unfolding case_angles
no_angles t none k =
    let of : Kind → ℕ → Option Ends = item_angle (case_buses t) (case_components t) (case_energised t) (case_absolute t) in
    elim (cases_Bool (has_angle t)) [
      | inl e ↦ rw e (absent_append (map (λ (row : Meter). of row.kind row.at) t.meters) (map (λ (row : Candidate). of row.kind row.at) t.candidates)
          (absent_map (λ (row : Meter). of row.kind row.at) (λ row. no_angle t none row.kind row.at) t.meters)
          (absent_map (λ (row : Candidate). of row.kind row.at) (λ row. no_angle t none row.kind row.at) t.candidates) k)
      | inr e ↦ rw e refl
    ]

pub no_angle_present : (t : Tables) → HasNoAbsolute t → (e : ℕ) → length t.branches ≤ e → slice_index_or (case_branches t) e None ≡ None
unfolding case_branches
no_angle_present t none e past =
    get_or-append_right (case_rows t) (case_angles t) (length t.branches) e None (length-case_rows t) past ∙ no_angles t none (e - length t.branches)

rows_alone : (t : Tables) → HasNoAbsolute t → (e : ℕ) → get_or (case_branches t) e None ≡ get_or (case_rows t) e None
unfolding case_branches
rows_alone t none e =
    elim (cases_lt e (length (case_rows t))) [
      | inl l ↦ get_or_append_left (case_rows t) (case_angles t) None e l
      | inr past ↦ get_or-append_right (case_rows t) (case_angles t) (length (case_rows t)) e None refl past ∙ no_angles t none (e - length (case_rows t)) ∙ sym (get_or_past (case_rows t) e None past)
    ]

at_bus : (t : Tables) (bus : ℕ) → take (length (branches_at (case_rows t) bus)) (branches_at (case_branches t) bus) ≡ take (length (branches_at (case_rows t) bus)) (branches_at (case_rows t) bus)
at_bus t bus = front_is t bus ∙ sym (take_all (length (branches_at (case_rows t) bus)) (branches_at (case_rows t) bus) (omega arith))

-- what an item that is no angle item touches among the rows
plain_touched : (t : Tables) → HasNoAbsolute t → (m : ℕ) (kind : Kind) (at : ℕ) → is_angle_kind kind ≡ false
    → touched (case_branches t) (touch_of (case_rows t) (case_buses t) m kind at) ≡ touched (case_rows t) (touch_of (case_rows t) (case_buses t) 0 kind at)
plain_touched t none m Flow at plain = ap (λ (o : Option Ends). itself_of o at) (rows_alone t none at)
plain_touched t none m Injection at plain = at_bus t (slice_index (case_buses t) at)
plain_touched t none m Zero at plain = at_bus t (slice_index (case_buses t) at)
plain_touched t none m Angle at plain = absurd (cc plain)

-- the entries of a list whose flags are false
kept_by : {X : Type 0} → List Bool → List X → List X
kept_by [] xs = xs
kept_by (b ∷ flags) [] = []
kept_by (b ∷ flags) (x ∷ xs) = if b then kept_by flags xs else x ∷ kept_by flags xs

kept_by-append : {X : Type 0} (flags more : List Bool) (xs ys : List X) → length flags ≡ length xs → kept_by (flags ++ more) (xs ++ ys) ≡ kept_by flags xs ++ kept_by more ys
unfolding kept_by
kept_by-append [] more [] ys e = refl
kept_by-append [] more (x ∷ xs) ys e = absurd (omega (arith, e))
kept_by-append (b ∷ flags) more [] ys e = absurd (omega (arith, e))
kept_by-append (b ∷ flags) more (x ∷ xs) ys e =
    let rest = kept_by-append flags more xs ys (omega (arith, e)) in
    elim (cases_Bool b) [ inl f ↦ rw f rest | inr f ↦ rw f (ap (λ l. x ∷ l) rest) ]

-- the numbers that pass are those of the kept entries
picked : {X Y : Type 0} (f : ℕ → Y) (g : X → Y) (test : ℕ → Bool) (flags : List Bool) (xs : List X) (d : X) (i : ℕ) → length flags ≡ length xs
    → ((k : ℕ) → k < length xs → f (i + k) ≡ g (get_or xs k d)) → ((k : ℕ) → k < length xs → test (i + k) ≡ not (get_or flags k false))
    → map f (filter test (range_with_len i (length xs))) ≡ map g (kept_by flags xs)
unfolding kept_by
picked f g test [] [] d i e same tests = refl
picked f g test [] (x ∷ xs) d i e same tests = absurd (omega (arith, e))
picked f g test (b ∷ flags) [] d i e same tests = absurd (omega (arith, e))
picked f g test (b ∷ flags) (x ∷ xs) d i e same tests =
    let start : i ≡ i + 0 = omega arith in
    let here : f i ≡ g x = ap f start ∙ same 0 (omega arith) in
    let flag : test i ≡ not b = ap test start ∙ tests 0 (omega arith) in
    let rest = picked f g test flags xs d (i + 1) (omega (arith, e))
    (λ k l. let n : i + 1 + k ≡ i + suc k = omega arith in ap f n ∙ same (suc k) (omega (arith, l)))
    (λ k l. let n : i + 1 + k ≡ i + suc k = omega arith in ap test n ∙ tests (suc k) (omega (arith, l))) in
    elim (cases_Bool b) [
      | inl t ↦ let no : test i ≡ false = flag ∙ ap not t in rw (no, t) rest
      | inr t ↦ let yes_ : test i ≡ true = flag ∙ ap not t in rw (yes_, t) (rw here (ap (λ l. g x ∷ l) rest))
    ]

all_pass : (n i : ℕ) → filter (λ (m : ℕ). true) (range_with_len i n) ≡ range_with_len i n
all_pass zero i = refl
all_pass (suc n) i = ap (λ l. i ∷ l) (all_pass n (i + 1))

no_flags : {X : Type 0} → List X → List Bool
no_flags xs = map (λ x. false) xs

length-no_flags : {X : Type 0} (xs : List X) → length (no_flags xs) ≡ length xs
unfolding no_flags
length-no_flags xs = length-map xs (λ x. false)

all_kept : {X : Type 0} (xs : List X) → kept_by (no_flags xs) xs ≡ xs
unfolding kept_by no_flags
all_kept [] = refl
all_kept (x ∷ xs) = ap (λ l. x ∷ l) (all_kept xs)

no_flag : {X : Type 0} (xs : List X) (k : ℕ) → get_or (no_flags xs) k false ≡ false
unfolding no_flags
no_flag [] k = refl
no_flag (x ∷ xs) zero = refl
no_flag (x ∷ xs) (suc k) = no_flag xs k

abbrev meter_angle : Meter → Bool
meter_angle row = is_angle_kind row.kind

abbrev candidate_angle : Candidate → Bool
candidate_angle row = is_angle_kind row.kind

-- the rows of t and those of the tables without its angle items are the same
module _ (t : Tables) (none : HasNoAbsolute t) where
  -- the other items touch the same, whatever their numbers are
  same_touch : (i j : ℕ) (kind : Kind) (at : ℕ) → is_angle_kind kind ≡ false
      → touched (case_branches t) (touch_of (case_rows t) (case_buses t) i kind at) ≡ touched (case_branches (without_angles t)) (touch_of (case_rows t) (case_buses t) j kind at)
  unfolding case_rows case_components case_component_count case_live case_energised
  same_touch i j kind at plain = plain_touched t none i kind at plain ∙ sym (plain_touched (without_angles t) none j kind at plain)

  of_meters : (rows : List Meter) (i j : ℕ)
      → map (touched (case_branches t)) (kept_by (map meter_angle rows) (meter_touches (case_rows t) (case_buses t) i rows))
      ≡ map (touched (case_branches (without_angles t))) (meter_touches (case_rows t) (case_buses t) j (filter (λ (row : Meter). not (is_angle_kind row.kind)) rows))
  unfolding kept_by
  of_meters [] i j = refl
  of_meters (row ∷ rows) i j =
      elim (cases_Bool (is_angle_kind row.kind)) [
        | inl e ↦ rw e (of_meters rows (suc i) j)
        | inr e ↦
            let here : touched (case_branches t) (meter_touch (case_rows t) (case_buses t) i row) ≡ touched (case_branches (without_angles t)) (meter_touch (case_rows t) (case_buses t) j row) =
            elim (cases_Bool row.inservice) [ inl f ↦ rw f (same_touch i j row.kind row.at e) | inr f ↦ rw f refl ] in
            let rest = of_meters rows (suc i) (suc j) in
            rw e (rw here (ap (λ l. touched (case_branches (without_angles t)) (meter_touch (case_rows t) (case_buses t) j row) ∷ l) rest))
      ]

  of_candidates : (rows : List Candidate) (i j : ℕ)
      → map (touched (case_branches t)) (kept_by (map candidate_angle rows) (candidate_touches (case_rows t) (case_buses t) i rows))
      ≡ map (touched (case_branches (without_angles t))) (candidate_touches (case_rows t) (case_buses t) j (filter (λ (row : Candidate). not (is_angle_kind row.kind)) rows))
  unfolding kept_by
  of_candidates [] i j = refl
  of_candidates (row ∷ rows) i j =
      elim (cases_Bool (is_angle_kind row.kind)) [
        | inl e ↦ rw e (of_candidates rows (suc i) j)
        | inr e ↦
            let here = same_touch i j row.kind row.at e in
            let rest = of_candidates rows (suc i) (suc j) in
            rw e (rw here (ap (λ l. touched (case_branches (without_angles t)) (candidate_touch (case_rows t) (case_buses t) j row) ∷ l) rest))
      ]

  others_are : other_touches_in_order t ≡ map (touched (case_branches t)) (kept_by (angle_flags t) (case_offered t))
  others_are =
      let len = length-case_offered t in
      let flags : length (angle_flags t) ≡ length (case_offered t) = length-angle_flags t ∙ sym len in
      ap (λ n. map (touch_at (case_branches t) (case_offered t)) (filter (λ m. not (is_angle t m)) (range_with_len 0 n))) (sym len)
      ∙ picked (touch_at (case_branches t) (case_offered t)) (touched (case_branches t)) (λ m. not (is_angle t m)) (angle_flags t) (case_offered t) Nothing 0 flags
      (λ k l. let e : 0 + k ≡ k = omega arith in ap (touch_at (case_branches t) (case_offered t)) e)
      (λ k l. let e : 0 + k ≡ k = omega arith in ap (λ m. not (is_angle t m)) e)

all_are : (t : Tables) → touches_in_order t ≡ map (touched (case_branches t)) (case_offered t)
all_are t =
    let len = length-case_offered t in
    ap (λ n. map (touch_at (case_branches t) (case_offered t)) (range_with_len 0 n)) (sym len)
    ∙ ap (map (touch_at (case_branches t) (case_offered t))) (sym (all_pass (length (case_offered t)) 0))
    ∙ picked (touch_at (case_branches t) (case_offered t)) (touched (case_branches t)) (λ m. true) (no_flags (case_offered t)) (case_offered t) Nothing 0 (length-no_flags (case_offered t))
    (λ k l. let e : 0 + k ≡ k = omega arith in ap (touch_at (case_branches t) (case_offered t)) e)
    (λ k l. sym (ap not (no_flag (case_offered t) k)))
    ∙ ap (map (touched (case_branches t))) (all_kept (case_offered t))

-- where no node is absolute the other items touch what they touch in the case without its angle items
pub others_touch : (t : Tables) → HasNoAbsolute t → other_touches_in_order t ≡ touches_in_order (without_angles t)
unfolding case_offered case_rows case_components case_component_count case_live case_energised
others_touch t none =
    let rows = case_rows t in
    let buses = case_buses t in
    let n = length t.meters in
    let u = without_angles t in
    let meters = meter_touches rows buses 0 t.meters in
    let candidates = candidate_touches rows buses n t.candidates in
    let split : kept_by (angle_flags t) (case_offered t) ≡ kept_by (map meter_angle t.meters) meters ++ kept_by (map candidate_angle t.candidates) candidates =
    kept_by-append (map meter_angle t.meters) (map candidate_angle t.candidates) meters candidates (length-map t.meters meter_angle ∙ sym (length-meter_touches rows buses 0 t.meters)) in
    others_are t none
    ∙ ap (map (touched (case_branches t))) split
    ∙ map-append (touched (case_branches t)) (kept_by (map meter_angle t.meters) meters) (kept_by (map candidate_angle t.candidates) candidates)
    ∙ ap (λ l. l ++ map (touched (case_branches t)) (kept_by (map candidate_angle t.candidates) candidates)) (of_meters t none t.meters 0 0)
    ∙ ap (λ l. map (touched (case_branches u)) (meter_touches rows buses 0 u.meters) ++ l) (of_candidates t none t.candidates n (length u.meters))
    ∙ sym (map-append (touched (case_branches u)) (meter_touches rows buses 0 u.meters) (candidate_touches rows buses (length u.meters) u.candidates))
    ∙ sym (all_are u)

-- rows don't depend on items
pub plain_rows : (t : Tables) → case_rows (without_angles t) ≡ case_rows t
unfolding case_rows case_components case_component_count case_live case_energised
plain_rows t = refl
