-- What an outage takes away: where a branch goes out of service no other branch comes, and no meter touches more.
use Rattle.std.proofs.Common.{◌≡◌, ℕ, zero, suc, ◌+◌, ◌<◌, Bool, true, false, Option, Some, None, List, [], ◌∷◌, ◌++◌, length, map, get_or, refl, sym, ap, ◌∙◌, subst, arith, inl, inr}
use Rattle.std.specs.Prelude.{All, IsSome, cond, if◌then◌else◌, ◌==◌, slice_index, slice_index_or, take}
use Rattle.std.specs.List.{list_any}
use Rattle.std.proofs.lemmas.Bool.{cases_Bool, cases_lt, and_from, and_parts, cond-true, cond-false, eq-eqb, eqb-true, or_cases, or_left, or_right, true≢false}
use Rattle.std.proofs.lemmas.List.{get_or_past, length-map}
use Rattle.std.proofs.lemmas.List.Elements.{All-head, All-tail}
use Rattle.std.proofs.lemmas.List.FromFn.{get_or-map-range_with_len}
use Rattle.std.proofs.lemmas.Option.{cond_some}
use Rattle.obs_graph.specs.declared.Ends.{Ends}
use Rattle.obs_graph.specs.Graph.{itself_of}
use Rattle.obs_graph.specs.Positions.{branches_at, has_end, positions_from, present}
use Rattle.obs_graph.proofs.AtVertex.{branches_at-front}
use Rattle.obs_graph.proofs.Chains.{Chain-from_same_first, same_first-from_Chain}
use Rattle.obs_graph.proofs.Forests.{same_first-among}
use Rattle.obs_graph.proofs.Present.{branch_at, contains_present, none_some, present_contains, some_is_in}
use Rattle.obs_case.specs.declared.rows.Branch.{Branch}
use Rattle.obs_case.specs.declared.rows.Candidate.{Candidate}
use Rattle.obs_case.specs.declared.rows.Kind.{Kind}
use Rattle.obs_case.specs.declared.rows.Kind.TheVariants.{Flow, Injection, Zero, Angle}
use Rattle.obs_case.specs.declared.rows.Meter.{Meter}
use Rattle.obs_case.specs.declared.rows.Node.{Node}
use Rattle.obs_case.specs.Flags.{changed_at, with_branch_inservice}
use Rattle.obs_case.specs.Tables.{IsValid, Tables, places}
use Rattle.obs_case.proofs.RowLemmas.{length-changed}
use Rattle.obs_case.proofs.ValidLemmas.{valid-with_branch_inservice}
use Rattle.obs_matroid.specs.Lists.{In}
use Rattle.obs_meter.specs.declared.Touch.{Touch}
use Rattle.obs_meter.specs.declared.Touch.TheVariants.{Nothing}
use Rattle.obs_meter.specs.Touches.{touch_at, touched}
use Rattle.obs_meter.proofs.Touched.{In-from_any, any-from_In, star_touched}
use Rattle.obs_network.specs.Switched.{case_bus_count, case_buses}
use Rattle.obs_network.specs.Live.{live_ends}
use Rattle.obs_network.specs.Components.{if_energised, is_absolute_node, is_marked, is_source}
use Rattle.obs_network.specs.Angles.{angle_branches, has_angle, item_angle, reference_of, takes_angles}
use Rattle.obs_network.specs.Touching.{meter_touch, meter_touches, touch_of}
use Rattle.obs_network.specs.Network.{case_absolute, case_angles, case_branches, case_component_count, case_components, case_energised, case_live, case_meters, case_rows}
use Rattle.obs_network.proofs.Items.{meter_touches-at, some_row}
use Rattle.obs_network.proofs.MergedRows.{with_service}
use Rattle.obs_network.proofs.OfCase.{case_bus-below, case_component-below, case_live-branches, length-case_rows, length-meter_touches}
use Rattle.obs_network.proofs.OfLaws.{one_case_component}

-- a row that is live was live
live_kept : (buses : List ℕ) (rows : List Branch) (at k : ℕ) (x : Ends) → get_or (map (live_ends buses) (with_service false at rows)) k None ≡ Some x → get_or (map (live_ends buses) rows) k None ≡ Some x
unfolding changed_at
live_kept buses [] at k x is = absurd (none_some x is)
live_kept buses (row ∷ rows) zero zero x is = absurd (none_some x is)
live_kept buses (row ∷ rows) zero (suc k) x is = is
live_kept buses (row ∷ rows) (suc at) zero x is = is
live_kept buses (row ∷ rows) (suc at) (suc k) x is = live_kept buses rows at k x is

-- a test that passes at one of some numbers, and another that passes wherever this one does
any_more : (p q : ℕ → Bool) (us : List ℕ) → ((u : ℕ) → In u us → p u ≡ true → q u ≡ true) → list_any p us ≡ true → list_any q us ≡ true
any_more p q [] more any = absurd (true≢false (sym any))
any_more p q (u ∷ us) more any =
    elim (or_cases (p u) (list_any p us) any) [
      | inl here ↦ or_left (q u) (list_any q us) (more u (inl refl) here)
      | inr there ↦ or_right (q u) (list_any q us) (any_more p q us (λ x i. more x (inr i)) there)
    ]

pub marked_low : (flag : Node → Bool) (i : ℕ) (nodes : List Node) (u : ℕ) → In u (positions_from flag i nodes) → u < i + length nodes
marked_low flag i [] u there = absurd there
marked_low flag i (row ∷ nodes) u there =
    let rest : In u (positions_from flag (suc i) nodes) → u < i + length (row ∷ nodes) = λ x. let l = marked_low flag (suc i) nodes u x in omega (arith, l) in
    elim (cases_Bool (flag row)) [
      | inl f ↦ first (subst (λ b. In u (cond b (i ∷ positions_from flag (suc i) nodes) (positions_from flag (suc i) nodes))) f there) rest
      | inr f ↦ rest (subst (λ b. In u (cond b (i ∷ positions_from flag (suc i) nodes) (positions_from flag (suc i) nodes))) f there)
    ]
  where
    first : In u (i ∷ positions_from flag (suc i) nodes) → (In u (positions_from flag (suc i) nodes) → u < i + length (row ∷ nodes)) → u < i + length (row ∷ nodes)
    first (inl same) rest = omega (arith, same)
    first (inr x) rest = rest x

-- a list whose entries go by a map that leaves what is absent
pub at_map : (f : Option Ends → Option Ends) → f None ≡ None → (xs : List (Option Ends)) (k : ℕ) → get_or (map f xs) k None ≡ f (get_or xs k None)
at_map f none [] k = sym none
at_map f none (x ∷ xs) zero = refl
at_map f none (x ∷ xs) (suc k) = at_map f none xs k

-- what is there in one list is there in another
abbrev pub IsMore : List (Option Ends) → List (Option Ends) → Type 0
IsMore xs ys = (k : ℕ) → IsSome (slice_index_or xs k None) → IsSome (slice_index_or ys k None)

more_append : (xs ys us vs : List (Option Ends)) → length xs ≡ length us → IsMore xs us → IsMore ys vs → (k : ℕ) → IsSome (slice_index_or (xs ++ ys) k None) → IsSome (slice_index_or (us ++ vs) k None)
more_append [] ys [] vs e f g k s = g k s
more_append [] ys (u ∷ us) vs e f g k s = absurd (omega (arith, e))
more_append (x ∷ xs) ys [] vs e f g k s = absurd (omega (arith, e))
more_append (x ∷ xs) ys (u ∷ us) vs e f g zero s = f 0 s
more_append (x ∷ xs) ys (u ∷ us) vs e f g (suc k) s = more_append xs ys us vs (omega (arith, e)) (λ i. f (suc i)) g k s

more_map : {X : Type 0} (P : X → Type 0) (f g : X → Option Ends) → ((x : X) → P x → IsSome (f x) → IsSome (g x)) → (xs : List X) → All P xs
    → (k : ℕ) → IsSome (slice_index_or (map f xs) k None) → IsSome (slice_index_or (map g xs) k None)
more_map P f g more [] all k s = s
more_map P f g more (x ∷ xs) all zero s = more x (All-head P x xs all) s
more_map P f g more (x ∷ xs) all (suc k) s = more_map P f g more xs (All-tail P x xs all) k s

itself_more : (o q : Option Ends) (e p : ℕ) → (IsSome o → IsSome q) → In p (itself_of o e) → In p (itself_of q e)
itself_more None q e p more i = absurd i
itself_more (Some x) None e p more i = absurd (true≢false (sym (more refl)))
itself_more (Some x) (Some y) e p more i = i

pub some_of : (o : Option Ends) → IsSome o → (x : Ends) × (o ≡ Some x)
some_of None s = absurd (true≢false (sym s))
some_of (Some x) s = (x, refl)

end_of : (v : ℕ) (o : Option Ends) → has_end v o ≡ true → (x : Ends) × (o ≡ Some x)
end_of v None t = absurd (true≢false (sym t))
end_of v (Some x) t = (x, refl)

-- the marks of a component, by its number
pub energised_at : (t : Tables) (c : ℕ) → c < case_component_count t → slice_index_or (case_energised t) c false ≡ is_marked is_source (case_components t) (case_buses t) t.nodes c
unfolding case_energised
energised_at t c l = get_or-map-range_with_len (is_marked is_source (case_components t) (case_buses t) t.nodes) 0 (case_component_count t) c c false l (omega arith)

pub absolute_at : (t : Tables) (c : ℕ) → c < case_component_count t → slice_index_or (case_absolute t) c false ≡ is_marked is_absolute_node (case_components t) (case_buses t) t.nodes c
unfolding case_absolute
absolute_at t c l = get_or-map-range_with_len (is_marked is_absolute_node (case_components t) (case_buses t) t.nodes) 0 (case_component_count t) c c false l (omega arith)

-- where the components of more buses take angle branches, more of these are present
module _ (t : Tables) (v : IsValid t) (ds cs : List ℕ) (lit lit_more fixed fixed_more : List Bool)
    (takes : (bus : ℕ) → bus < case_bus_count t → takes_angles lit fixed (slice_index ds bus) ≡ true → takes_angles lit_more fixed_more (slice_index cs bus) ≡ true) where
  one_angle : (kind : Kind) (u : ℕ) → u < places t kind → IsSome (item_angle (case_buses t) ds lit fixed kind u) → IsSome (item_angle (case_buses t) cs lit_more fixed_more kind u)
  one_angle Flow u l s = s
  one_angle Injection u l s = s
  one_angle Zero u l s = s
  one_angle Angle u l s =
      let bus = slice_index (case_buses t) u in
      let low = case_bus-below t u l in
      let c = slice_index cs bus in
      let d = slice_index ds bus in
      let now : Ends = record { a = bus; b = reference_of ds d } in
      let was : Ends = record { a = bus; b = reference_of cs c } in
      elim (cases_Bool (takes_angles lit fixed d)) [
        | inl e ↦ subst IsSome (sym (cond-true (takes_angles lit_more fixed_more c) (Some was) None (takes bus low e))) refl
        | inr e ↦ absurd (true≢false (sym (subst IsSome (cond-false (takes_angles lit fixed d) (Some now) None e) s)))
      ]

  pub more_angles : IsMore (if has_angle t then angle_branches (case_buses t) ds lit fixed t.meters t.candidates else [])
      (if has_angle t then angle_branches (case_buses t) cs lit_more fixed_more t.meters t.candidates else [])
  more_angles =
      let now : Kind → ℕ → Option Ends = item_angle (case_buses t) ds lit fixed in
      let was : Kind → ℕ → Option Ends = item_angle (case_buses t) cs lit_more fixed_more in
      elim (cases_Bool (has_angle t)) [
        | inl e ↦ rw e (more_append (map (λ (row : Meter). now row.kind row.at) t.meters) (map (λ (row : Candidate). now row.kind row.at) t.candidates)
            (map (λ (row : Meter). was row.kind row.at) t.meters) (map (λ (row : Candidate). was row.kind row.at) t.candidates)
            (length-map t.meters (λ (row : Meter). now row.kind row.at) ∙ sym (length-map t.meters (λ (row : Meter). was row.kind row.at)))
            (more_map (λ (row : Meter). row.at < places t row.kind) (λ (row : Meter). now row.kind row.at) (λ (row : Meter). was row.kind row.at) (λ row l. one_angle row.kind row.at l) t.meters v.meter_places)
            (more_map (λ (row : Candidate). row.at < places t row.kind) (λ (row : Candidate). now row.kind row.at) (λ (row : Candidate). was row.kind row.at) (λ row l. one_angle row.kind row.at l) t.candidates v.candidate_places))
        | inr e ↦ rw e (λ k s. s)
      ]

module _ (t : Tables) (v : IsValid t) (at : ℕ) where
  abbrev out : Tables
  out = with_branch_inservice t at false

  out_valid : IsValid out
  out_valid = valid-with_branch_inservice t v at false

  live_before : (k : ℕ) (x : Ends) → get_or (case_live out) k None ≡ Some x → get_or (case_live t) k None ≡ Some x
  unfolding case_live
  live_before k x is = live_kept (case_buses t) t.branches at k x is

  -- buses of one component were of one component before
  one_before : (b c : ℕ) → b < case_bus_count t → c < case_bus_count t → slice_index (case_components out) b ≡ slice_index (case_components out) c
      → slice_index (case_components t) b ≡ slice_index (case_components t) c
  one_before b c lb lc same =
      let firsts = same_first-from_Chain (present (case_live out)) ((one_case_component out b c lb lc).0 same) in
      (one_case_component t b c lb lc).1
      (Chain-from_same_first (present (case_live t)) b c
      (same_first-among (present (case_live out)) (present (case_live t)) (λ d has.
      let there = present_contains (case_live out) d has in
      contains_present (case_live t) there.0 d (live_before there.0 d there.1)) b c firsts))

  -- a component whose nodes are marked was marked before
  marked_before : (flag : Node → Bool) (b : ℕ) → b < case_bus_count t → is_marked flag (case_components out) (case_buses t) t.nodes (slice_index (case_components out) b) ≡ true
      → is_marked flag (case_components t) (case_buses t) t.nodes (slice_index (case_components t) b) ≡ true
  marked_before flag b l any =
      let buses = case_buses t in
      any_more (λ u. slice_index (case_components out) (slice_index buses u) == slice_index (case_components out) b)
      (λ u. slice_index (case_components t) (slice_index buses u) == slice_index (case_components t) b)
      (positions_from flag 0 t.nodes)
      (λ u i e.
      let low : u < length t.nodes = let m = marked_low flag 0 t.nodes u i in omega (arith, m) in
      eq-eqb (slice_index (case_components t) (slice_index buses u)) (slice_index (case_components t) b)
      (one_before (slice_index buses u) b (case_bus-below t u low) l
      (eqb-true (slice_index (case_components out) (slice_index buses u)) (slice_index (case_components out) b) e)))
      any

  pub energised_before : (b : ℕ) → b < case_bus_count t → slice_index_or (case_energised out) (slice_index (case_components out) b) false ≡ true
      → slice_index_or (case_energised t) (slice_index (case_components t) b) false ≡ true
  energised_before b l e =
      energised_at t (slice_index (case_components t) b) (case_component-below t b l)
      ∙ marked_before is_source b l (sym (energised_at out (slice_index (case_components out) b) (case_component-below out b l)) ∙ e)

  pub absolute_before : (b : ℕ) → b < case_bus_count t → slice_index_or (case_absolute out) (slice_index (case_components out) b) false ≡ true
      → slice_index_or (case_absolute t) (slice_index (case_components t) b) false ≡ true
  absolute_before b l e =
      absolute_at t (slice_index (case_components t) b) (case_component-below t b l)
      ∙ marked_before is_absolute_node b l (sym (absolute_at out (slice_index (case_components out) b) (case_component-below out b l)) ∙ e)

  -- a row that is present was present
  row_of : (k : ℕ) (o : Option Ends) → get_or (case_live out) k None ≡ o → (x : Ends) → if_energised (case_components out) (case_energised out) o ≡ Some x → get_or (case_rows t) k None ≡ Some x
  unfolding case_rows
  row_of k None there x is = absurd (none_some x is)
  row_of k (Some y) there x is =
      let energised = cond_some (slice_index_or (case_energised out) (slice_index (case_components out) y.a) false) y x is in
      let was = live_before k y there in
      let low = branch_at (case_bus_count t) (case_live t) k y (case_live-branches t v) (some_is_in (case_live t) k y was) was in
      at_map (if_energised (case_components t) (case_energised t)) refl (case_live t) k
      ∙ ap (if_energised (case_components t) (case_energised t)) was
      ∙ cond-true (slice_index_or (case_energised t) (slice_index (case_components t) y.a) false) (Some y) None (energised_before y.a low.0 energised.0)
      ∙ ap Some energised.1

  pub row_before : (k : ℕ) (x : Ends) → get_or (case_rows out) k None ≡ Some x → get_or (case_rows t) k None ≡ Some x
  unfolding case_rows
  row_before k x is = row_of k (get_or (case_live out) k None) refl x (sym (at_map (if_energised (case_components out) (case_energised out)) refl (case_live out) k) ∙ is)

  rows_more : IsMore (case_rows out) (case_rows t)
  rows_more k s =
      let x = some_of (get_or (case_rows out) k None) s in
      subst IsSome (sym (row_before k x.0 x.1)) refl

  pub same_rows : length (case_rows out) ≡ length (case_rows t)
  same_rows = length-case_rows out ∙ length-changed (λ (row : Branch). record row { inservice = false }) t.branches at ∙ sym (length-case_rows t)

  angles_more : IsMore (case_angles out) (case_angles t)
  unfolding case_angles
  angles_more =
      more_angles t v (case_components out) (case_components t) (case_energised out) (case_energised t) (case_absolute out) (case_absolute t) (λ bus low e.
      let c = slice_index (case_components t) bus in
      let d = slice_index (case_components out) bus in
      let p = and_parts (slice_index_or (case_energised out) d false) (slice_index_or (case_absolute out) d false) e in
      and_from (slice_index_or (case_energised t) c false) (slice_index_or (case_absolute t) c false) (energised_before bus low p.0) (absolute_before bus low p.1))

  -- a branch that is present was present
  pub present_before : (e : ℕ) → IsSome (slice_index_or (case_branches out) e None) → IsSome (slice_index_or (case_branches t) e None)
  unfolding case_branches
  present_before = more_append (case_rows out) (case_angles out) (case_rows t) (case_angles t) same_rows rows_more angles_more

  edge_before : (k p : ℕ) → In p (itself_of (slice_index_or (case_branches out) k None) k) → In p (itself_of (slice_index_or (case_branches t) k None) k)
  edge_before k p i = itself_more (slice_index_or (case_branches out) k None) (slice_index_or (case_branches t) k None) k p (present_before k) i

  front_before : (bus p : ℕ) → In p (take (length (branches_at (case_rows out) bus)) (branches_at (case_branches out) bus)) → In p (take (length (branches_at (case_rows t) bus)) (branches_at (case_branches t) bus))
  unfolding case_branches
  front_before bus p i =
      let here : In p (branches_at (case_rows out) bus) = subst (λ (l : List ℕ). In p l) (branches_at-front (case_rows out) (case_angles out) bus) i in
      let ends : has_end bus (get_or (case_rows out) p None) ≡ true = star_touched (case_rows out) bus p ∙ any-from_In (branches_at (case_rows out) bus) p here in
      let x = end_of bus (get_or (case_rows out) p None) ends in
      let was : has_end bus (get_or (case_rows t) p None) ≡ true = ap (has_end bus) (row_before p x.0 x.1) ∙ sym (ap (has_end bus) x.1) ∙ ends in
      subst (λ (l : List ℕ). In p l) (sym (branches_at-front (case_rows t) (case_angles t) bus)) (In-from_any (branches_at (case_rows t) bus) p (sym (star_touched (case_rows t) bus p) ∙ was))

  kind_before : (m : ℕ) (kind : Kind) (u p : ℕ) → In p (touched (case_branches out) (touch_of (case_rows out) (case_buses t) m kind u)) → In p (touched (case_branches t) (touch_of (case_rows t) (case_buses t) m kind u))
  kind_before m Flow u p i = edge_before u p i
  kind_before m Injection u p i = front_before (slice_index (case_buses t) u) p i
  kind_before m Zero u p i = front_before (slice_index (case_buses t) u) p i
  kind_before m Angle u p i =
      subst (λ n. In p (itself_of (slice_index_or (case_branches t) (n + m) None) (n + m))) same_rows (edge_before (length (case_rows out) + m) p i)

  meter_before : (m : ℕ) (row : Meter) (p : ℕ) → In p (touched (case_branches out) (meter_touch (case_rows out) (case_buses t) m row)) → In p (touched (case_branches t) (meter_touch (case_rows t) (case_buses t) m row))
  meter_before m row p i =
      let now = touch_of (case_rows out) (case_buses t) m row.kind row.at in
      let was = touch_of (case_rows t) (case_buses t) m row.kind row.at in
      elim (cases_Bool row.inservice) [
        | inl e ↦ subst (λ (x : Touch). In p (touched (case_branches t) x)) (sym (cond-true row.inservice was Nothing e))
            (kind_before m row.kind row.at p (subst (λ (x : Touch). In p (touched (case_branches out) x)) (cond-true row.inservice now Nothing e) i))
        | inr e ↦ absurd (subst (λ (x : Touch). In p (touched (case_branches out) x)) (cond-false row.inservice now Nothing e) i)
      ]

  -- what a meter touches it touched
  pub touched_before : (m p : ℕ) → In p (touch_at (case_branches out) (case_meters out) m) → In p (touch_at (case_branches t) (case_meters t) m)
  unfolding case_meters
  touched_before m p i =
      let now = meter_touches-at (case_rows out) (case_buses t) 0 t.meters m in
      let was = meter_touches-at (case_rows t) (case_buses t) 0 t.meters m in
      elim (cases_lt m (length t.meters)) [
        | inl l ↦
            let d = some_row t.meters m l in
            subst (λ (x : Touch). In p (touched (case_branches t) x)) (sym (was d l))
            (meter_before (0 + m) (get_or t.meters m d) p (subst (λ (x : Touch). In p (touched (case_branches out) x)) (now d l) i))
        | inr past ↦
            let none = get_or_past (meter_touches (case_rows out) (case_buses t) 0 t.meters) m Nothing (omega (arith, past, length-meter_touches (case_rows out) (case_buses t) 0 t.meters)) in
            absurd (subst (λ (x : Touch). In p (touched (case_branches out) x)) none i)
      ]
