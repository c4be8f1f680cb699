-- How many pairs the outage of a row takes that parts a component which isn't absolute: no more than it takes from the needed number.
use Rattle.std.proofs.Common.{◌≡◌, ◌≢◌, ℕ, suc, ◌+◌, ◌-◌, ◌<◌, ◌≤◌, Bool, true, false, not, eqb, ◌⊎◌, inl, inr, Option, Some, None, List, [], ◌∷◌, length, filter, get_or, refl, sym, ap, ◌∙◌, subst, arith}
use Rattle.std.specs.Prelude.{IsSome, slice_index, slice_index_or, is_some}
use Rattle.std.specs.List.{range_with_len}
use Rattle.std.proofs.lemmas.Bool.{and_from, and_parts, cases_Bool, cases_eq, cases_lt, cond-true, eq-eqb, eqb-true}
use Rattle.std.proofs.lemmas.List.{get_or-append_right}
use Rattle.obs_graph.specs.declared.Ends.{Ends}
use Rattle.obs_graph.specs.Joined.{first_joined}
use Rattle.obs_graph.proofs.Chains.{Chain-from_same_first, first_joined-contains}
use Rattle.obs_graph.proofs.Present.{branch_at, contains_present, some_is_in, some_one}
use Rattle.obs_case.specs.declared.rows.Branch.{Branch}
use Rattle.obs_case.specs.Tables.{IsValid, Tables}
use Rattle.obs_case.proofs.RowLemmas.{length-changed}
use Rattle.obs_case.proofs.ValidLemmas.{valid-with_branch_inservice}
use Rattle.obs_matroid.specs.Lists.{In, IsDistinct}
use Rattle.obs_matroid.specs.Assignments.{Pair, branches}
use Rattle.obs_matroid.proofs.Bounds.{length-branches}
use Rattle.obs_matroid.specs.Matroid.{IsIndependent}
use Rattle.obs_matroid.proofs.Contained.{All-from_In}
use Rattle.obs_matroid.proofs.Lists.{In-filter, In-filter_from, IsDistinct-filter, length-split}
use Rattle.obs_matroid.proofs.Order.{independent_within}
use Rattle.obs_matroid.proofs.Pairs.{In-branches_from, IsDistinct-filter_items}
use Rattle.obs_matroid.proofs.Pieces.{firsts}
use Rattle.obs_matroid.proofs.Ranges.{below_in, range_distinct}
use Rattle.obs_meter.specs.declared.Touch.TheVariants.{Nothing}
use Rattle.obs_meter.specs.Assignments.{IsAssignmentAt}
use Rattle.obs_meter.specs.Spanned.{both_ends, ends_at, graph_matroid, joined_at, rank_at}
use Rattle.obs_meter.specs.Touches.{every_item, touch_at}
use Rattle.obs_meter.proofs.Assigned.{every-to_live, forest_at-from_independent, live-to_every, live_items-distinct, rho_at-is, to_matroid}
use Rattle.obs_meter.proofs.Instance.{IsJoining-graph, IsMatroid-graph}
use Rattle.obs_meter.proofs.Touched.{touched-present}
use Rattle.obs_network.specs.Switched.{case_bus_count}
use Rattle.obs_network.specs.Components.{if_energised}
use Rattle.obs_network.specs.Angles.{takes_angles}
use Rattle.obs_network.specs.Network.{case_absolute, case_angles, case_branches, case_components, case_energised, case_live, case_meters, case_needed, case_rows, case_vertex_count}
use Rattle.obs_network.specs.Observable.{IsObservableCase, IsRankOf, case_live_meters, case_rank}
use Rattle.obs_network.specs.Parted.{outage_case}
use Rattle.obs_network.specs.inner.Parted.{IsParted}
use Rattle.obs_network.proofs.Bridged.{OnSide, fed_along, fed_lit, fixed_same, lit_after, lit_fed, side_loose}
use Rattle.obs_network.proofs.InComponents.{get_or-energised, live_ends-same, row_is_live}
use Rattle.obs_network.proofs.KeptForests.{forest_with_branch}
use Rattle.obs_network.proofs.Marked.{length-passing}
use Rattle.obs_network.proofs.NeededCount.{is_fixed, is_lit, live_ends_of}
use Rattle.obs_network.proofs.OfCase.{case_branches-are, length-case_meters, length-case_rows}
use Rattle.obs_network.proofs.Observed.{most_pairs, observed_by_rho, some_long}
use Rattle.obs_network.proofs.Outed.{more_angles, same_rows, some_of}
use Rattle.obs_network.proofs.PartedNeeds.{Fed, Found, apart, both_live, by_ends, ends_apart, fed_one, fed_other, listed_dead, loose, low, one_fed, other_dead, other_fed, row_at, size_by_sides, some_fed}
use Rattle.obs_network.proofs.SideLists.{chain_low, in_side, side_in}
use Rattle.obs_network.proofs.Spared.{live_elsewhere}
use Rattle.obs_network.proofs.StillTouched.{touched_still}

pub rank_is : (t : Tables) → IsValid t → IsRankOf t (case_rank t)
unfolding case_rank
rank_is t v = rho_at-is (case_vertex_count t) (case_branches t) (case_meters t) (case_live_meters t) (case_branches-are t v) (live_items-distinct (case_branches t) (case_meters t))

module _ (t : Tables) (v : IsValid t) (e c : ℕ) (side : List ℕ) (p : IsParted t e c side) (f : Found t e c side) where
  abbrev out : Tables
  out = outage_case t e

  abbrev n : ℕ
  n = case_bus_count t

  abbrev es : List Ends
  es = live_ends_of out

  abbrev x : Ends
  x = f.ends

  abbrev pub On : ℕ → Type 0
  On u = OnSide t v e x f.row (loose t v e c side p f) (apart t v e c side p f) u

  takes : (b : ℕ) → b < n → takes_angles (case_energised t) (case_absolute t) (slice_index (case_components t) b) ≡ true
      → takes_angles (case_energised out) (case_absolute out) (slice_index (case_components out) b) ≡ true
  takes b l is =
      let q = and_parts (is_lit t b) (is_fixed t b) is in
      let fixed : is_fixed out b ≡ true = sym (fixed_same t v e x f.row (loose t v e c side p f) (apart t v e c side p f) b l) ∙ q.1 in
      elim (lit_after t v e x f.row (loose t v e c side p f) (apart t v e c side p f) b l q.0) [
        | inl lit ↦ and_from (is_lit out b) (is_fixed out b) lit fixed
        | inr on ↦ absurd (cc (sym q.1 ∙ side_loose t v e x f.row (loose t v e c side p f) (apart t v e c side p f) b l on))
      ]

  -- an angle branch stays present
  angle_stays : (k : ℕ) → IsSome (slice_index_or (case_angles t) k None) → IsSome (slice_index_or (case_angles out) k None)
  unfolding case_angles
  angle_stays = more_angles t v (case_components t) (case_components out) (case_energised t) (case_energised out) (case_absolute t) (case_absolute out) takes

  behind : (k : ℕ) → length (case_rows t) ≤ k → IsSome (slice_index_or (case_branches t) k None) → IsSome (slice_index_or (case_branches out) k None)
  unfolding case_branches
  behind k past s =
      let was : IsSome (slice_index_or (case_angles t) (k - length (case_rows t)) None) =
      subst IsSome (get_or-append_right (case_rows t) (case_angles t) (length (case_rows t)) k None refl past) s in
      subst IsSome (sym (get_or-append_right (case_rows out) (case_angles out) (length (case_rows t)) k None (same_rows t v e) past)) (angle_stays (k - length (case_rows t)) was)

  -- a branch that goes is the row, or its ends are joined on a side that is no longer energised
  abbrev pub Goes : ℕ → Ends → Type 0
  Goes k y = ((k ≡ e) × (y ≡ x)) ⊎ ((y.a < n) × On y.a × (is_lit out y.a ≡ false) × (first_joined es y.a ≡ first_joined es y.b))

  pub goes : (k : ℕ) (y : Ends) → get_or (case_branches t) k None ≡ Some y → (IsSome (slice_index_or (case_branches out) k None) → ⊥) → Goes k y
  goes k y is gone =
      elim (cases_lt k (length t.branches)) [
        | inr past ↦ absurd (gone (behind k (omega (arith, past, length-case_rows t)) (subst IsSome (sym is) refl)))
        | inl few ↦
            let row : get_or (case_rows t) k None ≡ Some y = sym (row_at t k few) ∙ is in
            elim (cases_eq k e) [
              | inl same ↦ inl (same, some_one y x (sym row ∙ ap (λ i. get_or (case_rows t) i None) same ∙ f.row))
              | inr ne ↦
                  let was = row_is_live t k y row in
                  let live : get_or (case_live out) k None ≡ Some y = live_elsewhere t e k ne ∙ was.0 in
                  let same = first_joined-contains es y (contains_present (case_live out) k y live) in
                  let ends = live_ends-same t v k y was.0 in
                  let dark : is_lit out y.a ≡ false = elim (cases_Bool (is_lit out y.a)) [
                    | inr off ↦ off
                    | inl lit ↦
                        let there : get_or (case_rows out) k None ≡ Some y =
                        get_or-energised out k ∙ ap (if_energised (case_components out) (case_energised out)) live ∙ cond-true (is_lit out y.a) (Some y) None lit in
                        absurd (gone (subst IsSome (sym (row_at out k (omega (arith, few, as_many)) ∙ there)) refl))
                  ] in
                  let on : On y.a = elim (lit_after t v e x f.row (loose t v e c side p f) (apart t v e c side p f) y.a ends.0 was.1) [
                    | inl lit ↦ absurd (cc (sym lit ∙ dark))
                    | inr on ↦ on
                  ] in
                  inr (ends.0, on, dark, same)
            ]
      ]
    where
      as_many : length out.branches ≡ length t.branches
      as_many = length-changed (λ (row : Branch). record row { inservice = false }) t.branches e

  -- the pairs whose branch stays, and those whose branch goes
  abbrev pub stays : Pair → Bool
  stays q = is_some (slice_index_or (case_branches out) q.1 None)

  abbrev pub leaves : Pair → Bool
  leaves q = not (stays q)

  leaves_not : (q : Pair) → leaves q ≡ true → IsSome (slice_index_or (case_branches out) q.1 None) → ⊥
  leaves_not q l s = cc (sym l ∙ ap not s)

  module _ (A : List Pair) (a : IsAssignmentAt (case_branches t) (case_meters t) (every_item (case_meters t)) A) where
    abbrev ends : List (Option Ends)
    ends = case_branches t

    abbrev size : ℕ
    size = case_vertex_count t

    free : (keep : Pair → Bool) → IsIndependent (graph_matroid size ends) (branches (filter keep A))
    free keep =
        let b = to_matroid size ends (case_meters t) (every_item (case_meters t)) A a in
        independent_within (graph_matroid size ends) (IsMatroid-graph size ends (case_branches-are t v)) A (filter keep A) b.independent a.different
        (IsDistinct-filter_items keep A a.different) (λ q i. (In-filter_from keep q A i).0)

    -- those that go are fewer than the vertices at which their branches end
    pub few_leave : (W : List ℕ) → IsDistinct W → (w : ℕ) → In w W → ((k : ℕ) (y : Ends) → Goes k y → In y.a W × In y.b W) → suc (length (filter leaves A)) ≤ length W
    few_leave W different w i all =
        let lost = filter leaves A in
        let inside : (k : ℕ) → In k (branches lost) → In (ends_at ends k).0 W × In (ends_at ends k).1 W =
        λ k j.
        let q = In-branches_from lost k j in
        let u = In-filter_from leaves q.0 A q.1 in
        let y = some_of (get_or ends q.0.1 None) (touched-present ends (slice_index_or (case_meters t) q.0.0 Nothing) q.0.1 (a.touched q.0 u.0)) in
        let at : ends_at ends k ≡ (y.0.a, y.0.b) = ap (ends_at ends) q.2 ∙ ap both_ends y.1 in
        let h = all q.0.1 y.0 (goes q.0.1 y.0 y.1 (leaves_not q.0 u.1)) in
        subst (λ (z : ℕ × ℕ). In z.0 W × In z.1 W) (sym at) h in
        let found = firsts (ends_at ends) (joined_at ends) (rank_at size ends) (IsJoining-graph ends) W different (branches lost) (free leaves) inside in
        let r = found.1.covers w i in
        let some = some_long found.0 r.0 r.1 in
        omega (arith, found.1.count, some, length-branches lost)

    -- those that stay are an assignment of the outage case
    pub stay_assigned : IsAssignmentAt (case_branches out) (case_meters out) (every_item (case_meters out)) (filter stays A)
    stay_assigned =
        let kept = filter stays A in
        let from : (q : Pair) → In q kept → In q A × (stays q ≡ true) = λ q i. In-filter_from stays q A i in
        let as_many : length (case_meters out) ≡ length (case_meters t) = length-case_meters out ∙ sym (length-case_meters t) in
        record {
          of_items = λ q i. subst (λ k. In q.0 (range_with_len 0 k)) (sym as_many) (a.of_items q (from q i).0);
          touched = λ q i. let u = from q i in touched_still t v e q.0 q.1 (a.touched q u.0) u.1;
          different = IsDistinct-filter_items stays A a.different;
          forest = forest_with_branch t v e false (branches kept) (forest_at-from_independent size ends (branches kept) (free stays))
              (All-from_In (λ k. IsSome (slice_index_or (case_branches out) k None)) (branches kept)
              (λ k i. let q = In-branches_from kept k i in subst (λ (z : ℕ). IsSome (slice_index_or (case_branches out) z None)) (sym q.2) (from q.0 q.1).1));
        }

  out_valid : IsValid out
  out_valid = valid-with_branch_inservice t v e false

  -- so the rank falls by no more than go
  falls_by : (d : ℕ) → ((A : List Pair) → IsAssignmentAt (case_branches t) (case_meters t) (every_item (case_meters t)) A → length (filter leaves A) ≤ d) → case_rank t ≤ case_rank out + d
  falls_by d few =
      let r = rank_is t v in
      let s = rank_is out out_valid in
      let a = live-to_every (case_branches t) (case_meters t) r.longest r.assigns in
      let most = s.none_longer (filter stays r.longest) (every-to_live (case_branches out) (case_meters out) (filter stays r.longest) (stay_assigned r.longest a)) in
      let all = length-split stays r.longest in
      let lost = few r.longest a in
      let long = r.long in
      omega (arith, most, all, lost, long)

  abbrev pub Live : ℕ → Type 0
  Live u = Fed t v e c side p f u

  -- what a source is joined with doesn't go
  dark_apart : (l : ℕ) → Live l → (y : Ends) → y.a < n → is_lit out y.a ≡ false → first_joined es l ≡ first_joined es y.a → ⊥
  dark_apart l live y low_y dark same =
      let r = f.row in
      cc (sym dark ∙ fed_lit t v e x r (loose t v e c side p f) (apart t v e c side p f) y.a low_y (fed_along t v e x r (loose t v e c side p f) (apart t v e c side p f) l y.a same live))

  ends_are : (W : List ℕ) → In f.one W → In f.other W → In x.a W × In x.b W
  ends_are W i j = elim f.leads [
    | inl l ↦ (subst (λ z. In z W) (sym l.0) i, subst (λ z. In z W) (sym l.1) j)
    | inr l ↦ (subst (λ z. In z W) (sym l.1) j, subst (λ z. In z W) (sym l.0) i)
  ]

  pub both_fall : Live f.one → Live f.other → case_rank t ≤ case_rank out + 1
  both_fall one other = falls_by 1 (λ A a.
      let W : List ℕ = f.one ∷ f.other ∷ [] in
      let few = few_leave A a W ((λ i. elim i [ inl same ↦ ends_apart t v e c side p f (ap (first_joined es) same) | inr none ↦ none ]), ((λ none. none), tt)) f.one (inl refl) (λ k y g. elim g [
        | inl is ↦ subst (λ (z : Ends). In z.a W × In z.b W) (sym is.1) (ends_are W (inl refl) (inr (inl refl)))
        | inr far ↦ absurd (elim (by_ends t v e c side p f y.a far.1) [
          | inl same ↦ dark_apart f.one one y far.0 far.2 same
          | inr same ↦ dark_apart f.other other y far.0 far.2 same
        ])
      ]) in
      omega (arith, few))

  -- where one side goes whole, no more go than it has buses
  side_falls : (l d : ℕ) → Live l → (D : List ℕ) → IsDistinct D → ((u : ℕ) → first_joined es d ≡ first_joined es u → In u D) → ((u : ℕ) → In u D → first_joined es d ≡ first_joined es u)
      → (first_joined es l ≡ first_joined es d → ⊥)
      → ((u : ℕ) → On u → (first_joined es l ≡ first_joined es u) ⊎ (first_joined es d ≡ first_joined es u)) → ((W : List ℕ) → In l W → In d W → In x.a W × In x.b W)
      → case_rank t ≤ case_rank out + length D
  side_falls l d live D different to from parted on ends = falls_by (length D) (λ A a.
      let W : List ℕ = l ∷ D in
      let few = few_leave A a W ((λ i. parted (sym (from l i))), different) l (inl refl) (λ k y g. elim g [
        | inl is ↦ subst (λ (z : Ends). In z.a W × In z.b W) (sym is.1) (ends W (inl refl) (inr (to d refl)))
        | inr far ↦ elim (on y.a far.1) [
          | inl same ↦ absurd (dark_apart l live y far.0 far.2 same)
          | inr same ↦ (inr (to y.a same), inr (to y.b (same ∙ far.3)))
        ]
      ]) in
      omega (arith, few))

  lit_live : (u : ℕ) → u < n → is_lit out u ≡ true → Live u
  lit_live u l = lit_fed t v e x f.row (loose t v e c side p f) (apart t v e c side p f) u l

  dark_dead : (u : ℕ) → u < n → is_lit out u ≡ false → Live u → ⊥
  dark_dead u l dark live = cc (sym dark ∙ fed_lit t v e x f.row (loose t v e c side p f) (apart t v e c side p f) u l live)

  ends_low : (f.one < n) × (f.other < n)
  ends_low =
      let l = low t v e c side p f in
      elim f.leads [
        | inl s ↦ (subst (λ z. z < n) s.0 l.0, subst (λ z. z < n) s.1 l.1)
        | inr s ↦ (subst (λ z. z < n) s.0 l.1, subst (λ z. z < n) s.1 l.0)
      ]

  listed_falls : (Live f.one → ⊥) → case_rank t + case_needed out ≤ case_rank out + case_needed t
  listed_falls none =
      let live : Live f.other = elim (some_fed t v e c side p f) [ inl a ↦ absurd (none a) | inr b ↦ b ] in
      let needs = listed_dead t v e c side p f (λ s. none (fed_one t v e c side p f s)) in
      let r = side_falls f.other f.one live side f.of.different (side_in t v e x f.row f.one f.other f.leads side f.of) (in_side t v e x f.row f.one f.other f.leads side f.of)
      (λ same. ends_apart t v e c side p f (sym same)) (λ u on. elim (by_ends t v e c side p f u on) [ inl h ↦ inr h | inr h ↦ inl h ]) (λ W i j. ends_are W j i) in
      omega (arith, needs, r)

  abbrev other_test : ℕ → Bool
  other_test u = eqb (first_joined es f.other) (first_joined es u)

  other_low : (u : ℕ) → first_joined es f.other ≡ first_joined es u → u < n
  other_low u same = chain_low t v e x f.row (Chain-from_same_first es f.other u same) ends_low.1

  other_falls : (Live f.other → ⊥) → case_rank t + case_needed out ≤ case_rank out + case_needed t
  other_falls none =
      let live : Live f.one = elim (some_fed t v e c side p f) [ inl a ↦ a | inr b ↦ absurd (none b) ] in
      let needs = other_dead t v e c side p f (λ s. none (fed_other t v e c side p f s)) in
      let test : ℕ → Bool = other_test in
      let D = filter test (range_with_len 0 n) in
      let size = size_by_sides t v e c side p f in
      let r = side_falls f.one f.other live D (IsDistinct-filter test (range_with_len 0 n) (range_distinct 0 n))
      (λ u same. In-filter test u (range_with_len 0 n) (below_in n u (other_low u same)) (eq-eqb (first_joined es f.other) (first_joined es u) same))
      (λ u i. eqb-true (first_joined es f.other) (first_joined es u) (In-filter_from test u (range_with_len 0 n) i).1)
      (ends_apart t v e c side p f) (by_ends t v e c side p f) ends_are in
      omega (arith, needs, size, length-passing test n, r)

  -- the rank falls by no more than the needed number
  pub no_shorter : case_rank t + case_needed out ≤ case_rank out + case_needed t
  no_shorter =
      elim (cases_Bool (is_lit out f.one)) [
        | inr dark ↦ listed_falls (dark_dead f.one ends_low.0 dark)
        | inl one ↦ elim (cases_Bool (is_lit out f.other)) [
          | inr dark ↦ other_falls (dark_dead f.other ends_low.1 dark)
          | inl other ↦
              let a = lit_live f.one ends_low.0 one in
              let b = lit_live f.other ends_low.1 other in
              omega (arith, both_fall a b, both_live t v e c side p f (one_fed t v e c side p f a) (other_fed t v e c side p f b))
        ]
      ]

  -- so an observable case stays one
  pub stays_observable : IsObservableCase t → IsObservableCase out
  unfolding case_rank
  stays_observable o =
      let full = (observed_by_rho t v).0 o in
      let r = rank_is out out_valid in
      let most = most_pairs out out_valid (case_meters out) (case_live_meters out) r.longest r.assigns in
      let long = r.long in
      (observed_by_rho out out_valid).1 (omega (arith, full, most, long, no_shorter))

  -- a branch that goes beside the row has both ends on a side that goes
  far_dead : (l d : ℕ) → Live l → ((u : ℕ) → On u → (first_joined es l ≡ first_joined es u) ⊎ (first_joined es d ≡ first_joined es u)) → (k : ℕ) (y : Ends) → (k ≡ e → ⊥) → Goes k y
      → (first_joined es d ≡ first_joined es y.a) × (first_joined es d ≡ first_joined es y.b)
  far_dead l d live on k y ne (inl is) = absurd (ne is.0)
  far_dead l d live on k y ne (inr far) = elim (on y.a far.1) [
    | inl same ↦ absurd (dark_apart l live y far.0 far.2 same)
    | inr same ↦ (same, same ∙ far.3)
  ]

  one_in : (D : List ℕ) → length D ≡ 1 → (a b : ℕ) → In a D → In b D → a ≡ b
  one_in [] one a b i j = absurd i
  one_in (z ∷ []) one a b i j = elim i [ inl p ↦ elim j [ inl q ↦ p ∙ sym q | inr q ↦ absurd q ] | inr p ↦ absurd p ]
  one_in (z ∷ w ∷ D) one a b i j = absurd (omega (arith, one))

  -- where the needed number falls by one, no branch goes beside the row
  none_beside : case_needed out + 1 ≡ case_needed t → (k : ℕ) (y : Ends) → get_or (case_branches t) k None ≡ Some y → (k ≡ e → ⊥) → Goes k y → ⊥
  none_beside falls k y is ne g =
      let branch = branch_at (case_vertex_count t) (case_branches t) k y (case_branches-are t v) (some_is_in (case_branches t) k y is) is in
      elim (cases_Bool (is_lit out f.one)) [
        | inr dark ↦
            let none = dark_dead f.one ends_low.0 dark in
            let live : Live f.other = elim (some_fed t v e c side p f) [ inl a ↦ absurd (none a) | inr b ↦ b ] in
            let needs = listed_dead t v e c side p f (λ s. none (fed_one t v e c side p f s)) in
            let ends = far_dead f.other f.one live (λ u on. elim (by_ends t v e c side p f u on) [ inl h ↦ inr h | inr h ↦ inl h ]) k y ne g in
            let to = side_in t v e x f.row f.one f.other f.leads side f.of in
            branch.2 (one_in side (omega (arith, needs, falls)) y.a y.b (to y.a ends.0) (to y.b ends.1))
        | inl one ↦ elim (cases_Bool (is_lit out f.other)) [
          | inr dark ↦
              let none = dark_dead f.other ends_low.1 dark in
              let needs = other_dead t v e c side p f (λ s. none (fed_other t v e c side p f s)) in
              let ends = far_dead f.one f.other (lit_live f.one ends_low.0 one) (by_ends t v e c side p f) k y ne g in
              let D = filter other_test (range_with_len 0 n) in
              let to : (u : ℕ) → first_joined es f.other ≡ first_joined es u → In u D = λ u same. In-filter other_test u (range_with_len 0 n) (below_in n u (other_low u same)) (eq-eqb (first_joined es f.other) (first_joined es u) same) in
              branch.2 (one_in D (omega (arith, needs, falls, size_by_sides t v e c side p f, length-passing other_test n)) y.a y.b (to y.a ends.0) (to y.b ends.1))
          | inl other ↦
              let ends = far_dead f.one f.other (lit_live f.one ends_low.0 one) (by_ends t v e c side p f) k y ne g in
              elim g [
                | inl is ↦ ne is.0
                | inr far ↦ dark_apart f.other (lit_live f.other ends_low.1 other) y far.0 far.2 ends.0
              ]
        ]
      ]

  -- and each meter touches what it touched but the row
  pub alone : case_needed out + 1 ≡ case_needed t → (m k : ℕ) → k ≢ e → In k (touch_at (case_branches t) (case_meters t) m) → In k (touch_at (case_branches out) (case_meters out) m)
  alone falls m k ne i =
      elim (cases_Bool (is_some (slice_index_or (case_branches out) k None))) [
        | inl there ↦ touched_still t v e m k i there
        | inr gone ↦
            let y = some_of (get_or (case_branches t) k None) (touched-present (case_branches t) (slice_index_or (case_meters t) m Nothing) k i) in
            absurd (none_beside falls k y.0 y.1 ne (goes k y.0 y.1 (λ s. cc (sym gone ∙ s))))
      ]
