-- A case is observable exactly where the greatest length of an assignment of its meters is the needed number.
use Rattle.std.proofs.Common.{◌≡◌, ◌↔◌, ℕ, zero, suc, ◌<◌, ◌≤◌, Bool, true, false, None, List, [], ◌∷◌, ◌++◌, length, filter, refl, sym, ap, ◌∙◌, subst, arith, inl, inr, ◌⊎◌, length-append}
use Rattle.std.specs.Prelude.{IsSome, cond, slice_index, slice_index_or, ◌==◌}
use Rattle.std.specs.List.{range_with_len}
use Rattle.std.proofs.lemmas.Bool.{cases_Bool, eq-eqb, eqb-true, cond-true, cond-false}
use Rattle.std.proofs.lemmas.List.{map-append}
use Rattle.obs_graph.specs.Positions.{present, sum_below}
use Rattle.obs_case.specs.Tables.{Tables, IsValid}
use Rattle.obs_matroid.specs.Lists.{In, IsDistinct}
use Rattle.obs_matroid.specs.Matroid.{IsIndependent}
use Rattle.obs_matroid.specs.inner.Matroid.{IsMatroid}
use Rattle.obs_matroid.specs.Assignments.{Pair, branches, items}
use Rattle.obs_matroid.proofs.Lists.{In-filter, In-filter_from, In-append_cases, IsDistinct-append, IsDistinct-filter}
use Rattle.obs_matroid.proofs.Bounds.{length-branches}
use Rattle.obs_matroid.proofs.Components.{free_together}
use Rattle.obs_matroid.proofs.Order.{independent_within}
use Rattle.obs_matroid.proofs.Pairs.{In-branches_from, In-items_from, IsDistinct-filter_items}
use Rattle.obs_matroid.proofs.Pieces.{firsts}
use Rattle.obs_matroid.proofs.Ranges.{range_distinct, range_in}
use Rattle.obs_meter.specs.declared.Touch.{Touch}
use Rattle.obs_meter.specs.declared.Touch.TheVariants.{Nothing}
use Rattle.obs_meter.specs.Assignments.{IsAssignmentAt, IsRhoAt, rho_at}
use Rattle.obs_meter.specs.Spanned.{ends_at, graph_matroid, joined_at, rank_at}
use Rattle.obs_meter.specs.Touches.{touch_at}
use Rattle.obs_meter.proofs.Assigned.{from_matroid, to_matroid, live_items-distinct, rho_at-is, rho_at-unique}
use Rattle.obs_meter.proofs.Instance.{IsJoining-graph, IsMatroid-graph}
use Rattle.obs_meter.proofs.Touched.{touched-present}
use Rattle.obs_network.specs.Switched.{case_bus_count}
use Rattle.obs_network.specs.Network.{case_branches, case_component_count, case_components, case_live, case_meters, case_need, case_needed, case_vertex_count}
use Rattle.obs_network.specs.Observable.{IsObservable, IsObservableCase, branch_component, case_live_meters, is_energised_component, is_vertex_of, item_component}
use Rattle.obs_network.proofs.Numbered.{component_at}
use Rattle.obs_network.proofs.OfCase.{case_branches-are}
use Rattle.obs_network.proofs.OfLaws.{case_component-at}
use Rattle.obs_network.proofs.Vertices.{is_vertex_of-bus, need_is, vertices_of_component}
use Rattle.obs_network.proofs.InComponents.{branch_component-below, kinds_sum, present_below, present_energised, present_placed, touched_component}
use Rattle.obs_network.proofs.Sums.{nothing_in, split_by, sum_below-le, sum_below-same}

-- the pairs whose branch lies in a component
abbrev pub pairs_in : Tables → ℕ → List Pair → List Pair
pairs_in t c A = filter (λ p. branch_component t p.1 == c) A

vertex_in : (t : Tables) (c u : ℕ) → u < case_vertex_count t → is_vertex_of t c u ≡ true → In u (vertices_of_component t c)
vertex_in t c u l e = In-filter (is_vertex_of t c) u (range_with_len 0 (case_vertex_count t)) (range_in 0 (case_vertex_count t) u (omega arith) (omega (arith, l))) e

has_vertex : (t : Tables) (c : ℕ) → c < case_component_count t → (u : ℕ) × In u (vertices_of_component t c)
unfolding case_component_count
has_vertex t c l =
    let b = component_at (case_bus_count t) (present (case_live t)) c l in
    let low = b.1 in
    (b.0, vertex_in t c b.0 (omega (arith, low)) (is_vertex_of-bus t c b.0 low ∙ eq-eqb (slice_index (case_components t) b.0) c (case_component-at t b.0 low ∙ b.2)))

pub some_long : (xs : List ℕ) (x : ℕ) → In x xs → 0 < length xs
some_long [] x i = absurd i
some_long (y ∷ ys) x i = omega arith

module _ (t : Tables) (v : IsValid t) where
  laws : IsMatroid (graph_matroid (case_vertex_count t) (case_branches t))
  laws = IsMatroid-graph (case_vertex_count t) (case_branches t) (case_branches-are t v)

  pair_present : (touches : List Touch) (M : List ℕ) (A : List Pair) → IsAssignmentAt (case_branches t) touches M A → (p : Pair) → In p A → IsSome (slice_index_or (case_branches t) p.1 None)
  pair_present touches M A a p i = touched-present (case_branches t) (slice_index_or touches p.0 Nothing) p.1 (a.touched p i)

  -- an assignment has no more pairs in a component than it needs
  pub few_in : (touches : List Touch) (M : List ℕ) (A : List Pair) → IsAssignmentAt (case_branches t) touches M A → (c : ℕ) → c < case_component_count t → length (pairs_in t c A) ≤ case_need t c
  few_in touches M A a c l =
      let n = case_vertex_count t in
      let ends = case_branches t in
      let b = to_matroid n ends touches M A a in
      let q : Pair → Bool = λ p. branch_component t p.1 == c in
      let free = independent_within (graph_matroid n ends) laws A (pairs_in t c A) b.independent b.different (IsDistinct-filter_items q A a.different) (λ p i. (In-filter_from q p A i).0) in
      let inside : (e : ℕ) → In e (branches (pairs_in t c A)) → In (ends_at ends e).0 (vertices_of_component t c) × In (ends_at ends e).1 (vertices_of_component t c) =
      λ e i.
      let w = In-branches_from (pairs_in t c A) e i in
      let u = In-filter_from q w.0 A w.1 in
      let place = present_placed t v w.0.1 (pair_present touches M A a w.0 u.0) in
      let below = present_below t v w.0.1 (pair_present touches M A a w.0 u.0) in
      let own = eqb-true (branch_component t w.0.1) c u.1 in
      subst (λ (x : ℕ). In (ends_at ends x).0 (vertices_of_component t c) × In (ends_at ends x).1 (vertices_of_component t c)) (sym w.2) (
        vertex_in t c (ends_at ends w.0.1).0 below.0 (ap (λ k. is_vertex_of t k (ends_at ends w.0.1).0) (sym own) ∙ place.of_a),
        vertex_in t c (ends_at ends w.0.1).1 below.1 (ap (λ k. is_vertex_of t k (ends_at ends w.0.1).1) (sym own) ∙ place.of_b),
      ) in
      let W = vertices_of_component t c in
      let found = firsts (ends_at ends) (joined_at ends) (rank_at n ends) (IsJoining-graph ends) W (IsDistinct-filter (is_vertex_of t c) (range_with_len 0 n) (range_distinct 0 n)) (branches (pairs_in t c A)) free inside in
      let some_vertex = has_vertex t c l in
      let r = found.1.covers some_vertex.0 some_vertex.1 in
      let some = some_long found.0 r.0 r.1 in
      omega (arith, found.1.count, some, length-branches (pairs_in t c A), need_is t c l)

  kind_below : (touches : List Touch) (M : List ℕ) (A : List Pair) → IsAssignmentAt (case_branches t) touches M A → (p : Pair) → In p A → branch_component t p.1 < case_component_count t
  kind_below touches M A a p i = branch_component-below t v p.1 (pair_present touches M A a p i)

  -- what a component adds to the needed number
  need_at : ℕ → ℕ
  need_at c = cond (is_energised_component t c) (case_need t c) 0

  few_at : (touches : List Touch) (M : List ℕ) (A : List Pair) → IsAssignmentAt (case_branches t) touches M A → (c : ℕ) → c < case_component_count t → length (pairs_in t c A) ≤ need_at c
  unfolding need_at
  few_at touches M A a c l =
      elim (cases_Bool (is_energised_component t c)) [
        | inl energised ↦ rw energised (few_in touches M A a c l)
        | inr dead ↦
            let none = nothing_in (pairs_in t c A)
            (λ p i.
            let u = In-filter_from (λ (q : Pair). branch_component t q.1 == c) p A i in
            let own = eqb-true (branch_component t p.1) c u.1 in
            absurd (cc (sym (ap (is_energised_component t) own) ∙ present_energised t v p.1 (pair_present touches M A a p u.0), dead))) in
            omega (arith, none)
      ]

  split_pairs : (touches : List Touch) (M : List ℕ) (A : List Pair) → IsAssignmentAt (case_branches t) touches M A → length A ≡ sum_below (λ c. length (pairs_in t c A)) (case_component_count t)
  split_pairs touches M A a = split_by (λ (p : Pair). branch_component t p.1) (case_component_count t) A (kind_below touches M A a)

  -- no assignment has more pairs than the needed number
  pub most_pairs : (touches : List Touch) (M : List ℕ) (A : List Pair) → IsAssignmentAt (case_branches t) touches M A → length A ≤ case_needed t
  unfolding case_needed need_at
  most_pairs touches M A a =
      let all = split_pairs touches M A a in
      let le = sum_below-le (λ c. length (pairs_in t c A)) need_at (case_component_count t) (few_at touches M A a) in
      omega (arith, all, le)

  -- an assignment of the needed number of pairs has in each energised component what it needs
  pub observed : (A : List Pair) → IsAssignmentAt (case_branches t) (case_meters t) (case_live_meters t) A → length A ≡ case_needed t → IsObservableCase t
  unfolding case_needed need_at
  observed A a long c l energised =
      let touches = case_meters t in
      let M = case_live_meters t in
      let same = sum_below-same (λ k. length (pairs_in t k A)) need_at (case_component_count t) (few_at touches M A a) (sym (split_pairs touches M A a) ∙ long) c l in
      record { pairs = A; assigns = a; enough = same ∙ cond-true (is_energised_component t c) (case_need t c) 0 energised }

  -- pairs of the components below k, as many as these need
  record Built (k : ℕ) : Type 0 where
    built : List Pair
    assigns : IsAssignmentAt (case_branches t) (case_meters t) (case_live_meters t) built
    below : (p : Pair) → In p built → branch_component t p.1 < k
    long : length built ≡ sum_below need_at k

  join : (k : ℕ) → is_energised_component t k ≡ true → IsObservable t k → Built k → Built (suc k)
  unfolding need_at
  join k energised o b =
      let n = case_vertex_count t in
      let ends = case_branches t in
      let touches = case_meters t in
      let M = case_live_meters t in
      let q : Pair → Bool = λ p. branch_component t p.1 == k in
      let P = pairs_in t k o.pairs in
      let from : (p : Pair) → In p P → In p o.pairs = λ p i. (In-filter_from q p o.pairs i).0 in
      let kind : (p : Pair) → In p P → branch_component t p.1 ≡ k = λ p i. eqb-true (branch_component t p.1) k (In-filter_from q p o.pairs i).1 in
      let x = to_matroid n ends touches M o.pairs o.assigns in
      let y = to_matroid n ends touches M b.built b.assigns in
      let different = IsDistinct-filter_items q o.pairs o.assigns.different in
      let free = independent_within (graph_matroid n ends) laws o.pairs P x.independent o.assigns.different different from in
      let all : IsIndependent (graph_matroid n ends) (branches P ++ branches b.built) = free_together (graph_matroid n ends) laws (branch_component t) (kinds_sum t v) k (branches P) (branches b.built) free y.independent
      (λ e i. let w = In-branches_from P e i in ap (branch_component t) w.2 ∙ kind w.0 w.1)
      (λ e i own. let w = In-branches_from b.built e i in let low = b.below w.0 w.1 in omega (arith, low, ap (branch_component t) w.2, own)) in
      let cases : (p : Pair) → In p (P ++ b.built) → In p P ⊎ In p b.built = λ p i. In-append_cases p P b.built i in
      let touched : (p : Pair) → In p (P ++ b.built) → In p.1 (touch_at ends touches p.0) = λ p i. elim (cases p i) [ inl h ↦ o.assigns.touched p (from p h) | inr h ↦ b.assigns.touched p h ] in
      let apart : (m : ℕ) → In m (items P) → In m (items b.built) → ⊥ = λ m i j.
      let w = In-items_from P m i in
      let z = In-items_from b.built m j in
      let low = b.below z.0 z.1 in
      let one = touched_component t v touches w.0.0 w.0.1 (o.assigns.touched w.0 (from w.0 w.1)) in
      let two = touched_component t v touches z.0.0 z.0.1 (b.assigns.touched z.0 z.1) in
      let same = ap (item_component t touches) (sym w.2 ∙ z.2) in
      omega (arith, low, one, two, same, kind w.0 w.1) in
      record {
        built = P ++ b.built;
        assigns = from_matroid n ends touches M (P ++ b.built) (record {
          of_items = λ p i. elim (cases p i) [ inl h ↦ o.assigns.of_items p (from p h) | inr h ↦ b.assigns.of_items p h ];
          touched = touched;
          different = subst (λ (xs : List ℕ). IsDistinct xs) (sym (map-append (λ (p : Pair). p.0) P b.built)) (IsDistinct-append (items P) (items b.built) different b.assigns.different apart);
          independent = subst (λ (xs : List ℕ). IsIndependent (graph_matroid n ends) xs) (sym (map-append (λ (p : Pair). p.1) P b.built)) all;
        });
        below = λ p i. elim (cases p i) [ inl h ↦ omega (arith, kind p h) | inr h ↦ let low = b.below p h in omega (arith, low) ];
        long = length-append P b.built ∙ omega (arith, o.enough, b.long, cond-true (is_energised_component t k) (case_need t k) 0 energised);
      }

  skip : (k : ℕ) → is_energised_component t k ≡ false → Built k → Built (suc k)
  unfolding need_at
  skip k dead b = record {
    built = b.built;
    assigns = b.assigns;
    below = λ p i. let low = b.below p i in omega (arith, low);
    long = omega (arith, b.long, cond-false (is_energised_component t k) (case_need t k) 0 dead);
  }

  build : IsObservableCase t → (k : ℕ) → k ≤ case_component_count t → Built k
  build o zero l = record {
    built = [];
    assigns = from_matroid (case_vertex_count t) (case_branches t) (case_meters t) (case_live_meters t) [] (record {
      of_items = λ p i. absurd i;
      touched = λ p i. absurd i;
      different = tt;
      independent = tt;
    });
    below = λ p i. absurd i;
    long = refl;
  }
  build o (suc k) l =
      let before = build o k (omega arith) in
      elim (cases_Bool (is_energised_component t k)) [ inl energised ↦ join k energised (o k (omega arith) energised) before | inr dead ↦ skip k dead before ]

  pub rho_from_observed : IsObservableCase t → IsRhoAt (case_branches t) (case_meters t) (case_live_meters t) (case_needed t)
  unfolding case_needed need_at
  rho_from_observed o =
      let b = build o (case_component_count t) (omega arith) in
      record { longest = b.built; assigns = b.assigns; long = b.long; none_longer = λ B a. most_pairs (case_meters t) (case_live_meters t) B a }

  pub observed_from_rho : IsRhoAt (case_branches t) (case_meters t) (case_live_meters t) (case_needed t) → IsObservableCase t
  observed_from_rho r = observed r.longest r.assigns r.long

  pub observed_by_rho : IsObservableCase t ↔ (rho_at (case_vertex_count t) (case_branches t) (case_meters t) (case_live_meters t) ≡ case_needed t)
  observed_by_rho =
      let ends = case_branches t in
      let touches = case_meters t in
      let M = case_live_meters t in
      let is = rho_at-is (case_vertex_count t) ends touches M (case_branches-are t v) (live_items-distinct ends touches) in (
        (λ o. rho_at-unique ends touches M (rho_at (case_vertex_count t) ends touches M) (case_needed t) is (rho_from_observed o)),
        (λ e. observed_from_rho (subst (λ (r : ℕ). IsRhoAt ends touches M r) e is)),
      )
