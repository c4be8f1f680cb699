-- What an assignment with a least closed set shows of a case.
use Rattle.std.proofs.Common.{◌≡◌, ℕ, ◌+◌, ◌<◌, ◌≤◌, Bool, true, false, not, List, length, filter, refl, sym, ap, ◌∙◌, subst, arith, inl, inr}
use Rattle.std.specs.Prelude.{◌==◌, flat_map}
use Rattle.std.proofs.lemmas.Bool.{cases_Bool}
use Rattle.obs_case.specs.Tables.{Tables, IsValid}
use Rattle.obs_matroid.specs.Lists.{In, IsDistinct}
use Rattle.obs_matroid.specs.Matroid.{Matroid}
use Rattle.obs_matroid.specs.inner.Matroid.{IsMatroid}
use Rattle.obs_matroid.specs.Assignments.{Pair, IsAssignment}
use Rattle.obs_matroid.specs.inner.Assignments.{IsRho, part}
use Rattle.obs_matroid.specs.inner.Bounds.{bound}
use Rattle.obs_matroid.specs.inner.Closed.{IsLeastClosed, every, none}
use Rattle.obs_matroid.specs.inner.Components.{IsSumOfKinds, is_of}
use Rattle.obs_matroid.specs.Values.{is_critical, rho_of}
use Rattle.obs_matroid.proofs.Components.{component_longest, component_tight}
use Rattle.obs_matroid.proofs.Computed.{is_critical_is, rho_of_is}
use Rattle.obs_matroid.proofs.Critical.{longest_from_closed, marks_critical, rho_same}
use Rattle.obs_matroid.proofs.Least.{grows_or_closes}
use Rattle.obs_matroid.proofs.Lists.{IsDistinct-filter, In-filter, In-filter_from, clash, filter_all, filter_same}
use Rattle.obs_matroid.proofs.Pairs.{In-part_from}
use Rattle.obs_matroid.proofs.Placement.{IsAssignment-items, IsAssignment-part}
use Rattle.obs_meter.specs.Assignments.{IsAssignmentAt}
use Rattle.obs_meter.specs.Spanned.{graph_matroid, rank_at}
use Rattle.obs_meter.specs.Touches.{every_item, is_live, touch_at}
use Rattle.obs_meter.proofs.Assigned.{from_matroid, live_items-distinct, to_matroid}
use Rattle.obs_meter.proofs.Instance.{IsMatroid-graph}
use Rattle.obs_network.specs.Network.{case_branches, case_component_count, case_meters, case_need, case_vertex_count}
use Rattle.obs_network.specs.Observable.{IsObservable, branch_component, case_live_meters, case_rank, item_component}
use Rattle.obs_network.proofs.InComponents.{kinds_sum, touched_component}
use Rattle.obs_network.proofs.Observed.{few_in, pairs_in}
use Rattle.obs_network.proofs.OfCase.{case_branches-are}
use Rattle.obs_repair.specs.Bounds.{bound_meters, bound_outside, bound_rank, component_meters, component_rank, is_critical_meter, is_meter_of}

not_not : (b : Bool) → not (not b) ≡ b
not_not true = refl
not_not false = refl

-- over any matroid that is the sum of its kinds
module _ (g : Matroid) (laws : IsMatroid g) (touch : ℕ → List ℕ) (kind of : ℕ → ℕ) (local : IsSumOfKinds g kind)
    (own : (m e : ℕ) → In e (touch m) → kind e ≡ of m) (M : List ℕ) (d : IsDistinct M) (A : List Pair) (S : ℕ → Bool)
    (a : IsAssignment g touch M A) (c : IsLeastClosed g touch M none every A S) where
  whole_rho : IsRho g touch M (length A)
  whole_rho = record { longest = A; assigns = a; long = refl; none_longer = longest_from_closed g laws touch M A S a c.closed c.holds }

  part_most : (K : ℕ) (B : List Pair) → IsAssignment g touch M B → length (part (is_of of K) B) ≤ length (part (is_of of K) A)
  part_most K B b = component_longest g laws touch kind of local own K M A S a c.closed c.holds B b

  part_rho : (K : ℕ) → IsRho g touch (filter (is_of of K) M) (length (part (is_of of K) A))
  part_rho K = record {
    longest = part (is_of of K) A;
    assigns = IsAssignment-items g laws touch M (filter (is_of of K) M) (part (is_of of K) A) (IsAssignment-part g laws touch M (is_of of K) A a)
        (λ p i. let u = In-part_from (is_of of K) A p i in In-filter (is_of of K) p.0 M (a.of_items p u.0) u.1);
    long = refl;
    none_longer = λ B b.
        let layer_items : (p : Pair) → In p B → In p.0 M × (is_of of K p.0 ≡ true) = λ p i. In-filter_from (is_of of K) p.0 M (b.of_items p i) in
        let all : part (is_of of K) B ≡ B = filter_all (λ (p : Pair). is_of of K p.0) B (λ p i. (layer_items p i).1) in
        let most = part_most K B (IsAssignment-items g laws touch (filter (is_of of K) M) M B b (λ p i. (layer_items p i).0)) in
        subst (λ (x : List Pair). length x ≤ length (part (is_of of K) A)) all most;
  }

  part_bound : (K : ℕ) → bound g touch S (filter (is_of of K) M) ≡ length (part (is_of of K) A)
  part_bound K = component_tight g laws touch kind of local own K M A S d a c.closed c.holds

  mark_is : (m : ℕ) → In m M → S m ≡ not (is_critical g touch M m)
  mark_is m i =
      let k = is_critical_is g laws touch M d m in
      let s = marks_critical g laws touch M A S d a c m i in
      elim (cases_Bool (S m)) [
        | inl marked ↦ elim (cases_Bool (is_critical g touch M m)) [
          | inl y ↦ clash marked (s.1 (k.0 y))
          | inr n ↦ marked ∙ sym (ap not n)
        ]
        | inr unmarked ↦ unmarked ∙ sym (ap not (k.1 (s.0 unmarked)))
      ]

-- the matroid of a case
abbrev pub case_matroid : Tables → Matroid
case_matroid t = graph_matroid (case_vertex_count t) (case_branches t)

-- what a meter of a case touches
abbrev pub case_touch : Tables → ℕ → List ℕ
case_touch t = touch_at (case_branches t) (case_meters t)

-- an assignment of the live meters of a case, with a least closed set
pub record IsClosedFor (t : Tables) (A : List Pair) (S : ℕ → Bool) : Type 0 where
  pub assigns : IsAssignment (case_matroid t) (case_touch t) (case_live_meters t) A
  pub least : IsLeastClosed (case_matroid t) (case_touch t) (case_live_meters t) none every A S

case_laws : (t : Tables) → IsValid t → IsMatroid (case_matroid t)
case_laws t v = IsMatroid-graph (case_vertex_count t) (case_branches t) (case_branches-are t v)

live_distinct : (t : Tables) → IsDistinct (case_live_meters t)
live_distinct t = live_items-distinct (case_branches t) (case_meters t)

module _ (t : Tables) (v : IsValid t) (A : List Pair) (S : ℕ → Bool) (h : IsClosedFor t A S) where
  -- the number of pairs is the rank
  pub rank_from : length A ≡ case_rank t
  unfolding case_rank
  rank_from = rho_same (case_matroid t) (case_touch t) (case_live_meters t) (length A) (rho_of (case_matroid t) (case_touch t) (case_live_meters t))
      (whole_rho (case_matroid t) (case_laws t v) (case_touch t) (branch_component t) (item_component t (case_meters t)) (kinds_sum t v) (touched_component t v (case_meters t)) (case_live_meters t) (live_distinct t) A S h.assigns h.least)
      (rho_of_is (case_matroid t) (case_laws t v) (case_touch t) (case_live_meters t) (live_distinct t))

  -- and so in each component
  pub component_rank_from : (c : ℕ) → length (part (is_meter_of t c) A) ≡ component_rank t c
  unfolding component_rank component_meters
  component_rank_from c =
      let M = filter (is_meter_of t c) (case_live_meters t) in
      rho_same (case_matroid t) (case_touch t) M (length (part (is_meter_of t c) A)) (rho_of (case_matroid t) (case_touch t) M)
      (part_rho (case_matroid t) (case_laws t v) (case_touch t) (branch_component t) (item_component t (case_meters t)) (kinds_sum t v) (touched_component t v (case_meters t)) (case_live_meters t) (live_distinct t) A S h.assigns h.least c)
      (rho_of_is (case_matroid t) (case_laws t v) (case_touch t) M (IsDistinct-filter (is_meter_of t c) (case_live_meters t) (live_distinct t)))

  -- the set marks the live meters that aren't critical
  pub mark_from : (m : ℕ) → In m (case_live_meters t) → S m ≡ not (is_critical_meter t m)
  unfolding is_critical_meter
  mark_from m i =
      let live = (In-filter_from (is_live (case_branches t) (case_meters t)) m (every_item (case_meters t)) i).1 in
      rw live
      (mark_is (case_matroid t) (case_laws t v) (case_touch t) (branch_component t) (item_component t (case_meters t)) (kinds_sum t v) (touched_component t v (case_meters t)) (case_live_meters t) (live_distinct t) A S h.assigns h.least m i)

  -- the bound of a component is its rank
  pub bound_from : (c : ℕ) → bound_rank t c + bound_outside t c ≡ component_rank t c
  unfolding bound_rank bound_outside bound_meters component_meters
  bound_from c =
      let M = filter (is_meter_of t c) (case_live_meters t) in
      let mark : (m : ℕ) → In m M → S m ≡ not (is_critical_meter t m) = λ m i. mark_from m (In-filter_from (is_meter_of t c) m (case_live_meters t) i).0 in
      let inside : filter S M ≡ filter (λ m. not (is_critical_meter t m)) M = filter_same S (λ m. not (is_critical_meter t m)) M mark in
      let outside : filter (λ m. not (S m)) M ≡ filter (is_critical_meter t) M =
      filter_same (λ m. not (S m)) (is_critical_meter t) M (λ m i. ap not (mark m i) ∙ not_not (is_critical_meter t m)) in
      let one : rank_at (case_vertex_count t) (case_branches t) (flat_map (case_touch t) (filter S M)) ≡ rank_at (case_vertex_count t) (case_branches t) (flat_map (case_touch t) (filter (λ m. not (is_critical_meter t m)) M)) =
      ap (λ (xs : List ℕ). rank_at (case_vertex_count t) (case_branches t) (flat_map (case_touch t) xs)) inside in
      let two : length (filter (λ m. not (S m)) M) ≡ length (filter (is_critical_meter t) M) = ap (λ (xs : List ℕ). length xs) outside in
      let all = part_bound (case_matroid t) (case_laws t v) (case_touch t) (branch_component t) (item_component t (case_meters t)) (kinds_sum t v) (touched_component t v (case_meters t)) (case_live_meters t) (live_distinct t) A S h.assigns h.least c in
      let rank = component_rank_from c in
      omega (arith, one, two, all, rank)

  -- no assignment has more pairs in a component
  pub most_from : (c : ℕ) (B : List Pair) → IsAssignmentAt (case_branches t) (case_meters t) (case_live_meters t) B → length (pairs_in t c B) ≤ component_rank t c
  most_from c B b =
      let n = case_vertex_count t in
      let same : pairs_in t c B ≡ part (is_meter_of t c) B = filter_same (λ (p : Pair). branch_component t p.1 == c) (λ (p : Pair). is_meter_of t c p.0) B
      (λ p i. ap (λ (k : ℕ). k == c) (touched_component t v (case_meters t) p.0 p.1 (b.touched p i))) in
      let most = part_most (case_matroid t) (case_laws t v) (case_touch t) (branch_component t) (item_component t (case_meters t)) (kinds_sum t v) (touched_component t v (case_meters t)) (case_live_meters t) (live_distinct t) A S h.assigns h.least c B
      (to_matroid n (case_branches t) (case_meters t) (case_live_meters t) B b) in
      omega (arith, most, ap (λ (x : List Pair). length x) same, component_rank_from c)

  pub pairs_in_from : (c : ℕ) → length (pairs_in t c A) ≡ component_rank t c
  pairs_in_from c =
      let same : pairs_in t c A ≡ part (is_meter_of t c) A = filter_same (λ (p : Pair). branch_component t p.1 == c) (λ (p : Pair). is_meter_of t c p.0) A
      (λ p i. ap (λ (k : ℕ). k == c) (touched_component t v (case_meters t) p.0 p.1 (h.assigns.touched p i))) in
      ap (λ (x : List Pair). length x) same ∙ component_rank_from c

  pub assigns_from : IsAssignmentAt (case_branches t) (case_meters t) (case_live_meters t) A
  assigns_from = from_matroid (case_vertex_count t) (case_branches t) (case_meters t) (case_live_meters t) A h.assigns

-- there is such an assignment
pub some_closed : (t : Tables) → IsValid t → (A : List Pair) × (S : ℕ → Bool) × IsClosedFor t A S
some_closed t v =
    let g = case_matroid t in
    let p = rho_of_is (case_matroid t) (case_laws t v) (case_touch t) (case_live_meters t) (live_distinct t) in
    elim (grows_or_closes (case_matroid t) (case_laws t v) (case_touch t) (case_live_meters t) none every p.longest (live_distinct t) p.assigns (λ m s. clash s refl)) [
      | inl b ↦ let w = p.none_longer b.0 b.2.assigns in let l = b.2.longer in let e = p.long in absurd (omega (arith, w, l, e))
      | inr s ↦ (p.longest, s.0, record { assigns = p.assigns; least = s.1 })
    ]

module _ (t : Tables) (v : IsValid t) (c : ℕ) where
  -- a component has no more pairs than it needs
  pub rank_few : c < case_component_count t → component_rank t c ≤ case_need t c
  rank_few l =
      let s = some_closed t v in
      let most = few_in t v (case_meters t) (case_live_meters t) s.0 (assigns_from t v s.0 s.1 s.2) c l in
      omega (arith, most, pairs_in_from t v s.0 s.1 s.2 c)

  -- the two numbers of its bound add up to its rank
  pub bound_is : bound_rank t c + bound_outside t c ≡ component_rank t c
  bound_is = let s = some_closed t v in bound_from t v s.0 s.1 s.2 c

  -- no assignment has more pairs in it
  pub most_is : (B : List Pair) → IsAssignmentAt (case_branches t) (case_meters t) (case_live_meters t) B → length (pairs_in t c B) ≤ component_rank t c
  most_is B b = let s = some_closed t v in most_from t v s.0 s.1 s.2 c B b

  -- a component is observable exactly where its rank is what it needs
  pub observable-from : component_rank t c ≡ case_need t c → IsObservable t c
  observable-from e = let s = some_closed t v in record { pairs = s.0; assigns = assigns_from t v s.0 s.1 s.2; enough = pairs_in_from t v s.0 s.1 s.2 c ∙ e }

  pub observable-to : c < case_component_count t → IsObservable t c → component_rank t c ≡ case_need t c
  observable-to l o = let most = most_is o.pairs o.assigns in let few = rank_few l in let all = o.enough in omega (arith, most, few, all)
