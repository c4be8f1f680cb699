-- What a longest assignment of a case shows of its critical meters and bounds.
use Rattle.std.proofs.Common.{◌≡◌, ℕ, ◌+◌, ◌-◌, ◌≤◌, Bool, true, false, not, Option, Some, None, List, length, filter, take, refl, sym, ap, ◌∙◌, subst, arith}
use Rattle.std.specs.Prelude.{is_some}
use Rattle.std.proofs.lemmas.List.{length-take-le}
use Rattle.std.proofs.lemmas.List.Filters.{length-filter_both}
use Rattle.std.proofs.lemmas.List.FromFn.{length-range_with_len}
use Rattle.std.proofs.lemmas.List.Sums.{count_by-le-length, length-filter}
use Rattle.obs_graph.specs.Graph.{Graph}
use Rattle.obs_case.specs.Tables.{IsValid, Tables}
use Rattle.obs_matroid.specs.Assignments.{Pair, items}
use Rattle.obs_matroid.specs.inner.Assignments.{part}
use Rattle.obs_matroid.specs.Lists.{In}
use Rattle.obs_matroid.proofs.Bounds.{length-items}
use Rattle.obs_matroid.proofs.Exchange.{items-part}
use Rattle.obs_matroid.proofs.Lists.{In-filter, In-filter_from, IsDistinct-filter, clash, filter_same, length-within}
use Rattle.obs_matroid.proofs.Slots.{IsDistinct-slots}
use Rattle.obs_meter.specs.Held.{Meters}
use Rattle.obs_meter.specs.Touches.{every_item, is_live}
use Rattle.obs_meter.proofs.Assigned.{live_items-distinct}
use Rattle.obs_meter.proofs.Touched.{live-from_In}
use Rattle.obs_meter.proofs.Live.{In-live}
use Rattle.obs_assign.specs.Assignment.{Assignment}
use Rattle.obs_assign.specs.inner.Assignment.{branch_at, has_flag, pairs}
use Rattle.obs_assign.proofs.Slotted.{item_slot, slot_item}
use Rattle.obs_exchange.specs.declared.Sources.TheVariants.{All as AllSources}
use Rattle.obs_exchange.specs.Critical.{critical_meters}
use Rattle.obs_exchange.specs.inner.Found.{HasClosed}
use Rattle.obs_exchange.proofs.AtGraph.{IsAssignment-live, IsLeastClosed-thawed}
use Rattle.obs_network.specs.inner.Located.{live_meters_of}
use Rattle.obs_network.specs.Network.{case_branches, case_meters, case_vertex_count, network_of}
use Rattle.obs_network.specs.Observable.{case_live_meters}
use Rattle.obs_network.proofs.Observed.{pairs_in}
use Rattle.obs_network.proofs.OfCase.{length-case_meters}
use Rattle.obs_repair.specs.Bounds.{bound_meters, bound_outside, bound_rank, case_critical_meters, component_meters, component_rank, is_critical_meter, is_meter_of}
use Rattle.obs_kept.specs.inner.Kept.{AreLongest}
use Rattle.obs_repair.specs.inner.Bounds.{AreMarks}
use Rattle.obs_repair.proofs.Enough.{in_component, least, live_pairs}
use Rattle.obs_repair.proofs.Tight.{IsClosedFor, bound_is, mark_from, pairs_in_from}

is_some-from : (o : Option ℕ) → is_some o ≡ true → (e : ℕ) × (o ≡ Some e)
is_some-from (Some e) t = (e, refl)
is_some-from None t = clash t refl

-- the meters of a component that have a pair are as many as its pairs
module _ (t : Tables) (v : IsValid t) (a : Assignment) (h : AreLongest t a) where
  closed_for : (S : ℕ → Bool) × IsClosedFor t (pairs a) S
  closed_for = let s = least t v a h in (s.0, record { assigns = IsAssignment-live (case_vertex_count t) a (network_of t).graph (case_meters t) h.whole h.stands; least = s.1 })

  abbrev pub has_pair : ℕ → Bool
  has_pair m = is_some (branch_at a m)

  module _ (c : ℕ) where
    abbrev paired : List ℕ
    paired = filter has_pair (filter (is_meter_of t c) (case_live_meters t))

    abbrev own : List ℕ
    own = filter (is_meter_of t c) (items (pairs a))

    own-in : (m : ℕ) → In m own → In m paired
    own-in m i =
        let u = In-filter_from (is_meter_of t c) m (items (pairs a)) i in
        let e = item_slot a.slots m u.0 in
        let live = live-from_In (case_branches t) (case_meters t) m e.0 (h.stands.touched m e.0 e.1) in
        In-filter has_pair m (filter (is_meter_of t c) (case_live_meters t))
        (In-filter (is_meter_of t c) m (case_live_meters t) (In-live (case_branches t) (case_meters t) m live) u.1) (ap (λ (o : Option ℕ). is_some o) e.1)

    paired-in : (m : ℕ) → In m paired → In m own
    paired-in m i =
        let u = In-filter_from has_pair m (filter (is_meter_of t c) (case_live_meters t)) i in
        let w = In-filter_from (is_meter_of t c) m (case_live_meters t) u.0 in
        let e = is_some-from (branch_at a m) u.1 in
        In-filter (is_meter_of t c) m (items (pairs a)) (slot_item a.slots m e.0 e.1) w.1

    paired_many : length paired ≡ length own
    paired_many =
        let one = length-within paired own
        (IsDistinct-filter has_pair (filter (is_meter_of t c) (case_live_meters t)) (IsDistinct-filter (is_meter_of t c) (case_live_meters t) (live_items-distinct (case_branches t) (case_meters t)))) paired-in in
        let two = length-within own paired (IsDistinct-filter (is_meter_of t c) (items (pairs a)) (IsDistinct-slots a.slots)) own-in in
        omega (arith, one, two)

    own_many : length own ≡ length (pairs_in t c (pairs a))
    own_many =
        let here = ap (λ (A : List Pair). length A) (in_component t v a h (pairs a) (live_pairs t v a h) c) in
        let same = ap (λ (xs : List ℕ). length xs) (items-part (is_meter_of t c) (pairs a)) in
        let long = length-items (part (is_meter_of t c) (pairs a)) in
        omega (arith, here, same, long)

    pub count_of_pairs : (k : ℕ) → k ≡ length (filter has_pair (live_meters_of (network_of t) c)) → k ≡ length (pairs_in t c (pairs a))
    count_of_pairs k e = e ∙ (paired_many ∙ own_many)

    pub count_of_rank : (k : ℕ) → k ≡ length (filter has_pair (live_meters_of (network_of t) c)) → k ≡ component_rank t c
    count_of_rank k e = count_of_pairs k e ∙ (let s = closed_for in pairs_in_from t v (pairs a) s.0 s.1 c)

-- the marked meters of a component are those of its bound
pub marked_bound : (t : Tables) (marks : List Bool) (c : ℕ) → AreMarks t marks → filter (has_flag marks) (live_meters_of (network_of t) c) ≡ bound_meters t c
unfolding bound_meters component_meters
marked_bound t marks c k =
    filter_same (has_flag marks) (λ m. not (is_critical_meter t m)) (live_meters_of (network_of t) c)
    (λ m i. k.mark m (In-filter_from (is_meter_of t c) m (case_live_meters t) i).0)

-- and the others are those outside
pub outside_bound : (t : Tables) (c : ℕ) → length (bound_meters t c) + bound_outside t c ≡ length (live_meters_of (network_of t) c)
unfolding bound_meters bound_outside component_meters
outside_bound t c = length-filter_both (λ m. not (is_critical_meter t m)) (is_critical_meter t) (λ m. sym (twice (is_critical_meter t m))) (live_meters_of (network_of t) c)
  where
    twice : (b : Bool) → not (not b) ≡ b
    twice true = refl
    twice false = refl

-- what a search that found no pair more reached are the live meters that aren't critical
pub marks_of_closed : (t : Tables) → IsValid t → (a : Assignment) → AreLongest t a → (flags : List Bool) → HasClosed (case_branches t) (case_meters t) AllSources a a flags → AreMarks t flags
marks_of_closed t v a h flags k = record {
  one_each = k.flags;
  mark = mark_from t v (pairs a) (has_flag flags) (record {
    assigns = IsAssignment-live (case_vertex_count t) a (network_of t).graph (case_meters t) h.whole h.stands;
    least = IsLeastClosed-thawed (case_vertex_count t) a (network_of t).graph (case_meters t) h.stands h.thawed (has_flag flags) k.least;
  });
}

-- the answers over the parts of the network are those of the case
pub critical_of_network : (t : Tables) (g : Graph) (ms : Meters) → g ≡ (network_of t).graph → ms ≡ (network_of t).meters → critical_meters g.vertices g.ends ms.touches ≡ case_critical_meters t
unfolding case_critical_meters
critical_of_network t g ms gg mm =
    ap (λ (x : Graph). critical_meters x.vertices x.ends ms.touches) gg ∙ ap (λ (i : Meters). critical_meters (case_vertex_count t) (case_branches t) i.touches) mm

-- a component has no more meters than the case
pub few_in_component : (t : Tables) → (c : ℕ) → length (live_meters_of (network_of t) c) ≤ length t.meters
few_in_component t c =
    let own = length-filter (is_meter_of t c) (case_live_meters t) in
    let live = length-filter (is_live (case_branches t) (case_meters t)) (every_item (case_meters t)) in
    let all = length-range_with_len 0 (length (case_meters t)) in
    let same = length-case_meters t in
    let a = count_by-le-length (is_meter_of t c) (case_live_meters t) in
    let b = count_by-le-length (is_live (case_branches t) (case_meters t)) (every_item (case_meters t)) in
    omega (arith, own, live, all, same, a, b)

-- how a bound is measured: some meters are listed, and of all n meters of the component, count have a pair
pub record IsMeasured (t : Tables) (c n listed count : ℕ) : Type 0 where
  pub fits : listed ≤ n
  pub outside : n - listed ≡ bound_outside t c
  pub enough : n - listed ≤ count
  pub rank : count - (n - listed) ≡ bound_rank t c

pub measured : (t : Tables) → IsValid t → (a : Assignment) → AreLongest t a → (marks : List Bool) → AreMarks t marks → (c : ℕ) (meters list : List ℕ) (listed count : ℕ)
    → meters ≡ live_meters_of (network_of t) c → listed ≤ length list → take listed list ≡ filter (has_flag marks) meters
    → count ≡ length (filter (λ m. is_some (branch_at a m)) meters) → IsMeasured t c (length meters) listed count
measured t v a h marks k c meters list listed count same room lists counts =
    let bound : take listed list ≡ bound_meters t c = lists ∙ (ap (filter (has_flag marks)) same ∙ marked_bound t marks c k) in
    let long : length (bound_meters t c) ≡ listed = ap (λ (xs : List ℕ). length xs) (sym bound) ∙ length-take-le listed list room in
    let all : length meters ≡ length (live_meters_of (network_of t) c) = ap (λ (xs : List ℕ). length xs) same in
    let others = outside_bound t c in
    let rank = count_of_rank t v a h c count (counts ∙ ap (λ (xs : List ℕ). length (filter (λ m. is_some (branch_at a m)) xs)) same) in
    let sum = bound_is t v c in
    record {
      fits = omega (arith, long, all, others);
      outside = omega (arith, long, all, others);
      enough = omega (arith, long, all, others, rank, sum);
      rank = omega (arith, long, all, others, rank, sum);
    }

-- the marks of a closed set over the parts of the network
pub marks_of_network : (t : Tables) → IsValid t → (a : Assignment) → AreLongest t a → (flags : List Bool) (g : Graph) (ms : Meters) → g ≡ (network_of t).graph → ms ≡ (network_of t).meters
    → HasClosed g.ends ms.touches AllSources a a flags → AreMarks t flags
marks_of_network t v a h flags g ms gg mm k =
    marks_of_closed t v a h flags
    (subst (λ (x : Graph). HasClosed x.ends (case_meters t) AllSources a a flags) gg (subst (λ (i : Meters). HasClosed g.ends i.touches AllSources a a flags) mm k))
