-- Pairs that are carried over to another network.
use Rattle.std.proofs.Common.{◌≡◌, ℕ, ◌+◌, ◌-◌, ◌≤◌, List, length, ap, ◌∙◌, sym, subst, arith}
use Rattle.std.proofs.lemmas.List.{length-map}
use Rattle.obs_graph.specs.Graph.{Graph}
use Rattle.obs_graph.specs.Positions.{AreBranches, IsForestAt}
use Rattle.obs_case.specs.Tables.{IsValid, Tables}
use Rattle.obs_matroid.specs.Assignments.{Pair, branches}
use Rattle.obs_matroid.proofs.Ranks.{rank-independent}
use Rattle.obs_meter.specs.declared.Touch.{Touch}
use Rattle.obs_meter.specs.Spanned.{graph_matroid}
use Rattle.obs_meter.proofs.Assigned.{independent-from_forest_at}
use Rattle.obs_meter.proofs.Instance.{IsMatroid-graph}
use Rattle.obs_assign.specs.Assignment.{Assignment}
use Rattle.obs_assign.specs.inner.Assignment.{IsWhole, StandsOver, pairs}
use Rattle.obs_assign.specs.inner.Still.{AreRetained, still}
use Rattle.obs_assign.proofs.Standing.{IsAssignmentAt-standing, length-retained}
use Rattle.obs_exchange.specs.inner.Found.{Work}
use Rattle.obs_exchange.specs.inner.Lengthened.{HasLengthened}
use Rattle.obs_exchange.specs.inner.Longest.{IsMost}
use Rattle.obs_network.specs.Network.{Network, case_branches, case_meters, case_needed, network_of}
use Rattle.obs_kept.specs.inner.Kept.{AreLongest, HasRoomOver}
use Rattle.obs_network.specs.Observable.{case_rank}
use Rattle.obs_outage.specs.declared.outages.Outage.{Outage}
use Rattle.obs_network.specs.Parted.{outage_case}
use Rattle.obs_outage.specs.Outages.{outage_of}
use Rattle.obs_outage.specs.inner.Outages.{AllStand}
use Rattle.obs_outage.proofs.InOutage.{all_forest, all_long, all_most, as_many_meters, as_many_positions, back_forest, back_long, most_here, most_out, out_valid, rank_longest, same_rows}

-- where as many pairs stand still as there can be, and are a forest, all are kept and nothing is searched
pub quiet_by : (g : Graph) (touches : List Touch) (a b c : Assignment) (searches most before after : ℕ) → AreBranches g.vertices g.ends
    → AreRetained g.ends touches (pairs a) (pairs b) → StandsOver b g touches → IsWhole b → b.turns ≡ a.turns
    → HasLengthened b c searches → searches ≤ most - length (pairs b) → after ≡ before + searches
    → IsForestAt g.ends (branches (still g.ends touches (pairs a))) → most ≤ length (still g.ends touches (pairs a)) → (after ≡ before) × (c.turns ≡ a.turns)
quiet_by g touches a b c searches most before after ok retained stands whole turns grown bound ticks forest long =
    let n = g.vertices in
    let L = branches (still g.ends touches (pairs a)) in
    let kept = length-retained n g.ends touches (pairs a) (pairs b) ok (IsAssignmentAt-standing b g touches whole stands).forest retained in
    let own = rank-independent (graph_matroid n g.ends) (IsMatroid-graph n g.ends ok) L (independent-from_forest_at n g.ends L forest) in
    let count = length-map (still g.ends touches (pairs a)) (λ (p : Pair). p.1) in
    let none : searches ≡ 0 = omega (arith, kept, own, count, bound, long) in
    (omega (arith, ticks, none), ap (λ (x : Assignment). x.turns) (grown.none none) ∙ turns)

-- the room for the pairs of a case is that for those of its outage cases
pub room_out : (t : Tables) (e : ℕ) → IsValid t → (a : Assignment) (w : Work) → HasRoomOver (network_of t) a w → HasRoomOver (network_of (outage_case t e)) a w
room_out t e v a w r = record {
  pair_meters = r.pair_meters;
  pair_branches = r.pair_branches ∙ sym (as_many_positions t v e);
  pair_vertices = r.pair_vertices;
  work = r.work ∙ ap (λ (n : ℕ). record { meters = length t.meters; branches = n; vertices = (network_of t).graph.most_vertices }) (sym (as_many_positions t v e));
}

pub room_back : (t : Tables) (e : ℕ) → IsValid t → (a : Assignment) (w : Work) → HasRoomOver (network_of (outage_case t e)) a w → HasRoomOver (network_of t) a w
room_back t e v a w r = record {
  pair_meters = r.pair_meters;
  pair_branches = r.pair_branches ∙ as_many_positions t v e;
  pair_vertices = r.pair_vertices;
  work = r.work ∙ ap (λ (n : ℕ). record { meters = length t.meters; branches = n; vertices = (network_of t).graph.most_vertices }) (as_many_positions t v e);
}

-- the network of an outage case, and that of the case
module _ (t : Tables) (v : IsValid t) (e : ℕ) (a : Assignment) (h : AreLongest t a) (n : Network) (net : n ≡ network_of t) (n1 : Network) (out : n1 ≡ network_of (outage_case t e)) where
  pub rows_out : n1.rows ≡ n.rows
  rows_out = ap (λ (x : Network). x.rows) out ∙ same_rows t v e ∙ sym (ap (λ (x : Network). x.rows) net)

  pub has_room_out : (w : Work) → HasRoomOver n a w → HasRoomOver n1 a w
  has_room_out w r = subst (λ (x : Network). HasRoomOver x a w) (sym out) (room_out t e v a w (subst (λ (x : Network). HasRoomOver x a w) net r))

  pub meters_out : length n1.meters.touches ≡ length a.slots
  meters_out = ap (λ (x : Network). length x.meters.touches) out ∙ as_many_meters t v e ∙ h.stands.meters

  pub positions_out : length n1.graph.ends ≡ length a.forest.held
  positions_out = ap (λ (x : Network). length x.graph.ends) out ∙ as_many_positions t v e ∙ h.stands.forest.positions

  pub most_at_out : (k : ℕ) → k ≡ length (pairs a) → IsMost n1.graph.ends n1.meters.touches k
  most_at_out k is =
      subst (λ (x : Network). IsMost x.graph.ends x.meters.touches k) (sym out)
      (subst (λ (j : ℕ). IsMost (case_branches (outage_case t e)) (case_meters (outage_case t e)) j) (sym is) (most_out t v e a h))

  pub most_at_home : (k : ℕ) → k ≡ length (pairs a) → IsMost n.graph.ends n.meters.touches k
  most_at_home k is =
      subst (λ (x : Network). IsMost x.graph.ends x.meters.touches k) (sym net)
      (subst (λ (j : ℕ). IsMost (case_branches t) (case_meters t) j) (sym is) (most_here t a h))

  abbrev StandsStill : Network → Assignment → ℕ → Type 0
  StandsStill x b k = IsForestAt x.graph.ends (branches (still x.graph.ends x.meters.touches (pairs b))) × (k ≤ length (still x.graph.ends x.meters.touches (pairs b)))

  -- where all pairs stand in the outage case, nothing is searched there
  pub quiet_out : (k : ℕ) → k ≡ length (pairs a) → AllStand t a e → StandsStill n1 a k
  quiet_out k is all =
      let long = all_long t v e a h all in
      subst (λ (x : Network). StandsStill x a k) (sym out) (all_forest t v e a h all, omega (arith, is, long))

  -- the pairs of the outage case
  module _ (b : Assignment) (j : AreLongest (outage_case t e) b) where
    pub has_room_home : (w : Work) → HasRoomOver n1 b w → HasRoomOver n b w
    has_room_home w r = subst (λ (x : Network). HasRoomOver x b w) (sym net) (room_back t e v b w (subst (λ (x : Network). HasRoomOver x b w) out r))

    pub meters_home : length n.meters.touches ≡ length b.slots
    meters_home = ap (λ (x : Network). length x.meters.touches) net ∙ sym (as_many_meters t v e) ∙ j.stands.meters

    pub positions_home : length n.graph.ends ≡ length b.forest.held
    positions_home = ap (λ (x : Network). length x.graph.ends) net ∙ sym (as_many_positions t v e) ∙ j.stands.forest.positions

    pub entry_is : (o : Outage) → o.branch ≡ e → o.rank ≡ length (pairs b) → o.needed ≡ n1.needed → o ≡ outage_of t e
    entry_is o is rank needed =
        let of : ℕ → ℕ → ℕ → Outage = λ x y z. record { branch = x; rank = y; needed = z } in
        let r : o.rank ≡ case_rank (outage_case t e) = rank ∙ rank_longest (outage_case t e) (out_valid t v e) b j in
        let m : o.needed ≡ case_needed (outage_case t e) = needed ∙ ap (λ (x : Network). x.needed) out in
        ap (λ x. of x o.rank o.needed) is ∙ ap (λ y. of e y o.needed) r ∙ ap (λ z. of e (case_rank (outage_case t e)) z) m

    -- nor on the way back
    pub quiet_home : (k : ℕ) → k ≡ length (pairs a) → AllStand t a e → StandsStill n b k
    quiet_home k is all =
        let long = all_most t v e a h all b j in
        let same = back_long t v e b j in
        subst (λ (x : Network). StandsStill x b k) (sym net) (back_forest t v e b j, omega (arith, is, long, same))
