-- The room of parts, and the place of an edit in the network.
use Rattle.std.proofs.Common.{◌≡◌, ℕ, ◌*◌, ◌≤◌, Bool, length, sym, ap, ◌∙◌, subst, arith}
use Rattle.obs_case.specs.Tables.{IsValid, Tables}
use Rattle.obs_assign.specs.Assignment.{Assignment}
use Rattle.obs_assign.specs.inner.Assignment.{pairs}
use Rattle.obs_network.specs.Network.{Network, Rows, case_branches, case_meters, case_vertex_count, case_vertex_room, network_of}
use Rattle.obs_network.specs.inner.Network.{case_position_count}
use Rattle.obs_network.proofs.OfCase.{case_vertex_count-le, length-case_branches, length-case_meters}
use Rattle.obs_repair.specs.declared.edit.Edit.{Edit}
use Rattle.obs_repair.specs.declared.edit.Edit.TheVariants as edit
use Rattle.obs_repair.specs.Edits.{edited}
use Rattle.obs_repair.specs.inner.Edits.{HasRow}
use Rattle.obs_repair.specs.inner.Parts.{AreBoundBefore, BoundsNetwork, HasRoomForParts, IsPlaceIn, IsSaidBetween, Parts}
use Rattle.obs_repair.specs.inner.Repairing.{IsBefore, IsSaidAlone}
use Rattle.obs_repair.proofs.Flagged.{meters-edited, positions-edited, rows-edited}

place_by : (t : Tables) (e : Edit) (n : Network) → HasRow t e → length n.graph.ends ≡ case_position_count t → length n.meters.touches ≡ length (case_meters t) → IsPlaceIn e n
place_by t (edit.Switch at closed) n low ends meters = tt
place_by t (edit.Branch at inservice) n low ends meters = omega (arith, low, ends)
place_by t (edit.Meter at inservice) n low ends meters = let many = length-case_meters t in omega (arith, low, meters, many)

room-edited : (t : Tables) (e : Edit) → case_vertex_room (edited t e) ≡ case_vertex_room t
room-edited t e = ap (λ (r : Rows). 2 * r.nodes) (rows-edited t e)

-- the room is that for as many rows
pub parts_room-edited : (t : Tables) (e : Edit) (p : Parts) → HasRoomForParts t p → HasRoomForParts (edited t e) p
parts_room-edited t e p r = record { vertices = r.vertices ∙ sym (room-edited t e); positions = r.positions ∙ sym (positions-edited t e) }

module _ (t : Tables) (e : Edit) (n : Network) (a : Assignment) (h : IsBefore t e n a) (p : Parts) (room : HasRoomForParts t p) where
  net_edited : network_of t ≡ network_of (edited h.before e)
  net_edited = ap network_of h.same

  pub place_before : IsPlaceIn e n
  place_before =
      place_by h.before e n h.row (ap (λ (x : Network). length x.graph.ends) h.network ∙ length-case_branches h.before) (ap (λ (x : Network). length x.meters.touches) h.network)

  pub place_after : IsPlaceIn e (network_of t)
  place_after =
      place_by h.before e (network_of t) h.row
      (ap (λ (x : Network). length x.graph.ends) net_edited ∙ (length-case_branches (edited h.before e) ∙ positions-edited h.before e))
      (ap (λ (x : Network). length x.meters.touches) net_edited ∙ meters-edited h.before e)

  pub room_before : n.graph.vertices ≤ length p.first
  room_before =
      let few = case_vertex_count-le h.before in
      let same = ap (λ (x : Network). x.graph.vertices) h.network in
      let as_many = ap case_vertex_room h.same ∙ room-edited h.before e in
      let r = room.vertices in
      omega (arith, few, same, as_many, r)

  pub room_after : case_vertex_count t ≤ length p.first
  room_after = let r = room.vertices in omega (arith, case_vertex_count-le t, r)

  pub positions_after : length (case_branches t) ≡ p.positions
  positions_after = length-case_branches t ∙ sym room.positions

  -- what bounded the pairs of the network before
  pub bound_before : (valid : IsValid t) (alone between : Bool) (had : ℕ) → IsSaidAlone e alone n (network_of t) → IsSaidBetween e between n p.first → had ≡ length (pairs a) → BoundsNetwork n p.first (length (pairs a))
      → AreBoundBefore e alone between (network_of t) p.first had
  bound_before valid alone between had said parted is bound = record {
    before = h.before;
    valid = h.valid;
    valid_after = subst IsValid h.same valid;
    network = net_edited;
    said_alone = subst (λ (x : Network). IsSaidAlone e alone x (network_of t)) h.network said;
    said_between = subst (λ (x : Network). IsSaidBetween e between x p.first) h.network parted;
    bound = subst (λ (x : Network). BoundsNetwork x p.first had) h.network (subst (λ k. BoundsNetwork n p.first k) (sym is) bound);
  }
