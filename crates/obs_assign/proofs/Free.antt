-- A meter takes a branch that the others' branches leave free.
use Rattle.std.proofs.Common.{◌≡◌, ℕ, ◌<◌, List, [], ◌∷◌, Some, None, length, get_or, set, false, ap, inl, inr, arith}
use Rattle.obs_graph.specs.Positions.{AreBranches}
use Rattle.obs_graph.specs.Graph.{Graph}
use Rattle.obs_matroid.specs.Lists.{In}
use Rattle.obs_matroid.specs.inner.Assignments.{others}
use Rattle.obs_matroid.specs.inner.Exchange.{put}
use Rattle.obs_matroid.specs.inner.Slots.{pairs_of}
use Rattle.obs_matroid.proofs.Contained.{All-from_In}
use Rattle.obs_matroid.proofs.Exchange.{IsAssignment-put}
use Rattle.obs_matroid.proofs.Order.{IsAssignment-within}
use Rattle.obs_matroid.proofs.Slots.{IsDistinct-slots, slots_put}
use Rattle.obs_meter.specs.declared.Touch.{Touch}
use Rattle.obs_meter.specs.Assignments.{IsAssignmentAt}
use Rattle.obs_meter.specs.Spanned.{graph_matroid}
use Rattle.obs_meter.specs.Touches.{every_item, touch_at}
use Rattle.obs_meter.proofs.Assigned.{from_matroid, to_matroid}
use Rattle.obs_meter.proofs.Instance.{IsMatroid-graph}
use Rattle.obs_meter.proofs.Live.{In-every}
use Rattle.obs_assign.specs.declared.Move.{Move}
use Rattle.obs_assign.specs.inner.Moves.{ArePath}
use Rattle.obs_assign.specs.Assignment.{Assignment}
use Rattle.obs_assign.specs.inner.Assignment.{IsWhole, StandsOver, pairs}
use Rattle.obs_assign.specs.inner.Pins.{joins}
use Rattle.obs_assign.proofs.Standing.{IsAssignmentAt-standing}

pub IsAssignmentAt-free : (a : Assignment) (g : Graph) (touches : List Touch) (m e : ℕ) → AreBranches g.vertices g.ends → IsWhole a → StandsOver a g touches → m < length a.slots → In e (touch_at g.ends touches m)
    → joins g.ends (others (pairs a) m) e ≡ false → IsAssignmentAt g.ends touches (every_item touches) (pairs_of (set a.slots m (Some e)))
IsAssignmentAt-free a g touches m e ok whole stands low touched free =
    let mat = graph_matroid g.vertices g.ends in
    let laws = IsMatroid-graph g.vertices g.ends ok in
    let M = every_item touches in
    let A = to_matroid g.vertices g.ends touches M (pairs a) (IsAssignmentAt-standing a g touches whole stands) in
    let i = In-every touches m (let s = stands.meters in omega arith) in
    let p = IsAssignment-put mat laws (touch_at g.ends touches) M (m, e) (pairs a) A i touched free in
    from_matroid g.vertices g.ends touches M (pairs_of (set a.slots m (Some e)))
    (IsAssignment-within mat laws (touch_at g.ends touches) M (put (m, e) (pairs a)) (pairs_of (set a.slots m (Some e))) p (IsDistinct-slots (set a.slots m (Some e))) (λ q j. (slots_put a.slots m e low q).0 j))

-- one move is a path
pub ArePath-one : (a : Assignment) (x : Move) → x.meter < length a.slots → get_or a.slots x.meter None ≡ None → ArePath a (x ∷ [])
ArePath-one a x low bare = record {
  low = All-from_In (λ (y : Move). y.meter < length a.slots) (x ∷ []) (λ y i. one y i);
  bare = bare;
  paired = λ k d l. absurd (omega arith);
  thawed = λ k d l. absurd (omega arith);
  different = λ i j d l k. absurd (omega arith);
}
  where
    one : (y : Move) → In y (x ∷ []) → y.meter < length a.slots
    one y (inl s) = let e = ap (λ (z : Move). z.meter) s in omega (arith, low, e)
    one y (inr i) = absurd i
