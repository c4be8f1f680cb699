-- An assignment that stands over a graph and meters, and its laws.
use Rattle.std.proofs.Common.{◌≡◌, ℕ, ◌≤◌, Bool, Option, List, length, arith}
use Rattle.obs_graph.specs.declared.Ends.{Ends}
use Rattle.obs_graph.specs.Positions.{AreBranches, IsForestAt}
use Rattle.obs_graph.specs.Graph.{Graph}
use Rattle.obs_matroid.specs.Lists.{In}
use Rattle.obs_matroid.specs.Assignments.{Pair, branches}
use Rattle.obs_matroid.proofs.Lists.{In-filter, In-filter_from}
use Rattle.obs_matroid.proofs.Pairs.{In-branches_from, branches_within}
use Rattle.obs_matroid.proofs.Ranks.{rank-independent, rank-within}
use Rattle.obs_matroid.proofs.Bounds.{length-branches, weak_bound}
use Rattle.obs_matroid.proofs.Slots.{slot_from, IsDistinct-slots}
use Rattle.obs_meter.specs.declared.Touch.{Touch}
use Rattle.obs_meter.specs.Touches.{every_item, touch_at}
use Rattle.obs_meter.specs.Assignments.{IsAssignmentAt}
use Rattle.obs_meter.specs.inner.Assignments.{bound_at}
use Rattle.obs_meter.specs.Spanned.{graph_matroid, rank_at}
use Rattle.obs_meter.proofs.Assigned.{to_matroid, independent-from_forest_at}
use Rattle.obs_meter.proofs.Instance.{IsMatroid-graph}
use Rattle.obs_meter.proofs.Touched.{In-from_any, any-from_In}
use Rattle.obs_meter.proofs.Live.{In-every}
use Rattle.obs_assign.specs.Assignment.{Assignment}
use Rattle.obs_assign.specs.inner.Assignment.{IsWhole, StandsOver, pairs}
use Rattle.obs_assign.specs.inner.Still.{AreRetained, is_still, still}
use Rattle.obs_assign.proofs.Slotted.{IsForestAt-over, slot_low}

-- an assignment that stands is one of the meters
pub IsAssignmentAt-standing : (a : Assignment) (g : Graph) (touches : List Touch) → IsWhole a → StandsOver a g touches → IsAssignmentAt g.ends touches (every_item touches) (pairs a)
IsAssignmentAt-standing a g touches w s = record {
  of_items = λ p i. In-every touches p.0 (let l = slot_low a.slots p.0 p.1 (slot_from a.slots p i) in let e = s.meters in omega arith);
  touched = λ p i. s.touched p.0 p.1 (slot_from a.slots p i);
  different = IsDistinct-slots a.slots;
  forest = IsForestAt-over a.forest.held g.ends (branches (pairs a)) s.forest.held w.paired.holds.forest;
}

pub weak_bound_at : (n : ℕ) (ends : List (Option Ends)) (touches : List Touch) (M : List ℕ) (J : ℕ → Bool) (A : List Pair)
    → AreBranches n ends → IsAssignmentAt ends touches M A → length A ≤ bound_at n ends touches J M
weak_bound_at n ends touches M J A b a = weak_bound (graph_matroid n ends) (IsMatroid-graph n ends b) (touch_at ends touches) M J A (to_matroid n ends touches M A a)

pub still_from : (ends : List (Option Ends)) (touches : List Touch) (A : List Pair) (p : Pair) → In p (still ends touches A) → In p A × In p.1 (touch_at ends touches p.0)
still_from ends touches A p i =
    let f = In-filter_from (is_still ends touches) p A i in (f.0, In-from_any (touch_at ends touches p.0) p.1 f.1)

pub still_at : (ends : List (Option Ends)) (touches : List Touch) (A : List Pair) (p : Pair) → In p A → In p.1 (touch_at ends touches p.0) → In p (still ends touches A)
still_at ends touches A p i t = In-filter (is_still ends touches) p A i (any-from_In (touch_at ends touches p.0) p.1 t)

-- as many pairs are retained as the branches of those that stand still have rank
pub length-retained : (n : ℕ) (ends : List (Option Ends)) (touches : List Touch) (before after : List Pair) → AreBranches n ends → IsForestAt ends (branches after)
    → AreRetained ends touches before after → length after ≡ rank_at n ends (branches (still ends touches before))
length-retained n ends touches before after b f r =
    let g = graph_matroid n ends in
    let laws = IsMatroid-graph n ends b in
    let L = branches after in
    let K = branches (still ends touches before) in
    let own = rank-independent g laws L (independent-from_forest_at n ends L f) in
    let up = rank-within g laws L K (λ x i. laws.member K x (branches_within after (still ends touches before) r.standing x i)) in
    let down = rank-within g laws K L (λ x i. let p = In-branches_from (still ends touches before) x i in rw p.2 (r.joined p.0 p.1)) in
    omega (arith, own, up, down, length-branches after)
