-- What is retained of the pairs, by the arrays of a search.
use Rattle.std.proofs.Common.{◌≡◌, ◌<◌, ◌≤◌, ℕ, List, Option, Some, None, length, get_or, take, refl, sym, ap, ◌∙◌, subst, arith}
use Rattle.std.specs.Prelude.{All}
use Rattle.std.proofs.lemmas.List.{get_or-take, length-take}
use Rattle.obs_graph.specs.declared.Ends.{Ends}
use Rattle.obs_graph.specs.declared.search.Up.{Up}
use Rattle.obs_graph.specs.Positions.{AreBranches, IsForestAt}
use Rattle.obs_graph.specs.inner.Search.{AreWaysUp, IsPart, IsRooted, IsWayUp, Reaches, State}
use Rattle.obs_graph.proofs.Present.{some_is_in}
use Rattle.obs_matroid.specs.Assignments.{branches}
use Rattle.obs_matroid.specs.inner.Slots.{pairs_of}
use Rattle.obs_matroid.proofs.Contained.{All-from_In, Contains-from_In, In-from_Contains}
use Rattle.obs_meter.specs.declared.Touch.{Touch}
use Rattle.obs_forest.specs.inner.Forest.{taken}
use Rattle.obs_forest.proofs.Fewer.{IsRooted-fewer}
use Rattle.obs_forest.proofs.Held.{taken-at, taken-some}
use Rattle.obs_assign.specs.inner.Kept.{SlotsApart}
use Rattle.obs_assign.specs.inner.Retain.{AreChosen, touched_slot}
use Rattle.obs_assign.specs.inner.Still.{AreRetained}
use Rattle.obs_assign.proofs.Choosing.{up_low}
use Rattle.obs_assign.proofs.Slotted.{branch_slot, slot_branch}
use Rattle.obs_assign.proofs.Retaining.{AreRetained-made, IsForestAt-retained, touched_from}

pub low_positions : (ends : List (Option Ends)) (touches : List Touch) (before kept : List (Option ℕ)) → ((m : ℕ) → get_or kept m None ≡ touched_slot ends touches m (get_or before m None))
    → ((m e : ℕ) → get_or before m None ≡ Some e → e < length ends) → All (λ p. p < length ends) (branches (pairs_of kept))
low_positions ends touches before kept is low = All-from_In (λ p. p < length ends) (branches (pairs_of kept))
    (λ p i. let s = branch_slot kept p i in low s.0 p (touched_from ends touches s.0 p (get_or before s.0 None) (sym (is s.0) ∙ s.1)).0)

pub record IsRetained (n : ℕ) (ends : List (Option Ends)) (touches : List Touch) (before new : List (Option ℕ)) (s : State) : Type 0 where
  pub forest : IsForestAt ends (branches (pairs_of new))
  pub retained : AreRetained ends touches (pairs_of before) (pairs_of new)
  pub rooted : IsRooted n (taken ends (branches (pairs_of new))) s

-- a search along the branches of the kept pairs is one along those that lead up
module _ (n : ℕ) (ends : List (Option Ends)) (kept new : List (Option ℕ)) (s : State) (chosen : AreChosen (take n s.ups) kept new) where
  held_kept : IsPart (taken ends (branches (pairs_of new))) (taken ends (branches (pairs_of kept)))
  held_kept p e is =
      let at = taken-some ends (branches (pairs_of new)) p e is in
      let m = branch_slot new p (In-from_Contains p (branches (pairs_of new)) at.1) in
      taken-at ends (branches (pairs_of kept)) p (Contains-from_In p (branches (pairs_of kept)) (slot_branch kept m.0 p ((chosen m.0 p).0 m.1).0)) ∙ at.0

  up_held : (v : ℕ) (x : Up) → v < n → get_or s.ups v None ≡ Some x → (e : Ends) → get_or (taken ends (branches (pairs_of kept))) x.branch None ≡ Some e
      → get_or (taken ends (branches (pairs_of new))) x.branch None ≡ Some e
  up_held v x l is e held =
      let at = taken-some ends (branches (pairs_of kept)) x.branch e held in
      let m = branch_slot kept x.branch (In-from_Contains x.branch (branches (pairs_of kept)) at.1) in
      let new_at = (chosen m.0 x.branch).1 (m.1, (v, x, get_or-take n s.ups v None l ∙ is, refl)) in
      taken-at ends (branches (pairs_of new)) x.branch (Contains-from_In x.branch (branches (pairs_of new)) (slot_branch new m.0 x.branch new_at)) ∙ at.0

  IsRooted-chosen : IsRooted n (taken ends (branches (pairs_of kept))) s → IsRooted n (taken ends (branches (pairs_of new))) s
  IsRooted-chosen rooted = IsRooted-fewer n (taken ends (branches (pairs_of kept))) (taken ends (branches (pairs_of new))) s held_kept rooted up_held

pub IsRetained-made : (n : ℕ) (ends : List (Option Ends)) (touches : List Touch) (before kept new : List (Option ℕ)) (ups : List (Option Up)) (s : State) (k : ℕ) → k ≡ n → (L : List ℕ) → AreBranches n ends
    → ((m : ℕ) → get_or kept m None ≡ touched_slot ends touches m (get_or before m None)) → SlotsApart before → L ≡ branches (pairs_of kept) → ups ≡ s.ups → IsRooted n (taken ends L) s
    → AreChosen (take k ups) kept new → IsRetained n ends touches before new s
IsRetained-made n ends touches before kept new ups s k k_is L ok kept_is apart L_is ups_is rooted chosen =
    let held = taken ends (branches (pairs_of kept)) in
    let root : IsRooted n held s = subst (λ (l : List ℕ). IsRooted n (taken ends l) s) L_is rooted in
    let first = take n s.ups in
    let ways : AreWaysUp n held first s.depths = λ v l. subst (λ (o : Option Up). IsWayUp n held s.depths v o) (sym (get_or-take n s.ups v None l)) (root.ways v l) in
    let chosen_n : AreChosen first kept new = subst (λ (u : List (Option Up)). AreChosen (take n u) kept new) ups_is (subst (λ (j : ℕ). AreChosen (take j ups) kept new) k_is chosen) in
    let few : length first ≤ n = (let e = length-take n s.ups in omega arith) in
    record {
      forest = IsForestAt-retained n ends touches before kept new first s.depths ok few kept_is apart ways chosen_n;
      retained = AreRetained-made n ends touches before kept new first s.depths ok few kept_is apart ways chosen_n;
      rooted = IsRooted-chosen n ends kept new s chosen_n root;
    }

reach_of : (n : ℕ) (held : List (Option Ends)) (depths : List ℕ) (v : ℕ) (o : Option Up) (x : Up) → IsWayUp n held depths v o → o ≡ Some x → Reaches held v x.vertex x.branch
reach_of n held depths v None x w e = absurd cc
reach_of n held depths v (Some y) x w e = let s : y ≡ x = cc in subst (λ (u : Up). Reaches held v u.vertex u.branch) s w.1

-- the branches that lead up are branches of the graph
pub ups_low : (n : ℕ) (ends : List (Option Ends)) (L : List ℕ) (ups : List (Option Up)) (s : State) (k : ℕ) → k ≡ n → ups ≡ s.ups → IsRooted n (taken ends L) s
    → (v : ℕ) (x : Up) → get_or (take k ups) v None ≡ Some x → x.branch < length ends
ups_low n ends L ups s k k_is ups_is rooted v x h =
    let in_list = up_low (take k ups) v x h in
    let l : v < k = (let e = length-take k ups in omega arith) in
    let at : get_or s.ups v None ≡ Some x = ap (λ (u : List (Option Up)). get_or u v None) (sym ups_is) ∙ (sym (get_or-take k ups v None l) ∙ h) in
    let r = reach_of n (taken ends L) s.depths v (get_or s.ups v None) x (rooted.ways v (omega arith)) at in
    some_is_in ends x.branch r.0 (taken-some ends L x.branch r.0 r.1).0
