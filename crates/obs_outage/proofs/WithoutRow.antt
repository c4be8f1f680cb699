-- A network without one of its rows: the same but for the row, with the assignments that miss it.
use Rattle.std.proofs.Common.{◌≡◌, ◌≢◌, ℕ, suc, ◌<◌, Option, None, List, length, get_or, set, refl, sym, ap, ◌∙◌, subst, arith, get_or-set_same, get_or-set_other}
use Rattle.std.specs.Prelude.{◌↔◌, IfSome, is_some}
use Rattle.std.specs.List.{range_with_len}
use Rattle.std.proofs.lemmas.Bool.{true≢false}
use Rattle.std.proofs.lemmas.List.{get_or-map, length-map, length-set}
use Rattle.std.proofs.lemmas.List.Elements.{All-set}
use Rattle.obs_graph.specs.declared.Ends.{Ends}
use Rattle.obs_graph.specs.Positions.{AreBranches}
use Rattle.obs_matroid.specs.Lists.{In}
use Rattle.obs_matroid.specs.Assignments.{Pair, branches}
use Rattle.obs_matroid.proofs.Pairs.{In-branches, In-branches_from}
use Rattle.obs_meter.specs.declared.Touch.{Touch}
use Rattle.obs_meter.specs.declared.Touch.TheVariants.{Nothing}
use Rattle.obs_meter.specs.Assignments.{IsAssignmentAt, IsRhoAt}
use Rattle.obs_meter.specs.inner.Sizes.{HasRoomFor, Sizes}
use Rattle.obs_meter.specs.Touches.{every_item, live_items, touch_at, touched}
use Rattle.obs_meter.specs.inner.Touches.{AreInRange, IsInRange}
use Rattle.obs_meter.proofs.Assigned.{every-to_live, rho_at-unique}
use Rattle.obs_meter.proofs.Touched.{touched-present}
use Rattle.obs_assign.proofs.Slotted.{IsForestAt-agree}
use Rattle.obs_network.specs.inner.Edited.{AreSameBut}
use Rattle.obs_network.specs.Network.{Network}
use Rattle.obs_outage.specs.inner.Costly.{IsCostly}
use Rattle.obs_outage.specs.inner.Without.{IsWithout, left_out}
use Rattle.obs_outage.specs.declared.rowless.Without.{Without}
use Rattle.obs_outage.proofs.LeftOut.{left}
use Rattle.obs_outage.proofs.Restored.{at_map}

module _ (n : Network) (e : ℕ) (w : Without) (h : IsWithout n e w) where
  here : e < length n.graph.ends
  here = h.row

  -- the network with that graph and those meters
  abbrev pub other : Network
  other = record n { graph = w.graph; meters = w.meters }

  abbrev ends : List (Option Ends)
  ends = n.graph.ends

  abbrev touches : List Touch
  touches = n.meters.touches

  pub meters_there : length w.meters.touches ≡ length touches
  meters_there = ap (λ (ts : List Touch). length ts) h.touches ∙ length-map touches (left_out ends e)

  pub gone : get_or w.graph.ends e None ≡ None
  gone = ap (λ (xs : List (Option Ends)). get_or xs e None) h.ends ∙ get_or-set_same ends e None None here

  others : (k : ℕ) → (k ≡ e → ⊥) → get_or w.graph.ends k None ≡ get_or ends k None
  others k ne = ap (λ (xs : List (Option Ends)). get_or xs k None) h.ends ∙ get_or-set_other ends e k None None ne

  touched_both : (m k : ℕ) → k ≢ e → In k (touch_at ends touches m) ↔ In k (touch_at w.graph.ends w.meters.touches m)
  touched_both m k ne =
      let both = (left n.graph w.graph e here h.vertices h.ends (get_or touches m Nothing)).0 k ne in
      let at : get_or w.meters.touches m Nothing ≡ left_out ends e (get_or touches m Nothing) =
      ap (λ (ts : List Touch). get_or ts m Nothing) h.touches ∙ at_map (left_out ends e) Nothing refl touches m in
      let to : In k (touched (set ends e None) (left_out ends e (get_or touches m Nothing))) ≡ In k (touched w.graph.ends (get_or w.meters.touches m Nothing)) =
      ap (λ (xs : List (Option Ends)). In k (touched xs (left_out ends e (get_or touches m Nothing)))) (sym h.ends) ∙ ap (λ (t : Touch). In k (touched w.graph.ends t)) (sym at) in
      ((λ i. subst (λ X. X) to (both.0 i)), (λ i. both.1 (subst (λ X. X) (sym to) i)))

  pub same_but_row : AreSameBut e n other
  same_but_row = record {
    vertices = h.vertices;
    components = refl;
    needed = refl;
    ends = h.ends ∙ ap (set ends e) (sym gone);
    touched = touched_both;
  }

  pub in_range_there : AreInRange n.graph touches → AreInRange w.graph w.meters.touches
  in_range_there all k d l =
      let low : k < length touches = omega (arith, l, meters_there) in
      subst (λ (ts : List Touch). IsInRange w.graph (get_or ts k d)) (sym h.touches)
      (subst (IsInRange w.graph) (sym (get_or-map (left_out ends e) touches k d d low)) ((left n.graph w.graph e here h.vertices h.ends (get_or touches k d)).1 (all k d low)))

  pub branches_there : AreBranches n.graph.vertices ends → AreBranches w.graph.vertices w.graph.ends
  branches_there all =
      subst (λ v. AreBranches v w.graph.ends) (sym h.vertices) (subst (λ (xs : List (Option Ends)). AreBranches n.graph.vertices xs) (sym h.ends)
      (All-set (λ (o : Option Ends). IfSome o (λ x. (x.a < n.graph.vertices) × (x.b < n.graph.vertices) × (x.a ≢ x.b))) ends e None tt all))

  pub room_there : (s : Sizes) → HasRoomFor s n.graph touches → HasRoomFor s w.graph w.meters.touches
  room_there s r = record {
    meters = let m = r.meters in omega (arith, m, meters_there);
    branches = let b = r.branches in let l = ap (λ (xs : List (Option Ends)). length xs) h.ends ∙ length-set ends e None in omega (arith, b, l);
    vertices = let v = r.vertices in let is = h.vertices in omega (arith, v, is);
  }

  -- an assignment over the one is one over the other, where it misses the row
  pub within_here : (B : List Pair) → IsAssignmentAt w.graph.ends w.meters.touches (every_item w.meters.touches) B → IsAssignmentAt ends touches (every_item touches) B
  within_here B x =
      let ne : (p : Pair) → In p B → p.1 ≢ e = λ p i is.
      let some = touched-present w.graph.ends (get_or w.meters.touches p.0 Nothing) p.1 (x.touched p i) in
      true≢false (sym some ∙ ap (λ (o : Option Ends). is_some o) (ap (λ k. get_or w.graph.ends k None) is ∙ gone)) in
      record {
        of_items = λ p i. subst (λ k. In p.0 (range_with_len 0 k)) meters_there (x.of_items p i);
        touched = λ p i. (touched_both p.0 p.1 (ne p i)).1 (x.touched p i);
        different = x.different;
        forest = IsForestAt-agree w.graph.ends ends (branches B) (λ k i. let p = In-branches_from B k i in others k (λ is. ne p.0 p.1 (sym p.2 ∙ is))) x.forest;
      }

  within_there : (B : List Pair) → IsAssignmentAt ends touches (every_item touches) B → (In e (branches B) → ⊥) → IsAssignmentAt w.graph.ends w.meters.touches (every_item w.meters.touches) B
  within_there B x free = record {
    of_items = λ p i. subst (λ k. In p.0 (range_with_len 0 k)) (sym meters_there) (x.of_items p i);
    touched = λ p i. (touched_both p.0 p.1 (λ is. free (subst (λ k. In k (branches B)) is (In-branches B p i)))).0 (x.touched p i);
    different = x.different;
    forest = IsForestAt-agree ends w.graph.ends (branches B) (λ k i. sym (others k (λ is. free (subst (λ j. In j (branches B)) is i)))) x.forest;
  }

  -- so where there are fewer pairs without the row, it is costly
  pub costly_there : (r s : ℕ) → IsRhoAt ends touches (live_items ends touches) r → IsRhoAt w.graph.ends w.meters.touches (live_items w.graph.ends w.meters.touches) s → r ≡ suc s → IsCostly ends touches e
  costly_there r s most less one = record {
    shorter = λ k rho B x free.
        let same = rho_at-unique ends touches (live_items ends touches) k r rho most in
        let le = less.none_longer B (every-to_live w.graph.ends w.meters.touches B (within_there B x free)) in
        omega (arith, same, le, one);
  }
