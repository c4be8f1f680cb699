-- Two networks that are the same but for one branch: what stands over the one stands over the other.
use Rattle.std.proofs.Common.{inl, inr, ◌≡◌, ◌≢◌, ℕ, ◌+◌, ◌≤◌, Bool, Option, Some, None, List, ◌∷◌, length, get_or, refl, sym, ap, ◌∙◌, subst, arith, get_or-set_other}
use Rattle.std.specs.Prelude.{IsSome, filter, slice_index_or}
use Rattle.std.specs.List.{range_with_len}
use Rattle.std.proofs.lemmas.Bool.{cases_eq, true≢false}
use Rattle.std.proofs.lemmas.List.{length-map, length-set}
use Rattle.obs_graph.specs.declared.Ends.{Ends}
use Rattle.obs_graph.specs.Positions.{AreBranches}
use Rattle.obs_matroid.specs.Lists.{In, other_than}
use Rattle.obs_matroid.specs.Assignments.{Pair, branches}
use Rattle.obs_matroid.proofs.Lists.{In-filter, In-filter_from, length-within, other_ne, other_true}
use Rattle.obs_matroid.proofs.Pairs.{In-branches, In-branches_from, IsDistinct-filter_items}
use Rattle.obs_meter.specs.declared.Touch.TheVariants.{Nothing}
use Rattle.obs_meter.specs.Assignments.{IsAssignmentAt}
use Rattle.obs_meter.specs.Touches.{every_item}
use Rattle.obs_meter.proofs.Touched.{touched-present}
use Rattle.obs_assign.specs.Assignment.{Assignment}
use Rattle.obs_assign.specs.inner.Assignment.{IsWhole, StandsOver, branch_at}
use Rattle.obs_assign.proofs.Slotted.{IsForestAt-agree, branch_slot, distinct_branches}
use Rattle.obs_exchange.specs.inner.Longest.{IsMost}
use Rattle.obs_network.specs.inner.Edited.{AreSameBut}
use Rattle.obs_network.specs.Network.{Network}
use Rattle.obs_repair.proofs.Retained.{assigns-within}

module _ (at : ℕ) (one other : Network) (same : AreSameBut at one other) (as_many : length other.meters.touches ≡ length one.meters.touches) where
  -- the ends at another position
  ends_there : (p : ℕ) → p ≢ at → get_or other.graph.ends p None ≡ get_or one.graph.ends p None
  ends_there p ne =
      ap (λ (xs : List (Option Ends)). get_or xs p None) same.ends
      ∙ get_or-set_other one.graph.ends at p (slice_index_or other.graph.ends at None) None ne

  -- pairs of which none has the branch stand over the other network
  pub stands-but : (a : Assignment) → IsWhole a → StandsOver a one.graph one.meters.touches → ((m : ℕ) → branch_at a m ≢ Some at) → StandsOver a other.graph other.meters.touches
  stands-but a whole s bare = record {
    forest = record {
      vertices = same.vertices ∙ s.forest.vertices;
      positions = ap length same.ends ∙ (length-set one.graph.ends at (slice_index_or other.graph.ends at None) ∙ s.forest.positions);
      held = λ p x is. elim (cases_eq p at) [
        | inl e ↦ absurd (not_held x (ap (λ (i : ℕ). get_or a.forest.held i None) (sym e) ∙ is))
        | inr ne ↦ ends_there p ne ∙ s.forest.held p x is
      ];
    };
    meters = as_many ∙ s.meters;
    touched = λ m e is. (same.touched m e (λ k. bare m (is ∙ ap Some k))).0 (s.touched m e is);
  }
    where
      not_held : (x : Ends) → get_or a.forest.held at None ≡ Some x → ⊥
      not_held x is =
          let m = branch_slot a.slots at ((whole.paired.holds.exactly at).0 (subst IsSome (sym is) refl)) in
          bare m.0 m.1

  -- an assignment without the branch is one over the first network
  pub assigns-but : (B : List Pair) → IsAssignmentAt other.graph.ends other.meters.touches (every_item other.meters.touches) B → ((p : Pair) → In p B → p.1 ≢ at)
      → IsAssignmentAt one.graph.ends one.meters.touches (every_item one.meters.touches) B
  assigns-but B x bare = record {
    of_items = λ p i. subst (λ n. In p.0 (range_with_len 0 n)) as_many (x.of_items p i);
    touched = λ p i. (same.touched p.0 p.1 (bare p i)).1 (x.touched p i);
    different = x.different;
    forest = IsForestAt-agree other.graph.ends one.graph.ends (branches B)
        (λ e i. let q = In-branches_from B e i in ends_there e (λ k. bare q.0 q.1 (sym q.2 ∙ k))) x.forest;
  }

  -- where the branch is gone there can be no more pairs
  pub most-gone : (most : ℕ) → get_or other.graph.ends at None ≡ None → IsMost one.graph.ends one.meters.touches most → IsMost other.graph.ends other.meters.touches most
  most-gone most gone bound B x =
      bound B (assigns-but B x (λ p i e.
      let here = touched-present other.graph.ends (slice_index_or other.meters.touches p.0 Nothing) p.1 (x.touched p i) in
      absurd (true≢false (sym (subst IsSome (ap (λ (j : ℕ). get_or other.graph.ends j None) e ∙ gone) here)))))

  -- the pairs without the branch are at most one fewer
  without_branch : (B : List Pair) → IsAssignmentAt other.graph.ends other.meters.touches (every_item other.meters.touches) B
      → length B ≤ length (filter (λ (p : Pair). other_than at p.1) B) + 1
  without_branch B x =
      let A = filter (λ (p : Pair). other_than at p.1) B in
      let l = length-within (branches B) (at ∷ branches A) (distinct_branches other.graph.ends (branches B) x.forest) there in
      omega (arith, l, length-map B (λ (p : Pair). p.1), length-map A (λ (p : Pair). p.1))
    where
      there : (e : ℕ) → In e (branches B) → In e (at ∷ branches (filter (λ (p : Pair). other_than at p.1) B))
      there e i = elim (cases_eq e at) [
        | inl s ↦ inl s
        | inr n ↦
            let q = In-branches_from B e i in
            let A = filter (λ (p : Pair). other_than at p.1) B in
            inr (subst (λ y. In y (branches A)) (sym q.2) (In-branches A q.0 (In-filter (λ (p : Pair). other_than at p.1) q.0 B q.1 (other_true at q.0.1 (λ s. n (q.2 ∙ s))))))
      ]

  -- where the branch came there can be one pair more
  pub most-come : (most : ℕ) → AreBranches other.graph.vertices other.graph.ends → IsMost one.graph.ends one.meters.touches most → IsMost other.graph.ends other.meters.touches (most + 1)
  most-come most ok bound B x =
      let f : Pair → Bool = λ p. other_than at p.1 in
      let A = filter f B in
      let some = assigns-within other.graph.vertices other.graph.ends other.meters.touches ok (every_item other.meters.touches) B x A
      (IsDistinct-filter_items f B x.different) (λ p i. (In-filter_from f p B i).0) in
      let few = bound A (assigns-but A some (λ p i. other_ne at p.1 (In-filter_from f p B i).1)) in
      let one_fewer = without_branch B x in
      omega (arith, few, one_fewer)
