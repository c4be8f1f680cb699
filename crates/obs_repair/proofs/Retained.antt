-- Which pairs are kept where some are given up for a new network.
use Rattle.std.proofs.Common.{◌⊎◌, inl, inr, ◌≡◌, ℕ, ◌+◌, ◌≤◌, List, ◌∷◌, length, sym, subst, arith}
use Rattle.std.specs.Prelude.{IsSome, Option, None, slice_index_or}
use Rattle.std.proofs.lemmas.List.{length-map}
use Rattle.obs_graph.specs.declared.Ends.{Ends}
use Rattle.obs_graph.specs.Positions.{AreBranches, IsForestAt}
use Rattle.obs_matroid.specs.Lists.{In, IsDistinct}
use Rattle.obs_matroid.specs.Assignments.{Pair, branches, items}
use Rattle.obs_matroid.proofs.Contained.{All-from_In}
use Rattle.obs_matroid.proofs.Lists.{In-filter_from, cases_In, find_in, length-within}
use Rattle.obs_matroid.proofs.Order.{IsAssignment-within}
use Rattle.obs_matroid.proofs.Pairs.{In-branches_from, In-items, In-items_from, IsDistinct-filter_items, items_within, same_pair}
use Rattle.obs_meter.specs.declared.Touch.{Touch}
use Rattle.obs_meter.specs.Assignments.{IsAssignmentAt}
use Rattle.obs_meter.specs.Spanned.{graph_matroid}
use Rattle.obs_meter.specs.Touches.{touch_at}
use Rattle.obs_meter.proofs.Assigned.{from_matroid, to_matroid}
use Rattle.obs_meter.proofs.Instance.{IsMatroid-graph}
use Rattle.obs_meter.proofs.Touched.{touched-present}
use Rattle.obs_assign.specs.inner.Still.{is_still, still}
use Rattle.obs_assign.proofs.Standing.{still_from}
use Rattle.obs_network.specs.inner.Edited.{ArePresent}

-- the kept pairs are some of those that stand, and at most one fewer
module _ (standing kept : List Pair) (apart : IsDistinct (items standing)) (apart_kept : IsDistinct (items kept)) (within : (p : Pair) → In p kept → In p standing) where
  pub few : length kept ≤ length standing
  few =
      let l = length-within (items kept) (items standing) apart_kept (items_within kept standing within) in
      omega (arith, l, length-map kept (λ (p : Pair). p.0), length-map standing (λ (p : Pair). p.0))

  -- where two weren't kept they would be two fewer
  two_lost : length standing ≤ length kept + 1 → (p q : Pair) → In p standing → In q standing → (q.0 ≡ p.0 → ⊥) → (In p.0 (items kept) → ⊥) → (In q.0 (items kept) → ⊥) → ⊥
  two_lost all_but_one p q ip iq ne np nq =
      let l = length-within (p.0 ∷ q.0 ∷ items kept) (items standing) (not_again, (nq, apart_kept)) there in
      absurd (omega (arith, l, all_but_one, length-map kept (λ (p : Pair). p.0), length-map standing (λ (p : Pair). p.0)))
    where
      not_again : In p.0 (q.0 ∷ items kept) → ⊥
      not_again (inl s) = ne (sym s)
      not_again (inr i) = np i

      there : (x : ℕ) → In x (p.0 ∷ q.0 ∷ items kept) → In x (items standing)
      there x (inl s) = subst (λ y. In y (items standing)) (sym s) (In-items standing p ip)
      there x (inr (inl s)) = subst (λ y. In y (items standing)) (sym s) (In-items standing q iq)
      there x (inr (inr i)) = items_within kept standing within x i

  -- a standing pair whose meter has a kept one is that one
  there_kept : (p : Pair) → In p standing → In p.0 (items kept) → In p kept
  there_kept p i m =
      let q = In-items_from kept p.0 m in
      subst (λ x. In x kept) (sym (same_pair standing p q.0 apart i (within q.0 q.1) q.2)) q.1

  missed : (p : Pair) → In p standing → (In p.0 (items kept) → ⊥) ⊎ In p.0 (items kept)
  missed p i = elim (cases_In p.0 (items kept)) [ inl h ↦ inr h | inr n ↦ inl n ]

  -- so all are kept, but perhaps that of one meter
  pub lost_one : length standing ≤ length kept + 1 → (lost : ℕ) × ((p : Pair) → In p standing → (p.0 ≡ lost → ⊥) → In p kept)
  lost_one all_but_one =
      elim (find_in (λ (p : Pair). In p.0 (items kept) → ⊥) (λ (p : Pair). In p.0 (items kept)) standing missed) [
        | inl f ↦ (
          f.0.0,
          λ q i ne. elim (cases_In q.0 (items kept)) [
            | inl m ↦ there_kept q i m
            | inr n ↦ absurd (two_lost all_but_one f.0 q f.1 i ne f.2 n)
          ],
        )
        | inr all ↦ (0, λ q i ne. there_kept q i (all q i))
      ]

-- the pairs of an assignment that stand still, over the network before and what meters touch after
module _ (n : ℕ) (ends : List (Option Ends)) (touches : List Touch) (ok : AreBranches n ends) (M : List ℕ) (A : List Pair) (assigns : IsAssignmentAt ends touches M A) where
  -- some of the pairs are an assignment too
  pub assigns-within : (B : List Pair) → IsDistinct (items B) → ((p : Pair) → In p B → In p A) → IsAssignmentAt ends touches M B
  assigns-within B apart within =
      from_matroid n ends touches M B
      (IsAssignment-within (graph_matroid n ends) (IsMatroid-graph n ends ok) (touch_at ends touches) M A B (to_matroid n ends touches M A assigns) apart within)

  pub forest-still : (ends_after : List (Option Ends)) (touches_after : List Touch) → IsForestAt ends (branches (still ends_after touches_after A))
  forest-still ends_after touches_after =
      (assigns-within (still ends_after touches_after A) (IsDistinct-filter_items (is_still ends_after touches_after) A assigns.different)
      (λ p i. (In-filter_from (is_still ends_after touches_after) p A i).0)).forest

-- the branches of the pairs that stand still are present
pub present-still : (ends : List (Option Ends)) (touches : List Touch) (A : List Pair) → ArePresent ends (branches (still ends touches A))
present-still ends touches A = All-from_In (λ p. IsSome (slice_index_or ends p None)) (branches (still ends touches A)) there
  where
    there : (e : ℕ) → In e (branches (still ends touches A)) → IsSome (slice_index_or ends e None)
    there e i =
        let q = In-branches_from (still ends touches A) e i in
        let s = still_from ends touches A q.0 q.1 in
        subst (λ x. IsSome (slice_index_or ends x None)) (sym q.2) (touched-present ends (slice_index_or touches q.0.0 Touch.Nothing) q.0.1 s.1)
