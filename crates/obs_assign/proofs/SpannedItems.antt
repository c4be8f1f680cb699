-- Items whose touched branches have their ends joined by what others touch.
use Rattle.std.proofs.Common.{◌≡◌, ℕ, ◌≤◌, ◌||◌, Bool, true, false, not, Option, List, ◌++◌, length, refl, sym, ◌∙◌, inl, inr, arith, eqb}
use Rattle.std.specs.Prelude.{flat_map}
use Rattle.std.specs.List.{list_any}
use Rattle.std.proofs.lemmas.Bool.{false≢true, or_cases}
use Rattle.obs_graph.specs.declared.Ends.{Ends}
use Rattle.obs_graph.specs.Positions.{AreBranches}
use Rattle.obs_matroid.specs.Assignments.{Pair}
use Rattle.obs_matroid.specs.Bounds.{inside, outside}
use Rattle.obs_matroid.specs.Lists.{In}
use Rattle.obs_matroid.proofs.Bounds.{length-part_items, length-part_rank, length-parts}
use Rattle.obs_matroid.proofs.Lists.{In-append_cases, In-filter, In-flat_map}
use Rattle.obs_meter.specs.declared.Touch.{Touch}
use Rattle.obs_meter.specs.Assignments.{IsAssignmentAt}
use Rattle.obs_meter.specs.inner.Assignments.{bound_at}
use Rattle.obs_meter.specs.Spanned.{graph_matroid}
use Rattle.obs_meter.specs.Touches.{touch_at}
use Rattle.obs_meter.proofs.Assigned.{to_matroid}
use Rattle.obs_meter.proofs.Instance.{IsMatroid-graph}
use Rattle.obs_meter.proofs.Touched.{In-from_any, any-from_In}
use Rattle.obs_assign.specs.inner.Pins.{joins}

-- no assignment is longer than a bound, though such items take part
pub spanned_bound_at : (n : ℕ) (ends : List (Option Ends)) (touches : List Touch) (M X : List ℕ) (J : ℕ → Bool) (A : List Pair)
    → AreBranches n ends → IsAssignmentAt ends touches (M ++ X) A
    → ((m e : ℕ) → In m X → In e (touch_at ends touches m) → joins ends (flat_map (touch_at ends touches) (inside J M)) e ≡ true)
    → length A ≤ bound_at n ends touches J M
spanned_bound_at n ends touches M X J A branches a spanned =
    let g = graph_matroid n ends in
    let laws = IsMatroid-graph n ends branches in
    let touch = touch_at ends touches in
    let list = flat_map touch (inside J M) in
    let more : ℕ → Bool = λ m. list_any (λ x. eqb x m) X in
    let is : ℕ → Bool = λ m. J m || more m in
    let b = to_matroid n ends touches (M ++ X) A a in
    let parts = length-parts is A in
    let in_rank = length-part_rank g laws touch (M ++ X) A is list b
    (λ p i t. elim (or_cases (J p.0) (more p.0) t) [
      | inl e ↦ elim (In-append_cases p.0 M X (a.of_items p i)) [
        | inl k ↦ laws.member list p.1 (In-flat_map touch p.0 p.1 (inside J M) (In-filter J p.0 M k e) (a.touched p i))
        | inr k ↦ spanned p.0 p.1 k (a.touched p i)
      ]
      | inr e ↦ spanned p.0 p.1 (In-from_any X p.0 e) (a.touched p i)
    ]) in
    let outer = length-part_items g laws touch (M ++ X) A (λ m. not (is m)) (outside J M) b
    (λ p i t. elim (In-append_cases p.0 M X (a.of_items p i)) [
      | inl k ↦ In-filter (λ m. not (J m)) p.0 M k (neither (J p.0) (more p.0) t).0
      | inr k ↦ absurd (false≢true (sym (neither (J p.0) (more p.0) t).1 ∙ any-from_In X p.0 k))
    ]) in
    omega (arith, parts, in_rank, outer)
  where
    neither : (x y : Bool) → not (x || y) ≡ true → (not x ≡ true) × (y ≡ false)
    neither true y h = absurd (false≢true h)
    neither false true h = absurd (false≢true h)
    neither false false h = (refl, refl)
