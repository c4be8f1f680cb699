-- The first assignment of all items has in each component the first assignment of the component's items alone.
use Rattle.std.proofs.Common.{◌≡◌, ℕ, ◌+◌, Bool, true, false, not, Some, None, List, [], ◌∷◌, ◌++◌, length, filter, refl, sym, ap, ◌∙◌, subst, inl, inr, arith, length-append}
use Rattle.std.specs.Prelude.{cond, ◌==◌}
use Rattle.std.proofs.lemmas.Bool.{cases_Bool, eq-eqb, eqb-true, ne_eqb, not-true}
use Rattle.std.proofs.lemmas.List.{map-append}
use Rattle.obs_matroid.specs.Lists.{In, IsDistinct}
use Rattle.obs_matroid.specs.Matroid.{IsIndependent, Matroid}
use Rattle.obs_matroid.specs.inner.Matroid.{IsMatroid}
use Rattle.obs_matroid.specs.Assignments.{IsAssignment, Pair, branches, items}
use Rattle.obs_matroid.specs.inner.Assignments.{part}
use Rattle.obs_matroid.specs.inner.Components.{IsSumOfKinds, is_of}
use Rattle.obs_matroid.specs.First.{IsNotAfter, branch_at}
use Rattle.obs_matroid.specs.inner.First.{IsFirst}
use Rattle.obs_matroid.proofs.Bounds.{length-parts}
use Rattle.obs_matroid.proofs.Comparing.{branch_at_out, IsBefore-irreflexive}
use Rattle.obs_matroid.proofs.Components.{free_together}
use Rattle.obs_matroid.proofs.Lists.{IsDistinct-append, In-append_cases, In-filter, In-filter_from, clash}
use Rattle.obs_matroid.proofs.Pairs.{In-branches_from, In-items_from, In-part_from}
use Rattle.obs_matroid.proofs.Placement.{IsAssignment-items, IsAssignment-part}

-- the branch of an item among the pairs of some items, and among two lists of pairs
branch_at-part : (S : ℕ → Bool) (A : List Pair) (x : ℕ) → S x ≡ true → branch_at (part S A) x ≡ branch_at A x
branch_at-part S [] x t = refl
branch_at-part S (p ∷ A) x t = elim (cases_Bool (S p.0)) [
  | inl e ↦ rw e (ap (cond (p.0 == x) (Some p.1)) (branch_at-part S A x t))
  | inr e ↦ rw (e, ne_eqb p.0 x (λ s. clash t (ap S (sym s) ∙ e))) (branch_at-part S A x t)
]

branch_at-left : (B C : List Pair) (x : ℕ) → branch_at C x ≡ None → branch_at (B ++ C) x ≡ branch_at B x
branch_at-left [] C x h = h
branch_at-left (p ∷ B) C x h = ap (cond (p.0 == x) (Some p.1)) (branch_at-left B C x h)

branch_at-right : (B C : List Pair) (x : ℕ) → (In x (items B) → ⊥) → branch_at (B ++ C) x ≡ branch_at C x
branch_at-right [] C x n = refl
branch_at-right (p ∷ B) C x n = rw (ne_eqb p.0 x (λ e. n (inl (sym e)))) (branch_at-right B C x (λ i. n (inr i)))

-- where two assignments agree at the other items, the order of the two is that by the items of S
IsNotAfter-part : (S : ℕ → Bool) (M : List ℕ) (A C P B : List Pair) → ((x : ℕ) → S x ≡ true → branch_at A x ≡ branch_at P x) → ((x : ℕ) → S x ≡ true → branch_at C x ≡ branch_at B x)
    → ((x : ℕ) → S x ≡ false → branch_at A x ≡ branch_at C x) → IsNotAfter M A C → IsNotAfter (filter S M) P B
IsNotAfter-part S [] A C P B h k other n = tt
IsNotAfter-part S (x ∷ M) A C P B h k other (inl b) = elim (cases_Bool (S x)) [
  | inl t ↦ rw t (inl (rw (← (h x t), ← (k x t)) b))
  | inr f ↦ absurd (IsBefore-irreflexive (branch_at C x) (rw (other x f) at b))
]
IsNotAfter-part S (x ∷ M) A C P B h k other (inr c) = elim (cases_Bool (S x)) [
  | inl t ↦ rw t (inr (sym (h x t) ∙ (c.0 ∙ k x t), IsNotAfter-part S M A C P B h k other c.1))
  | inr f ↦ rw f (IsNotAfter-part S M A C P B h k other c.1)
]

module _ (g : Matroid) (laws : IsMatroid g) (touch : ℕ → List ℕ) (kind of : ℕ → ℕ) (local : IsSumOfKinds g kind)
    (own : (m e : ℕ) → In e (touch m) → kind e ≡ of m) (K : ℕ) where
  abbrev here : ℕ → Bool
  here = is_of of K

  abbrev there : ℕ → Bool
  there x = not (is_of of K x)

  module _ (M : List ℕ) (A : List Pair) (a : IsAssignment g touch M A) (B : List Pair) (b : IsAssignment g touch (filter here M) B) where
    item_here : (p : Pair) → In p B → In p.0 M × (here p.0 ≡ true)
    item_here p i = In-filter_from here p.0 M (b.of_items p i)

    item_there : (p : Pair) → In p (part there A) → In p A × (here p.0 ≡ false)
    item_there p i = let u = In-part_from there A p i in (u.0, not-true (here p.0) u.1)

    -- pairs of the component put in place of those of A
    abbrev replaced : List Pair
    replaced = B ++ part there A

    assigns_replaced : IsAssignment g touch M replaced
    assigns_replaced =
        let rest = IsAssignment-part g laws touch M there A a in
        let cases = λ (p : Pair) (i : In p replaced). In-append_cases p B (part there A) i in
        record {
          of_items = λ p i. elim (cases p i) [ inl j ↦ (item_here p j).0 | inr j ↦ rest.of_items p j ];
          touched = λ p i. elim (cases p i) [ inl j ↦ b.touched p j | inr j ↦ rest.touched p j ];
          different = subst (λ (xs : List ℕ). IsDistinct xs) (sym (map-append (λ (p : Pair). p.0) B (part there A)))
              (IsDistinct-append (items B) (items (part there A)) b.different rest.different (λ x i j.
              let u = In-items_from B x i in
              let w = In-items_from (part there A) x j in
              clash (item_here u.0 u.1).1 (ap here (sym u.2 ∙ w.2) ∙ (item_there w.0 w.1).1)));
          independent = subst (λ (xs : List ℕ). IsIndependent g xs) (sym (map-append (λ (p : Pair). p.1) B (part there A)))
              (free_together g laws kind local K (branches B) (branches (part there A)) b.independent rest.independent
              (λ e i. let u = In-branches_from B e i in ap kind u.2 ∙ (own u.0.0 u.0.1 (b.touched u.0 u.1) ∙ eqb-true (of u.0.0) K (item_here u.0 u.1).1))
              (λ e i s. let w = In-branches_from (part there A) e i in
              clash (eq-eqb (of w.0.0) K (sym (own w.0.0 w.0.1 (rest.touched w.0 w.1)) ∙ (ap kind (sym w.2) ∙ s))) (item_there w.0 w.1).1));
        }

    length_replaced : length replaced + length (part here A) ≡ length B + length A
    length_replaced = let l = length-append B (part there A) in let p = length-parts here A in omega (arith, l, p)

    branch_here : (x : ℕ) → here x ≡ true → branch_at replaced x ≡ branch_at B x
    branch_here x t = branch_at-left B (part there A) x (branch_at_out (part there A) x (λ i. let w = In-items_from (part there A) x i in clash (ap here (sym w.2) ∙ t) (item_there w.0 w.1).1))

    branch_there : (x : ℕ) → here x ≡ false → branch_at A x ≡ branch_at replaced x
    branch_there x f =
        sym (branch_at-right B (part there A) x (λ i. let u = In-items_from B x i in clash (ap here u.2 ∙ (item_here u.0 u.1).1) f)
        ∙ branch_at-part there A x (ap not f))

  pub first_in_component : (M : List ℕ) (A : List Pair) → IsFirst g touch M A → IsFirst g touch (filter here M) (part here A)
  first_in_component M A a = record {
    assigns = IsAssignment-items g laws touch M (filter here M) (part here A) (IsAssignment-part g laws touch M here A a.assigns)
        (λ p i. let u = In-part_from here A p i in In-filter here p.0 M (a.assigns.of_items p u.0) u.1);
    longest = λ B b. let l = a.longest (B ++ part there A) (assigns_replaced M A a.assigns B b) in let e = length_replaced M A a.assigns B b in omega (arith, l, e);
    least = λ B b s.
        let e = length_replaced M A a.assigns B b in
        IsNotAfter-part here M A (B ++ part there A) (part here A) B (λ x t. sym (branch_at-part here A x t)) (branch_here M A a.assigns B b) (branch_there M A a.assigns B b)
        (a.least (B ++ part there A) (assigns_replaced M A a.assigns B b) (omega (arith, e, s)));
  }
