-- The first vertex that is joined with a vertex.
use Rattle.std.proofs.Common.{◌≡◌, ℕ, ◌≤◌, min, max, true, false, not, eqb, ◌⊎◌, ⊎_elim, List, [], ◌∷◌, refl, sym, ap, ◌∙◌, arith}
use Rattle.std.proofs.lemmas.Bool.{cases_eq, eq-eqb, ne_eqb, cond-true, cond-false}
use Rattle.std.proofs.lemmas.Bool.Decides.{nat_tests}
use Rattle.obs_graph.specs.declared.Ends.{Ends}
use Rattle.obs_graph.specs.Joined.{merged, first_joined, is_joined, some_below}
use Rattle.obs_graph.proofs.Counts.{some_below-true, some_below-false}

pub merged-top : (x y z : ℕ) → z ≡ max x y → merged x y z ≡ min x y
merged-top x y z e = cond-true (eqb z (max x y)) (min x y) z (eq-eqb z (max x y) e)

pub merged-other : (x y z : ℕ) → (z ≡ max x y → ⊥) → merged x y z ≡ z
merged-other x y z ne = cond-false (eqb z (max x y)) (min x y) z (ne_eqb z (max x y) ne)

-- either the vertex is the greater one, and the lower one takes its place, or it stays
pub merged_cases : (x y z : ℕ) → ((z ≡ max x y) × (merged x y z ≡ min x y)) ⊎ ((z ≡ max x y → ⊥) × (merged x y z ≡ z))
merged_cases x y z = grind (arith, nat_tests)

pub merged-le : (x y z : ℕ) → merged x y z ≤ z
merged-le x y z = grind (arith, merged_cases x y z)

pub merged-min : (x y : ℕ) → merged x y (min x y) ≡ min x y
merged-min x y = grind (arith, merged_cases x y (min x y))

pub merged-left : (x y : ℕ) → merged x y x ≡ min x y
merged-left x y = grind (arith, merged_cases x y x)

pub merged-right : (x y : ℕ) → merged x y y ≡ min x y
merged-right x y = grind (arith, merged_cases x y y)

pub merged-same : (x z : ℕ) → merged x x z ≡ z
merged-same x z = grind (arith, merged_cases x x z)

min_fixed : (r : ℕ → ℕ) (x y : ℕ) → r x ≡ x → r y ≡ y → r (min x y) ≡ min x y
min_fixed r x y ex ey =
    ⊎_elim
    (λ (is : min x y ≡ x). ap r is ∙ (ex ∙ sym is))
    (λ (is : min x y ≡ y). ap r is ∙ (ey ∙ sym is))
    (min_cases x y)
  where
    min_cases : (x y : ℕ) → (min x y ≡ x) ⊎ (min x y ≡ y)
    min_cases x y = grind arith

merged_fixed : (r : ℕ → ℕ) (x y z : ℕ) → r x ≡ x → r y ≡ y → r z ≡ z → merged x y (r (merged x y z)) ≡ merged x y z
merged_fixed r x y z ex ey ez =
    ⊎_elim
    (λ top. let m = min_fixed r x y ex ey in ap (λ t. merged x y (r t)) top.1 ∙ (ap (merged x y) m ∙ (merged-min x y ∙ sym top.1)))
    (λ other. ap (λ t. merged x y (r t)) other.1 ∙ ap (merged x y) ez)
    (merged_cases x y z)

pub first_joined-le : (es : List Ends) (u : ℕ) → first_joined es u ≤ u
first_joined-le [] u = omega arith
first_joined-le (e ∷ es) u = omega (arith, merged-le (first_joined es e.a) (first_joined es e.b) (first_joined es u), first_joined-le es u)

-- the first vertex is its own first vertex
pub first_joined-first_joined : (es : List Ends) (u : ℕ) → first_joined es (first_joined es u) ≡ first_joined es u
first_joined-first_joined [] u = refl
first_joined-first_joined (e ∷ es) u =
    merged_fixed (first_joined es) (first_joined es e.a) (first_joined es e.b) (first_joined es u) (first_joined-first_joined es e.a) (first_joined-first_joined es e.b) (first_joined-first_joined es u)

-- the ends of a branch have one first vertex
pub first_joined-ends : (e : Ends) (es : List Ends) → first_joined (e ∷ es) e.a ≡ first_joined (e ∷ es) e.b
first_joined-ends e es = merged-left (first_joined es e.a) (first_joined es e.b) ∙ sym (merged-right (first_joined es e.a) (first_joined es e.b))

-- a vertex is joined with a lower one exactly where it is not its own first vertex
pub some_below-is_joined : (es : List Ends) (u : ℕ) → some_below (λ v. is_joined es u v) u ≡ not (eqb (first_joined es u) u)
some_below-is_joined es u =
    ⊎_elim
    (λ (e : first_joined es u ≡ u).
    let none : some_below (λ v. is_joined es u v) u ≡ false = some_below-false (λ v. is_joined es u v) u (λ v l. ne_eqb (first_joined es u) (first_joined es v) (λ same. omega (arith, first_joined-le es v))) in
    none ∙ ap not (sym (eq-eqb (first_joined es u) u e)))
    (λ (ne : first_joined es u ≡ u → ⊥).
    let some : some_below (λ v. is_joined es u v) u ≡ true = some_below-true (λ v. is_joined es u v) u (first_joined es u) (omega (arith, first_joined-le es u)) (eq-eqb (first_joined es u) (first_joined es (first_joined es u)) (sym (first_joined-first_joined es u))) in
    some ∙ ap not (sym (ne_eqb (first_joined es u) u ne)))
    (cases_eq (first_joined es u) u)
