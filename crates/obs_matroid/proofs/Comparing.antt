-- Assignments compared item by item.
use Rattle.std.proofs.Common.{◌≡◌, ℕ, ◌<◌, List, [], ◌∷◌, ◌++◌, refl, sym, ap, ◌∙◌, inl, inr, ◌⊎◌, ◌↔◌, arith, Option, Some, None}
use Rattle.std.proofs.lemmas.Bool.{cases_eq, eq-eqb, ne_eqb}
use Rattle.obs_matroid.specs.Lists.{In, IsDistinct}
use Rattle.obs_matroid.specs.Matroid.{Matroid}
use Rattle.obs_matroid.specs.Assignments.{Pair, items, IsAssignment}
use Rattle.obs_matroid.specs.First.{branch_at, IsBefore, IsNotAfter}
use Rattle.obs_matroid.specs.inner.First.{IsFirst}
use Rattle.obs_matroid.proofs.Lists.{In_same}
use Rattle.obs_matroid.proofs.Pairs.{In-items}

-- the branch of an item is that of its pair
pub branch_at_in : (A : List Pair) (m e : ℕ) → IsDistinct (items A) → In (m, e) A → branch_at A m ≡ Some e
branch_at_in [] m e d i = absurd i
branch_at_in (p ∷ A) m e d (inl s) =
    let x : p.0 ≡ m = sym (ap (λ (q : Pair). q.0) s) in
    rw (eq-eqb p.0 m x) (ap Some (sym (ap (λ (q : Pair). q.1) s)))
branch_at_in (p ∷ A) m e d (inr i) =
    rw (ne_eqb p.0 m (λ s. d.0 (In_same p.0 m (items A) s (In-items A (m, e) i)))) (branch_at_in A m e d.1 i)

pub branch_at_from : (A : List Pair) (m e : ℕ) → branch_at A m ≡ Some e → In (m, e) A
branch_at_from [] m e h = absurd (cc h)
branch_at_from (p ∷ A) m e h =
    elim (cases_eq p.0 m) [
      | inl s ↦ let k : Some p.1 ≡ Some e = rw (eq-eqb p.0 m s) at h in
          let y : p.1 ≡ e = cc k in inl (λ i. (sym s i, sym y i))
      | inr n ↦ inr (branch_at_from A m e (rw (ne_eqb p.0 m n) at h))
    ]

-- and the other way round
pub branch_at_none : (A : List Pair) (m : ℕ) → branch_at A m ≡ None → In m (items A) → ⊥
branch_at_none [] m h i = i
branch_at_none (p ∷ A) m h i =
    elim (cases_eq p.0 m) [
      | inl s ↦ let k : Some p.1 ≡ None = rw (eq-eqb p.0 m s) at h in cc k
      | inr n ↦ elim i [ inl e ↦ n (sym e) | inr j ↦ branch_at_none A m (rw (ne_eqb p.0 m n) at h) j ]
    ]

pub cases_Option : (o : Option ℕ) → (o ≡ None) ⊎ ((e : ℕ) × (o ≡ Some e))
cases_Option None = inl refl
cases_Option (Some e) = inr (e, refl)

-- an item that has no pair has no branch
pub branch_at_out : (A : List Pair) (m : ℕ) → (In m (items A) → ⊥) → branch_at A m ≡ None
branch_at_out [] m n = refl
branch_at_out (p ∷ A) m n = rw (ne_eqb p.0 m (λ e. n (inl (sym e)))) (branch_at_out A m (λ i. n (inr i)))

-- A and B agree at the items of P
abbrev pub Agree : List ℕ → List Pair → List Pair → Type 0
Agree P A B = (x : ℕ) → In x P → branch_at A x ≡ branch_at B x

-- one more item at the end
pub IsNotAfter-push : (P : List ℕ) (m : ℕ) (A B : List Pair) → IsNotAfter P A B
    → (Agree P A B → IsBefore (branch_at A m) (branch_at B m) ⊎ (branch_at A m ≡ branch_at B m)) → IsNotAfter (P ++ m ∷ []) A B
IsNotAfter-push [] m A B n h = elim (h (λ x i. absurd i)) [ inl b ↦ inl b | inr e ↦ inr (e, tt) ]
IsNotAfter-push (x ∷ P) m A B (inl b) h = inl b
IsNotAfter-push (x ∷ P) m A B (inr k) h = inr (k.0, IsNotAfter-push P m A B k.1 (λ a. h (λ y i. elim i [ inl e ↦ rw e k.0 | inr j ↦ a y j ])))

-- what agrees stands in the same order
pub IsNotAfter-same : (P : List ℕ) (A C B D : List Pair) → Agree P A C → Agree P B D → IsNotAfter P A B → IsNotAfter P C D
IsNotAfter-same [] A C B D h k n = tt
IsNotAfter-same (x ∷ P) A C B D h k (inl b) = inl (rw (← (h x (inl refl)), ← (k x (inl refl))) b)
IsNotAfter-same (x ∷ P) A C B D h k (inr c) =
    inr (sym (h x (inl refl)) ∙ c.0 ∙ k x (inl refl), IsNotAfter-same P A C B D (λ y i. h y (inr i)) (λ y i. k y (inr i)) c.1)

-- where A does not come after C, and C has what A has, they agree
pub Agree-from : (P : List ℕ) (A C : List Pair) → IsNotAfter P A C → ((x e : ℕ) → In x P → branch_at A x ≡ Some e → branch_at C x ≡ Some e) → Agree P A C
Agree-from [] A C n h = λ x i. absurd i
Agree-from (x ∷ P) A C (inl b) h = absurd (elim (cases_Option (branch_at A x)) [
  | inl z ↦ (rw z at b)
  | inr s ↦ let k = h x s.0 (inl refl) s.1 in
      let c : s.0 < s.0 = rw (s.1, k) at b in omega (arith, c)
])
Agree-from (x ∷ P) A C (inr k) h = λ y i. elim i [ inl e ↦ rw e k.0 | inr j ↦ Agree-from P A C k.1 (λ z e l. h z e (inr l)) y j ]

pub IsBefore-irreflexive : (o : Option ℕ) → IsBefore o o → ⊥
IsBefore-irreflexive None b = b
IsBefore-irreflexive (Some e) b = omega (arith, b)

IsBefore-one_way : (o p : Option ℕ) → IsBefore o p → IsBefore p o → ⊥
IsBefore-one_way None p b c = b
IsBefore-one_way (Some e) None b c = c
IsBefore-one_way (Some e) (Some f) b c = omega (arith, b, c)

-- two of which neither comes after the other agree
pub Agree-from_both : (P : List ℕ) (A B : List Pair) → IsNotAfter P A B → IsNotAfter P B A → Agree P A B
Agree-from_both [] A B n k = λ x i. absurd i
Agree-from_both (x ∷ P) A B (inl b) (inl c) = absurd (IsBefore-one_way (branch_at A x) (branch_at B x) b c)
Agree-from_both (x ∷ P) A B (inl b) (inr k) = absurd (IsBefore-irreflexive (branch_at A x) (rw k.0 at b))
Agree-from_both (x ∷ P) A B (inr k) (inl b) = absurd (IsBefore-irreflexive (branch_at B x) (rw k.0 at b))
Agree-from_both (x ∷ P) A B (inr h) (inr k) = λ y i. elim i [ inl e ↦ rw e h.0 | inr j ↦ Agree-from_both P A B h.1 k.1 y j ]

module _ (g : Matroid) (touch : ℕ → List ℕ) (M : List ℕ) where
  pairs_from_agree : (A B : List Pair) → IsAssignment g touch M A → Agree M A B → (p : Pair) → In p A → In p B
  pairs_from_agree A B a h p i =
      branch_at_from B p.0 p.1 (sym (h p.0 (a.of_items p i)) ∙ branch_at_in A p.0 p.1 a.different i)

  -- two first assignments have the same pairs
  pub first_unique : (A B : List Pair) → IsFirst g touch M A → IsFirst g touch M B → (p : Pair) → In p A ↔ In p B
  first_unique A B a b p =
      let k = a.longest B b.assigns in
      let l = b.longest A a.assigns in
      let n = a.least B b.assigns (omega (arith, k, l)) in
      let m = b.least A a.assigns (omega (arith, k, l)) in
      (pairs_from_agree A B a.assigns (Agree-from_both M A B n m) p, pairs_from_agree B A b.assigns (Agree-from_both M B A m n) p)

-- what comes first by a list comes first by the front of it
pub IsNotAfter-front : (P Q : List ℕ) (A B : List Pair) → IsNotAfter (P ++ Q) A B → IsNotAfter P A B
IsNotAfter-front [] Q A B n = tt
IsNotAfter-front (x ∷ P) Q A B (inl l) = inl l
IsNotAfter-front (x ∷ P) Q A B (inr c) = inr (c.0, IsNotAfter-front P Q A B c.1)
