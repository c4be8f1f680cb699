-- Pairs by meter: what stands in two rising lists is the same list.
use Rattle.std.proofs.Common.{◌≡◌, ℕ, suc, ◌≤◌, not, Option, Some, None, List, [], ◌∷◌, refl, sym, ap, ◌∙◌, subst, inl, inr, ◌↔◌, arith}
use Rattle.obs_matroid.specs.Lists.{In, IsRising}
use Rattle.obs_matroid.specs.Matroid.{Matroid}
use Rattle.obs_matroid.specs.Assignments.{Pair, items}
use Rattle.obs_matroid.specs.inner.Slots.{pairs_from, pairs_of}
use Rattle.obs_matroid.specs.Values.{first_of, first_with}
use Rattle.obs_matroid.proofs.Computed.{pick_is}
use Rattle.obs_matroid.proofs.Pairs.{In-items}

same_rising : (p q : Pair) (A B : List Pair) → IsRising (items (p ∷ A)) → IsRising (items (q ∷ B)) → In p (q ∷ B) → In q (p ∷ A) → p ≡ q
same_rising p q A B a b (inl e) j = e
same_rising p q A B a b (inr i) (inl e) = sym e
same_rising p q A B a b (inr i) (inr j) = let k = b.0 p.0 (In-items B p i) in let l = a.0 q.0 (In-items A q j) in absurd (omega (arith, k, l))

tail_in : (p q r : Pair) (A B : List Pair) → IsRising (items (p ∷ A)) → p ≡ q → In r A → In r (q ∷ B) → In r B
tail_in p q r A B a e i (inl s) = let k = a.0 r.0 (In-items A r i) in let l = ap (λ (x : Pair). x.0) (s ∙ sym e) in absurd (omega (arith, k, l))
tail_in p q r A B a e i (inr j) = j

-- two lists of the same pairs, by rising items, are one
pub pairs_same : (A B : List Pair) → IsRising (items A) → IsRising (items B) → ((p : Pair) → In p A ↔ In p B) → A ≡ B
pairs_same [] [] a b h = refl
pairs_same [] (q ∷ B) a b h = absurd ((h q).1 (inl refl))
pairs_same (p ∷ A) [] a b h = absurd ((h p).0 (inl refl))
pairs_same (p ∷ A) (q ∷ B) a b h =
    let e : p ≡ q = same_rising p q A B a b ((h p).0 (inl refl)) ((h q).1 (inl refl)) in
    let rest : A ≡ B = pairs_same A B a.1 b.1 (λ r. (
      (λ i. tail_in p q r A B a e i ((h r).0 (inr i))),
      (λ i. tail_in q p r B A b (sym e) i ((h r).1 (inr i))),
    )) in
    ap (λ (x : Pair). x ∷ A) e ∙ ap (λ (xs : List Pair). q ∷ xs) rest

slots_low : (n : ℕ) (slots : List (Option ℕ)) (x : ℕ) → In x (items (pairs_from n slots)) → n ≤ x
slots_low n [] x i = absurd i
slots_low n (None ∷ slots) x i = let l = slots_low (suc n) slots x i in omega (arith, l)
slots_low n (Some e ∷ slots) x (inl s) = omega (arith, s)
slots_low n (Some e ∷ slots) x (inr i) = let l = slots_low (suc n) slots x i in omega (arith, l)

slots_rising : (n : ℕ) (slots : List (Option ℕ)) → IsRising (items (pairs_from n slots))
slots_rising n [] = tt
slots_rising n (None ∷ slots) = slots_rising (suc n) slots
slots_rising n (Some e ∷ slots) = ((λ y i. let l = slots_low (suc n) slots y i in omega (arith, l)), slots_rising (suc n) slots)

-- the pairs of slots rise
pub IsRising-slots : (slots : List (Option ℕ)) → IsRising (items (pairs_of slots))
IsRising-slots slots = slots_rising 0 slots

-- the items of the pairs are some of M, and rise
AreListed : List ℕ → List Pair → Type 0
AreListed M A = ((x : ℕ) → In x (items A) → In x M) × IsRising (items A)

first_listed : (g : Matroid) (touch : ℕ → List ℕ) (M L : List ℕ) → IsRising M → AreListed M (first_with g touch M L)
unfolding first_with AreListed
first_listed g touch [] L r = ((λ x i. absurd i), tt)
first_listed g touch (m ∷ M) L r =
    elim (pick_is (λ e. not (g.spans L e)) (λ e. (m, e) ∷ first_with g touch M (e ∷ L)) (first_with g touch M L) (touch m)) [
      | inl c ↦
          let rest = first_listed g touch M L r.1 in
          subst (AreListed (m ∷ M)) (sym c.0) ((λ x i. inr (rest.0 x i)), rest.1)
      | inr c ↦
          let rest = first_listed g touch M (c.0 ∷ L) r.1 in
          subst (AreListed (m ∷ M)) (sym c.3) ((λ x i. elim i [ inl e ↦ inl e | inr j ↦ inr (rest.0 x j) ]), ((λ y i. r.0 y (rest.0 y i)), rest.1))
    ]

-- the computed pairs rise
pub IsRising-first_of : (g : Matroid) (touch : ℕ → List ℕ) (M : List ℕ) → IsRising M → IsRising (items (first_of g touch M))
unfolding first_of AreListed
IsRising-first_of g touch M r = (first_listed g touch M [] r).1
