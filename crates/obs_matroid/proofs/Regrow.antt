-- An assignment grows as long as its frozen pairs allow.
use Rattle.std.proofs.Common.{◌≡◌, ℕ, zero, suc, ◌+◌, ◌≤◌, List, length, refl, inl, inr, Bool, true, arith}
use Rattle.obs_matroid.specs.Lists.{In, IsDistinct}
use Rattle.obs_matroid.specs.Matroid.{Matroid}
use Rattle.obs_matroid.specs.inner.Matroid.{IsMatroid}
use Rattle.obs_matroid.specs.Assignments.{Pair, items, IsAssignment}
use Rattle.obs_matroid.specs.inner.Closed.{HasFrozen, Extends, IsClosed, HoldsSources, every, IsRegrown}
use Rattle.obs_matroid.proofs.Lists.{In_same}
use Rattle.obs_matroid.proofs.Pairs.{In-items_from, same_pair}
use Rattle.obs_matroid.proofs.Closed.{closed_longest}
use Rattle.obs_matroid.proofs.Least.{grows_or_closes}
use Rattle.obs_matroid.proofs.Critical.{length-assignment}

module _ (g : Matroid) (laws : IsMatroid g) (touch : ℕ → List ℕ) (M : List ℕ) (frozen : ℕ → Bool) where
  -- an assignment with a closed set that holds each item without a pair is regrown
  pub IsRegrown-from_closed : (A : List Pair) (S : ℕ → Bool) → IsAssignment g touch M A → HasFrozen frozen A → IsClosed g touch M frozen A S → HoldsSources M every A S
      → IsRegrown g touch M frozen A A
  IsRegrown-from_closed A S a has s h = record {
    assigns = a;
    extends = λ p i f. i;
    keeps = λ x i. i;
    longest = λ B b x. closed_longest g laws touch M frozen A B S a b has x s (λ m i out. h m i refl out);
  }

  -- what B regrows to, A does too, where B has the frozen pairs of A and a pair for each of its items
  pub IsRegrown-from_later : (A B C : List Pair) → HasFrozen frozen A → IsAssignment g touch M B → Extends frozen A B → ((x : ℕ) → In x (items A) → In x (items B))
      → IsRegrown g touch M frozen B C → IsRegrown g touch M frozen A C
  IsRegrown-from_later A B C has b extends keeps r = record {
    assigns = r.assigns;
    extends = λ p i f. r.extends p (extends p i f) f;
    keeps = λ x i. r.keeps x (keeps x i);
    longest = λ D a x. r.longest D a (λ p i f.
        let v = In-items_from A p.0 (has p.0 f) in
        let z : frozen v.0.0 ≡ true = rw (← v.2) f in
        let e : p ≡ v.0 = same_pair B p v.0 b.different i (extends v.0 v.1 z) v.2 in
        In_same p v.0 D e (x v.0 v.1 z));
  }

module _ (g : Matroid) (laws : IsMatroid g) (touch : ℕ → List ℕ) (M : List ℕ) (frozen : ℕ → Bool) (d : IsDistinct M) where
  -- with fuel
  regrow_by : (n : ℕ) (A : List Pair) → IsAssignment g touch M A → HasFrozen frozen A → length M ≤ length A + n → (C : List Pair) × IsRegrown g touch M frozen A C
  regrow_by zero A a has l =
      elim (grows_or_closes g laws touch M frozen every A d a has) [
        | inr s ↦ (A, IsRegrown-from_closed g laws touch M frozen A s.0 a has s.1.closed s.1.holds)
        | inl b ↦ let k = length-assignment g laws touch M b.0 b.2.assigns in let e = b.2.longer in absurd (omega (arith, k, e, l))
      ]
  regrow_by (suc n) A a has l =
      elim (grows_or_closes g laws touch M frozen every A d a has) [
        | inr s ↦ (A, IsRegrown-from_closed g laws touch M frozen A s.0 a has s.1.closed s.1.holds)
        | inl b ↦
            let r = regrow_by n b.0 b.2.assigns (λ m f. b.2.keeps m (has m f)) (let e = b.2.longer in omega (arith, e, l)) in
            (r.0, IsRegrown-from_later g laws touch M frozen A b.0 r.0 has b.2.assigns b.2.extends b.2.keeps r.1)
      ]

  -- an assignment can be regrown
  pub regrow : (A : List Pair) → IsAssignment g touch M A → HasFrozen frozen A → (C : List Pair) × IsRegrown g touch M frozen A C
  regrow A a has = regrow_by (length M) A a has (omega arith)
