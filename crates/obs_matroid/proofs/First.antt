-- The first assignment, found item by item: what is known when some items are decided, and how the next one is.
use Rattle.std.proofs.Common.{refl, ◌≡◌, ℕ, ◌≤◌, ◌<◌, List, [], ◌∷◌, ◌++◌, length, sym, ap, ◌∙◌, inl, inr, Bool, true, ◌&&◌, arith, Some, None}
use Rattle.std.proofs.lemmas.Bool.{cases_order, and_parts, and_from}
use Rattle.obs_matroid.specs.Lists.{In}
use Rattle.obs_matroid.specs.Matroid.{Matroid}
use Rattle.obs_matroid.specs.Assignments.{Pair, items, IsAssignment}
use Rattle.obs_matroid.specs.inner.Closed.{Extends}
use Rattle.obs_matroid.specs.First.{branch_at, IsNotAfter}
use Rattle.obs_matroid.proofs.Lists.{is_in, is_in_from, is_in_at}
use Rattle.obs_matroid.proofs.Pairs.{In-items}
use Rattle.obs_matroid.proofs.Comparing.{branch_at_in, branch_at_from, cases_Option, Agree, IsNotAfter-push, IsNotAfter-same, Agree-from}

module _ (g : Matroid) (touch : ℕ → List ℕ) (M : List ℕ) where
  -- A is longest, and the least of the longest by the items of P, which are decided
  pub record IsLeastBy (P : List ℕ) (A : List Pair) : Type 0 where
    pub assigns : IsAssignment g touch M A
    pub longest : (B : List Pair) → IsAssignment g touch M B → length B ≤ length A
    pub least : (B : List Pair) → IsAssignment g touch M B → length B ≡ length A → IsNotAfter P A B

-- the decided items of P that have a pair: those to freeze
abbrev pub decided : List ℕ → List Pair → ℕ → Bool
decided P A x = is_in P x && is_in (items A) x

pub decided_from : (P : List ℕ) (A : List Pair) (x : ℕ) → decided P A x ≡ true → In x P × In x (items A)
decided_from P A x t = let u = and_parts (is_in P x) (is_in (items A) x) t in (is_in_from P x u.0, is_in_from (items A) x u.1)

pub decided_at : (P : List ℕ) (A : List Pair) (x : ℕ) → In x P → In x (items A) → decided P A x ≡ true
decided_at P A x p q = and_from (is_in P x) (is_in (items A) x) (is_in_at P x p) (is_in_at (items A) x q)

-- no longest assignment that has the decided pairs gives e to m, where A is one that has them
abbrev pub Impossible : Matroid → (ℕ → List ℕ) → List ℕ → List ℕ → ℕ → List Pair → ℕ → Type 0
Impossible g touch M P m A e = (B : List Pair) → IsAssignment g touch M B → length B ≡ length A → Extends (decided P A) A B → In (m, e) B → ⊥

module _ (g : Matroid) (touch : ℕ → List ℕ) (M P : List ℕ) (m : ℕ) (A : List Pair) (a : IsLeastBy g touch M P A) where
  -- a longest assignment that agrees with A at the decided items has their pairs
  extends_from : (B : List Pair) → Agree P A B → Extends (decided P A) A B
  extends_from B h p j t =
      let s : branch_at A p.0 ≡ Some p.1 = branch_at_in A p.0 p.1 a.assigns.different j in
      branch_at_from B p.0 p.1 (sym (h p.0 (decided_from P A p.0 t).0) ∙ s)

  -- and one that has their pairs agrees
  agree_with : (C : List Pair) → IsAssignment g touch M C → length C ≡ length A → Extends (decided P A) A C → Agree P A C
  agree_with C c l x = Agree-from P A C (a.least C c l) (λ y e j s.
      let v = branch_at_from A y e s in
      branch_at_in C y e c.different (x (y, e) v (decided_at P A y j (In-items A (y, e) v))))

  -- m takes the lowest branch that is possible
  pub next_chosen : (C : List Pair) (e : ℕ) → IsAssignment g touch M C → length C ≡ length A → Extends (decided P A) A C → In (m, e) C
      → ((y : ℕ) → In y (touch m) → y < e → Impossible g touch M P m A y) → IsLeastBy g touch M (P ++ m ∷ []) C
  next_chosen C e c l x j h = record {
    assigns = c;
    longest = λ B b. let k = a.longest B b in omega (arith, k, l);
    least = λ B b k.
        let ac : Agree P A C = agree_with C c l x in
        let kb : length B ≡ length A = omega (arith, k, l) in
        IsNotAfter-push P m C B (IsNotAfter-same P A C B B ac (λ x i. refl) (a.least B b kb)) (λ cb.
        let ce : branch_at C m ≡ Some e = branch_at_in C m e c.different j in
        elim (cases_Option (branch_at B m)) [
          | inl n ↦ inl (rw (ce, n) tt)
          | inr f ↦ let w = branch_at_from B m f.0 f.1 in
              elim (cases_order e f.0) [
                | inl s ↦ inr (ce ∙ ap Some s ∙ sym f.1)
                | inr o ↦ elim o [
                  | inl less ↦ inl (rw (ce, f.1) less)
                  | inr more ↦ absurd (h f.0 (b.touched (m, f.0) w) more B b kb (extends_from B (λ y q. ac y q ∙ cb y q)) w)
                ]
              ]
        ]);
  }

  -- or none, where none is possible
  pub next_none : (C : List Pair) → IsAssignment g touch M C → length C ≡ length A → Extends (decided P A) A C
      → ((e : ℕ) → In e (touch m) → Impossible g touch M P m A e) → IsLeastBy g touch M (P ++ m ∷ []) C
  next_none C c l x h =
      let bare : (B : List Pair) → IsAssignment g touch M B → length B ≡ length A → Agree P A B → branch_at B m ≡ None = λ B b k ab.
      elim (cases_Option (branch_at B m)) [
        | inl n ↦ n
        | inr f ↦ let w = branch_at_from B m f.0 f.1 in absurd (h f.0 (b.touched (m, f.0) w) B b k (extends_from B ab) w)
      ] in
      let ac : Agree P A C = agree_with C c l x in
      record {
        assigns = c;
        longest = λ B b. let k = a.longest B b in omega (arith, k, l);
        least = λ B b k.
            let kb : length B ≡ length A = omega (arith, k, l) in
            IsNotAfter-push P m C B (IsNotAfter-same P A C B B ac (λ x i. refl) (a.least B b kb)) (λ cb.
            inr (bare C c l ac ∙ sym (bare B b kb (λ y q. ac y q ∙ cb y q))));
      }
