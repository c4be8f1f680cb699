-- A pair can be made at the price of one other.
use Rattle.std.proofs.Common.{◌≡◌, ℕ, List, inl, inr, Bool, true, false, ◌⊎◌}
use Rattle.std.proofs.lemmas.Bool.{cases_Bool, cases_eq}
use Rattle.obs_matroid.specs.Lists.{In, other_than}
use Rattle.obs_matroid.specs.Matroid.{Matroid}
use Rattle.obs_matroid.specs.inner.Matroid.{IsMatroid}
use Rattle.obs_matroid.specs.Assignments.{Pair, items, branches, IsAssignment}
use Rattle.obs_matroid.specs.inner.Assignments.{part, others}
use Rattle.obs_matroid.specs.inner.Closed.{Extends}
use Rattle.obs_matroid.specs.inner.Exchange.{pinned, IsPinned}
use Rattle.obs_matroid.proofs.Lists.{clash, find_in, other_true}
use Rattle.obs_matroid.proofs.Pairs.{In-part, In-part_from, more_pairs, less_pairs, own}
use Rattle.obs_matroid.proofs.Exchange.{IsAssignment-put}
use Rattle.obs_matroid.proofs.Placement.{IsAssignment-part}
use Rattle.obs_matroid.proofs.Least.{spans_cut}

module _ (g : Matroid) (laws : IsMatroid g) (touch : ℕ → List ℕ) (M : List ℕ) (frozen : ℕ → Bool) (A : List Pair) (m e : ℕ) where
  -- a pair of another item than m and x stays
  pinned_stays : (x : ℕ) (p : Pair) → In p A → (p.0 ≡ m) ⊎ ((p.0 ≡ x) ⊎ In p (pinned A m e x))
  pinned_stays x p i =
      elim (cases_eq p.0 m) [
        | inl y ↦ inl y
        | inr n ↦ inr (elim (cases_eq p.0 x) [
          | inl y ↦ inl y
          | inr k ↦ inr (inr (In-part (other_than m) (part (other_than x) A) p (In-part (other_than x) A p i (other_true x p.0 k)) (other_true m p.0 n)))
        ])
      ]

  -- m and e are pinned at the price of each x that is not frozen and without whose pair, and that of m, the pairs do not span e
  pub pinned_by : IsAssignment g touch M A → In m M → In e (touch m) → frozen m ≡ false
      → (x : ℕ) → frozen x ≡ false → g.spans (others (part (other_than m) A) x) e ≡ false → IsPinned g touch M frozen A m e x
  pinned_by a i t z x w s = record {
    not_frozen = w;
    assigns = IsAssignment-put g laws touch M (m, e) (part (other_than x) A) (IsAssignment-part g laws touch M (other_than x) A a) i t
        (less_pairs g laws (part (other_than m) (part (other_than x) A)) (part (other_than x) (part (other_than m) A)) e
        (λ p j. let u = In-part_from (other_than m) (part (other_than x) A) p j in
        let v = In-part_from (other_than x) A p u.0 in
        In-part (other_than x) (part (other_than m) A) p (In-part (other_than m) A p v.0 u.1) v.1) s);
    keeps = λ p j f. elim (pinned_stays x p j) [
      | inl y ↦ clash f (rw y z)
      | inr k ↦ elim k [ inl y ↦ clash f (rw y w) | inr l ↦ l ]
    ];
    others_stay = pinned_stays x;
  }

  -- m and e can be made a pair at the price of at most one further pair, which is not frozen
  pub pin_one : IsAssignment g touch M A → In m M → In e (touch m) → frozen m ≡ false → g.spans (branches (part frozen A)) e ≡ false
      → (x : ℕ) × IsPinned g touch M frozen A m e x
  pin_one a i t z n =
      let C : List Pair = part (other_than m) A in
      let c : IsAssignment g touch M C = IsAssignment-part g laws touch M (other_than m) A a in
      elim (cases_Bool (g.spans (branches C) e)) [
        | inr s ↦ (m, pinned_by a i t z m z (less_pairs g laws (part (other_than m) C) C e (λ p j. (In-part_from (other_than m) C p j).0) s))
        | inl s ↦
            let P : ℕ → Type 0 = λ x. (frozen x ≡ false) × (g.spans (others C x) e ≡ false) in
            let Q : ℕ → Type 0 = λ x. frozen x ≡ false → g.spans (others C x) e ≡ true in
            elim (find_in P Q (items C) (λ x j. elim (cases_Bool (frozen x)) [
              | inl f ↦ inr (λ w. clash f w)
              | inr f ↦ elim (cases_Bool (g.spans (others C x) e)) [ inl y ↦ inr (λ w. y) | inr y ↦ inl (f, y) ]
            ])) [
              | inl b ↦ (b.0, pinned_by a i t z b.0 b.2.0 b.2.1)
              | inr q ↦ clash (more_pairs g laws (part frozen C) (part frozen A) e
                  (λ p j. let u = In-part_from frozen C p j in In-part frozen A p (In-part_from (other_than m) A p u.0).0 u.1)
                  (spans_cut g laws C c.independent c.different e s frozen q)) n
            ]
      ]

-- where the frozen branches span e, no assignment that has the frozen pairs has the pair of m and e
pub pin_impossible : (g : Matroid) (laws : IsMatroid g) (touch : ℕ → List ℕ) (M : List ℕ) (frozen : ℕ → Bool) (A B : List Pair) (m e : ℕ) → IsAssignment g touch M B
    → Extends frozen A B → frozen m ≡ false → g.spans (branches (part frozen A)) e ≡ true → In (m, e) B → ⊥
pin_impossible g laws touch M frozen A B m e b x z s j = clash
    (more_pairs g laws (part frozen A) (part (other_than m) B) e
    (λ p k. let u = In-part_from frozen A p k in
    In-part (other_than m) B p (x p u.0 u.1) (other_true m p.0 (λ w. clash u.1 (rw w z)))) s)
    (own g laws B (m, e) b.independent b.different j)
