-- Items that are critical together.
use Rattle.std.proofs.Common.{◌≡◌, ℕ, suc, ◌≤◌, ◌<◌, List, [], ◌∷◌, refl, sym, subst, ap, ◌∙◌, inl, inr, ◌⊎◌, ◌↔◌, Bool, true, false, not, ◌&&◌, ◌||◌, eqb, ltb, arith}
use Rattle.std.specs.List.{filter}
use Rattle.std.specs.Cmp.Derive.{one_truth}
use Rattle.std.proofs.lemmas.Bool.{cases_Bool, cases_eq, cases_lt, not-true, and_parts, and_from, or_cases, or_left, or_right, eq-eqb, eqb-true, ltb-true, lt-ltb}
use Rattle.obs_matroid.specs.Lists.{In, IsDistinct, other_than, without}
use Rattle.obs_matroid.specs.Matroid.{Matroid}
use Rattle.obs_matroid.specs.inner.Matroid.{IsMatroid}
use Rattle.obs_matroid.specs.Assignments.{Pair, items, IsAssignment}
use Rattle.obs_matroid.specs.inner.Assignments.{IsRho}
use Rattle.obs_matroid.specs.inner.Closed.{IsLeastClosed, every, none}
use Rattle.obs_matroid.specs.inner.Critical.{IsCritical}
use Rattle.obs_matroid.specs.Partners.{class_of, first_passing, is_partner}
use Rattle.obs_matroid.specs.inner.Partners.{ArePartners}
use Rattle.obs_matroid.specs.Values.{rho_of, is_critical}
use Rattle.obs_matroid.proofs.Lists.{clash, In-filter, In-filter_from, cases_In, other_true, filter_out, IsDistinct-filter}
use Rattle.obs_matroid.proofs.Critical.{rho_same, marks_critical}
use Rattle.obs_matroid.proofs.Closed.{IsClosed-union}
use Rattle.obs_matroid.proofs.Pairs.{In-items}
use Rattle.obs_matroid.proofs.Computed.{rho_of_is, is_critical_is}
use Rattle.obs_matroid.proofs.Heredity.{critical_within}
use Rattle.obs_matroid.proofs.Placement.{IsRho-same, rho_more}

filter_swap : (p q : ℕ → Bool) (xs : List ℕ) → filter p (filter q xs) ≡ filter q (filter p xs)
filter_swap p q [] = refl
filter_swap p q (x ∷ xs) = by_tests (filter_swap p q xs) (p x) (q x) refl refl
  where
    by_tests : filter p (filter q xs) ≡ filter q (filter p xs) → (a b : Bool) → p x ≡ a → q x ≡ b → filter p (filter q (x ∷ xs)) ≡ filter q (filter p (x ∷ xs))
    by_tests same true true e f = rw (e, f) (rw e (ap (λ ys. x ∷ ys) same))
    by_tests same true false e f = rw (e, f) same
    by_tests same false true e f = rw (e, f) (rw e same)
    by_tests same false false e f = rw (e, f) same

filter_twice : (p : ℕ → Bool) (xs : List ℕ) → filter p (filter p xs) ≡ filter p xs
filter_twice p [] = refl
filter_twice p (x ∷ xs) = elim (cases_Bool (p x)) [ inl a ↦ rw a (rw a (ap (λ ys. x ∷ ys) (filter_twice p xs))) | inr a ↦ rw a (filter_twice p xs) ]

-- the first that passes does pass
passes_first : (test : ℕ → Bool) (d : ℕ) (xs : List ℕ) → test d ≡ true → test (first_passing test d xs) ≡ true
passes_first test d [] t = t
passes_first test d (x ∷ xs) t = elim (cases_Bool (test x)) [ inl y ↦ rw y y | inr n ↦ rw n (passes_first test d xs t) ]

first_same : (p q : ℕ → Bool) → ((x : ℕ) → p x ≡ q x) → (d : ℕ) (xs : List ℕ) → first_passing p d xs ≡ first_passing q d xs
first_same p q h d [] = refl
first_same p q h d (x ∷ xs) = elim (cases_Bool (p x)) [
  | inl y ↦ let z : q x ≡ true = sym (h x) ∙ y in rw (y, z) refl
  | inr n ↦ let z : q x ≡ false = sym (h x) ∙ n in rw (n, z) (first_same p q h d xs)
]

-- where one passes, it doesn't matter what is said for none
first_any : (p : ℕ → Bool) (d e : ℕ) (xs : List ℕ) (y : ℕ) → In y xs → p y ≡ true → first_passing p d xs ≡ first_passing p e xs
first_any p d e [] y i t = absurd i
first_any p d e (x ∷ xs) y i t = elim (cases_Bool (p x)) [
  | inl h ↦ rw h refl
  | inr n ↦ rw n (first_any p d e xs y (elim i [ inl s ↦ clash t (ap p s ∙ n) | inr j ↦ j ]) t)
]

In-items-at : (A : List Pair) (p : Pair) (u : ℕ) → In p A → p.0 ≡ u → In u (items A)
In-items-at A p u h e = subst (λ (x : ℕ). In x (items A)) e (In-items A p h)

module _ (g : Matroid) (laws : IsMatroid g) (touch : ℕ → List ℕ) where
  -- an item less takes at most one pair
  pub rho_less : (M : List ℕ) (m r s : ℕ) → IsDistinct M → IsRho g touch M r → IsRho g touch (without m M) s → (s ≤ r) × (r ≤ suc s)
  rho_less M m r s d p q =
      elim (cases_In m M) [
        | inl i ↦ rho_more g laws touch (without m M) m s r q (IsRho-same g laws touch M (m ∷ without m M) r
            (λ x k. elim (cases_eq x m) [ inl e ↦ inl e | inr n ↦ inr (In-filter (other_than m) x M k (other_true m x n)) ])
            (λ x k. elim k [ inl e ↦ subst (λ (y : ℕ). In y M) (sym e) i | inr j ↦ (In-filter_from (other_than m) x M j).0 ])
            p)
        | inr out ↦
            let e = rho_same g touch M r s p (subst (λ (N : List ℕ). IsRho g touch N s) (filter_out m M out) q) in
            (omega (arith, e), omega (arith, e))
      ]

  -- an item is critical exactly where the computed length falls
  crit_to : (N : List ℕ) → IsDistinct N → (m : ℕ) → IsCritical g touch N m → rho_of g touch (without m N) < rho_of g touch N
  crit_to N d m k = k (rho_of g touch N) (rho_of g touch (without m N)) (rho_of_is g laws touch N d) (rho_of_is g laws touch (without m N) (IsDistinct-filter (other_than m) N d))

  crit_from : (N : List ℕ) → IsDistinct N → (m : ℕ) → rho_of g touch (without m N) < rho_of g touch N → IsCritical g touch N m
  crit_from N d m l r s p q =
      let a = rho_same g touch N (rho_of g touch N) r (rho_of_is g laws touch N d) p in
      let b = rho_same g touch (without m N) (rho_of g touch (without m N)) s (rho_of_is g laws touch (without m N) (IsDistinct-filter (other_than m) N d)) q in
      omega (arith, a, b, l)

  not_critical : (N : List ℕ) → IsDistinct N → (m : ℕ) → (IsCritical g touch N m → ⊥) → rho_of g touch N ≤ rho_of g touch (without m N)
  not_critical N d m h = elim (cases_lt (rho_of g touch (without m N)) (rho_of g touch N)) [ inl l ↦ absurd (h (crit_from N d m l)) | inr l ↦ l ]

  module _ (M : List ℕ) (d : IsDistinct M) where
    -- the list without one item, and without two
    less : (m : ℕ) → IsDistinct (without m M)
    less m = IsDistinct-filter (other_than m) M d

    both : (m k : ℕ) → IsDistinct (without k (without m M))
    both m k = IsDistinct-filter (other_than k) (without m M) (less m)

    falls_to : (m k : ℕ) → ArePartners g touch M m k → rho_of g touch (without k (without m M)) < rho_of g touch M
    falls_to m k p = p.falls (rho_of g touch M) (rho_of g touch (without k (without m M))) (rho_of_is g laws touch M d) (rho_of_is g laws touch (without k (without m M)) (both m k))

    partners_from : (m k : ℕ) → (IsCritical g touch M m → ⊥) → (IsCritical g touch M k → ⊥) → rho_of g touch (without k (without m M)) < rho_of g touch M → ArePartners g touch M m k
    partners_from m k a b l = record {
      one_noncritical = a;
      other_noncritical = b;
      falls = λ r s p q.
          let x = rho_same g touch M (rho_of g touch M) r (rho_of_is g laws touch M d) p in
          let y = rho_same g touch (without k (without m M)) (rho_of g touch (without k (without m M))) s (rho_of_is g laws touch (without k (without m M)) (both m k)) q in
          omega (arith, x, y, l);
    }

    redundant_from : (m : ℕ) → not (is_critical g touch M m) ≡ true → IsCritical g touch M m → ⊥
    redundant_from m t k = clash ((is_critical_is g laws touch M d m).1 k) (not-true (is_critical g touch M m) t)

    redundant_to : (m : ℕ) → (IsCritical g touch M m → ⊥) → not (is_critical g touch M m) ≡ true
    redundant_to m h = elim (cases_Bool (is_critical g touch M m)) [ inl t ↦ absurd (h ((is_critical_is g laws touch M d m).0 t)) | inr f ↦ rw f refl ]

    -- the test is the relation
    pub is_partner_is : (m k : ℕ) → (is_partner g touch M m k ≡ true) ↔ ArePartners g touch M m k
    unfolding is_partner
    is_partner_is m k =
        let x = not (is_critical g touch M m) in
        let y = not (is_critical g touch M k) in
        let z = ltb (rho_of g touch (without k (without m M))) (rho_of g touch M) in (
          (λ t.
              let u = and_parts (x && y) z t in
              let v = and_parts x y u.0 in
              partners_from m k (redundant_from m v.0) (redundant_from k v.1) (ltb-true (rho_of g touch (without k (without m M))) (rho_of g touch M) u.1)),
          (λ p. and_from (x && y) z (and_from x y (redundant_to m p.one_noncritical) (redundant_to k p.other_noncritical))
              (lt-ltb (rho_of g touch (without k (without m M))) (rho_of g touch M) (falls_to m k p))),
        )

    -- partners are different items of the list
    pub partners_apart : (m k : ℕ) → ArePartners g touch M m k → m ≡ k → ⊥
    partners_apart m k p e =
        let l = falls_to m k p in
        let same : without k (without m M) ≡ without m M = ap (λ x. without x (without m M)) (sym e) ∙ filter_twice (other_than m) M in
        p.one_noncritical (crit_from M d m (subst (λ (N : List ℕ). rho_of g touch N < rho_of g touch M) same l))

    pub partners_in : (m k : ℕ) → ArePartners g touch M m k → In m M × In k M
    partners_in m k p =
        let l = falls_to m k p in (
          elim (cases_In m M) [
            | inl i ↦ i
            | inr out ↦ absurd (p.other_noncritical (crit_from M d k (subst (λ (N : List ℕ). rho_of g touch (without k N) < rho_of g touch M) (filter_out m M out) l)))
          ],
          elim (cases_In k M) [
            | inl i ↦ i
            | inr out ↦ absurd (p.one_noncritical (crit_from M d m (subst (λ (N : List ℕ). rho_of g touch N < rho_of g touch M)
                (filter_out k (without m M) (λ i. out (In-filter_from (other_than m) k M i).0)) l)))
          ],
        )

    -- a partner is one both ways
    pub partners_both_ways : (m k : ℕ) → ArePartners g touch M m k → ArePartners g touch M k m
    partners_both_ways m k p =
        partners_from k m p.other_noncritical p.one_noncritical
        (subst (λ (N : List ℕ). rho_of g touch N < rho_of g touch M) (filter_swap (other_than k) (other_than m) M) (falls_to m k p))

    -- the partners of a redundant item are what becomes critical without it
    pub newly_critical : (m k : ℕ) → (IsCritical g touch M m → ⊥) → (IsCritical g touch (without m M) k × (IsCritical g touch M k → ⊥)) ↔ ArePartners g touch M m k
    newly_critical m k h = (
      (λ c. let a = crit_to (without m M) (less m) k c.0 in
          let q = rho_less M m (rho_of g touch M) (rho_of g touch (without m M)) d (rho_of_is g laws touch M d) (rho_of_is g laws touch (without m M) (less m)) in
          let q0 = q.0 in
          partners_from m k h c.1 (omega (arith, a, q0))),
      (λ p. let a = falls_to m k p in let b = not_critical M d m h in (crit_from (without m M) (less m) k (omega (arith, a, b)), p.other_noncritical)),
    )

    -- different partners of one item are partners of each other
    pub partners_together : (m a b : ℕ) → ArePartners g touch M m a → ArePartners g touch M m b → (a ≡ b → ⊥) → ArePartners g touch M a b
    partners_together m a b p q n =
        let M1 = without m M in
        let M2 = without b M1 in
        let a_in : In a M2 = In-filter (other_than b) a M1 (In-filter (other_than m) a M (partners_in m a p).1 (other_true m a (λ e. partners_apart m a p (sym e)))) (other_true b a n) in
        let c : IsCritical g touch M1 a = ((newly_critical m a p.one_noncritical).1 p).0 in
        let c2 : IsCritical g touch M2 a = critical_within g laws touch M2 M1 a (both m b) (less m) (λ x i. (In-filter_from (other_than b) x M1 i).0) a_in c in
        let fall : rho_of g touch (without a M2) < rho_of g touch M2 = crit_to M2 (both m b) a c2 in
        let l : rho_of g touch M2 < rho_of g touch M = falls_to m b q in
        let N = without b (without a M) in
        let same : without m N ≡ without a M2 =
        ap (filter (other_than m)) (filter_swap (other_than b) (other_than a) M)
        ∙ (filter_swap (other_than m) (other_than a) (without b M) ∙ ap (filter (other_than a)) (filter_swap (other_than m) (other_than b) M)) in
        let w = rho_less N m (rho_of g touch N) (rho_of g touch (without m N)) (both a b) (rho_of_is g laws touch N (both a b))
        (rho_of_is g laws touch (without m N) (IsDistinct-filter (other_than m) N (both a b))) in
        let w1 : rho_of g touch N ≤ suc (rho_of g touch (without a M2)) = subst (λ (K : List ℕ). rho_of g touch N ≤ suc (rho_of g touch K)) same w.1 in
        partners_from a b p.other_noncritical q.other_noncritical (omega (arith, fall, l, w1))

    -- equal, or partners
    Same : ℕ → ℕ → Type 0
    Same m k = (m ≡ k) ⊎ ArePartners g touch M m k

    Same-back : (m k : ℕ) → Same m k → Same k m
    unfolding Same
    Same-back m k (inl e) = inl (sym e)
    Same-back m k (inr p) = inr (partners_both_ways m k p)

    Same-on : (m k n : ℕ) → Same m k → Same k n → Same m n
    unfolding Same
    Same-on m k n (inl e) s = subst (λ (x : ℕ). (x ≡ n) ⊎ ArePartners g touch M x n) (sym e) s
    Same-on m k n (inr p) (inl e) = inr (subst (λ (x : ℕ). ArePartners g touch M m x) e p)
    Same-on m k n (inr p) (inr q) = elim (cases_eq m n) [
      | inl e ↦ inl e
      | inr apart ↦ inr (partners_together k m n (partners_both_ways m k p) q apart)
    ]

    test : ℕ → ℕ → Bool
    test m x = eqb x m || is_partner g touch M m x

    test_to : (m x : ℕ) → test m x ≡ true → Same m x
    unfolding test Same
    test_to m x t = elim (or_cases (eqb x m) (is_partner g touch M m x) t) [ inl e ↦ inl (sym (eqb-true x m e)) | inr p ↦ inr ((is_partner_is m x).0 p) ]

    test_from : (m x : ℕ) → Same m x → test m x ≡ true
    unfolding test Same
    test_from m x (inl e) = or_left (eqb x m) (is_partner g touch M m x) (eq-eqb x m (sym e))
    test_from m x (inr p) = or_right (eqb x m) (is_partner g touch M m x) ((is_partner_is m x).1 p)

    class_same : (m : ℕ) → Same m (class_of g touch M m)
    unfolding test Same
    class_same m = test_to m (class_of g touch M m) (passes_first (test m) m M (test_from m m (inl refl)))

    -- two items have one class exactly where they are equal or partners
    pub one_class : (m k : ℕ) → (class_of g touch M m ≡ class_of g touch M k) ↔ ((m ≡ k) ⊎ ArePartners g touch M m k)
    unfolding test Same
    one_class m k = (
      (λ e. Same-on m (class_of g touch M m) k (class_same m)
          (Same-back k (class_of g touch M m) (subst (λ (x : ℕ). (k ≡ x) ⊎ ArePartners g touch M k x) (sym e) (class_same k)))),
      (λ s. elim s [
        | inl e ↦ ap (class_of g touch M) e
        | inr p ↦
            let within = partners_in m k p in
            let same : (x : ℕ) → test m x ≡ test k x = λ x. one_truth (test m x) (test k x)
            (λ t. test_from k x (Same-on k m x (Same-back m k (inr p)) (test_to m x t)))
            (λ t. test_from m x (Same-on m k x (inr p) (test_to k x t))) in
            first_same (test m) (test k) same m M ∙ first_any (test k) m k M k within.1 (test_from k k (inl refl))
      ]),
    )

    -- what has no pair: its partners are the redundant items that what has none beside it doesn't reach
    pub partners_of_unpaired : (u : ℕ) → In u M → (A : List Pair) → IsAssignment g touch M A → (In u (items A) → ⊥) → (S T : ℕ → Bool)
        → IsLeastClosed g touch M none every A S → IsLeastClosed g touch (without u M) none every A T
        → (k : ℕ) → In k M → (k ≡ u → ⊥) → ArePartners g touch M u k ↔ ((S k ≡ true) × (T k ≡ false))
    partners_of_unpaired u i A a bare S T c e k j n =
        let a' : IsAssignment g touch (without u M) A = record {
          of_items = λ p h. In-filter (other_than u) p.0 M (a.of_items p h) (other_true u p.0 (λ x. bare (In-items-at A p u h x)));
          touched = a.touched;
          different = a.different;
          independent = a.independent;
        } in
        let u_red : IsCritical g touch M u → ⊥ = λ x. clash (c.holds u i refl bare) ((marks_critical g laws touch M A S d a c u i).1 x) in
        let at_k = marks_critical g laws touch M A S d a c k j in
        let at_less = marks_critical g laws touch (without u M) A T (less u) a' e k (In-filter (other_than u) k M j (other_true u k n)) in
        let new = newly_critical u k u_red in (
          (λ p. (
            elim (cases_Bool (S k)) [ inl t ↦ t | inr f ↦ absurd (p.other_noncritical (at_k.0 f)) ],
            at_less.1 (new.1 p).0,
          )),
          (λ s. new.0 (at_less.0 s.1, λ x. clash s.0 (at_k.1 x))),
        )

-- what two sets of sources reach together is what the one reaches or the other
pub sources_together : (g : Matroid) (laws : IsMatroid g) (touch : ℕ → List ℕ) (M : List ℕ) (frozen p q : ℕ → Bool) (A : List Pair) (S T U : ℕ → Bool)
    → IsLeastClosed g touch M frozen p A S → IsLeastClosed g touch M frozen q A T → IsLeastClosed g touch M frozen (λ x. p x || q x) A U
    → (m : ℕ) → U m ≡ (S m || T m)
sources_together g laws touch M frozen p q A S T U s t u m =
    one_truth (U m) (S m || T m)
    (u.least (λ x. S x || T x) (IsClosed-union g laws touch frozen A M S T s.closed t.closed)
    (λ x i from out. elim (or_cases (p x) (q x) from) [
      | inl f ↦ or_left (S x) (T x) (s.holds x i f out)
      | inr f ↦ or_right (S x) (T x) (t.holds x i f out)
    ]) m)
    (λ h. elim (or_cases (S m) (T m) h) [
      | inl f ↦ s.least U u.closed (λ x i from out. u.holds x i (or_left (p x) (q x) from) out) m f
      | inr f ↦ t.least U u.closed (λ x i from out. u.holds x i (or_right (p x) (q x) from) out) m f
    ])
