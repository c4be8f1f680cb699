-- One more item is taken: it is chosen, or it is passed with a closed set.
use Rattle.std.proofs.Common.{◌≡◌, ℕ, suc, ◌+◌, ◌≤◌, Bool, true, false, ◌||◌, List, ◌∷◌, length, refl, sym, ap, ◌∙◌, ◌↔◌, inl, inr, arith, subst, eqb, eq-eqb}
use Rattle.std.proofs.lemmas.Bool.{cases_Bool, eqb-true, cases_eq, or_cases, or_left, or_right}
use Rattle.obs_matroid.specs.Lists.{In, IsDistinct, other_than, without}
use Rattle.obs_matroid.specs.Matroid.{Matroid}
use Rattle.obs_matroid.specs.inner.Matroid.{IsMatroid}
use Rattle.obs_matroid.specs.Assignments.{Pair, items, branches, IsAssignment}
use Rattle.obs_matroid.specs.inner.Assignments.{part, IsRho}
use Rattle.obs_matroid.specs.inner.Closed.{IsClosed, IsLeastClosed, every, none}
use Rattle.obs_matroid.specs.inner.Critical.{IsCritical}
use Rattle.obs_matroid.proofs.Lists.{clash, In_same, cases_In, length-within, other_true, other_self, filter_out, IsDistinct-filter}
use Rattle.obs_matroid.proofs.Pairs.{In-items, In-items_from, In-part, In-part_from, more_pairs}
use Rattle.obs_matroid.proofs.Bounds.{length-items}
use Rattle.obs_matroid.proofs.Critical.{rho_exists, rho_same, marks_critical}
use Rattle.obs_matroid.proofs.Least.{grows_or_closes}
use Rattle.obs_matroid.proofs.Placement.{IsAssignment-items, rho_more, still_longest}
use Rattle.obs_matroid.proofs.Heredity.{critical_with, IsCritical-same}
use Rattle.obs_placement.specs.inner.Taking.{IsTaken}

-- a closed set that the search from c alone leaves, as seen by the items c and N, where some are frozen
pub record IsReached (g : Matroid) (touch : ℕ → List ℕ) (N : List ℕ) (c : ℕ) (frozen : ℕ → Bool) (A : List Pair) (R : ℕ → Bool) : Type 0 where
  pub closed : IsClosed g touch (c ∷ N) frozen A R
  pub source : R c ≡ true
  pub least : (T : ℕ → Bool) → IsClosed g touch (c ∷ N) frozen A T → T c ≡ true → (m : ℕ) → R m ≡ true → T m ≡ true
  pub within : (m : ℕ) → R m ≡ true → In m (c ∷ N)

same_tests : (x y : Bool) (P : Type 0) → (x ≡ false) ↔ P → (y ≡ false) ↔ P → x ≡ y
same_tests true true P h k = refl
same_tests false false P h k = refl
same_tests true false P h k = h.1 (k.0 refl)
same_tests false true P h k = sym (k.1 (h.0 refl))

module _ (g : Matroid) (laws : IsMatroid g) (touch : ℕ → List ℕ) where
  pub IsTaken-rho : (N : List ℕ) (A : List Pair) (S : ℕ → Bool) → IsTaken g touch N A S → IsRho g touch N (length A)
  IsTaken-rho N A S h = record { longest = A; assigns = h.assigns; long = refl; none_longer = h.longest }

  -- which items are taken is all that counts
  pub IsTaken-same : (M N : List ℕ) (A : List Pair) (S T : ℕ → Bool) → IsDistinct N → ((x : ℕ) → In x M → In x N) → ((x : ℕ) → In x N → In x M)
      → ((m : ℕ) → T m ≡ S m) → IsTaken g touch M A S → IsTaken g touch N A T
  IsTaken-same M N A S T d f h e t = record {
    distinct = d;
    assigns = IsAssignment-items g laws touch M N A t.assigns (λ p i. f p.0 (t.assigns.of_items p i));
    longest = λ B b. t.longest B (IsAssignment-items g laws touch N M B b (λ p i. h p.0 (b.of_items p i)));
    critical = λ m i. (
      (λ w. IsCritical-same g laws touch M N m f h ((t.critical m (h m i)).0 (sym (e m) ∙ w))),
      (λ k. e m ∙ (t.critical m (h m i)).1 (IsCritical-same g laws touch N M m h f k)),
    );
    within = λ m w. f m (t.within m (sym (e m) ∙ w));
  }

  item_of : (N : List ℕ) (A : List Pair) → IsAssignment g touch N A → (x : ℕ) → In x (items A) → In x N
  item_of N A a x i = let v = In-items_from A x i in In_same x v.0.0 N v.2 (a.of_items v.0 v.1)

  module _ (N : List ℕ) (c : ℕ) (A : List Pair) (S : ℕ → Bool) (t : IsTaken g touch N A S) (out : In c N → ⊥) where
    bare : In c (items A) → ⊥
    bare i = out (item_of N A t.assigns c i)

    critical_too : (m r : ℕ) → (m ≡ c → ⊥) → IsRho g touch N r → IsRho g touch (c ∷ N) (suc r) → IsCritical g touch N m → IsCritical g touch (c ∷ N) m
    critical_too m r n p q k = λ r' s p' q'.
        let a = rho_same g touch (c ∷ N) (suc r) r' q p' in
        let d : IsDistinct (without m N) = IsDistinct-filter (other_than m) N t.distinct in
        let u = rho_exists g laws touch (without m N) d in
        let l = k r u.0 p u.1 in
        let e : without m (c ∷ N) ≡ c ∷ without m N = rw (other_true m c (λ w. n (sym w))) refl in
        let x = rho_more g laws touch (without m N) c u.0 s u.1 (subst (λ (K : List ℕ). IsRho g touch K s) e q') in
        omega (arith, a, l, x)

    module _ (X : List ℕ) (B : List Pair) (b : IsAssignment g touch X B) (longer : length B ≡ length A + 1) (gains : In c (items B)) (keeps : (x : ℕ) → In x (items A) → In x (items B)) where
      -- no item but c gains a pair
      pub grown_only : (x : ℕ) → In x (items B) → In x (c ∷ items A)
      grown_only x i = elim (cases_In x (c ∷ items A)) [
        | inl j ↦ j
        | inr new ↦
            let l : length (x ∷ c ∷ items A) ≤ length (items B) = length-within (x ∷ c ∷ items A) (items B) (new, (bare, t.assigns.different))
            (λ y j. elim j [
              | inl e ↦ In_same y x (items B) e i
              | inr k ↦ elim k [ inl e ↦ In_same y c (items B) e gains | inr h ↦ keeps y h ]
            ]) in
            let la = length-items A in
            let lb = length-items B in
            absurd (omega (arith, l, la, lb, longer))
      ]

      grown_item : (x : ℕ) → In x (items B) → In x (c ∷ N)
      grown_item x i = elim (grown_only x i) [ inl e ↦ inl e | inr k ↦ inr (item_of N A t.assigns x k) ]

      grown_assigns : IsAssignment g touch (c ∷ N) B
      grown_assigns = IsAssignment-items g laws touch X (c ∷ N) B b (λ p i. grown_item p.0 (In-items B p i))

      grown_longest : (C : List Pair) → IsAssignment g touch (c ∷ N) C → length C ≤ length B
      grown_longest C k =
          let q = rho_exists g laws touch (c ∷ N) (out, t.distinct) in
          let l = rho_more g laws touch N c (length A) q.0 (IsTaken-rho N A S t) q.1 in
          let m = q.1.none_longer C k in
          omega (arith, l, m, longer)

      grown_rho : IsRho g touch (c ∷ N) (suc (length A))
      grown_rho = record { longest = B; assigns = grown_assigns; long = omega (arith, longer); none_longer = λ C k. let l = grown_longest C k in omega (arith, l, longer) }

      grown_critical : IsCritical g touch (c ∷ N) c
      grown_critical = λ r s p q.
          let a = rho_same g touch (c ∷ N) (suc (length A)) r grown_rho p in
          let e : without c (c ∷ N) ≡ N = rw (other_self c) (filter_out c N out) in
          let b = rho_same g touch N (length A) s (IsTaken-rho N A S t) (subst (λ (K : List ℕ). IsRho g touch K s) e q) in
          omega (arith, a, b)

      -- the item is chosen
      pub IsTaken-grown : IsTaken g touch (c ∷ N) B S
      IsTaken-grown = record {
        distinct = (out, t.distinct);
        assigns = grown_assigns;
        longest = grown_longest;
        critical = λ m i. elim (cases_eq m c) [
          | inl e ↦ (
            (λ f. subst (λ (x : ℕ). IsCritical g touch (c ∷ N) x) (sym e) grown_critical),
            (λ k. elim (cases_Bool (S m)) [ inl y ↦ absurd (out (In_same c m N (sym e) (t.within m y))) | inr f ↦ f ]),
          )
          | inr n ↦
              let j : In m N = elim i [ inl e ↦ absurd (n e) | inr j ↦ j ] in (
                (λ f. critical_too m (length A) n (IsTaken-rho N A S t) grown_rho ((t.critical m j).0 f)),
                (λ k. (t.critical m j).1 (critical_with g laws touch N c m (out, t.distinct) j k)),
              )
        ];
        within = λ m w. inr (t.within m w);
      }

    larger : (T U : ℕ → Bool) (e : ℕ) → ((x : ℕ) → In x (items A) → T x ≡ true → U x ≡ true)
        → g.spans (branches (part (λ x. T x || none x) A)) e ≡ true → g.spans (branches (part (λ x. U x || none x) A)) e ≡ true
    larger T U e h w = more_pairs g laws (part (λ x. T x || none x) A) (part (λ x. U x || none x) A) e
        (λ p i. let u = In-part_from (λ x. T x || none x) A p i in
        In-part (λ x. U x || none x) A p u.0 (or_left (U p.0) (none p.0) (h p.0 (In-items A p u.0)
        (elim (or_cases (T p.0) (none p.0) u.1) [ inl s ↦ s | inr f ↦ clash f refl ]))))
        w

    assigned : IsAssignment g touch (c ∷ N) A
    assigned = IsAssignment-items g laws touch N (c ∷ N) A t.assigns (λ p i. inr (t.assigns.of_items p i))

    own : (T : ℕ → Bool) × IsLeastClosed g touch N none every A T
    own = elim (grows_or_closes g laws touch N none every A t.distinct t.assigns (λ m w. clash w refl)) [
      | inl b ↦ let l = t.longest b.0 b.2.assigns in let e = b.2.longer in absurd (omega (arith, l, e))
      | inr s ↦ s
    ]

    same : (m : ℕ) → In m N → S m ≡ own.0 m
    same m i = same_tests (S m) (own.0 m) (IsCritical g touch N m) (t.critical m i) (marks_critical g laws touch N A own.0 t.distinct t.assigns own.1 m i)

    known_closed : IsClosed g touch (c ∷ N) none A S
    known_closed = record {
      spanned = λ m e i s j. elim i [
        | inl w ↦ absurd (out (In_same c m N (sym w) (t.within m s)))
        | inr h ↦ larger own.0 S e (λ x y z. same x (item_of N A t.assigns x y) ∙ z) (own.1.closed.spanned m e h (sym (same m h) ∙ s) j)
      ];
    }

    -- what the known items touch, their own pairs span
    pub known_spanned : (m e : ℕ) → S m ≡ true → In e (touch m) → g.spans (branches (part (λ x. S x || none x) A)) e ≡ true
    known_spanned m e s j = known_closed.spanned m e (inr (t.within m s)) s j

    -- where they span all that the item touches too, the known ones and the item are the least closed set
    module _ (spanned : (e : ℕ) → In e (touch c) → g.spans (branches (part (λ x. S x || none x) A)) e ≡ true) where
      joined_closed : IsClosed g touch (c ∷ N) none A (λ m. S m || eqb m c)
      joined_closed = record {
        spanned = λ m e i s j. larger S (λ x. S x || eqb x c) e (λ x y z. or_left (S x) (eqb x c) z) (elim (or_cases (S m) (eqb m c) s) [
          | inl y ↦ known_spanned m e y j
          | inr y ↦ spanned e (subst (λ (x : ℕ). In e (touch x)) (eqb-true m c y) j)
        ]);
      }

      joined_least : IsLeastClosed g touch (c ∷ N) none every A (λ m. S m || eqb m c)
      joined_least = record {
        closed = joined_closed;
        holds = λ m i f free. elim i [
          | inl w ↦ or_right (S m) (eqb m c) (eq-eqb m c w)
          | inr h ↦ or_left (S m) (eqb m c) (same m h ∙ own.1.holds m h f free)
        ];
        least = λ U cu hu m s. elim (or_cases (S m) (eqb m c) s) [
          | inl y ↦
              let h = t.within m y in
              own.1.least U (record { spanned = λ x e i w j. cu.spanned x e (inr i) w j }) (λ x i f o. hu x (inr i) f o) m (sym (same m h) ∙ y)
          | inr y ↦ subst (λ (x : ℕ). U x ≡ true) (sym (eqb-true m c y)) (hu c (inl refl) refl bare)
        ];
      }

      joined_longest : (B : List Pair) → IsAssignment g touch (c ∷ N) B → length B ≤ length A
      joined_longest = still_longest g laws touch N c A (λ m. S m || eqb m c) (out, t.distinct) t.assigns t.longest joined_closed (or_right (S c) (eqb c c) (eq-eqb c c refl))

      pub joined_rho : IsRho g touch (c ∷ N) (length A)
      joined_rho = record { longest = A; assigns = assigned; long = refl; none_longer = joined_longest }

      -- the item is passed, and only it becomes known
      pub IsTaken-joined : IsTaken g touch (c ∷ N) A (λ m. S m || eqb m c)
      IsTaken-joined = record {
        distinct = (out, t.distinct);
        assigns = assigned;
        longest = joined_longest;
        critical = marks_critical g laws touch (c ∷ N) A (λ m. S m || eqb m c) (out, t.distinct) assigned joined_least;
        within = λ m s. elim (or_cases (S m) (eqb m c) s) [ inl y ↦ inr (t.within m y) | inr y ↦ inl (eqb-true m c y) ];
      }

    module _ (frozen : ℕ → Bool) (sub : (m : ℕ) → frozen m ≡ true → S m ≡ true) (R : ℕ → Bool) (k : IsReached g touch N c frozen A R) where
      -- what the reached ones touch, their own pairs span and those of the known ones
      reached_spanned : (e : ℕ) → g.spans (branches (part (λ x. R x || frozen x) A)) e ≡ true → g.spans (branches (part (λ x. (S x || R x) || none x) A)) e ≡ true
      reached_spanned e w = more_pairs g laws (part (λ x. R x || frozen x) A) (part (λ x. (S x || R x) || none x) A) e
          (λ p i. let u = In-part_from (λ x. R x || frozen x) A p i in
          In-part (λ x. (S x || R x) || none x) A p u.0 (or_left (S p.0 || R p.0) (none p.0) (elim (or_cases (R p.0) (frozen p.0) u.1) [
            | inl y ↦ or_right (S p.0) (R p.0) y
            | inr y ↦ or_left (S p.0) (R p.0) (sub p.0 y)
          ])))
          w

      both_closed : IsClosed g touch (c ∷ N) none A (λ m. S m || R m)
      both_closed = record {
        spanned = λ m e i s j. elim (or_cases (S m) (R m) s) [
          | inl y ↦ larger S (λ x. S x || R x) e (λ x _ z. or_left (S x) (R x) z) (known_spanned m e y j)
          | inr y ↦ reached_spanned e (k.closed.spanned m e i y j)
        ];
      }

      -- a set that is closed where nothing is frozen is so where some are
      still_closed : (T : ℕ → Bool) → IsClosed g touch (c ∷ N) none A T → IsClosed g touch (c ∷ N) frozen A T
      still_closed T h = record {
        spanned = λ m e i s j. more_pairs g laws (part (λ x. T x || none x) A) (part (λ x. T x || frozen x) A) e
            (λ p q. let u = In-part_from (λ x. T x || none x) A p q in
            In-part (λ x. T x || frozen x) A p u.0 (or_left (T p.0) (frozen p.0) (elim (or_cases (T p.0) (none p.0) u.1) [ inl y ↦ y | inr f ↦ clash f refl ])))
            (h.spanned m e i s j);
      }

      both_least : IsLeastClosed g touch (c ∷ N) none every A (λ m. S m || R m)
      both_least = record {
        closed = both_closed;
        holds = λ m i f free. elim i [
          | inl w ↦ or_right (S m) (R m) (ap R w ∙ k.source)
          | inr h ↦ or_left (S m) (R m) (same m h ∙ own.1.holds m h f free)
        ];
        least = λ U cu hu m s. elim (or_cases (S m) (R m) s) [
          | inl y ↦
              let h = t.within m y in
              own.1.least U (record { spanned = λ x e i w j. cu.spanned x e (inr i) w j }) (λ x i f o. hu x (inr i) f o) m (sym (same m h) ∙ y)
          | inr y ↦ k.least U (still_closed U cu) (hu c (inl refl) refl bare) m y
        ];
      }

      passed_longest : (B : List Pair) → IsAssignment g touch (c ∷ N) B → length B ≤ length A
      passed_longest = still_longest g laws touch N c A (λ m. S m || R m) (out, t.distinct) t.assigns t.longest both_closed (or_right (S c) (R c) k.source)

      pub passed_rho : IsRho g touch (c ∷ N) (length A)
      passed_rho = record { longest = A; assigns = assigned; long = refl; none_longer = passed_longest }

      -- the item is passed
      pub IsTaken-passed : IsTaken g touch (c ∷ N) A (λ m. S m || R m)
      IsTaken-passed = record {
        distinct = (out, t.distinct);
        assigns = assigned;
        longest = passed_longest;
        critical = marks_critical g laws touch (c ∷ N) A (λ m. S m || R m) (out, t.distinct) assigned both_least;
        within = λ m s. elim (or_cases (S m) (R m) s) [ inl y ↦ inr (t.within m y) | inr y ↦ k.within m y ];
      }
