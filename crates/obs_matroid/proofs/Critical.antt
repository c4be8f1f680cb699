-- The greatest length, tight sets and critical items.
use Rattle.std.proofs.Common.{◌≡◌, ℕ, zero, suc, ◌+◌, ◌≤◌, ◌<◌, List, [], ◌∷◌, length, refl, sym, subst, ap, ◌∙◌, inl, inr, Bool, true, false, not, ◌||◌, ◌&&◌, ◌↔◌, arith}
use Rattle.std.specs.List.{flat_map}
use Rattle.std.proofs.lemmas.Bool.{cases_Bool, not-true, or_cases, or_left, and_parts, and_from}
use Rattle.obs_matroid.specs.Lists.{In, IsDistinct, other_than, without}
use Rattle.obs_matroid.specs.Matroid.{Matroid}
use Rattle.obs_matroid.specs.inner.Matroid.{IsMatroid}
use Rattle.obs_matroid.specs.Assignments.{Pair, items, branches, IsAssignment}
use Rattle.obs_matroid.specs.inner.Assignments.{part, IsRho}
use Rattle.obs_matroid.specs.Bounds.{inside, outside}
use Rattle.obs_matroid.specs.inner.Bounds.{bound, IsTight}
use Rattle.obs_matroid.specs.inner.Critical.{IsCritical}
use Rattle.obs_matroid.specs.inner.Closed.{IsClosed, HoldsSources, IsLeastClosed, none, every}
use Rattle.obs_matroid.proofs.Lists.{clash, In_same, In-filter, In-filter_from, cases_In, length-within, IsDistinct-filter, other_true, other_ne, In-flat_map_from, In-flat_map}
use Rattle.obs_matroid.proofs.Ranks.{rank-short, rank-within}
use Rattle.obs_matroid.proofs.Pairs.{In-items, In-items_from, In-part, In-part_from, IsDistinct-part, items_within, more_pairs, independent_part}
use Rattle.obs_matroid.proofs.Exchange.{part_out, length-put_in}
use Rattle.obs_matroid.proofs.Bounds.{length-items, length-branches, length-parts, bound-same, weak_bound}
use Rattle.obs_matroid.proofs.Closed.{closed_longest}
use Rattle.obs_matroid.proofs.Least.{grows_or_closes}

-- a list has one greatest length alone
pub rho_same : (g : Matroid) (touch : ℕ → List ℕ) (M : List ℕ) (r s : ℕ) → IsRho g touch M r → IsRho g touch M s → r ≡ s
rho_same g touch M r s p q =
    let a = p.none_longer q.longest q.assigns in
    let b = q.none_longer p.longest p.assigns in
    let c = p.long in let d = q.long in omega (arith, a, b, c, d)

module _ (g : Matroid) (laws : IsMatroid g) (touch : ℕ → List ℕ) where
  -- the empty assignment
  pub IsAssignment-nil : (M : List ℕ) → IsAssignment g touch M []
  IsAssignment-nil M = record { of_items = λ p i. absurd i; touched = λ p i. absurd i; different = tt; independent = tt }

  pub length-assignment : (M : List ℕ) (A : List Pair) → IsAssignment g touch M A → length A ≤ length M
  length-assignment M A a =
      let w : length (items A) ≤ length M = length-within (items A) M a.different (λ x i. let v = In-items_from A x i in In_same x v.0.0 M v.2 (a.of_items v.0 v.1)) in
      let l = length-items A in
      omega (arith, w, l)

  -- with nothing frozen, a closed set that holds all items without a pair shows that A is longest
  pub longest_from_closed : (M : List ℕ) (A : List Pair) (S : ℕ → Bool) → IsAssignment g touch M A → IsClosed g touch M none A S → HoldsSources M every A S
      → (B : List Pair) → IsAssignment g touch M B → length B ≤ length A
  longest_from_closed M A S a c h B b =
      closed_longest g laws touch M none A B S a b (λ m t. clash t refl) (λ p i t. clash t refl) c (λ m i out. h m i refl out)

  rho_from : (M : List ℕ) → IsDistinct M → (n : ℕ) (A : List Pair) → IsAssignment g touch M A → length M ≤ length A + n → (r : ℕ) × IsRho g touch M r
  rho_from M d zero A a l =
      elim (grows_or_closes g laws touch M none every A d a (λ m t. clash t refl)) [
        | inr s ↦ (length A, record { longest = A; assigns = a; long = refl; none_longer = longest_from_closed M A s.0 a s.1.closed s.1.holds })
        | inl b ↦ let k = length-assignment M b.0 b.2.assigns in let e = b.2.longer in absurd (omega (arith, k, e, l))
      ]
  rho_from M d (suc n) A a l =
      elim (grows_or_closes g laws touch M none every A d a (λ m t. clash t refl)) [
        | inr s ↦ (length A, record { longest = A; assigns = a; long = refl; none_longer = longest_from_closed M A s.0 a s.1.closed s.1.holds })
        | inl b ↦ let e = b.2.longer in rho_from M d n b.0 b.2.assigns (omega (arith, e, l))
      ]

  -- every list has a greatest length
  pub rho_exists : (M : List ℕ) → IsDistinct M → (r : ℕ) × IsRho g touch M r
  rho_exists M d = rho_from M d (length M) [] (IsAssignment-nil M) (omega arith)

  -- an item outside J counts in the bound of J
  pub bound-without : (M : List ℕ) (J : ℕ → Bool) (m : ℕ) → IsDistinct M → In m M → J m ≡ false → bound g touch J (without m M) < bound g touch J M
  bound-without M J m d i n =
      let N : ℕ → Bool = λ x. not (J x) in
      let r : g.rank (flat_map touch (inside J (without m M))) ≤ g.rank (flat_map touch (inside J M)) =
      rank-within g laws (flat_map touch (inside J (without m M))) (flat_map touch (inside J M))
      (λ x k. laws.member (flat_map touch (inside J M)) x
      (let v = In-flat_map_from touch x (inside J (without m M)) k in
      let u = In-filter_from J v.0 (without m M) v.1 in
      In-flat_map touch v.0 x (inside J M) (In-filter J v.0 M (In-filter_from (other_than m) v.0 M u.0).0 u.1) v.2)) in
      let o : suc (length (outside J (without m M))) ≤ length (outside J M) =
      length-within (m ∷ outside J (without m M)) (outside J M) (
        (λ k. let u = In-filter_from N m (without m M) k in other_ne m m (In-filter_from (other_than m) m M u.0).1 refl),
        IsDistinct-filter N (without m M) (IsDistinct-filter (other_than m) M d),
      )
      (λ x k. elim k [
        | inl e ↦ In_same x m (outside J M) e (In-filter N m M i (rw n refl))
        | inr j ↦ let u = In-filter_from N x (without m M) j in In-filter N x M (In-filter_from (other_than m) x M u.0).0 u.1
      ]) in
      omega (arith, r, o)

  -- each item of M outside a tight list is critical
  pub critical_from_tight : (M : List ℕ) (J : ℕ → Bool) (r : ℕ) → IsDistinct M → IsRho g touch M r → bound g touch J M ≡ r
      → (m : ℕ) → In m M → J m ≡ false → IsCritical g touch M m
  critical_from_tight M J r d p tight m i n r' s p' q =
      let b = bound-without M J m d i n in
      let w = weak_bound g laws touch (without m M) J q.longest q.assigns in
      let l = q.long in
      let e = rho_same g touch M r r' p p' in
      omega (arith, b, w, l, e, tight)

  -- the least closed set of a longest assignment holds no critical item
  pub least_not_critical : (M : List ℕ) (A : List Pair) (S : ℕ → Bool) → IsDistinct M → IsAssignment g touch M A → IsLeastClosed g touch M none every A S
      → (m : ℕ) → In m M → IsCritical g touch M m → S m ≡ false
  least_not_critical M A S d a c m i k =
      elim (cases_Bool (S m)) [
        | inr n ↦ n
        | inl t ↦
            let p : IsRho g touch M (length A) = record { longest = A; assigns = a; long = refl; none_longer = longest_from_closed M A S a c.closed c.holds } in
            let q = rho_exists (without m M) (IsDistinct-filter (other_than m) M d) in
            let less : q.0 < length A = k (length A) q.0 p q.1 in
            let A' : List Pair = part (other_than m) A in
            let a' : IsAssignment g touch (without m M) A' = record {
              of_items = λ v j. let u = In-part_from (other_than m) A v j in In-filter (other_than m) v.0 M (a.of_items v u.0) u.1;
              touched = λ v j. a.touched v (In-part_from (other_than m) A v j).0;
              different = IsDistinct-part (other_than m) A a.different;
              independent = independent_part g laws (other_than m) A a.independent;
            } in
            elim (cases_In m (items A)) [
              | inr out ↦
                  let e : length A' ≡ length A = ap length (part_out m A out) in
                  let w = q.1.none_longer A' a' in
                  absurd (omega (arith, e, w, less))
              | inl y ↦
                  let e : suc (length A') ≡ length A = length-put_in (m, 0) A a.different y in
                  elim (grows_or_closes g laws touch (without m M) none every A' (IsDistinct-filter (other_than m) M d) a' (λ x f. clash f refl)) [
                    | inl b ↦ let w = q.1.none_longer b.0 b.2.assigns in let l = b.2.longer in absurd (omega (arith, e, w, l, less))
                    | inr s ↦
                        let T : ℕ → Bool = λ x. s.0 x && other_than m x in
                        let ct : IsClosed g touch M none A T = record {
                          spanned = λ x f j z v.
                              let u = and_parts (s.0 x) (other_than m x) z in
                              more_pairs g laws (part (λ y. s.0 y || none y) A') (part (λ y. T y || none y) A) f
                              (λ w l. let o = In-part_from (λ y. s.0 y || none y) A' w l in
                              let h = In-part_from (other_than m) A w o.0 in
                              In-part (λ y. T y || none y) A w h.0
                              (or_left (T w.0) (none w.0) (and_from (s.0 w.0) (other_than m w.0)
                              (elim (or_cases (s.0 w.0) (none w.0) o.1) [ inl b ↦ b | inr b ↦ clash b refl ]) h.1)))
                              (s.1.closed.spanned x f (In-filter (other_than m) x M j u.1) u.0 v);
                        } in
                        let ht : HoldsSources M every A T = λ x j _ out.
                        let z : other_than m x ≡ true = other_true m x (λ w. out (In_same x m (items A) w y)) in
                        and_from (s.0 x) (other_than m x)
                        (s.1.holds x (In-filter (other_than m) x M j z) refl (λ l. out (items_within A' A (λ w o. (In-part_from (other_than m) A w o).0) x l))) z in
                        let z : T m ≡ true = c.least T ct ht m t in
                        absurd (other_ne m m (and_parts (s.0 m) (other_than m m) z).1 refl)
                  ]
            ]
      ]

  -- a closed set that holds all items without a pair is tight
  pub closed_tight : (M : List ℕ) (A : List Pair) (S : ℕ → Bool) → IsDistinct M → IsAssignment g touch M A → IsClosed g touch M none A S → HoldsSources M every A S
      → bound g touch S M ≡ length A
  closed_tight M A S d a c h =
      let T : ℕ → Bool = λ x. S x || none x in
      let N : ℕ → Bool = λ x. not (S x) in
      let w = weak_bound g laws touch M S A a in
      let r : g.rank (flat_map touch (inside S M)) ≤ g.rank (branches (part T A)) =
      rank-within g laws (flat_map touch (inside S M)) (branches (part T A))
      (λ x k. let v = In-flat_map_from touch x (inside S M) k in let u = In-filter_from S v.0 M v.1 in c.spanned v.0 x u.0 u.1 v.2) in
      let s : g.rank (branches (part T A)) ≤ length (branches (part T A)) = rank-short g laws (branches (part T A)) in
      let l : length (branches (part T A)) ≡ length (part T A) = length-branches (part T A) in
      let lp = length-parts T A in
      let o : length (outside S M) ≤ length (items (part (λ x. not (S x || none x)) A)) =
      length-within (outside S M) (items (part (λ x. not (S x || none x)) A)) (IsDistinct-filter N M d)
      (λ x k. let u = In-filter_from N x M k in
      elim (cases_In x (items A)) [
        | inl y ↦ let v = In-items_from A x y in
            let z : not (S v.0.0 || none v.0.0) ≡ true = rw (← v.2) (rw (not-true (S x) u.1) refl) in
            In_same x v.0.0 (items (part (λ x. not (S x || none x)) A)) v.2 (In-items (part (λ x. not (S x || none x)) A) v.0 (In-part (λ x. not (S x || none x)) A v.0 v.1 z))
        | inr out ↦ clash (h x u.0 refl out) (not-true (S x) u.1)
      ]) in
      let ln = length-items (part (λ x. not (S x || none x)) A) in
      omega (arith, w, r, s, l, lp, o, ln)

  -- the marks of a search that found no path are the items that are not critical
  pub marks_critical : (M : List ℕ) (A : List Pair) (S : ℕ → Bool) → IsDistinct M → IsAssignment g touch M A → IsLeastClosed g touch M none every A S
      → (m : ℕ) → In m M → (S m ≡ false) ↔ IsCritical g touch M m
  marks_critical M A S d a c m i = (
    (λ n. critical_from_tight M S (length A) d
        (record { longest = A; assigns = a; long = refl; none_longer = longest_from_closed M A S a c.closed c.holds })
        (closed_tight M A S d a c.closed c.holds) m i n),
    least_not_critical M A S d a c m i,
  )

  -- the items that are not critical are tight, and each tight list holds them
  pub least_tight : (M : List ℕ) (r : ℕ) → IsDistinct M → IsRho g touch M r
      → (S : ℕ → Bool) × (bound g touch S M ≡ r) × ((m : ℕ) → In m M → (S m ≡ false) ↔ IsCritical g touch M m)
      × ((J : ℕ → Bool) → bound g touch J M ≡ r → (m : ℕ) → In m M → S m ≡ true → J m ≡ true)
  least_tight M r d p =
      elim (grows_or_closes g laws touch M none every p.longest d p.assigns (λ m t. clash t refl)) [
        | inl b ↦ let w = p.none_longer b.0 b.2.assigns in let l = b.2.longer in let e = p.long in absurd (omega (arith, w, l, e))
        | inr s ↦ (
          s.0,
          closed_tight M p.longest s.0 d p.assigns s.1.closed s.1.holds ∙ p.long,
          marks_critical M p.longest s.0 d p.assigns s.1,
          (λ J tight m i t. elim (cases_Bool (J m)) [
            | inl y ↦ y
            | inr n ↦ clash t ((marks_critical M p.longest s.0 d p.assigns s.1 m i).1 (critical_from_tight M J r d p tight m i n))
          ]),
        )
      ]

  -- a set that marks just the items that are not critical is tight
  pub tight_marks : (M : List ℕ) (S : ℕ → Bool) → IsDistinct M → ((m : ℕ) → In m M → (S m ≡ false) ↔ IsCritical g touch M m) → IsTight g touch M S
  tight_marks M S d h =
      let p = rho_exists M d in
      let t = least_tight M p.0 d p.1 in
      let same : (m : ℕ) → In m M → t.0 m ≡ S m = λ m i.
      elim (cases_Bool (S m)) [
        | inr f ↦ (t.2 m i).1 ((h m i).0 f) ∙ sym f
        | inl y ↦ elim (cases_Bool (t.0 m)) [ inl z ↦ z ∙ sym y | inr z ↦ clash y ((h m i).1 ((t.2 m i).0 z)) ]
      ] in
      subst (λ (r : ℕ). IsRho g touch M r) (sym t.1 ∙ bound-same g laws touch M t.0 S same) p.1

  -- an item outside a tight list is critical
  pub tight_outside : (M : List ℕ) (J : ℕ → Bool) → IsDistinct M → IsTight g touch M J → (m : ℕ) → In m M → J m ≡ false → IsCritical g touch M m
  tight_outside M J d t m i n = critical_from_tight M J (bound g touch J M) d t refl m i n
