-- What the functions compute is what the relations say.
use Rattle.std.proofs.Common.{◌≡◌, ℕ, suc, ◌≤◌, ◌<◌, List, [], ◌∷◌, ◌++◌, length, refl, sym, ap, ◌∙◌, inl, inr, Bool, true, false, not, ◌⊎◌, ◌↔◌, arith, Some, None, subst}
use Rattle.std.proofs.lemmas.Bool.{cases_Bool, cases_eq, cases_lt, cases_order, not-true, lt-ltb, le-ltb, ltb-true, eq-eqb, ne_eqb}
use Rattle.std.proofs.lemmas.List.{length-append, append-nil}
use Rattle.obs_matroid.specs.Lists.{In, IsDistinct, other_than, without, IsRising}
use Rattle.obs_matroid.specs.Matroid.{Matroid, IsIndependent}
use Rattle.obs_matroid.specs.inner.Matroid.{IsMatroid}
use Rattle.obs_matroid.specs.Assignments.{Pair, items, branches, IsAssignment}
use Rattle.obs_matroid.specs.inner.Assignments.{part, IsRho}
use Rattle.obs_matroid.specs.inner.Bounds.{IsTight}
use Rattle.obs_matroid.specs.inner.Critical.{IsCritical}
use Rattle.obs_matroid.specs.First.{branch_at, IsNotAfter}
use Rattle.obs_matroid.specs.inner.First.{IsFirst}
use Rattle.obs_matroid.specs.Values.{pick, first_with, first_of, rho_of, is_critical}
use Rattle.obs_matroid.proofs.Lists.{clash, In_same, In-append_cases, In-append_left, In-append_right, other_true, other_self, other_ne, IsDistinct-filter}
use Rattle.obs_matroid.proofs.Ranks.{rank-short, rank-within, independent_from_rank, rank-independent}
use Rattle.obs_matroid.proofs.Pairs.{In-items, In-items_from, In-branches, In-branches_from, In-part, In-part_from, IsDistinct-part, same_pair}
use Rattle.obs_matroid.proofs.Exchange.{length-put_in}
use Rattle.obs_matroid.proofs.Bounds.{length-branches}
use Rattle.obs_matroid.proofs.Critical.{rho_same, tight_marks}
use Rattle.obs_matroid.proofs.Comparing.{IsNotAfter-same, branch_at_from, branch_at_none, branch_at_out, cases_Option}

none_of_nil : (B : List Pair) → ((p : Pair) → In p B → In p.0 []) → length B ≤ 0
none_of_nil [] h = omega arith
none_of_nil (p ∷ B) h = absurd (h p (inl refl))

branch_at_next : (m e : ℕ) (A : List Pair) (x : ℕ) → (m ≡ x → ⊥) → branch_at ((m, e) ∷ A) x ≡ branch_at A x
branch_at_next m e A x n = rw (ne_eqb m x n) refl

branch_at_part : (m : ℕ) (A : List Pair) (x : ℕ) → (x ≡ m → ⊥) → branch_at (part (other_than m) A) x ≡ branch_at A x
branch_at_part m [] x n = refl
branch_at_part m (p ∷ A) x n =
    elim (cases_eq p.0 m) [
      | inl s ↦ rw (not_other m p.0 s, ne_eqb p.0 x (λ w. n (sym w ∙ s))) (branch_at_part m A x n)
      | inr a ↦ rw (other_true m p.0 a) (elim (cases_eq p.0 x) [
        | inl w ↦ rw (eq-eqb p.0 x w) refl
        | inr w ↦ rw (ne_eqb p.0 x w) (branch_at_part m A x n)
      ])
    ]
  where
    not_other : (m x : ℕ) → x ≡ m → other_than m x ≡ false
    not_other m x s = rw s (other_self m)

-- what `pick` gives
module _ (passes : ℕ → Bool) (given : ℕ → List Pair) (bare : List Pair) where
  pub pick_longest : (es : List ℕ) → (length bare ≤ length (pick passes given bare es)) × ((e : ℕ) → In e es → passes e ≡ true → length (given e) ≤ length (pick passes given bare es))
  pick_longest [] = (omega arith, λ e i t. absurd i)
  pick_longest (e ∷ es) =
      let r = pick_longest es in
      elim (cases_Bool (passes e)) [
        | inr n ↦ rw n (r.0, λ x i t. elim i [ inl s ↦ clash t (rw s n) | inr j ↦ r.1 x j t ])
        | inl y ↦ rw y (elim (cases_lt (length (given e)) (length (pick passes given bare es))) [
          | inl l ↦ rw (lt-ltb (length (given e)) (length (pick passes given bare es)) l)
              (r.0, λ x i t. elim i [ inl s ↦ rw s (omega (arith, l)) | inr j ↦ r.1 x j t ])
          | inr l ↦ rw (le-ltb (length (given e)) (length (pick passes given bare es)) l)
              ((let k = r.0 in omega (arith, k, l)), λ x i t. elim i [ inl s ↦ rw s (omega arith) | inr j ↦ (let k = r.1 x j t in omega (arith, k, l)) ])
        ])
      ]

  pub pick_is : (es : List ℕ)
      → ((pick passes given bare es ≡ bare) × ((y : ℕ) → In y es → passes y ≡ true → length (given y) < length bare))
      ⊎ ((e : ℕ) × In e es × (passes e ≡ true) × (pick passes given bare es ≡ given e) × (IsRising es → (y : ℕ) → In y es → passes y ≡ true → y < e → length (given y) < length (given e)))
  pick_is [] = inl (refl, λ y i t. absurd i)
  pick_is (e ∷ es) =
      let r = pick_is es in
      let R : List Pair = pick passes given bare es in
      elim (cases_Bool (passes e)) [
        | inr n ↦ rw n (elim r [
          | inl b ↦ inl (b.0, λ y i t. elim i [ inl s ↦ clash t (rw s n) | inr j ↦ b.1 y j t ])
          | inr b ↦ inr (b.0, inr b.1, b.2, b.3, λ u y i t l. elim i [ inl s ↦ clash t (rw s n) | inr j ↦ b.4 u.1 y j t l ])
        ])
        | inl y ↦ rw y (elim (cases_lt (length (given e)) (length R)) [
          | inr l ↦ rw (le-ltb (length (given e)) (length R) l)
              (inr (e, inl refl, y, refl, λ u x i t k. absurd (elim i [ inl s ↦ omega (arith, s, k) | inr j ↦ (let z = u.0 x j in omega (arith, z, k)) ])))
          | inl l ↦ rw (lt-ltb (length (given e)) (length R) l) (elim r [
            | inl b ↦ inl (
              b.0,
              λ x i t. elim i [
                | inl s ↦ rw s (let k = ap length b.0 in omega (arith, l, k))
                | inr j ↦ b.1 x j t
              ],
            )
            | inr b ↦ inr (
              b.0,
              inr b.1,
              b.2,
              b.3,
              λ u x i t k. elim i [
                | inl s ↦ rw s (let z = ap length b.3 in omega (arith, l, z))
                | inr j ↦ b.4 u.1 x j t k
              ],
            )
          ])
        ])
      ]

module _ (g : Matroid) (laws : IsMatroid g) where
  -- the order of branches does not matter
  pub independent_same : (K L : List ℕ) → IsIndependent g K → length K ≡ length L → ((x : ℕ) → In x K → In x L) → ((x : ℕ) → In x L → In x K) → IsIndependent g L
  independent_same K L f e h k =
      independent_from_rank g laws L
      (let a = rank-within g laws K L (λ x i. laws.member L x (h x i)) in
      let b = rank-independent g laws K f in
      let c = rank-short g laws L in
      omega (arith, a, b, c, e))

module _ (g : Matroid) (laws : IsMatroid g) (touch : ℕ → List ℕ) where
  -- an assignment whose branches are a forest with those of L
  pub record IsOver (M L : List ℕ) (A : List Pair) : Type 0 where
    pub of_items : (p : Pair) → In p A → In p.0 M
    pub touched : (p : Pair) → In p A → In p.1 (touch p.0)
    pub different : IsDistinct (items A)
    pub independent : IsIndependent g (branches A ++ L)

  independent_right : (A : List Pair) (L : List ℕ) → IsIndependent g (branches A ++ L) → IsIndependent g L
  independent_right [] L f = f
  independent_right (p ∷ A) L f = independent_right A L f.1

  -- an item with its branch taken out
  IsOver-out : (m e : ℕ) (M L : List ℕ) (B : List Pair) → IsOver (m ∷ M) L B → In (m, e) B → IsOver M (e ∷ L) (part (other_than m) B) × (suc (length (part (other_than m) B)) ≡ length B)
  IsOver-out m e M L B b i =
      let B' : List Pair = part (other_than m) B in
      let n : suc (length B') ≡ length B = length-put_in (m, e) B b.different (In-items B (m, e) i) in
      let l1 = length-append (branches B) L in
      let l2 = length-append (branches B') (e ∷ L) in
      let l3 = length-branches B in
      let l4 = length-branches B' in (
        record {
          of_items = λ p j. let u = In-part_from (other_than m) B p j in elim (b.of_items p u.0) [ inl s ↦ absurd (other_ne m p.0 u.1 s) | inr k ↦ k ];
          touched = λ p j. b.touched p (In-part_from (other_than m) B p j).0;
          different = IsDistinct-part (other_than m) B b.different;
          independent = independent_same g laws (branches B ++ L) (branches B' ++ e ∷ L) b.independent (omega (arith, n, l1, l2, l3, l4))
              (λ x j. elim (In-append_cases x (branches B) L j) [
                | inl k ↦ let v = In-branches_from B x k in
                    elim (cases_eq v.0.0 m) [
                      | inl s ↦ In-append_right x (branches B') (e ∷ L) (inl (v.2 ∙ ap (λ (q : Pair). q.1) (same_pair B v.0 (m, e) b.different v.1 i s)))
                      | inr a ↦ In-append_left x (branches B') (e ∷ L) (In_same x v.0.1 (branches B') v.2 (In-branches B' v.0 (In-part (other_than m) B v.0 v.1 (other_true m v.0.0 a))))
                    ]
                | inr k ↦ In-append_right x (branches B') (e ∷ L) (inr k)
              ])
              (λ x j. elim (In-append_cases x (branches B') (e ∷ L) j) [
                | inl k ↦ let v = In-branches_from B' x k in
                    In-append_left x (branches B) L (In_same x v.0.1 (branches B) v.2 (In-branches B v.0 (In-part_from (other_than m) B v.0 v.1).0))
                | inr k ↦ elim k [
                  | inl s ↦ In-append_left x (branches B) L (In_same x e (branches B) s (In-branches B (m, e) i))
                  | inr l ↦ In-append_right x (branches B) L l
                ]
              ]);
        },
        n,
      )

  IsOver-bare : (m : ℕ) (M L : List ℕ) (B : List Pair) → IsOver (m ∷ M) L B → branch_at B m ≡ None → IsOver M L B
  IsOver-bare m M L B b n = record {
    of_items = λ p i. elim (b.of_items p i) [
      | inl s ↦ absurd (branch_at_none B m n (In_same m p.0 (items B) (sym s) (In-items B p i)))
      | inr k ↦ k
    ];
    touched = b.touched;
    different = b.different;
    independent = b.independent;
  }

  IsOver-more : (m : ℕ) (M L : List ℕ) (B : List Pair) → IsOver M L B → IsOver (m ∷ M) L B
  IsOver-more m M L B b = record { of_items = λ p i. inr (b.of_items p i); touched = b.touched; different = b.different; independent = b.independent }

  -- an item that is not among them has none
  not_of : (M L : List ℕ) (B : List Pair) (m : ℕ) → IsOver M L B → (In m M → ⊥) → In m (items B) → ⊥
  not_of M L B m b n i = let v = In-items_from B m i in n (In_same m v.0.0 M v.2 (b.of_items v.0 v.1))

  IsOver-in : (m e : ℕ) (M L : List ℕ) (B : List Pair) → IsDistinct (m ∷ M) → In e (touch m) → IsOver M (e ∷ L) B → IsOver (m ∷ M) L ((m, e) ∷ B)
  IsOver-in m e M L B d t b =
      let l1 = length-append (branches B) L in
      let l2 = length-append (branches B) (e ∷ L) in
      record {
        of_items = λ p i. elim i [ inl s ↦ inl (ap (λ (q : Pair). q.0) s) | inr j ↦ inr (b.of_items p j) ];
        touched = λ p i. elim i [ inl s ↦ rw s t | inr j ↦ b.touched p j ];
        different = (not_of M (e ∷ L) B m b d.0, b.different);
        independent = independent_same g laws (branches B ++ e ∷ L) (e ∷ (branches B ++ L)) b.independent (omega (arith, l1, l2))
            (λ x j. elim (In-append_cases x (branches B) (e ∷ L) j) [
              | inl k ↦ inr (In-append_left x (branches B) L k)
              | inr k ↦ elim k [ inl s ↦ inl s | inr l ↦ inr (In-append_right x (branches B) L l) ]
            ])
            (λ x j. elim j [
              | inl s ↦ In-append_right x (branches B) (e ∷ L) (inl s)
              | inr k ↦ elim (In-append_cases x (branches B) L k) [
                | inl l ↦ In-append_left x (branches B) (e ∷ L) l
                | inr l ↦ In-append_right x (branches B) (e ∷ L) (inr l)
              ]
            ]);
      }

  record IsBest (M L : List ℕ) (A : List Pair) : Type 0 where
    over : IsOver M L A
    longest : (B : List Pair) → IsOver M L B → length B ≤ length A
    least : ((m : ℕ) → IsRising (touch m)) → (B : List Pair) → IsOver M L B → length B ≡ length A → IsNotAfter M A B

  module _ (m : ℕ) (M L : List ℕ) (d : IsDistinct (m ∷ M)) (given : ℕ → List Pair) (bare : List Pair)
      (nb : IsBest M L bare) (eb : (e : ℕ) → g.spans L e ≡ false → IsBest M (e ∷ L) (given e)) where
    R : List Pair
    R = pick (λ e. not (g.spans L e)) (λ e. (m, e) ∷ given e) bare (touch m)

    -- what an assignment that gives e to m is
    at_branch : (B : List Pair) → IsOver (m ∷ M) L B → (y : ℕ) → branch_at B m ≡ Some y
        → In y (touch m) × (g.spans L y ≡ false) × IsOver M (y ∷ L) (part (other_than m) B) × (suc (length (part (other_than m) B)) ≡ length B)
    at_branch B b y s =
        let i = branch_at_from B m y s in
        let o = IsOver-out m y M L B b i in
        (b.touched (m, y) i, (independent_right (part (other_than m) B) (y ∷ L) o.0.independent).0, o.0, o.1)

    passes_from : (y : ℕ) → g.spans L y ≡ false → not (g.spans L y) ≡ true
    passes_from y n = rw n refl

    R_longest : (B : List Pair) → IsOver (m ∷ M) L B → length B ≤ length R
    unfolding R
    R_longest B b =
        let p = pick_longest (λ e. not (g.spans L e)) (λ e. (m, e) ∷ given e) bare (touch m) in
        elim (cases_Option (branch_at B m)) [
          | inl n ↦ let k = nb.longest B (IsOver-bare m M L B b n) in let q = p.0 in omega (arith, k, q)
          | inr y ↦
              let o = at_branch B b y.0 y.1 in
              let k = (eb y.0 o.1).longest (part (other_than m) B) o.2 in
              let q = p.1 y.0 o.0 (passes_from y.0 o.1) in
              let n = o.3 in
              omega (arith, k, q, n)
        ]

    R_best : IsBest (m ∷ M) L R
    unfolding R
    R_best =
        elim (pick_is (λ e. not (g.spans L e)) (λ e. (m, e) ∷ given e) bare (touch m)) [
          | inl c ↦ IsBest-from bare c.0 (record {
            over = IsOver-more m M L bare nb.over;
            longest = λ B b. let k = R_longest B b in let e = ap length c.0 in omega (arith, k, e);
            least = λ rising B b e. elim (cases_Option (branch_at B m)) [
              | inl n ↦ inr (branch_at_out bare m (not_of M L bare m nb.over d.0) ∙ sym n, nb.least rising B (IsOver-bare m M L B b n) e)
              | inr y ↦
                  let o = at_branch B b y.0 y.1 in
                  let k = c.1 y.0 o.0 (passes_from y.0 o.1) in
                  let q = (eb y.0 o.1).longest (part (other_than m) B) o.2 in
                  let n = o.3 in
                  absurd (omega (arith, k, q, n, e))
            ];
          })
          | inr c ↦
              let e : ℕ = c.0 in
              let C : List Pair = given e in
              let ne : g.spans L e ≡ false = not-true (g.spans L e) c.2 in
              let be = eb e ne in
              IsBest-from ((m, e) ∷ C) c.3 (record {
                over = IsOver-in m e M L C d c.1 be.over;
                longest = λ B b. let k = R_longest B b in let z = ap length c.3 in omega (arith, k, z);
                least = λ rising B b l.
                    let here : branch_at ((m, e) ∷ C) m ≡ Some e = rw (eq-eqb m m refl) refl in
                    elim (cases_Option (branch_at B m)) [
                      | inl n ↦ inl (rw (here, n) tt)
                      | inr y ↦
                          let o = at_branch B b y.0 y.1 in
                          let n = o.3 in
                          elim (cases_order e y.0) [
                            | inl s ↦
                                let ob : IsOver M (e ∷ L) (part (other_than m) B) = subst (λ (z : ℕ). IsOver M (z ∷ L) (part (other_than m) B)) (sym s) o.2 in
                                inr (
                                  here ∙ ap Some s ∙ sym y.1,
                                  IsNotAfter-same M C ((m, e) ∷ C) (part (other_than m) B) B
                                      (λ x i. sym (branch_at_next m e C x (λ w. d.0 (In_same m x M w i))))
                                      (λ x i. branch_at_part m B x (λ w. d.0 (In_same m x M (sym w) i)))
                                      (be.least rising (part (other_than m) B) ob (omega (arith, n, l))),
                                )
                            | inr c2 ↦ elim c2 [
                              | inl less ↦ inl (rw (here, y.1) less)
                              | inr more ↦
                                  let k = c.4 (rising m) y.0 o.0 (passes_from y.0 o.1) more in
                                  let q = (eb y.0 o.1).longest (part (other_than m) B) o.2 in
                                  absurd (omega (arith, k, q, n, l))
                            ]
                          ]
                    ];
              })
        ]
      where
        IsBest-from : (X : List Pair) → R ≡ X → IsBest (m ∷ M) L X → IsBest (m ∷ M) L R
        IsBest-from X e b = rw e b

  best : (M L : List ℕ) → IsDistinct M → IsIndependent g L → IsBest M L (first_with g touch M L)
  unfolding first_with R
  best [] L d f = record {
    over = record { of_items = λ p i. absurd i; touched = λ p i. absurd i; different = tt; independent = f };
    longest = λ B b. none_of_nil B b.of_items;
    least = λ rising B b e. tt;
  }
  best (m ∷ M) L d f = R_best m M L d (λ e. first_with g touch M (e ∷ L)) (first_with g touch M L) (best M L d.1 f) (λ e n. best M (e ∷ L) d.1 (n, f))

  over_from : (M : List ℕ) (A : List Pair) → IsAssignment g touch M A → IsOver M [] A
  over_from M A a = record {
    of_items = a.of_items;
    touched = a.touched;
    different = a.different;
    independent = (rw (append-nil (branches A)) a.independent);
  }

  assignment_from : (M : List ℕ) (A : List Pair) → IsOver M [] A → IsAssignment g touch M A
  assignment_from M A a = record {
    of_items = a.of_items;
    touched = a.touched;
    different = a.different;
    independent = (rw (append-nil (branches A)) at a.independent);
  }

  -- the computed assignment is the first one
  pub first_of_is : ((m : ℕ) → IsRising (touch m)) → (M : List ℕ) → IsDistinct M → IsFirst g touch M (first_of g touch M)
  unfolding first_of
  first_of_is rising M d =
      let b = best M [] d tt in
      record {
        assigns = assignment_from M (first_with g touch M []) b.over;
        longest = λ B a. b.longest B (over_from M B a);
        least = λ B a e. b.least rising B (over_from M B a) e;
      }

  pub rho_of_is : (M : List ℕ) → IsDistinct M → IsRho g touch M (rho_of g touch M)
  unfolding rho_of first_of
  rho_of_is M d = let b = best M [] d tt in
      record { longest = first_of g touch M; assigns = assignment_from M (first_with g touch M []) b.over; long = refl; none_longer = λ B a. b.longest B (over_from M B a) }

  pub is_critical_is : (M : List ℕ) → IsDistinct M → (m : ℕ) → (is_critical g touch M m ≡ true) ↔ IsCritical g touch M m
  unfolding is_critical
  is_critical_is M d m =
      let p = rho_of_is M d in
      let q = rho_of_is (without m M) (IsDistinct-filter (other_than m) M d) in (
        (λ t r s p' q'.
            let a = rho_same g touch M (rho_of g touch M) r p p' in
            let b = rho_same g touch (without m M) (rho_of g touch (without m M)) s q q' in
            let l = ltb-true (rho_of g touch (without m M)) (rho_of g touch M) t in
            omega (arith, a, b, l)),
        (λ k. lt-ltb (rho_of g touch (without m M)) (rho_of g touch M) (k (rho_of g touch M) (rho_of g touch (without m M)) p q)),
      )

  -- the items that are not critical are tight
  pub noncritical_tight : (M : List ℕ) → IsDistinct M → IsTight g touch M (λ m. not (is_critical g touch M m))
  noncritical_tight M d = tight_marks g laws touch M (λ m. not (is_critical g touch M m)) d (λ m i.
      let t = is_critical_is M d m in (
        (λ n. t.0 (elim (cases_Bool (is_critical g touch M m)) [ inl y ↦ y | inr f ↦ clash (rw f refl) n ])),
        (λ k. rw (t.1 k) refl),
      ))
