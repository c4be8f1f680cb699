-- The candidates that each raise the greatest length.
use Rattle.std.proofs.Common.{◌≡◌, ℕ, suc, ◌+◌, ◌≤◌, ◌<◌, List, [], ◌∷◌, ◌++◌, length, refl, sym, ap, true, ◌↔◌, ◌∙◌, inl, inr, ltb, eqb, ◌⊎◌, arith, subst}
use Rattle.std.specs.List.{sum_by}
use Rattle.std.proofs.lemmas.Bool.{cases_Bool, cases_eq, lt-ltb, le-ltb, cases_lt, eqb-true, ltb-true}
use Rattle.obs_matroid.specs.Lists.{In, IsDistinct}
use Rattle.obs_matroid.specs.Matroid.{Matroid}
use Rattle.obs_matroid.specs.inner.Matroid.{IsMatroid}
use Rattle.obs_matroid.specs.Assignments.{Pair, items, IsAssignment}
use Rattle.obs_matroid.specs.inner.Assignments.{IsRho}
use Rattle.obs_matroid.specs.inner.Closed.{IsGrown, none}
use Rattle.obs_matroid.specs.Placement.{is_raising, Layer, RunOn, layers_sum, below, IsShown}
use Rattle.obs_matroid.specs.inner.Placement.{answer_of, RunsThrough, Raises, IsAnswer, finished, chosen, passed, IsByPrice, IsApart}
use Rattle.obs_matroid.proofs.Lists.{clash, In_same, In-append_left, In-append_right, In-append_cases, cases_In, length-within, length-split}
use Rattle.obs_matroid.proofs.Pairs.{In-items, In-items_from}
use Rattle.obs_matroid.proofs.Bounds.{length-items}
use Rattle.obs_matroid.proofs.Critical.{rho_exists, rho_same}
use Rattle.obs_matroid.specs.Values.{rho_of}
use Rattle.obs_matroid.proofs.Computed.{rho_of_is}
use Rattle.obs_matroid.proofs.Layers.{layers_exact, above_zero}
use Rattle.obs_matroid.proofs.Placement.{IsAssignment-items, IsRho-same, rho_more, one_more, layer_bound}

IsApart-next : (M es : List ℕ) (c : ℕ) → IsApart M (c ∷ es) → IsApart (c ∷ M) es
IsApart-next M es c a = record {
  items_differ = (a.apart c (inl refl), a.items_differ);
  candidates_differ = a.candidates_differ.1;
  apart = λ x i j. elim j [ inl e ↦ a.candidates_differ.0 (In_same c x es (sym e) i) | inr k ↦ a.apart x (inr i) k ];
}

In-move : (M es : List ℕ) (c x : ℕ) → In x ((c ∷ M) ++ es) → In x (M ++ c ∷ es)
In-move M es c x (inl e) = In-append_right x M (c ∷ es) (inl e)
In-move M es c x (inr i) = elim (In-append_cases x M es i) [ inl j ↦ In-append_left x M (c ∷ es) j | inr j ↦ In-append_right x M (c ∷ es) (inr j) ]

In-back : (M es : List ℕ) (c x : ℕ) → In x (M ++ c ∷ es) → In x ((c ∷ M) ++ es)
In-back M es c x i = elim (In-append_cases x M (c ∷ es) i) [
  | inl j ↦ inr (In-append_left x M es j)
  | inr j ↦ elim j [ inl e ↦ inl e | inr k ↦ inr (In-append_right x M es k) ]
]

none_below : (price : ℕ → ℕ) (t : ℕ) (es : List ℕ) → ((x : ℕ) → In x es → t ≤ price x) → below price t es ≡ []
none_below price t [] h = refl
none_below price t (c ∷ es) h = rw (le-ltb (price c) t (h c (inl refl))) (none_below price t es (λ x i. h x (inr i)))

length-below : (price : ℕ → ℕ) (t : ℕ) (xs : List ℕ) (c : ℕ) → In c xs → t ≤ price c → length (below price t xs) < length xs
length-below price t [] c i l = absurd i
length-below price t (x ∷ xs) c (inl e) l =
    let k : t ≤ price x = rw (← e) l in
    let s = length-split (λ y. ltb (price y) t) xs in
    rw (le-ltb (price x) t k) (omega (arith, s))
length-below price t (x ∷ xs) c (inr i) l =
    let h = length-below price t xs c i l in
    elim (cases_Bool (ltb (price x) t)) [ inl y ↦ rw y (omega (arith, h)) | inr n ↦ rw n (omega (arith, h)) ]

-- the answer is a list of candidates
pub answer_within : (g : Matroid) (touch : ℕ → List ℕ) (M es xs : List ℕ) → IsAnswer g touch M es xs → (x : ℕ) → In x xs → In x es
answer_within g touch M [] [] finished x i = i
answer_within g touch M [] (y ∷ xs) a x i = elim a [ ]
answer_within g touch M (c ∷ es) (y ∷ xs) (chosen r a) x (inl e) = inl e
answer_within g touch M (c ∷ es) (y ∷ xs) (chosen r a) x (inr i) = inr (answer_within g touch (c ∷ M) es xs a x i)
answer_within g touch M (c ∷ es) xs (passed r a) x i = inr (answer_within g touch (c ∷ M) es xs a x i)

module _ (g : Matroid) (laws : IsMatroid g) (touch : ℕ → List ℕ) where
  IsRho-number : (M : List ℕ) (r s : ℕ) → r ≡ s → IsRho g touch M r → IsRho g touch M s
  IsRho-number M r s e p = subst (λ (x : ℕ). IsRho g touch M x) e p

  IsRho-move : (M es : List ℕ) (c r : ℕ) → IsRho g touch ((c ∷ M) ++ es) r → IsRho g touch (M ++ c ∷ es) r
  IsRho-move M es c r p = IsRho-same g laws touch ((c ∷ M) ++ es) (M ++ c ∷ es) r (In-move M es c) (In-back M es c) p

  -- what a candidate adds
  raised : (M : List ℕ) (c r : ℕ) → IsDistinct (c ∷ M) → IsRho g touch M r → Raises g touch M c → IsRho g touch (c ∷ M) (suc r)
  raised M c r d p h =
      let q = rho_exists g laws touch (c ∷ M) d in
      let l = rho_more g laws touch M c r q.0 p q.1 in
      let k = h r q.0 p q.1 in
      IsRho-number (c ∷ M) q.0 (suc r) (omega (arith, l, k)) q.1

  not_raised : (M : List ℕ) (c r : ℕ) → IsDistinct (c ∷ M) → IsRho g touch M r → (Raises g touch M c → ⊥) → IsRho g touch (c ∷ M) r
  not_raised M c r d p h =
      let q = rho_exists g laws touch (c ∷ M) d in
      let l = rho_more g laws touch M c r q.0 p q.1 in
      elim (cases_lt r q.0) [
        | inl k ↦ absurd (h (λ r' s' p' q'. let a = rho_same g touch M r r' p p' in let b = rho_same g touch (c ∷ M) q.0 s' q.1 q' in omega (arith, a, b, k)))
        | inr k ↦ IsRho-number (c ∷ M) q.0 r (omega (arith, l, k)) q.1
      ]

  -- the greatest length of the items and the candidates below a price is that of the items and the number of chosen ones below it
  pub answer_below : (price : ℕ → ℕ) (t : ℕ) (M es xs : List ℕ) (r : ℕ) → IsAnswer g touch M es xs → IsApart M es → IsByPrice price es
      → IsRho g touch M r → IsRho g touch (M ++ below price t es) (r + length (below price t xs))
  answer_below price t M [] [] r finished a o p =
      IsRho-same g laws touch M (M ++ []) (r + 0) (λ x i. In-append_left x M [] i) (λ x i. elim (In-append_cases x M [] i) [ inl j ↦ j | inr j ↦ absurd j ]) (IsRho-number M r (r + 0) (omega arith) p)
  answer_below price t M [] (y ∷ xs) r b a o p = elim b [ ]
  answer_below price t M (c ∷ es) (y ∷ xs) r (chosen h b) a o p =
      let n = IsApart-next M es c a in
      elim (cases_lt (price c) t) [
        | inl l ↦
            let k = answer_below price t (c ∷ M) es xs (suc r) b n o.1 (raised M c r n.items_differ p h) in
            rw (lt-ltb (price c) t l) (IsRho-move M (below price t es) c (r + suc (length (below price t xs)))
            (IsRho-number ((c ∷ M) ++ below price t es) (suc r + length (below price t xs)) (r + suc (length (below price t xs))) (omega arith) k))
        | inr l ↦
            let high : (x : ℕ) → In x es → t ≤ price x = λ x i. let w = o.0 x i in omega (arith, w, l) in
            let e : below price t es ≡ [] = none_below price t es high in
            let f : below price t xs ≡ [] = none_below price t xs (λ x i. high x (answer_within g touch (c ∷ M) es xs b x i)) in
            rw (le-ltb (price c) t l) (rw (e, f) (IsRho-same g laws touch M (M ++ []) (r + 0) (λ x i. In-append_left x M [] i)
            (λ x i. elim (In-append_cases x M [] i) [ inl j ↦ j | inr j ↦ absurd j ]) (IsRho-number M r (r + 0) (omega arith) p)))
      ]
  answer_below price t M (c ∷ es) xs r (passed h b) a o p =
      let n = IsApart-next M es c a in
      elim (cases_lt (price c) t) [
        | inl l ↦
            let k = answer_below price t (c ∷ M) es xs r b n o.1 (not_raised M c r n.items_differ p h) in
            rw (lt-ltb (price c) t l) (IsRho-move M (below price t es) c (r + length (below price t xs)) k)
        | inr l ↦
            let high : (x : ℕ) → In x es → t ≤ price x = λ x i. let w = o.0 x i in omega (arith, w, l) in
            let e : below price t es ≡ [] = none_below price t es high in
            let f : below price t xs ≡ [] = none_below price t xs (λ x i. high x (answer_within g touch (c ∷ M) es xs b x i)) in
            rw (le-ltb (price c) t l) (rw (e, f) (IsRho-same g laws touch M (M ++ []) (r + 0) (λ x i. In-append_left x M [] i)
            (λ x i. elim (In-append_cases x M [] i) [ inl j ↦ j | inr j ↦ absurd j ]) (IsRho-number M r (r + 0) (omega arith) p)))
      ]

  -- a longest assignment of M grows, by the chosen candidates alone, to one that is longest with all candidates
  pub record IsCarried (M es xs : List ℕ) (A C : List Pair) : Type 0 where
    pub assigns : IsAssignment g touch (M ++ es) C
    pub long : length C ≡ length A + length xs
    pub longest : (B : List Pair) → IsAssignment g touch (M ++ es) B → length B ≤ length C
    pub only : (p : Pair) → In p C → In p.0 (items A) ⊎ In p.0 xs

  -- where an assignment has one pair more, by a source alone, it has no other new item
  only_source : (M : List ℕ) (c : ℕ) (A B : List Pair) (s : ℕ) → IsDistinct (items A) → IsGrown g touch M none (λ x. eqb x c) A B s
      → (p : Pair) → In p B → In p.0 (items A) ⊎ (p.0 ≡ c)
  only_source M c A B s d b p i =
      elim (cases_In p.0 (items A)) [
        | inl j ↦ inl j
        | inr out ↦ elim (cases_eq p.0 c) [
          | inl e ↦ inr e
          | inr n ↦
              let sc : s ≡ c = eqb-true s c b.is_source in
              let w : suc (suc (length (items A))) ≤ length (items B) =
              length-within (p.0 ∷ s ∷ items A) (items B)
              ((λ j. elim j [ inl e ↦ n (e ∙ sc) | inr k ↦ out k ]), (b.had_none, d))
              (λ x j. elim j [ inl e ↦ In_same x p.0 (items B) e (In-items B p i) | inr k ↦ elim k [ inl e ↦ In_same x s (items B) e b.gains | inr l ↦ b.keeps x l ] ]) in
              let a = length-items A in let k = length-items B in let l = b.longer in
              absurd (omega (arith, w, a, k, l))
        ]
      ]

  pub answer_carried : (M es xs : List ℕ) (A : List Pair) → IsAnswer g touch M es xs → IsApart M es → IsAssignment g touch M A
      → ((B : List Pair) → IsAssignment g touch M B → length B ≤ length A) → (C : List Pair) × IsCarried M es xs A C
  answer_carried M [] [] A finished n a l = (
    A,
    record {
      assigns = IsAssignment-items g laws touch M (M ++ []) A a (λ p i. In-append_left p.0 M [] (a.of_items p i));
      long = omega arith;
      longest = λ B b. l B (IsAssignment-items g laws touch (M ++ []) M B b (λ p i. elim (In-append_cases p.0 M [] (b.of_items p i)) [ inl j ↦ j | inr j ↦ absurd j ]));
      only = λ p i. inl (In-items A p i);
    },
  )
  answer_carried M [] (y ∷ xs) A b n a l = elim b [ ]
  answer_carried M (c ∷ es) (y ∷ xs) A (chosen h b) n a l =
      let n' = IsApart-next M es c n in
      let p : IsRho g touch M (length A) = record { longest = A; assigns = a; long = refl; none_longer = l } in
      let q = raised M c (length A) n'.items_differ p h in
      elim (one_more g laws touch M c A n'.items_differ a l) [
        | inr no' ↦ let k = no' q.longest q.assigns in let e = q.long in absurd (omega (arith, k, e))
        | inl w ↦
            let B : List Pair = w.0 in
            let v = w.2 in
            let lb : (D : List Pair) → IsAssignment g touch (c ∷ M) D → length D ≤ length B = λ D d. let k = q.none_longer D d in let e = v.longer in omega (arith, k, e) in
            let r = answer_carried (c ∷ M) es xs B b n' v.assigns lb in (
              r.0,
              record {
                assigns = IsAssignment-items g laws touch ((c ∷ M) ++ es) (M ++ c ∷ es) r.0 r.1.assigns (λ p i. In-move M es c p.0 (r.1.assigns.of_items p i));
                long = (let e = r.1.long in let f = v.longer in omega (arith, e, f));
                longest = λ D d. r.1.longest D (IsAssignment-items g laws touch (M ++ c ∷ es) ((c ∷ M) ++ es) D d (λ p i. In-back M es c p.0 (d.of_items p i)));
                only = λ p i. elim (r.1.only p i) [
                  | inr j ↦ inr (inr j)
                  | inl j ↦ let u = In-items_from B p.0 j in
                      elim (only_source (c ∷ M) c A B w.1 a.different v u.0 u.1) [
                        | inl k ↦ inl (In_same p.0 u.0.0 (items A) u.2 k)
                        | inr e ↦ inr (inl (u.2 ∙ e))
                      ]
                ];
              },
            )
      ]
  answer_carried M (c ∷ es) xs A (passed h b) n a l =
      let n' = IsApart-next M es c n in
      let p : IsRho g touch M (length A) = record { longest = A; assigns = a; long = refl; none_longer = l } in
      let q = not_raised M c (length A) n'.items_differ p h in
      let a' : IsAssignment g touch (c ∷ M) A = IsAssignment-items g laws touch M (c ∷ M) A a (λ p i. inr (a.of_items p i)) in
      let r = answer_carried (c ∷ M) es xs A b n' a' q.none_longer in (
        r.0,
        record {
          assigns = IsAssignment-items g laws touch ((c ∷ M) ++ es) (M ++ c ∷ es) r.0 r.1.assigns (λ p i. In-move M es c p.0 (r.1.assigns.of_items p i));
          long = r.1.long;
          longest = λ D d. r.1.longest D (IsAssignment-items g laws touch (M ++ c ∷ es) ((c ∷ M) ++ es) D d (λ p i. In-back M es c p.0 (d.of_items p i)));
          only = r.1.only;
        },
      )

  -- the chosen candidates do as much as all of them
  pub answer_completes : (M es xs : List ℕ) (r : ℕ) → IsAnswer g touch M es xs → IsApart M es → IsRho g touch M r
      → IsRho g touch (M ++ es) (r + length xs) × IsRho g touch (M ++ xs) (r + length xs)
  answer_completes M es xs r b n p =
      let c = answer_carried M es xs p.longest b n p.assigns (λ B a. let k = p.none_longer B a in let e = p.long in omega (arith, k, e)) in
      let C : List Pair = c.0 in
      let lc : length C ≡ r + length xs = (let e = c.1.long in let f = p.long in omega (arith, e, f)) in (
        record { longest = C; assigns = c.1.assigns; long = lc; none_longer = λ B a. let k = c.1.longest B a in omega (arith, k, lc) },
        record {
          longest = C;
          assigns = IsAssignment-items g laws touch (M ++ es) (M ++ xs) C c.1.assigns (λ v i. elim (c.1.only v i) [
            | inl j ↦ let u = In-items_from p.longest v.0 j in In-append_left v.0 M xs (In_same v.0 u.0.0 M u.2 (p.assigns.of_items u.0 u.1))
            | inr j ↦ In-append_right v.0 M xs j
          ]);
          long = lc;
          none_longer = λ B a. let k = c.1.longest B (IsAssignment-items g laws touch (M ++ xs) (M ++ es) B a (λ v i. elim (In-append_cases v.0 M xs (a.of_items v i)) [
            | inl j ↦ In-append_left v.0 M es j
            | inr j ↦ In-append_right v.0 M es (answer_within g touch M es xs b v.0 j)
          ])) in omega (arith, k, lc);
        },
      )

  -- the answer's own layers show its whole cost, where each has a tight list
  pub answer_cost : (price : ℕ → ℕ) (M es xs : List ℕ) (r : ℕ) (ls : List Layer) → IsAnswer g touch M es xs → IsApart M es → IsByPrice price es → IsRho g touch M r
      → RunOn 0 ls → RunsThrough price 0 ls xs → ((l : Layer) → In l ls → IsRho g touch (M ++ below price l.to es) (l.rank + l.outside))
      → layers_sum (r + length xs) ls ≡ sum_by price xs
  answer_cost price M es xs r ls b n o p run through tight =
      layers_exact price (r + length xs) xs ls 0 run through (λ l i.
      let k = answer_below price l.to M es xs r b n o p in
      let e = rho_same g touch (M ++ below price l.to es) (l.rank + l.outside) (r + length (below price l.to xs)) (tight l i) k in
      let s = length-split (λ c. ltb (price c) l.to) xs in
      omega (arith, e, s)) ∙ above_zero price xs

  -- no completing set costs less
  pub answer_cheapest : (price : ℕ → ℕ) (M es xs X : List ℕ) (r : ℕ) (ls : List Layer) → IsAnswer g touch M es xs → IsApart M es → IsByPrice price es → IsRho g touch M r
      → RunOn 0 ls → RunsThrough price 0 ls xs → ((l : Layer) → In l ls → IsShown g touch price M es l × IsRho g touch (M ++ below price l.to es) (l.rank + l.outside))
      → ((c : ℕ) → In c X → In c es) → IsRho g touch (M ++ X) (r + length xs) → sum_by price xs ≤ sum_by price X
  answer_cheapest price M es xs X r ls b n o p run through h sub q =
      let k = layer_bound g laws touch price M es X (r + length xs) ls run (λ l i. (h l i).0) sub q in
      let e = answer_cost price M es xs r ls b n o p run through (λ l i. (h l i).1) in
      omega (arith, k, e)

  -- the candidates below the price of a member of the answer do not do as much as all
  pub answer_lacks : (price : ℕ → ℕ) (t : ℕ) (M es xs : List ℕ) (r s c : ℕ) → IsAnswer g touch M es xs → IsApart M es → IsByPrice price es → IsRho g touch M r
      → In c xs → t ≤ price c → IsRho g touch (M ++ below price t es) s → s < r + length xs
  answer_lacks price t M es xs r s c b n o p i l q =
      let e = rho_same g touch (M ++ below price t es) s (r + length (below price t xs)) q (answer_below price t M es xs r b n o p) in
      let k = length-below price t xs c i l in
      omega (arith, e, k)

  -- whether a candidate raises the greatest length is decided
  pub is_raising_is : (M : List ℕ) (c : ℕ) → IsDistinct (c ∷ M) → (is_raising g touch M c ≡ true) ↔ Raises g touch M c
  unfolding is_raising
  is_raising_is M c d =
      let p = rho_of_is g laws touch M d.1 in
      let q = rho_of_is g laws touch (c ∷ M) d in (
        (λ t r s p' q'.
            let a = rho_same g touch M (rho_of g touch M) r p p' in
            let b = rho_same g touch (c ∷ M) (rho_of g touch (c ∷ M)) s q q' in
            let l = ltb-true (rho_of g touch M) (rho_of g touch (c ∷ M)) t in
            omega (arith, a, b, l)),
        (λ k. lt-ltb (rho_of g touch M) (rho_of g touch (c ∷ M)) (k (rho_of g touch M) (rho_of g touch (c ∷ M)) p q)),
      )

  -- the computed answer is the answer
  pub answer_of_is : (M es : List ℕ) → IsApart M es → IsAnswer g touch M es (answer_of g touch M es)
  unfolding answer_of
  answer_of_is M [] a = finished
  answer_of_is M (c ∷ es) a =
      let n = IsApart-next M es c a in
      let t = is_raising_is M c n.items_differ in
      elim (cases_Bool (is_raising g touch M c)) [
        | inl y ↦ rw y (chosen (t.0 y) (answer_of_is (c ∷ M) es n))
        | inr y ↦ rw y (passed (λ h. clash (t.1 h) y) (answer_of_is (c ∷ M) es n))
      ]

-- there is one answer alone
module _ (g : Matroid) (touch : ℕ → List ℕ) where
  pub answer_unique : (M es xs ys : List ℕ) → IsAnswer g touch M es xs → IsAnswer g touch M es ys → xs ≡ ys
  answer_unique M [] [] [] finished finished = refl
  answer_unique M [] [] (y ∷ ys) finished b = elim b [ ]
  answer_unique M [] (x ∷ xs) ys a b = elim a [ ]
  answer_unique M (c ∷ es) (x ∷ xs) (y ∷ ys) (chosen h a) (chosen k b) = ap (λ (zs : List ℕ). c ∷ zs) (answer_unique (c ∷ M) es xs ys a b)
  answer_unique M (c ∷ es) (x ∷ xs) ys (chosen h a) (passed k b) = absurd (k h)
  answer_unique M (c ∷ es) xs (y ∷ ys) (passed h a) (chosen k b) = absurd (h k)
  answer_unique M (c ∷ es) xs ys (passed h a) (passed k b) = answer_unique (c ∷ M) es xs ys a b
