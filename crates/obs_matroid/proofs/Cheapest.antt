-- The own layers of the answer show its whole cost, and so it costs no more than any other set of candidates that does as much.
use Rattle.std.proofs.Common.{◌≡◌, ℕ, ◌+◌, ◌≤◌, ◌<◌, List, [], ◌∷◌, ◌++◌, length, refl, sym, ap, subst, inl, inr, ◌⊎◌, not, ltb, arith}
use Rattle.std.specs.List.{sum_by}
use Rattle.std.proofs.lemmas.Bool.{cases_Bool, cases_lt, lt-ltb, le-ltb, ltb-true, not-true}
use Rattle.obs_matroid.specs.Lists.{In, IsDistinct}
use Rattle.obs_matroid.specs.Matroid.{Matroid}
use Rattle.obs_matroid.specs.inner.Matroid.{IsMatroid}
use Rattle.obs_matroid.specs.inner.Assignments.{IsRho}
use Rattle.obs_matroid.specs.Values.{is_critical}
use Rattle.obs_matroid.specs.Placement.{Layer, RunOn, layers_sum, below, IsShown}
use Rattle.obs_matroid.specs.inner.Placement.{RunsThrough, IsAnswer, chosen, passed, finished, IsByPrice, IsApart, own_list, own_layer, own_layers}
use Rattle.obs_matroid.proofs.Lists.{clash, In-filter, In-filter_from, In-append_left, In-append_right, In-append_cases, IsDistinct-filter, IsDistinct-append}
use Rattle.obs_matroid.proofs.Computed.{is_critical_is, noncritical_tight}
use Rattle.obs_matroid.proofs.Answer.{answer_within, answer_cost, answer_cheapest, answer_lacks}
use Rattle.obs_matroid.proofs.Heredity.{critical_within}

-- the answer stands by price
IsByPrice-answer : (g : Matroid) (touch : ℕ → List ℕ) (price : ℕ → ℕ) (M es xs : List ℕ) → IsAnswer g touch M es xs → IsByPrice price es → IsByPrice price xs
IsByPrice-answer g touch price M [] [] finished o = tt
IsByPrice-answer g touch price M [] (y ∷ xs) a o = elim a [ ]
IsByPrice-answer g touch price M (c ∷ es) (y ∷ xs) (chosen h a) o =
    ((λ x i. o.0 x (answer_within g touch (c ∷ M) es xs a x i)), IsByPrice-answer g touch price (c ∷ M) es xs a o.1)
IsByPrice-answer g touch price M (c ∷ es) xs (passed h a) o = IsByPrice-answer g touch price (c ∷ M) es xs a o.1

module _ (g : Matroid) (touch : ℕ → List ℕ) (price : ℕ → ℕ) (M es : List ℕ) where
  RunOn-own : (f : ℕ) (xs : List ℕ) → RunOn f (own_layers g touch price M es f xs)
  RunOn-own f [] = tt
  RunOn-own f (c ∷ xs) = elim (cases_lt f (price c)) [
    | inl l ↦ rw (lt-ltb f (price c) l) (refl, l, RunOn-own (price c) xs)
    | inr l ↦ rw (le-ltb f (price c) l) (RunOn-own f xs)
  ]

  RunsThrough-own : (f : ℕ) (xs ys : List ℕ) → IsByPrice price xs → ((c : ℕ) → In c ys → (price c ≤ f) ⊎ In c xs)
      → RunsThrough price f (own_layers g touch price M es f xs) ys
  RunsThrough-own f [] ys o h = λ c i. elim (h c i) [ inl l ↦ l | inr n ↦ absurd n ]
  RunsThrough-own f (c ∷ xs) ys o h = elim (cases_lt f (price c)) [
    | inl l ↦ rw (lt-ltb f (price c) l) (
      (λ y i. elim (h y i) [
        | inl k ↦ inl k
        | inr j ↦ inr (elim j [ inl e ↦ rw e (omega arith) | inr k ↦ o.0 y k ])
      ]),
      RunsThrough-own (price c) xs ys o.1 (λ y i. elim (h y i) [
        | inl k ↦ inl (omega (arith, k, l))
        | inr j ↦ elim j [ inl e ↦ inl (rw e (omega arith)) | inr k ↦ inr k ]
      ]),
    )
    | inr l ↦ rw (le-ltb f (price c) l) (RunsThrough-own f xs ys o.1 (λ y i. elim (h y i) [
      | inl k ↦ inl k
      | inr j ↦ elim j [ inl e ↦ inl (rw e l) | inr k ↦ inr k ]
    ]))
  ]

  -- each is the layer of some prices, up to the price of a member
  own_layer_of : (f : ℕ) (xs : List ℕ) (l : Layer) → In l (own_layers g touch price M es f xs)
      → (c : ℕ) × In c xs × (k : ℕ) × (l ≡ own_layer g touch price M es k (price c))
  own_layer_of f [] l i = absurd i
  own_layer_of f (c ∷ xs) l i =
      let later : (k : ℕ) → In l (own_layers g touch price M es k xs) → (d : ℕ) × In d (c ∷ xs) × (n : ℕ) × (l ≡ own_layer g touch price M es n (price d)) =
      λ k j. let r = own_layer_of k xs l j in (r.0, inr r.1, r.2, r.3) in
      elim (cases_lt f (price c)) [
        | inl s ↦ elim (rw (lt-ltb f (price c) s) at i) [ inl e ↦ (c, inl refl, f, e) | inr j ↦ later (price c) j ]
        | inr s ↦ later f (rw (le-ltb f (price c) s) at i)
      ]

  pub own_layers_run : (xs : List ℕ) → IsAnswer g touch M es xs → IsByPrice price es
      → RunOn 0 (own_layers g touch price M es 0 xs) × RunsThrough price 0 (own_layers g touch price M es 0 xs) xs
      × ((l : Layer) → In l (own_layers g touch price M es 0 xs) → (c : ℕ) × In c xs × (price c ≡ l.to))
  own_layers_run xs b o = (
    RunOn-own 0 xs,
    RunsThrough-own 0 xs xs (IsByPrice-answer g touch price M es xs b o) (λ c i. inr i),
    (λ l i. let r = own_layer_of 0 xs l i in (r.0, r.1, ap (λ (k : Layer). k.to) (sym r.3))),
  )

module _ (g : Matroid) (laws : IsMatroid g) (touch : ℕ → List ℕ) (price : ℕ → ℕ) (M es : List ℕ) (apart : IsApart M es) where
  -- the items and the candidates below a price
  abbrev pub scope : ℕ → List ℕ
  scope to = M ++ below price to es

  pub IsDistinct-scope : (to : ℕ) → IsDistinct (scope to)
  IsDistinct-scope to = IsDistinct-append M (below price to es) apart.items_differ (IsDistinct-filter (λ c. ltb (price c) to) es apart.candidates_differ)
      (λ x i j. apart.apart x (In-filter_from (λ c. ltb (price c) to) x es j).0 i)

  -- the numbers of such a layer are those of a tight list
  pub own_layer_tight : (f t : ℕ) → let l : Layer = own_layer g touch price M es f t in IsShown g touch price M es l × IsRho g touch (scope t) (l.rank + l.outside)
  own_layer_tight f t = (
    record { marks = λ m. not (is_critical g touch (scope t) m); rank_is = refl; outside_is = refl },
    noncritical_tight g laws touch (scope t) (IsDistinct-scope t),
  )

  own_layers_tight : (xs : List ℕ) (l : Layer) → In l (own_layers g touch price M es 0 xs) → IsShown g touch price M es l × IsRho g touch (scope l.to) (l.rank + l.outside)
  own_layers_tight xs l i =
      let r = own_layer_of g touch price M es 0 xs l i in
      subst (λ (k : Layer). IsShown g touch price M es k × IsRho g touch (scope k.to) (k.rank + k.outside)) (sym r.3) (own_layer_tight r.2 (price r.0))

  -- the own layers show the whole cost, and the bound of each is below the needed number
  pub own_layers_show : (xs : List ℕ) (r : ℕ) → IsAnswer g touch M es xs → IsByPrice price es → IsRho g touch M r
      → (layers_sum (r + length xs) (own_layers g touch price M es 0 xs) ≡ sum_by price xs)
      × ((l : Layer) → In l (own_layers g touch price M es 0 xs) → IsShown g touch price M es l × (l.rank + l.outside < r + length xs))
  own_layers_show xs r b o p =
      let run = own_layers_run g touch price M es xs b o in (
        answer_cost g laws touch price M es xs r (own_layers g touch price M es 0 xs) b apart o p run.0 run.1 (λ l i. (own_layers_tight xs l i).1),
        (λ l i.
            let t = own_layers_tight xs l i in
            let c = run.2 l i in
            let e = c.2 in
            (t.0, answer_lacks g laws touch price l.to M es xs r (l.rank + l.outside) c.0 b apart o p c.1 (omega (arith, e)) t.1)),
      )

  scope_within : (t u : ℕ) → t ≤ u → (x : ℕ) → In x (scope t) → In x (scope u)
  scope_within t u l x i = elim (In-append_cases x M (below price t es) i) [
    | inl j ↦ In-append_left x M (below price u es) j
    | inr j ↦
        let v = In-filter_from (λ c. ltb (price c) t) x es j in
        let k = ltb-true (price x) t v.1 in
        In-append_right x M (below price u es) (In-filter (λ c. ltb (price c) u) x es v.0 (lt-ltb (price x) u (omega (arith, k, l))))
  ]

  -- the own list of a higher price holds that of a lower one
  pub own_lists_grow : (t u : ℕ) → t ≤ u → (m : ℕ) → In m (own_list g touch price M es t) → In m (own_list g touch price M es u)
  own_lists_grow t u l m i =
      let v = In-filter_from (λ x. not (is_critical g touch (scope t) x)) m (scope t) i in
      In-filter (λ x. not (is_critical g touch (scope u) x)) m (scope u) (scope_within t u l m v.0)
      (elim (cases_Bool (is_critical g touch (scope u) m)) [
        | inr f ↦ rw f refl
        | inl y ↦ clash
            ((is_critical_is g laws touch (scope t) (IsDistinct-scope t) m).1
            (critical_within g laws touch (scope t) (scope u) m (IsDistinct-scope t) (IsDistinct-scope u) (scope_within t u l) v.0
            ((is_critical_is g laws touch (scope u) (IsDistinct-scope u) m).0 y)))
            (not-true (is_critical g touch (scope t) m) v.1)
      ])

  -- no set of candidates that does as much as all of them costs less than the answer
  pub answer_costs_least : (xs X : List ℕ) (r : ℕ) → IsAnswer g touch M es xs → IsByPrice price es → IsRho g touch M r
      → ((c : ℕ) → In c X → In c es) → IsRho g touch (M ++ X) (r + length xs) → sum_by price xs ≤ sum_by price X
  answer_costs_least xs X r b o p sub q =
      let run = own_layers_run g touch price M es xs b o in
      answer_cheapest g laws touch price M es xs X r (own_layers g touch price M es 0 xs) b apart o p run.0 run.1 (own_layers_tight xs) sub q
