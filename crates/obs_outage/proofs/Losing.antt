-- How many pairs a side loses, counted at its buses.
use Rattle.std.proofs.Common.{◌≡◌, ℕ, suc, ◌<◌, ◌≤◌, Bool, true, cond, eqb, ◌||◌, ◌⊎◌, inl, inr, Option, Some, None, List, [], ◌∷◌, length, filter, get_or, refl, sym, ap, ◌∙◌, subst, arith}
use Rattle.std.specs.Prelude.{◌==◌, All, count_by, is_some, slice_index_or, sum_by}
use Rattle.std.specs.List.{list_any}
use Rattle.std.specs.Cmp.Derive.{one_truth}
use Rattle.std.proofs.lemmas.Bool.{and_from, and_parts, cases_Bool, cases_eq, eq-eqb, eqb-true, ne_eqb, or_cases, or_left, or_right}
use Rattle.obs_graph.specs.declared.Ends.{Ends}
use Rattle.obs_graph.specs.Joined.{Leads}
use Rattle.obs_graph.specs.Positions.{branches_at, has_end, positions_from}
use Rattle.obs_graph.proofs.AtVertex.{end_at}
use Rattle.obs_graph.proofs.Present.{some_one}
use Rattle.obs_matroid.specs.Lists.{In, IsDistinct, IsRising}
use Rattle.obs_matroid.specs.Assignments.{Pair, branches}
use Rattle.obs_matroid.proofs.Lists.{In-filter, In-filter_from, IsDistinct-filter, clash, is_in, is_in_at, is_in_from, length-within}
use Rattle.obs_meter.specs.declared.Touch.TheVariants.{Star}
use Rattle.obs_meter.proofs.Touched.{In-from_any, any-from_In, star_touched, touch-rising, touched-below}
use Rattle.obs_outage.specs.inner.Feeds.{sources_at}
use Rattle.obs_outage.specs.inner.Lost.{counts_at, has_first}
use Rattle.obs_outage.proofs.Parting.{count_by-cons, sum_by-agree, sum_of_places}

-- whether a branch has an end at one of some buses
abbrev pub ends_in : List (Option Ends) → List ℕ → ℕ → Bool
ends_in ends side k = list_any (λ v. has_end v (slice_index_or ends k None)) side

-- the pairs that a side loses: those whose branch has an end there
abbrev pub lost_pairs : List (Option Ends) → List ℕ → List Pair → List Pair
lost_pairs ends side A = filter (λ (p : Pair). ends_in ends side p.1) A

pub count_by-length : (p : ℕ → Bool) (xs : List ℕ) → count_by p xs ≡ length (filter p xs)
count_by-length p [] = refl
count_by-length p (x ∷ xs) =
    let rest = count_by-length p xs in
    elim (cases_Bool (p x)) [
      | inl is ↦
          let up : cond {A = ℕ} (p x) 1 0 ≡ 1 = rw is refl in
          let long : length (filter p (x ∷ xs)) ≡ suc (length (filter p xs)) = rw is refl in
          omega (arith, count_by-cons p x xs, rest, up, long)
      | inr is ↦
          let up : cond {A = ℕ} (p x) 1 0 ≡ 0 = rw is refl in
          let long : length (filter p (x ∷ xs)) ≡ length (filter p xs) = rw is refl in
          omega (arith, count_by-cons p x xs, rest, up, long)
    ]

pub count_by-same : (p q : ℕ → Bool) (xs ys : List ℕ) → IsDistinct xs → IsDistinct ys → ((k : ℕ) → In k xs → p k ≡ true → In k ys × (q k ≡ true)) → ((k : ℕ) → In k ys → q k ≡ true → In k xs × (p k ≡ true))
    → count_by p xs ≡ count_by q ys
count_by-same p q xs ys dx dy to from =
    let few = length-within (filter p xs) (filter q ys) (IsDistinct-filter p xs dx) (λ k i. let f = In-filter_from p k xs i in let u = to k f.0 f.1 in In-filter q k ys u.0 u.1) in
    let many = length-within (filter q ys) (filter p xs) (IsDistinct-filter q ys dy) (λ k i. let f = In-filter_from q k ys i in let u = from k f.0 f.1 in In-filter p k xs u.0 u.1) in
    omega (arith, few, many, count_by-length p xs, count_by-length q ys)

count_by-agree : (p q : ℕ → Bool) (xs : List ℕ) → ((k : ℕ) → In k xs → p k ≡ q k) → count_by p xs ≡ count_by q xs
count_by-agree p q xs h = sum_by-agree (λ k. cond (p k) 1 0) (λ k. cond (q k) 1 0) xs (λ k i. ap (λ b. cond b 1 0) (h k i))

rising-distinct : (xs : List ℕ) → IsRising xs → IsDistinct xs
rising-distinct [] r = tt
rising-distinct (x ∷ xs) r = ((λ i. let l = r.0 x i in absurd (omega (arith, l))), rising-distinct xs r.1)

branches_at-distinct : (ends : List (Option Ends)) (v : ℕ) → IsDistinct (branches_at ends v)
branches_at-distinct ends v = rising-distinct (branches_at ends v) (touch-rising ends (Star v ∷ []) 0)

-- the pairs whose branch passes a test are as many as the branches
pub count_by-branches : (p : ℕ → Bool) (A : List Pair) → count_by p (branches A) ≡ length (filter (λ (q : Pair). p q.1) A)
count_by-branches p [] = refl
count_by-branches p (q ∷ A) =
    let rest = count_by-branches p A in
    elim (cases_Bool (p q.1)) [
      | inl is ↦
          let up : cond {A = ℕ} (p q.1) 1 0 ≡ 1 = rw is refl in
          let long : length (filter (λ (q : Pair). p q.1) (q ∷ A)) ≡ suc (length (filter (λ (q : Pair). p q.1) A)) = rw is refl in
          omega (arith, count_by-cons p q.1 (branches A), rest, up, long)
      | inr is ↦
          let up : cond {A = ℕ} (p q.1) 1 0 ≡ 0 = rw is refl in
          let long : length (filter (λ (q : Pair). p q.1) (q ∷ A)) ≡ length (filter (λ (q : Pair). p q.1) A) = rw is refl in
          omega (arith, count_by-cons p q.1 (branches A), rest, up, long)
    ]

pub same_length : (p q : Pair → Bool) (A : List Pair) → ((r : Pair) → In r A → p r ≡ q r) → length (filter p A) ≡ length (filter q A)
same_length p q [] h = refl
same_length p q (r ∷ A) h =
    let rest = same_length p q A (λ s i. h s (inr i)) in
    let e = h r (inl refl) in
    elim (cases_Bool (q r)) [
      | inl is ↦
          let lp : length (filter p (r ∷ A)) ≡ suc (length (filter p A)) = rw (e ∙ is) refl in
          let lq : length (filter q (r ∷ A)) ≡ suc (length (filter q A)) = rw is refl in
          omega (arith, rest, lp, lq)
      | inr is ↦
          let lp : length (filter p (r ∷ A)) ≡ length (filter p A) = rw (e ∙ is) refl in
          let lq : length (filter q (r ∷ A)) ≡ length (filter q A) = rw is refl in
          omega (arith, rest, lp, lq)
    ]

pub any_in : (p : ℕ → Bool) (xs : List ℕ) (x : ℕ) → In x xs → p x ≡ true → list_any p xs ≡ true
any_in p [] x i t = absurd i
any_in p (y ∷ xs) x (inl is) t = or_left (p y) (list_any p xs) (ap p (sym is) ∙ t)
any_in p (y ∷ xs) x (inr i) t = or_right (p y) (list_any p xs) (any_in p xs x i t)

pub any_from : (p : ℕ → Bool) (xs : List ℕ) → list_any p xs ≡ true → (x : ℕ) × In x xs × (p x ≡ true)
any_from p [] t = clash t refl
any_from p (y ∷ xs) t = elim (or_cases (p y) (list_any p xs) t) [
  | inl is ↦ (y, inl refl, is)
  | inr more ↦ let r = any_from p xs more in (r.0, inr r.1, r.2)
]

-- the first end of a branch
abbrev pub first_end : Option Ends → ℕ
first_end None = 0
first_end (Some x) = x.a

has_first-is : (v : ℕ) (x : Ends) (o : Option Ends) → o ≡ Some x → has_first v o ≡ eqb (first_end o) v
has_first-is v x o is = rw is refl

-- branches that are held, each at one of the side's buses: the row at its end there, and any other with both ends on the side at its first end
module _ (ends held : List (Option Ends)) (e one other : ℕ) (side : List ℕ) (x : Ends) (row : get_or ends e None ≡ Some x) (leads : Leads x one other)
    (here : In one side) (off : In other side → ⊥) (different : IsDistinct side)
    (whole : (k : ℕ) (y : Ends) → (k ≡ e → ⊥) → get_or ends k None ≡ Some y → In y.a side ⊎ In y.b side → In y.a side × In y.b side)
    (A : List Pair) (apart : IsDistinct (branches A)) (holds : (k : ℕ) → In k (branches A) → is_some (slice_index_or held k None) ≡ true)
    (held_in : (k : ℕ) → is_some (slice_index_or held k None) ≡ true → In k (branches A)) (there : (k : ℕ) → In k (branches A) → (y : Ends) × (get_or ends k None ≡ Some y)) where
  place : ℕ → ℕ
  place k = cond (eqb k e) one (first_end (get_or ends k None))

  place_row : (k : ℕ) → k ≡ e → place k ≡ one
  unfolding place
  place_row k is = rw (eq-eqb k e is) refl

  place_other : (k : ℕ) (y : Ends) → (k ≡ e → ⊥) → get_or ends k None ≡ Some y → place k ≡ y.a
  unfolding place
  place_other k y ne is = rw (ne_eqb k e ne) (ap first_end is)

  -- what counts at a bus has its place there
  at_bus : (v : ℕ) → In v side → count_by (counts_at ends held e v) (branches_at ends v) ≡ sources_at place (branches A) v
  at_bus v i = count_by-same (counts_at ends held e v) (λ k. place k == v) (branches_at ends v) (branches A) (branches_at-distinct ends v) apart
      (λ k j counts.
      let c = and_parts (is_some (slice_index_or held k None)) ((k == e) || has_first v (get_or ends k None)) counts in
      let a = held_in k c.0 in
      let y = there k a in (
        a,
        elim (cases_eq k e) [
          | inl is ↦
              let ends_here = end_of k v j x (ap (λ z. get_or ends z None) is ∙ row) in
              eq-eqb (place k) v (place_row k is ∙ sym (elim ends_here [
                | inl s ↦ elim leads [ inl l ↦ sym s ∙ l.0 | inr l ↦ absurd (off (subst (λ z. In z side) (sym s ∙ l.1) i)) ]
                | inr s ↦ elim leads [ inl l ↦ absurd (off (subst (λ z. In z side) (sym s ∙ l.1) i)) | inr l ↦ sym s ∙ l.0 ]
              ]))
          | inr ne ↦ elim (or_cases (k == e) (has_first v (get_or ends k None)) c.1) [
            | inl is ↦ absurd (ne (eqb-true k e is))
            | inr first ↦ eq-eqb (place k) v (place_other k y.0 ne y.1 ∙ sym (ap first_end y.1) ∙ eqb-true (first_end (get_or ends k None)) v (sym (has_first-is v y.0 (get_or ends k None) y.1) ∙ first))
          ]
        ],
      ))
      (λ k a is.
      let y = there k a in
      let at = eqb-true (place k) v is in
      elim (cases_eq k e) [
        | inl same ↦
            let is_one : one ≡ v = sym (place_row k same) ∙ at in
            let y_row : get_or ends k None ≡ Some x = ap (λ z. get_or ends z None) same ∙ row in (
              at_end k v x y_row (elim leads [ inl l ↦ inl (l.0 ∙ is_one) | inr l ↦ inr (l.0 ∙ is_one) ]),
              and_from (is_some (slice_index_or held k None)) ((k == e) || has_first v (get_or ends k None)) (holds k a) (or_left (k == e) (has_first v (get_or ends k None)) (eq-eqb k e same)),
            )
        | inr ne ↦
            let is_a : y.0.a ≡ v = sym (place_other k y.0 ne y.1) ∙ at in
            let first : has_first v (get_or ends k None) ≡ true = has_first-is v y.0 (get_or ends k None) y.1 ∙ eq-eqb (first_end (get_or ends k None)) v (ap first_end y.1 ∙ is_a) in (
              at_end k v y.0 y.1 (inl is_a),
              and_from (is_some (slice_index_or held k None)) ((k == e) || has_first v (get_or ends k None)) (holds k a) (or_right (k == e) (has_first v (get_or ends k None)) first),
            )
      ])
    where
      end_of : (k v : ℕ) → In k (branches_at ends v) → (y : Ends) → get_or ends k None ≡ Some y → (y.a ≡ v) ⊎ (y.b ≡ v)
      end_of k v i y is = end_at v y (ap (has_end v) (sym is) ∙ star_touched ends v k ∙ any-from_In (branches_at ends v) k i)

      at_end : (k v : ℕ) (y : Ends) → get_or ends k None ≡ Some y → (y.a ≡ v) ⊎ (y.b ≡ v) → In k (branches_at ends v)
      at_end k v y is s = In-from_any (branches_at ends v) k (sym (star_touched ends v k) ∙ ap (has_end v) is ∙ (elim s [
        | inl a ↦ or_left (eqb y.a v) (eqb y.b v) (eq-eqb y.a v a)
        | inr b ↦ or_right (eqb y.a v) (eqb y.b v) (eq-eqb y.b v b)
      ]))

  -- and that is on the side exactly where the branch has an end there
  place_in : (k : ℕ) → In k (branches A) → is_in side (place k) ≡ ends_in ends side k
  place_in k a =
      let y = there k a in
      let test : ℕ → Bool = λ v. has_end v (get_or ends k None) in
      let test_is : (v : ℕ) → (y.0.a ≡ v) ⊎ (y.0.b ≡ v) → test v ≡ true = λ v s. ap (has_end v) y.1 ∙ (elim s [
        | inl q ↦ or_left (eqb y.0.a v) (eqb y.0.b v) (eq-eqb y.0.a v q)
        | inr q ↦ or_right (eqb y.0.a v) (eqb y.0.b v) (eq-eqb y.0.b v q)
      ]) in
      elim (cases_eq k e) [
        | inl same ↦
            let is : y.0 ≡ x = some_one y.0 x (sym y.1 ∙ ap (λ z. get_or ends z None) same ∙ row) in
            is_in_at side (place k) (subst (λ z. In z side) (sym (place_row k same)) here)
            ∙ sym (any_in test side one here (test_is one (elim leads [ inl l ↦ inl (ap (λ (z : Ends). z.a) is ∙ l.0) | inr l ↦ inr (ap (λ (z : Ends). z.b) is ∙ l.0) ])))
        | inr ne ↦
            let placed = place_other k y.0 ne y.1 in
            one_truth (is_in side (place k)) (ends_in ends side k)
            (λ t. any_in test side y.0.a (subst (λ z. In z side) placed (is_in_from side (place k) t)) (test_is y.0.a (inl refl)))
            (λ t.
            let r = any_from test side t in
            let s = end_at r.0 y.0 (ap (has_end r.0) (sym y.1) ∙ r.2) in
            let both = whole k y.0 ne y.1 (elim s [ inl q ↦ inl (subst (λ z. In z side) (sym q) r.1) | inr q ↦ inr (subst (λ z. In z side) (sym q) r.1) ]) in
            is_in_at side (place k) (subst (λ z. In z side) (sym placed) both.0))
      ]

  -- so the sum over the side is the number of pairs that it loses
  pub sum_is : sum_by (λ v. count_by (counts_at ends held e v) (branches_at ends v)) side ≡ length (lost_pairs ends side A)
  sum_is =
      sum_by-agree (λ v. count_by (counts_at ends held e v) (branches_at ends v)) (sources_at place (branches A)) side at_bus
      ∙ sum_of_places place (branches A) side different
      ∙ count_by-agree (λ k. is_in side (place k)) (ends_in ends side) (branches A) place_in
      ∙ count_by-branches (ends_in ends side) A

-- a bus has no more branches than there are
positions_few : {X : Type 0} (test : X → Bool) (i : ℕ) (xs : List X) → length (positions_from test i xs) ≤ length xs
positions_few test i [] = omega arith
positions_few test i (x ∷ xs) =
    let rest = positions_few test (suc i) xs in
    elim (cases_Bool (test x)) [
      | inl is ↦
          let long : length (positions_from test i (x ∷ xs)) ≡ suc (length (positions_from test (suc i) xs)) = rw is refl in
          omega (arith, rest, long)
      | inr is ↦
          let long : length (positions_from test i (x ∷ xs)) ≡ length (positions_from test (suc i) xs) = rw is refl in
          omega (arith, rest, long)
    ]

few_at : (ends : List (Option Ends)) (v : ℕ) → length (branches_at ends v) ≤ length ends
few_at ends v = positions_few (has_end v) 0 ends

-- the branches of a bus, by what a body has
pub few_of : (ends : List (Option Ends)) (v : ℕ) (xs : List ℕ) → xs ≡ branches_at ends v → length xs ≤ length ends
few_of ends v xs is = subst (λ (l : List ℕ). length l ≤ length ends) (sym is) (few_at ends v)

pub low_of : (ends : List (Option Ends)) (v : ℕ) (xs : List ℕ) → xs ≡ branches_at ends v → All (λ k. k < length ends) xs
low_of ends v xs is = subst (λ (l : List ℕ). All (λ k. k < length ends) l) (sym is) (touched-below ends (Star v))
