-- The items and branches of pairs: what the pairs of some items span, and what they span without one of them.
use Rattle.std.proofs.Common.{map, ◌≡◌, ℕ, List, [], ◌∷◌, sym, ap, ◌∙◌, inl, inr, Bool, true, false, ◌&&◌}
use Rattle.std.specs.List.{filter}
use Rattle.std.proofs.lemmas.Bool.{cases_Bool, cases_eq, and_parts, and_from}
use Rattle.obs_matroid.specs.Lists.{In, IsDistinct, other_than}
use Rattle.obs_matroid.specs.Matroid.{Matroid, IsIndependent}
use Rattle.obs_matroid.specs.inner.Matroid.{IsMatroid}
use Rattle.obs_matroid.specs.Assignments.{Pair, items, branches}
use Rattle.obs_matroid.specs.inner.Assignments.{part, others}
use Rattle.obs_matroid.proofs.Spans.{spans_more, spans_less, swapped}
use Rattle.obs_matroid.proofs.Lists.{clash, In_same, In-map, In-map_from, In-filter, In-filter_from, cases_In, other_true, other_self}

-- pairs
pub In-branches : (A : List Pair) (p : Pair) → In p A → In p.1 (branches A)
In-branches A p i = In-map (λ (q : Pair). q.1) p A i

pub In-items : (A : List Pair) (p : Pair) → In p A → In p.0 (items A)
In-items A p i = In-map (λ (q : Pair). q.0) p A i

pub In-items_from : (A : List Pair) (m : ℕ) → In m (items A) → (p : Pair) × In p A × (m ≡ p.0)
In-items_from A m i = In-map_from (λ (q : Pair). q.0) m A i

pub In-branches_from : (A : List Pair) (e : ℕ) → In e (branches A) → (p : Pair) × In p A × (e ≡ p.1)
In-branches_from A e i = In-map_from (λ (q : Pair). q.1) e A i

pub In-part : (S : ℕ → Bool) (A : List Pair) (p : Pair) → In p A → S p.0 ≡ true → In p (part S A)
In-part S A p i t = In-filter (λ (q : Pair). S q.0) p A i t

pub In-part_from : (S : ℕ → Bool) (A : List Pair) (p : Pair) → In p (part S A) → In p A × (S p.0 ≡ true)
In-part_from S A p i = In-filter_from (λ (q : Pair). S q.0) p A i

pub branches_within : (A B : List Pair) → ((p : Pair) → In p A → In p B) → (e : ℕ) → In e (branches A) → In e (branches B)
branches_within A B h e i =
    let r = In-branches_from A e i in rw r.2 (In-branches B r.0 (h r.0 r.1))

pub items_within : (A B : List Pair) → ((p : Pair) → In p A → In p B) → (m : ℕ) → In m (items A) → In m (items B)
items_within A B h m i =
    let r = In-items_from A m i in rw r.2 (In-items B r.0 (h r.0 r.1))

-- some of the pairs have different items, where all have
pub IsDistinct-filter_items : (f : Pair → Bool) (A : List Pair) → IsDistinct (items A) → IsDistinct (items (filter f A))
IsDistinct-filter_items f [] d = tt
IsDistinct-filter_items f (p ∷ A) d =
    elim (cases_Bool (f p)) [
      | inl e ↦ rw e ((λ i. let v = In-items_from (filter f A) p.0 i in d.0 (In_same p.0 v.0.0 (items A) v.2 (In-items A v.0 (In-filter_from f v.0 A v.1).0))), IsDistinct-filter_items f A d.1)
      | inr e ↦ rw e (IsDistinct-filter_items f A d.1)
    ]

pub IsDistinct-part : (S : ℕ → Bool) (A : List Pair) → IsDistinct (items A) → IsDistinct (items (part S A))
IsDistinct-part S A d = IsDistinct-filter_items (λ (p : Pair). S p.0) A d

-- in an assignment an item has one pair
-- pairs that a number tells apart: those of one number are one
same_by : (f : Pair → ℕ) (A : List Pair) (p q : Pair) → IsDistinct (map f A) → In p A → In q A → f p ≡ f q → p ≡ q
same_by f [] p q d i j e = absurd i
same_by f (r ∷ A) p q d (inl a) (inl b) e = a ∙ sym b
same_by f (r ∷ A) p q d (inl a) (inr j) e = absurd (d.0 (rw (← (ap f a), e) (In-map f q A j)))
same_by f (r ∷ A) p q d (inr i) (inl b) e = absurd (d.0 (rw (← (ap f b), ← e) (In-map f p A i)))
same_by f (r ∷ A) p q d (inr i) (inr j) e = same_by f A p q d.1 i j e

pub same_pair : (A : List Pair) (p q : Pair) → IsDistinct (items A) → In p A → In q A → p.0 ≡ q.0 → p ≡ q
same_pair = same_by (λ (p : Pair). p.0)

pub same_pair_by_branch : (A : List Pair) (p q : Pair) → IsDistinct (branches A) → In p A → In q A → p.1 ≡ q.1 → p ≡ q
same_pair_by_branch = same_by (λ (p : Pair). p.1)

module _ (g : Matroid) (laws : IsMatroid g) where
  pub more_pairs : (A B : List Pair) (e : ℕ) → ((p : Pair) → In p A → In p B) → g.spans (branches A) e ≡ true → g.spans (branches B) e ≡ true
  more_pairs A B e h t = spans_more g laws (branches A) (branches B) e (branches_within A B h) t

  pub less_pairs : (A B : List Pair) (e : ℕ) → ((p : Pair) → In p A → In p B) → g.spans (branches B) e ≡ false → g.spans (branches A) e ≡ false
  less_pairs A B e h f = spans_less g laws (branches A) (branches B) e (branches_within A B h) f

  pub independent_part : (S : ℕ → Bool) (A : List Pair) → IsIndependent g (branches A) → IsIndependent g (branches (part S A))
  independent_part S [] f = tt
  independent_part S (p ∷ A) f =
      elim (cases_Bool (S p.0)) [
        | inl e ↦ rw e (less_pairs (part S A) A p.1 (λ q j. (In-part_from S A q j).0) f.0, independent_part S A f.1)
        | inr e ↦ rw e (independent_part S A f.1)
      ]

  -- the branch of an item is not spanned by the others
  pub own : (A : List Pair) (p : Pair) → IsIndependent g (branches A) → IsDistinct (items A) → In p A → g.spans (others A p.0) p.1 ≡ false
  own [] p f d h = absurd h
  own (q ∷ A) p f d (inl e) =
      let x : other_than p.0 q.0 ≡ false = rw e (other_self q.0) in
      rw x (less_pairs (part (other_than p.0) A) A p.1 (λ r j. (In-part_from (other_than p.0) A r j).0) (rw e f.0))
  own (q ∷ A) p f d (inr i) =
      let x : other_than p.0 q.0 ≡ true = other_true p.0 q.0 (λ e. d.0 (rw e (In-items A p i))) in
      rw x (elim (cases_Bool (g.spans (q.1 ∷ others A p.0) p.1)) [
        | inr r ↦ r
        | inl t ↦ clash
            (spans_more g laws (p.1 ∷ others A p.0) (branches A) q.1
            (λ y j. elim j [ inl e ↦ rw e (In-branches A p i) | inr k ↦ branches_within (part (other_than p.0) A) A (λ r j. (In-part_from (other_than p.0) A r j).0) y k ])
            (laws.swaps (others A p.0) p.1 q.1 t (own A p f.1 d.1 i)))
            f.0
      ])

  pub own_at : (A : List Pair) (m : ℕ) (p : Pair) → IsIndependent g (branches A) → IsDistinct (items A) → In p A → m ≡ p.0 → g.spans (others A m) p.1 ≡ false
  own_at A m p f d i e = rw e (own A p f d i)

  -- what the pairs that pass span, and all pairs but that of m span, those that pass but that of m span
  pub both : (A : List Pair) (S : ℕ → Bool) (m e : ℕ) → IsIndependent g (branches A) → IsDistinct (items A)
      → g.spans (branches (part S A)) e ≡ true → g.spans (others A m) e ≡ true → g.spans (branches (part (λ x. S x && other_than m x) A)) e ≡ true
  both A S m e f d s o =
      let T : ℕ → Bool = λ x. S x && other_than m x in
      elim (cases_In m (items A)) [
        | inr out ↦ more_pairs (part S A) (part T A) e
            (λ q j. let r = In-part_from S A q j in
            In-part T A q r.0 (and_from (S q.0) (other_than m q.0) r.1 (other_true m q.0 (λ e. out (rw (← e) (In-items A q r.0))))))
            s
        | inl i ↦
            let w = In-items_from A m i in
            let p : Pair = w.0 in
            let away : g.spans (others A m) p.1 ≡ false = own_at A m p f d w.1 w.2 in
            swapped g laws (branches (part T A)) e p.1
            (spans_more g laws (branches (part S A)) (p.1 ∷ branches (part T A)) e
            (λ y j. let v = In-branches_from (part S A) y j in
            let u = In-part_from S A v.0 v.1 in
            elim (cases_eq v.0.0 m) [
              | inl same ↦ inl (v.2 ∙ ap (λ (x : Pair). x.1) (same_pair A v.0 p d u.0 w.1 (same ∙ w.2)))
              | inr apart ↦ inr (In_same y v.0.1 (branches (part T A)) v.2 (In-branches (part T A) v.0 (In-part T A v.0 u.0 (and_from (S v.0.0) (other_than m v.0.0) u.1 (other_true m v.0.0 apart)))))
            ])
            s)
            (elim (cases_Bool (g.spans (e ∷ branches (part T A)) p.1)) [
              | inr r ↦ r
              | inl t ↦ clash
                  (laws.through (e ∷ branches (part T A)) (others A m) p.1
                  (λ y j. elim j [
                    | inl k ↦ rw k o
                    | inr k ↦ laws.member (others A m) y
                        (branches_within (part T A) (part (other_than m) A)
                        (λ q l. let r = In-part_from T A q l in In-part (other_than m) A q r.0 (and_parts (S q.0) (other_than m q.0) r.1).1) y k)
                  ])
                  t)
                  away
            ])
      ]
