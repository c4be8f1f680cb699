-- Pairs in another order, or fewer of them.
use Rattle.std.proofs.Common.{◌≡◌, ℕ, ◌≤◌, List, [], ◌∷◌, length, refl, sym, inl, inr, arith, ◌↔◌}
use Rattle.obs_matroid.specs.Lists.{In, IsDistinct, other_than}
use Rattle.obs_matroid.specs.Matroid.{Matroid, IsIndependent}
use Rattle.obs_matroid.specs.inner.Matroid.{IsMatroid}
use Rattle.obs_matroid.specs.Assignments.{Pair, items, branches, IsAssignment}
use Rattle.obs_matroid.specs.inner.Assignments.{part, others}
use Rattle.obs_matroid.specs.inner.Exchange.{put, put_all}
use Rattle.obs_matroid.proofs.Lists.{In_same, other_true, length-within}
use Rattle.obs_matroid.proofs.Spans.{spans_less}
use Rattle.obs_matroid.proofs.Pairs.{In-items, In-part, In-part_from, branches_within, items_within, own}
use Rattle.obs_matroid.proofs.Bounds.{length-items}

module _ (g : Matroid) (laws : IsMatroid g) where
  -- the order of the pairs does not matter, and some may be left out
  pub independent_within : (A B : List Pair) → IsIndependent g (branches A) → IsDistinct (items A) → IsDistinct (items B)
      → ((p : Pair) → In p B → In p A) → IsIndependent g (branches B)
  independent_within A [] f d e h = tt
  independent_within A (p ∷ B) f d e h = (
    spans_less g laws (branches B) (others A p.0) p.1
        (branches_within B (part (other_than p.0) A) (λ q i. In-part (other_than p.0) A q (h q (inr i))
        (other_true p.0 q.0 (λ s. e.0 (In_same p.0 q.0 (items B) (sym s) (In-items B q i))))))
        (own g laws A p f d (h p (inl refl))),
    independent_within A B f d e.1 (λ q i. h q (inr i)),
  )

  pub IsAssignment-within : (touch : ℕ → List ℕ) (M : List ℕ) (A B : List Pair) → IsAssignment g touch M A → IsDistinct (items B)
      → ((p : Pair) → In p B → In p A) → IsAssignment g touch M B
  IsAssignment-within touch M A B a d h = record {
    of_items = λ p i. a.of_items p (h p i);
    touched = λ p i. a.touched p (h p i);
    different = d;
    independent = independent_within A B a.independent a.different d h;
  }

-- two assignments with the same pairs are equally long
pub length-same : (A B : List Pair) → IsDistinct (items A) → IsDistinct (items B) → ((p : Pair) → In p A ↔ In p B) → length A ≡ length B
length-same A B d e h =
    let a : length (items A) ≤ length (items B) = length-within (items A) (items B) d (λ x i. items_within A B (λ p j. (h p).0 j) x i) in
    let b : length (items B) ≤ length (items A) = length-within (items B) (items A) e (λ x i. items_within B A (λ p j. (h p).1 j) x i) in
    let c = length-items A in
    let f = length-items B in
    omega (arith, a, b, c, f)

-- moves put into the same pairs give the same pairs
pub put_within : (x : Pair) (A B : List Pair) → ((p : Pair) → In p A → In p B) → (p : Pair) → In p (put x A) → In p (put x B)
put_within x A B h p i = elim i [
  | inl e ↦ inl e
  | inr j ↦ let u = In-part_from (other_than x.0) A p j in inr (In-part (other_than x.0) B p (h p u.0) u.1)
]

pub put_all_within : (moves : List Pair) (A B : List Pair) → ((p : Pair) → In p A → In p B) → (p : Pair) → In p (put_all moves A) → In p (put_all moves B)
put_all_within [] A B h p i = h p i
put_all_within (m ∷ moves) A B h p i = put_all_within moves (put m A) (put m B) (put_within m A B h) p i
