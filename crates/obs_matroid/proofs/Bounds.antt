-- No assignment is longer than a bound.
use Rattle.std.proofs.Common.{◌≡◌, ℕ, ◌+◌, ◌≤◌, List, length, refl, ap, Bool, true, not, arith}
use Rattle.std.specs.List.{flat_map}
use Rattle.std.proofs.lemmas.List.{length-map}
use Rattle.obs_matroid.specs.Lists.{In}
use Rattle.obs_matroid.specs.Matroid.{Matroid}
use Rattle.obs_matroid.specs.inner.Matroid.{IsMatroid}
use Rattle.obs_matroid.specs.Assignments.{Pair, items, branches, IsAssignment}
use Rattle.obs_matroid.specs.inner.Assignments.{part}
use Rattle.obs_matroid.specs.Bounds.{inside, outside}
use Rattle.obs_matroid.specs.inner.Bounds.{bound}
use Rattle.obs_matroid.proofs.Lists.{In_same, In-filter, filter_same, In-flat_map, length-within, length-split}
use Rattle.obs_matroid.proofs.Ranks.{rank-within, rank-independent}
use Rattle.obs_matroid.proofs.Pairs.{In-items_from, In-branches_from, In-part_from, IsDistinct-part, independent_part}

pub length-items : (A : List Pair) → length (items A) ≡ length A
length-items A = length-map A (λ (q : Pair). q.0)

pub length-branches : (A : List Pair) → length (branches A) ≡ length A
length-branches A = length-map A (λ (q : Pair). q.1)

-- the pairs that pass and those that do not
pub length-parts : (S : ℕ → Bool) (A : List Pair) → length (part S A) + length (part (λ x. not (S x)) A) ≡ length A
length-parts S A = length-split (λ (p : Pair). S p.0) A

module _ (g : Matroid) (laws : IsMatroid g) (touch : ℕ → List ℕ) (M : List ℕ) where
  -- pairs whose branches a list spans are no more than the rank of that list
  pub length-part_rank : (B : List Pair) (S : ℕ → Bool) (L : List ℕ) → IsAssignment g touch M B
      → ((p : Pair) → In p B → S p.0 ≡ true → g.spans L p.1 ≡ true) → length (part S B) ≤ g.rank L
  length-part_rank B S L b h =
      let a : length (branches (part S B)) ≡ length (part S B) = length-branches (part S B) in
      let r : g.rank (branches (part S B)) ≡ length (branches (part S B)) = rank-independent g laws (branches (part S B)) (independent_part g laws S B b.independent) in
      let w : g.rank (branches (part S B)) ≤ g.rank L = rank-within g laws (branches (part S B)) L
      (λ x i. let v = In-branches_from (part S B) x i in let u = In-part_from S B v.0 v.1 in rw v.2 (h v.0 u.0 u.1)) in
      omega (arith, a, r, w)

  -- pairs whose items all stand in a list are no more than that list has
  pub length-part_items : (B : List Pair) (S : ℕ → Bool) (xs : List ℕ) → IsAssignment g touch M B
      → ((p : Pair) → In p B → S p.0 ≡ true → In p.0 xs) → length (part S B) ≤ length xs
  length-part_items B S xs b h =
      let a : length (items (part S B)) ≡ length (part S B) = length-items (part S B) in
      let w : length (items (part S B)) ≤ length xs = length-within (items (part S B)) xs (IsDistinct-part S B b.different)
      (λ x i. let v = In-items_from (part S B) x i in let u = In-part_from S B v.0 v.1 in In_same x v.0.0 xs v.2 (h v.0 u.0 u.1)) in
      omega (arith, a, w)

  -- the bound depends on which items of M are marked
  pub bound-same : (J K : ℕ → Bool) → ((m : ℕ) → In m M → J m ≡ K m) → bound g touch J M ≡ bound g touch K M
  bound-same J K h = rw (filter_same J K M h, filter_same (λ m. not (J m)) (λ m. not (K m)) M (λ m i. ap not (h m i))) refl

  -- no assignment is longer than any bound
  pub weak_bound : (J : ℕ → Bool) (B : List Pair) → IsAssignment g touch M B → length B ≤ bound g touch J M
  weak_bound J B b =
      let a = length-parts J B in
      let i : length (part J B) ≤ g.rank (flat_map touch (inside J M)) = length-part_rank B J (flat_map touch (inside J M)) b
      (λ p j t. laws.member (flat_map touch (inside J M)) p.1
      (In-flat_map touch p.0 p.1 (inside J M) (In-filter J p.0 M (b.of_items p j) t) (b.touched p j))) in
      let o : length (part (λ x. not (J x)) B) ≤ length (outside J M) = length-part_items B (λ x. not (J x)) (outside J M) b
      (λ p j t. In-filter (λ x. not (J x)) p.0 M (b.of_items p j) t) in
      omega (arith, a, i, o)
