-- Parts of a list of numbers, and the first number that passes a test.
use Rattle.std.proofs.Common.{◌≡◌, ℕ, zero, suc, ◌+◌, ◌<◌, ◌≤◌, List, [], ◌∷◌, length, replicate, ap, inl, inr, Bool, true, Some, subst, arith}
use Rattle.std.specs.Prelude.{filter, find}
use Rattle.std.specs.List.{range_with_len}
use Rattle.std.proofs.lemmas.Bool.{cases_Bool, cases_lt, or_cases, or_left, or_right}
use Rattle.std.proofs.lemmas.List.{length-replicate}
use Rattle.obs_matroid.specs.Lists.{In, IsDistinct}
use Rattle.obs_matroid.proofs.Contained.{Contains-from_In, In-from_Contains}
use Rattle.obs_matroid.proofs.Lists.{clash, In-filter, In-filter_from, IsDistinct-filter, length-within}
use Rattle.obs_matroid.proofs.Ranges.{below_from}
use Rattle.obs_meter.specs.declared.Touch.TheVariants.{Nothing}
use Rattle.obs_meter.proofs.Assigned.{every_item-distinct}
use Rattle.obs_meter.proofs.Live.{In-every}
use Rattle.obs_forest.specs.Forest.{has_position}
use Rattle.obs_forest.proofs.Held.{contains-has_position, has_position-contains}
use Rattle.obs_islands.specs.Firsts.{some_part}
use Rattle.obs_islands.specs.Islands.{every_vertex}

pub has-from_In : (W : List ℕ) (x : ℕ) → In x W → has_position W x ≡ true
has-from_In W x i = contains-has_position W x (Contains-from_In x W i)

pub In-from_has : (W : List ℕ) (x : ℕ) → has_position W x ≡ true → In x W
In-from_has W x t = In-from_Contains x W (has_position-contains W x t)

-- the numbers that T picks are a part
pub some_part-of : (T : ℕ → Bool) (test : List ℕ → Bool) (vs : List ℕ) → test (filter T vs) ≡ true → some_part test vs ≡ true
unfolding some_part
some_part-of T test [] t = t
some_part-of T test (v ∷ vs) t =
    elim (cases_Bool (T v)) [
      | inl y ↦ or_right (some_part test vs) (some_part (λ W. test (v ∷ W)) vs) (some_part-of T (λ W. test (v ∷ W)) vs (rw y at t))
      | inr n ↦ or_left (some_part test vs) (some_part (λ W. test (v ∷ W)) vs) (some_part-of T test vs (rw n at t))
    ]

-- W is a part of vs that passes the test
pub record Passes (test : List ℕ → Bool) (vs W : List ℕ) : Type 0 where
  pub passes : test W ≡ true
  pub within : (x : ℕ) → In x W → In x vs
  pub different : IsDistinct vs → IsDistinct W

pub some_part-from : (test : List ℕ → Bool) (vs : List ℕ) → some_part test vs ≡ true → (W : List ℕ) × Passes test vs W
unfolding some_part
some_part-from test [] t = ([], record { passes = t; within = λ x i. i; different = λ d. d })
some_part-from test (v ∷ vs) t =
    elim (or_cases (some_part test vs) (some_part (λ W. test (v ∷ W)) vs) t) [
      | inl s ↦ let r = some_part-from test vs s in (r.0, record { passes = r.1.passes; within = λ x i. inr (r.1.within x i); different = λ d. r.1.different d.1 })
      | inr s ↦ let r = some_part-from (λ W. test (v ∷ W)) vs s in (
        v ∷ r.0,
        record {
          passes = r.1.passes;
          within = λ x i. elim i [ inl e ↦ inl e | inr j ↦ inr (r.1.within x j) ];
          different = λ d. ((λ i. d.0 (r.1.within v i)), r.1.different d.1);
        },
      )
    ]

-- a part has as many numbers as there are numbers of the list in it
pub length-part : (vs W : List ℕ) → IsDistinct vs → IsDistinct W → ((x : ℕ) → In x W → In x vs) → length (filter (has_position W) vs) ≡ length W
length-part vs W dv dw within =
    let F = filter (has_position W) vs in
    let a = length-within F W (IsDistinct-filter (has_position W) vs dv) (λ x i. In-from_has W x (In-filter_from (has_position W) x vs i).1) in
    let b = length-within W F dw (λ x i. In-filter (has_position W) x vs (within x i) (has-from_In W x i)) in
    omega (arith, a, b)

-- vertices by number
pub vertices-distinct : (n : ℕ) → IsDistinct (every_vertex n)
vertices-distinct n = subst (λ (k : ℕ). IsDistinct (range_with_len 0 k)) (length-replicate n Nothing) (every_item-distinct (replicate n Nothing))

pub In-vertices : (n v : ℕ) → v < n → In v (every_vertex n)
In-vertices n v l =
    let e = length-replicate n Nothing in
    subst (λ (k : ℕ). In v (range_with_len 0 k)) e (In-every (replicate n Nothing) v (omega (arith, e, l)))

pub vertex_low : (n v : ℕ) → In v (every_vertex n) → v < n
vertex_low n v i = below_from n v i

find_range : (test : ℕ → Bool) (x a n : ℕ) → a ≤ x → x < a + n → test x ≡ true → ((u : ℕ) → a ≤ u → u < a + n → test u ≡ true → x ≤ u) → find test (range_with_len a n) ≡ Some x
find_range test x a zero l k t first = absurd (omega (arith, l, k))
find_range test x a (suc n) l k t first =
    elim (cases_Bool (test a)) [
      | inl y ↦ let h = first a (omega arith) (omega arith) y in let e : a ≡ x = omega (arith, l, h) in rw y (ap Some e)
      | inr f ↦
          let low : a + 1 ≤ x = (elim (cases_lt a x) [ inl m ↦ omega (arith, m) | inr m ↦ let e : x ≡ a = omega (arith, l, m) in clash (rw e at t) f ]) in
          rw f (find_range test x (a + 1) n low (omega (arith, k)) t (λ u p q. first u (omega (arith, p)) (omega (arith, q))))
    ]

-- the first vertex that passes the test
pub find_vertex : (test : ℕ → Bool) (n x : ℕ) → x < n → test x ≡ true → ((u : ℕ) → u < n → test u ≡ true → x ≤ u) → find test (every_vertex n) ≡ Some x
find_vertex test n x l t first = find_range test x 0 n (omega arith) (omega (arith, l)) t (λ u p q. first u (omega (arith, q)))
