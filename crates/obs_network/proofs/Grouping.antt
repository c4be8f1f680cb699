-- The arrays of components.
use Rattle.std.proofs.Common.{◌≡◌, ℕ, zero, suc, ◌+◌, ◌^◌, ◌<◌, ◌≤◌, Bool, true, List, [], ◌∷◌, length, take, get_or, filter, sym, ap, ◌∙◌, subst, arith}
use Rattle.std.specs.Prelude.{All, count_by, sum, ◌==◌, cond}
use Rattle.std.specs.List.{range_with_len}
use Rattle.std.proofs.lemmas.Bool.{eq-eqb, cond-true}
use Rattle.std.proofs.lemmas.List.Sums.{count_by-le-length, length-filter, sum-map, sum_by-cons, sum_by-le-sum_by}
use Rattle.std.proofs.lemmas.List.FromFn.{get_or-map-range_with_len, length-map-range_with_len}
use Rattle.obs_graph.specs.declared.Ends.{Ends}
use Rattle.obs_network.specs.Components.{component_count, component_of, components_of, sizes_of}
use Rattle.obs_network.specs.inner.Kept.{AreGrouped}
use Rattle.obs_network.proofs.Numbered.{component_at, components_of-at}
use Rattle.obs_network.proofs.Parted.{parts_few}

count_by-some : (test : ℕ → Bool) (xs : List ℕ) (k : ℕ) → k < length xs → test (get_or xs k 0) ≡ true → 0 < count_by test xs
count_by-some test [] k l t = absurd (omega arith)
count_by-some test (x ∷ xs) zero l t =
    let e : count_by test (x ∷ xs) ≡ cond (test x) 1 0 + count_by test xs = sum_by-cons (λ y. cond (test y) 1 0) x xs in
    omega (arith, e, cond-true {A = ℕ} (test x) 1 0 t)
count_by-some test (x ∷ xs) (suc k) l t =
    let e : count_by test (x ∷ xs) ≡ cond (test x) 1 0 + count_by test xs = sum_by-cons (λ y. cond (test y) 1 0) x xs in
    omega (arith, e, count_by-some test xs k (omega arith) t)

length-components_of : (n : ℕ) (live : List Ends) → length (components_of n live) ≡ n
length-components_of n live = length-map-range_with_len (component_of live) 0 n

pub sizes_of-at : (count : ℕ) (components : List ℕ) (c d : ℕ) → c < count → get_or (sizes_of count components) c d ≡ count_by (λ x. x == c) components
sizes_of-at count components c d l = get_or-map-range_with_len (λ k. count_by (λ x. x == k) components) 0 count c c d l (omega arith)

pub length-sizes_of : (count : ℕ) (components : List ℕ) → length (sizes_of count components) ≡ count
length-sizes_of count components = length-map-range_with_len (λ k. count_by (λ x. x == k) components) 0 count

-- each component has a bus
pub size-some : (n : ℕ) (live : List Ends) (c : ℕ) → c < component_count n live → 0 < count_by (λ x. x == c) (components_of n live)
size-some n live c l =
    let b = component_at n live c l in
    let here = b.1 in
    count_by-some (λ x. x == c) (components_of n live) b.0 (omega (arith, length-components_of n live, here)) (eq-eqb (get_or (components_of n live) b.0 0) c (components_of-at n live b.0 here ∙ b.2))

-- no component has more buses than there are
pub size-most : (n : ℕ) (live : List Ends) (c : ℕ) → count_by (λ x. x == c) (components_of n live) ≤ n
size-most n live c = omega (arith, count_by-le-length (λ x. x == c) (components_of n live), length-components_of n live)

sizes-some : (n : ℕ) (live : List Ends) → All (λ s. 0 < s) (sizes_of (component_count n live) (components_of n live))
sizes-some n live k d l =
    let few : k < component_count n live = omega (arith, length-sizes_of (component_count n live) (components_of n live)) in
    omega (arith, sizes_of-at (component_count n live) (components_of n live) k d few, size-some n live k few)

-- and all together have no more
sizes-whole : (count : ℕ) (components : List ℕ) → sum (sizes_of count components) ≤ length components
sizes-whole count components =
    let size : ℕ → ℕ = λ c. count_by (λ x. x == c) components in
    let part : ℕ → ℕ = λ c. length (filter (λ x. x == c) components) in
    let all = sum-map size (range_with_len 0 count) in
    let each = sum_by-le-sum_by size part (range_with_len 0 count) (λ c. omega (arith, length-filter (λ x. x == c) components)) in
    let parts = parts_few (λ x. x) components count in
    omega (arith, all, each, parts)

-- the arrays after a refill
pub grouped_whole : (n count : ℕ) (live : List Ends) (numbers first_buses sizes : List ℕ) (energised absolute : List Bool)
    → length numbers < 2 ^ 32 → n ≤ length numbers → length first_buses ≡ length numbers → length sizes ≡ length numbers → length energised ≡ length numbers → length absolute ≡ length numbers → count ≤ n
    → All (λ c. c < count) (take n numbers) → All (λ b. b < n) (take count first_buses)
    → take n numbers ≡ components_of n live → count ≡ component_count n live → take count sizes ≡ sizes_of count (take n numbers)
    → AreGrouped n count numbers first_buses sizes energised absolute
grouped_whole n count live numbers first_buses sizes energised absolute small fits first_len sizes_len energised_len absolute_len few below firsts are counted sized =
    let sizes_are : take count sizes ≡ sizes_of (component_count n live) (components_of n live) = sized ∙ (ap (λ t. sizes_of count t) are ∙ ap (λ k. sizes_of k (components_of n live)) counted) in
    record {
      small = small;
      fits = fits;
      few = few;
      first_len = first_len;
      sizes_len = sizes_len;
      energised_len = energised_len;
      absolute_len = absolute_len;
      below = below;
      firsts = firsts;
      some = subst (λ (t : List ℕ). All (λ s. 0 < s) t) (sym sizes_are) (sizes-some n live);
      whole = subst (λ (t : List ℕ). sum t ≤ n) (sym sizes_are) (subst (λ k. sum (sizes_of (component_count n live) (components_of n live)) ≤ k) (length-components_of n live) (sizes-whole (component_count n live) (components_of n live)));
    }
