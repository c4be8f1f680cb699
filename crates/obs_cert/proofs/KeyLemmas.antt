-- The number of sorted keys up to a price is that of the live items below it.
use Rattle.std.proofs.Common.{◌≡◌, ◌∙◌, ℕ, zero, suc, ◌+◌, ◌-◌, ◌^◌, ◌<◌, ◌≤◌, ◌||◌, ◌&&◌, Bool, true, false, cond, leb, nat_lt, List, [], ◌∷◌, length, map, filter, get_or, set, refl, sym, ap, inl, inr, arith, get_or-set_same, get_or-set_other, length-set}
use Rattle.std.specs.List.{AllWithin, count_by, range_with_len}
use Rattle.std.specs.List.Sorted.{IsPartitionPoint, IsPermutation}
use Rattle.std.proofs.lemmas.Bool.{cases_Bool, cases_eq}
use Rattle.std.proofs.lemmas.Bool.Decides.{nat_tests}
use Rattle.std.proofs.lemmas.List.FromFn.{fill_by_all}
use Rattle.std.proofs.lemmas.List.Sorted.{sum_by-IsPermutation}
use Rattle.std.proofs.lemmas.List.Sums.{length-filter}
use Rattle.obs_case.specs.Tables.{Tables}
use Rattle.obs_matroid.proofs.Lists.{filter_same}
use Rattle.obs_meter.specs.Touches.{every_item}
use Rattle.obs_network.specs.Network.{case_offered, is_meter}
use Rattle.obs_cert.specs.inner.Keys.{key_of, keys_of}
use Rattle.obs_cert.specs.Scopes.{is_below, is_live_item, price_at, scope_of}

-- an item is below a price exactly where its key is up to it
high_key : (to : ℕ) → to < 2 ^ 64 → leb (2 ^ 128 - 1) to ≡ false
high_key to l = grind (arith, nat_tests, l)

next_key : (price to : ℕ) → nat_lt price to ≡ leb (price + 1) to
next_key price to = grind (arith, nat_tests)

low_key : (to : ℕ) → leb 0 to ≡ true
low_key to = grind (arith, nat_tests)

below_by : (live meter : Bool) (price to : ℕ) → to < 2 ^ 64 → (live && (meter || nat_lt price to)) ≡ leb (cond live (cond meter 0 (price + 1)) (2 ^ 128 - 1)) to
below_by true true price to l = sym (low_key to)
below_by true false price to l = next_key price to
below_by false meter price to l = sym (high_key to l)

length-filter_map : (p : ℕ → Bool) (f : ℕ → ℕ) (xs : List ℕ) → length (filter (λ x. p (f x)) xs) ≡ length (filter p (map f xs))
length-filter_map p f [] = refl
length-filter_map p f (x ∷ xs) = elim (cases_Bool (p (f x))) [ inl e ↦ rw e (ap suc (length-filter_map p f xs)) | inr e ↦ rw e (length-filter_map p f xs) ]

-- before a partition point all pass, and behind it none
passing_before : (p : ℕ → Bool) (keys : List ℕ) (i : ℕ) → i ≤ length keys → AllWithin (λ k. p k ≡ true) keys 0 i → AllWithin (λ k. p k ≡ false) keys i (length keys) → length (filter p keys) ≡ i
passing_before p [] i l low high = omega (arith, l)
passing_before p (k ∷ keys) zero l low high =
    let here : p k ≡ false = high 0 k (omega arith) (omega arith) in
    rw here (passing_before p keys 0 (omega arith) (λ j d a b. absurd (omega (arith, a, b))) (λ j d a b. high (suc j) d (omega arith) (omega (arith, b))))
passing_before p (k ∷ keys) (suc i) l low high =
    let here : p k ≡ true = low 0 k (omega arith) (omega arith) in
    rw here (ap suc (passing_before p keys i (omega (arith, l)) (λ j d a b. low (suc j) d (omega arith) (omega (arith, b))) (λ j d a b. high (suc j) d (omega (arith, a)) (omega (arith, b)))))

pub counted_below : (t : Tables) (to i : ℕ) (keys : List ℕ) → to < 2 ^ 64 → IsPermutation (keys_of t) keys → i ≤ length keys
    → IsPartitionPoint (λ k. leb k to ≡ true) (λ k. leb k to ≡ false) keys i → i ≡ length (scope_of t (is_below t to))
counted_below t to i keys l moved within point =
    let p : ℕ → Bool = λ k. leb k to in
    let items = every_item (case_offered t) in
    let same : filter (is_below t to) items ≡ filter (λ m. leb (key_of t m) to) items =
    filter_same (is_below t to) (λ m. leb (key_of t m) to) items (λ m j. below_by (is_live_item t m) (is_meter t m) (price_at t m) to l) in
    let one = length-filter p keys in
    let two = length-filter p (keys_of t) in
    let three : count_by p keys ≡ count_by p (keys_of t) = sum_by-IsPermutation (λ k. cond (p k) 1 0) (keys_of t) keys moved in
    sym (passing_before p keys i within point.0 point.1) ∙ (one ∙ three ∙ sym two) ∙ sym (ap length same ∙ length-filter_map p (key_of t) items)

-- while a number for each place is written
pub record AreWritten (f : ℕ → ℕ) (n m : ℕ) (xs : List ℕ) : Type 0 where
  pub count : length xs ≡ n
  pub is : (k : ℕ) → k < m → get_or xs k 0 ≡ f k

pub written_all : (f : ℕ → ℕ) (n m : ℕ) (xs : List ℕ) → n ≤ m → AreWritten f n m xs → xs ≡ map f (range_with_len 0 n)
written_all f n m xs le w = fill_by_all f xs n 0 w.count (λ k l. w.is k (omega (arith, l, le)))

pub written_none : (f : ℕ → ℕ) (n : ℕ) (xs : List ℕ) → length xs ≡ n → AreWritten f n 0 xs
written_none f n xs e = record { count = e; is = λ k l. absurd (omega (arith, l)) }

pub written_more : (f : ℕ → ℕ) (n m x : ℕ) (xs : List ℕ) → m < length xs → x ≡ f m → AreWritten f n m xs → AreWritten f n (m + 1) (set xs m x)
written_more f n m x xs low is w = record {
  count = simp length-set w.count;
  is = λ k l. elim (cases_eq k m) [
    | inl e ↦ ap (λ z. get_or (set xs m x) z 0) e ∙ get_or-set_same xs m x 0 low ∙ is ∙ ap f (sym e)
    | inr ne ↦ get_or-set_other xs m k x 0 ne ∙ w.is k (omega (arith, l, ne))
  ];
}
