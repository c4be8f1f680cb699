-- Which vertices have a number among those of the rows.
use Rattle.std.proofs.Common.{◌≡◌, ◌∙◌, ℕ, ◌+◌, ◌*◌, ◌<◌, ◌≤◌, min, max, eqb, Bool, true, false, ◌⊎◌, inl, inr, List, length, get_or, sym, subst, arith}
use Rattle.std.specs.List.{range_with_len}
use Rattle.std.proofs.lemmas.Bool.{cases_Bool, cases_lt}
use Rattle.std.specs.List.Sorted.{IsBinarySearchResult, IsNonDecreasing}
use Rattle.std.specs.Ordering.{nat_cmp}
use Rattle.std.specs.Result.{MatchResult, is_ok}
use Rattle.std.specs.Prelude.{Result, Ok, Err}
use Rattle.std.proofs.lemmas.List.{get_or_default}
use Rattle.std.proofs.lemmas.List.Sorted.{list_any-IsPermutation, searched}
use Rattle.obs_case.specs.Tables.{Tables}
use Rattle.obs_matroid.specs.Lists.{In}
use Rattle.obs_matroid.proofs.Contained.{Contains-from_In, In-get_or}
use Rattle.obs_matroid.proofs.Lists.{In-map, In-map_from}
use Rattle.obs_matroid.proofs.Ranges.{range_from, range_in}
use Rattle.obs_meter.specs.Lost.{is_listed}
use Rattle.obs_meter.proofs.Touched.{In-from_any, any-from_In}
use Rattle.obs_cert.specs.inner.Links.{AreLinks, link, link_at, links_of}

-- one of two numbers is the lower one, and the other the higher
sides : (a b : ℕ) → ((min a b ≡ a) × (max a b ≡ b)) ⊎ ((min a b ≡ b) × (max a b ≡ a))
sides a b = elim (cases_lt a b) [
  | inl l ↦ (let x : min a b ≡ a = grind (arith, l) in let y : max a b ≡ b = grind (arith, l) in inl (x, y))
  | inr n ↦ (let x : min a b ≡ b = grind (arith, n) in let y : max a b ≡ a = grind (arith, n) in inr (x, y))
]

parts : (p q r s : ℕ) → q < 4294967296 → s < 4294967296 → p * 4294967296 + q ≡ r * 4294967296 + s → (p ≡ r) × (q ≡ s)
parts p q r s lq ls e = (omega (arith, lq, ls, e), omega (arith, lq, ls, e))

high : (a b : ℕ) → a < 4294967296 → b < 4294967296 → max a b < 4294967296
high a b la lb = grind (arith, la, lb)

-- the number says which two vertices they are
pub linked_as : (a b u v : ℕ) → a < 4294967296 → b < 4294967296 → u < 4294967296 → v < 4294967296 → link a b ≡ link u v → ((a ≡ u) × (b ≡ v)) ⊎ ((b ≡ u) × (a ≡ v))
linked_as a b u v la lb lu lv e =
    let same = parts (min a b) (max a b) (min u v) (max u v) (high a b la lb) (high u v lu lv) e in
    let low = same.0 in
    let top = same.1 in
    elim (sides a b) [
      | inl x ↦ elim (sides u v) [
        | inl y ↦ (let x0 = x.0 in let x1 = x.1 in let y0 = y.0 in let y1 = y.1 in inl (omega (arith, low, x0, y0), omega (arith, top, x1, y1)))
        | inr y ↦ (let x0 = x.0 in let x1 = x.1 in let y0 = y.0 in let y1 = y.1 in inr (omega (arith, top, x1, y1), omega (arith, low, x0, y0)))
      ]
      | inr x ↦ elim (sides u v) [
        | inl y ↦ (let x0 = x.0 in let x1 = x.1 in let y0 = y.0 in let y1 = y.1 in inr (omega (arith, low, x0, y0), omega (arith, top, x1, y1)))
        | inr y ↦ (let x0 = x.0 in let x1 = x.1 in let y0 = y.0 in let y1 = y.1 in inl (omega (arith, top, x1, y1), omega (arith, low, x0, y0)))
      ]
    ]

pub link_zero : (u v : ℕ) → 0 ≡ link u v → u ≡ v
link_zero u v e = elim (sides u v) [
  | inl x ↦ (let x0 = x.0 in let x1 = x.1 in omega (arith, e, x0, x1))
  | inr x ↦ (let x0 = x.0 in let x1 = x.1 in omega (arith, e, x0, x1))
]

pub link_back : (u v : ℕ) → link u v ≡ link v u
link_back u v =
    let low : min u v ≡ min v u = grind arith in
    let top : max u v ≡ max v u = grind arith in
    omega (arith, low, top)

-- a number that is listed is that of a row, and that of each row is listed
pub row_from : (t : Tables) (k : ℕ) → is_listed (links_of t) k ≡ true → (p : ℕ) × (p < length t.branches) × (link_at t p ≡ k)
row_from t k e =
    let w = In-map_from (link_at t) k (range_with_len 0 (length t.branches)) (In-from_any (links_of t) k e) in
    let l = (range_from 0 (length t.branches) w.0 w.1).1 in
    (w.0, omega (arith, l), sym w.2)

pub row_listed : (t : Tables) (p : ℕ) → p < length t.branches → is_listed (links_of t) (link_at t p) ≡ true
row_listed t p l =
    any-from_In (links_of t) (link_at t p) (In-map (link_at t) p (range_with_len 0 (length t.branches)) (range_in 0 (length t.branches) p (omega arith) (omega (arith, l))))

-- the order doesn't matter
pub listed_same : (t : Tables) (links : List ℕ) (k : ℕ) → AreLinks t links → is_listed (links_of t) k ≡ is_listed links k
listed_same t links k are = list_any-IsPermutation (λ x. eqb x k) (links_of t) links are.all

-- a number that was searched for is listed exactly where it was found
is_at : (links : List ℕ) (k i : ℕ) → i < length links → get_or links i 0 ≡ k → is_listed links k ≡ true
is_at links k i l e = any-from_In links k (subst (λ (x : ℕ). In x links) e (In-get_or links i 0 l))

below_and_above : (links : List ℕ) (k i : ℕ) → ((j : ℕ) → j < i → get_or links j 0 < k) → ((j : ℕ) → i ≤ j → j < length links → k < get_or links j 0) → In k links → ⊥
below_and_above links k i low high inside =
    let w = Contains-from_In k links inside in
    let at : get_or links w.0 0 ≡ k = get_or_default links w.0 0 k w.1 ∙ w.2 in
    elim (cases_lt w.0 i) [
      | inl l ↦ (let a = low w.0 l in omega (arith, a, at))
      | inr n ↦ (let a = high w.0 n w.1 in omega (arith, a, at))
    ]

is_not : (b : Bool) → (b ≡ true → ⊥) → b ≡ false
is_not b never = elim (cases_Bool b) [ inl e ↦ absurd (never e) | inr e ↦ e ]

found : (links : List ℕ) (k : ℕ) (r : Result ℕ ℕ)
    → MatchResult r (λ i. (i < length links) × (get_or links i 0 ≡ k)) (λ i. (i ≤ length links) × ((j : ℕ) → j < i → get_or links j 0 < k) × ((j : ℕ) → i ≤ j → j < length links → k < get_or links j 0))
    → is_ok r ≡ is_listed links k
found links k (Ok i) m = sym (is_at links k i m.0 m.1)
found links k (Err i) m = sym (is_not (is_listed links k) (λ e. below_and_above links k i m.1 m.2 (In-from_any links k e)))

pub found_link : (links : List ℕ) (k : ℕ) (r : Result ℕ ℕ) → IsBinarySearchResult (λ y. nat_cmp y k) links r → IsNonDecreasing links → is_ok r ≡ is_listed links k
found_link links k r at rising = found links k r (searched links k r at (λ i j le l. rising i j 0 le l))
