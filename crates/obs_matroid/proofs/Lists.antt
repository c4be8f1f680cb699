-- Lists of different elements, filters and tests.
use Rattle.std.proofs.Common.{◌≡◌, ℕ, suc, ◌+◌, ◌≤◌, ◌<◌, List, [], ◌∷◌, length, map, refl, sym, ap, inl, inr, Bool, true, false, not, ◌⊎◌, ◌++◌, arith, subst, eqb, ◌||◌}
use Rattle.std.specs.List.{filter, flat_map}
use Rattle.std.proofs.lemmas.Bool.{cases_Bool, cases_eq, eqb-true, eq-eqb, ne_eqb, or_cases, or_left, or_right}
use Rattle.std.proofs.lemmas.List.Filters.{length-filter_both}
use Rattle.obs_matroid.specs.Lists.{In, IsDistinct, other_than}

-- booleans
pub clash : {P : Type 0} {b : Bool} → b ≡ true → b ≡ false → P
clash t f = cc

pub In_same : {X : Type 0} (x y : X) (xs : List X) → x ≡ y → In y xs → In x xs
In_same x y xs e i = rw e i

-- membership
module _ {X : Type 0} where
  pub In-map : {Y : Type 0} (f : X → Y) (x : X) (xs : List X) → In x xs → In (f x) (map f xs)
  In-map f x [] h = absurd h
  In-map f x (y ∷ ys) (inl e) = inl (ap f e)
  In-map f x (y ∷ ys) (inr h) = inr (In-map f x ys h)

  pub In-map_from : {Y : Type 0} (f : X → Y) (y : Y) (xs : List X) → In y (map f xs) → (x : X) × In x xs × (y ≡ f x)
  In-map_from f y [] h = absurd h
  In-map_from f y (x ∷ xs) (inl e) = (x, inl refl, e)
  In-map_from f y (x ∷ xs) (inr h) = let r = In-map_from f y xs h in (r.0, inr r.1, r.2)

  pub In-filter : (p : X → Bool) (x : X) (xs : List X) → In x xs → p x ≡ true → In x (filter p xs)
  In-filter p x [] h t = absurd h
  In-filter p x (y ∷ ys) (inl i) t = let e : p y ≡ true = cc (ap p i) in rw e (inl i)
  In-filter p x (y ∷ ys) (inr i) t =
      elim (cases_Bool (p y)) [ inl e ↦ rw e (inr (In-filter p x ys i t)) | inr e ↦ rw e (In-filter p x ys i t) ]

  pub In-filter_from : (p : X → Bool) (x : X) (xs : List X) → In x (filter p xs) → In x xs × (p x ≡ true)
  In-filter_from p x [] h = absurd h
  In-filter_from p x (y ∷ ys) h =
      elim (cases_Bool (p y)) [
        | inl e ↦ elim (rw e at h) [ inl i ↦ (inl i, cc (ap p i)) | inr i ↦ (inr (In-filter_from p x ys i).0, (In-filter_from p x ys i).1) ]
        | inr e ↦ let i = In-filter_from p x ys (rw e at h) in (inr i.0, i.1)
      ]

  pub IsDistinct-filter : (p : X → Bool) (xs : List X) → IsDistinct xs → IsDistinct (filter p xs)
  IsDistinct-filter p [] d = tt
  IsDistinct-filter p (x ∷ xs) d =
      elim (cases_Bool (p x)) [
        | inl e ↦ rw e ((λ i. d.0 (In-filter_from p x xs i).0), IsDistinct-filter p xs d.1)
        | inr e ↦ rw e (IsDistinct-filter p xs d.1)
      ]

  -- what passes everywhere is not filtered
  pub filter_all : (p : X → Bool) (xs : List X) → ((x : X) → In x xs → p x ≡ true) → filter p xs ≡ xs
  filter_all p [] h = refl
  filter_all p (x ∷ xs) h = rw (h x (inl refl)) (ap (λ (ys : List X). x ∷ ys) (filter_all p xs (λ y i. h y (inr i))))

  -- two tests that agree at each element of a list
  pub filter_same : (p q : X → Bool) (xs : List X) → ((x : X) → In x xs → p x ≡ q x) → filter p xs ≡ filter q xs
  filter_same p q [] h = refl
  filter_same p q (x ∷ xs) h =
      elim (cases_Bool (q x)) [
        | inl e ↦ rw (h x (inl refl), e, filter_same p q xs (λ y i. h y (inr i)))
        | inr e ↦ rw (h x (inl refl), e, filter_same p q xs (λ y i. h y (inr i)))
      ]

  pub length-filter_le : (p q : X → Bool) (xs : List X) → ((x : X) → In x xs → p x ≡ true → q x ≡ true) → length (filter p xs) ≤ length (filter q xs)
  length-filter_le p q [] h = omega arith
  length-filter_le p q (x ∷ xs) h =
      let k : length (filter p xs) ≤ length (filter q xs) = length-filter_le p q xs (λ y i. h y (inr i)) in
      elim (cases_Bool (p x)) [
        | inl e ↦ rw (e, h x (inl refl) e) (omega (arith, k))
        | inr e ↦ elim (cases_Bool (q x)) [ inl f ↦ rw (e, f) (omega (arith, k)) | inr f ↦ rw (e, f) k ]
      ]

-- membership of a list of numbers is decided
pub cases_In : (x : ℕ) (xs : List ℕ) → In x xs ⊎ (In x xs → ⊥)
cases_In x [] = inr (λ h. h)
cases_In x (y ∷ ys) =
    elim (cases_eq x y) [
      | inl e ↦ inl (inl e)
      | inr n ↦ elim (cases_In x ys) [ inl i ↦ inl (inr i) | inr out ↦ inr (λ h. elim h [ inl e ↦ n e | inr i ↦ out i ]) ]
    ]

pub other_true : (m x : ℕ) → (x ≡ m → ⊥) → other_than m x ≡ true
other_true m x n = rw (ne_eqb x m n)

pub other_self : (m : ℕ) → other_than m m ≡ false
other_self m = rw (eq-eqb m m refl)

pub other_ne : (m x : ℕ) → other_than m x ≡ true → x ≡ m → ⊥
other_ne m x t e = clash t (rw e (other_self m))

-- m taken out of a list that holds it once leaves one element less
pub filter_out : (m : ℕ) (xs : List ℕ) → (In m xs → ⊥) → filter (other_than m) xs ≡ xs
filter_out m xs out = filter_all (other_than m) xs (λ x i. other_true m x (λ e. out (subst (λ (y : ℕ). In y xs) e i)))

pub length-without : (m : ℕ) (xs : List ℕ) → IsDistinct xs → In m xs → suc (length (filter (other_than m) xs)) ≡ length xs
length-without m [] d h = absurd h
length-without m (x ∷ xs) d (inl e) =
    subst (λ (k : ℕ). suc (length (filter (other_than k) (x ∷ xs))) ≡ suc (length xs)) (sym e) (rw (other_self x, filter_out x xs d.0))
length-without m (x ∷ xs) d (inr i) =
    rw (other_true m x (λ e. d.0 (rw e i))) (ap suc (length-without m xs d.1 i))

pub length-without_lt : (m : ℕ) (xs : List ℕ) → In m xs → length (filter (other_than m) xs) < length xs
length-without_lt m [] h = absurd h
length-without_lt m (x ∷ xs) (inl e) =
    let k : length (filter (other_than m) xs) ≤ length (filter (λ (y : ℕ). true) xs) = length-filter_le (other_than m) (λ _. true) xs (λ y i t. refl) in
    let l : filter (λ (y : ℕ). true) xs ≡ xs = filter_all (λ _. true) xs (λ y i. refl) in
    let f : other_than m x ≡ false = rw e (other_self x) in
    rw f (let k2 : length (filter (other_than m) xs) ≤ length xs = rw l at k in omega (arith, k2))
length-without_lt m (x ∷ xs) (inr i) =
    let k : length (filter (other_than m) xs) < length xs = length-without_lt m xs i in
    elim (cases_Bool (other_than m x)) [ inl e ↦ rw e (omega (arith, k)) | inr e ↦ rw e (omega (arith, k)) ]

-- different numbers that all stand in another list are no more than that list has
pub length-within : (xs ys : List ℕ) → IsDistinct xs → ((x : ℕ) → In x xs → In x ys) → length xs ≤ length ys
length-within [] ys d h = omega arith
length-within (x ∷ xs) ys d h =
    let k : length xs ≤ length (filter (other_than x) ys) =
    length-within xs (filter (other_than x) ys) d.1
    (λ y i. In-filter (other_than x) y ys (h y (inr i)) (other_true x y (λ e. d.0 (subst (λ (z : ℕ). In z xs) e i)))) in
    let l : length (filter (other_than x) ys) < length ys = length-without_lt x ys (h x (inl refl)) in
    omega (arith, k, l)

-- a filter and its opposite
pub length-split : {X : Type 0} (p : X → Bool) (xs : List X) → length (filter p xs) + length (filter (λ (x : X). not (p x)) xs) ≡ length xs
length-split {X} p xs = length-filter_both p (λ (x : X). not (p x)) (λ x. refl) xs

pub In-append_left : {X : Type 0} (x : X) (xs ys : List X) → In x xs → In x (xs ++ ys)
In-append_left x [] ys h = absurd h
In-append_left x (z ∷ xs) ys (inl e) = inl e
In-append_left x (z ∷ xs) ys (inr i) = inr (In-append_left x xs ys i)

pub In-append_right : {X : Type 0} (x : X) (xs ys : List X) → In x ys → In x (xs ++ ys)
In-append_right x [] ys h = h
In-append_right x (z ∷ xs) ys h = inr (In-append_right x xs ys h)

pub In-append_cases : {X : Type 0} (x : X) (xs ys : List X) → In x (xs ++ ys) → In x xs ⊎ In x ys
In-append_cases x [] ys h = inr h
In-append_cases x (z ∷ xs) ys (inl e) = inl (inl e)
In-append_cases x (z ∷ xs) ys (inr i) = elim (In-append_cases x xs ys i) [ inl j ↦ inl (inr j) | inr j ↦ inr j ]

pub In-flat_map : {X Y : Type 0} (f : X → List Y) (x : X) (y : Y) (xs : List X) → In x xs → In y (f x) → In y (flat_map f xs)
In-flat_map f x y [] h i = absurd h
In-flat_map f x y (z ∷ xs) (inl e) i = In-append_left y (f z) (flat_map f xs) (rw e at i)
In-flat_map f x y (z ∷ xs) (inr h) i = In-append_right y (f z) (flat_map f xs) (In-flat_map f x y xs h i)

pub In-flat_map_from : {X Y : Type 0} (f : X → List Y) (y : Y) (xs : List X) → In y (flat_map f xs) → (x : X) × In x xs × In y (f x)
In-flat_map_from f y [] h = absurd h
In-flat_map_from f y (z ∷ xs) h =
    elim (In-append_cases y (f z) (flat_map f xs) h) [
      | inl i ↦ (z, inl refl, i)
      | inr i ↦ let r = In-flat_map_from f y xs i in (r.0, inr r.1, r.2)
    ]

-- the first element at which the one holds, or the other everywhere
pub find_in : {X : Type 0} (P Q : X → Type 0) (xs : List X) → ((x : X) → In x xs → P x ⊎ Q x) → ((x : X) × In x xs × P x) ⊎ ((x : X) → In x xs → Q x)
find_in P Q [] h = inr (λ x i. absurd i)
find_in P Q (x ∷ xs) h =
    elim (h x (inl refl)) [
      | inl p ↦ inl (x, inl refl, p)
      | inr q ↦ elim (find_in P Q xs (λ y i. h y (inr i))) [
        | inl r ↦ inl (r.0, inr r.1, r.2)
        | inr all ↦ inr (λ y i. elim i [ inl e ↦ subst Q (sym e) q | inr j ↦ all y j ])
      ]
    ]

-- whether the number x is one of xs
abbrev pub is_in : List ℕ → ℕ → Bool
is_in [] x = false
is_in (y ∷ ys) x = eqb x y || is_in ys x

pub is_in_from : (xs : List ℕ) (x : ℕ) → is_in xs x ≡ true → In x xs
is_in_from [] x t = clash t refl
is_in_from (y ∷ ys) x t = elim (or_cases (eqb x y) (is_in ys x) t) [ inl e ↦ inl (eqb-true x y e) | inr i ↦ inr (is_in_from ys x i) ]

pub is_in_at : (xs : List ℕ) (x : ℕ) → In x xs → is_in xs x ≡ true
is_in_at [] x h = absurd h
is_in_at (y ∷ ys) x (inl e) = or_left (eqb x y) (is_in ys x) (eq-eqb x y e)
is_in_at (y ∷ ys) x (inr i) = or_right (eqb x y) (is_in ys x) (is_in_at ys x i)

-- two lists of different elements with none in both
pub IsDistinct-append : {X : Type 0} (xs ys : List X) → IsDistinct xs → IsDistinct ys → ((x : X) → In x xs → In x ys → ⊥) → IsDistinct (xs ++ ys)
IsDistinct-append [] ys d e h = e
IsDistinct-append (x ∷ xs) ys d e h = (
  (λ i. elim (In-append_cases x xs ys i) [ inl j ↦ d.0 j | inr j ↦ h x (inl refl) j ]),
  IsDistinct-append xs ys d.1 e (λ y i j. h y (inr i) j),
)
