-- Names in a list of names: whether one is there, and where.
use Rattle.std.proofs.Common.{inl, inr, ℕ, ◌≡◌, ◌∙◌, ◌+◌, ◌<◌, ◌≤◌, ap, refl, sym, List, [], ◌∷◌, ◌++◌, length, Bool, not, ◌||◌, ◌&&◌, cond, true, false, arith, suc, nat_lt, nat_le, Some, None, is_some, position}
use Rattle.std.proofs.lemmas.Bool.{false≢true, and_parts, cases_Bool, lt-ltb, le-ltb, leb-true, not-true, or_parts}
use Rattle.std.proofs.lemmas.List.{length-append}
use Rattle.std.proofs.lemmas.List.Folds.{list_all-append, list_any-append}
use Rattle.std.specs.Cmp.Lexicographic.{bytes_decides}
use Rattle.std.specs.List.{list_all, list_any, position_or_len}
use Rattle.std.specs.Str.{bytes_eq}
use Rattle.obs_text.specs.Names.{is_name, is_name_byte}
use Rattle.obs_text.proofs.ByteLemmas.{same_bytes}
use Rattle.obs_case.specs.Tables.{IsNamed, are_different, has_name, position_of}

-- a name that is there stands before the end
pub place-there : {X : Type 0} (p : X → Bool) (xs : List X) → list_any p xs ≡ true → position_or_len p xs < length xs
place-there p [] h = absurd (false≢true h)
place-there p (x ∷ xs) h = by (p x) h (place-there p xs)
  where
    by : (b : Bool) → (b || list_any p xs) ≡ true → (list_any p xs ≡ true → position_or_len p xs < length xs) → cond (not b) (1 + position_or_len p xs) 0 < suc (length xs)
    by true h rest = omega arith
    by false h rest = omega (arith, rest h)

-- and one that isn't stands at it
pub place-absent : {X : Type 0} (p : X → Bool) (xs : List X) → list_any p xs ≡ false → position_or_len p xs ≡ length xs
place-absent p [] h = refl
place-absent p (x ∷ xs) h = by (p x) h (place-absent p xs)
  where
    by : (b : Bool) → (b || list_any p xs) ≡ false → (list_any p xs ≡ false → position_or_len p xs ≡ length xs) → cond (not b) (1 + position_or_len p xs) 0 ≡ suc (length xs)
    by true h rest = cc
    by false h rest = omega (arith, rest h)

pub position-there : {X : Type 0} (p : X → Bool) (xs : List X) → list_any p xs ≡ true → position p xs ≡ Some (position_or_len p xs)
position-there p xs h = rw (lt-ltb (position_or_len p xs) (length xs) (place-there p xs h)) refl

pub position-absent : {X : Type 0} (p : X → Bool) (xs : List X) → list_any p xs ≡ false → position p xs ≡ None
position-absent p xs h =
    let end : length xs ≤ position_or_len p xs = omega (arith, place-absent p xs h) in
    rw (le-ltb (position_or_len p xs) (length xs) end) refl

pub is_some-position : {X : Type 0} (p : X → Bool) (xs : List X) → is_some (position p xs) ≡ list_any p xs
is_some-position p xs =
    elim (cases_Bool (list_any p xs)) [
      | inl h ↦ ap is_some (position-there p xs h) ∙ sym h
      | inr h ↦ ap is_some (position-absent p xs h) ∙ sym h
    ]

pub position-some : {X : Type 0} (p : X → Bool) (xs : List X) (i : ℕ) → position p xs ≡ Some i → (list_any p xs ≡ true) × (i ≡ position_or_len p xs)
position-some p xs i h =
    elim (cases_Bool (list_any p xs)) [
      | inl e ↦ (e, (let there = position-there p xs e in cc))
      | inr e ↦ (let absent = position-absent p xs e in cc)
    ]

pub position-none : {X : Type 0} (p : X → Bool) (xs : List X) → position p xs ≡ None → list_any p xs ≡ false
position-none p xs h =
    elim (cases_Bool (list_any p xs)) [
      | inl e ↦ (let there = position-there p xs e in cc)
      | inr e ↦ e
    ]

pub missed : (names : List (List ℕ)) (name : List ℕ) → None ≡ position_of names name → has_name names name ≡ false
missed names name e = sym (is_some-position (bytes_eq name) names) ∙ ap is_some (sym e)

-- equality of bytes
pub bytes_eq-itself : (x : List ℕ) → bytes_eq x x ≡ true
bytes_eq-itself x = (bytes_decides x x).1 refl

pub bytes_eq-back : (x y : List ℕ) → bytes_eq x y ≡ false → bytes_eq y x ≡ false
bytes_eq-back x y h =
    elim (cases_Bool (bytes_eq y x)) [
      | inl e ↦ absurd (false≢true (sym h ∙ ap (λ z. bytes_eq z y) (sym (same_bytes y x e)) ∙ bytes_eq-itself y))
      | inr e ↦ e
    ]

-- a name has at most 64 bytes
pub name_short : (name : List ℕ) → is_name name ≡ true → length name ≤ 64
name_short name h =
    let parts = and_parts (nat_lt 0 (length name) && nat_le (length name) 64) (list_all is_name_byte name) h in
    leb-true (length name) 64 (and_parts (nat_lt 0 (length name)) (nat_le (length name) 64) parts.0).1

-- longer bytes aren't among names
pub has_name-long : (names : List (List ℕ)) (name : List ℕ) → list_all is_name names ≡ true → 64 < length name → has_name names name ≡ false
has_name-long [] name h long = refl
has_name-long (x ∷ names) name h long =
    let parts = and_parts (is_name x) (list_all is_name names) h in
    elim (cases_Bool (bytes_eq name x)) [
      | inl e ↦ absurd (let short = name_short x parts.0 in let same = ap length (same_bytes name x e) in omega arith)
      | inr e ↦ rw e (has_name-long names name parts.1 long)
    ]

pub different-none : are_different [] ≡ true
unfolding are_different
different-none = refl

pub different-parts : (name : List ℕ) (names : List (List ℕ)) → are_different (name ∷ names) ≡ true → (has_name names name ≡ false) × (are_different names ≡ true)
unfolding are_different
different-parts name names h =
    let parts = and_parts (not (has_name names name)) (are_different names) h in
    (not-true (has_name names name) parts.0, parts.1)

pub different-from : (name : List ℕ) (names : List (List ℕ)) → has_name names name ≡ false → are_different names ≡ true → are_different (name ∷ names) ≡ true
unfolding are_different
different-from name names new rest = rw (new, rest) refl

pub has_name-push : (names : List (List ℕ)) (name more : List ℕ) → has_name names name ≡ false → bytes_eq name more ≡ false → has_name (names ++ more ∷ []) name ≡ false
has_name-push names name more absent other = list_any-append (bytes_eq name) names (more ∷ []) ∙ rw (absent, other) refl

-- one name more that is new
pub different-push : (names : List (List ℕ)) (name : List ℕ) → are_different names ≡ true → has_name names name ≡ false → are_different (names ++ name ∷ []) ≡ true
different-push [] name d new = different-from name [] refl different-none
different-push (x ∷ names) name d new =
    let before = different-parts x names d in
    let parts = or_parts (bytes_eq name x) (has_name names name) new in
    different-from x (names ++ name ∷ []) (has_name-push names x name before.0 (bytes_eq-back name x parts.0)) (different-push names name before.1 parts.1)

pub named-none : {most : ℕ} → IsNamed most []
named-none = record { named = refl; different = different-none; few = omega arith }

pub named-push : {most : ℕ} (names : List (List ℕ)) (name : List ℕ) → IsNamed most names → is_name name ≡ true → has_name names name ≡ false → length names < most → IsNamed most (names ++ name ∷ [])
named-push names name h good new room =
    record {
      named = list_all-append is_name names (name ∷ []) ∙ rw (h.named, good) refl;
      different = different-push names name h.different new;
      few = simp length-append (omega arith);
    }
