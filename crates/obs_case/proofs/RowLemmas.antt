-- Rows that are compared by their names, and lists of rows with one changed.
use Rattle.std.proofs.Common.{inl, inr, ℕ, ◌≡◌, ◌∙◌, ◌+◌, ◌<◌, ap, refl, sym, subst, List, [], ◌∷◌, ◌++◌, length, Bool, not, ◌||◌, cond, true, false, arith, suc, zero, get_or, position, map, All}
use Rattle.std.proofs.lemmas.Bool.{cases_Bool, false≢true}
use Rattle.std.proofs.lemmas.List.{length-map}
use Rattle.std.proofs.lemmas.List.Elements.{All-cons, All-head, All-tail}
use Rattle.std.specs.List.{list_any, position_or_len}
use Rattle.std.specs.Set.{swap_key}
use Rattle.std.specs.Str.{bytes_eq}
use Rattle.obs_case.specs.Flags.{changed_at}
use Rattle.obs_case.specs.Tables.{IsNamed, are_different, has_name, place_of, position_of}
use Rattle.obs_case.proofs.NameLemmas.{bytes_eq-itself, different-parts}
use Rattle.obs_text.proofs.ByteLemmas.{same_bytes}

module _ {R : Type 0} (own : R → List ℕ) where
  -- the name of a row is among the names
  pub has_name-at : (rows : List R) (at : ℕ) (d : R) → at < length rows → has_name (map own rows) (own (get_or rows at d)) ≡ true
  has_name-at [] at d lt = absurd (omega arith)
  has_name-at (x ∷ rows) zero d lt = rw (bytes_eq-itself (own x)) refl
  has_name-at (x ∷ rows) (suc at) d lt =
      let later : at < length rows = omega arith in
      elim (bytes_eq (own (get_or rows at d)) (own x)) as (λ b. (b || has_name (map own rows) (own (get_or rows at d))) ≡ true) [ true ↦ refl | false ↦ has_name-at rows at d later ]

module _ {R : Type 0} (eq : R → R → Bool) (own : R → List ℕ) (by_name : (x y : R) → eq x y ≡ bytes_eq (own x) (own y)) where
  pub any-by_name : (row : R) (rows : List R) → list_any (eq row) rows ≡ has_name (map own rows) (own row)
  any-by_name row [] = refl
  any-by_name row (x ∷ rows) = rw (by_name row x) (ap (λ b. bytes_eq (own row) (own x) || b) (any-by_name row rows))

  pub place-by_name : (row : R) (rows : List R) → position_or_len (eq row) rows ≡ place_of (map own rows) (own row)
  place-by_name row [] = refl
  place-by_name row (x ∷ rows) = rw (by_name row x) (ap (λ n. cond (not (bytes_eq (own row) (own x))) (1 + n) 0) (place-by_name row rows))

  pub position-by_name : (row : R) (rows : List R) → position (eq row) rows ≡ position_of (map own rows) (own row)
  position-by_name row rows = rw (place-by_name row rows, length-map rows own) refl

module _ {R : Type 0} (eq : R → R → Bool) (own : R → List ℕ) (by_name : (x y : R) → eq x y ≡ bytes_eq (own x) (own y)) (change : R → R) (keeps : (x : R) → own (change x) ≡ own x) where
  -- among different names the row that takes the place of its name changes its own place
  pub swap-changed : (rows : List R) (at : ℕ) (d : R) → at < length rows → are_different (map own rows) ≡ true
      → swap_key (eq (change (get_or rows at d))) rows (change (get_or rows at d)) ≡ changed_at change at rows
  unfolding changed_at
  swap-changed [] at d lt different = absurd (omega arith)
  swap-changed (x ∷ rows) zero d lt different =
      let own_place : eq (change x) x ≡ true = by_name (change x) x ∙ ap (λ n. bytes_eq n (own x)) (keeps x) ∙ bytes_eq-itself (own x) in
      rw own_place refl
  swap-changed (x ∷ rows) (suc at) d lt different =
      let parts = different-parts (own x) (map own rows) different in
      let later : at < length rows = omega arith in
      let there = has_name-at own rows at d later in
      let other : eq (change (get_or rows at d)) x ≡ false = by_name (change (get_or rows at d)) x ∙ ap (λ n. bytes_eq n (own x)) (keeps (get_or rows at d)) ∙ elsewhere (own (get_or rows at d)) (own x) (map own rows) there parts.0 in
      rw other (ap (λ rest. x ∷ rest) (swap-changed rows at d later parts.1))
    where
      elsewhere : (name x : List ℕ) (names : List (List ℕ)) → has_name names name ≡ true → has_name names x ≡ false → bytes_eq name x ≡ false
      elsewhere name x names there absent =
          elim (cases_Bool (bytes_eq name x)) [
            | inl e ↦ absurd (false≢true (sym absent ∙ ap (has_name names) (sym (same_bytes name x e)) ∙ there))
            | inr e ↦ e
          ]

module _ {R : Type 0} (change : R → R) where
  pub length-changed : (rows : List R) (at : ℕ) → length (changed_at change at rows) ≡ length rows
  unfolding changed_at
  length-changed [] at = refl
  length-changed (x ∷ rows) zero = refl
  length-changed (x ∷ rows) (suc at) = ap suc (length-changed rows at)

  -- changing the last of some rows is adding it changed
  pub changed-last : (rows : List R) (row : R) → changed_at change (length rows) (rows ++ row ∷ []) ≡ rows ++ change row ∷ []
  unfolding changed_at
  changed-last [] row = refl
  changed-last (x ∷ rows) row = ap (λ ys. x ∷ ys) (changed-last rows row)

  pub map-changed : {X : Type 0} (of : R → X) → ((x : R) → of (change x) ≡ of x) → (rows : List R) (at : ℕ) → map of (changed_at change at rows) ≡ map of rows
  unfolding changed_at
  map-changed of keeps [] at = refl
  map-changed of keeps (x ∷ rows) zero = ap (λ y. y ∷ map of rows) (keeps x)
  map-changed of keeps (x ∷ rows) (suc at) = ap (λ ys. of x ∷ ys) (map-changed of keeps rows at)

  pub All-changed : (P : R → Type 0) → ((x : R) → P x → P (change x)) → (rows : List R) (at : ℕ) → All P rows → All P (changed_at change at rows)
  unfolding changed_at
  All-changed P keeps [] at h = h
  All-changed P keeps (x ∷ rows) zero h = All-cons P (change x) rows (keeps x (All-head P x rows h)) (All-tail P x rows h)
  All-changed P keeps (x ∷ rows) (suc at) h = All-cons P x (changed_at change at rows) (All-head P x rows h) (All-changed P keeps rows at (All-tail P x rows h))

-- the row at a position, read and changed, takes the place of its name
module _ {R : Type 0} (own : R → List ℕ) (change : R → R) (keeps : (x : R) → own (change x) ≡ own x) where
  pub set-row : {most : ℕ} (rows : List R) (at : ℕ) (row changed : R) → at < length rows → IsNamed most (map own rows) → row ≡ get_or rows at row → changed ≡ change row
      → swap_key (λ y. bytes_eq (own changed) (own y)) rows changed ≡ changed_at change at rows
  set-row rows at row changed lt h is made =
      let eq : R → R → Bool = λ x y. bytes_eq (own x) (own y) in
      subst (λ x. swap_key (eq x) rows x ≡ changed_at change at rows) (ap change (sym is) ∙ sym made) (swap-changed eq own (λ x y. refl) change keeps rows at row lt h.different)

  pub has_name-set : (rows : List R) (at : ℕ) (row : R) → at < length rows → row ≡ get_or rows at row → (name : List ℕ) → name ≡ own row → has_name (map own rows) name ≡ true
  has_name-set rows at row lt is name same = ap (has_name (map own rows)) (same ∙ ap own is) ∙ has_name-at own rows at row lt
