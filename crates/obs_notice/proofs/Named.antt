-- The word that is named after a failed read.
use Rattle.std.proofs.Common.{ℕ, ◌≡◌, ◌<◌, ◌+◌, refl, arith, nat_lt, zero, suc, Bool, true, false, cond, not, List, [], ◌∷◌, length, Option, Some, None}
use Rattle.std.specs.Prelude.{slice_index}
use Rattle.std.specs.List.{position_or_len}
use Rattle.std.proofs.lemmas.Bool.Decides.{nat_tests}
use Rattle.std.proofs.lemmas.List.Quantifiers.{position-Some}
use Rattle.obs_io.specs.Causes.{Rose}
use Rattle.obs_files.specs.Limits.{Limits}
use Rattle.obs_files.specs.Outside.{ReadFailed}
use Rattle.obs_notice.specs.Notices.{NamesFailure, failed_word}

cond_none : {A : Type 0} (b : Bool) (x : A) → cond b (Some x) None ≡ None → b ≡ false
cond_none true x e = absurd cc
cond_none false x e = refl

lt_down : (a b : ℕ) → nat_lt (1 + a) (suc b) ≡ false → nat_lt a b ≡ false
lt_down a b e = grind (arith, nat_tests, e)

above_zero : (n : ℕ) → nat_lt 0 n ≡ true → 0 < n
above_zero n e = grind (arith, nat_tests, e)

not_below : (n : ℕ) → nat_lt 0 (suc n) ≡ false → ⊥
not_below n e = grind (arith, nat_tests, e)

is_zero : (n : ℕ) → nat_lt 0 n ≡ false → n ≡ 0
is_zero n e = grind (arith, nat_tests, e)

-- no item of a list passes: not its first, and none of the others
none_passes : (test : Bool) (a b : ℕ) → nat_lt (cond (not test) (1 + a) 0) (suc b) ≡ false → (test ≡ false) × (nat_lt a b ≡ false)
none_passes true a b e = absurd (not_below b e)
none_passes false a b e = (refl, lt_down a b e)

all_zero : (counts : List ℕ) (w : ℕ) → nat_lt (position_or_len (λ count. nat_lt 0 count) counts) (length counts) ≡ false → slice_index counts w ≡ 0
all_zero [] w e = refl
all_zero (n ∷ counts) zero e = is_zero n (none_passes (nat_lt 0 n) (position_or_len (λ count. nat_lt 0 count) counts) (length counts) e).0
all_zero (n ∷ counts) (suc w) e = all_zero counts w (none_passes (nat_lt 0 n) (position_or_len (λ count. nat_lt 0 count) counts) (length counts) e).1

-- where no word has failed, each count is 0
none_failed : (counts : List ℕ) (w : ℕ) → failed_word counts ≡ None → slice_index counts w ≡ 0
none_failed counts w none = all_zero counts w (cond_none _ _ none)

-- a count that stayed at 0 didn't rise
no_rise : (start now : ℕ) → start ≡ 0 → now ≡ 0 → Rose start now → ⊥
no_rise start now e f rose = absurd (omega (arith, e, f, rose))

-- counts of failed reads, of which each that isn't 0 is one of a word of which a read failed beneath
module _ (counts : List ℕ) (beneath : ℕ → ℕ) (noted : (w : ℕ) → 0 < slice_index counts w → 0 < beneath w) (before now : ℕ) where
  named_at : (found : Option ℕ) → failed_word counts ≡ found → (found ≡ None → Rose before now) → NamesFailure beneath before now found
  named_at None e input = input refl
  named_at (Some w) e input = let found = position-Some (λ count. nat_lt 0 count) counts w 0 e in noted w (above_zero _ found.1)

  -- a failed read of a file is named
  pub named_file : (limits : Limits) (words : List ℕ) (content : ℕ → Option (List ℕ)) (start : ℕ → ℕ) → ((w : ℕ) → start w ≡ 0)
      → ReadFailed limits words content start (λ w. slice_index counts w) → NamesFailure beneath before now (failed_word counts)
  named_file limits words content start fresh failed =
      named_at (failed_word counts) refl (λ none. absurd (no_rise _ _ (fresh failed.word) (none_failed counts failed.word none) failed.rose))

  -- where one of the input failed, that is said, unless a file is named
  pub named_input : Rose before now → NamesFailure beneath before now (failed_word counts)
  named_input rose = named_at (failed_word counts) refl (λ none. rose)
