-- What a line says, by its words.
use Rattle.std.proofs.Common.{◌≡◌, ◌≢◌, ℕ, ◌+◌, ◌≤◌, Bool, true, false, not, List, [], ◌∷◌, length, ltb, None, Some, Ok, Err, refl, ◌∙◌, inl, inr, arith}
use Rattle.std.proofs.lemmas.Bool.{cases_Bool, le-ltb, lt-ltb}
use Rattle.std.proofs.lemmas.Bool.Decides.{nat_tests}
use Rattle.std.proofs.lemmas.List.Folds.{length-prefix_len}
use Rattle.std.proofs.lemmas.List.Sums.{prefix_len-le-length}
use Rattle.std.specs.List.{list_any, position_or_len}
use Rattle.obs_text.specs.Columns.{is_blank}
use Rattle.obs_text.specs.Names.{is_name}
use Rattle.obs_script.specs.declared.fault.LineFault.TheVariants.{BadName, WordMissing}
use Rattle.obs_script.specs.Commands.{Said, ask_of, command_of, command_word, edit_of, most_bytes, name_in, named}

one_more : (m n : ℕ) → ltb (1 + m) (1 + n) ≡ ltb m n
one_more m n = grind (arith, nat_tests)

-- a list has an element that passes exactly where the first place that passes is one of its places
list_any-position : {X : Type 0} (p : X → Bool) (xs : List X) → list_any p xs ≡ ltb (position_or_len p xs) (length xs)
list_any-position p [] = refl
list_any-position p (x ∷ xs) =
    elim (cases_Bool (p x)) [
      | inl e ↦ rw e (grind (arith, nat_tests))
      | inr e ↦ rw e (list_any-position p xs ∙ grind (arith, nat_tests, one_more (position_or_len p xs) (length xs)))
    ]

length-word : (line : List ℕ) → length (command_word line) ≡ position_or_len is_blank line
length-word line = length-prefix_len (λ byte. not (is_blank byte)) line

-- a blank follows the command word, or the line is that word
no_blank : (line : List ℕ) → length (command_word line) ≡ length line → list_any is_blank line ≡ false
no_blank line all = list_any-position is_blank line ∙ le-ltb (position_or_len is_blank line) (length line) (omega (arith, length-word line))

blank : (line : List ℕ) → length (command_word line) ≢ length line → list_any is_blank line ≡ true
blank line part =
    list_any-position is_blank line
    ∙ lt-ltb (position_or_len is_blank line) (length line) (omega (arith, length-word line, prefix_len-le-length (λ byte. not (is_blank byte)) line))

module _ (line : List ℕ) (edit : Said) (short : length line ≤ most_bytes) (no_ask : ask_of line ≡ None) (is : edit_of (command_word line) (name_in line) ≡ Some edit) where
  says_edit : command_of line ≡ named line edit
  says_edit = rw (le-ltb most_bytes (length line) short, no_ask, is) refl

  pub without_name : length (command_word line) ≡ length line → command_of line ≡ Err WordMissing
  without_name all = let absent = no_blank line all in says_edit ∙ rw absent refl

  pub with_name : length (command_word line) ≢ length line → is_name (name_in line) ≡ true → command_of line ≡ Ok edit
  with_name part good = let there = blank line part in says_edit ∙ rw (there, good) refl

  pub with_bad_name : length (command_word line) ≢ length line → is_name (name_in line) ≡ false → command_of line ≡ Err BadName
  with_bad_name part bad = let there = blank line part in says_edit ∙ rw (there, bad) refl
