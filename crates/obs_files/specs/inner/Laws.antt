-- Laws of the words of a command: which forms they have, and what the usage line says.
use Rattle.std.specs.Prelude.{◌≡◌, ◌≤◌, ℕ, List, Some, [], ◌∷◌, ◌++◌, codes, length, map, slice_index_or}
use Rattle.obs_text.specs.Numbers.{whole_of}
use Rattle.obs_files.specs.declared.words.CaseCommand.{CaseCommand}
use Rattle.obs_files.specs.declared.words.CaseForm.{CaseForm}
use Rattle.obs_files.specs.declared.words.Form.{Form}
use Rattle.obs_files.specs.declared.words.Form.TheVariants.{Topology, Case, Trial}
use Rattle.obs_files.specs.Words.{case_parts, case_word, command_word, has_with, item_if, parts_behind, usage_text, words_of}
use Rattle.obs_files.specs.inner.Words.{usage_of}

-- the words of a command over a case of this form: the command's word, the word of the case's form, the words that name the case's
-- files, and those behind, with the word `with` before them where the command has it
abbrev pub words_for : CaseCommand → CaseForm → List (List ℕ) → List (List ℕ) → List (List ℕ)
words_for command from files behind =
    command_word (Case command from) ∷ case_word from ∷ (files ++ (item_if (has_with (Case command from)) (codes "with") ++ behind))

-- the words have this form: a command's word, where it takes a case the word of the case's form, and then a word for each file, with
-- the word `with` before candidates where the command has it; of a trial two numbers
abbrev pub IsFormOf : Form → List (List ℕ) → Type 0
IsFormOf Topology words = (n : List ℕ) × (s : List ℕ) × (words ≡ codes "topology" ∷ n ∷ s ∷ [])
IsFormOf (Case command from) words =
    (files behind : List (List ℕ)) × (length files ≡ length (case_parts from)) × (length behind ≡ length (parts_behind (Case command from)))
    × (words ≡ words_for command from files behind)
IsFormOf (Trial rows seed) words =
    (n s : List ℕ) × (words ≡ codes "trial" ∷ n ∷ s ∷ []) × (whole_of n ≡ Some rows) × (1 ≤ rows) × (rows ≤ 100) × (whole_of s ≡ Some seed)

-- the words at the places from which a form's files are taken, in the order in which these are read
abbrev pub taken_words : Form → List (List ℕ) → List (List ℕ)
taken_words form words = map (λ at. slice_index_or words at []) (words_of form)

-- each file is that of its word: the words that are taken are those that name files, in their order, and no other
pub record TakesEachFile : Type 0 where
  pub topology : (n s : List ℕ) → taken_words Topology (codes "topology" ∷ n ∷ s ∷ []) ≡ n ∷ s ∷ []
  pub case : (command : CaseCommand) (from : CaseForm) (files behind : List (List ℕ)) → length files ≡ length (case_parts from)
      → length behind ≡ length (parts_behind (Case command from))
      → taken_words (Case command from) (words_for command from files behind) ≡ files ++ behind

-- the usage line names a form: what it says of the form stands in it, behind a space
abbrev pub IsInUsage : Form → Type 0
IsInUsage form = (before behind : List ℕ) × (usage_text ≡ before ++ (codes " " ++ (usage_of form ++ behind)))
