-- What the outside tells of the files that words name, and how reading them fails.
use Rattle.std.specs.Prelude.{ℕ, ◌≡◌, ◌≢◌, false, List, [], ◌∷◌, ◌++◌, Option, None, Some, Ok}
use Rattle.obs_case.specs.Tables.{Tables}
use Rattle.obs_io.specs.Causes.{Rose}
use Rattle.obs_matroid.specs.Lists.{In}
use Rattle.obs_files.specs.declared.words.Form.{Form}
use Rattle.obs_files.specs.Limits.{Limits}
use Rattle.obs_files.specs.Files.{case_in_files, is_too_long}
use Rattle.obs_files.specs.Words.{file_words}

abbrev pub IsFileWord : Option Form → ℕ → Type 0
IsFileWord form w = In w (file_words form)

-- the contents of the files of these words are told, up to the first that is too long, and these are they
abbrev pub AreTold : Limits → (ℕ → Option (List ℕ)) → (ℕ → List ℕ) → List ℕ → Type 0
AreTold limits content file [] = Unit {0}
AreTold limits content file (w ∷ words) = (content w ≡ Some (file w)) × (is_too_long limits (file w) ≡ false → AreTold limits content file words)

-- the same for the files of a form
abbrev pub AreFiles : Limits → Option Form → (ℕ → Option (List ℕ)) → (ℕ → List ℕ) → Type 0
AreFiles limits form content file = AreTold limits content file (file_words form)

-- the files of a form are a case
abbrev pub AreCase : Limits → Option Form → (ℕ → List ℕ) → Type 0
AreCase limits None file = ⊥
AreCase limits (Some form) file = (t : Tables) × (case_in_files limits form file ≡ Ok t)

-- reading the file of one of these words failed: its count of faults rose, all others are as they were, and each file before it fits,
-- where its content is told
pub record ReadFailed (limits : Limits) (words : List ℕ) (content : ℕ → Option (List ℕ)) (before now : ℕ → ℕ) : Type 0 where
  pub word : ℕ
  pub before_it : List ℕ
  pub behind_it : List ℕ
  pub named : words ≡ before_it ++ (word ∷ behind_it)
  pub rose : Rose (before word) (now word)
  pub others : (w : ℕ) → w ≢ word → now w ≡ before w
  pub fits : (w : ℕ) → In w before_it → (bytes : List ℕ) → content w ≡ Some bytes → is_too_long limits bytes ≡ false
