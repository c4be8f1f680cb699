-- Statements of laws.
use Rattle.std.specs.Prelude.{◌≡◌, ◌≢◌, ◌<◌, ◌≤◌, ℕ, false, not, IsTrue, IfSome, List, [], ◌∷◌, ◌++◌, length, Ok, Err, Some}
use Rattle.std.specs.List.{list_all}
use Rattle.obs_text.specs.Lines.{is_feed, lines_of}
use Rattle.obs_text.specs.Names.{is_name}
use Rattle.obs_script.specs.declared.command.Ask.{Ask}
use Rattle.obs_script.specs.declared.fault.LineFault.TheVariants.{BadName, LineTooLong, UnknownCommand, WordMissing}
use Rattle.obs_script.specs.Commands.{Said, command_of, command_word, most_bytes}
use Rattle.obs_script.specs.inner.Commands.{ask_word, edited_name, text_of, word_of}
use Rattle.obs_script.specs.Gathered.{content_of}
use Rattle.obs_script.specs.inner.Gathered.{Holds, is_passed, line_of}

-- what is kept of a line says all that is answered of it
abbrev pub HeldIsEnough : Type 0
HeldIsEnough = (held line : List ℕ) → Holds held line → (line_of held ≡ line_of line) × (is_passed held ≡ is_passed line)

-- bytes up to a line feed are a line, and so are the last bytes, where there are some
abbrev pub LinesAreGathered : Type 0
LinesAreGathered =
    (line rest : List ℕ) → IsTrue (list_all (λ byte. not (is_feed byte)) line) →
    (lines_of (line ++ 0x0A ∷ rest) ≡ content_of line ∷ lines_of rest) × (line ≢ [] → lines_of line ≡ content_of line ∷ [])

-- a line is a command exactly where it is the text of one, of at most 256 bytes, whose name is a name; a longer line is too long, a
-- word of an edit alone misses its name, and one with what is no name has a bad one; one that is no ask's word and doesn't begin with
-- an edit's is unknown
pub record CommandsAreTexts : Type 0 where
  pub given : (said : Said) → IfSome (edited_name said) (λ name. IsTrue (is_name name)) → length (text_of said) ≤ most_bytes → command_of (text_of said) ≡ Ok said
  pub only : (line : List ℕ) (said : Said) → command_of line ≡ Ok said
      → (line ≡ text_of said) × IfSome (edited_name said) (λ name. IsTrue (is_name name)) × (length line ≤ most_bytes)
  pub too_long : (line : List ℕ) → most_bytes < length line → command_of line ≡ Err LineTooLong
  pub missing : (said : Said) (name : List ℕ) → edited_name said ≡ Some name → command_of (word_of said) ≡ Err WordMissing
  pub bad : (said : Said) (name : List ℕ) → edited_name said ≡ Some name → is_name name ≡ false → length (text_of said) ≤ most_bytes
      → command_of (text_of said) ≡ Err BadName
  pub unknown : (line : List ℕ) → length line ≤ most_bytes → ((ask : Ask) → line ≡ ask_word ask → ⊥)
      → ((said : Said) (name : List ℕ) → edited_name said ≡ Some name → command_word line ≡ word_of said → ⊥) → command_of line ≡ Err UnknownCommand
