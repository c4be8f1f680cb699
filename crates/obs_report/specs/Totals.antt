-- Lines of whole commands: what a certificate comes to, and what a generated case does.
use Rattle.std.specs.Prelude.{ℕ, List, [], ◌∷◌, ◌++◌, codes, decimal}
use Rattle.obs_report.specs.Lines.{last_line, line_of}

-- the line of a word and a number
abbrev pub total_line : List ℕ → ℕ → List ℕ
total_line what n = line_of (what ∷ decimal n ∷ [])

-- the line on a certificate whose claims hold: how many they are
abbrev pub valid_line : ℕ → List ℕ
valid_line claims = total_line (codes "valid") claims

-- the line on the first claim that fails: its number, and the flaw's code and name
abbrev pub flaw_line : ℕ → ℕ → List ℕ → List ℕ
flaw_line claim code name = line_of (codes "flaw" ∷ decimal claim ∷ decimal code ∷ name ∷ [])

-- the line of a generated case: its number of rows and its seed
abbrev pub trial_line : ℕ → ℕ → List ℕ
trial_line rows seed = line_of (codes "trial" ∷ decimal rows ∷ decimal seed ∷ [])

-- the islands of a case, and what losing and regaining its meters came to
abbrev pub totals_text : ℕ → ℕ → ℕ → ℕ → List ℕ
totals_text islands dips edits searches =
    total_line (codes "islands") islands
    ++ (total_line (codes "dips") dips
    ++ (total_line (codes "edits") edits
    ++ (total_line (codes "searches") searches
    ++ last_line)))
