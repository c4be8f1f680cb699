-- The parts of which a line is put together.
use Rattle.std.specs.Prelude.{ℕ, Bool, List, [], ◌∷◌, decimal, if◌then◌else◌}
use Rattle.obs_report.specs.Lines.{tab, line_feed}

-- a word of a line, with a tab before it where it isn't the first
abbrev pub word_text : Bool → List ℕ → List ℕ
word_text first word = if first then word else tab ∷ word

-- a number of a line
abbrev pub number_text : ℕ → List ℕ
number_text n = tab ∷ decimal n

-- the end of a line
abbrev pub end_text : List ℕ
end_text = line_feed ∷ []
