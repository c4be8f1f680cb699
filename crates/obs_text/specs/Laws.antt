-- Statements of laws.
use Rattle.std.specs.Prelude.{ℕ, not, IsTrue, List}
use Rattle.std.specs.List.{list_all}
use Rattle.obs_text.specs.Lines.{is_feed}

-- no byte of these is a line feed
abbrev pub HasNoFeed : List ℕ → Type 0
HasNoFeed line = IsTrue (list_all (λ byte. not (is_feed byte)) line)
