-- What is kept when an answer that was lent is given back.
use Rattle.std.specs.Prelude.{⊤}
use Rattle.std.specs.Borrow.{Fml, MutBor, follows_so}
use mathlib.Core.Option.{none}
use Rattle.obs_edit.specs.Sessions.{Session}
use Rattle.obs_edit.specs.contracts.session.Session.{the_row}

-- what is lent to be read is given back as a session of which this holds
abbrev pub SessionGivenBack : MutBor Session → (Session → Type 0) → Fml
SessionGivenBack s P = follows_so the_row the_row s.ghost_name none (λ _ _. ⊤) P
