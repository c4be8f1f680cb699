-- What is kept when the list that was lent is given back.
use Rattle.std.specs.Prelude.{⊤}
use Rattle.std.specs.Borrow.{Fml, MutBor, follows_so}
use mathlib.Core.Option.{none}
use Rattle.obs_outage.specs.inner.Outages.{Outages}
use Rattle.obs_outage.specs.contracts.outages.Outages.{the_row}

-- what is lent to be read is given back as a value of which this holds
abbrev pub OutagesGivenBack : MutBor Outages → (Outages → Type 0) → Fml
OutagesGivenBack o P = follows_so the_row the_row o.ghost_name none (λ _ _. ⊤) P
