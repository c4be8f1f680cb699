-- What is kept of the items that layers list.
use Rattle.std.specs.Prelude.{◌≡◌, ℕ, ◌||◌, Bool, false, not, nat_lt, List, Option, None, Some}
use Rattle.obs_case.specs.Tables.{Tables}
use Rattle.obs_cert.specs.declared.layers.Seen.{Seen}
use Rattle.obs_cert.specs.Flaws.{not_inside}
use Rattle.obs_cert.specs.Scopes.{is_below}

-- whether a price isn't below another
abbrev pub too_dear : Option ℕ → ℕ → Bool
too_dear None to = false
too_dear (Some price) to = not (nat_lt price to)

-- it tells for each price whether a layer that ends there may not speak of one of the items
abbrev pub TellsLayers : Tables → List ℕ → Seen → Type 0
TellsLayers t list seen = (to : ℕ) → not_inside (is_below t to) list ≡ (seen.idle || too_dear seen.dearest to)
