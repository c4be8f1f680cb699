-- What one line of a certificate does to the place that is reached.
use Rattle.std.specs.Prelude.{◌≡◌, ℕ, Bool, true, false, List, Ok}
use Rattle.obs_cert.specs.declared.place.Place.{Place}
use Rattle.obs_cert.specs.Words.{Line, tree_line, bound_line, cost_line, shortfall_line, pair_line, chosen_line, layer_line, inside_line, end_line}
use Rattle.obs_cert.specs.Places.{step}

-- whether a line starts a claim
abbrev pub is_start : Line → Bool
is_start (tree_line component) = true
is_start (bound_line component rank outside) = true
is_start (cost_line number) = true
is_start (shortfall_line rank outside) = true
is_start (pair_line pair) = false
is_start (chosen_line candidate) = false
is_start (layer_line from to rank outside) = false
is_start (inside_line item) = false
is_start end_line = false

-- bytes are a line at a place, which starts a claim or doesn't, with this place after it
abbrev pub Steps : Place → List ℕ → Bool → Place → Type 0
Steps place bytes starts next = (line : Line) × (step place bytes ≡ Ok (line, next)) × (starts ≡ is_start line)
