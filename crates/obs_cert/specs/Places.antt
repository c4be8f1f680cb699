-- Where a line may stand, and what is wrong with one that may not.
use Rattle.std.specs.Prelude.{ℕ, Bool, true, false, List, Option, None, Some, Result, Ok, Err, if◌then◌else◌}
use Rattle.obs_cert.specs.declared.fault.CertCode.{CertCode}
use Rattle.obs_cert.specs.declared.fault.CertCode.TheVariants.{BadLine, OutOfPlace, AfterEnd}
use Rattle.obs_cert.specs.declared.place.Place.{Place}
use Rattle.obs_cert.specs.declared.place.Place.TheVariants.{Start, Tree, Bound, Cost, Pairs, Layer, Shortfall, End}
use Rattle.obs_cert.specs.Words.{Line, tree_line, bound_line, cost_line, shortfall_line, pair_line, chosen_line, layer_line, inside_line, end_line, claim_line}

-- the place after a pair line: it stands after a tree line, a cost line, a chosen line or a pair line
abbrev pub pair_after : Place → Option Place
pair_after Start = None
pair_after Tree = Some Tree
pair_after Bound = None
pair_after Cost = Some Pairs
pair_after Pairs = Some Pairs
pair_after Layer = None
pair_after Shortfall = None
pair_after End = None

-- the place after a chosen line: it stands after a cost line or a chosen line
abbrev pub chosen_after : Place → Option Place
chosen_after Start = None
chosen_after Tree = None
chosen_after Bound = None
chosen_after Cost = Some Cost
chosen_after Pairs = None
chosen_after Layer = None
chosen_after Shortfall = None
chosen_after End = None

-- the place after a layer line: it stands after a cost line, a chosen line, a pair line of a cost claim, a layer line or an inside line of a layer
abbrev pub layer_after : Place → Option Place
layer_after Start = None
layer_after Tree = None
layer_after Bound = None
layer_after Cost = Some Layer
layer_after Pairs = Some Layer
layer_after Layer = Some Layer
layer_after Shortfall = None
layer_after End = None

-- the place after an inside line: it stands after a bound line, a shortfall line, a layer line or an inside line
abbrev pub inside_after : Place → Option Place
inside_after Start = None
inside_after Tree = None
inside_after Bound = Some Bound
inside_after Cost = None
inside_after Pairs = None
inside_after Layer = Some Layer
inside_after Shortfall = Some Shortfall
inside_after End = None

-- the place after a line, where it may stand at this one; the others may stand anywhere
abbrev pub place_after : Place → Line → Option Place
place_after place (tree_line component) = Some Tree
place_after place (bound_line component rank outside) = Some Bound
place_after place (cost_line number) = Some Cost
place_after place (shortfall_line rank outside) = Some Shortfall
place_after place (pair_line pair) = pair_after place
place_after place (chosen_line candidate) = chosen_after place
place_after place (layer_line from to rank outside) = layer_after place
place_after place (inside_line item) = inside_after place
place_after place end_line = Some End

-- whether the line end stands before a place
abbrev pub is_over : Place → Bool
is_over Start = false
is_over Tree = false
is_over Bound = false
is_over Cost = false
is_over Pairs = false
is_over Layer = false
is_over Shortfall = false
is_over End = true

-- a line with the place after it, where it has one
abbrev pub in_place : Line → Option Place → Result (Line × Place) CertCode
in_place line None = Err OutOfPlace
in_place line (Some next) = Ok (line, next)

-- a line of one of the forms at a place
abbrev pub formed : Place → Option Line → Result (Line × Place) CertCode
formed place None = Err BadLine
formed place (Some line) = in_place line (place_after place line)

-- the line that bytes are at a place, with the place after it, or what is wrong with it
abbrev pub step : Place → List ℕ → Result (Line × Place) CertCode
step place bytes = if is_over place then Err AfterEnd else formed place (claim_line bytes)
