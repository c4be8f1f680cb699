-- The claims that a certificate's bytes are, or the first fault.
use Rattle.std.specs.Prelude.{ℕ, ◌+◌, List, [], ◌∷◌, Result, Ok, Err, if◌then◌else◌}
use Rattle.obs_text.specs.Lines.{lines_of}
use Rattle.obs_cert.specs.declared.fault.CertCode.{CertCode}
use Rattle.obs_cert.specs.declared.fault.CertCode.TheVariants.{NoEnd}
use Rattle.obs_cert.specs.declared.fault.CertFault.{CertFault}
use Rattle.obs_cert.specs.declared.place.Place.{Place}
use Rattle.obs_cert.specs.declared.place.Place.TheVariants.{Start}
use Rattle.obs_cert.specs.Claims.{Claim, Item, Layer, Pair, tree, bound, cost, shortfall}
use Rattle.obs_cert.specs.Places.{is_over, step}
use Rattle.obs_cert.specs.Words.{Line, tree_line, bound_line, cost_line, shortfall_line, pair_line, chosen_line, layer_line, inside_line, end_line}

-- a line before those that are read after it
abbrev pub onto_lines : Line → Result (List Line) CertFault → Result (List Line) CertFault
onto_lines line (Ok lines) = Ok (line ∷ lines)
onto_lines line (Err fault) = Err fault

-- a line with those that are read after it, or its fault
abbrev pub then_read : ℕ → Result (Line × Place) CertCode → (Place → Result (List Line) CertFault) → Result (List Line) CertFault
then_read at (Ok next) rest = onto_lines next.0 (rest next.1)
then_read at (Err code) rest = Err (record { line = at; code = code })

-- the lines from a place on, of which the first has this number, or the first fault
abbrev pub read_from : Place → ℕ → List (List ℕ) → Result (List Line) CertFault
read_from place at [] = if is_over place then Ok [] else Err (record { line = 0; code = NoEnd })
read_from place at (bytes ∷ rest) = then_read at (step place bytes) (λ next. read_from next (at + 1) rest)

-- what lines are: the claims that start in them, and what stands before the first of these
pub record ClaimParts : Type 0 where
  pub chosen : List (List ℕ)
  pub pairs : List Pair
  pub inside : List Item
  pub layers : List Layer
  pub claims : List Claim

-- nothing but claims
abbrev pub only_claims : List Claim → ClaimParts
only_claims claims = record { chosen = []; pairs = []; inside = []; layers = []; claims = claims }

-- one line before other lines: a line that starts a claim takes what stands before the next one, a layer line the inside lines
abbrev pub onto_parts : Line → ClaimParts → ClaimParts
onto_parts (tree_line component) parts = only_claims (tree (record { component = component; pairs = parts.pairs }) ∷ parts.claims)
onto_parts (bound_line component rank outside) parts =
    only_claims (bound (record { component = component; rank = rank; outside = outside; inside = parts.inside }) ∷ parts.claims)
onto_parts (cost_line number) parts =
    only_claims (cost (record { number = number; chosen = parts.chosen; pairs = parts.pairs; layers = parts.layers }) ∷ parts.claims)
onto_parts (shortfall_line rank outside) parts =
    only_claims (shortfall (record { rank = rank; outside = outside; inside = parts.inside }) ∷ parts.claims)
onto_parts (pair_line pair) parts = record parts { pairs = pair ∷ parts.pairs }
onto_parts (chosen_line candidate) parts = record parts { chosen = candidate ∷ parts.chosen }
onto_parts (layer_line from to rank outside) parts =
    record parts { inside = []; layers = (record { from = from; to = to; rank = rank; outside = outside; inside = parts.inside }) ∷ parts.layers }
onto_parts (inside_line item) parts = record parts { inside = item ∷ parts.inside }
onto_parts end_line parts = parts

abbrev pub parts_of : List Line → ClaimParts
parts_of [] = only_claims []
parts_of (line ∷ lines) = onto_parts line (parts_of lines)

-- the claims that lines are, where these are lines
abbrev pub claims_in : Result (List Line) CertFault → Result (List Claim) CertFault
claims_in (Ok lines) = Ok (parts_of lines).claims
claims_in (Err fault) = Err fault

-- the claims that bytes are, or the first fault
abbrev pub claims_of : List ℕ → Result (List Claim) CertFault
claims_of bytes = claims_in (read_from Start 1 (lines_of bytes))
