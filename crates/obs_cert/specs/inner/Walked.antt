-- What is left of a claim's lines, as the program walks them.
use Rattle.std.specs.Prelude.{ℕ, Bool, true, false, List, [], ◌∷◌, ◌++◌, Option, None, Some}
use Rattle.obs_text.specs.Lines.{lines_of}
use Rattle.obs_cert.specs.declared.walk.Sort.{Sort}
use Rattle.obs_cert.specs.declared.walk.Sort.TheVariants.{Inside, EachInside, AllInside, Paired, Chosen}
use Rattle.obs_cert.specs.declared.walk.ClaimLines.{ClaimLines}
use Rattle.obs_cert.specs.declared.walk.ClaimLines.TheVariants.{Tree, Bound, Cost, Shortfall}
use Rattle.obs_cert.specs.Claims.{Claim, CostClaim, Item, Layer, Pair, candidate, tree, bound, cost, shortfall}
use Rattle.obs_cert.specs.Flaws.{all_inside}
use Rattle.obs_cert.specs.Numbered.{candidate_items, paired_items}
use Rattle.obs_cert.specs.Read.{ClaimParts, parts_of}
use Rattle.obs_cert.specs.Words.{Line, tree_line, bound_line, cost_line, shortfall_line, pair_line, chosen_line, layer_line, inside_line, end_line, claim_line}

-- the lines that some bytes are, up to the first that has no form
abbrev pub said_line : Option Line → List Line → List Line
said_line None lines = []
said_line (Some line) lines = line ∷ lines

abbrev pub said_lines : List (List ℕ) → List Line
said_lines [] = []
said_lines (bytes ∷ rest) = said_line (claim_line bytes) (said_lines rest)

abbrev pub lines_in : List ℕ → List Line
lines_in bytes = said_lines (lines_of bytes)

-- what these lines are
abbrev pub parts_in : List ℕ → ClaimParts
parts_in bytes = parts_of (lines_in bytes)

-- the items of a sort: those that one list has, those of all lists behind the first layer's line, those of this layer and all lists behind it, those of the pairs, and the chosen candidates
abbrev pub items_of_sort : Sort → ClaimParts → List Item
items_of_sort Inside parts = parts.inside
items_of_sort EachInside parts = all_inside parts.layers
items_of_sort AllInside parts = parts.inside ++ all_inside parts.layers
items_of_sort Paired parts = paired_items parts.pairs
items_of_sort Chosen parts = candidate_items parts.chosen

-- the item that a line lists, pairs or chooses
abbrev pub inside_on : Line → Option Item
inside_on (tree_line component) = None
inside_on (bound_line component rank outside) = None
inside_on (cost_line number) = None
inside_on (shortfall_line rank outside) = None
inside_on (pair_line pair) = None
inside_on (chosen_line name) = None
inside_on (layer_line from to rank outside) = None
inside_on (inside_line item) = Some item
inside_on end_line = None

abbrev pub paired_on : Line → Option Item
paired_on (tree_line component) = None
paired_on (bound_line component rank outside) = None
paired_on (cost_line number) = None
paired_on (shortfall_line rank outside) = None
paired_on (pair_line pair) = Some pair.item
paired_on (chosen_line name) = None
paired_on (layer_line from to rank outside) = None
paired_on (inside_line item) = None
paired_on end_line = None

abbrev pub chosen_on : Line → Option Item
chosen_on (tree_line component) = None
chosen_on (bound_line component rank outside) = None
chosen_on (cost_line number) = None
chosen_on (shortfall_line rank outside) = None
chosen_on (pair_line pair) = None
chosen_on (chosen_line name) = Some (candidate name)
chosen_on (layer_line from to rank outside) = None
chosen_on (inside_line item) = None
chosen_on end_line = None

-- the item of a sort that a line has
abbrev pub item_on : Sort → Line → Option Item
item_on Inside line = inside_on line
item_on EachInside line = None
item_on AllInside line = inside_on line
item_on Paired line = paired_on line
item_on Chosen line = chosen_on line

-- the pair that a line has
abbrev pub pair_on : Line → Option Pair
pair_on (tree_line component) = None
pair_on (bound_line component rank outside) = None
pair_on (cost_line number) = None
pair_on (shortfall_line rank outside) = None
pair_on (pair_line pair) = Some pair
pair_on (chosen_line name) = None
pair_on (layer_line from to rank outside) = None
pair_on (inside_line item) = None
pair_on end_line = None

-- the cost claim of this number that has these parts
abbrev pub cost_of : ℕ → ClaimParts → CostClaim
cost_of number parts = record { number = number; chosen = parts.chosen; pairs = parts.pairs; layers = parts.layers }

-- the claim that a line starts, where these parts come after it
abbrev pub claim_on : Line → ClaimParts → Option Claim
claim_on (tree_line component) parts = Some (tree (record { component = component; pairs = parts.pairs }))
claim_on (bound_line component rank outside) parts = Some (bound (record { component = component; rank = rank; outside = outside; inside = parts.inside }))
claim_on (cost_line number) parts = Some (cost (cost_of number parts))
claim_on (shortfall_line rank outside) parts = Some (shortfall (record { rank = rank; outside = outside; inside = parts.inside }))
claim_on (pair_line pair) parts = None
claim_on (chosen_line name) parts = None
claim_on (layer_line from to rank outside) parts = None
claim_on (inside_line item) parts = None
claim_on end_line parts = None

-- the layer that a line starts, where these parts come after it
abbrev pub layer_on : Line → ClaimParts → Option Layer
layer_on (tree_line component) parts = None
layer_on (bound_line component rank outside) parts = None
layer_on (cost_line number) parts = None
layer_on (shortfall_line rank outside) parts = None
layer_on (pair_line pair) parts = None
layer_on (chosen_line name) parts = None
layer_on (layer_line from to rank outside) parts = Some (record { from = from; to = to; rank = rank; outside = outside; inside = parts.inside })
layer_on (inside_line item) parts = None
layer_on end_line parts = None

-- whether a line starts a layer
abbrev pub is_layer : Line → Bool
is_layer (tree_line component) = false
is_layer (bound_line component rank outside) = false
is_layer (cost_line number) = false
is_layer (shortfall_line rank outside) = false
is_layer (pair_line pair) = false
is_layer (chosen_line name) = false
is_layer (layer_line from to rank outside) = true
is_layer (inside_line item) = false
is_layer end_line = false

-- the sort of the items behind a line that has none, if there may be any: a list ends at the next layer, and lists begin there
abbrev pub sort_after : Sort → Bool → Option Sort
sort_after Inside true = None
sort_after Inside false = Some Inside
sort_after EachInside true = Some AllInside
sort_after EachInside false = Some EachInside
sort_after AllInside true = Some AllInside
sort_after AllInside false = Some AllInside
sort_after Paired true = Some Paired
sort_after Paired false = Some Paired
sort_after Chosen true = Some Chosen
sort_after Chosen false = Some Chosen

-- the claim that lines are
abbrev pub claim_said : ClaimLines → Claim
claim_said (Tree component rest) = tree (record { component = component.now; pairs = (parts_in rest.now).pairs })
claim_said (Bound component rank outside rest) =
    bound (record { component = component.now; rank = rank; outside = outside; inside = (parts_in rest.now).inside })
claim_said (Cost number rest) =
    cost (cost_of number (parts_in rest.now))
claim_said (Shortfall rank outside rest) = shortfall (record { rank = rank; outside = outside; inside = (parts_in rest.now).inside })
