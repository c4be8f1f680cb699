-- What the program's words and lines say.
use Rattle.obs_cert.specs.declared.line.Item as item
use Rattle.obs_cert.specs.declared.line.Item.TheVariants.{Meter, Candidate}
use Rattle.obs_cert.specs.declared.line.Line as line
use Rattle.obs_cert.specs.declared.line.Line.TheVariants.{Tree, Bound, Cost, Shortfall, Pair, Chosen, Layer, Inside, End}
use Rattle.obs_cert.specs.Claims.{Item, meter, candidate}
use Rattle.obs_cert.specs.Words.{Line, tree_line, bound_line, cost_line, shortfall_line, pair_line, chosen_line, layer_line, inside_line, end_line}

-- the item that is named
abbrev pub item_said : item.Item → Item
item_said (Meter name) = meter name.now
item_said (Candidate name) = candidate name.now

-- the line that is read
abbrev pub line_said : line.Line → Line
line_said (Tree component) = tree_line component.now
line_said (Bound component rank outside) = bound_line component.now rank outside
line_said (Cost number) = cost_line number
line_said (Shortfall rank outside) = shortfall_line rank outside
line_said (Pair item branch) = pair_line (record { item = item_said item; branch = branch.now })
line_said (Chosen name) = chosen_line name.now
line_said (Layer from to rank outside) = layer_line from to rank outside
line_said (Inside item) = inside_line (item_said item)
line_said End = end_line
