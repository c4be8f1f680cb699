-- The claims that are printed of a case, with names for numbers.
use Rattle.std.specs.Prelude.{ℕ, ◌-◌, List, [], ◌∷◌, length, map, drop, take, if◌then◌else◌}
use Rattle.obs_case.specs.Tables.{Tables}
use Rattle.obs_matroid.specs.Assignments.{Pair as NumberPair}
use Rattle.obs_placement.specs.declared.plans.Layer.{Layer as PlacedLayer}
use Rattle.obs_placement.specs.Placed.{ShortfallValue, Placed, PlanValue}
use Rattle.obs_placement.specs.Placed.Placed.{cheapest, shortfall as short_of}
use Rattle.obs_cert.specs.Claims.{BoundClaim, Claim, CostClaim, Item, Layer, Pair, ShortfallClaim, TreeClaim, meter, candidate, cost, shortfall}
use Rattle.obs_network.specs.Network.{is_meter}
use Rattle.obs_report.specs.Items.{branch_word, candidate_name, meter_name}
use Rattle.obs_report.specs.Meters.{component_name}
use Rattle.obs_repair.specs.Bounds.{bound_meters, bound_outside, bound_rank}
use Rattle.obs_edit.specs.Laws.{tree_pairs}

-- an item by its name: a meter, or behind the meters a candidate
abbrev pub named_item : Tables → ℕ → Item
named_item t m = if is_meter t m then meter (meter_name t m) else candidate (candidate_name t (m - length t.meters))

abbrev pub named_items : Tables → List ℕ → List Item
named_items t list = map (named_item t) list

-- a pair by the name of its item and the word for its branch
abbrev pub named_pair : Tables → NumberPair → Pair
named_pair t p = record { item = named_item t p.0; branch = branch_word t p.0 p.1 }

-- the tree of a component: the pairs of the first assignment that lie in it
unfoldable pub component_tree : Tables → ℕ → TreeClaim
component_tree t c = record { component = component_name t c; pairs = map (named_pair t) (tree_pairs t c) }

-- the bound of a component: its live meters that aren't critical
unfoldable pub component_bound : Tables → ℕ → BoundClaim
component_bound t c = record {
  component = component_name t c;
  rank = bound_rank t c;
  outside = bound_outside t c;
  inside = named_items t (bound_meters t c);
}

-- the layers of a plan, where u items are listed before the first: each with the items that it adds
abbrev pub named_layers : Tables → List ℕ → ℕ → List PlacedLayer → List Layer
named_layers t inside u [] = []
named_layers t inside u (l ∷ ls) =
    record { from = l.from; to = l.to; rank = l.rank; outside = l.outside; inside = named_items t (take (l.upto - u) (drop u inside)) }
    ∷ named_layers t inside l.upto ls

-- a plan with its pairs
abbrev pub plan_claim : Tables → PlanValue → List NumberPair → CostClaim
plan_claim t p pairs = record {
  number = p.cost;
  chosen = map (candidate_name t) p.chosen;
  pairs = map (named_pair t) pairs;
  layers = named_layers t p.inside 0 p.layers;
}

-- a shortfall
abbrev pub lack_claim : Tables → ShortfallValue → ShortfallClaim
lack_claim t lack = record { rank = lack.rank; outside = lack.outside; inside = named_items t lack.inside }

-- a placement with its pairs
abbrev pub placement_claim : Tables → Placed → List NumberPair → Claim
placement_claim t (cheapest p) pairs = cost (plan_claim t p pairs)
placement_claim t (short_of lack) pairs = shortfall (lack_claim t lack)
