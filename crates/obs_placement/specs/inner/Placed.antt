-- What a placement says.
use Rattle.obs_placement.specs.declared.plans.Placement.{Placement}
use Rattle.obs_placement.specs.declared.plans.Placement.TheVariants.{Cheapest, Shortfall}
use Rattle.obs_placement.specs.Placed.{Placed}
use Rattle.obs_placement.specs.Placed.Placed.{cheapest, shortfall}

-- what a placement says
abbrev pub placed_of : Placement → Placed
placed_of (Cheapest p) = cheapest (record { chosen = p.chosen.now; cost = p.cost; layers = p.layers.now; inside = p.inside.now })
placed_of (Shortfall b) = shortfall (record { inside = b.inside.now; rank = b.rank; outside = b.outside; needed = b.needed })
