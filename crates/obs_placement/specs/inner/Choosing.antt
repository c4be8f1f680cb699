-- What a placement is worked out in.
use Rattle.std.specs.Prelude.{◌≡◌, ◌⊎◌, ℕ, ◌-◌, ◌<◌, ◌≤◌, Bool, if◌then◌else◌, List, [], length}
use Rattle.obs_matroid.specs.Lists.{In}
use Rattle.obs_matroid.specs.Assignments.{items}
use Rattle.obs_meter.specs.Assignments.{rho_at}
use Rattle.obs_meter.specs.inner.Sizes.{Sizes}
use Rattle.obs_meter.specs.Touches.{live_items}
use Rattle.obs_assign.specs.Assignment.{Assignment}
use Rattle.obs_assign.specs.inner.Assignment.{has_flag, pairs}
use Rattle.obs_placement.specs.declared.offer.Offer.{Offer}
use Rattle.obs_placement.specs.declared.placing.Lack.{Lack}
use Rattle.obs_placement.specs.declared.plans.Layer.{Layer}
use Rattle.obs_placement.specs.Answer.{cost_of}
use Rattle.obs_placement.specs.inner.Holding.{Taking}
use Rattle.obs_placement.specs.Layers.{layer_outside, layer_rank}
use Rattle.obs_placement.specs.inner.Layers.{layer_items}
use Rattle.obs_placement.specs.inner.Offer.{AreAllKnown, chosen_in, is_chosen_in, price_in}
use Rattle.obs_placement.specs.inner.Order.{IsOrder, item_at}
use Rattle.obs_placement.specs.Placed.{Placed}
use Rattle.obs_placement.specs.Placed.Placed.{cheapest, shortfall}
use Rattle.obs_placement.specs.inner.Taking.{IsStanding, since_at}

-- what a work value is seen as: the placement that was found last, the positions that were chosen then, the price from which
-- on each item isn't critical, the pairs, and the sizes that it was made for, where candidates count as meters
pub record PlaceWork : Type 0 where
  pub placed : Placed
  pub chosen : List ℕ
  pub since : List ℕ
  pub pairs : Assignment
  pub sizes : Sizes

-- a placement of nothing: a plan without a candidate
abbrev pub nothing_placed : Placed
nothing_placed = cheapest (record { chosen = []; cost = 0; layers = []; inside = [] })

-- no pair over no meter, with room for these sizes
abbrev pub no_pairs : Sizes → Assignment
no_pairs s = record {
  slots = [];
  frozen = [];
  turns = 0;
  forest = record { vertices = 0; held = []; most_vertices = s.vertices; most_branches = s.branches };
  most_meters = s.meters;
}

-- nothing is taken, with room for these sizes
abbrev pub nothing_taken : Sizes → Taking
nothing_taken s = record {
  known = record { since = []; touched = []; fronts = []; sizes = s };
  pairs = no_pairs s;
  sizes = s;
}

-- a work value as it is made
abbrev pub new_placing : Sizes → PlaceWork
new_placing s = record { placed = nothing_placed; chosen = []; since = []; pairs = no_pairs s; sizes = s }

-- only meters, and candidates at these positions, have pairs
abbrev pub HavePairsOnly : ℕ → List ℕ → Assignment → Type 0
HavePairsOnly meters positions a = (m : ℕ) → In m (items (pairs a)) → (m < meters) ⊎ In (m - meters) positions

-- the order of the items, which of them raised the greatest length, the chosen positions, what they cost, the price
-- from which on each item isn't critical, the pairs, and the sizes that there is room for
pub record Choosing : Type 0 where
  pub keys : List (ℕ × ℕ)
  pub raised : List Bool
  pub chosen : List ℕ
  pub cost : ℕ
  pub since : List ℕ
  pub pairs : Assignment
  pub sizes : Sizes

-- the same as it is made
abbrev pub new_choosing : Sizes → Choosing
new_choosing s = record { keys = []; raised = []; chosen = []; cost = 0; since = []; pairs = no_pairs s; sizes = s }

-- all that is offered is taken in its order: the chosen candidates are found, and from which price on each item isn't
-- critical; the pairs are as many as all items can have, and only meters and chosen candidates have any
pub record IsChosen (o : Offer) (c : Choosing) : Type 0 where
  pub order : IsOrder (price_in o) (length o.items.now.touches) c.keys
  pub raised_count : length c.raised ≡ length o.items.now.touches
  pub raised : (m : ℕ) → m < length o.items.now.touches → has_flag c.raised m ≡ is_chosen_in o m
  pub chosen : c.chosen ≡ chosen_in o
  pub cost : c.cost ≡ cost_of o.prices.now (chosen_in o)
  pub known : AreAllKnown o c.since
  pub longest : length (pairs c.pairs) ≡ rho_at o.graph.now.vertices o.graph.now.ends o.items.now.touches
      (live_items o.graph.now.ends o.items.now.touches)
  pub standing : IsStanding o.graph.now o.items.now.touches c.pairs
  pub only_chosen : HavePairsOnly o.meters (chosen_in o) c.pairs

-- the list of the items below the price t that aren't critical among them, and the two numbers of its bound
pub record HasMeasured (o : Offer) (t : ℕ) (inside : List ℕ) (rank outside : ℕ) : Type 0 where
  pub inside_is : inside ≡ layer_items o.graph.now.vertices o.graph.now.ends o.items.now.touches (price_in o) t
  pub rank_is : rank ≡ layer_rank o.graph.now.vertices o.graph.now.ends o.items.now.touches (price_in o) t
  pub outside_is : outside ≡ layer_outside o.graph.now.vertices o.graph.now.ends o.items.now.touches (price_in o) t

-- the layers that are laid out, the items that they list, one layer after another, the order from which these are taken, and
-- for how many of each there is room
pub record Laying : Type 0 where
  pub layers : List Layer
  pub inside : List ℕ
  pub keys : List (ℕ × ℕ)
  pub room : ℕ

-- of an order of all items, the first p places have those that aren't critical from a price below t on
pub record AreFirstBelow (since : List ℕ) (keys : List (ℕ × ℕ)) (p t : ℕ) : Type 0 where
  pub few : p ≤ length since
  pub below : (k : ℕ) → k < p → since_at since (item_at keys k) < t
  pub behind : (k : ℕ) → p ≤ k → k < length since → t ≤ since_at since (item_at keys k)

-- what was found: the shortfall, with the list that was measured, or the plan of what was chosen and laid out
abbrev pub placed_in : Lack → Choosing → List ℕ → Laying → Placed
placed_in l c inside laying =
    if l.short
    then shortfall (record { inside = inside; rank = l.rank; outside = l.outside; needed = l.needed })
    else cheapest (record { chosen = c.chosen; cost = c.cost; layers = laying.layers; inside = laying.inside })
