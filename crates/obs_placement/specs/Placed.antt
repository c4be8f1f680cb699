-- What a placement is: the plan where all that is offered reaches the needed number, and else the shortfall.
use Rattle.std.specs.Prelude.{ℕ, not, if◌then◌else◌, nat_lt, Option, List, length, filter, flat_map}
use Rattle.obs_graph.specs.declared.Ends.{Ends}
use Rattle.obs_meter.specs.declared.Touch.{Touch}
use Rattle.obs_meter.specs.Assignments.{rho_at}
use Rattle.obs_meter.specs.Spanned.{rank_at}
use Rattle.obs_meter.specs.Touches.{live_items, touch_at}
use Rattle.obs_meter.specs.Costs.{price_of}
use Rattle.obs_exchange.specs.Laws.{noncritical_in}
use Rattle.obs_placement.specs.declared.plans.Layer.{Layer}
use Rattle.obs_placement.specs.Answer.{chosen_of, cost_of}
use Rattle.obs_placement.specs.Layers.{inside_of, layers_of, prices_above}

-- the chosen positions, what they cost, the layers, and what these list
pub record PlanValue : Type 0 where
  pub chosen : List ℕ
  pub cost : ℕ
  pub layers : List Layer
  pub inside : List ℕ

-- the items that the bound lists, the rank of what they touch, the number of the other live items, and the needed number
pub record ShortfallValue : Type 0 where
  pub inside : List ℕ
  pub rank : ℕ
  pub outside : ℕ
  pub needed : ℕ

-- a plan, or what shows a shortfall
pub data Placed : Type 0 where
  cheapest : PlanValue → Placed
  shortfall : ShortfallValue → Placed

-- the plan; the graph has n vertices
abbrev pub plan_of : ℕ → List (Option Ends) → List Touch → ℕ → List ℕ → PlanValue
plan_of n ends touches meters prices = record {
  chosen = chosen_of n ends touches meters prices;
  cost = cost_of prices (chosen_of n ends touches meters prices);
  layers = layers_of n ends touches (price_of meters prices) 0 0 (prices_above prices (chosen_of n ends touches meters prices) 0);
  inside = inside_of n ends touches (price_of meters prices) 0 (prices_above prices (chosen_of n ends touches meters prices) 0);
}

-- the live items that aren't critical in all live items
abbrev pub redundant_items : ℕ → List (Option Ends) → List Touch → List ℕ
redundant_items n ends touches = filter (noncritical_in n ends touches (live_items ends touches)) (live_items ends touches)

-- the bound of these over all live items
abbrev pub shortfall_of : ℕ → List (Option Ends) → List Touch → ℕ → ShortfallValue
shortfall_of n ends touches needed = record {
  inside = redundant_items n ends touches;
  rank = rank_at n ends (flat_map (touch_at ends touches) (redundant_items n ends touches));
  outside = length (filter (λ m. not (noncritical_in n ends touches (live_items ends touches) m)) (live_items ends touches));
  needed = needed;
}

-- the shortfall exactly where the greatest length of all that is offered is below the needed number, and else the plan
abbrev pub placement_of : ℕ → List (Option Ends) → List Touch → ℕ → List ℕ → ℕ → Placed
placement_of n ends touches meters prices needed =
    if nat_lt (rho_at n ends touches (live_items ends touches)) needed then shortfall (shortfall_of n ends touches needed)
    else cheapest (plan_of n ends touches meters prices)
