-- What a placement is of: items over a graph, of which so many are meters and the others candidates with prices.
use Rattle.std.specs.Prelude.{◌≡◌, ℕ, ◌+◌, ◌≤◌, ◌<◌, ◌^◌, Bool, List, All, length}
use Rattle.obs_graph.specs.Positions.{AreBranches}
use Rattle.obs_meter.specs.inner.Sizes.{HasRoomFor, Sizes}
use Rattle.obs_meter.specs.inner.Touches.{AreInRange}
use Rattle.obs_meter.specs.Costs.{price_of}
use Rattle.obs_placement.specs.declared.offer.Offer.{Offer}
use Rattle.obs_placement.specs.Answer.{chosen_of, earlier_items, is_chosen}
use Rattle.obs_placement.specs.inner.Limits.{most_candidates, most_price}
use Rattle.obs_placement.specs.inner.Taking.{AreKnown}

-- the items are the meters and then the candidates, and in range of the graph; the candidates are few and cheap
pub record IsOffer (o : Offer) : Type 0 where
  pub branches : AreBranches o.graph.now.vertices o.graph.now.ends
  pub in_range : AreInRange o.graph.now o.items.now.touches
  pub items : length o.items.now.touches ≡ o.meters + length o.prices.now
  pub small : length o.items.now.touches < 2 ^ 32
  pub few : length o.prices.now ≤ most_candidates
  pub cheap : All (λ p. p ≤ most_price) o.prices.now

-- what was made for these sizes has room for it
abbrev pub HasRoomForOffer : Sizes → Offer → Type 0
HasRoomForOffer s o = HasRoomFor s o.graph.now o.items.now.touches

-- the price of an item
abbrev pub price_in : Offer → ℕ → ℕ
price_in o = price_of o.meters o.prices.now

-- the live items that are taken before c
abbrev pub earlier_in : Offer → ℕ → List ℕ
earlier_in o = earlier_items o.graph.now.ends o.items.now.touches (price_in o)

-- whether an item is chosen
abbrev pub is_chosen_in : Offer → ℕ → Bool
is_chosen_in o = is_chosen o.graph.now.vertices o.graph.now.ends o.items.now.touches (price_in o)

-- the positions of the chosen candidates
abbrev pub chosen_in : Offer → List ℕ
chosen_in o = chosen_of o.graph.now.vertices o.graph.now.ends o.items.now.touches o.meters o.prices.now

-- for each item it is known from which price on it isn't critical
pub record AreAllKnown (o : Offer) (since : List ℕ) : Type 0 where
  pub count : length since ≡ length o.items.now.touches
  pub known : AreKnown o.graph.now o.items.now.touches (price_in o) since
