-- Where all that is offered falls short the items below every price are all live items; and where it doesn't, there is a plan.
use Rattle.std.proofs.Common.{◌≡◌, ℕ, ◌≤◌, ◌<◌, not, Option, List, length, refl, ap, ◌∙◌}
use Rattle.std.specs.Prelude.{filter, flat_map}
use Rattle.std.proofs.lemmas.Bool.{le-ltb, lt-ltb}
use Rattle.obs_graph.specs.declared.Ends.{Ends}
use Rattle.obs_matroid.specs.Lists.{In}
use Rattle.obs_matroid.proofs.Lists.{filter_all, filter_same}
use Rattle.obs_meter.specs.declared.Touch.{Touch}
use Rattle.obs_meter.specs.Assignments.{rho_at}
use Rattle.obs_meter.specs.Spanned.{rank_at}
use Rattle.obs_meter.specs.Touches.{live_items, touch_at}
use Rattle.obs_meter.proofs.Live.{live-from_live_items}
use Rattle.obs_meter.specs.Costs.{price_of}
use Rattle.obs_exchange.specs.Laws.{noncritical_in}
use Rattle.obs_placement.specs.Layers.{layer_outside, layer_rank}
use Rattle.obs_placement.specs.inner.Layers.{layer_items}
use Rattle.obs_placement.specs.Placed.{cheapest, plan_of, shortfall, redundant_items, placement_of}
use Rattle.obs_placement.specs.Taking.{is_below, is_listed_at, scope_of}
use Rattle.obs_placement.specs.inner.Taking.{never}

module _ (n : ℕ) (ends : List (Option Ends)) (touches : List Touch) (price : ℕ → ℕ) (cheap : (m : ℕ) → price m < never) where
  all_below : scope_of ends touches price never ≡ live_items ends touches
  all_below = filter_all (is_below price never) (live_items ends touches) (λ m i. lt-ltb (price m) never (cheap m))

  own_all : (m : ℕ) → In m (live_items ends touches) → is_listed_at n ends touches price never m ≡ noncritical_in n ends touches (live_items ends touches) m
  own_all m i = rw (live-from_live_items ends touches m i, lt-ltb (price m) never (cheap m)) (ap (λ M. noncritical_in n ends touches M m) all_below)

  lack_items : layer_items n ends touches price never ≡ redundant_items n ends touches
  lack_items = ap (filter (is_listed_at n ends touches price never)) all_below
      ∙ filter_same (is_listed_at n ends touches price never) (noncritical_in n ends touches (live_items ends touches)) (live_items ends touches) own_all

  lack_rank : layer_rank n ends touches price never ≡ rank_at n ends (flat_map (touch_at ends touches) (redundant_items n ends touches))
  lack_rank = ap (λ xs. rank_at n ends (flat_map (touch_at ends touches) xs)) lack_items

  lack_outside : layer_outside n ends touches price never ≡ length (filter (λ m. not (noncritical_in n ends touches (live_items ends touches) m)) (live_items ends touches))
  lack_outside = ap length (ap (filter (λ m. not (is_listed_at n ends touches price never m))) all_below
      ∙ filter_same (λ m. not (is_listed_at n ends touches price never m)) (λ m. not (noncritical_in n ends touches (live_items ends touches) m)) (live_items ends touches) (λ m i. ap not (own_all m i)))

module _ (n : ℕ) (ends : List (Option Ends)) (touches : List Touch) (meters : ℕ) (prices : List ℕ) (needed : ℕ) where
  pub placed_short : ((m : ℕ) → price_of meters prices m < never) → rho_at n ends touches (live_items ends touches) < needed → (inside : List ℕ) (rank outside : ℕ)
      → inside ≡ layer_items n ends touches (price_of meters prices) never → rank ≡ layer_rank n ends touches (price_of meters prices) never
      → outside ≡ layer_outside n ends touches (price_of meters prices) never
      → shortfall (record { inside = inside; rank = rank; outside = outside; needed = needed }) ≡ placement_of n ends touches meters prices needed
  placed_short cheap low inside rank outside i r o =
      let price = price_of meters prices in
      rw (lt-ltb (rho_at n ends touches (live_items ends touches)) needed low, i ∙ lack_items n ends touches price cheap, r ∙ lack_rank n ends touches price cheap, o ∙ lack_outside n ends touches price cheap)
      refl

  pub placed_cheap : needed ≤ rho_at n ends touches (live_items ends touches) → cheapest (plan_of n ends touches meters prices) ≡ placement_of n ends touches meters prices needed
  placed_cheap high = rw (le-ltb (rho_at n ends touches (live_items ends touches)) needed high) refl
