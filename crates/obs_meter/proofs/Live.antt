-- Which items there are, and which of them are live.
use Rattle.std.proofs.Common.{◌≡◌, ℕ, ◌<◌, true, Option, List, length, refl, inl, inr}
use Rattle.std.proofs.lemmas.Bool.{cases_lt}
use Rattle.std.proofs.lemmas.List.{get_or_past}
use Rattle.obs_graph.specs.declared.Ends.{Ends}
use Rattle.obs_matroid.specs.Lists.{In}
use Rattle.obs_matroid.proofs.Lists.{clash, In-filter, In-filter_from}
use Rattle.obs_matroid.proofs.Ranges.{below_in}
use Rattle.obs_meter.specs.declared.Touch.{Touch}
use Rattle.obs_meter.specs.declared.Touch.TheVariants.{Nothing}
use Rattle.obs_meter.specs.Touches.{every_item, is_live, live_items}

pub In-every : (touches : List Touch) (m : ℕ) → m < length touches → In m (every_item touches)
In-every touches m l = below_in (length touches) m l

-- a live meter is one of the meters
pub live_low : (ends : List (Option Ends)) (touches : List Touch) (m : ℕ) → is_live ends touches m ≡ true → m < length touches
live_low ends touches m t = elim (cases_lt m (length touches)) [
  | inl l ↦ l
  | inr l ↦ clash (rw (get_or_past touches m Nothing l) at t) refl
]

pub In-live : (ends : List (Option Ends)) (touches : List Touch) (m : ℕ) → is_live ends touches m ≡ true → In m (live_items ends touches)
In-live ends touches m t = In-filter (is_live ends touches) m (every_item touches) (In-every touches m (live_low ends touches m t)) t

pub live-from_live_items : (ends : List (Option Ends)) (touches : List Touch) (m : ℕ) → In m (live_items ends touches) → is_live ends touches m ≡ true
live-from_live_items ends touches m i = (In-filter_from (is_live ends touches) m (every_item touches) i).1
