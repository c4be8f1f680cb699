-- Closed sets of meters. `ends` has the branches of a graph by position, `touches` what each meter touches, and a set of
-- meters is a test.
use Rattle.std.specs.Prelude.{◌≡◌, ℕ, ◌||◌, Bool, true, Option, None, List}
use Rattle.obs_graph.specs.declared.Ends.{Ends}
use Rattle.obs_matroid.specs.Lists.{In}
use Rattle.obs_matroid.specs.Assignments.{branches}
use Rattle.obs_matroid.specs.inner.Assignments.{part}
use Rattle.obs_meter.specs.declared.Touch.{Touch}
use Rattle.obs_meter.specs.Touches.{is_live, touch_at}
use Rattle.obs_assign.specs.Assignment.{Assignment}
use Rattle.obs_assign.specs.inner.Assignment.{branch_at, is_frozen, pairs}
use Rattle.obs_assign.specs.inner.Pins.{joins}
use Rattle.obs_exchange.specs.declared.Sources.{Sources}
use Rattle.obs_exchange.specs.declared.Sources.TheVariants.{All, One}

-- the meter is a live source: it touches a branch, has no pair, and is the one that is asked for, where one is
abbrev pub IsSource : List (Option Ends) → List Touch → Sources → Assignment → ℕ → Type 0
IsSource ends touches All a m = (is_live ends touches m ≡ true) × (branch_at a m ≡ None)
IsSource ends touches (One s) a m = (m ≡ s) × (is_live ends touches m ≡ true) × (branch_at a m ≡ None)

-- the branches of the set's own pairs and the frozen ones
abbrev pub own_branches : Assignment → (ℕ → Bool) → List ℕ
own_branches a S = branches (part (λ m. S m || is_frozen a m) (pairs a))

-- a set of live meters is closed: the ends of each branch that it touches are joined by the branches of its own pairs and
-- the frozen ones
pub record IsClosedAt (ends : List (Option Ends)) (touches : List Touch) (a : Assignment) (S : ℕ → Bool) : Type 0 where
  pub live : (m : ℕ) → S m ≡ true → is_live ends touches m ≡ true
  pub joined : (m e : ℕ) → S m ≡ true → In e (touch_at ends touches m) → joins ends (own_branches a S) e ≡ true

-- the set holds the live sources
abbrev pub HoldsSourcesAt : List (Option Ends) → List Touch → Sources → Assignment → (ℕ → Bool) → Type 0
HoldsSourcesAt ends touches from a S = (m : ℕ) → IsSource ends touches from a m → S m ≡ true

-- the set is closed and holds the live sources, and every set with these two properties holds it
pub record IsLeastClosedAt (ends : List (Option Ends)) (touches : List Touch) (from : Sources) (a : Assignment) (S : ℕ → Bool) : Type 0 where
  pub closed : IsClosedAt ends touches a S
  pub holds : HoldsSourcesAt ends touches from a S
  pub least : (T : ℕ → Bool) → IsClosedAt ends touches a T → HoldsSourcesAt ends touches from a T → (m : ℕ) → S m ≡ true → T m ≡ true
