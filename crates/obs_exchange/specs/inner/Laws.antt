-- What the laws of the search are said of: assignments with a least closed set, and branches of several kinds.
use Rattle.std.specs.Prelude.{◌≡◌, ◌↔◌, ℕ, ◌==◌, Bool, true, false, Option, List, filter}
use Rattle.obs_graph.specs.declared.Ends.{Ends}
use Rattle.obs_graph.specs.Positions.{AreBranches}
use Rattle.obs_graph.specs.Graph.{Graph}
use Rattle.obs_matroid.specs.Lists.{In}
use Rattle.obs_meter.specs.declared.Touch.{Touch}
use Rattle.obs_meter.specs.Touches.{touch_at}
use Rattle.obs_assign.specs.Assignment.{Assignment}
use Rattle.obs_assign.specs.inner.Assignment.{IsWhole, StandsOver, is_frozen}
use Rattle.obs_assign.specs.inner.Pins.{joins}
use Rattle.obs_exchange.specs.declared.Sources.TheVariants.{All}
use Rattle.obs_exchange.specs.inner.Closed.{IsLeastClosedAt}
use Rattle.obs_exchange.specs.Critical.{IsCriticalAt}

-- nothing is frozen
abbrev pub IsThawed : Assignment → Type 0
IsThawed a = (m : ℕ) → is_frozen a m ≡ false

-- the assignment stands over the graph and the meters, and S is its least closed set from all live sources: what a search
-- from all of them leaves that finds no pair more
pub record HasClosedSet (a : Assignment) (g : Graph) (touches : List Touch) (S : ℕ → Bool) : Type 0 where
  pub branches : AreBranches g.vertices g.ends
  pub whole : IsWhole a
  pub stands : StandsOver a g touches
  pub least : IsLeastClosedAt g.ends touches All a S

-- of the items of M the set holds just those that aren't critical in M
abbrev pub HoldsNonCritical : List (Option Ends) → List Touch → List ℕ → (ℕ → Bool) → Type 0
HoldsNonCritical ends touches M S = (m : ℕ) → In m M → (S m ≡ false) ↔ IsCriticalAt ends touches M m

-- branches of other kinds don't help to join the ends of a branch
abbrev pub JoinsWithinKinds : List (Option Ends) → (ℕ → ℕ) → Type 0
JoinsWithinKinds ends kind = (L : List ℕ) (e : ℕ) → joins ends L e ≡ true → joins ends (filter (λ x. kind x == kind e) L) e ≡ true

-- each item touches branches of its own kind alone
abbrev pub TouchesOneKind : List (Option Ends) → List Touch → (ℕ → ℕ) → (ℕ → ℕ) → Type 0
TouchesOneKind ends touches kind of = (m e : ℕ) → In e (touch_at ends touches m) → kind e ≡ of m
