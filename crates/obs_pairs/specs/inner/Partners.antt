-- Partners of a graph and the first of a class, as relations.
use Rattle.std.specs.Prelude.{◌≡◌, ◌≢◌, ◌⊎◌, ℕ, ◌<◌, ◌≤◌, Bool, Option, List}
use Rattle.obs_graph.specs.declared.Ends.{Ends}
use Rattle.obs_matroid.specs.Lists.{In, without}
use Rattle.obs_matroid.specs.Partners.{is_partner}
use Rattle.obs_meter.specs.declared.Touch.{Touch}
use Rattle.obs_meter.specs.Assignments.{IsRhoAt}
use Rattle.obs_meter.specs.Spanned.{graph_matroid}
use Rattle.obs_meter.specs.Touches.{live_items, touch_at}
use Rattle.obs_exchange.specs.Critical.{IsCriticalAt}

-- two different items of a list are partners in it: neither is critical there, and without both the greatest length of
-- an assignment falls
pub record ArePartnersAt (ends : List (Option Ends)) (touches : List Touch) (M : List ℕ) (m k : ℕ) : Type 0 where
  pub one : In m M
  pub other : In k M
  pub different : m ≢ k
  pub one_noncritical : IsCriticalAt ends touches M m → ⊥
  pub other_noncritical : IsCriticalAt ends touches M k → ⊥
  pub falls : (r s : ℕ) → IsRhoAt ends touches M r → IsRhoAt ends touches (without k (without m M)) s → s < r

-- k is the first of the class of an item: this item or a partner of it, and not above it nor above any partner of it
pub record IsFirstOfClass (ends : List (Option Ends)) (touches : List Touch) (M : List ℕ) (m k : ℕ) : Type 0 where
  pub of_class : (k ≡ m) ⊎ ArePartnersAt ends touches M m k
  pub not_above : k ≤ m
  pub first : (x : ℕ) → ArePartnersAt ends touches M m x → k ≤ x

-- whether two meters are partners among the live meters, computed; the graph has n vertices
abbrev pub partner_at : ℕ → List (Option Ends) → List Touch → ℕ → ℕ → Bool
partner_at n ends touches = is_partner (graph_matroid n ends) (touch_at ends touches) (live_items ends touches)
