-- Which meters are noted as those that may be sources.
use Rattle.std.specs.Prelude.{◌≡◌, ℕ, ◌*◌, ◌/◌, ◌<◌, ◌≤◌, ◌||◌, Bool, true, Option, List, length}
use Rattle.obs_graph.specs.declared.Ends.{Ends}
use Rattle.obs_meter.specs.declared.Touch.{Touch}
use Rattle.obs_assign.specs.Assignment.{Assignment}
use Rattle.obs_assign.specs.inner.Assignment.{has_flag}
use Rattle.obs_exchange.specs.declared.Sources.{Sources}
use Rattle.obs_exchange.specs.inner.Closed.{IsSource}
use Rattle.obs_exchange.specs.inner.Setting.{IsSourceIn, Setting}

-- all meters are noted, or those whose flag is set
pub record Noted : Type 0 where
  pub all : Bool
  pub flags : List Bool

abbrev pub is_noted : Noted → ℕ → Bool
is_noted n m = n.all || has_flag n.flags m

-- each live source is noted
abbrev pub AreNoted : List (Option Ends) → List Touch → Sources → Assignment → Noted → Type 0
AreNoted ends touches from a n = (m : ℕ) → IsSource ends touches from a m → is_noted n m ≡ true

-- each source of a search is noted, and there is room for its meters
pub record AreNotedIn (over : Setting) (n : Noted) : Type 0 where
  pub room : length over.touches ≤ length n.flags
  pub noted : AreNoted over.graph.ends over.touches over.sources over.assignment n

-- the sources below a limit have their flags
abbrev pub HasFlags : Setting → List Bool → ℕ → Type 0
HasFlags over flags limit = (m : ℕ) → m < limit → IsSourceIn over m → has_flag flags m ≡ true

-- the meters stand in blocks of 64, and a block with a flag has its own flag
pub record AreBlocks (flags blocks : List Bool) : Type 0 where
  pub enough : length flags ≤ length blocks * 64
  pub raised : (m : ℕ) → has_flag flags m ≡ true → has_flag blocks (m / 64) ≡ true
