-- How the kept pairs are repaired after an edit, and in how many searches.
use Rattle.std.specs.Prelude.{ℕ, ◌≡◌, ◌≢◌, ◌+◌, ◌<◌, ◌≤◌, None, List, length}
use Rattle.obs_case.specs.Tables.{Tables}
use Rattle.obs_matroid.specs.Assignments.{Pair}
use Rattle.obs_matroid.specs.Lists.{In}
use Rattle.obs_assign.specs.Assignment.{Assignment}
use Rattle.obs_assign.specs.inner.Assignment.{branch_at, pairs}
use Rattle.obs_assign.specs.inner.Still.{still}
use Rattle.obs_network.specs.Network.{case_branches, case_meters}
use Rattle.obs_repair.specs.declared.edit.Edit.{Edit}
use Rattle.obs_repair.specs.declared.edit.Edit.TheVariants.{Switch, Branch, Meter}

-- the table of an edit has its row
abbrev pub HasRow : Tables → Edit → Type 0
HasRow t (Switch at closed) = at < length t.switches
HasRow t (Branch at inservice) = at < length t.branches
HasRow t (Meter at inservice) = at < length t.meters

-- the standing pairs: of the pairs kept before, those whose meter touches their branch in the network of a case
abbrev pub standing : Tables → Assignment → List Pair
standing t before = still (case_branches t) (case_meters t) (pairs before)

-- the pairs kept before were repaired for a case of this rank by so many searches
pub record IsRepaired (t : Tables) (before after : Assignment) (rank searches : ℕ) : Type 0 where
  -- one search for each pair that is missed, and at most two more
  pub most : searches + length (standing t before) ≤ 2 + rank
  pub least : rank ≤ searches + length (standing t before)
  -- each turn is one of a search that found a pair
  pub turns_rise : before.turns ≤ after.turns
  pub turns_most : after.turns + length (standing t before) ≤ before.turns + (1 + rank)
  pub turns_searched : after.turns ≤ before.turns + searches
  -- of the meters of the standing pairs all have a pair afterwards, but perhaps one
  pub lost : ℕ
  pub all_but_one : (p : Pair) → In p (standing t before) → p.0 ≢ lost → branch_at after p.0 ≢ None
  -- without a search there is no pair that didn't stand
  pub unsearched : searches ≡ 0 → (p : Pair) → In p (pairs after) → In p (standing t before)

-- an edit of a meter takes one search at the most
abbrev pub TakesOne : Edit → Assignment → Assignment → ℕ → Type 0
TakesOne (Switch at closed) before after searches = Unit {0}
TakesOne (Branch at inservice) before after searches = Unit {0}
TakesOne (Meter at inservice) before after searches = (searches ≤ 1) × (after.turns ≤ before.turns + 1)
