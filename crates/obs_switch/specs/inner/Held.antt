-- Arrays of buses that agree.
use Rattle.std.specs.Prelude.{ℕ, ◌≡◌, ◌<◌, ◌≤◌, ◌^◌, suc, List, length, slice_index, take}
use Rattle.obs_switch.specs.inner.Groups.{AreGroups}

-- the arrays agree
pub record AreHeld (nodes count : ℕ) (firsts numbers members starts : List ℕ) : Type 0 where
  pub fits : nodes ≤ length numbers
  pub small : length numbers < 2 ^ 32
  pub firsts_size : length firsts ≡ length numbers
  pub members_size : length members ≡ length numbers
  pub starts_size : length starts ≡ suc (length numbers)
  pub few : count ≤ nodes
  pub below : (u : ℕ) → u < nodes → slice_index numbers u < count
  pub groups : AreGroups (take nodes numbers) members starts (suc count)
