-- The branches that the pair of an item may have.
use Rattle.std.specs.Prelude.{◌≡◌, ℕ, ◌<◌, true, false, length}
use Rattle.obs_case.specs.Items.{angle_position, is_angle}
use Rattle.obs_case.specs.Tables.{Tables}

-- a branch that an item's pair may have: of an angle item its angle branch, of another one a row of the branch table
pub record IsBranchOf (t : Tables) (m e : ℕ) : Type 0 where
  pub angle : is_angle t m ≡ true → e ≡ angle_position t m
  pub row : is_angle t m ≡ false → e < length t.branches
