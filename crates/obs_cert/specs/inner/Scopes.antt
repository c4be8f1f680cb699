-- Tests on numbers that only items pass.
use Rattle.std.specs.Prelude.{◌≡◌, ℕ, ◌<◌, Bool, true, length}
use Rattle.obs_case.specs.Tables.{Tables}
use Rattle.obs_network.specs.Network.{case_offered}

-- only items pass the test
abbrev pub OfItems : Tables → (ℕ → Bool) → Type 0
OfItems t test = (m : ℕ) → test m ≡ true → m < length (case_offered t)
