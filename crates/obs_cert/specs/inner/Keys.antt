-- By what items are sorted, so that those that are below a price come first.
use Rattle.std.specs.Prelude.{ℕ, ◌+◌, ◌-◌, ◌*◌, ◌^◌, ◌≤◌, if◌then◌else◌, List, length, map}
use Rattle.std.specs.List.Sorted.{IsNonDecreasing, IsPermutation}
use Rattle.obs_case.specs.Tables.{Tables, most_rows}
use Rattle.obs_meter.specs.Touches.{every_item}
use Rattle.obs_network.specs.Network.{case_offered, is_meter}
use Rattle.obs_cert.specs.Scopes.{is_live_item, price_at}

-- the key of an item: 0 of a live meter, one more than its price of a live candidate, and the highest of an idle item
abbrev pub key_of : Tables → ℕ → ℕ
key_of t m = if is_live_item t m then (if is_meter t m then 0 else price_at t m + 1) else 2 ^ 128 - 1

abbrev pub keys_of : Tables → List ℕ
keys_of t = map (key_of t) (every_item (case_offered t))

-- the keys of all items, rising; there are few
pub record AreKeys (t : Tables) (keys : List ℕ) : Type 0 where
  pub all : IsPermutation (keys_of t) keys
  pub rising : IsNonDecreasing keys
  pub few : length keys ≤ 2 * most_rows
