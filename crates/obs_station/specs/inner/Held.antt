-- What is held while losses are found.
use Rattle.std.specs.Prelude.{◌≡◌, ◌↔◌, ℕ, suc, ◌<◌, ◌≤◌, ◌^◌, Bool, true, if◌then◌else◌, nat_lt, List, length, map, filter, slice_index, take}
use Rattle.std.specs.List.{range_with_len}
use Rattle.obs_graph.specs.Graph.{Graph}
use Rattle.obs_case.specs.Tables.{Tables}
use Rattle.obs_switch.specs.Buses.{members_of}
use Rattle.obs_switch.specs.Groups.{items_with}
use Rattle.obs_switch.specs.inner.Groups.{AreGroups}
use Rattle.obs_switch.specs.Held.{Buses}
use Rattle.obs_meter.specs.declared.Touch.{Touch}
use Rattle.obs_meter.specs.Assignments.{rho_at}
use Rattle.obs_meter.specs.Lost.{is_listed}
use Rattle.obs_meter.specs.inner.Lost.{left_of}
use Rattle.obs_meter.specs.Touches.{is_live, live_items}
use Rattle.obs_network.specs.Network.{case_branches, case_meters}
use Rattle.obs_station.specs.declared.losses.Loss.{Loss}
use Rattle.obs_station.specs.Stations.{case_station_count, meter_stations}

-- the key of a meter: its station where it is live, else the number of stations
abbrev pub station_key : Tables → ℕ → ℕ
station_key t m = if is_live (case_branches t) (case_meters t) m then slice_index (meter_stations t) m else case_station_count t

-- the key of each meter
abbrev pub station_keys : Tables → List ℕ
station_keys t = map (station_key t) (range_with_len 0 (length t.meters))

-- stations: the nodes by station, the key of each meter, and for how many switches and meters there is room
pub record Stations : Type 0 where
  pub buses : Buses
  pub keys : List ℕ
  pub switches : ℕ
  pub most_meters : ℕ

-- the arrays agree: the meters stand in groups by key
pub record AreListed (meters : ℕ) (buses : Buses) (keys members starts : List ℕ) : Type 0 where
  pub small : length keys < 2 ^ 32
  pub fits : meters ≤ length keys
  pub few : buses.count ≤ buses.most_nodes
  pub members_len : length members ≡ length keys
  pub starts_len : length starts ≡ suc buses.most_nodes
  pub groups : AreGroups (take meters keys) members starts (suc buses.count)

-- whether a station has a live meter
abbrev pub has_any : Stations → ℕ → Bool
has_any s c = nat_lt 0 (length (items_with s.keys c))

-- the live meters are those that have the key of a station
abbrev pub AreStationed : Graph → List Touch → Stations → Type 0
AreStationed g touches s =
    (m : ℕ) → m < length s.keys → (slice_index s.keys m < s.buses.count) ↔ (is_live g.ends touches m ≡ true)

-- what the loss of a station's meters does over a graph
abbrev pub loss_in : Graph → List Touch → Stations → ℕ → Loss
loss_in g touches s c =
    record {
      node = slice_index (members_of s.buses.buses c) 0;
      lost = length (items_with s.keys c);
      rank = rho_at g.vertices g.ends touches (left_of (is_listed (items_with s.keys c)) (live_items g.ends touches));
    }

-- the losses of some stations
abbrev pub losses_in : Graph → List Touch → Stations → List ℕ → List Loss
losses_in g touches s stations = map (loss_in g touches s) (filter (has_any s) stations)
