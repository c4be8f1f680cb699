-- What the loss list of a case is found over: its network, and room for that.
use Rattle.std.proofs.Common.{◌≡◌, ℕ, ◌+◌, ◌*◌, ◌<◌, ◌≤◌, List, length, refl, sym, ap, ◌∙◌, subst, inl, inr, arith}
use Rattle.std.proofs.lemmas.List.{length-take-le}
use Rattle.std.specs.Prelude.{slice_index, take}
use Rattle.std.proofs.lemmas.Bool.{cases_Bool}
use Rattle.std.proofs.lemmas.List.FromFn.{get_or-map-range_with_len, length-map-range_with_len}
use Rattle.std.specs.List.{range_with_len}
use Rattle.obs_graph.specs.Graph.{Graph}
use Rattle.obs_graph.specs.Positions.{AreBranches}
use Rattle.obs_switch.specs.Buses.{members_of}
use Rattle.obs_case.specs.Tables.{IsValid, Tables}
use Rattle.obs_matroid.proofs.Lists.{clash}
use Rattle.obs_switch.specs.inner.Groups.{group_start}
use Rattle.obs_meter.specs.declared.Touch.{Touch}
use Rattle.obs_meter.specs.Held.{Meters}
use Rattle.obs_meter.specs.inner.Sizes.{HasRoomFor, Sizes}
use Rattle.obs_meter.specs.Touches.{is_live}
use Rattle.obs_meter.specs.inner.Touches.{AreInRange}
use Rattle.obs_assign.specs.Assignment.{Assignment}
use Rattle.obs_exchange.specs.inner.Longest.{IsLongest}
use Rattle.obs_kept.specs.inner.Kept.{AreLongest}
use Rattle.obs_network.specs.Network.{Rows, case_branches, case_meters, network_of, rows_of}
use Rattle.obs_network.specs.Observable.{case_live_meters}
use Rattle.obs_network.proofs.OfCase.{case_position_count-le, case_vertex_count-le, length-case_branches, length-case_meters}
use Rattle.obs_station.specs.declared.losses.Loss.{Loss}
use Rattle.obs_station.specs.declared.grouping.Grouping.{Grouping}
use Rattle.obs_station.specs.declared.room.Room.{Room}
use Rattle.obs_station.specs.inner.Held.{AreStationed, Stations, station_key, station_keys, losses_in}
use Rattle.obs_station.specs.inner.Going.{MayLoseStation}
use Rattle.obs_station.specs.Stations.{case_station_count, case_stations, losses_of, meter_stations}
use Rattle.obs_station.proofs.Grouped.{losses-are}
use Rattle.obs_station.proofs.Stationed.{length-meter_stations, some_node, stations-below}
use Rattle.obs_station.proofs.Summed.{few_live}

-- sizes that go by numbers of rows are enough for the network of a case with these numbers
pub room_for : (t : Tables) (r : Rows) (s : Sizes) → s ≡ record { meters = r.meters; branches = r.branches + (r.meters + r.candidates); vertices = 2 * r.nodes } → r ≡ rows_of t
    → HasRoomFor s (network_of t).graph (case_meters t)
room_for t r s e same =
    let nodes = ap (λ (x : Rows). x.nodes) same in
    let branches = ap (λ (x : Rows). x.branches) same in
    let meters = ap (λ (x : Rows). x.meters) same in
    let candidates = ap (λ (x : Rows). x.candidates) same in
    record {
      meters = let k = ap (λ (x : Sizes). x.meters) e in omega (arith, k, meters, length-case_meters t);
      branches =
          let k = ap (λ (x : Sizes). x.branches) e in omega (arith, k, branches, meters, candidates, length-case_branches t, case_position_count-le t);
      vertices = let k = ap (λ (x : Sizes). x.vertices) e in omega (arith, k, nodes, case_vertex_count-le t);
    }

-- the live meters have the keys of stations
pub stationed : (t : Tables) → IsValid t → (s : Stations) → s.keys ≡ station_keys t → s.buses.count ≡ case_station_count t → AreStationed (network_of t).graph (case_meters t) s
stationed t v s keys count m l =
    let n = length t.meters in
    let len : length s.keys ≡ n = ap length keys ∙ length-map-range_with_len (station_key t) 0 n in
    let at : slice_index s.keys m ≡ station_key t m = ap (λ (ks : List ℕ). slice_index ks m) keys ∙ get_or-map-range_with_len (station_key t) 0 n m m 0 (omega (arith, len, l)) (omega arith) in
    elim (cases_Bool (is_live (case_branches t) (case_meters t) m)) [
      | inl live ↦
          let key : station_key t m ≡ slice_index (meter_stations t) m = rw live refl in
          let low = stations-below t v m 0 (omega (arith, len, l, length-meter_stations t)) in
          ((λ k. live), (λ k. omega (arith, at, key, low, count)))
      | inr idle ↦
          let key : station_key t m ≡ case_station_count t = rw idle refl in
          ((λ k. absurd (omega (arith, at, key, k, count))), (λ k. clash k idle))
    ]

-- a graph, meters and stations are those of a case
pub record IsOf (t : Tables) (g : Graph) (ms : Meters) (s : Stations) : Type 0 where
  pub graph : g ≡ (network_of t).graph
  pub meters : ms ≡ (network_of t).meters
  pub stations : s.buses.buses ≡ case_stations t
  pub count : s.buses.count ≡ case_station_count t
  pub keys : s.keys ≡ station_keys t

module _ {t : Tables} {g : Graph} {ms : Meters} {s : Stations} (of : IsOf t g ms s) where
  touches_are : ms.touches ≡ case_meters t
  touches_are = ap (λ (m : Meters). m.touches) of.meters

  -- what is so over the network of the case is so over the graph and the meters
  over_case : (P : Graph → List Touch → Type 0) → P (network_of t).graph (case_meters t) → P g ms.touches
  over_case P p = subst (λ (h : Graph). P h ms.touches) (sym of.graph) (subst (λ (ts : List Touch). P (network_of t).graph ts) (sym touches_are) p)

  -- the losses over the graph are the loss list of the case
  pub list-of_case : losses_in g ms.touches s (range_with_len 0 s.buses.count) ≡ losses_of t
  list-of_case =
      over_case (λ h ts. losses_in h ts s (range_with_len 0 s.buses.count) ≡ losses_of t)
      (ap (λ (k : ℕ). losses_in (network_of t).graph (case_meters t) s (range_with_len 0 k)) of.count ∙ losses-are t s of.stations of.keys)

  -- the live meters of all stations are at most those of the case
  pub few-of_case : group_start s.keys s.buses.count ≤ length (case_live_meters t)
  few-of_case =
      let key = ap (λ (k : List ℕ). group_start k s.buses.count) of.keys in
      let all = ap (λ (k : ℕ). group_start (station_keys t) k) of.count in
      omega (arith, key, all, few_live t)

  -- as many entries are found as the loss list has
  pub found-of_case : (entries : List Loss) (found : ℕ) → found ≤ length entries → take found entries ≡ losses_in g ms.touches s (range_with_len 0 s.buses.count) → found ≡ length (losses_of t)
  found-of_case entries found few is = sym (length-take-le found entries few) ∙ ap (λ (l : List Loss). length l) (is ∙ list-of_case)

-- with longest pairs, and room by the numbers of rows, the losses of its stations can be found
pub ready-of_case : {t : Tables} {y : Grouping} {a : Assignment} {r : Room} {rows : Rows} → IsOf t y.graph.now y.meters.now y.stations.now → IsValid t → AreBranches y.graph.now.vertices y.graph.now.ends
    → AreInRange (network_of t).graph y.meters.now.touches → AreLongest t a
    → r.exchange.sizes ≡ record { meters = rows.meters; branches = rows.branches + (rows.meters + rows.candidates); vertices = 2 * rows.nodes } → rows ≡ rows_of t → r.left.touches ≡ y.meters.now.touches
    → MayLoseStation y a r
ready-of_case {t = t} {y = y} {a = a} {r = r} {rows = rows} of valid branches in_range longest sizes same left =
    let s = y.stations.now in
    let all = ap (λ (m : Meters). length m.touches) of.meters in
    record {
      paired = record {
        grouped = record {
          branches = branches;
          in_range = subst (λ (h : Graph). AreInRange h y.meters.now.touches) (sym of.graph) in_range;
          keys = ap (λ (ks : List ℕ). length ks) of.keys ∙ (length-map-range_with_len (station_key t) 0 (length t.meters) ∙ (sym (length-case_meters t) ∙ sym all));
          some = λ k l. let count = of.count in subst (λ (b : List ℕ). 0 < length (members_of b k)) (sym of.stations) (some_node t k (omega (arith, l, count)));
          stationed = over_case of (λ h ts. AreStationed h ts s) (stationed t valid s of.keys of.count);
        };
        longest = over_case of (λ h ts. IsLongest h ts a) longest;
      };
      room = over_case of (λ h ts. HasRoomFor r.exchange.sizes h ts) (room_for t rows r.exchange.sizes sizes same);
      left = left;
    }
