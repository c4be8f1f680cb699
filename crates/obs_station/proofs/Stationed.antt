-- The stations of nodes and meters.
use Rattle.std.proofs.Common.{◌≡◌, ◌↔◌, ℕ, ◌<◌, true, List, [], ◌∷◌, length, map, get_or, refl, sym, ◌∙◌, subst, arith}
use Rattle.std.specs.Prelude.{All, nat_lt, slice_index}
use Rattle.std.specs.List.{range_with_len}
use Rattle.std.proofs.lemmas.Bool.{eq-eqb, eqb-true, lt-ltb}
use Rattle.std.proofs.lemmas.List.{length-map}
use Rattle.std.proofs.lemmas.List.Elements.{All-map}
use Rattle.obs_case.specs.declared.rows.Branch.{Branch}
use Rattle.obs_case.specs.declared.rows.Kind.{Kind}
use Rattle.obs_case.specs.declared.rows.Kind.TheVariants.{Flow, Injection, Zero, Angle}
use Rattle.obs_case.specs.declared.rows.Switch.{Switch}
use Rattle.obs_case.specs.Tables.{IsValid, Tables, places}
use Rattle.obs_matroid.specs.Lists.{In}
use Rattle.obs_matroid.proofs.Lists.{In-filter, In-filter_from}
use Rattle.obs_matroid.proofs.Ranges.{below_from, below_in}
use Rattle.obs_meter.specs.Touches.{every_item, is_live}
use Rattle.obs_switch.specs.Buses.{AreOneBus, members_of}
use Rattle.obs_switch.specs.inner.Buses.{LinksBelow}
use Rattle.obs_switch.proofs.FirstNodes.{bus_at, bus_of-below, buses_of-at, first_member, one_bus}
use Rattle.obs_network.specs.Network.{case_branches, case_meters}
use Rattle.obs_network.specs.Observable.{case_live_meters}
use Rattle.obs_network.proofs.OfCase.{length-case_meters}
use Rattle.obs_switch.specs.declared.link.Link.{Link}
use Rattle.obs_station.specs.Stations.{all_links, case_station_count, case_stations, has_live, is_at, loss_stations, meter_stations, place_node, station_meters, station_of}

pub by_chains : (t : Tables) (u v : ℕ) → u < length t.nodes → v < length t.nodes → (slice_index (case_stations t) u ≡ slice_index (case_stations t) v) ↔ AreOneBus (all_links t.switches) u v
by_chains t u v lu lv =
    let links = all_links t.switches in
    let a = buses_of-at (length t.nodes) links u lu in
    let b = buses_of-at (length t.nodes) links v lv in
    ((λ e. (one_bus links u v).0 (sym a ∙ (e ∙ b))), (λ k. a ∙ ((one_bus links u v).1 k ∙ sym b)))

-- the switches join nodes of the case
pub links-below : (t : Tables) → IsValid t → LinksBelow (length t.nodes) (all_links t.switches)
links-below t v =
    All-map (λ (l : Link). (l.from < length t.nodes) × (l.to < length t.nodes)) (λ (s : Switch). record { from = s.from; to = s.to }) t.switches (λ k d l. v.switch_ends k d l)

-- each station has a node
pub some_node : (t : Tables) (c : ℕ) → c < case_station_count t → 0 < length (members_of (case_stations t) c)
some_node t c l =
    let u = bus_at (length t.nodes) (all_links t.switches) c l in
    subst (λ (k : ℕ). 0 < length (members_of (case_stations t) k)) u.2 (first_member (length t.nodes) (all_links t.switches) u.0 u.1).0

-- a meter stands at a node of the case
pub place_node-below : (t : Tables) → IsValid t → (kind : Kind) (at : ℕ) → at < places t kind → place_node t kind at < length t.nodes
place_node-below t v Flow at l =
    let n = length t.nodes in
    let all : All (λ u. u < n) (map (λ (row : Branch). row.from) t.branches) = All-map (λ u. u < n) (λ (row : Branch). row.from) t.branches (λ k d low. (v.branch_ends k d low).0) in
    all at 0 (omega (arith, l, length-map t.branches (λ (row : Branch). row.from)))
place_node-below t v Injection at l = l
place_node-below t v Zero at l = l
place_node-below t v Angle at l = l

node_station : (t : Tables) (u : ℕ) → u < length t.nodes → slice_index (case_stations t) u < case_station_count t
node_station t u l = let at = buses_of-at (length t.nodes) (all_links t.switches) u l in let low = bus_of-below (length t.nodes) (all_links t.switches) u l in omega (arith, at, low)

-- the station of a meter is one of the case
pub stations-below : (t : Tables) → IsValid t → All (λ c. c < case_station_count t) (meter_stations t)
unfolding meter_stations
stations-below t v =
    All-map (λ c. c < case_station_count t) (station_of t) t.meters (λ k d l.
    node_station t (place_node t (get_or t.meters k d).kind (get_or t.meters k d).at) (place_node-below t v (get_or t.meters k d).kind (get_or t.meters k d).at (v.meter_places k d l)))

pub length-meter_stations : (t : Tables) → length (meter_stations t) ≡ length t.meters
unfolding meter_stations
length-meter_stations t = length-map t.meters (station_of t)

some_length : (xs : List ℕ) (m : ℕ) → In m xs → nat_lt 0 (length xs) ≡ true
some_length [] m i = absurd i
some_length (x ∷ xs) m i = lt-ltb 0 (length (x ∷ xs)) (omega arith)

listed_in : (t : Tables) (c : ℕ) → c < case_station_count t → has_live t c ≡ true → In c (loss_stations t)
unfolding loss_stations
listed_in t c l live = In-filter (has_live t) c (range_with_len 0 (case_station_count t)) (below_in (case_station_count t) c l) live

pub some_station : (t : Tables) → IsValid t → (m : ℕ) → In m (case_live_meters t) → (c : ℕ) × In c (loss_stations t) × In m (station_meters t c)
some_station t v m i =
    let c = slice_index (meter_stations t) m in
    let item = below_from (length (case_meters t)) m (In-filter_from (is_live (case_branches t) (case_meters t)) m (every_item (case_meters t)) i).0 in
    let low = stations-below t v m 0 (omega (arith, item, length-case_meters t, length-meter_stations t)) in
    let there = In-filter (is_at t c) m (case_live_meters t) i (eq-eqb c c refl) in
    (c, listed_in t c low (some_length (station_meters t c) m there), there)

pub one_station : (t : Tables) (c d m : ℕ) → In m (station_meters t c) → In m (station_meters t d) → c ≡ d
one_station t c d m i j =
    let home = slice_index (meter_stations t) m in
    sym (eqb-true home c (In-filter_from (is_at t c) m (case_live_meters t) i).1) ∙ eqb-true home d (In-filter_from (is_at t d) m (case_live_meters t) j).1
