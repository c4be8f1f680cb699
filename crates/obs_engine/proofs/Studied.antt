-- What studies find and print.
use Rattle.std.proofs.Common.{◌≡◌, ◌∙◌, inl, inr, ℕ, ◌+◌, ◌<◌, ◌≤◌, Bool, true, false, List, [], ◌∷◌, ◌++◌, All, length, filter, drop, get_or, refl, sym, ap, subst, arith, append_assoc, append-nil, Option, Ok, Err}
use Rattle.std.specs.Prelude.{if◌then◌else◌, slice_index, IfOk, Result}
use Rattle.std.specs.List.{flat_map, range_with_len}
use Rattle.std.proofs.lemmas.List.{drop_all, drop_more, length-map}
use Rattle.std.proofs.lemmas.List.Elements.{All-map}
use Rattle.std.proofs.lemmas.List.FromFn.{get_or-map-range_with_len, length-range_with_len}
use Rattle.obs_case.specs.Tables.{IsValid, Tables}
use Rattle.obs_matroid.specs.Lists.{In}
use Rattle.obs_matroid.specs.Partners.{first_passing}
use Rattle.obs_matroid.proofs.Contained.{All-from_In}
use Rattle.obs_meter.specs.Touches.{every_item, is_live}
use Rattle.obs_meter.proofs.Assigned.{live_items-distinct, rho_at-is, rho_at-unique}
use Rattle.obs_assign.specs.Assignment.{Assignment}
use Rattle.obs_assign.specs.inner.Assignment.{pairs}
use Rattle.obs_switch.proofs.FirstNodes.{bus_at, first_member, first_node-le}
use Rattle.obs_network.specs.Network.{Network, case_branches, case_meters, case_needed, case_vertex_count, network_of}
use Rattle.obs_network.specs.Observable.{case_live_meters, case_rank, rank_of_meters}
use Rattle.obs_network.proofs.Marked.{filtered_below}
use Rattle.obs_network.proofs.OfCase.{case_branches-are, length-case_meters}
use Rattle.obs_kept.specs.inner.Kept.{AreLongest}
use Rattle.obs_outage.specs.declared.outages.Outage.{Outage}
use Rattle.obs_outage.specs.Outages.{is_outage_row, outage_of, outage_rows, outages_of}
use Rattle.obs_graph.specs.Graph.{Graph}
use Rattle.obs_meter.specs.declared.Touch.{Touch}
use Rattle.obs_meter.specs.Held.{Meters}
use Rattle.obs_meter.specs.inner.Sizes.{HasRoomFor, Sizes}
use Rattle.obs_exchange.specs.inner.Longest.{IsLongest}
use Rattle.obs_pairs.specs.PairWork.{has_another}
use Rattle.obs_pairs.specs.inner.PairWork.{PairWork}
use Rattle.obs_pairs.specs.Partners.{class_at, classes_of}
use Rattle.obs_station.specs.declared.losses.Loss.{Loss}
use Rattle.obs_station.specs.Stations.{all_links, case_station_count, has_live, loss_of, loss_stations, losses_of, station_node}
use Rattle.obs_report.specs.inner.Printed.{PrintsAt}
use Rattle.obs_report.proofs.Printing.{nothing_printed}
use Rattle.obs_files.specs.declared.status.Status.{Status}
use Rattle.obs_files.specs.declared.status.Status.TheVariants.{Short}
use Rattle.obs_engine.specs.Asks.{report_status}
use Rattle.obs_engine.specs.OutageReply.{are_met, outages_status}
use Rattle.obs_engine.specs.PairReply.{case_classes, class_line, class_lines}
use Rattle.obs_engine.specs.StationReply.{are_borne, stations_status}

-- a longest assignment has as many pairs as the rank says
pub kept_rank : (t : Tables) (a : Assignment) → IsValid t → AreLongest t a → length (pairs a) ≡ case_rank t
unfolding case_rank
kept_rank t a v h =
    rho_at-unique (case_branches t) (case_meters t) (case_live_meters t) (length (pairs a)) (rank_of_meters t (case_live_meters t)) h.longest
    (rho_at-is (case_vertex_count t) (case_branches t) (case_meters t) (case_live_meters t) (case_branches-are t v) (live_items-distinct (case_branches t) (case_meters t)))

-- the branches of the outage list are rows
pub outages_below : (t : Tables) → All (λ (o : Outage). o.branch < length t.branches) (outages_of t)
unfolding outages_of outage_rows
outages_below t =
    All-map (λ (o : Outage). o.branch < length t.branches) (outage_of t) (filter (is_outage_row t) (range_with_len 0 (length t.branches)))
    (All-from_In (λ e. e < length t.branches) _ (λ e i. let low = filtered_below (is_outage_row t) 0 (length t.branches) e i in omega (arith, low)))

-- the nodes of the loss list are rows
station_below : (t : Tables) (c : ℕ) → c < case_station_count t → station_node t c < length t.nodes
station_below t c l =
    let links = all_links t.switches in
    let node = bus_at (length t.nodes) links c l in
    let found = first_member (length t.nodes) links node.0 node.1 in
    let low = first_node-le links node.0 in
    subst (λ b. station_node t b < length t.nodes) node.2 (omega (arith, found.1, low, node.1))

pub losses_below : (t : Tables) → All (λ (l : Loss). l.node < length t.nodes) (losses_of t)
unfolding losses_of loss_stations
losses_below t =
    All-map (λ (l : Loss). l.node < length t.nodes) (loss_of t) (filter (has_live t) (range_with_len 0 (case_station_count t)))
    (All-from_In (λ c. station_node t c < length t.nodes) _
    (λ c i. station_below t c (let low = filtered_below (has_live t) 0 (case_station_count t) c i in omega (arith, low))))

-- there is a class for each meter, and it is named by a meter
pub classes_many : (t : Tables) → length (case_classes t) ≡ length t.meters
classes_many t =
    length-map (every_item (case_meters t)) (class_at (case_vertex_count t) (case_branches t) (case_meters t))
    ∙ (length-range_with_len 0 (length (case_meters t)) ∙ length-case_meters t)

picked_below : (b : Bool) (x y n : ℕ) → x < n → y < n → (if b then x else y) < n
picked_below true x y n l m = l
picked_below false x y n l m = m

passing_below : (p : ℕ → Bool) (n d : ℕ) (xs : List ℕ) → d < n → ((x : ℕ) → In x xs → x < n) → first_passing p d xs < n
passing_below p n d [] l h = l
passing_below p n d (x ∷ xs) l h = picked_below (p x) x (first_passing p d xs) n (h x (inl refl)) (passing_below p n d xs l (λ y i. h y (inr i)))

live_low : (t : Tables) (m : ℕ) → In m (case_live_meters t) → m < length t.meters
live_low t m i =
    let low = filtered_below (is_live (case_branches t) (case_meters t)) 0 (length (case_meters t)) m i in
    omega (arith, low, length-case_meters t)

pub class_below : (t : Tables) (m : ℕ) → m < length t.meters → slice_index (case_classes t) m < length t.meters
class_below t m l =
    let n = length (case_meters t) in
    let low : m < n = omega (arith, l, length-case_meters t) in
    let class = class_at (case_vertex_count t) (case_branches t) (case_meters t) in
    let at : slice_index (case_classes t) m ≡ class m = get_or-map-range_with_len class 0 n m m 0 low (omega arith) in
    let below = passing_below _ (length t.meters) m (case_live_meters t) l (live_low t) in
    subst (λ (k : ℕ). k < length t.meters) (sym at) below

-- the lines of a list, one behind the other
pub lines_more : {X : Type 0} (f : X → List ℕ) (xs : List X) (i : ℕ) (d : X) (text whole : List ℕ) → i < length xs → text ++ flat_map f (drop i xs) ≡ whole
    → (text ++ f (get_or xs i d)) ++ flat_map f (drop (i + 1) xs) ≡ whole
lines_more {X = X} f xs i d text whole l all =
    append_assoc text (f (get_or xs i d)) (flat_map f (drop (i + 1) xs)) ∙ (ap (λ (ys : List X). text ++ flat_map f ys) (sym (drop_more xs i d l)) ∙ all)

pub lines_all : {X : Type 0} (f : X → List ℕ) (xs : List X) (i : ℕ) (text whole : List ℕ) → length xs ≤ i → text ++ flat_map f (drop i xs) ≡ whole → text ≡ whole
lines_all {X = X} f xs i text whole l all = sym (append-nil text) ∙ (ap (λ (ys : List X). text ++ flat_map f ys) (sym (drop_all i xs l)) ∙ all)

-- the status where each entry has as many pairs as needed, and where one hasn't
pub outages_met : (t : Tables) (s : Status) → are_met (outages_of t) ≡ true → s ≡ report_status t → s ≡ outages_status t
unfolding outages_status
outages_met t s e is = rw e is

pub outages_short : (t : Tables) → are_met (outages_of t) ≡ false → Short ≡ outages_status t
unfolding outages_status
outages_short t e = rw e refl

pub stations_met : (t : Tables) (n : ℕ) (s : Status) → n ≡ case_needed t → are_borne n (losses_of t) ≡ true → s ≡ report_status t → s ≡ stations_status t
unfolding stations_status
stations_met t n s is e same = let here : are_borne (case_needed t) (losses_of t) ≡ true = ap (λ (k : ℕ). are_borne k (losses_of t)) (sym is) ∙ e in rw here same

pub stations_short : (t : Tables) (n : ℕ) → n ≡ case_needed t → are_borne n (losses_of t) ≡ false → Short ≡ stations_status t
unfolding stations_status
stations_short t n is e = let here : are_borne (case_needed t) (losses_of t) ≡ false = ap (λ (k : ℕ). are_borne k (losses_of t)) (sym is) ∙ e in rw here refl

-- the lines of one meter, with a partner or without
pub member_lines : (t : Tables) (classes : List ℕ) (m : ℕ) → has_another classes m ≡ true → class_line t (slice_index classes m) m ≡ class_lines t classes (m ∷ [])
member_lines t classes m e = rw e (sym (append-nil (class_line t (slice_index classes m) m)))

pub lone_lines : (t : Tables) (classes : List ℕ) (m : ℕ) → has_another classes m ≡ false → [] ≡ class_lines t classes (m ∷ [])
lone_lines t classes m e = rw e refl

-- nothing is printed where there is no line
pub nothing_as : {T E : Type 0} {a : Option (List ℕ)} {h : List ℕ} {f : ℕ} {p : ℕ → Type 0} (r : Result T E) (text : List ℕ) → [] ≡ text → PrintsAt a a h h f f p p r r text
nothing_as {a = a} {h = h} {f = f} {p = p} r text e = subst (λ (x : List ℕ). PrintsAt a a h h f f p p r r x) e (nothing_printed r)

-- a network of a case, its graph and its meters
module _ (n : Network) (t : Tables) (same : n ≡ network_of t) (g : Graph) (is_graph : g ≡ n.graph) (ms : Meters) (are_meters : ms ≡ n.meters) where
  graph_is : g ≡ (network_of t).graph
  graph_is = is_graph ∙ ap (λ (x : Network). x.graph) same

  meters_are : ms ≡ (network_of t).meters
  meters_are = are_meters ∙ ap (λ (x : Network). x.meters) same

  pub longest_over : (a : Assignment) → AreLongest t a → IsLongest g ms.touches a
  longest_over a h = subst (λ (x : Graph). IsLongest x ms.touches a) (sym graph_is) (subst (λ (i : Meters). IsLongest (network_of t).graph i.touches a) (sym meters_are) h)

  pub longest_from : (a : Assignment) → IsLongest g ms.touches a → AreLongest t a
  longest_from a h = subst (λ (i : Meters). IsLongest (network_of t).graph i.touches a) meters_are (subst (λ (x : Graph). IsLongest x ms.touches a) graph_is h)

  pub classes_over : classes_of g.vertices g.ends ms.touches ≡ case_classes t
  classes_over = ap (λ (x : Graph). classes_of x.vertices x.ends ms.touches) graph_is ∙ ap (λ (i : Meters). classes_of (network_of t).graph.vertices (network_of t).graph.ends i.touches) meters_are

  pub room_over : (s : Sizes) → HasRoomFor s n.graph n.meters.touches → HasRoomFor s g ms.touches
  room_over s h = subst (λ (x : Graph). HasRoomFor s x ms.touches) (sym is_graph) (subst (λ (i : Meters). HasRoomFor s n.graph i.touches) (sym are_meters) h)

-- room that was made for some meters
pub made_room : {E : Type 0} (g : Graph) (touches : List Touch) (m e v : ℕ) (r : Result PairWork E) → m ≡ length touches → e ≡ length g.ends → v ≡ g.vertices
    → IfOk r (λ (w : PairWork). w ≡ record { list = []; sizes = record { meters = m; branches = e; vertices = v } }) → IfOk r (λ (w : PairWork). HasRoomFor w.sizes g touches)
made_room g touches m e v (Ok w) a b d h = record {
  meters = let s = ap (λ (x : PairWork). x.sizes.meters) h in omega (arith, s, a);
  branches = let s = ap (λ (x : PairWork). x.sizes.branches) h in omega (arith, s, b);
  vertices = let s = ap (λ (x : PairWork). x.sizes.vertices) h in omega (arith, s, d);
}
made_room g touches m e v (Err x) a b d h = tt
