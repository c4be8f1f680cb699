-- What an edit of a flag does to the buses, to the reference vertices and to the ends of branches.
use Rattle.std.proofs.Common.{◌⊎◌, inl, inr, ◌≡◌, ℕ, zero, suc, ◌<◌, ◌≤◌, ⊎_elim, Bool, true, false, Option, None, List, [], ◌∷◌, ◌++◌, length, map, get_or, set, refl, sym, ap, ◌∙◌, subst, arith}
use Rattle.std.specs.Prelude.{All, slice_index_or, if◌then◌else◌}
use Rattle.std.specs.List.{list_any}
use Rattle.std.proofs.lemmas.Bool.{cases_Bool, cases_eq}
use Rattle.std.proofs.lemmas.List.{set-append_left}
use Rattle.std.proofs.lemmas.List.Elements.{All-head, All-tail}
use Rattle.obs_graph.specs.declared.Ends.{Ends}
use Rattle.obs_graph.specs.inner.Joined.{IsMerging}
use Rattle.obs_graph.proofs.MergedBy.{merged_by-nothing, merged_by-one}
use Rattle.obs_graph.proofs.Present.{some_one}
use Rattle.obs_switch.specs.declared.link.Link.{Link}
use Rattle.obs_switch.specs.Buses.{bus_of, bus_count, buses_of, first_node}
use Rattle.obs_switch.specs.inner.Buses.{bus_under}
use Rattle.obs_switch.proofs.FirstNodes.{buses_of-at}
use Rattle.obs_switch.proofs.OneMore.{bus_count-one_more, bus_under-node, buses_of-one_more, merges-one_more}
use Rattle.obs_case.specs.declared.rows.Branch.{Branch}
use Rattle.obs_case.specs.declared.rows.Candidate.{Candidate}
use Rattle.obs_case.specs.declared.rows.Kind.{Kind}
use Rattle.obs_case.specs.declared.rows.Meter.{Meter}
use Rattle.obs_case.specs.declared.rows.Switch.{Switch}
use Rattle.obs_case.specs.Flags.{changed_at, with_branch_inservice, with_closed, with_meter_inservice}
use Rattle.obs_case.specs.Items.{angle_flags, is_angle_kind}
use Rattle.obs_case.specs.Tables.{Tables, IsValid}
use Rattle.obs_case.proofs.RowLemmas.{length-changed, map-changed}
use Rattle.obs_case.proofs.ValidLemmas.{valid-with_branch_inservice, valid-with_closed}
use Rattle.obs_meter.specs.declared.Touch.TheVariants.{Nothing}
use Rattle.obs_network.specs.Switched.{case_bus_count, case_buses, closed_links}
use Rattle.obs_network.specs.Live.{live_ends}
use Rattle.obs_network.specs.Angles.{angle_branches, has_angle, item_angle}
use Rattle.obs_network.specs.Touching.{candidate_touches, meter_touch, meter_touches}
use Rattle.obs_network.specs.Network.{case_absolute, case_angles, case_branches, case_component_count, case_components, case_energised, case_live, case_meters, case_offered, case_rows}
use Rattle.obs_network.specs.inner.Edited.{AreKept, AreMerged, IsOneMerge, IsReferenceMerge}
use Rattle.obs_network.proofs.MergedComponents.{AreRenamedOrMerged, IsOneMore, joins_followed, joins_one_more}
use Rattle.obs_network.proofs.MergedRows.{InRange-present, one_more_row, row_ends, rows_followed, with_service}
use Rattle.obs_network.proofs.MergedVertices.{kept_by_live, merged_kept, merged_vertices}
use Rattle.obs_network.proofs.OfCase.{case_bus-below, case_live-branches, length-meter_touches}
use Rattle.obs_network.proofs.RenamedEnds.{froms, node_below, tos}
use Rattle.obs_network.proofs.Vertices.{item_sites}

-- the rows keep their nodes
froms-with_branch : (t : Tables) (at : ℕ) (inservice : Bool) → froms (with_branch_inservice t at inservice) ≡ froms t
froms-with_branch t at inservice = map-changed (λ (row : Branch). record row { inservice = inservice }) (λ (row : Branch). row.from) (λ row. refl) t.branches at

tos-with_branch : (t : Tables) (at : ℕ) (inservice : Bool) → tos (with_branch_inservice t at inservice) ≡ tos t
tos-with_branch t at inservice = map-changed (λ (row : Branch). record row { inservice = inservice }) (λ (row : Branch). row.to) (λ row. refl) t.branches at

one_more_live : (t : Tables) (at : ℕ) → at < length t.branches
    → IsOneMore (case_live (with_branch_inservice t at false)) (case_live (with_branch_inservice t at true)) (row_ends (case_buses t) t.branches at)
unfolding case_live
one_more_live t at l = one_more_row (case_buses t) t.branches at l

-- a branch out of service, and the same branch in service: the buses stay, and the reference vertices at its ends become one
pub merged_with_branch : (t : Tables) → IsValid t → (at : ℕ) → at < length t.branches → IsReferenceMerge (with_branch_inservice t at false) (with_branch_inservice t at true)
unfolding item_sites
merged_with_branch t v at l =
    let out = with_branch_inservice t at false in
    let put = with_branch_inservice t at true in
    let ends = row_ends (case_buses t) t.branches at in
    let low = node_below t v at l in
    let low_a : ends.a < case_bus_count t = case_bus-below t (get_or (froms t) at 0) low.0 in
    let low_b : ends.b < case_bus_count t = case_bus-below t (get_or (tos t) at 0) low.1 in
    record {
      one = ends.a;
      other = ends.b;
      one_low = low_a;
      other_low = low_b;
      buses = refl;
      merged = merged_vertices out put (valid-with_branch_inservice t v at false) (valid-with_branch_inservice t v at true) ends.a ends.b low_a low_b [] (λ b. b) (merged_by-nothing (case_bus_count t)) (λ u lu. refl)
          (joins_one_more (case_bus_count t) (case_live out) (case_live put) ends (one_more_live t at l))
          (froms-with_branch t at true ∙ sym (froms-with_branch t at false)) (tos-with_branch t at true ∙ sym (tos-with_branch t at false)) refl;
    }

-- what a meter leaves
abbrev of_meter : Bool → Meter → Meter
of_meter inservice row = record row { inservice = inservice }

pub flags-with_meter : (t : Tables) (at : ℕ) (inservice : Bool) → angle_flags (with_meter_inservice t at inservice) ≡ angle_flags t
flags-with_meter t at inservice =
    ap (λ flags. flags ++ map (λ (row : Candidate). is_angle_kind row.kind) t.candidates)
    (map-changed (of_meter inservice) (λ (row : Meter). is_angle_kind row.kind) (λ row. refl) t.meters at)

angles-with_meter : (t : Tables) (at : ℕ) (inservice : Bool) → case_angles (with_meter_inservice t at inservice) ≡ case_angles t
unfolding case_angles case_components case_component_count case_energised case_absolute case_live
angles-with_meter t at inservice =
    let after = with_meter_inservice t at inservice in
    let angle : Kind → ℕ → Option Ends = item_angle (case_buses t) (case_components t) (case_energised t) (case_absolute t) in
    let of_candidates = map (λ (row : Candidate). angle row.kind row.at) t.candidates in
    let all : (ms : List Meter) → List (Option Ends) = λ ms. angle_branches (case_buses t) (case_components t) (case_energised t) (case_absolute t) ms t.candidates in
    let same : all after.meters ≡ all t.meters = ap (λ xs. xs ++ of_candidates) (map-changed (of_meter inservice) (λ (row : Meter). angle row.kind row.at) (λ row. refl) t.meters at) in
    ap (λ (flags : List Bool). if list_any (λ b. b) flags then all after.meters else []) (flags-with_meter t at inservice)
    ∙ ap (λ xs. if has_angle t then xs else []) same

pub branches-with_meter : (t : Tables) (at : ℕ) (inservice : Bool) → case_branches (with_meter_inservice t at inservice) ≡ case_branches t
unfolding case_branches case_rows case_components case_component_count case_energised case_live
branches-with_meter t at inservice = ap (λ xs. case_rows t ++ xs) (angles-with_meter t at inservice)

-- a meter put in service or taken out
pub kept_with_meter : (t : Tables) → IsValid t → (at : ℕ) (inservice : Bool) → AreKept t (with_meter_inservice t at inservice)
kept_with_meter t v at inservice = record {
  buses = refl;
  count = refl;
  ends = λ e x y is_x is_y. some_one y x (sym is_y ∙ ap (λ bs. get_or bs e None) (branches-with_meter t at inservice) ∙ is_x);
}

pub merged_with_meter : (t : Tables) → IsValid t → (at : ℕ) (inservice : Bool) → AreMerged t (with_meter_inservice t at inservice) []
unfolding case_component_count case_live
merged_with_meter t v at inservice = merged_kept t (with_meter_inservice t at inservice) (kept_with_meter t v at inservice) refl

-- one changed row changes what stands at its place
touches-changed : (rows : List (Option Ends)) (buses : List ℕ) (inservice : Bool) (m : ℕ) (meters : List Meter) (at : ℕ)
    → meter_touches rows buses m (changed_at (of_meter inservice) at meters)
    ≡ set (meter_touches rows buses m meters) at (slice_index_or (meter_touches rows buses m (changed_at (of_meter inservice) at meters)) at Nothing)
unfolding changed_at
touches-changed rows buses inservice m [] zero = refl
touches-changed rows buses inservice m [] (suc at) = refl
touches-changed rows buses inservice m (x ∷ meters) zero = refl
touches-changed rows buses inservice m (x ∷ meters) (suc at) = ap (λ xs. meter_touch rows buses m x ∷ xs) (touches-changed rows buses inservice (suc m) meters at)

pub meters-with_meter : (t : Tables) (at : ℕ) (inservice : Bool)
    → case_meters (with_meter_inservice t at inservice) ≡ set (case_meters t) at (slice_index_or (case_meters (with_meter_inservice t at inservice)) at Nothing)
unfolding case_meters case_rows case_components case_component_count case_energised case_live
meters-with_meter t at inservice = touches-changed (case_rows t) (case_buses t) inservice 0 t.meters at

pub offered-with_meter : (t : Tables) (at : ℕ) (inservice : Bool) → at < length t.meters
    → case_offered (with_meter_inservice t at inservice) ≡ set (case_offered t) at (slice_index_or (case_meters (with_meter_inservice t at inservice)) at Nothing)
unfolding case_offered case_meters case_rows case_components case_component_count case_energised case_live
offered-with_meter t at inservice l =
    let after = with_meter_inservice t at inservice in
    let rows = case_rows t in
    let buses = case_buses t in
    let touches = meter_touches rows buses 0 t.meters in
    let candidates = candidate_touches rows buses (length t.meters) t.candidates in
    let touch = slice_index_or (meter_touches rows buses 0 after.meters) at Nothing in
    let as_many : length after.meters ≡ length t.meters = length-changed (of_meter inservice) t.meters at in
    ap (λ k. meter_touches rows buses 0 after.meters ++ candidate_touches rows buses k t.candidates) as_many
    ∙ ap (λ xs. xs ++ candidates) (touches-changed rows buses inservice 0 t.meters at)
    ∙ sym (set-append_left touches candidates at touch (omega (arith, l, length-meter_touches rows buses 0 t.meters)))

-- the nodes of a switch, as a link
abbrev pub link_at : List Switch → ℕ → Switch → Link
link_at rows at d = record { from = (get_or rows at d).from; to = (get_or rows at d).to }

-- one switch more is closed: the links with it, and those without it
pub record OneMore (nodes : ℕ) (link : Link) (opened closed : List Link) : Type 0 where
  pub before : List Link
  pub behind : List Link
  pub from : link.from < nodes
  pub to : link.to < nodes
  pub without : opened ≡ before ++ behind
  pub with_it : closed ≡ before ++ link ∷ behind

-- the closed switches with one that is set so
abbrev pub links_of : Bool → ℕ → List Switch → List Link
links_of closed at rows = closed_links (changed_at (λ (row : Switch). record row { closed = closed }) at rows)

-- a switch that is closed is one link more, where there is such a row
pub one_more : (nodes : ℕ) (rows : List Switch) (at : ℕ) (d : Switch) → All (λ row. (row.from < nodes) × (row.to < nodes)) rows
    → (links_of false at rows ≡ links_of true at rows) ⊎ OneMore nodes (link_at rows at d) (links_of false at rows) (links_of true at rows)
unfolding changed_at
one_more nodes [] at d all = inl refl
one_more nodes (s ∷ rows) zero d all =
    let low = All-head (λ (row : Switch). (row.from < nodes) × (row.to < nodes)) s rows all in
    inr record {
      before = [];
      behind = closed_links rows;
      from = low.0;
      to = low.1;
      without = refl;
      with_it = refl;
    }
one_more nodes (s ∷ rows) (suc at) d all =
    let rest = one_more nodes rows at d (All-tail (λ (row : Switch). (row.from < nodes) × (row.to < nodes)) s rows all) in
    let head : Link = record { from = s.from; to = s.to } in
    elim (cases_Bool s.closed) [
      | inl e ↦ rw e (with_head nodes head (link_at rows at d) (links_of false at rows) (links_of true at rows) rest)
      | inr e ↦ rw e rest
    ]
  where
    with_head : (nodes : ℕ) (head link : Link) (opened closed : List Link) → (opened ≡ closed) ⊎ OneMore nodes link opened closed → (head ∷ opened ≡ head ∷ closed) ⊎ OneMore nodes link (head ∷ opened) (head ∷ closed)
    with_head nodes head link opened closed (inl e) = inl (ap (λ l. head ∷ l) e)
    with_head nodes head link opened closed (inr one) = inr record {
      before = head ∷ one.before;
      behind = one.behind;
      from = one.from;
      to = one.to;
      without = ap (λ l. head ∷ l) one.without;
      with_it = ap (λ l. head ∷ l) one.with_it;
    }

-- what one link more does, where the lists have other names
module _ (n : ℕ) (o c xs : List Link) (l : Link) (ys : List Link) (from : l.from < n) (to : l.to < n) (without : o ≡ xs ++ ys) (with_it : c ≡ xs ++ l ∷ ys) where
  named : (u : ℕ) → u < n → bus_of c u ≡ bus_under n o c (bus_of o u)
  named u low = rw (without, with_it) (bus_under-node n xs l ys from to u low)

  merging : (first_node o l.from ≡ first_node o l.to → ⊥) → IsMerging (bus_count n o) (bus_count n c) (bus_of o l.from) (bus_of o l.to) (bus_under n o c)
  merging apart = rw (without, with_it) (merges-one_more n xs l ys from to (rw without at apart))

  pub same_buses : first_node o l.from ≡ first_node o l.to → buses_of n c ≡ buses_of n o
  same_buses joined = rw (without, with_it) (buses_of-one_more n xs l ys from to (rw without at joined))

  pub same_count : first_node o l.from ≡ first_node o l.to → bus_count n c ≡ bus_count n o
  same_count joined = rw (without, with_it) (bus_count-one_more n xs l ys from to (rw without at joined))

-- the same rows, over buses of new names
live_followed : (t after : Tables) (h : ℕ → ℕ) → IsValid t → after.branches ≡ t.branches → ((u : ℕ) → u < length t.nodes → get_or (case_buses after) u 0 ≡ h (get_or (case_buses t) u 0))
    → AreRenamedOrMerged (case_live t) (case_live after) h
unfolding case_live
live_followed t after h v same nodes =
    subst (λ rows. AreRenamedOrMerged (map (live_ends (case_buses t)) t.branches) (map (live_ends (case_buses after)) rows) h) (sym same)
    (rows_followed (case_buses t) (case_buses after) h t.branches (λ k d l. let ends = v.branch_ends k d l in (nodes (get_or t.branches k d).from ends.0, nodes (get_or t.branches k d).to ends.1)))

live_stay : (t after : Tables) → after.branches ≡ t.branches → case_buses after ≡ case_buses t → case_live after ≡ case_live t
unfolding case_live
live_stay t after rows buses = ap (λ bs. map (live_ends bs) after.branches) buses ∙ ap (map (live_ends (case_buses t))) rows

-- a switch opened, and the same switch closed: the buses are the same, or two become one
pub switched : (t : Tables) → IsValid t → (at : ℕ)
    → (AreKept (with_closed t at false) (with_closed t at true) × AreMerged (with_closed t at false) (with_closed t at true) []) ⊎ IsOneMerge (with_closed t at false) (with_closed t at true)
unfolding item_sites
switched t v at =
    let n = length t.nodes in
    let none : Switch = record { name = []; from = 0; to = 0; closed = false } in
    let o = links_of false at t.switches in
    let c = links_of true at t.switches in
    let l = link_at t.switches at none in
    let opened = with_closed t at false in
    let closed = with_closed t at true in
    let valid = valid-with_closed t v at false in
    let valid_closed = valid-with_closed t v at true in
    let kept : case_buses closed ≡ case_buses opened → case_bus_count closed ≡ case_bus_count opened → AreKept opened closed × AreMerged opened closed [] =
    λ buses count. kept_by_live opened closed valid valid_closed refl refl refl buses count (live_stay opened closed refl buses) in
    ⊎_elim
    (λ (same : o ≡ c). inl (kept (ap (buses_of n) (sym same)) (ap (bus_count n) (sym same))))
    (λ (one : OneMore n l o c).
    ⊎_elim
    (λ (joined : first_node o l.from ≡ first_node o l.to).
    inl (kept (same_buses n o c one.before l one.behind one.from one.to one.without one.with_it joined)
    (same_count n o c one.before l one.behind one.from one.to one.without one.with_it joined)))
    (λ (apart : first_node o l.from ≡ first_node o l.to → ⊥).
    let name = bus_under n o c in
    let nodes : (u : ℕ) → u < n → get_or (buses_of n c) u 0 ≡ name (get_or (buses_of n o) u 0) =
    λ u low. buses_of-at n c u low ∙ named n o c one.before l one.behind one.from one.to one.without one.with_it u low ∙ ap name (sym (buses_of-at n o u low)) in
    let merging_buses = merging n o c one.before l one.behind one.from one.to one.without one.with_it apart in
    inr (merged_buses opened closed valid valid_closed name (bus_of o l.from) (bus_of o l.to) merging_buses nodes refl refl))
    (cases_eq (first_node o l.from) (first_node o l.to)))
    (one_more n t.switches at none v.switch_ends)
  where
    merged_buses : (t after : Tables) → IsValid t → IsValid after → (name : ℕ → ℕ) (one other : ℕ) → IsMerging (case_bus_count t) (case_bus_count after) one other name
        → ((u : ℕ) → u < length t.nodes → get_or (case_buses after) u 0 ≡ name (get_or (case_buses t) u 0))
        → after.branches ≡ t.branches → item_sites after ≡ item_sites t → IsOneMerge t after
    merged_buses t after v w name one other merging nodes rows sites =
        let n = case_bus_count t in
        let m = case_bus_count after in
        let pair : Ends = record { a = one; b = other } in
        let buses = merged_by-one n m one other name merging in
        let joins = joins_followed n m (case_live t) (case_live after) name pair buses (InRange-present n (case_live t) (case_live-branches t v)) (live_followed t after name v rows nodes) in
        record {
          one = one;
          other = other;
          one_low = merging.s_low;
          other_low = merging.t_low;
          apart = merging.apart;
          merged = merged_vertices t after v w one other merging.s_low merging.t_low (pair ∷ []) name buses nodes joins
              (ap (map (λ (row : Branch). row.from)) rows) (ap (map (λ (row : Branch). row.to)) rows) sites;
        }

row_as_it_is : (rows : List Switch) (at : ℕ)
    → (rows ≡ changed_at (λ (row : Switch). record row { closed = false }) at rows) ⊎ (rows ≡ changed_at (λ (row : Switch). record row { closed = true }) at rows)
unfolding changed_at
row_as_it_is [] at = inl refl
row_as_it_is (s ∷ rows) zero =
    let of : Bool → List Switch = λ b. record s { closed = b } ∷ rows in
    elim (cases_Bool s.closed) [ inl e ↦ inr (ap of e) | inr e ↦ inl (ap of e) ]
row_as_it_is (s ∷ rows) (suc at) = ⊎_elim (λ e. inl (ap (λ l. s ∷ l) e)) (λ e. inr (ap (λ l. s ∷ l) e)) (row_as_it_is rows at)

-- a switch is open or closed
pub as_it_is : (t : Tables) (at : ℕ) → (t ≡ with_closed t at false) ⊎ (t ≡ with_closed t at true)
as_it_is t at =
    let of : List Switch → Tables = λ rows. record t { switches = rows } in
    ⊎_elim (λ e. inl (ap of e)) (λ e. inr (ap of e)) (row_as_it_is t.switches at)

branch_as_it_is : (rows : List Branch) (at : ℕ) → (rows ≡ with_service false at rows) ⊎ (rows ≡ with_service true at rows)
unfolding changed_at
branch_as_it_is [] at = inl refl
branch_as_it_is (s ∷ rows) zero =
    let of : Bool → List Branch = λ b. record s { inservice = b } ∷ rows in
    elim (cases_Bool s.inservice) [ inl e ↦ inr (ap of e) | inr e ↦ inl (ap of e) ]
branch_as_it_is (s ∷ rows) (suc at) = ⊎_elim (λ e. inl (ap (λ l. s ∷ l) e)) (λ e. inr (ap (λ l. s ∷ l) e)) (branch_as_it_is rows at)

-- a branch is in service or out of it
pub branch_is : (t : Tables) (at : ℕ) → (t ≡ with_branch_inservice t at false) ⊎ (t ≡ with_branch_inservice t at true)
branch_is t at =
    let of : List Branch → Tables = λ rows. record t { branches = rows } in
    ⊎_elim (λ e. inl (ap of e)) (λ e. inr (ap of e)) (branch_as_it_is t.branches at)

none_changed : (rows : List Branch) (at : ℕ) (inservice : Bool) → length rows ≤ at → with_service inservice at rows ≡ rows
unfolding changed_at
none_changed [] at inservice l = refl
none_changed (s ∷ rows) zero inservice l = absurd (omega (arith, l))
none_changed (s ∷ rows) (suc at) inservice l = ap (λ xs. s ∷ xs) (none_changed rows at inservice (omega (arith, l)))

-- where there is no such row nothing changes
pub no_branch : (t : Tables) (at : ℕ) (inservice : Bool) → length t.branches ≤ at → with_branch_inservice t at inservice ≡ t
no_branch t at inservice l = ap (λ (rows : List Branch). record t { branches = rows }) (none_changed t.branches at inservice l)
