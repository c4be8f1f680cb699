-- What the items of a case touch, and where its meters are listed, after a branch came or went alone.
use Rattle.std.proofs.Common.{◌≡◌, ℕ, ◌<◌, ◌≤◌, Bool, Option, Some, None, List, ◌++◌, length, map, take, get_or, set, refl, sym, ap, ◌∙◌, subst, arith}
use Rattle.std.specs.Prelude.{IfSome, slice_index_or}
use Rattle.std.proofs.Math.Seq.{take-append_seam, take-set-lt}
use Rattle.std.proofs.lemmas.List.{get_or-map, get_or_append_left, get_or_default, length-map, map-append}
use Rattle.obs_graph.specs.declared.Ends.{Ends}
use Rattle.obs_graph.specs.Graph.{Graph}
use Rattle.obs_case.specs.declared.rows.Branch.{Branch}
use Rattle.obs_case.specs.Flags.{with_branch_inservice}
use Rattle.obs_case.specs.Tables.{IsValid, Tables}
use Rattle.obs_case.proofs.RowLemmas.{length-changed}
use Rattle.obs_meter.specs.declared.Touch.{Touch}
use Rattle.obs_meter.specs.declared.Touch.TheVariants.{Nothing}
use Rattle.obs_meter.specs.Held.{Meters}
use Rattle.obs_meter.specs.inner.Touches.{AreInRange}
use Rattle.obs_network.specs.inner.Edited.{ChangesAlone, IsBeforeBranch}
use Rattle.obs_network.specs.declared.following.Change.{Change}
use Rattle.obs_network.specs.inner.Following.{AreListedFar, followed, followed_items, is_near}
use Rattle.obs_network.specs.inner.Kept.{list_of, lists_of}
use Rattle.obs_network.specs.Located.{touch_component}
use Rattle.obs_network.specs.Switched.{case_bus_count, case_buses}
use Rattle.obs_network.specs.Network.{Components, Network, case_angles, case_branches, case_live, case_meters, case_offered, case_rows, case_vertex_count, network_of}
use Rattle.obs_network.specs.Touching.{candidate_touches, meter_touches}
use Rattle.obs_network.proofs.FollowedItems.{candidates_followed, component_far, followed_far, meters_followed}
use Rattle.obs_network.proofs.Fronts.{rows_are_first}
use Rattle.obs_network.proofs.Items.{meters-in_range}
use Rattle.obs_network.proofs.LoneChange.{graph_after, live_in_range, lone}
use Rattle.obs_network.proofs.OfCase.{length-case_branches, length-case_rows}
use Rattle.obs_network.proofs.RefreshedMeter.{length-lists_of}

-- the items before follow to those of the case after
pub record AreItemsOf (n : Network) (at : ℕ) (o : Option Ends) (after : Tables) : Type 0 where
  pub meters : map (followed (case_rows after) (get_or n.graph.ends at None) o) n.meters.touches ≡ case_meters after
  pub offered : map (followed (case_rows after) (get_or n.graph.ends at None) o) n.offered.touches ≡ case_offered after

-- the flag of one branch was set, and nothing else changes in the graph
module _ (t : Tables) (at : ℕ) (b : Bool) (o : Option Ends) (low : at < length t.branches) (changed : set (case_branches t) at o ≡ case_branches (with_branch_inservice t at b)) where
  abbrev put : Tables
  put = with_branch_inservice t at b

  rows_changed : case_rows put ≡ set (case_rows t) at o
  rows_changed =
      let len : length t.branches ≡ length put.branches = sym (length-changed (λ (row : Branch). record row { inservice = b }) t.branches at) in
      sym (rows_are_first put (case_branches put) (length t.branches) refl len)
      ∙ ap (λ l. take (length t.branches) l) (sym changed)
      ∙ take-set-lt (length t.branches) (case_branches t) at o low
      ∙ ap (λ l. set l at o) (rows_are_first t (case_branches t) (length t.branches) refl refl)

  row_before : get_or (case_branches t) at None ≡ get_or (case_rows t) at None
  unfolding case_branches
  row_before = get_or_append_left (case_rows t) (case_angles t) None at (omega (arith, low, length-case_rows t))

  abbrev follow : Touch → Touch
  follow = followed (case_rows put) (get_or (case_branches t) at None) o

  follow_is : (touches : List Touch) → map follow touches ≡ map (followed (set (case_rows t) at o) (get_or (case_rows t) at None) o) touches
  follow_is touches =
      ap (λ (l : List (Option Ends)). map (followed l (get_or (case_branches t) at None) o) touches) rows_changed
      ∙ ap (λ (x : Option Ends). map (followed (set (case_rows t) at o) x o) touches) row_before

  of_meters : map follow (meter_touches (case_rows t) (case_buses t) 0 t.meters) ≡ meter_touches (case_rows put) (case_buses t) 0 t.meters
  of_meters =
      follow_is (meter_touches (case_rows t) (case_buses t) 0 t.meters)
      ∙ meters_followed (case_rows t) at o (case_buses t) 0 t.meters
      ∙ ap (λ (l : List (Option Ends)). meter_touches l (case_buses t) 0 t.meters) (sym rows_changed)

  of_candidates : map follow (candidate_touches (case_rows t) (case_buses t) (length t.meters) t.candidates) ≡ candidate_touches (case_rows put) (case_buses t) (length t.meters) t.candidates
  of_candidates =
      follow_is (candidate_touches (case_rows t) (case_buses t) (length t.meters) t.candidates)
      ∙ candidates_followed (case_rows t) at o (case_buses t) (length t.meters) t.candidates
      ∙ ap (λ (l : List (Option Ends)). candidate_touches l (case_buses t) (length t.meters) t.candidates) (sym rows_changed)

  are_items : AreItemsOf (network_of t) at o put
  unfolding case_meters case_offered
  are_items = record {
    meters = of_meters;
    offered = map-append follow (meter_touches (case_rows t) (case_buses t) 0 t.meters) (candidate_touches (case_rows t) (case_buses t) (length t.meters) t.candidates)
        ∙ ap (λ (l : List Touch). l ++ map follow (candidate_touches (case_rows t) (case_buses t) (length t.meters) t.candidates)) of_meters
        ∙ ap (λ (l : List Touch). meter_touches (case_rows put) (case_buses t) 0 t.meters ++ l) of_candidates;
  }

items_lone : (n : Network) (at : ℕ) (after : Tables) → IsValid after → at < length after.branches → IsBeforeBranch n at after
    → ChangesAlone n.components (take (length after.branches) n.graph.ends) at (slice_index_or (case_live after) at None)
    → (o : Option Ends) → o ≡ slice_index_or (case_live after) at None → AreItemsOf n at o after
items_lone n at after v low before alone o is =
    let t = before.tables in
    let put = with_branch_inservice t at before.inservice in
    let ends = ap (set n.graph.ends at) is ∙ (lone n at after v low before alone).ends in
    let low_put : at < length put.branches = subst (λ (u : Tables). at < length u.branches) before.edited low in
    let len : length put.branches ≡ length t.branches = length-changed (λ (row : Branch). record row { inservice = before.inservice }) t.branches at in
    let of_put : set n.graph.ends at o ≡ case_branches put = subst (λ (u : Tables). set n.graph.ends at o ≡ case_branches u) before.edited ends in
    let base = are_items t at before.inservice o (omega (arith, low_put, len)) (subst (λ (m : Network). set m.graph.ends at o ≡ case_branches put) before.network of_put) in
    subst (λ (u : Tables). AreItemsOf n at o u) (sym before.edited) (subst (λ (m : Network). AreItemsOf m at o put) (sym before.network) base)

-- the meters stand first among what is offered
offered_first : (n : Network) (at : ℕ) (after : Tables) → IsBeforeBranch n at after → take (length n.meters.touches) n.offered.touches ≡ n.meters.touches
unfolding case_meters case_offered
offered_first n at after before =
    let t = before.tables in
    subst (λ (m : Network). take (length m.meters.touches) m.offered.touches ≡ m.meters.touches) (sym before.network)
    (take-append_seam (meter_touches (case_rows t) (case_buses t) 0 t.meters) (candidate_touches (case_rows t) (case_buses t) (length t.meters) t.candidates))

-- a meter that touches nothing near the row stands in its list
pub listed_far : (components : Components) (graph now : Graph) (meters : Meters) (rows : List (Option Ends)) (change : Change) (lists : List ℕ)
    → change.before ≡ get_or graph.ends change.at None → now.ends ≡ set graph.ends change.at change.after → lists ≡ lists_of components graph meters
    → AreListedFar rows change components now meters lists
listed_far components graph now meters rows change lists was ends is = λ m low far.
    let list : List (Option Ends) → Touch → ℕ = λ l t. list_of (length components.first_buses) (touch_component components.of_buses l t) in
    let follow : Touch → Touch = followed rows change.before change.after in
    let touch = get_or meters.touches m Nothing in
    let there : m < length meters.touches = omega (arith, low, ap (λ (l : List ℕ). length l) is, length-lists_of components graph meters) in
    let still : follow touch ≡ touch = followed_far rows change.at change.before change.after touch far in
    let lies : list now.ends touch ≡ list graph.ends touch =
    ap (λ l. list l touch) ends ∙ ap (list_of (length components.first_buses)) (component_far components.of_buses graph.ends change.at change.after touch (ap (λ x. is_near change.at x change.after touch) (sym was) ∙ far)) in
    let all : m < length (map follow meters.touches) = omega (arith, there, length-map meters.touches follow) in
    ap (λ l. get_or l m 0) is ∙ get_or-map (list graph.ends) meters.touches m Nothing 0 there ∙ sym lies
    ∙ ap (list now.ends) (sym (get_or-map follow meters.touches m Nothing Nothing there ∙ still)) ∙ sym (get_or-map (list now.ends) (map follow meters.touches) m Nothing 0 all)

-- ends that are below a number are below a greater one
within : (n m : ℕ) (o : Option Ends) → n ≤ m → IfSome o (λ x. (x.a < n) × (x.b < n)) → IfSome o (λ x. (x.a < m) × (x.b < m))
within n m None le i = tt
within n m (Some x) le i = (omega (arith, le, i.0), omega (arith, le, i.1))

-- the graph with the row changed, and what the items touch once they followed
pub record IsFollowed (s : Network) (change : Change) (after : Tables) (rows : ℕ) (g : Graph) : Type 0 where
  pub vertices : g.vertices ≡ case_vertex_count after
  pub ends : g.ends ≡ case_branches after
  pub few : rows ≤ length g.ends
  pub was : change.before ≡ get_or s.graph.ends change.at None
  pub after_low : IfSome change.after (λ x. (x.a < g.vertices) × (x.b < g.vertices))
  pub first : take (length s.meters.touches) s.offered.touches ≡ s.meters.touches
  pub meters : (followed_items (take rows g.ends) change s.meters).touches ≡ case_meters after
  pub offered : (followed_items (take rows g.ends) change s.offered).touches ≡ case_offered after
  pub in_range : AreInRange g (followed_items (take rows g.ends) change s.meters).touches

pub follows : (s n : Network) (change : Change) (after : Tables) → IsValid after → change.at < length after.branches → IsBeforeBranch n change.at after
    → ChangesAlone n.components (take (length after.branches) n.graph.ends) change.at (slice_index_or (case_live after) change.at None)
    → s ≡ n → change.before ≡ get_or s.graph.ends change.at change.before → change.after ≡ slice_index_or (case_live after) change.at None
    → (rows : ℕ) → rows ≡ length after.branches → (g : Graph) → g ≡ record s.graph { ends = set s.graph.ends change.at change.after } → IsFollowed s change after rows g
follows s n change after v low edited alone is is_before is_after rows is_rows g is_g =
    let at = change.at in
    let o = change.after in
    let lone_one = lone n at after v low edited alone in
    let of = graph_after s n at after o is lone_one is_after g is_g in
    let here : at < length s.graph.ends = subst (λ (x : Network). at < length x.graph.ends) (sym is) lone_one.low in
    let was = is_before ∙ get_or_default s.graph.ends at change.before None here in
    let first = rows_are_first after g.ends rows of.1 is_rows in
    let items = items_lone n at after v low edited alone o is_after in
    let now : List Touch → List Touch = λ l. map (followed (take rows g.ends) change.before o) l in
    let same : (l : List Touch) → now l ≡ map (followed (case_rows after) (get_or n.graph.ends at None) o) l = λ l.
    ap (λ r. map (followed r change.before o) l) first
    ∙ ap (λ x. map (followed (case_rows after) x o) l) (was ∙ ap (λ (x : Network). get_or x.graph.ends at None) is) in
    let meters : now s.meters.touches ≡ case_meters after = ap (λ (x : Network). now x.meters.touches) is ∙ same n.meters.touches ∙ items.meters in
    let offered : now s.offered.touches ≡ case_offered after = ap (λ (x : Network). now x.offered.touches) is ∙ same n.offered.touches ∙ items.offered in
    record {
      vertices = of.0;
      ends = of.1;
      few = omega (arith, is_rows, ap (λ (l : List (Option Ends)). length l) of.1, length-case_branches after);
      was = was;
      after_low = within (case_bus_count after) g.vertices o (omega (arith, of.0)) (live_in_range after v at (case_bus_count after) low refl o is_after);
      first = subst (λ (x : Network). take (length x.meters.touches) x.offered.touches ≡ x.meters.touches) (sym is) (offered_first n at after edited);
      meters = meters;
      offered = offered;
      in_range = subst (λ (l : List Touch). AreInRange g l) (sym meters) (meters-in_range after v g of.0 of.1);
    }
