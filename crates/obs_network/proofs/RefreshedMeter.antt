-- A network after the flag of one meter was set.
use Rattle.std.proofs.Common.{◌≡◌, ℕ, ◌+◌, ◌<◌, ◌≤◌, Bool, List, length, get_or, set, refl, sym, ap, ◌∙◌, subst, arith}
use Rattle.std.proofs.lemmas.List.{get_or-set_same, length-map, map-set}
use Rattle.obs_case.specs.declared.rows.Meter.{Meter}
use Rattle.obs_case.specs.Flags.{with_meter_inservice}
use Rattle.obs_case.specs.Tables.{Tables}
use Rattle.obs_meter.specs.declared.Touch.{Touch}
use Rattle.obs_meter.specs.declared.Touch.TheVariants.{Nothing}
use Rattle.obs_network.specs.Switched.{case_bus_count, case_buses}
use Rattle.obs_network.specs.Network.{Components, Network, case_absolute, case_branches, case_component_count, case_components, case_energised, case_first_buses, case_live, case_meters, case_needed, case_offered, case_sizes, case_vertex_count, network_of}
use Rattle.obs_graph.specs.Graph.{Graph}
use Rattle.obs_meter.specs.Held.{Meters}
use Rattle.obs_network.specs.inner.Kept.{list_of, lists_of}
use Rattle.obs_network.specs.Located.{touch_component}
use Rattle.obs_network.specs.inner.Edited.{IsBeforeMeter}
use Rattle.obs_network.proofs.Edited.{branches-with_meter, meters-with_meter, offered-with_meter}
use Rattle.obs_network.proofs.OfCase.{length-case_meters, length-case_offered}
use Rattle.obs_network.proofs.OfLaws.{length-changed_at, rows-with_meter}
use Rattle.obs_network.proofs.Whole.{items_are, network_is, shape_is}

-- the network with one item's touch changed
abbrev pub with_touch : Network → ℕ → Touch → Network
with_touch n m touch = record n {
  meters = record n.meters { touches = set n.meters.touches m touch };
  offered = record n.offered { touches = set n.offered.touches m touch };
}

-- the network before is that after, but for one touch
pub record AreAfter (n : Network) (after : Tables) (m : ℕ) : Type 0 where
  pub item : m < length n.meters.touches
  pub item_offered : m < length n.offered.touches
  pub few : length n.meters.touches ≤ n.meters.most
  pub few_offered : length n.offered.touches ≤ n.offered.most
  pub meters : set n.meters.touches m (get_or (case_meters after) m Nothing) ≡ case_meters after
  pub offered : set n.offered.touches m (get_or (case_meters after) m Nothing) ≡ case_offered after
  pub buses : n.buses.buses ≡ case_buses after
  pub count : n.buses.count ≡ case_bus_count after
  pub vertices : n.graph.vertices ≡ case_vertex_count after
  pub ends : n.graph.ends ≡ case_branches after
  pub whole : with_touch n m (get_or (case_meters after) m Nothing) ≡ network_of after

module _ (t : Tables) (m : ℕ) (inservice : Bool) (low : m < length (with_meter_inservice t m inservice).meters) where
  abbrev after : Tables
  after = with_meter_inservice t m inservice

  abbrev touch : Touch
  touch = get_or (case_meters after) m Nothing

  there : m < length t.meters
  there = omega (arith, low, length-changed_at (λ (r : Meter). record r { inservice = inservice }) m t.meters)

  of_meters : set (case_meters t) m touch ≡ case_meters after
  of_meters = sym (meters-with_meter t m inservice)

  of_offered : set (case_offered t) m touch ≡ case_offered after
  of_offered = sym (offered-with_meter t m inservice there)

  whole : with_touch (network_of t) m touch ≡ network_of after
  unfolding case_absolute case_components case_component_count case_energised case_first_buses case_live case_needed case_sizes
  whole =
      let rows = sym (rows-with_meter t m inservice) in
      let same = length-changed_at (λ (r : Meter). record r { inservice = inservice }) m t.meters in
      let more = ap (λ k. k + length t.candidates) (sym same) in
      network_is (with_touch (network_of t) m touch) (network_of after) rows refl refl (shape_is _ _ refl (sym (branches-with_meter t m inservice)) refl (ap (λ k. length t.branches + k) more))
      (items_are _ _ of_meters (sym same)) (items_are _ _ of_offered more) refl

  are_after : AreAfter (network_of t) after m
  unfolding case_component_count case_live
  are_after = record {
    item = omega (arith, there, length-case_meters t);
    item_offered = omega (arith, there, length-case_offered t);
    few = omega (arith, length-case_meters t);
    few_offered = omega (arith, length-case_offered t);
    meters = of_meters;
    offered = of_offered;
    buses = refl;
    count = refl;
    vertices = refl;
    ends = sym (branches-with_meter t m inservice);
    whole = whole;
  }

pub meter_edited : (n : Network) (m : ℕ) (after : Tables) → IsBeforeMeter n m after → m < length after.meters → AreAfter n after m
meter_edited n m changed before low =
    let t = before.tables in
    let w = with_meter_inservice t m before.inservice in
    let base = are_after t m before.inservice (subst (λ (x : Tables). m < length x.meters) before.edited low) in
    subst (λ (x : Tables). AreAfter n x m) (sym before.edited) (subst (λ (x : Network). AreAfter x w m) (sym before.network) base)

-- the lists of meters, where one of them moved to the list of what it touches now
pub lists-set : (components : Components) (graph : Graph) (meters after : Meters) (m : ℕ) (touch kind : Touch) → m < length meters.touches → after ≡ record meters { touches = set meters.touches m touch } → kind ≡ get_or after.touches m Nothing
    → (old new : List ℕ) → old ≡ lists_of components graph meters → new ≡ set old m (list_of (length components.first_buses) (touch_component components.of_buses graph.ends kind)) → new ≡ lists_of components graph after
lists-set components graph meters changed m touch kind low is is_kind old new was made =
    let list : Touch → ℕ = λ t. list_of (length components.first_buses) (touch_component components.of_buses graph.ends t) in
    let same : kind ≡ touch = is_kind ∙ ap (λ (i : Meters). get_or i.touches m Nothing) is ∙ get_or-set_same meters.touches m touch Nothing low in
    made ∙ ap (λ k. set old m (list k)) same ∙ ap (λ l. set l m (list touch)) was ∙ sym (map-set list meters.touches m touch) ∙ ap (λ (i : Meters). lists_of components graph i) (sym is)

pub length-lists_of : (components : Components) (graph : Graph) (meters : Meters) → length (lists_of components graph meters) ≡ length meters.touches
length-lists_of components graph meters = length-map meters.touches (λ t. list_of (length components.first_buses) (touch_component components.of_buses graph.ends t))
