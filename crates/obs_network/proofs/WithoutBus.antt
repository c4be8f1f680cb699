-- The parts of a network agree before it has a bus.
use Rattle.std.proofs.Common.{◌≡◌, ◌+◌, ◌*◌, ◌≤◌, ℕ, Option, List, [], length, refl, sym, ap, ◌∙◌}
use Rattle.std.proofs.lemmas.List.Elements.{All-nil}
use Rattle.obs_graph.specs.declared.Ends.{Ends}
use Rattle.obs_graph.specs.Graph.{Graph}
use Rattle.obs_graph.specs.inner.Search.{State, room_of}
use Rattle.obs_switch.specs.declared.link.Link.{Link}
use Rattle.obs_switch.specs.Held.{Buses}
use Rattle.obs_meter.specs.declared.Touch.{Touch}
use Rattle.obs_meter.specs.Held.{Meters}
use Rattle.obs_meter.specs.inner.Touches.{IsInRange}
use Rattle.obs_network.specs.inner.Kept.{AreParts, Listed}
use Rattle.obs_network.specs.Network.{Components}
use Rattle.obs_network.specs.inner.Sides.{Sides}

abbrev pub no_buses : ℕ → Buses
no_buses most = record { buses = []; count = 0; most_nodes = most }

abbrev pub no_components : ℕ → Components
no_components most = record { of_buses = []; first_buses = []; sizes = []; energised = []; absolute = []; most_buses = most }

abbrev pub no_graph : ℕ → ℕ → Graph
no_graph vertices branches = record { vertices = 0; ends = []; most_vertices = vertices; most_branches = branches }

abbrev pub no_meters : ℕ → Meters
no_meters most = record { touches = []; most = most }

abbrev pub none_listed : ℕ → ℕ → Listed
none_listed meters components = record { lists = []; components = 0; most_meters = meters; most_components = components }

-- so much room for nodes, branches, meters and items
pub parts_without_bus : (n b m o : ℕ) (links : List Link) (live kept : List (Option Ends)) (touches : List Touch) (walk : State) (sides : Sides) → length live ≡ b → length kept ≡ b + o → length touches ≡ o → m ≤ o → room_of walk ≡ n → sides.most_vertices ≡ 2 * n → AreParts links live kept touches walk (no_buses n) (no_components n) (no_graph (2 * n) (b + o)) (no_meters m) (no_meters o) (none_listed m n) sides
parts_without_bus n b m o links live kept touches walk sides lives keeps touch fewer room vertices = record {
  buses_room = refl;
  vertices_room = refl;
  branches_room = ap (λ k. k + o) (sym lives);
  kept_len = keeps ∙ ap (λ k. k + o) (sym lives);
  kept_ends = refl;
  touches_len = touch;
  fewer = fewer;
  search_room = room;
  sides_room = vertices;
  vertices = refl;
  of_buses = refl;
  meters_in_range = All-nil (IsInRange (no_graph (2 * n) (b + o)));
  offered_in_range = All-nil (IsInRange (no_graph (2 * n) (b + o)));
  listed_meters = refl;
  listed_components = refl;
  listed_count = refl;
  lists = refl;
}
