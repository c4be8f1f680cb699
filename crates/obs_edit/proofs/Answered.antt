-- The first assignment and the islands over the parts of a network.
use Rattle.std.proofs.Common.{◌≡◌, ℕ, List, Some, length, sym, ap, ◌∙◌, arith}
use Rattle.obs_graph.specs.Graph.{Graph}
use Rattle.obs_case.specs.Tables.{IsValid, Tables}
use Rattle.obs_matroid.specs.Assignments.{Pair}
use Rattle.obs_meter.specs.Held.{Meters}
use Rattle.obs_meter.proofs.Assigned.{every-to_live, live-to_every}
use Rattle.obs_assign.specs.Assignment.{Assignment}
use Rattle.obs_assign.specs.inner.Assignment.{IsWhole, StandsOver, pairs}
use Rattle.obs_exchange.specs.inner.Laws.{IsThawed}
use Rattle.obs_first.specs.First.{first_pairs}
use Rattle.obs_first.proofs.Lawful.{first_pairs-is}
use Rattle.obs_islands.specs.Firsts.{islands_of}
use Rattle.obs_network.specs.Network.{case_branches, case_meters, case_vertex_count, network_of}
use Rattle.obs_network.proofs.OfCase.{case_branches-are}
use Rattle.obs_assign.proofs.Slotted.{some_same}
use Rattle.obs_edit.specs.Answers.{case_first_pairs, case_islands}
use Rattle.obs_edit.specs.inner.Sessions.{case_bound}
use Rattle.obs_repair.specs.Bounds.{bound_meters, bound_outside, bound_rank}
use Rattle.obs_kept.specs.inner.Kept.{AreLongest}

pub first_of_network : (t : Tables) (g : Graph) (ms : Meters) → g ≡ (network_of t).graph → ms ≡ (network_of t).meters → first_pairs g.vertices g.ends ms.touches ≡ case_first_pairs t
unfolding case_first_pairs
first_of_network t g ms gg mm =
    ap (λ (x : Graph). first_pairs x.vertices x.ends ms.touches) gg ∙ ap (λ (i : Meters). first_pairs (case_vertex_count t) (case_branches t) i.touches) mm

pub islands_of_network : (t : Tables) (g : Graph) (ms : Meters) → g ≡ (network_of t).graph → ms ≡ (network_of t).meters → islands_of g.vertices g.ends ms.touches ≡ case_islands t
unfolding case_islands
islands_of_network t g ms gg mm =
    ap (λ (x : Graph). islands_of x.vertices x.ends ms.touches) gg ∙ ap (λ (i : Meters). islands_of (case_vertex_count t) (case_branches t) i.touches) mm

-- the first assignment is a longest one
pub IsLongest-first : (t : Tables) → IsValid t → (a : Assignment) → StandsOver a (network_of t).graph (case_meters t) → IsWhole a → IsThawed a → pairs a ≡ case_first_pairs t → AreLongest t a
unfolding case_first_pairs
IsLongest-first t v a stands whole thawed same =
    let n = case_vertex_count t in
    let ends = case_branches t in
    let touches = case_meters t in
    let f = first_pairs-is n ends touches (case_branches-are t v) in
    record {
      stands = stands;
      whole = whole;
      thawed = thawed;
      longest = record {
        longest = first_pairs n ends touches;
        assigns = every-to_live ends touches (first_pairs n ends touches) f.assigns;
        long = ap (λ (A : List Pair). length A) (sym same);
        none_longer = λ B x. let few = f.longest B (live-to_every ends touches B x) in let l = ap (λ (A : List Pair). length A) same in omega (arith, few, l);
      };
    }

-- what was measured for a component is its bound
pub bound_answer : (t : Tables) (c : ℕ) (inside : List ℕ) (rank outside : ℕ) → inside ≡ bound_meters t c → rank ≡ bound_rank t c → outside ≡ bound_outside t c
    → (k : ℕ) → Some c ≡ Some k → record { inside = inside; rank = rank; outside = outside } ≡ case_bound t k
bound_answer t c inside rank outside i r o k e = rw (i, r, o) (ap (case_bound t) (some_same c k e))
