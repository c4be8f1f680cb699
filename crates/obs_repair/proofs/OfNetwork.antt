-- What is read off the network of a case, and the room for it.
use Rattle.std.proofs.Common.{◌≡◌, ℕ, ◌≤◌, length, sym, ap, subst, arith}
use Rattle.std.proofs.lemmas.List.{length-map}
use Rattle.obs_graph.specs.Graph.{Graph}
use Rattle.obs_case.specs.Tables.{IsValid, Tables, most_rows}
use Rattle.obs_meter.specs.Held.{Meters}
use Rattle.obs_meter.specs.inner.Sizes.{HasRoomFor, Sizes}
use Rattle.obs_meter.specs.Touches.{every_item}
use Rattle.obs_meter.proofs.Assigned.{rho_at-unique}
use Rattle.obs_assign.specs.Assignment.{Assignment}
use Rattle.obs_assign.specs.inner.Assignment.{Fits, pairs}
use Rattle.obs_exchange.specs.inner.Found.{Work}
use Rattle.obs_network.specs.Network.{case_branches, case_meters, case_needed, network_of}
use Rattle.obs_network.specs.Observable.{case_live_meters, case_rank}
use Rattle.obs_network.proofs.FewLost.{rank_is}
use Rattle.obs_network.proofs.OfCase.{case_vertex_count-le, length-case_branches, length-case_meters}
use Rattle.obs_network.proofs.Observed.{most_pairs}
use Rattle.obs_exchange.specs.inner.Longest.{IsLongest, IsMost}
use Rattle.obs_kept.specs.inner.Kept.{AreLongest}
use Rattle.obs_repair.specs.inner.Kept.{HasRoom, case_room}

pub few_meters : (t : Tables) → IsValid t → length (case_meters t) ≤ most_rows
few_meters t v =
    let few = v.meters.few in
    let limit = v.limit in
    omega (arith, few, limit, length-map t.meters (λ row. row.name), length-case_meters t)

pub fits_case : (t : Tables) (a : Assignment) (w : Work) → HasRoom t a w → Fits a (network_of t).graph (case_meters t)
fits_case t a w r = record {
  meters = let p = r.pair_meters in omega (arith, p, length-case_meters t);
  vertices = let p = r.pair_vertices in omega (arith, p, case_vertex_count-le t);
  branches = let p = r.pair_branches in omega (arith, p, length-case_branches t);
}

pub fits_network : (t : Tables) (g : Graph) (i : Meters) (a : Assignment) (w : Work) → g ≡ (network_of t).graph → i ≡ (network_of t).meters → HasRoom t a w → Fits a g i.touches
fits_network t g i a w graph meters r =
    subst (λ (h : Graph). Fits a h i.touches) (sym graph) (subst (λ (j : Meters). Fits a (network_of t).graph j.touches) (sym meters) (fits_case t a w r))

-- the needed number bounds the pairs
pub most_of_network : (t : Tables) (g : Graph) (i : Meters) (k : ℕ) → IsValid t → g ≡ (network_of t).graph → i ≡ (network_of t).meters → k ≡ case_needed t → IsMost g.ends i.touches k
most_of_network t g i k v graph meters needed =
    let most : IsMost (case_branches t) (case_meters t) (case_needed t) = λ B x. most_pairs t v (case_meters t) (every_item (case_meters t)) B x in
    subst (λ (h : Graph). IsMost h.ends i.touches k) (sym graph)
    (subst (λ (j : Meters). IsMost (case_branches t) j.touches k) (sym meters) (subst (λ (x : ℕ). IsMost (case_branches t) (case_meters t) x) (sym needed) most))

-- what is the longest over the graph and the meters of the network is so over those of the case
pub IsLongest-of_network : (t : Tables) (g : Graph) (i : Meters) (a : Assignment) → g ≡ (network_of t).graph → i ≡ (network_of t).meters → IsLongest g i.touches a → AreLongest t a
IsLongest-of_network t g i a graph meters h =
    subst (λ (h : Graph). IsLongest h (case_meters t) a) graph (subst (λ (j : Meters). IsLongest g j.touches a) meters h)

-- what was made for the rows of a case has room for its network
pub room_of_rows : (t : Tables) (s : Sizes) (g : Graph) (ms : Meters) → g ≡ (network_of t).graph → ms ≡ (network_of t).meters → s ≡ case_room t → HasRoomFor s g ms.touches
room_of_rows t s g ms gg mm e = record {
  meters = let r = ap (λ (x : Sizes). x.meters) e in let m = ap (λ (i : Meters). length i.touches) mm in omega (arith, r, m, length-case_meters t);
  branches = let r = ap (λ (x : Sizes). x.branches) e in let b = ap (λ (x : Graph). length x.ends) gg in omega (arith, r, b, length-case_branches t);
  vertices = let r = ap (λ (x : Sizes). x.vertices) e in let v = ap (λ (x : Graph). x.vertices) gg in omega (arith, r, v, case_vertex_count-le t);
}

-- the number of pairs is the rank
pub rank_of_longest : (t : Tables) → IsValid t → (a : Assignment) → AreLongest t a → length (pairs a) ≡ case_rank t
rank_of_longest t v a h = rho_at-unique (case_branches t) (case_meters t) (case_live_meters t) (length (pairs a)) (case_rank t) h.longest (rank_is t v)
