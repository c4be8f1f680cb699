-- What is read off the network of a case, and the room for its pairs.
use Rattle.std.proofs.Common.{◌≡◌, ℕ, length, sym, ap, ◌∙◌, subst, arith}
use Rattle.obs_graph.specs.Graph.{Graph}
use Rattle.obs_graph.specs.Positions.{AreBranches}
use Rattle.obs_case.specs.Tables.{IsValid, Tables}
use Rattle.obs_meter.specs.Held.{Meters}
use Rattle.obs_meter.specs.inner.Sizes.{HasRoomFor, Sizes}
use Rattle.obs_meter.specs.Touches.{every_item}
use Rattle.obs_assign.specs.Assignment.{Assignment}
use Rattle.obs_assign.specs.inner.Assignment.{Fits, HasRoomOf}
use Rattle.obs_exchange.specs.inner.Found.{Work}
use Rattle.obs_exchange.specs.inner.Longest.{IsLongest, IsMost}
use Rattle.obs_network.specs.Network.{Network, case_branches, case_meters, case_needed, case_vertex_room, network_of}
use Rattle.obs_network.specs.inner.Network.{case_position_count}
use Rattle.obs_network.proofs.Observed.{most_pairs}
use Rattle.obs_network.proofs.OfCase.{case_branches-are, case_vertex_count-le, length-case_branches, length-case_meters}
use Rattle.obs_kept.specs.inner.Kept.{AreLongest, HasRoomOver, network_sizes}

-- the room for a case's pairs is enough for its network
fits_case : (t : Tables) (a : Assignment) (w : Work) → HasRoomOver (network_of t) a w → Fits a (network_of t).graph (case_meters t)
fits_case t a w r = record {
  meters = let p = r.pair_meters in omega (arith, p, length-case_meters t);
  vertices = let p = r.pair_vertices in omega (arith, p, case_vertex_count-le t);
  branches = let p = r.pair_branches in omega (arith, p);
}

room_case : (t : Tables) (s : Sizes) → s ≡ network_sizes (network_of t) → HasRoomFor s (network_of t).graph (case_meters t)
room_case t s e = record {
  meters = let r = ap (λ (x : Sizes). x.meters) e in omega (arith, r, length-case_meters t);
  branches = let r = ap (λ (x : Sizes). x.branches) e in omega (arith, r);
  vertices = let r = ap (λ (x : Sizes). x.vertices) e in omega (arith, r, case_vertex_count-le t);
}

-- the needed number bounds the pairs
most_case : (t : Tables) → IsValid t → IsMost (case_branches t) (case_meters t) (case_needed t)
most_case t v = λ B x. most_pairs t v (case_meters t) (every_item (case_meters t)) B x

-- a network of a case, its graph and its meters
module _ (n : Network) (t : Tables) (same : n ≡ network_of t) (g : Graph) (is_graph : g ≡ n.graph) (ms : Meters) (are_meters : ms ≡ n.meters) where
  graph_is : g ≡ (network_of t).graph
  graph_is = is_graph ∙ ap (λ (x : Network). x.graph) same

  meters_are : ms ≡ (network_of t).meters
  meters_are = are_meters ∙ ap (λ (x : Network). x.meters) same

  -- what is so of the network of the case is so of the graph and the meters
  from_case : (P : Graph → Meters → Type 0) → P (network_of t).graph (network_of t).meters → P g ms
  from_case P p = subst (λ (h : Graph). P h ms) (sym graph_is) (subst (λ (i : Meters). P (network_of t).graph i) (sym meters_are) p)

  to_case : (P : Graph → Meters → Type 0) → P g ms → P (network_of t).graph (network_of t).meters
  to_case P p = subst (λ (h : Graph). P h (network_of t).meters) graph_is (subst (λ (i : Meters). P g i) meters_are p)

  pub fits_network : (a : Assignment) (w : Work) → HasRoomOver n a w → Fits a g ms.touches
  fits_network a w r = from_case (λ h i. Fits a h i.touches) (fits_case t a w (subst (λ (x : Network). HasRoomOver x a w) same r))

  pub room_network : (a : Assignment) (w : Work) → HasRoomOver n a w → HasRoomFor w.sizes g ms.touches
  room_network a w r =
      from_case (λ h i. HasRoomFor w.sizes h i.touches) (room_case t w.sizes (subst (λ (x : Network). HasRoomOver x a w) same r).work)

  -- the branches lie between the vertices
  pub branches_network : IsValid t → AreBranches g.vertices g.ends
  branches_network v = from_case (λ h _. AreBranches h.vertices h.ends) (case_branches-are t v)

  pub most_network : (k : ℕ) → IsValid t → k ≡ n.needed → IsMost g.ends ms.touches k
  most_network k v needed =
      let ks : k ≡ case_needed t = needed ∙ ap (λ (x : Network). x.needed) same in
      from_case (λ h i. IsMost h.ends i.touches k) (subst (λ (x : ℕ). IsMost (case_branches t) (case_meters t) x) (sym ks) (most_case t v))

  pub longest_network : (a : Assignment) → IsLongest g ms.touches a → AreLongest t a
  longest_network a h = to_case (λ h i. IsLongest h i.touches a) h

-- the room stays where the sizes do
pub room_stays : (n : Network) (a b : Assignment) (w x : Work) → HasRoomOver n a w → HasRoomOf a b → x.sizes ≡ w.sizes → HasRoomOver n b x
room_stays n a b w x r s e = record {
  pair_meters = s.meters ∙ r.pair_meters;
  pair_branches = s.branches ∙ r.pair_branches;
  pair_vertices = s.vertices ∙ r.pair_vertices;
  work = e ∙ r.work;
}

-- what is made for the numbers of rows of a case has room for its pairs
pub room_made : (t : Tables) (n : Network) (a : Assignment) (w : Work) (m p v : ℕ) → n ≡ network_of t → m ≡ length t.meters → p ≡ case_position_count t → v ≡ case_vertex_room t
    → a.most_meters ≡ m → a.forest.most_branches ≡ p → a.forest.most_vertices ≡ v → w.sizes ≡ record { meters = m; branches = p; vertices = v } → HasRoomOver n a w
room_made t n a w m p v same im ip iv am ab av ws =
    let positions : p ≡ length (case_branches t) = ip ∙ sym (length-case_branches t) in
    let of : ℕ → ℕ → ℕ → Sizes = λ x y z. record { meters = x; branches = y; vertices = z } in
    subst (λ (x : Network). HasRoomOver x a w) (sym same)
    (record {
      pair_meters = am ∙ im;
      pair_branches = ab ∙ positions;
      pair_vertices = av ∙ iv;
      work = ws ∙ ap (λ x. of x p v) im ∙ ap (λ y. of (length t.meters) y v) positions ∙ ap (λ z. of (length t.meters) (length (case_branches t)) z) iv;
    })
