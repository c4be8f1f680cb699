-- What is offered in a case, as its network has it, and the room for it.
use Rattle.std.proofs.Common.{◌≡◌, ℕ, ◌+◌, List, Option, length, ap, ◌∙◌, arith}
use Rattle.std.proofs.lemmas.List.{length-map}
use Rattle.obs_graph.specs.declared.Ends.{Ends}
use Rattle.obs_graph.specs.Graph.{Graph}
use Rattle.obs_case.specs.Tables.{Tables, prices_of}
use Rattle.obs_case.specs.declared.rows.Candidate.{Candidate}
use Rattle.obs_meter.specs.declared.Touch.{Touch}
use Rattle.obs_meter.specs.Held.{Meters}
use Rattle.obs_meter.specs.inner.Sizes.{HasRoomFor, Sizes}
use Rattle.obs_network.specs.Network.{Network, case_branches, case_needed, case_offered, case_vertex_count, network_of}
use Rattle.obs_network.proofs.OfCase.{case_vertex_count-le, length-case_branches, length-case_offered}
use Rattle.obs_edit.specs.inner.Planned.{offered_room}

module _ (t : Tables) (n : Network) (g : Graph) (i : Meters) (same : n ≡ network_of t) (graph_is : g ≡ (network_of t).graph) (offered : i ≡ n.offered) where
  touches_are : i.touches ≡ case_offered t
  touches_are = ap (λ (x : Meters). x.touches) offered ∙ ap (λ (x : Network). x.offered.touches) same

  pub offered_count : (meters : ℕ) (prices : List ℕ) → meters ≡ length t.meters → prices ≡ prices_of t.candidates → length i.touches ≡ meters + length prices
  offered_count meters prices count priced =
      let all = ap length touches_are ∙ length-case_offered t in
      let each = ap length priced ∙ length-map t.candidates (λ (row : Candidate). row.price) in
      omega (arith, all, each, count)

  pub room_of_offered : (s : Sizes) → s ≡ offered_room t → HasRoomFor s g i.touches
  room_of_offered s rows = record {
    meters = let all = ap length touches_are ∙ length-case_offered t in let r = ap (λ (x : Sizes). x.meters) rows in omega (arith, all, r);
    branches = let e = ap (λ (x : Graph). length x.ends) graph_is ∙ length-case_branches t in let r = ap (λ (x : Sizes). x.branches) rows in omega (arith, e, r);
    vertices = let e = ap (λ (x : Graph). x.vertices) graph_is in let r = ap (λ (x : Sizes). x.vertices) rows in omega (arith, e, r, case_vertex_count-le t);
  }

  -- what is worked out of the network is so out of the case
  pub at_case : {X : Type 0} (f : ℕ → List (Option Ends) → List Touch → ℕ → List ℕ → ℕ → X) (meters needed : ℕ) (prices : List ℕ)
      → meters ≡ length t.meters → needed ≡ n.needed → prices ≡ prices_of t.candidates
      → f g.vertices g.ends i.touches meters prices needed ≡ f (case_vertex_count t) (case_branches t) (case_offered t) (length t.meters) (prices_of t.candidates) (case_needed t)
  at_case f meters needed prices count need priced =
      ap (λ (x : Graph). f x.vertices x.ends i.touches meters prices needed) graph_is
      ∙ (ap (λ (x : List Touch). f (case_vertex_count t) (case_branches t) x meters prices needed) touches_are
      ∙ (ap (λ (x : ℕ). f (case_vertex_count t) (case_branches t) (case_offered t) x prices needed) count
      ∙ (ap (λ (x : List ℕ). f (case_vertex_count t) (case_branches t) (case_offered t) (length t.meters) x needed) priced
      ∙ ap (λ (x : ℕ). f (case_vertex_count t) (case_branches t) (case_offered t) (length t.meters) (prices_of t.candidates) x) (need ∙ ap (λ (x : Network). x.needed) same))))
