-- The islands of a trial are counted by their first buses.
use Rattle.std.proofs.Common.{◌≡◌, ℕ, ◌<◌, Bool, true, arith, sym, subst, ◌∙◌}
use Rattle.std.specs.Prelude.{◌==◌, slice_index}
use Rattle.std.proofs.lemmas.Bool.{and_from, and_parts, eq-eqb, eqb-true}
use Rattle.obs_case.specs.Tables.{IsValid, Tables}
use Rattle.obs_network.specs.Network.{case_vertex_count}
use Rattle.obs_network.specs.Observable.{is_energised_component}
use Rattle.obs_network.specs.Switched.{case_bus_count}
use Rattle.obs_network.proofs.Vertices.{case_vertex_component-bus}
use Rattle.obs_report.specs.Islands.{is_energised_bus}
use Rattle.obs_edit.specs.Answers.{case_islands}
use Rattle.obs_edit.specs.Laws.{IsIslandOf}
use Rattle.obs_edit.proofs.NamedIslands.{islands_are_named, islands_begin_with_buses, islands_tell_apart}
use Rattle.obs_edit.proofs.OneIsland.{islands_lie_in_components}
use Rattle.obs_engine.specs.inner.Laws.{IslandsAreCounted}
use Rattle.obs_engine.specs.Trials.{is_first_of_island}

module _ (t : Tables) (v : IsValid t) (S : ℕ → Bool) (island : IsIslandOf t S) (b : ℕ) (low : b < case_bus_count t) (has : S b ≡ true) where
  vertex : (u : ℕ) → u < case_bus_count t → u < case_vertex_count t
  vertex u l = omega (arith, l)

  abbrev first : ℕ
  first = slice_index (case_islands t) b

  first_low : first < case_bus_count t
  first_low = islands_begin_with_buses t b v low

  -- the first bus of the island is one of it
  first_has : S first ≡ true
  first_has =
      let s = islands_are_named t b v (vertex b low) in
      let named = s.2 in
      s.1.only S island has first named.vertex ∙ named.has

  -- a bus of the island has the same name
  named_alike : (u : ℕ) → u < case_bus_count t → S u ≡ true → slice_index (case_islands t) u ≡ first
  named_alike u l h = (islands_tell_apart t u b v (vertex u l) (vertex b low)).1 (S, island, h, has)

  energised : is_energised_bus t b ≡ true → is_energised_bus t first ≡ true
  energised e =
      let same = islands_lie_in_components t S b first v island (vertex b low) (vertex first first_low) has first_has in
      let component = sym (case_vertex_component-bus t b low) ∙ (same ∙ case_vertex_component-bus t first first_low) in
      subst (λ (c : ℕ). is_energised_component t c ≡ true) component e

  counted_first : is_energised_bus t b ≡ true → is_first_of_island t first ≡ true
  counted_first e =
      and_from (is_energised_bus t first) (slice_index (case_islands t) first == first) (energised e)
      (eq-eqb (slice_index (case_islands t) first) first (named_alike first first_low first_has))

  counted_alone : (u : ℕ) → u < case_bus_count t → S u ≡ true → is_first_of_island t u ≡ true → u ≡ first
  counted_alone u l h c =
      let own = (and_parts (is_energised_bus t u) (slice_index (case_islands t) u == u) c).1 in
      sym (eqb-true (slice_index (case_islands t) u) u own) ∙ named_alike u l h

pub islands_are_counted : IslandsAreCounted
islands_are_counted t S b v island low energised has = record {
  bus = first_low t v S island b low has;
  has = first_has t v S island b low has;
  counted = counted_first t v S island b low has energised;
  alone = counted_alone t v S island b low has;
}
