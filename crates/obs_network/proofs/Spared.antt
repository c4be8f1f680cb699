-- What an outage spares: where the ends of a branch stay joined without it, components, sources and needs stay, and so do all other branches.
use Rattle.std.proofs.Common.{◌≡◌, ℕ, zero, suc, ◌<◌, Bool, false, Option, Some, None, List, [], ◌∷◌, ◌++◌, length, map, get_or, set, refl, sym, ap, ◌∙◌, arith, inl, inr}
use Rattle.std.specs.Prelude.{IsSome, ◌==◌, filter, if◌then◌else◌, slice_index, slice_index_or}
use Rattle.std.specs.List.{range_with_len}
use Rattle.std.proofs.Math.Path.{fun_ext}
use Rattle.std.proofs.lemmas.Bool.{cases_eq}
use Rattle.std.proofs.lemmas.Option.{cond_some}
use Rattle.std.proofs.lemmas.List.{get_or-set_other, map-set, set-append_left}
use Rattle.obs_graph.specs.declared.Ends.{Ends}
use Rattle.obs_graph.specs.Joined.{count_below, first_joined}
use Rattle.obs_graph.specs.Positions.{present}
use Rattle.obs_graph.proofs.Chains.{Chain-more, first_joined-contains, same_first-from_Chain, same_first-more}
use Rattle.obs_graph.proofs.First.{first_joined-first_joined, first_joined-le}
use Rattle.obs_graph.proofs.Present.{branch_at, contains_present, none_some, present_contains, some_is_in, some_one}
use Rattle.obs_case.specs.declared.rows.Branch.{Branch}
use Rattle.obs_case.specs.Flags.{changed_at}
use Rattle.obs_case.specs.Tables.{IsValid, Tables}
use Rattle.obs_network.specs.Switched.{case_bus_count, case_buses}
use Rattle.obs_network.specs.Live.{live_ends}
use Rattle.obs_network.specs.Components.{absolute_of, energised_of, if_energised, needed_of, sizes_of}
use Rattle.obs_network.specs.Angles.{angle_branches, has_angle}
use Rattle.obs_network.specs.Network.{case_absolute, case_angles, case_branches, case_component_count, case_components, case_energised, case_first_buses, case_live, case_needed, case_rows, case_sizes}
use Rattle.obs_network.specs.Parted.{outage_case}
use Rattle.obs_network.specs.inner.Parted.{AreJoinedWithout, StaysJoined}
use Rattle.obs_network.proofs.MergedRows.{with_service}
use Rattle.obs_network.proofs.OfCase.{case_live-branches, length-case_rows}
use Rattle.obs_network.proofs.OfLaws.{one_case_component}
use Rattle.obs_network.proofs.Outed.{some_of}

-- branches that join the same have the same first vertices
pub same_firsts : (es fs : List Ends) → ((u v : ℕ) → first_joined es u ≡ first_joined es v → first_joined fs u ≡ first_joined fs v)
    → ((u v : ℕ) → first_joined fs u ≡ first_joined fs v → first_joined es u ≡ first_joined es v) → (u : ℕ) → first_joined es u ≡ first_joined fs u
same_firsts es fs to from u =
    let one : first_joined fs (first_joined es u) ≡ first_joined fs u = to (first_joined es u) u (first_joined-first_joined es u) in
    let other : first_joined es (first_joined fs u) ≡ first_joined es u = from (first_joined fs u) u (first_joined-first_joined fs u) in
    omega (arith, one, other, first_joined-le fs (first_joined es u), first_joined-le es (first_joined fs u))

-- a row out of service isn't live, and the others are live as before
pub live_without : (buses : List ℕ) (rows : List Branch) (at : ℕ) → map (live_ends buses) (with_service false at rows) ≡ set (map (live_ends buses) rows) at None
unfolding changed_at
live_without buses [] at = refl
live_without buses (row ∷ rows) zero = refl
live_without buses (row ∷ rows) (suc at) = ap (λ xs. live_ends buses row ∷ xs) (live_without buses rows at)

pub case_live-without : (t : Tables) (at : ℕ) → case_live (outage_case t at) ≡ set (case_live t) at None
unfolding case_live
case_live-without t at = live_without (case_buses t) t.branches at

-- what is live at another place
pub live_elsewhere : (t : Tables) (at k : ℕ) → (k ≡ at → ⊥) → get_or (case_live (outage_case t at)) k None ≡ get_or (case_live t) k None
live_elsewhere t at k ne = ap (λ l. get_or l k None) (case_live-without t at) ∙ get_or-set_other (case_live t) at k None None ne

-- what stands in a list without one entry stands in it elsewhere
pub set_none : (hs : List (Option Ends)) (i k : ℕ) (d : Ends) → get_or (set hs i None) k None ≡ Some d → (k ≡ i → ⊥) × (get_or hs k None ≡ Some d)
set_none [] i k d is = absurd (none_some d is)
set_none (h ∷ hs) zero zero d is = absurd (none_some d is)
set_none (h ∷ hs) zero (suc k) d is = (λ same. absurd (omega (arith, same)), is)
set_none (h ∷ hs) (suc i) zero d is = (λ same. absurd (omega (arith, same)), is)
set_none (h ∷ hs) (suc i) (suc k) d is =
    let rest = set_none hs i k d is in
    (λ same. rest.0 (omega (arith, same)), rest.1)

module _ (t : Tables) (v : IsValid t) (at : ℕ) (stays : StaysJoined t at) where
  abbrev out : Tables
  out = outage_case t at

  -- the ends of each live branch are joined without this one
  joined_still : (d : Ends) (k : ℕ) → get_or (case_live t) k None ≡ Some d → first_joined (present (case_live out)) d.a ≡ first_joined (present (case_live out)) d.b
  joined_still d k is =
      elim (cases_eq k at) [
        | inl same ↦
            let low = branch_at (case_bus_count t) (case_live t) k d (case_live-branches t v) (some_is_in (case_live t) k d is) is in
            same_first-from_Chain (present (case_live out)) ((one_case_component out d.a d.b low.0 low.1).0 (stays d (ap (λ i. get_or (case_live t) i None) (sym same) ∙ is)))
        | inr ne ↦ first_joined-contains (present (case_live out)) d (contains_present (case_live out) k d (live_elsewhere t at k ne ∙ is))
      ]

  -- and what is joined without it was joined
  joined_before : (d : Ends) (k : ℕ) → get_or (case_live out) k None ≡ Some d → first_joined (present (case_live t)) d.a ≡ first_joined (present (case_live t)) d.b
  joined_before d k is =
      let there = set_none (case_live t) at k d (ap (λ l. get_or l k None) (sym (case_live-without t at)) ∙ is) in
      first_joined-contains (present (case_live t)) d (contains_present (case_live t) k d there.1)

  firsts : first_joined (present (case_live out)) ≡ first_joined (present (case_live t))
  firsts =
      let before = present (case_live t) in
      let after = present (case_live out) in
      fun_ext (λ u. same_firsts after before
      (same_first-more after before (λ d has. let at_k = present_contains (case_live out) d has in joined_before d at_k.0 at_k.1))
      (same_first-more before after (λ d has. let at_k = present_contains (case_live t) d has in joined_still d at_k.0 at_k.1)) u)

  pub components_stay : case_components out ≡ case_components t
  unfolding case_components
  components_stay = ap (λ (f : ℕ → ℕ). map (λ b. count_below (λ c. f c == c) (f b)) (range_with_len 0 (case_bus_count t))) firsts

  pub component_count_stays : case_component_count out ≡ case_component_count t
  unfolding case_component_count
  component_count_stays = ap (λ (f : ℕ → ℕ). count_below (λ c. f c == c) (case_bus_count t)) firsts

  pub first_buses_stay : case_first_buses out ≡ case_first_buses t
  unfolding case_first_buses
  first_buses_stay = ap (λ (f : ℕ → ℕ). filter (λ c. f c == c) (range_with_len 0 (case_bus_count t))) firsts

  pub sizes_stay : case_sizes out ≡ case_sizes t
  unfolding case_sizes
  sizes_stay = ap (λ n. sizes_of n (case_components out)) component_count_stays ∙ ap (sizes_of (case_component_count t)) components_stay

  pub energised_stay : case_energised out ≡ case_energised t
  unfolding case_energised
  energised_stay =
      ap (λ n. energised_of n (case_components out) (case_buses t) t.nodes) component_count_stays
      ∙ ap (λ l. energised_of (case_component_count t) l (case_buses t) t.nodes) components_stay

  pub absolute_stay : case_absolute out ≡ case_absolute t
  unfolding case_absolute
  absolute_stay =
      ap (λ n. absolute_of n (case_components out) (case_buses t) t.nodes) component_count_stays
      ∙ ap (λ l. absolute_of (case_component_count t) l (case_buses t) t.nodes) components_stay

  pub needed_stays : case_needed out ≡ case_needed t
  unfolding case_needed
  needed_stays =
      ap (λ l. needed_of l (case_energised out) (case_absolute out) (case_component_count out)) sizes_stay
      ∙ ap (λ l. needed_of (case_sizes t) l (case_absolute out) (case_component_count out)) energised_stay
      ∙ ap (λ l. needed_of (case_sizes t) (case_energised t) l (case_component_count out)) absolute_stay
      ∙ ap (needed_of (case_sizes t) (case_energised t) (case_absolute t)) component_count_stays

  -- the rows are those before, without this one
  pub rows_but_one : case_rows out ≡ set (case_rows t) at None
  unfolding case_rows
  rows_but_one =
      ap (λ l. map (if_energised l (case_energised out)) (case_live out)) components_stay
      ∙ ap (λ l. map (if_energised (case_components t) l) (case_live out)) energised_stay
      ∙ ap (map (if_energised (case_components t) (case_energised t))) (case_live-without t at)
      ∙ map-set (if_energised (case_components t) (case_energised t)) (case_live t) at None

  pub angles_stay : case_angles out ≡ case_angles t
  unfolding case_angles
  angles_stay =
      let of : List ℕ → List Bool → List Bool → List (Option Ends) = λ c e a. if has_angle t then angle_branches (case_buses t) c e a t.meters t.candidates else [] in
      ap (λ l. of l (case_energised out) (case_absolute out)) components_stay
      ∙ ap (λ l. of (case_components t) l (case_absolute out)) energised_stay
      ∙ ap (of (case_components t) (case_energised t)) absolute_stay

  -- the branches are those before, without this one
  pub branches_but_one : at < length t.branches → case_branches out ≡ set (case_branches t) at None
  unfolding case_branches
  branches_but_one low =
      ap (λ l. l ++ case_angles out) rows_but_one
      ∙ ap (λ l. set (case_rows t) at None ++ l) angles_stay
      ∙ sym (set-append_left (case_rows t) (case_angles t) at None (omega (arith, low, length-case_rows t)))

-- a branch of an energised component is live
row_live : (components : List ℕ) (energised : List Bool) (live : List (Option Ends)) (k : ℕ) (x : Ends) → get_or (map (if_energised components energised) live) k None ≡ Some x → get_or live k None ≡ Some x
row_live components energised [] k x is = absurd (none_some x is)
row_live components energised (o ∷ live) zero x is = one o is
  where
    one : (o : Option Ends) → if_energised components energised o ≡ Some x → o ≡ Some x
    one None is = absurd (none_some x is)
    one (Some y) is = ap Some (cond_some (slice_index_or energised (slice_index components y.a) false) y x is).1
row_live components energised (o ∷ live) (suc k) x is = row_live components energised live k x is

pub row_is_live : (t : Tables) (k : ℕ) (x : Ends) → get_or (case_rows t) k None ≡ Some x → get_or (case_live t) k None ≡ Some x
unfolding case_rows
row_is_live t k x is = row_live (case_components t) (case_energised t) (case_live t) k x is

-- rows that join the ends of a row join them as live branches
pub joined_by_rows : (t : Tables) → IsValid t → (at : ℕ) → IsSome (slice_index_or (case_rows t) at None) → AreJoinedWithout (case_rows t) at → StaysJoined t at
joined_by_rows t v at some joined x is =
    let low = branch_at (case_bus_count t) (case_live t) at x (case_live-branches t v) (some_is_in (case_live t) at x is) is in
    let row = some_of (get_or (case_rows t) at None) some in
    let same : row.0 ≡ x = some_one row.0 x (sym (row_is_live t at row.0 row.1) ∙ is) in
    (one_case_component (outage_case t at) x.a x.b low.0 low.1).1
    (Chain-more (present (set (case_rows t) at None)) (present (case_live (outage_case t at)))
    (λ d has.
    let k = present_contains (set (case_rows t) at None) d has in
    let there = set_none (case_rows t) at k.0 d k.1 in
    contains_present (case_live (outage_case t at)) k.0 d (live_elsewhere t at k.0 there.0 ∙ row_is_live t k.0 d there.1))
    (joined x (row.1 ∙ ap Some same)))
