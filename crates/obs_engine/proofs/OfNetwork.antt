-- What is read off the network of a case.
use Rattle.std.proofs.Common.{◌≡◌, ◌≢◌, ◌∙◌, ℕ, ◌<◌, Bool, false, not, All, length, refl, sym, ap, arith}
use Rattle.std.specs.Prelude.{slice_index_or}
use Rattle.std.proofs.lemmas.Bool.{eq-eqb, ne_eqb}
use Rattle.obs_case.specs.Tables.{Tables}
use Rattle.obs_matroid.specs.Lists.{In}
use Rattle.obs_matroid.proofs.Contained.{All-from_In}
use Rattle.obs_matroid.proofs.Lists.{In-filter_from}
use Rattle.obs_meter.specs.Touches.{is_live}
use Rattle.obs_exchange.specs.Critical.{critical_at}
use Rattle.obs_network.specs.Network.{Network, case_branches, case_meters, case_needed, case_vertex_count, network_of}
use Rattle.obs_network.specs.Observable.{case_live_meters, case_rank, is_energised_component}
use Rattle.obs_network.proofs.Marked.{filtered_below}
use Rattle.obs_files.specs.declared.status.Status.TheVariants.{Done, Short}
use Rattle.obs_repair.specs.Bounds.{bound_meters, case_critical_meters, component_meters, is_critical_meter, is_meter_of}
use Rattle.obs_engine.specs.Asks.{report_status}
use Rattle.obs_network.proofs.OfCase.{length-case_meters}

-- what a network of a case says of a component
pub energised_so : (n : Network) (t : Tables) (c : ℕ) (r b : Bool) → n ≡ network_of t → r ≡ slice_index_or n.components.energised c false → r ≡ b → is_energised_component t c ≡ b
energised_so n t c r b same is said = ap (λ (x : Network). slice_index_or x.components.energised c false) (sym same) ∙ (sym is ∙ said)

-- the verdict
pub verdict_done : (t : Tables) → case_rank t ≡ case_needed t → Done ≡ report_status t
unfolding report_status
verdict_done t e = rw (eq-eqb (case_rank t) (case_needed t) e) refl

pub verdict_short : (t : Tables) → case_rank t ≢ case_needed t → Short ≡ report_status t
unfolding report_status
verdict_short t e = rw (ne_eqb (case_rank t) (case_needed t) e) refl

pub live_below : (t : Tables) (m : ℕ) → In m (case_live_meters t) → m < length t.meters
live_below t m i =
    let low = filtered_below (is_live (case_branches t) (case_meters t)) 0 (length (case_meters t)) m i in
    omega (arith, low, length-case_meters t)

pub critical_below : (t : Tables) → All (λ m. m < length t.meters) (case_critical_meters t)
unfolding case_critical_meters
critical_below t = All-from_In (λ m. m < length t.meters) _ (λ m i.
    let low = filtered_below (critical_at (case_vertex_count t) (case_branches t) (case_meters t)) 0 (length (case_meters t)) m i in
    omega (arith, low, length-case_meters t))

pub bound_below : (t : Tables) (c : ℕ) → All (λ m. m < length t.meters) (bound_meters t c)
unfolding bound_meters component_meters
bound_below t c = All-from_In (λ m. m < length t.meters) _ (λ m i.
    let u = In-filter_from (λ x. not (is_critical_meter t x)) m (component_meters t c) i in
    live_below t m (In-filter_from (is_meter_of t c) m (case_live_meters t) u.0).0)
