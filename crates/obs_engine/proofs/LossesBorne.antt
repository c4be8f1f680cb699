-- What the status of stations says.
use Rattle.std.proofs.Common.{◌≡◌, ◌↔◌, ◌∙◌, ℕ, true, sym, arith}
use Rattle.std.proofs.lemmas.Bool.{eq-eqb, eqb-true}
use Rattle.std.proofs.lemmas.List.Folds.{list_all-map}
use Rattle.obs_case.specs.Tables.{IsValid, Tables}
use Rattle.obs_matroid.specs.Lists.{In}
use Rattle.obs_network.specs.Network.{case_meters, case_needed}
use Rattle.obs_network.specs.Observable.{rank_of_meters}
use Rattle.obs_network.proofs.Observed.{most_pairs}
use Rattle.obs_station.specs.Stations.{loss_of, loss_stations, losses_of, other_meters}
use Rattle.obs_station.proofs.OtherMeters.{loss_rank}
use Rattle.obs_files.specs.declared.status.Status.TheVariants.{Done, Short}
use Rattle.obs_engine.specs.Asks.{report_status}
use Rattle.obs_engine.specs.Laws.{BearsLosses, IsObservableWithout}
use Rattle.obs_engine.specs.StationReply.{are_borne, is_borne, stations_status}
use Rattle.obs_engine.proofs.Bearing.{all-in, both_done, done_both, in-all, short_where}
use Rattle.obs_engine.proofs.Lawful.{done_observed}
use Rattle.obs_engine.proofs.Replied.{stations_status-is}

module _ (t : Tables) (v : IsValid t) where
  observable_without : (c : ℕ) → (rank_of_meters t (other_meters t c) ≡ case_needed t) ↔ IsObservableWithout t c
  observable_without c = (
    (λ e. let r = loss_rank t v c in (r.longest, r.assigns, r.long ∙ e)),
    (λ h.
        let r = loss_rank t v c in
        let least = r.none_longer h.0 h.1 in
        let most = most_pairs t v (case_meters t) (other_meters t c) r.longest r.assigns in
        let long = r.long in
        let many = h.2 in
        omega (arith, least, most, long, many)),
  )

  borne_each : (are_borne (case_needed t) (losses_of t) ≡ true) ↔ ((c : ℕ) → In c (loss_stations t) → rank_of_meters t (other_meters t c) ≡ case_needed t)
  unfolding losses_of
  borne_each = (
    (λ h c i. eqb-true (rank_of_meters t (other_meters t c)) (case_needed t)
        (all-in (λ x. is_borne (case_needed t) (loss_of t x)) (loss_stations t) (sym (list_all-map (is_borne (case_needed t)) (loss_of t) (loss_stations t)) ∙ h) c i)),
    (λ each. list_all-map (is_borne (case_needed t)) (loss_of t) (loss_stations t)
        ∙ in-all (λ x. is_borne (case_needed t) (loss_of t x)) (loss_stations t) (λ c i. eq-eqb (rank_of_meters t (other_meters t c)) (case_needed t) (each c i))),
  )

  pub stations_done : (stations_status t ≡ Done) ↔ BearsLosses t
  unfolding stations_status
  stations_done = (
    (λ done.
        let h = done_both (are_borne (case_needed t) (losses_of t)) (report_status t) done in
        ((done_observed t v).0 h.1, λ c i. (observable_without c).0 (borne_each.0 h.0 c i))),
    (λ bears. both_done (are_borne (case_needed t) (losses_of t)) (report_status t)
        (borne_each.1 (λ c i. (observable_without c).1 (bears.1 c i)))
        ((done_observed t v).1 bears.0)),
  )

  pub stations_else : (stations_status t ≡ Short) ↔ (BearsLosses t → ⊥)
  stations_else = short_where (stations_status t) (stations_status-is t) stations_done
