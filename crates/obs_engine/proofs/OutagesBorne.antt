-- What the status of outages says.
use Rattle.std.proofs.Common.{◌≡◌, ◌↔◌, ◌∙◌, ℕ, true, false, sym}
use Rattle.std.proofs.lemmas.Bool.{eq-eqb, eqb-true}
use Rattle.std.proofs.lemmas.List.Folds.{list_all-map}
use Rattle.obs_case.specs.Tables.{IsValid, Tables}
use Rattle.obs_case.proofs.ValidLemmas.{valid-with_branch_inservice}
use Rattle.obs_matroid.specs.Lists.{In}
use Rattle.obs_network.specs.Network.{case_needed}
use Rattle.obs_network.specs.Observable.{case_rank}
use Rattle.obs_network.specs.Parted.{outage_case}
use Rattle.obs_outage.specs.Outages.{outage_of, outage_rows, outages_of}
use Rattle.obs_files.specs.declared.status.Status.TheVariants.{Done, Short}
use Rattle.obs_engine.specs.Asks.{report_status}
use Rattle.obs_engine.specs.Laws.{BearsOutages}
use Rattle.obs_engine.specs.OutageReply.{are_met, is_met, outages_status}
use Rattle.obs_engine.proofs.Bearing.{all-in, both_done, done_both, in-all, short_where}
use Rattle.obs_engine.proofs.Lawful.{done_observed, rank_observed}
use Rattle.obs_engine.proofs.Replied.{outages_status-is}

met_each : (t : Tables) → (are_met (outages_of t) ≡ true) ↔ ((e : ℕ) → In e (outage_rows t) → case_rank (outage_case t e) ≡ case_needed (outage_case t e))
unfolding outages_of
met_each t = (
  (λ h e i. eqb-true (case_rank (outage_case t e)) (case_needed (outage_case t e))
      (all-in (λ x. is_met (outage_of t x)) (outage_rows t) (sym (list_all-map is_met (outage_of t) (outage_rows t)) ∙ h) e i)),
  (λ each. list_all-map is_met (outage_of t) (outage_rows t)
      ∙ in-all (λ x. is_met (outage_of t x)) (outage_rows t) (λ e i. eq-eqb (case_rank (outage_case t e)) (case_needed (outage_case t e)) (each e i))),
)

module _ (t : Tables) (v : IsValid t) where
  valid_outage : (e : ℕ) → IsValid (outage_case t e)
  valid_outage e = valid-with_branch_inservice t v e false

  pub outages_done : (outages_status t ≡ Done) ↔ BearsOutages t
  unfolding outages_status
  outages_done = (
    (λ done.
        let h = done_both (are_met (outages_of t)) (report_status t) done in
        ((done_observed t v).0 h.1, λ e i. (rank_observed (outage_case t e) (valid_outage e)).1 ((met_each t).0 h.0 e i))),
    (λ bears. both_done (are_met (outages_of t)) (report_status t)
        ((met_each t).1 (λ e i. (rank_observed (outage_case t e) (valid_outage e)).0 (bears.1 e i)))
        ((done_observed t v).1 bears.0)),
  )

  pub outages_else : (outages_status t ≡ Short) ↔ (BearsOutages t → ⊥)
  outages_else = short_where (outages_status t) (outages_status-is t) outages_done
