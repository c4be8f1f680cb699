-- What an evaluation on a case unfolds.
use Rattle.std.specs.Prelude.{⊤}
use Rattle.std.specs.Fmt.{digits}
use Rattle.csv.proofs.OnLiterals.{csv_on_literals}
use Rattle.csv.specs.Records.{field_at}
use Rattle.obs_case.specs.Flags.{changed_at}
use Rattle.obs_case.specs.Tables.{are_different}
use Rattle.obs_case_csv.specs.Read.{first_fault, rows_before}
use Rattle.obs_edit.specs.Answers.{case_first_pairs, case_islands}
use Rattle.obs_engine.specs.Asks.{block_text, bound_claim, claims_text, component_claim, report_status, tree_claim}
use Rattle.obs_engine.specs.Claimed.{claims_on, claims_on_all}
use Rattle.obs_engine.specs.Lines.{line_case, line_text}
use Rattle.obs_engine.specs.OutageReply.{outages_status}
use Rattle.obs_engine.specs.StationReply.{stations_status}
use Rattle.obs_engine.specs.Summaries.{crowded_buses}
use Rattle.obs_engine.specs.Trials.{dip_meters, island_count, trial_text}
use Rattle.obs_files.specs.Files.{parsed}
use Rattle.obs_islands.specs.Firsts.{in_one_island, is_spanned, island_first, some_part}
use Rattle.obs_matpower.specs.Rows.{line_rows, values_of}
use Rattle.obs_matpower.specs.inner.Rows.{rows_from}
use Rattle.obs_matpower.specs.Whole.{numbered_rows}
use Rattle.obs_matroid.specs.Partners.{is_partner}
use Rattle.obs_matroid.specs.Placement.{is_raising}
use Rattle.obs_matroid.specs.Values.{first_of, first_with, is_critical, rho_of}
use Rattle.obs_meter.specs.Lost.{losing}
use Rattle.obs_network.specs.Network.{case_absolute, case_angles, case_branches, case_component_count, case_components, case_energised, case_first_buses, case_live, case_meters, case_needed, case_offered, case_rows, case_sizes}
use Rattle.obs_network.specs.Observable.{case_rank}
use Rattle.obs_outage.specs.Outages.{outage_rows, outages_of}
use Rattle.obs_repair.specs.Bounds.{bound_meters, bound_outside, bound_rank, case_critical_meters, component_meters, component_rank, is_critical_meter, is_short, short_components}
use Rattle.obs_station.specs.Stations.{loss_stations, losses_of, meter_stations}
use Rattle.obs_trial.specs.Trial.{trial_of}

-- the definitions that a proof computes with
unfoldable pub computed : ⊤
unfolding digits csv_on_literals field_at parsed line_rows rows_from values_of numbered_rows changed_at are_different first_fault rows_before case_first_pairs case_islands block_text bound_claim claims_text component_claim report_status tree_claim crowded_buses claims_on claims_on_all line_case line_text outages_status stations_status dip_meters island_count trial_text in_one_island is_spanned island_first some_part is_partner is_raising first_of first_with is_critical rho_of losing case_absolute case_angles case_branches case_component_count case_components case_energised case_first_buses case_live case_meters case_needed case_offered case_rows case_sizes case_rank outage_rows outages_of bound_meters bound_outside bound_rank case_critical_meters component_meters component_rank is_critical_meter is_short short_components loss_stations losses_of meter_stations trial_of
computed = tt
