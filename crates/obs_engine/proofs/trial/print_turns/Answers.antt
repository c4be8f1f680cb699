use Rattle.std.proofs.Common.{◌∙◌, ◌*◌, ◌++◌, ap, length, ℕ}
use Rattle.obs_case.specs.Tables.{Tables}
use Rattle.obs_network.specs.Network.{network_of}
use Rattle.obs_report.specs.Counts.{counts_text}
use Rattle.obs_report.specs.Totals.{totals_text}
use Rattle.obs_report.proofs.Printing.{failed_call, then_call}
use Rattle.obs_network.specs.Observable.{case_rank}
use Rattle.obs_engine.specs.Trials.{edits_of}
use Rattle.obs_engine.proofs.Asked.{appends_as}
use Rattle.obs_engine.proofs.Turned.{counts_now}
use Rattle.obs_engine.proofs.trial.print_turns.Goals as goal

pub returns-in_default : goal.returns-in_default
returns-in_default g c =
    let t = c.args.session.now.tables in
    record {
      appends = failed_call (counts_text (network_of t) (case_rank t) ++ totals_text c.args.islands c.args.turns.dips (edits_of t) c.args.turns.searches) c.in_default.ensures.appends;
    }

pub returns-in_default-print_counts : goal.returns-in_default-print_counts
returns-in_default-print_counts g c =
    let t = c.args.session.now.tables in
    let counts = counts_now t c.network.result.now c.state.result.rank c.network.ensures.network c.state.ensures.computed in
    record {
      appends = then_call c.in-Ok.ensures.appends
          (failed_call (totals_text c.args.islands c.args.turns.dips (edits_of t) c.args.turns.searches) (appends_as counts c.in_default-print_counts.ensures.appends));
    }

pub returns : goal.returns
returns g c =
    let t = c.args.session.now.tables in
    let counts = counts_now t c.network.result.now c.state.result.rank c.network.ensures.network c.state.ensures.computed in
    let edits = ap (λ xs. 2 * length xs) c.meters.ensures.rows ∙ ap (λ (x : Tables). 2 * length x.meters) c.present.ensures.case in
    let totals = ap (λ (k : ℕ). totals_text c.args.islands c.args.turns.dips k c.args.turns.searches) edits in
    record { appends = then_call c.in-Ok.ensures.appends (then_call (appends_as counts c.in-Ok-print_counts.ensures.appends) (appends_as totals c.print_totals.ensures.appends)) }
