use Rattle.obs_engine.proofs.Asked.{appends_as, counts_are}
use Rattle.obs_engine.proofs.print_asks.print_case_counts.Goals as goal

pub returns : goal.returns
returns g c = record {
  appends = appends_as (counts_are c.args.session.now.tables c.network.result.now c.state.result.rank c.network.ensures.network c.state.ensures.computed) c.print_counts.ensures.appends;
}
