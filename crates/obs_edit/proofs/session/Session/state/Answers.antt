use Rattle.std.proofs.Common.{◌∙◌, ap}
use Rattle.obs_network.specs.Observable.{case_rank}
use Rattle.obs_edit.specs.Sessions.{Session}
use Rattle.obs_repair.proofs.OfNetwork.{rank_of_longest}
use Rattle.obs_edit.proofs.session.Session.state.Goals as goal

pub returns-clause-computed : goal.returns-clause-computed
returns-clause-computed c =
    c.length.ensures.length
    ∙ (rank_of_longest c.self.inside.case c.self.invariant.valid c.self.inside.held.pairs c.self.invariant.longest ∙ ap (λ (k : Session). case_rank k.tables) c.self.view_is)
