use Rattle.std.proofs.Common.{◌∙◌, ap}
use Rattle.obs_assign.specs.inner.Assignment.{pairs}
use Rattle.obs_edit.specs.Planned.{case_placed_pairs}
use Rattle.obs_edit.specs.Sessions.{Session}
use Rattle.obs_edit.proofs.session.Session.found_plan_pairs.Goals as goal

pub returns-clause-pairs : goal.returns-clause-pairs
returns-clause-pairs c =
    let at_hand = ap (λ (k : Session). k.at_hand.placed) c.self.view_is ∙ c.requires.placed in
    ap pairs c.pairs.ensures.pairs ∙ (c.self.invariant.placing.pairs at_hand ∙ ap (λ (k : Session). case_placed_pairs k.tables) c.self.view_is)
