use Rattle.obs_exchange.specs.inner.Setting.{shut_by}
use Rattle.obs_exchange.proofs.Walking.{free_is}
use Rattle.obs_exchange.proofs.setting.Setting.is_free.Goals as goal

pub returns : goal.returns
returns c =
    let s = c.self.inside in
    let f = c.forest-forest.ensures.forest in
    rw (← c.self.view_is)
    (record {
      free = free_is (shut_by s.shut.now s.assignment.now) s.graph.now.ends c.args.e c.ends-ends.result c.piece.result c.piece-2.result c.self.invariant.whole c.self.invariant.stands.forest.held
          (rw (← c.self.view_is) at c.ends-ends.ensures.ends) (rw (← f) c.piece.ensures.first) (rw (← f) c.piece-2.ensures.first);
    })
