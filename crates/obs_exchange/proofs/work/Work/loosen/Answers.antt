use Rattle.std.proofs.Common.{◌∙◌, length, ap, arith}
use Rattle.obs_graph.proofs.Stored.{written_back}
use Rattle.obs_exchange.proofs.work.Work.loosen.Goals as goal

pub returns-clause-loose : goal.returns-clause-loose
returns-clause-loose c =
    let ins = c.self.inside in
    let flags = c.loosen.new.flags in
    let value = c.deref_mut.ensures.value in
    rw (← c.self.view_is, written_back ins.loose.len flags ins.loose.items (c.loosen.ensures.same_length ∙ ap length value) ins.loose.ok.0)
    (λ m few. c.loosen.ensures.set m (omega (arith, few, ap length value, c.self.invariant.4)))
