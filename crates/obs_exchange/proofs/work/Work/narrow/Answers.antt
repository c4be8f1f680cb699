use Rattle.std.proofs.Common.{◌≡◌, ◌<◌, ◌&&◌, ◌∙◌, ℕ, Bool, List, length, take, ap, subst}
use Rattle.obs_graph.proofs.Stored.{written_back}
use Rattle.obs_assign.specs.inner.Assignment.{has_flag}
use Rattle.obs_exchange.proofs.work.Work.narrow.Goals as goal

pub returns-clause-loose : goal.returns-clause-loose
returns-clause-loose c =
    let ins = c.self.inside in
    let flags = c.narrow.new.flags in
    let old = c.deref_mut.result.now in
    let marks = take ins.meters ins.scratch.trail.marks in
    let value = c.deref_mut.ensures.value in
    let kept = subst (λ (k : List Bool). (m : ℕ) → m < length k → has_flag flags m ≡ (has_flag old m && has_flag k m)) c.marks.ensures.marks c.narrow.ensures.narrowed in
    let all = subst (λ (o : List Bool). (m : ℕ) → m < length marks → has_flag flags m ≡ (has_flag o m && has_flag marks m)) value kept in
    rw (← c.self.view_is, written_back ins.loose.len flags ins.loose.items (c.narrow.ensures.same_length ∙ ap length value) ins.loose.ok.0) all
