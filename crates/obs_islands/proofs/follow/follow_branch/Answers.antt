use Rattle.std.proofs.Common.{◌≡◌, ℕ, true, sym, subst, ◌∙◌}
use Rattle.obs_meter.specs.inner.Touches.{touches_branch}
use Rattle.obs_islands.proofs.Following.{StillGivesUp-ends}
use Rattle.obs_islands.proofs.Noting.{noted_is}
use Rattle.obs_islands.proofs.follow.follow_branch.Goals as goal

pub returns-in-Some-ends-clause-gives_up : goal.returns-in-Some-ends-clause-gives_up
returns-in-Some-ends-clause-gives_up c =
    let ends = c.args.over.now.graph.now.ends in
    let touches = c.args.ms.now.touches in
    let read = noted_is c.args.lowest.now c.args.v 0 (rw c.requires.lowest c.requires.vertex) in
    StillGivesUp-ends ends touches c.args.over.now.pairs.now c.args.lowest.now c.note.new.lowest c.note-in-Some-ends.new.lowest c.args.v c.in-Some.m c.args.e c.in-Some-ends.x c.requires.noted
    (subst (λ (k : ℕ). touches_branch ends touches c.in-Some.m k ≡ true) read (sym c.is_touched.ensures.touched ∙ c.if-not-is_touched.false))
    c.in-Some.ensures.meter c.requires.e (sym c.in-Some-ends.ensures.ends) c.note.ensures.noted c.note-in-Some-ends.ensures.noted
