use Rattle.std.proofs.Common.{subst, ◌≤◌, length}
use Rattle.std.specs.Prelude.{MatchBool}
use Rattle.obs_assign.specs.inner.Assignment.{pairs}
use Rattle.obs_exchange.specs.declared.Sources.TheVariants.{All}
use Rattle.obs_exchange.specs.inner.Found.{HasClosed}
use Rattle.obs_exchange.proofs.Lengthening.{thawed-lengthened}
use Rattle.obs_exchange.proofs.Longest.{IsLongest-ended}
use Rattle.obs_exchange.proofs.regrown.regrow.Goals as goal

pub returns-clause-longest : goal.returns-clause-longest
returns-clause-longest g c =
    let e = c.lengthen.ensures in
    let a = c.lengthen.new.a in
    IsLongest-ended c.args.g.now c.args.ms.now.touches a c.lengthen.new.work.reached c.args.most c.lengthen.result.closed c.vertices.ensures.branches e.stands e.whole
    (thawed-lengthened c.args.a.now a c.lengthen.result.searches e.lengthened c.requires.thawed) c.requires.most e.ended

pub returns-clause-closed : goal.returns-clause-closed
returns-clause-closed g c is =
    let a = c.lengthen.new.a in
    subst (λ b. MatchBool b (HasClosed c.args.g.now.ends c.args.ms.now.touches All a a c.lengthen.new.work.reached) (c.args.most ≤ length (pairs a))) is c.lengthen.ensures.ended
