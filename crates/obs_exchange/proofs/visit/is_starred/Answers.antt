use Rattle.std.proofs.Common.{arith}
use Rattle.std.proofs.lemmas.Bool.{leb-true}
use Rattle.obs_exchange.proofs.Visiting.{AreWalkedOf-front}
use Rattle.obs_exchange.proofs.visit.is_starred.Goals as goal

pub returns-in-Some : goal.returns-in-Some
returns-in-Some c = record {
  walked = λ walked s t.
      let l = leb-true c.in-Some.h.count c.walked.result t in
      AreWalkedOf-front c.args.over.now c.args.stars.now walked c.in-Some.h c.args.m s c.in-Some.ensures.front (omega (arith, l, c.walked.ensures.walked));
}
