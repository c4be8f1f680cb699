use Rattle.std.proofs.Common.{ap}
use Rattle.obs_exchange.specs.declared.Sources.TheVariants.{All}
use Rattle.obs_exchange.specs.inner.Found.{Work}
use Rattle.obs_exchange.proofs.Noting.{AreNoted-all}
use Rattle.obs_exchange.proofs.repeated.lengthen.Goals as goal

pub lengthen_from-requires-clause-noted : goal.lengthen_from-requires-clause-noted
lengthen_from-requires-clause-noted g c =
    let w = c.note_all.new.self in
    AreNoted-all c.args.g.now.ends c.args.ms.now.touches All c.args.a.now w.noted (ap (λ (x : Work). x.noted.all) c.note_all.ensures.all)
