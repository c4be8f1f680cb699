use Rattle.std.proofs.Common.{refl}
use Rattle.obs_exchange.proofs.Growing.{HasGrown-path}
use Rattle.obs_exchange.proofs.find.grow.Goals as goal

pub returns-clause-grown : goal.returns-clause-grown
returns-clause-grown g c = λ from begins.
    HasGrown-path c.args.g.now.ends c.args.ms.now.touches from c.args.a.now c.augment.new.self c.length.ensures.whole c.args.path.now _ refl
    c.requires.can.are_path begins c.augment.ensures.moved c.augment.ensures.frozen c.augment.ensures.longer c.augment.ensures.turns
