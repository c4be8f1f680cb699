use Rattle.std.proofs.Common.{ap, ◌∙◌}
use Rattle.std.specs.Prelude.{nat_lt}
use Rattle.obs_meter.proofs.Touched.{among-before}
use Rattle.obs_meter.proofs.meters.is_among.Goals as goal

pub returns-in-Some : goal.returns-in-Some
returns-in-Some c =
    let there = c.in-Some.ensures.lookup.3 in
    record { among = ap (nat_lt c.args.e) (there.1 0) ∙ among-before c.args.rising.now c.args.count c.args.e c.requires.rising c.requires.entry there.0 }
