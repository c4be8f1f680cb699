use Rattle.std.proofs.Common.{sym}
use Rattle.std.proofs.lemmas.Bool.{ne_eqb}
use Rattle.obs_notice.proofs.summary.say_crowded.Goals as goal

pub returns-clause-says : goal.returns-clause-says
returns-clause-says g c = rw (ne_eqb c.args.crowded 0 c.if-crowded-eq0.false, sym c.text.ensures.decimal) c.write_around.ensures.writes

pub returns-clause-succeeds : goal.returns-clause-succeeds
returns-clause-succeeds g c = rw (ne_eqb c.args.crowded 0 c.if-crowded-eq0.false, sym c.text.ensures.decimal) c.write_around.ensures.succeeds
