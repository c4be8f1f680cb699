use Rattle.std.proofs.Common.{sym}
use Rattle.obs_notice.proofs.summary.say_part.Goals as goal

pub returns-clause-says : goal.returns-clause-says
returns-clause-says g c = rw (sym c.text-some.ensures.decimal, sym c.text.ensures.decimal) c.write_pair.ensures.writes

pub returns-clause-succeeds : goal.returns-clause-succeeds
returns-clause-succeeds g c = rw (sym c.text-some.ensures.decimal, sym c.text.ensures.decimal) c.write_pair.ensures.succeeds

pub returns-clause-room : goal.returns-clause-room
returns-clause-room g c = rw (sym c.text-some.ensures.decimal, sym c.text.ensures.decimal) c.write_pair.ensures.room
