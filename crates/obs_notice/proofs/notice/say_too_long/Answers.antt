use Rattle.std.proofs.Common.{sym}
use Rattle.obs_notice.proofs.notice.say_too_long.Goals as goal

pub returns-clause-says : goal.returns-clause-says
returns-clause-says g c = rw (sym c.bytes.ensures.bytes, sym c.text-text.ensures.decimal) c.write_around.ensures.writes

pub returns-clause-succeeds : goal.returns-clause-succeeds
returns-clause-succeeds g c = rw (sym c.bytes.ensures.bytes, sym c.text-text.ensures.decimal) c.write_around.ensures.succeeds
