use Rattle.std.proofs.Common.{sym}
use Rattle.obs_notice.proofs.notice.say_unread.Goals as goal

pub returns-in-Some-clause-says : goal.returns-in-Some-clause-says
returns-in-Some-clause-says g c = rw (c.in-Some.is, sym c.word_bytes.ensures.bytes) c.write_three.ensures.writes

pub returns-in-Some-clause-succeeds : goal.returns-in-Some-clause-succeeds
returns-in-Some-clause-succeeds g c = rw (c.in-Some.is, sym c.word_bytes.ensures.bytes) c.write_three.ensures.succeeds

pub returns-in-None-clause-says : goal.returns-in-None-clause-says
returns-in-None-clause-says g c = rw c.in-None.is c.write_all.ensures.writes
