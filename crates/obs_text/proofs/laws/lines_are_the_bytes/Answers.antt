use Rattle.obs_text.proofs.LineLaws.{alone, are_lines, content-feed, content-last, joined, strip-return}
use Rattle.obs_text.proofs.laws.lines_are_the_bytes.Goals as goal

pub returns : goal.returns
returns c = record { lines = record { joined = joined; ended = are_lines; alone = alone; feed = content-feed; last = content-last; return = strip-return } }
