use Rattle.std.proofs.Common.{get_or}
use Rattle.obs_matroid.proofs.Contained.{In-get_or}
use Rattle.obs_exchange.proofs.free.free_place.Goals as goal

pub is_free-requires : goal.is_free-requires
is_free-requires c = record { present = c.requires.present (get_or c.args.list.now c.loop-k.k 0) (In-get_or c.args.list.now c.loop-k.k 0 c.loop-k-test.true) }
