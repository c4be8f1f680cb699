use Rattle.std.proofs.Common.{refl, arith}
use Rattle.obs_exchange.proofs.Flagging.{put_blocks}
use Rattle.obs_exchange.proofs.noted.put.Goals as goal

pub bounds-blocks-block : goal.bounds-blocks-block
bounds-blocks-block c = let e = c.requires.blocks.enough in let m = c.requires.m in omega (arith, e, m)

pub returns : goal.returns
returns c = record {
  flags = refl;
  blocks = put_blocks c.args.flags.now c.args.blocks.now c.args.m c.args.set c.is_any.result c.requires.m c.requires.blocks (λ n k low high. c.is_any.ensures.none n k low (omega (arith, high, c.min-limit.ensures)));
}

pub is_any-requires : goal.is_any-requires
is_any-requires c = record { limit = omega (arith, c.min-limit.ensures) }
