use Rattle.std.proofs.Common.{ℕ, false, replicate, ap, ◌∙◌, arith}
use Rattle.obs_exchange.proofs.Clearing.{AreListedFrom-end}
use Rattle.obs_exchange.proofs.flags.take_back.Goals as goal

pub returns : goal.returns
returns c = let l = c.loop-i in let t = c.loop-i-test.false in record {
  cleared = AreListedFrom-end l.flags c.args.list.now l.i c.args.count (omega (arith, t)) l.invariant.listed
      ∙ ap (λ (n : ℕ). replicate n false) l.invariant.length;
}
