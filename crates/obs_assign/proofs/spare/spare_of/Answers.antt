use Rattle.std.proofs.Common.{arith}
use Rattle.obs_assign.proofs.Sparing.{IsLooking-none, looked}
use Rattle.obs_assign.proofs.spare.spare_of.Goals as goal

pub loop-p-init : goal.loop-p-init
loop-p-init c = IsLooking-none c.args.path.now c.args.owners.now c.args.frozen.now c.args.m

pub returns : goal.returns
returns c = record { spare = looked c.args.path.now c.args.owners.now c.args.frozen.now c.args.m c.loop-p.p-index c.loop-p.spare (omega arith) c.loop-p.invariant }
