use Rattle.std.proofs.Common.{arith}
use Rattle.obs_assign.proofs.Unlisting.{still_ahead}
use Rattle.obs_assign.proofs.lose.place_of.Goals as goal

pub offset_bounds-list-i : goal.offset_bounds-list-i
offset_bounds-list-i c = omega (arith, c.requires.few, still_ahead c.args.list.now c.args.e c.loop-i.i c.requires.listed c.loop-i.invariant)

pub bounds-list-i : goal.bounds-list-i
bounds-list-i c = still_ahead c.args.list.now c.args.e c.loop-i.i c.requires.listed c.loop-i.invariant

pub overflow_add-i : goal.overflow_add-i
overflow_add-i c = omega (arith, c.requires.few, still_ahead c.args.list.now c.args.e c.loop-i.i c.requires.listed c.loop-i.invariant)

pub loop-i-smaller : goal.loop-i-smaller
loop-i-smaller c = omega (arith, still_ahead c.args.list.now c.args.e c.loop-i.i c.requires.listed c.loop-i.invariant)

pub returns-clause-low : goal.returns-clause-low
returns-clause-low c = still_ahead c.args.list.now c.args.e c.loop-i.i c.requires.listed c.loop-i.invariant
