use Rattle.std.proofs.Common.{◌++◌, length, take, drop, false, arith}
use Rattle.obs_forest.proofs.Lent.{filled_back}
use Rattle.obs_assign.proofs.Keeping.{seen-thawed}
use Rattle.obs_assign.proofs.assignment.Assignment.unpin_all.Goals as goal

pub returns : goal.returns
returns c =
    let ins = c.self.inside in
    let inv = c.self.invariant in
    let flags = c.clear_flags.new.flags in
    record {
      thawed = seen-thawed ins.kept ins.frozen.items (take ins.frozen.len (flags ++ drop (length flags) ins.frozen.items)) ins.turns c.args.self.now c.self.view_is
          (omega (arith, inv.whole.meters, inv.frozen_len)) (filled_back false ins.frozen.len flags ins.frozen.items c.clear_flags.ensures.clear c.deref_mut.ensures.value ins.frozen.ok.0);
    }
