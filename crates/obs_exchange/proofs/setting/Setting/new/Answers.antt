use Rattle.std.proofs.Common.{◌∙◌}
use Rattle.obs_exchange.proofs.Shut.{shut_none}
use Rattle.obs_exchange.proofs.setting.Setting.new.Goals as goal

pub returns : goal.returns
returns c = let s = c.shut.ensures.over in
    record { over = record { graph = s.graph; touches = s.touches; assignment = s.assignment ∙ shut_none c.args.assignment.now; sources = s.sources; room = s.room; sound = s.sound } }
