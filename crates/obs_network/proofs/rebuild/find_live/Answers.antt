use Rattle.std.proofs.Common.{◌∙◌}
use Rattle.obs_network.specs.Network.{case_live}
use Rattle.obs_network.proofs.OfCase.{length-case_buses}
use Rattle.obs_network.proofs.rebuild.find_live.Goals as goal

pub write_live-requires-clause-ends : goal.write_live-requires-clause-ends
write_live-requires-clause-ends c =
    let t = c.args.case.now in
    rw (c.branches.ensures.rows, c.requires.buses, length-case_buses t) c.branches.ensures.valid.branch_ends

pub returns : goal.returns
unfolding case_live
returns c = record { live = c.write_live.ensures.live ∙ rw (c.branches.ensures.rows, c.requires.buses); valid = c.branches.ensures.valid }
