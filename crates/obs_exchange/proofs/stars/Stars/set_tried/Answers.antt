use Rattle.std.proofs.Common.{arith}
use Rattle.obs_exchange.proofs.Fronts.{flag_low}
use Rattle.obs_exchange.proofs.stars.Stars.set_tried.Goals as goal

pub index_mut-requires : goal.index_mut-requires
index_mut-requires c =
    let s = c.self.inside in
    let low = flag_low s.walked s.fronts.items c.args.self.now c.args.v c.self.view_is c.requires.v in
    omega (arith, low, s.tried.ok.0, c.self.invariant.1)

pub index_mut-requires-2 : goal.index_mut-requires-2
index_mut-requires-2 c =
    let s = c.self.inside in
    let low = flag_low s.walked s.fronts.items c.args.self.now c.args.v c.self.view_is c.requires.v in
    omega (arith, low, s.rounds.ok.0, c.self.invariant.2)
