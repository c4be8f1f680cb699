use Rattle.std.proofs.Common.{arith}
use Rattle.obs_exchange.proofs.Fronts.{flag_low}
use Rattle.obs_exchange.proofs.stars.Stars.tried.Goals as goal

pub index-requires : goal.index-requires
index-requires c =
    let s = c.self.inside in
    let low = flag_low s.walked s.fronts.items c.args.self.now c.args.v c.self.view_is c.requires.v in
    omega (arith, low, s.rounds.ok.0, c.self.invariant.2)

pub index-requires-then-index-self : goal.index-requires-then-index-self
index-requires-then-index-self c =
    let s = c.self.inside in
    let low = flag_low s.walked s.fronts.items c.args.self.now c.args.v c.self.view_is c.requires.v in
    omega (arith, low, s.tried.ok.0, c.self.invariant.1)
