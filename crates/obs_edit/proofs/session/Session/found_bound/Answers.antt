use Rattle.std.proofs.Common.{ap, arith}
use Rattle.obs_network.specs.Network.{case_component_count}
use Rattle.obs_edit.specs.Sessions.{Session}
use Rattle.obs_network.proofs.OfCase.{count_of}
use Rattle.obs_edit.proofs.session.Session.found_bound.Goals as goal

pub need-requires : goal.need-requires
need-requires c = record {
  component =
      let low = c.requires.component in
      let n = count_of c.self.inside.network c.self.inside.case c.self.invariant.network in
      let same = ap (λ (k : Session). case_component_count k.tables) c.self.view_is in
      omega (arith, low, n, same);
}
