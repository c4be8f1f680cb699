use Rattle.std.proofs.Common.{◌≤◌, arith}
use Rattle.obs_assign.specs.inner.Assignment.{has_flag}
use Rattle.obs_exchange.proofs.Lawful.{closed_rho}
use Rattle.obs_exchange.proofs.Lengthening.{closed_at_last, closed_set, thawed-lengthened}
use Rattle.obs_edit.proofs.pairing.pair_first.Goals as goal

pub first-requires-clause-longest : goal.first-requires-clause-longest
first-requires-clause-longest g c =
    let shape = c.args.g.now in
    let touches = c.args.items.now.touches in
    let a = c.lengthen.new.a in
    let flags = c.lengthen.new.work.reached in
    let e = c.lengthen.ensures in
    let ok = c.vertices.ensures.branches in
    let low : shape.vertices ≤ 4294967295 = omega (arith, c.vertices.ensures.value, c.vertices.type_inv) in
    closed_rho a shape touches (has_flag flags) (closed_set shape touches a flags ok e.whole e.stands (closed_at_last shape touches a flags c.lengthen.result.closed ok e.whole e.stands low e.ended))
    (thawed-lengthened c.begin_pairs.new.pairs a c.lengthen.result.searches e.lengthened c.begin_pairs.ensures.thawed)
