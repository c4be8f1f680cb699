use Rattle.std.proofs.Common.{arith}
use Rattle.obs_network.proofs.Marked.{AllKept-all}
use Rattle.obs_network.proofs.marks.write_energised.Goals as goal

pub returns-clause-all : goal.returns-clause-all
returns-clause-all c = λ yes.
    let a = c.args in
    let l = c.loop-i in
    let f = c.loop-i-test.false in
    AllKept-all a.numbers.now a.energised.now a.live.now l.kept l.i (omega (arith, f)) (omega arith) l.invariant.kept (l.invariant.all yes)
