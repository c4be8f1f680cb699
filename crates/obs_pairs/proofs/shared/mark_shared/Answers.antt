use Rattle.std.proofs.Common.{◌≤◌, length, arith}
use Rattle.obs_pairs.proofs.Sharing.{Sharing-all, Sharing-first, Sharing-later}
use Rattle.obs_pairs.proofs.shared.mark_shared.Goals as goal
use Rattle.obs_pairs.proofs.shared.mark_shared.Goals.{else-first-k, then-first-k}

pub loop-k-preserved : goal.loop-k-preserved
loop-k-preserved c =
    let list = c.args.list.now in
    let k = c.loop-k.k in
    let e = c.loop-k.auto.shared in
    let r = c.requires.room in
    let room : length list ≤ length c.loop-k.shared = omega (arith, e, r) in
    elim c.if-first-k.branch [
      | then-first-k w ↦ rw w.shared-is (Sharing-first list c.requires.first c.args.shared.now c.loop-k.shared k c.loop-k-test.true room c.loop-k.invariant w.if-first-k.true)
      | else-first-k w ↦ rw w.shared-is (Sharing-later list c.requires.first c.args.shared.now c.loop-k.shared k c.loop-k-test.true room c.loop-k.invariant w.if-first-k.false)
    ]

pub returns-clause-shared : goal.returns-clause-shared
returns-clause-shared c =
    let f = c.loop-k-test.false in
    let e = c.loop-k.auto.k-end in
    Sharing-all c.args.list.now c.requires.first c.args.shared.now c.loop-k.shared c.loop-k.k (omega (arith, e, f)) c.loop-k.invariant
