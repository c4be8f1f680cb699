use Rattle.std.proofs.Common.{◌∙◌, sym, ap, take, arith}
use Rattle.obs_network.specs.inner.Following.{followed}
use Rattle.obs_network.proofs.FollowedItems.{followed_far}
use Rattle.obs_network.proofs.FollowedLoops.{Followed-far, Followed-near}
use Rattle.obs_network.proofs.following.follow_behind.Goals as goal
use Rattle.obs_network.proofs.following.follow_behind.Goals.{then-is_near, else-is_near}

pub loop-m-preserved : goal.loop-m-preserved
loop-m-preserved c =
    let rows = take c.args.rows c.args.graph.now.ends in
    let change = c.args.change in
    let follow = followed rows change.before change.after in
    let v = c.loop-m.invariant in
    let e = c.count-m-end.ensures.count in
    let l = c.loop-m-test.true in
    let from = c.loop-m.auto.m in
    let same = c.kind-touch.ensures.kind ∙ v.rest c.loop-m.m (omega arith) in
    elim c.if-is_near.branch [
      | then-is_near w ↦ rw w.items-is (Followed-near follow c.args.items.now c.args.first c.loop-m.items w.set.new.self c.loop-m.m w.followed.result (omega (arith, from)) (omega (arith, e, l)) (w.followed.ensures.touch ∙ ap follow same) v w.set.ensures.set)
      | else-is_near w ↦
          let away = sym c.is_near.ensures.value ∙ w.if-is_near.false in
          let stays = followed_far rows change.at change.before change.after c.kind-touch.result away in
          rw w.items-is (Followed-far follow c.args.items.now c.args.first c.loop-m.items c.loop-m.m (sym (ap follow same) ∙ stays ∙ same) v)
    ]
