use Rattle.std.proofs.Common.{subst, length, ℕ, ◌≤◌, ◌≡◌, ◌∙◌, sym, take, arith}
use Rattle.obs_network.proofs.FollowedLoops.{Meters-all, Meters-far, Meters-in_range, Meters-listed, Meters-near, Meters-read}
use Rattle.obs_network.specs.inner.Following.{AreFollowed, followed}
use Rattle.obs_network.proofs.following.follow_meters.Goals as goal
use Rattle.obs_network.proofs.following.follow_meters.Goals.{then-is_near, else-is_near}

pub set_list-requires-clause-in_range : goal.set_list-requires-clause-in_range
set_list-requires-clause-in_range c =
    let a = c.args in
    let l = c.loop-m in
    let e = c.count-m-end.ensures.count in
    let low = c.loop-m-test.true in
    let rows = take a.rows a.graph.now.ends in
    let read = Meters-read rows a.change a.components.now a.graph.now a.meters.now a.offered.now a.live_meters.now c.requires.can.first l.meters l.offered l.live_meters l.left l.m (omega (arith, e, low)) l.invariant in
    Meters-in_range rows a.change a.components.now a.graph.now a.meters.now a.offered.now a.live_meters.now c.requires.can.first l.m c.kind-touch.result c.followed-now.result (omega (arith, e, low))
    (c.kind-touch.ensures.kind ∙ read) c.followed-now.ensures.touch c.requires.can.in_range

pub loop-m-preserved : goal.loop-m-preserved
loop-m-preserved c =
    let a = c.args in
    let l = c.loop-m in
    let e = c.count-m-end.ensures.count in
    let low = c.loop-m-test.true in
    let rows = take a.rows a.graph.now.ends in
    elim c.if-is_near.branch [
      | then-is_near w ↦
          let set = w.set_list.ensures in
          rw (w.meters-is, w.offered-is, w.live_meters-is, w.left-is)
          (Meters-near rows a.change a.components.now a.graph.now a.meters.now a.offered.now a.live_meters.now c.requires.can.first l.meters l.offered l.live_meters l.left l.m (omega (arith, e, low)) l.invariant
          c.kind-touch.result w.followed-now.result c.kind-touch.ensures.kind w.followed-now.ensures.touch w.left_behind-left.result w.left_behind-left.ensures.fewer
          w.set.new.self w.set-then-is_near.new.self w.set_list.new.live_meters w.set.ensures.set w.set-then-is_near.ensures.set set.lists set.one_each set.as_many.components set.as_many.most_meters set.as_many.most_components)
      | else-is_near w ↦
          rw (w.meters-is, w.offered-is, w.live_meters-is, w.left-is)
          (Meters-far rows a.change a.components.now a.graph.now a.meters.now a.offered.now a.live_meters.now c.requires.can.first l.meters l.offered l.live_meters l.left l.m (omega (arith, e, low)) l.invariant
          c.kind-touch.result c.kind-touch.ensures.kind (sym c.is_near.ensures.value ∙ w.if-is_near.false))
    ]

pub returns-clause-meters : goal.returns-clause-meters
returns-clause-meters c =
    let a = c.args in
    let l = c.loop-m in
    let e = c.count-m-end.ensures.count in
    let f = c.loop-m-test.false in
    Meters-all (take a.rows a.graph.now.ends) a.change a.components.now a.graph.now a.meters.now a.offered.now a.live_meters.now c.requires.can.first l.meters l.offered l.live_meters l.left l.m (omega (arith, e, f)) l.invariant

pub returns-clause-lists : goal.returns-clause-lists
returns-clause-lists c =
    let a = c.args in
    let l = c.loop-m in
    let e = c.count-m-end.ensures.count in
    let f = c.loop-m-test.false in
    Meters-listed (take a.rows a.graph.now.ends) a.change a.components.now a.graph.now a.meters.now a.offered.now a.live_meters.now c.requires.can.first l.meters l.offered l.live_meters l.left l.m (omega (arith, e, f)) l.invariant

pub set_list-requires-clause-components : goal.set_list-requires-clause-components
set_list-requires-clause-components c = c.loop-m.invariant.components ∙ c.requires.can.count

pub returns-clause-as_many : goal.returns-clause-as_many
returns-clause-as_many c = let i = c.loop-m.invariant in record { components = i.components; most_meters = i.most_meters; most_components = i.most_components }

-- the loop ends behind the last
ended : (m end n : ℕ) → m ≤ end → end ≤ m → end ≡ n → m ≡ n
ended m end n low high is = omega (arith, low, high, is)

pub returns-clause-offered : goal.returns-clause-offered
returns-clause-offered c =
    let a = c.args in
    let l = c.loop-m in
    subst (λ n. AreFollowed (followed (take a.rows a.graph.now.ends) a.change.before a.change.after) a.offered.now l.offered 0 n)
    (ended l.m c.count-m-end.result (length a.meters.now.touches) l.auto.m-end c.loop-m-test.false c.count-m-end.ensures.count) l.invariant.offered_follow
