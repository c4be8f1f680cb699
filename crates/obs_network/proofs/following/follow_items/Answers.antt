use Rattle.std.proofs.Common.{◌∙◌, take, subst, sym}
use Rattle.obs_network.specs.inner.Following.{AreFollowed, followed}
use Rattle.obs_network.proofs.FollowedLoops.{Followed-then}
use Rattle.obs_network.proofs.following.follow_items.Goals as goal

pub returns-then-left-eq0-clause-offered : goal.returns-then-left-eq0-clause-offered
returns-then-left-eq0-clause-offered c =
    let a = c.args in
    let follow = followed (take a.rows a.graph.now.ends) a.change.before a.change.after in
    Followed-then follow a.offered.now c.follow_meters-left.new.offered c.follow_behind.new.items c.count-first.result
    (subst (λ n. AreFollowed follow a.offered.now c.follow_meters-left.new.offered 0 n) (sym c.count-first.ensures.count) c.follow_meters-left.ensures.offered) c.follow_behind.ensures.items

pub returns-else-left-eq0-clause-offered : goal.returns-else-left-eq0-clause-offered
returns-else-left-eq0-clause-offered c =
    let a = c.args in
    let follow = followed (take a.rows a.graph.now.ends) a.change.before a.change.after in
    Followed-then follow a.offered.now c.follow_meters-left.new.offered c.follow_behind.new.items c.count-first.result
    (subst (λ n. AreFollowed follow a.offered.now c.follow_meters-left.new.offered 0 n) (sym c.count-first.ensures.count) c.follow_meters-left.ensures.offered) c.follow_behind.ensures.items

pub follow_behind-requires : goal.follow_behind-requires
follow_behind-requires c = record { row = c.requires.can.row }

pub refill-requires-clause-vertices : goal.refill-requires-clause-vertices
refill-requires-clause-vertices c = c.requires.can.vertices

pub refill-requires-clause-in_range : goal.refill-requires-clause-in_range
refill-requires-clause-in_range c = rw c.follow_meters-left.ensures.meters c.requires.can.in_range

pub returns-then-left-eq0-clause-as_many : goal.returns-then-left-eq0-clause-as_many
returns-then-left-eq0-clause-as_many c = let r = c.refill.ensures in let m = c.follow_meters-left.ensures.as_many in
    record { components = r.components ∙ sym c.requires.can.count; most_meters = r.most_meters ∙ m.most_meters; most_components = r.most_components ∙ m.most_components }
