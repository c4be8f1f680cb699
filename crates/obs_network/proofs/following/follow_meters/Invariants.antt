use Rattle.std.proofs.Common.{take}
use Rattle.std.specs.Prelude.{slice_index_or}
use Rattle.obs_meter.specs.declared.Touch.TheVariants.{Nothing}
use Rattle.obs_network.specs.inner.Following.{followed, followed_items, is_near}
use Rattle.obs_network.specs.inner.Kept.{lists_of}
use Rattle.obs_network.proofs.FollowedLoops.{AreFollowedMeters}
use Rattle.obs_network.proofs.following.follow_meters.Given as goal

abbrev pub invariant-loop-m : goal.invariant-loop-m
invariant-loop-m l =
    AreFollowedMeters (followed (take l.fn.rows l.graph.ends) l.fn.change.before l.fn.change.after)
    (λ k. is_near l.fn.change.at l.fn.change.before l.fn.change.after (slice_index_or l.fn.meters.touches k Nothing))
    (lists_of l.components l.graph (followed_items (take l.fn.rows l.graph.ends) l.fn.change l.fn.meters)) l.fn.meters l.fn.offered l.fn.live_meters l.meters l.offered l.live_meters l.left l.m
