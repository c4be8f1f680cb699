use Rattle.std.proofs.Common.{List, ℕ, drop, get_or, length, take, subst, ap, ◌∙◌, arith}
use Rattle.obs_graph.specs.Positions.{branches_at}
use Rattle.obs_rankcut.specs.inner.Marks.{AreMarkedToo}
use Rattle.obs_rankcut.proofs.Marked.{AreFrontsMarked-set, AreMarkedToo-behind, AreMarkedToo-done, flags_behind, rest_is}
use Rattle.obs_rankcut.proofs.listing.mark_hub.Goals as goal
use Rattle.obs_rankcut.proofs.listing.mark_hub.Goals.{After-mark_all}

pub mark_all-requires : goal.mark_all-requires
mark_all-requires c = record {
  low = flags_behind c.args.g.now.ends c.args.hub.vertex c.args.hub.count (get_or c.args.fronts.now c.args.hub.vertex 0) (length c.args.flags.now) c.branches_at.result.now c.branches_at.ensures.branches c.requires.flags;
}

marks : (c : After-mark_all) → AreMarkedToo c.args.flags.now (take c.args.hub.count (branches_at c.args.g.now.ends c.args.hub.vertex)) c.mark_all.new.flags
marks c =
    let k = get_or c.args.fronts.now c.args.hub.vertex 0 in
    let front = take c.args.hub.count c.branches_at.result.now in
    let behind = subst (λ (L : List ℕ). AreMarkedToo c.args.flags.now L c.mark_all.new.flags)
    (rest_is front k ∙ ap (λ (bs : List ℕ). drop k (take c.args.hub.count bs)) c.branches_at.ensures.branches) c.mark_all.ensures.marks in
    AreMarkedToo-behind c.args.g.now.ends c.args.fronts.now c.args.flags.now c.args.hub.vertex c.args.hub.count c.requires.done (omega (arith, c.if-known-hub.true)) c.mark_all.new.flags behind

pub returns-then-known-hub-clause-marks : goal.returns-then-known-hub-clause-marks
returns-then-known-hub-clause-marks c = marks (goal.at.returns-then-known-hub-clause-marks c).After-mark_all

pub returns-then-known-hub-clause-done : goal.returns-then-known-hub-clause-done
returns-then-known-hub-clause-done c =
    AreFrontsMarked-set c.args.g.now.ends c.args.fronts.now c.args.flags.now c.args.hub.vertex c.args.hub.count c.requires.done (omega (arith, c.requires.vertex, c.requires.fronts)) c.mark_all.new.flags
    (marks (goal.at.returns-then-known-hub-clause-done c).After-mark_all)

pub returns-else-known-hub-clause-marks : goal.returns-else-known-hub-clause-marks
returns-else-known-hub-clause-marks c =
    AreMarkedToo-done c.args.g.now.ends c.args.fronts.now c.args.flags.now c.args.hub.vertex c.args.hub.count c.requires.done (omega (arith, c.if-known-hub.false))
