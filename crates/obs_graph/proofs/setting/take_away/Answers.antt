use Rattle.std.proofs.Common.{◌-◌, ◌*◌, ◌≤◌, set, None, length, refl, arith}
use Rattle.obs_graph.proofs.LaidParts.{CanTake, IsLaid}
use Rattle.obs_graph.proofs.LaidBranches.{branch_there, can_take_first, can_take_second, half_out, laid_all, laid_parts, laid_starts, take_first, take_second}
use Rattle.obs_graph.proofs.setting.take_away.Goals as goal
use Rattle.obs_graph.proofs.setting.take_away.Goals.{In-Some, After-take_out, After-take_out-in-Some}

-- before the first step, after it, and after the second
first : (c : In-Some) → CanTake c.args.starts.now c.args.at.now c.in-Some.ends.a c.args.e
first c =
    let there = branch_there (length c.args.starts.now - 1) c.args.branches.now c.args.e c.in-Some.ends c.requires.branches c.requires.e c.in-Some.is in
    can_take_first (length c.args.starts.now - 1) c.args.branches.now c.args.e c.in-Some.ends there c.args.starts.now c.args.at.now c.requires.room (laid_all (length c.args.starts.now - 1) c.args.branches.now c.args.e c.in-Some.ends there c.args.starts.now c.args.at.now c.requires.room refl c.requires.starts c.requires.parts)

between : (c : After-take_out) → IsLaid (length c.args.starts.now - 1) (half_out c.args.branches.now c.args.e c.in-Some.ends) c.take_out.new.starts c.take_out.new.at
between c =
    let there = branch_there (length c.args.starts.now - 1) c.args.branches.now c.args.e c.in-Some.ends c.requires.branches c.requires.e c.in-Some.is in
    let before = laid_all (length c.args.starts.now - 1) c.args.branches.now c.args.e c.in-Some.ends there c.args.starts.now c.args.at.now c.requires.room refl c.requires.starts c.requires.parts in
    take_first (length c.args.starts.now - 1) c.args.branches.now c.args.e c.in-Some.ends there c.args.starts.now c.args.at.now c.requires.room c.take_out.new.starts c.take_out.new.at c.take_out.auto.at before c.take_out.ensures.starts c.take_out.ensures.at

room : (c : After-take_out) → 2 * length c.args.branches.now ≤ length c.take_out.new.at
room c = let long = c.take_out.auto.at in omega (arith, long, c.requires.room)

second : (c : After-take_out) → CanTake c.take_out.new.starts c.take_out.new.at c.in-Some.ends.b c.args.e
second c =
    let there = branch_there (length c.args.starts.now - 1) c.args.branches.now c.args.e c.in-Some.ends c.requires.branches c.requires.e c.in-Some.is in
    can_take_second (length c.args.starts.now - 1) c.args.branches.now c.args.e c.in-Some.ends there c.take_out.new.starts c.take_out.new.at (room c) (between c)

pub take_out-requires-clause-rise : goal.take_out-requires-clause-rise
take_out-requires-clause-rise c = (first (goal.at.take_out-requires-clause-rise c).In-Some).rise

pub take_out-requires-in-Some-clause-rise : goal.take_out-requires-in-Some-clause-rise
take_out-requires-in-Some-clause-rise c = (second (goal.at.take_out-requires-in-Some-clause-rise c).After-take_out).rise

pub take_out-requires-clause-room : goal.take_out-requires-clause-room
take_out-requires-clause-room c = (first (goal.at.take_out-requires-clause-room c).In-Some).room

pub take_out-requires-in-Some-clause-room : goal.take_out-requires-in-Some-clause-room
take_out-requires-in-Some-clause-room c = (second (goal.at.take_out-requires-in-Some-clause-room c).After-take_out).room

pub take_out-requires-clause-parted : goal.take_out-requires-clause-parted
take_out-requires-clause-parted c = (first (goal.at.take_out-requires-clause-parted c).In-Some).parted

pub take_out-requires-in-Some-clause-parted : goal.take_out-requires-in-Some-clause-parted
take_out-requires-in-Some-clause-parted c = (second (goal.at.take_out-requires-in-Some-clause-parted c).After-take_out).parted

pub take_out-requires-clause-there : goal.take_out-requires-clause-there
take_out-requires-clause-there c = (first (goal.at.take_out-requires-clause-there c).In-Some).there

pub take_out-requires-in-Some-clause-there : goal.take_out-requires-in-Some-clause-there
take_out-requires-in-Some-clause-there c = (second (goal.at.take_out-requires-in-Some-clause-there c).After-take_out).there

pub returns-in-Some-clause-starts : goal.returns-in-Some-clause-starts
returns-in-Some-clause-starts c =
    let n = length c.args.starts.now - 1 in
    let there = branch_there n c.args.branches.now c.args.e c.in-Some.ends c.requires.branches c.requires.e c.in-Some.is in
    let half = (goal.at.returns-in-Some-clause-starts c).After-take_out in
    let long = c.take_out.auto.starts in
    let last = c.take_out-in-Some.auto.starts in
    let all = take_second n c.args.branches.now c.args.e c.in-Some.ends there c.take_out.new.starts c.take_out.new.at (room half) c.take_out-in-Some.new.starts c.take_out-in-Some.new.at c.take_out-in-Some.auto.at (between half) c.take_out-in-Some.ensures.starts c.take_out-in-Some.ensures.at in
    λ v l. laid_starts n (set c.args.branches.now c.args.e None) c.take_out-in-Some.new.starts c.take_out-in-Some.new.at all v (omega (arith, long, last, l))

pub returns-in-Some-clause-parts : goal.returns-in-Some-clause-parts
returns-in-Some-clause-parts c =
    let n = length c.args.starts.now - 1 in
    let there = branch_there n c.args.branches.now c.args.e c.in-Some.ends c.requires.branches c.requires.e c.in-Some.is in
    let half = (goal.at.returns-in-Some-clause-parts c).After-take_out in
    let all = take_second n c.args.branches.now c.args.e c.in-Some.ends there c.take_out.new.starts c.take_out.new.at (room half) c.take_out-in-Some.new.starts c.take_out-in-Some.new.at c.take_out-in-Some.auto.at (between half) c.take_out-in-Some.ensures.starts c.take_out-in-Some.ensures.at in
    laid_parts n (set c.args.branches.now c.args.e None) c.take_out-in-Some.new.starts c.take_out-in-Some.new.at all
