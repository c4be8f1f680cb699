use Rattle.std.proofs.Common.{◌-◌, ◌*◌, ◌≤◌, set, None, length, refl, sym, ap, ◌∙◌, subst, arith}
use Rattle.std.proofs.lemmas.List.{set-get_or}
use Rattle.obs_graph.specs.inner.Positions.{AreParts}
use Rattle.obs_graph.proofs.LaidParts.{CanPut, IsLaid}
use Rattle.obs_graph.proofs.LaidBranches.{branch_there, can_put_first, can_put_second, half_in, laid_absent, laid_parts, laid_starts, put_first, put_second}
use Rattle.obs_graph.proofs.setting.bring_in.Goals as goal
use Rattle.obs_graph.proofs.setting.bring_in.Goals.{In-Some, After-put_in, After-put_in-in-Some}

-- before the first step, after it, and after the second
first : (c : In-Some) → CanPut c.args.starts.now c.args.at.now c.in-Some.ends.a c.args.e
first c =
    let there = branch_there (length c.args.starts.now - 1) c.args.branches.now c.args.e c.in-Some.ends c.requires.branches c.requires.e c.in-Some.is in
    can_put_first (length c.args.starts.now - 1) c.args.branches.now c.args.e c.in-Some.ends there c.args.starts.now c.args.at.now c.requires.room (laid_absent (length c.args.starts.now - 1) c.args.branches.now c.args.e c.in-Some.ends there c.args.starts.now c.args.at.now c.requires.room refl c.requires.starts c.requires.parts)

between : (c : After-put_in) → IsLaid (length c.args.starts.now - 1) (half_in c.args.branches.now c.args.e c.in-Some.ends) c.put_in.new.starts c.put_in.new.at
between c =
    let there = branch_there (length c.args.starts.now - 1) c.args.branches.now c.args.e c.in-Some.ends c.requires.branches c.requires.e c.in-Some.is in
    let before = laid_absent (length c.args.starts.now - 1) c.args.branches.now c.args.e c.in-Some.ends there c.args.starts.now c.args.at.now c.requires.room refl c.requires.starts c.requires.parts in
    put_first (length c.args.starts.now - 1) c.args.branches.now c.args.e c.in-Some.ends there c.args.starts.now c.args.at.now c.requires.room c.put_in.new.starts c.put_in.new.at c.put_in.auto.at before c.put_in.ensures.starts c.put_in.ensures.at

room : (c : After-put_in) → 2 * length c.args.branches.now ≤ length c.put_in.new.at
room c = let long = c.put_in.auto.at in omega (arith, long, c.requires.room)

second : (c : After-put_in) → CanPut c.put_in.new.starts c.put_in.new.at c.in-Some.ends.b c.args.e
second c =
    let there = branch_there (length c.args.starts.now - 1) c.args.branches.now c.args.e c.in-Some.ends c.requires.branches c.requires.e c.in-Some.is in
    can_put_second (length c.args.starts.now - 1) c.args.branches.now c.args.e c.in-Some.ends there c.put_in.new.starts c.put_in.new.at (room c) (between c)

pub put_in-requires-clause-rise : goal.put_in-requires-clause-rise
put_in-requires-clause-rise c = (first (goal.at.put_in-requires-clause-rise c).In-Some).rise

pub put_in-requires-in-Some-clause-rise : goal.put_in-requires-in-Some-clause-rise
put_in-requires-in-Some-clause-rise c = (second (goal.at.put_in-requires-in-Some-clause-rise c).After-put_in).rise

pub put_in-requires-clause-room : goal.put_in-requires-clause-room
put_in-requires-clause-room c = (first (goal.at.put_in-requires-clause-room c).In-Some).room

pub put_in-requires-in-Some-clause-room : goal.put_in-requires-in-Some-clause-room
put_in-requires-in-Some-clause-room c = (second (goal.at.put_in-requires-in-Some-clause-room c).After-put_in).room

pub put_in-requires-clause-parted : goal.put_in-requires-clause-parted
put_in-requires-clause-parted c = (first (goal.at.put_in-requires-clause-parted c).In-Some).parted

pub put_in-requires-in-Some-clause-parted : goal.put_in-requires-in-Some-clause-parted
put_in-requires-in-Some-clause-parted c = (second (goal.at.put_in-requires-in-Some-clause-parted c).After-put_in).parted

pub returns-in-Some-clause-starts : goal.returns-in-Some-clause-starts
returns-in-Some-clause-starts c =
    let n = length c.args.starts.now - 1 in
    let there = branch_there n c.args.branches.now c.args.e c.in-Some.ends c.requires.branches c.requires.e c.in-Some.is in
    let half = (goal.at.returns-in-Some-clause-starts c).After-put_in in
    let long = c.put_in.auto.starts in
    let last = c.put_in-in-Some.auto.starts in
    let all = put_second n c.args.branches.now c.args.e c.in-Some.ends there c.put_in.new.starts c.put_in.new.at (room half) c.put_in-in-Some.new.starts c.put_in-in-Some.new.at c.put_in-in-Some.auto.at (between half) c.put_in-in-Some.ensures.starts c.put_in-in-Some.ensures.at in
    λ v l. laid_starts n c.args.branches.now c.put_in-in-Some.new.starts c.put_in-in-Some.new.at all v (omega (arith, long, last, l))

pub returns-in-Some-clause-parts : goal.returns-in-Some-clause-parts
returns-in-Some-clause-parts c =
    let n = length c.args.starts.now - 1 in
    let there = branch_there n c.args.branches.now c.args.e c.in-Some.ends c.requires.branches c.requires.e c.in-Some.is in
    let half = (goal.at.returns-in-Some-clause-parts c).After-put_in in
    let all = put_second n c.args.branches.now c.args.e c.in-Some.ends there c.put_in.new.starts c.put_in.new.at (room half) c.put_in-in-Some.new.starts c.put_in-in-Some.new.at c.put_in-in-Some.auto.at (between half) c.put_in-in-Some.ensures.starts c.put_in-in-Some.ensures.at in
    laid_parts n c.args.branches.now c.put_in-in-Some.new.starts c.put_in-in-Some.new.at all

pub returns-in_default-clause-parts : goal.returns-in_default-clause-parts
returns-in_default-clause-parts c = subst (λ rows. AreParts (length c.args.starts.now - 1) rows c.args.at.now) (ap (set c.args.branches.now c.args.e) (sym c.in_default.is) ∙ set-get_or c.args.branches.now c.args.e None) c.requires.parts
