use Rattle.std.proofs.Common.{◌≡◌, ◌++◌, ◌∙◌, ap, length, take, drop}
use Rattle.obs_graph.proofs.Stored.{written_back}
use Rattle.obs_assign.specs.inner.Assignment.{has_flag}
use Rattle.obs_critical.proofs.Marks.{unmarked_critical}
use Rattle.obs_critical.proofs.critical_meters.find_critical.Goals as goal
use Rattle.obs_critical.proofs.critical_meters.find_critical.Goals.{After-list_unmarked-work-inside}

-- what the array holds after the write
back : (c : After-list_unmarked-work-inside) → take c.work.inside.list.len (c.list_unmarked-work-inside.new.list ++ drop (length c.list_unmarked-work-inside.new.list) c.work.inside.list.items) ≡ c.list_unmarked-work-inside.new.list
back c =
    let same : length c.list_unmarked-work-inside.new.list ≡ length c.work.inside.list.items = c.list_unmarked-work-inside.auto.list ∙ ap length c.deref_mut.ensures.value in
    written_back c.work.inside.list.len c.list_unmarked-work-inside.new.list c.work.inside.list.items same c.work.inside.list.ok.0

pub returns-clause-critical : goal.returns-clause-critical
returns-clause-critical c =
    rw (back (goal.at.returns-clause-critical c).After-list_unmarked-work-inside) (c.list_unmarked-work-inside.ensures.listed
    ∙ unmarked_critical c.args.a.now c.args.g.now c.args.ms.now.touches (has_flag c.args.marks.now)
    (record { branches = c.vertices.ensures.branches; whole = c.length.ensures.whole; stands = c.requires.stands; least = c.requires.closed }) c.requires.thawed)
