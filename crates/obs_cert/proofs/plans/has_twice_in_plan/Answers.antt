use Rattle.std.proofs.Common.{length, sym, ap, ◌∙◌}
use Rattle.obs_cert.specs.Flaws.{all_inside, paired_twice, twice}
use Rattle.obs_cert.specs.Numbered.{candidate_items, items_of}
use Rattle.obs_cert.specs.inner.Walked.{parts_in}
use Rattle.obs_cert.proofs.ClaimLemmas.{ready_plan, three_same}
use Rattle.obs_cert.proofs.plans.has_twice_in_plan.Goals as goal

pub returns-clause-twice : goal.returns-clause-twice
returns-clause-twice c number =
    let t = c.args.case.now in
    let parts = parts_in c.args.rest.now in
    c.either.ensures.either
    ∙ three_same c.has_twice-chosen_twice.result (twice (items_of t (candidate_items parts.chosen))) c.has_pair_twice-pair_twice.result (paired_twice t parts.pairs) c.has_twice-listed_twice.result (twice (items_of t (all_inside parts.layers)))
    (rw (sym c.walk_items-chosen.ensures.items) c.has_twice-chosen_twice.ensures.twice) c.has_pair_twice-pair_twice.ensures.twice
    (rw (sym c.walk_items-listed.ensures.items) c.has_twice-listed_twice.ensures.twice)

pub returns-clause-ready : goal.returns-clause-ready
returns-clause-ready c =
    let a = c.has_twice-chosen_twice in
    let b = c.has_pair_twice-pair_twice in
    let d = c.has_twice-listed_twice in
    ready_plan c.args.case.now c.args.stamp c.args.work.now a.new.marks b.new.paired d.new.marks b.new.taken c.requires.ready
    (a.auto.marks ∙ ap length c.deref_mut.ensures.value) (b.auto.paired ∙ ap length c.deref_mut-2.ensures.value) (d.auto.marks ∙ ap length c.deref_mut-4.ensures.value) (b.auto.taken ∙ ap length c.deref_mut-3.ensures.value)
    a.ensures.below b.ensures.below_items d.ensures.below b.ensures.below_branches

pub has_twice-chosen_twice-requires-clause-room : goal.has_twice-chosen_twice-requires-clause-room
has_twice-chosen_twice-requires-clause-room c = rw c.deref_mut.ensures.value c.requires.ready.room.chosen

pub has_twice-chosen_twice-requires-clause-fresh : goal.has_twice-chosen_twice-requires-clause-fresh
has_twice-chosen_twice-requires-clause-fresh c = rw c.deref_mut.ensures.value c.requires.ready.chosen

pub has_pair_twice-pair_twice-requires-clause-items : goal.has_pair_twice-pair_twice-requires-clause-items
has_pair_twice-pair_twice-requires-clause-items c = rw c.deref_mut-2.ensures.value c.requires.ready.room.paired

pub has_pair_twice-pair_twice-requires-clause-branches : goal.has_pair_twice-pair_twice-requires-clause-branches
has_pair_twice-pair_twice-requires-clause-branches c = rw c.deref_mut-3.ensures.value c.requires.ready.room.taken

pub has_pair_twice-pair_twice-requires-clause-fresh_items : goal.has_pair_twice-pair_twice-requires-clause-fresh_items
has_pair_twice-pair_twice-requires-clause-fresh_items c = rw c.deref_mut-2.ensures.value c.requires.ready.paired

pub has_pair_twice-pair_twice-requires-clause-fresh_branches : goal.has_pair_twice-pair_twice-requires-clause-fresh_branches
has_pair_twice-pair_twice-requires-clause-fresh_branches c = rw c.deref_mut-3.ensures.value c.requires.ready.taken

pub has_twice-listed_twice-requires-clause-room : goal.has_twice-listed_twice-requires-clause-room
has_twice-listed_twice-requires-clause-room c = rw c.deref_mut-4.ensures.value c.requires.ready.room.listed

pub has_twice-listed_twice-requires-clause-fresh : goal.has_twice-listed_twice-requires-clause-fresh
has_twice-listed_twice-requires-clause-fresh c = rw c.deref_mut-4.ensures.value c.requires.ready.listed
