use Rattle.std.proofs.Common.{◌≡◌, ◌++◌, length, take, drop, refl, ap, ◌∙◌}
use Rattle.obs_graph.proofs.Stored.{written_back}
use Rattle.obs_pairs.proofs.Moving.{IsMoved-same}
use Rattle.obs_pairs.proofs.split.split.Goals as goal

pub returns-clause-moved : goal.returns-clause-moved
returns-clause-moved g c =
    let v = c.args.room.now.reach in
    let new = c.split_within.new.reach in
    let same = c.split_within.auto.reach ∙ ap length c.deref_mut.ensures.value in
    let back : take v.len (new ++ drop (length new) v.items) ≡ new = written_back v.len new v.items same v.ok.0 in
    IsMoved-same refl refl c.split_within.ensures.same_sizes (ap (λ xs. length xs) back ∙ same) c.requires.may
