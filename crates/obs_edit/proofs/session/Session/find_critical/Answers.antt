use Rattle.std.proofs.Common.{◌≡◌, ◌++◌, length, take, drop, ap, ◌∙◌}
use Rattle.obs_graph.proofs.Stored.{written_back}
use Rattle.obs_edit.proofs.session.Session.find_critical.Goals as goal

pub invariant_of-self : goal.invariant_of-self
invariant_of-self g c =
    let was = c.self.invariant in
    let found = c.find_critical.ensures in
    let room = was.answer_room in
    let marks = c.find_critical.new.marks in
    let kept = c.self.inside.answers.marks in
    let count : length marks ≡ length kept.items = c.find_critical.auto.marks ∙ ap length c.deref_mut.ensures.value in
    let back : take kept.len (marks ++ drop (length marks) kept.items) ≡ marks = written_back kept.len marks kept.items count kept.ok.0 in
    rw (back, found.same) (record {
      valid = was.valid;
      network = was.network;
      longest = was.longest;
      room = record { pair_meters = was.room.pair_meters; pair_branches = was.room.pair_branches; pair_vertices = was.room.pair_vertices; work = found.same_sizes ∙ was.room.work };
      parts_room = was.parts_room;
      bounded = was.bounded;
      answer_room = record { flags_len = count ∙ room.flags_len; listing_room = found.same_room ∙ room.listing_room; islands_room = room.islands_room; list_len = room.list_len; within = room.within };
      answers = record { first = was.answers.first; marks = λ e. found.marks; critical = λ e. found.critical; islands = was.answers.islands; bound = was.answers.bound };
      placing = was.placing;
    })
