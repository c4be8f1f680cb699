use Rattle.std.proofs.Common.{◌≡◌, ◌++◌, length, take, drop, ap, ◌∙◌}
use Rattle.obs_graph.proofs.Stored.{written_back}
use Rattle.obs_edit.proofs.Answered.{bound_answer}
use Rattle.obs_edit.proofs.session.Session.find_bound.Goals as goal

pub invariant_of-self : goal.invariant_of-self
invariant_of-self c =
    let was = c.self.invariant in
    let found = c.find_bound-self-inside.ensures in
    let measured = c.find_bound-self-inside.result in
    let room = was.answer_room in
    let inside = c.find_bound-self-inside.new.inside in
    let kept = c.self.inside.answers.inside in
    let count : length inside ≡ length kept.items = c.find_bound-self-inside.auto.inside ∙ ap length c.deref_mut.ensures.value in
    let back : take kept.len (inside ++ drop (length inside) kept.items) ≡ inside = written_back kept.len inside kept.items count kept.ok.0 in
    rw back (record {
      valid = was.valid;
      network = was.network;
      longest = was.longest;
      room = was.room;
      parts_room = was.parts_room;
      bounded = was.bounded;
      answer_room = record { flags_len = room.flags_len; listing_room = room.listing_room; islands_room = room.islands_room; list_len = count ∙ room.list_len; within = found.few };
      answers = record {
        first = was.answers.first;
        marks = was.answers.marks;
        critical = was.answers.critical;
        islands = was.answers.islands;
        bound = bound_answer c.self.inside.case c.args.c (take measured.listed inside) measured.rank measured.outside found.listed found.rank found.outside;
      };
      placing = was.placing;
    })
