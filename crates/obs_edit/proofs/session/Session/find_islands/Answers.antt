use Rattle.std.proofs.Common.{◌∙◌}
use Rattle.obs_edit.proofs.session.Session.find_islands.Goals as goal

pub invariant_of-self : goal.invariant_of-self
invariant_of-self g c =
    let was = c.self.invariant in
    let found = c.find_islands.ensures in
    let room = was.answer_room in
    record {
      valid = was.valid;
      network = was.network;
      longest = was.longest;
      room = was.room;
      parts_room = was.parts_room;
      bounded = was.bounded;
      answer_room = record { flags_len = room.flags_len; listing_room = room.listing_room; islands_room = found.same_sizes ∙ room.islands_room; list_len = room.list_len; within = room.within };
      answers = record { first = was.answers.first; marks = was.answers.marks; critical = was.answers.critical; islands = λ e. found.islands; bound = was.answers.bound };
      placing = was.placing;
    }
