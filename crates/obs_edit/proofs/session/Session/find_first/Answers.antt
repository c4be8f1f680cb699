use Rattle.obs_edit.proofs.session.Session.find_first.Goals as goal

pub invariant_of-self : goal.invariant_of-self
invariant_of-self g c =
    let was = c.self.invariant in
    let found = c.find_first.ensures in
    record {
      valid = was.valid;
      network = was.network;
      longest = found.longest;
      room = found.room;
      parts_room = was.parts_room;
      bounded = was.bounded;
      answer_room = was.answer_room;
      answers = record { first = λ e. found.first; marks = was.answers.marks; critical = was.answers.critical; islands = was.answers.islands; bound = was.answers.bound };
      placing = was.placing;
    }
