use Rattle.std.proofs.Common.{◌∙◌, ap, true}
use Rattle.obs_edit.proofs.Plans.{placing_found}
use Rattle.obs_edit.specs.Sessions.{Session}
use Rattle.obs_edit.proofs.session.Session.find_placement.Goals as goal

pub place-requires : goal.place-requires
place-requires g c = record {
  prices = c.self.invariant.placing.prices;
  sizes = c.self.invariant.placing.sizes (ap (λ (k : Session). k.offered) c.self.view_is ∙ c.requires.candidates);
}

pub invariant_of-self : goal.invariant_of-self
invariant_of-self g c =
    let was = c.self.invariant in
    let found = c.place.ensures in
    record {
      valid = was.valid;
      network = was.network;
      longest = was.longest;
      room = was.room;
      parts_room = was.parts_room;
      bounded = was.bounded;
      answer_room = was.answer_room;
      answers = record { first = was.answers.first; marks = was.answers.marks; critical = was.answers.critical; islands = was.answers.islands; bound = was.answers.bound };
      placing = placing_found c.self.inside.case c.self.inside.placing c.place.new.placing c.self.inside.offered c.self.inside.answers.hand.placed was.placing found.placed found.pairs found.stands found.same_prices found.same_sizes true;
    }
