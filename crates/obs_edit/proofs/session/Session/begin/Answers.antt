use Rattle.std.proofs.Common.{ap}
use Rattle.std.specs.Prelude.{take}
use Rattle.obs_network.specs.Observable.{case_rank}
use Rattle.obs_edit.specs.declared.hand.AtHand.{AtHand}
use Rattle.obs_edit.proofs.Plans.{placing_begun}
use Rattle.obs_edit.proofs.Sets.{bounds-unknown, no_answers}
use Rattle.obs_edit.proofs.session.Session.begin.Goals as goal

pub invariant_of-result : goal.invariant_of-result
invariant_of-result g c =
    let nothing = c.in-Ok-make_answers.ensures.nothing in
    record {
      valid = c.make_answers.ensures.valid;
      network = c.in-Ok-make.ensures.whole;
      longest = c.fill.ensures.longest;
      room = c.fill.ensures.room;
      parts_room = c.in-Ok-make_held.ensures.parts_room;
      bounded = bounds-unknown c.in-Ok-make.network c.in-Ok-make_held.held.parts (case_rank c.args.case) c.in-Ok-make_held.ensures.unknown;
      answer_room = c.in-Ok-make_answers.ensures.room;
      answers = no_answers c.args.case c.fill.new.pairs c.in-Ok-make_answers.answers.marks.items c.in-Ok-make_answers.answers.critical c.in-Ok-make_answers.answers.islands
          (record { inside = take c.in-Ok-make_answers.answers.measured.listed c.in-Ok-make_answers.answers.inside.items; rank = c.in-Ok-make_answers.answers.measured.rank; outside = c.in-Ok-make_answers.answers.measured.outside })
          c.in-Ok-make_answers.answers.hand nothing;
      placing = placing_begun c.args.case c.args.offered c.in-Ok-make_answers.answers.hand.placed c.in-Ok.placing (ap (λ (h : AtHand). h.placed) nothing) c.in-Ok.ensures.empty;
    }
