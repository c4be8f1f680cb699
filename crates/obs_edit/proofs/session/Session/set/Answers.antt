use Rattle.std.proofs.Common.{ap, inl, inr, ℕ, ◌+◌, ◌≡◌, ◌∙◌, length, refl, sym, subst}
use Rattle.std.specs.Prelude.{take}
use Rattle.obs_case.specs.Tables.{Tables}
use Rattle.obs_assign.specs.inner.Assignment.{StandsOver, pairs}
use Rattle.obs_network.specs.Network.{case_meters, network_of}
use Rattle.obs_edit.specs.declared.hand.AtHand.{AtHand}
use Rattle.obs_repair.specs.Edits.{edited}
use Rattle.obs_repair.specs.inner.Edits.{HasRow, IsRepaired, TakesOne}
use Rattle.obs_repair.specs.inner.Parts.{BoundsWhereKnown, HasRoomForParts}
use Rattle.obs_repair.specs.inner.Kept.{HasRoom}
use Rattle.obs_edit.specs.inner.Edits.{IsEdited}
use Rattle.obs_edit.specs.Sessions.{Session}
use Rattle.obs_edit.specs.inner.Sessions.{HasRoomToAnswer}
use Rattle.obs_repair.proofs.Flagged.{valid_now}
use Rattle.obs_repair.proofs.OfNetwork.{rank_of_longest}
use Rattle.obs_repair.proofs.PartRoom.{parts_room-edited}
use Rattle.obs_repair.proofs.Sets.{repaired-same, room-edited, takes_none}
use Rattle.obs_edit.proofs.Sets.{answer_room-edited, no_answers, placing-edited}
use Rattle.obs_edit.proofs.session.Session.set.Goals as goal

pub returns-then-is_set-clause-edited : goal.returns-then-is_set-clause-edited
returns-then-is_set-clause-edited g c = record {
  tables = subst (λ (k : Session). k.tables ≡ edited k.tables c.args.edit) c.self.view_is (sym c.if-is_set.ensures.set);
  offered = refl;
  rank = c.applied.ensures.rank;
  computed = c.applied.ensures.computed;
  needed = c.applied.ensures.needed;
  repaired = repaired-same c.args.self.now.tables c.args.self.now.pairs c.applied.result.rank c.applied.result.searches
      (subst (λ (k : Session). StandsOver k.pairs (network_of k.tables).graph (case_meters k.tables)) c.self.view_is c.self.invariant.longest.stands) c.applied.ensures.length c.applied.ensures.searches;
  meter = takes_none c.args.edit c.args.self.now.pairs c.applied.result.searches c.applied.ensures.searches;
  without_pair = λ at is none. (c.applied.ensures.searches, refl);
  flag = inl (refl, c.applied.ensures.searches);
}

pub repair-searches-requires-clause-before : goal.repair-searches-requires-clause-before
repair-searches-requires-clause-before g c = record {
  before = c.self.inside.case;
  valid = c.self.invariant.valid;
  row = subst (λ (k : Session). HasRow k.tables c.args.edit) (sym c.self.view_is) c.requires.row;
  same = c.set_flag.ensures.edited;
  changed = λ k. c.if-is_set.ensures.set (sym c.set_flag.ensures.edited ∙ k);
  network = c.self.invariant.network;
  longest = c.self.invariant.longest;
}

pub repair-searches-requires-clause-room : goal.repair-searches-requires-clause-room
repair-searches-requires-clause-room g c =
    subst (λ (t : Tables). HasRoom t c.self.inside.held.pairs c.self.inside.held.work) (sym c.set_flag.ensures.edited) (room-edited c.self.inside.case c.args.edit c.self.inside.held.pairs c.self.inside.held.work c.self.invariant.room)

pub repair-searches-requires-clause-parts_room : goal.repair-searches-requires-clause-parts_room
repair-searches-requires-clause-parts_room g c =
    subst (λ (t : Tables). HasRoomForParts t c.self.inside.held.parts) (sym c.set_flag.ensures.edited) (parts_room-edited c.self.inside.case c.args.edit c.self.inside.held.parts c.self.invariant.parts_room)

pub repair-searches-requires-clause-bounded : goal.repair-searches-requires-clause-bounded
repair-searches-requires-clause-bounded g c =
    subst (λ k. BoundsWhereKnown c.self.inside.network c.self.inside.held.parts k) (sym (rank_of_longest c.self.inside.case c.self.invariant.valid c.self.inside.held.pairs c.self.invariant.longest)) c.self.invariant.bounded

pub invariant_of-self : goal.invariant_of-self
invariant_of-self g c = record {
  valid = valid_now c.set_flag.new.case c.self.inside.case c.args.edit c.set_flag.ensures.edited c.self.invariant.valid;
  network = c.repair-searches.ensures.network;
  longest = c.repair-searches.ensures.longest;
  room = c.repair-searches.ensures.room;
  parts_room = c.repair-searches.ensures.parts_room;
  bounded = c.repair-searches.ensures.bounded;
  answer_room = subst (λ (t : Tables). HasRoomToAnswer t c.self.inside.answers.marks.items c.self.inside.answers.critical c.self.inside.answers.islands c.self.inside.answers.inside.items c.self.inside.answers.measured.listed) (sym c.set_flag.ensures.edited)
      (answer_room-edited c.self.inside.case c.args.edit c.self.inside.answers.marks.items c.self.inside.answers.critical c.self.inside.answers.islands c.self.inside.answers.inside.items c.self.inside.answers.measured.listed c.self.invariant.answer_room);
  answers = no_answers c.set_flag.new.case c.repair-searches.new.a c.self.inside.answers.marks.items c.self.inside.answers.critical c.self.inside.answers.islands
      (record { inside = take c.self.inside.answers.measured.listed c.self.inside.answers.inside.items; rank = c.self.inside.answers.measured.rank; outside = c.self.inside.answers.measured.outside })
      c.nothing-self-inside.result c.nothing-self-inside.ensures.nothing;
  placing = placing-edited c.self.inside.case c.set_flag.new.case c.args.edit c.self.inside.offered c.self.inside.answers.hand.placed c.nothing-self-inside.result.placed c.self.inside.placing c.set_flag.ensures.edited
      (ap (λ (h : AtHand). h.placed) c.nothing-self-inside.ensures.nothing) c.self.invariant.placing;
}

pub set_flag-requires : goal.set_flag-requires
set_flag-requires g c = record { row = subst (λ (k : Session). HasRow k.tables c.args.edit) (sym c.self.view_is) c.requires.row }

pub returns-clause-ticks : goal.returns-clause-ticks
returns-clause-ticks g c = c.repair-searches.ensures.ticks ∙ ap (λ (n : ℕ). c.args.steps.now + n) (sym c.applied-2.ensures.searches)

pub returns-clause-edited : goal.returns-clause-edited
returns-clause-edited g c =
    let said = c.applied-2.ensures in
    let done = c.repair-searches.ensures in
    let t = c.set_flag.new.case in
    let before = c.self.inside.held.pairs in
    let after = c.repair-searches.new.a in
    subst (λ (k : Session). IsEdited k c.args.edit (record { tables = t; offered = c.self.inside.offered; pairs = after; at_hand = c.nothing-self-inside.result }) c.applied-2.result) c.self.view_is (record {
      tables = c.set_flag.ensures.edited;
      offered = refl;
      rank = said.rank;
      computed = said.computed;
      needed = said.needed;
      repaired = subst (λ (r : ℕ). IsRepaired t before after r c.applied-2.result.searches) (sym said.length)
          (subst (λ (s : ℕ). IsRepaired t before after (length (pairs after)) s) (sym said.searches) done.repaired);
      meter = subst (λ (s : ℕ). TakesOne c.args.edit before after s) (sym said.searches) done.meter;
      without_pair = λ at is none. let w = done.without_pair at is none in (said.searches ∙ w.0, w.1);
      flag = inr (λ k. c.if-is_set.ensures.set (sym c.set_flag.ensures.edited ∙ k), c.nothing-self-inside.ensures.nothing);
    })
