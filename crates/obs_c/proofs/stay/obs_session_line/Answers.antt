use Rattle.std.proofs.Common.{length, refl, ap, ◌∙◌, sym, Some}
use Rattle.obs_engine.proofs.Staying.{line_no_memory}
use Rattle.obs_c.proofs.Given.{filled}
use Rattle.obs_c.proofs.Staying.{line_done, line_starved, line_unbegun}
use Rattle.obs_c.proofs.stay.obs_session_line.Goals as goal

pub returns-in_default-clause-answered : goal.returns-in_default-clause-answered
returns-in_default-clause-answered c = line_unbegun c.args.line.now _ _ _ _ _ c.in_default.ensures.taken c.take.ensures.none refl refl

pub returns-in_default-with_room-clause-answered : goal.returns-in_default-with_room-clause-answered
returns-in_default-with_room-clause-answered c = line_starved c.args.line.now _ _ _ _ _ _ c.in-Some.ensures.taken c.put.ensures.value c.code.ensures.code refl

pub returns-clause-answered : goal.returns-clause-answered
returns-clause-answered c =
    let answered = c.answer_one-status.ensures in
    line_done c.args.line.now _ (length c.args.text.now) _ _ _ c.deref_mut.result.now c.answer_one-status.new.session c.answer_one-status.result _ _ _ c.bytes.result.now
    (c.in-Some.ensures.taken ∙ ap Some (sym c.deref_mut.ensures.value)) c.put-2.ensures.value
    answered.offered answered.tables c.in-Ok.ensures.written c.bytes.ensures.written
    (record { whole = c.deliver.ensures.whole; part = c.deliver.ensures.part })
    answered.replied.reads (line_no_memory _ _ answered.statuses)
    (λ e. filled _ _ _ _ c.in-Ok.ensures.faults c.bytes.ensures.full (answered.replied.write e)) answered.replied.ends
