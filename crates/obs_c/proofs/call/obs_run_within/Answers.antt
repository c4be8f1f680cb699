use Rattle.std.proofs.Common.{◌≡◌, ◌≢◌, length, inr, refl, sym, ap, ◌∙◌}
use Rattle.std.specs.Prelude.{map, string_bytes}
use Rattle.obs_files.specs.declared.status.Status.TheVariants.{ReadFault}
use Rattle.obs_c.specs.Blocks.{words_in}
use Rattle.obs_c.specs.Calls.{limits_for, told_by}
use Rattle.obs_c.proofs.Blocked.{ends_in, lengths_of, none_failed}
use Rattle.obs_c.proofs.Given.{answered, filled, held_by_run}
use Rattle.obs_c.proofs.call.obs_run_within.Goals as goal

pub returns-in-Err-NoMemory-clause-stated : goal.returns-in-Err-NoMemory-clause-stated
returns-in-Err-NoMemory-clause-stated c = λ call. inr (c.code.ensures.code, refl)

pub returns-in_default-clause-stated : goal.returns-in_default-clause-stated
returns-in_default-clause-stated c = λ call. inr (c.code-in_default.ensures.code, refl)

pub returns-clause-refused : goal.returns-clause-refused
returns-clause-refused c = λ none. absurd (none (record {
  words = c.in-Ok.ensures.well;
  lengths = lengths_of (words_in c.args.words.now) c.in-Ok.list.items c.args.contents.now c.args.lengths.now c.len.result c.in-Ok.ensures.words (c.len.ensures ∙ c.in-Ok.list.ok.0) (c.are_lengths.ensures.lengths.0 c.if-not-are_lengths.false);
}))

pub returns-clause-stated : goal.returns-clause-stated
returns-clause-stated c = λ call.
    let told = told_by (limits_for c.args.large) c.args.contents.now c.args.lengths.now c.args.input.now in
    let words = words_in c.args.words.now in
    let list = map string_bytes c.deref.result.now in
    let status = c.run_within-status.result in
    let bytes = c.bytes.result.now in
    let same : list ≡ words = ap (map string_bytes) c.deref.ensures.value ∙ c.in-Ok.ensures.words in
    let read : status ≢ ReadFault = λ e. none_failed c.limits_for.result list _ _ _ _ _ _ _ _ _ (λ w. refl) refl (c.run_within-status.ensures.read e) in
    let ends = ends_in c.limits_for.result list words told _ _ _ status _ _ _ _ (sym c.limits_for.ensures.limits) same c.new-files.ensures.content c.new-source.ensures.left
    c.in-Ok-with_room.ensures.written c.bytes.ensures.written c.run_within-status.ensures.stated in
    let held = held_by_run _ _ bytes words told _ status read
    (λ e. filled _ _ _ bytes c.in-Ok-with_room.ensures.faults c.bytes.ensures.full (c.run_within-status.ensures.write e)) ends in
    answered words told status bytes _ (length c.args.text.now) _ (record { whole = c.deliver.ensures.whole; part = c.deliver.ensures.part }) held
