use Rattle.std.proofs.Common.{◌≡◌, length, refl, ap, ◌∙◌, Err, None, Some, rules}
use Rattle.std.specs.Prelude.{map, string_bytes}
use Rattle.obs_c.specs.Blocks.{IsCall, words_in}
use Rattle.obs_c.proofs.Blocked.{lengths_of}
use Rattle.obs_c.proofs.Given.{filled}
use Rattle.obs_c.proofs.Staying.{begun_already, begun_malformed, begun_starved, no_call, opened, refused}
use Rattle.obs_c.proofs.stay.obs_session_begin_within.Goals as goal

pub returns-in-Some-clause-begun : goal.returns-in-Some-clause-begun
returns-in-Some-clause-begun c = begun_already _ _ _ _ _ _ _ _ _ _ c.in-Some.ensures.taken c.put.ensures.value refl refl

pub returns-in-Err-Malformed-clause-begun : goal.returns-in-Err-Malformed-clause-begun
returns-in-Err-Malformed-clause-begun c = begun_malformed _ _ _ _ _ _ _ _ _ c.in_default.ensures.taken c.take.ensures.none (λ call. c.in-Err-Malformed.ensures.malformed (search rules) call.words) refl refl

pub returns-in-Err-NoMemory-clause-begun : goal.returns-in-Err-NoMemory-clause-begun
returns-in-Err-NoMemory-clause-begun c = begun_starved _ _ _ _ _ _ _ _ _ c.in_default.ensures.taken c.take.ensures.none c.code.ensures.code refl

pub returns-then-not-are_lengths-clause-begun : goal.returns-then-not-are_lengths-clause-begun
returns-then-not-are_lengths-clause-begun c =
    begun_malformed _ _ _ _ _ _ _ _ _ c.in_default.ensures.taken c.take.ensures.none
    (no_call c.args.words.now c.args.contents.now c.args.lengths.now c.in-Ok.list.items c.len.result c.in-Ok.ensures.words (c.len.ensures ∙ c.in-Ok.list.ok.0)
    (λ are. absurd (cc (c.if-not-are_lengths.ensures.lengths.1 are)))) refl refl

pub returns-in_default-with_room-clause-begun : goal.returns-in_default-with_room-clause-begun
returns-in_default-with_room-clause-begun c = begun_starved _ _ _ _ _ _ _ _ _ c.in_default.ensures.taken c.take.ensures.none c.code-in_default-with_room.ensures.code refl

pub returns-in_default-new-clause-begun : goal.returns-in_default-new-clause-begun
returns-in_default-new-clause-begun c = begun_starved _ _ _ _ _ _ _ _ _ c.in_default.ensures.taken c.take.ensures.none c.code-in_default-new.ensures.code refl

pub returns-in-Ok-begin_session_within-clause-begun : goal.returns-in-Ok-begin_session_within-clause-begun
returns-in-Ok-begin_session_within-clause-begun c =
    let list = map string_bytes c.deref.result.now in
    let same : list ≡ words_in c.args.words.now = ap (map string_bytes) c.deref.ensures.value ∙ c.in-Ok.ensures.words in
    let call : IsCall c.args.words.now c.args.contents.now c.args.lengths.now = record {
      words = c.in-Ok.ensures.well;
      lengths = lengths_of (words_in c.args.words.now) c.in-Ok.list.items c.args.contents.now c.args.lengths.now c.len.result c.in-Ok.ensures.words (c.len.ensures ∙ c.in-Ok.list.ok.0) (c.are_lengths.ensures.lengths.0 c.if-not-are_lengths.false);
    } in
    opened _ c.limits_for.result c.limits_for.ensures.limits c.args.words.now c.args.contents.now c.args.lengths.now (length c.args.text.now) list _ call same c.new-files.ensures.content c.in-Ok-begin_session_within.session None None _ _ _ _
    c.in_default.ensures.taken (c.put-in-Ok-begin_session_within.ensures.value ∙ ap Some c.in-Ok-new.ensures.ok) c.code-in-Ok-begin_session_within.ensures.code refl c.in-Ok-begin_session_within.ensures.begins

pub returns-clause-begun : goal.returns-clause-begun
returns-clause-begun c =
    let list = map string_bytes c.deref.result.now in
    let same : list ≡ words_in c.args.words.now = ap (map string_bytes) c.deref.ensures.value ∙ c.in-Ok.ensures.words in
    let call : IsCall c.args.words.now c.args.contents.now c.args.lengths.now = record {
      words = c.in-Ok.ensures.well;
      lengths = lengths_of (words_in c.args.words.now) c.in-Ok.list.items c.args.contents.now c.args.lengths.now c.len.result c.in-Ok.ensures.words (c.len.ensures ∙ c.in-Ok.list.ok.0) (c.are_lengths.ensures.lengths.0 c.if-not-are_lengths.false);
    } in
    refused _ c.limits_for.result c.limits_for.ensures.limits c.args.words.now c.args.contents.now c.args.lengths.now (length c.args.text.now) list _ call same c.new-files.ensures.content c.in-Err.status _ _ _ c.bytes.result.now _ _ _ _
    c.in_default.ensures.taken c.take.ensures.none c.in-Ok-with_room.ensures.written c.bytes.ensures.written
    (record { whole = c.deliver.ensures.whole; part = c.deliver.ensures.part })
    (λ e. c.in-Err.ensures.steady (λ w i. c.new-files.ensures.steady w) (ap Err e))
    (λ e. filled _ _ _ _ c.in-Ok-with_room.ensures.faults c.bytes.ensures.full (c.in-Err.ensures.write (ap Err e)))
    c.in-Err.ensures.begins
