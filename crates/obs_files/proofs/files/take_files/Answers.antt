use Rattle.std.proofs.Common.{◌∙◌, ◌<◌, Err, arith, length, refl, subst, sym, true, ℕ}
use Rattle.obs_matroid.proofs.Contained.{In-get_or}
use Rattle.obs_matroid.specs.Lists.{In}
use Rattle.obs_text.specs.inner.Faults.{fault_of}
use Rattle.obs_files.specs.declared.taken.CaseError.{CaseError}
use Rattle.obs_files.specs.inner.Taken.{IsNext, bytes_of}
use Rattle.obs_files.specs.Words.{parts_of, words_of}
use Rattle.obs_files.proofs.Contents.{contents_not_taken, reading_failed, reading_goes_on, reading_refused}
use Rattle.obs_files.proofs.Filed.{part_here, word_here}
use Rattle.obs_files.proofs.Taking.{is_read, ok_not_read, read_back}
use Rattle.obs_files.proofs.files.take_files.Goals as goal

pub returns-in_err-take_next-clause-stated : goal.returns-in_err-take_next-clause-stated
returns-in_err-take_next-clause-stated g c = λ file told.
    let form = c.args.form in
    let k = c.loop-k.k in
    let low : k < length (words_of form) = omega (arith, c.loop-k-test.true, c.file_count-k-end.ensures.count) in
    let part = c.file-word.result.1.now in
    let why = c.in_err-take_next.field-0.0 in
    contents_not_taken c.args.limits (parts_of form) file (words_of form) why c.from_residual.result c.from_residual.ensures.1
    (λ fault e. reading_refused c.args.limits (parts_of form) (words_of form) _ _ _ c.loop-k.invariant c.file-word.result.0 part
    (word_here form k low c.file-word.result.0 c.file-word.ensures.word) (part_here form k low part c.file-word.ensures.part) (fault_of fault)
    (λ bytes is. subst (λ (w : CaseError). IsNext c.args.limits part bytes (bytes_of c.loop-k.contents.items) (bytes_of c.take_next.new.contents.items) (Err w)) e
    (c.in_err-take_next.ensures.stated bytes is))
    file told)

pub returns-in_err-take_next-clause-read : goal.returns-in_err-take_next-clause-read
returns-in_err-take_next-clause-read g c = λ e.
    let form = c.args.form in
    let k = c.loop-k.k in
    let low : k < length (words_of form) = omega (arith, c.loop-k-test.true, c.file_count-k-end.ensures.count) in
    reading_failed c.args.limits (parts_of form) (words_of form) _ _ _ c.loop-k.invariant c.file-word.result.0 c.file-word.result.1.now
    (word_here form k low c.file-word.result.0 c.file-word.ensures.word) (part_here form k low c.file-word.result.1.now c.file-word.ensures.part)
    (c.in_err-take_next.ensures.read (is_read _ c.from_residual.result c.from_residual.ensures.1 e)) c.in_err-take_next.ensures.others

pub returns-in_err-take_next-clause-quiet : goal.returns-in_err-take_next-clause-quiet
returns-in_err-take_next-clause-quiet g c = λ none w.
    c.in_err-take_next.ensures.quiet (λ e. none (read_back _ c.from_residual.result c.from_residual.ensures.1 e)) w ∙ c.loop-k.invariant.quiet w

pub returns-in_err-take_next-clause-steady : goal.returns-in_err-take_next-clause-steady
returns-in_err-take_next-clause-steady g c = λ all e.
    let form = c.args.form in
    let k = c.loop-k.k in
    let low : k < length (words_of form) = omega (arith, c.loop-k-test.true, c.file_count-k-end.ensures.count) in
    let named = subst (λ (w : ℕ). In w (words_of form)) (sym c.file-word.ensures.word) (In-get_or (words_of form) k 0 low) in
    c.in_err-take_next.ensures.succeeds (c.loop-k.invariant.calm c.file-word.result.0 (all c.file-word.result.0 named))
    (is_read _ c.from_residual.result c.from_residual.ensures.1 e)

pub loop-k-preserved : goal.loop-k-preserved
loop-k-preserved g c =
    let form = c.args.form in
    let k = c.loop-k.k in
    let low : k < length (words_of form) = omega (arith, c.loop-k-test.true, c.file_count-k-end.ensures.count) in
    let next = c.in_ok-take_next.ensures in
    reading_goes_on c.args.limits (parts_of form) (words_of form) _ _ _ c.loop-k.invariant c.file-word.result.0 c.file-word.result.1.now
    (word_here form k low c.file-word.result.0 c.file-word.ensures.word) (part_here form k low c.file-word.result.1.now c.file-word.ensures.part)
    next.stated
    next.same (next.quiet (ok_not_read _)) next.steady (next.count (refl {a = true})) next.short
