use Rattle.std.proofs.Common.{◌≡◌, ◌≤◌, ◌∙◌, ap, arith, false, length, sym, Bor, List, ℕ}
use Rattle.std.proofs.lemmas.List.{length-map}
use Rattle.obs_files.specs.Words.{first_parts, is_offered}
use Rattle.obs_files.proofs.Filed.{last_part, last_word}
use Rattle.obs_files.proofs.words.Form.file.Goals.{else-at-parts-2-via-then-at-parts-2+else-is_offered, else-at-parts-2-via-else-at-parts-2}
use Rattle.obs_files.proofs.words.Form.file.Goals as goal

size : (c : goal.After-result-else-at-parts-2-2-1) → length c.first_parts-parts.result.now ≡ length (first_parts c.args.self)
size c = sym (length-map c.first_parts-parts.result.now (λ (part : Bor (List ℕ)). part.now)) ∙ ap length c.first_parts-parts.ensures.parts

least : (c : goal.After-result-else-at-parts-2-2-1) → length (first_parts c.args.self) ≤ c.args.at
least c = let s = size c in omega (arith, s, c.if-at-parts.false)

none : (c : goal.After-result-else-at-parts-2-2-1) → c.args.at ≡ length (first_parts c.args.self) → is_offered c.args.self ≡ false
none c e = elim c.else-at-parts-2.branch [
  | else-at-parts-2-via-then-at-parts-2+else-is_offered w ↦ sym w.is_offered.ensures.is ∙ w.if-is_offered.false
  | else-at-parts-2-via-else-at-parts-2 w ↦ absurd (w.if-at-parts-2.false (e ∙ sym (size c)))
]

pub returns-else-at-parts-2-clause-word : goal.returns-else-at-parts-2-clause-word
returns-else-at-parts-2-clause-word c = c.certificate_at.ensures.position ∙ sym (last_word c.args.self c.args.at c.requires.at (least c) (none c))

pub returns-else-at-parts-2-clause-part : goal.returns-else-at-parts-2-clause-part
returns-else-at-parts-2-clause-part c = sym (last_part c.args.self c.args.at c.requires.at (least c) (none c))
