use Rattle.std.proofs.Common.{◌≡◌, true, false, cond, leb, None, Some, length, sym, ap, ◌∙◌, arith}
use Rattle.std.proofs.lemmas.Bool.{le-leb, lt-leb}
use Rattle.obs_script.specs.Gathered.{content_of}
use Rattle.obs_script.specs.inner.Gathered.{line_of}
use Rattle.obs_script.proofs.HeldLemmas.{line_of-held}
use Rattle.obs_script.proofs.gather.Gather.line.Goals as goal

pub returns-then-content-gt-LONGEST : goal.returns-then-content-gt-LONGEST
returns-then-content-gt-LONGEST c = record {
  content = λ line holds.
      let held = c.args.self.now in
      let content : c.without_return-content.result.now ≡ content_of held = c.without_return-content.ensures.stripped ∙ ap content_of c.self.view_is in
      let long : leb (length (content_of held)) 256 ≡ false = lt-leb (length (content_of held)) 256 (omega (arith, ap length content, c.if-content-gt-LONGEST.true)) in
      sym (ap (λ b. cond b (Some (content_of held)) None) long) ∙ ap line_of holds ∙ line_of-held line;
}

pub returns-else-content-gt-LONGEST : goal.returns-else-content-gt-LONGEST
returns-else-content-gt-LONGEST c = record {
  content = λ line holds.
      let held = c.args.self.now in
      let content : c.without_return-content.result.now ≡ content_of held = c.without_return-content.ensures.stripped ∙ ap content_of c.self.view_is in
      let short : leb (length (content_of held)) 256 ≡ true = le-leb (length (content_of held)) 256 (omega (arith, ap length content, c.if-content-gt-LONGEST.false)) in
      ap Some content ∙ sym (ap (λ b. cond b (Some (content_of held)) None) short) ∙ ap line_of holds ∙ line_of-held line;
}
