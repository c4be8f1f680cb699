use Rattle.std.proofs.Common.{◌∷◌, sym, ap, ◌∙◌}
use Rattle.obs_cert.specs.Words.{line_of_words}
use Rattle.obs_cert.proofs.WordLemmas.{six_words, word_more}
use Rattle.obs_cert.proofs.line.after_four.Goals as goal

pub returns-in-Some : goal.returns-in-Some
returns-in-Some c =
    let a = c.args in
    let more = word_more a.bytes.now c.first_word.result.0.now c.first_word.result.1 c.in-Some.field-0 c.first_word.ensures.more c.in-Some.is in
    record {
      line = sym
          (ap (λ words. line_of_words (a.kind.now ∷ a.a.now ∷ a.b.now ∷ a.c.now ∷ words)) more
          ∙ six_words a.kind.now a.a.now a.b.now a.c.now c.first_word.result.0.now c.in-Some.field-0.now);
    }
