use Rattle.std.proofs.Common.{◌∷◌, [], ◌++◌, map, string_bytes, ap, ◌∙◌, rules}
use Rattle.std.proofs.lemmas.List.{map-append}
use Rattle.obs_c.proofs.Taken.{taken-all, taken-more, taken-no_text, taken-well}
use Rattle.obs_c.proofs.block_words.words_of.Goals as goal

pub returns-in_default-from_utf8-clause-malformed : goal.returns-in_default-from_utf8-clause-malformed
returns-in_default-from_utf8-clause-malformed c = λ e well.
    taken-no_text c.args.block.now (map string_bytes c.loop-rest.words.items) c.loop-rest.rest.now c.in-Some.word.now c.in-Some.behind.now
    c.loop-rest.invariant c.in-Some.ensures.word c.in_default-from_utf8.ensures.cases.0 well

pub loop-rest-preserved : goal.loop-rest-preserved
loop-rest-preserved c =
    taken-more c.args.block.now (map string_bytes c.loop-rest.words.items) (map string_bytes c.push.new.self.items) c.loop-rest.rest.now c.in-Some.word.now c.in-Some.behind.now
    c.loop-rest.invariant c.in-Some.ensures.word c.in-Some.ensures.rest c.in-Ok.ensures.cases.1
    (ap (map string_bytes) c.in_ok-push.ensures.items ∙ map-append string_bytes c.loop-rest.words.items (c.in_ok-from_str.field-0 ∷ [])
    ∙ ap (λ w. map string_bytes c.loop-rest.words.items ++ w ∷ []) (c.in_ok-from_str.ensures.ok ∙ c.in-Ok.ensures.cases.0))

pub returns-clause-words : goal.returns-clause-words
returns-clause-words c = taken-all c.args.block.now (map string_bytes c.loop-rest.words.items) c.loop-rest.rest.now c.loop-rest.invariant (search rules)

pub returns-clause-well : goal.returns-clause-well
returns-clause-well c = taken-well c.args.block.now (map string_bytes c.loop-rest.words.items) c.loop-rest.rest.now c.loop-rest.invariant (search rules)
