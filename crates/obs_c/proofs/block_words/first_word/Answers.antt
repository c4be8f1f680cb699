use Rattle.std.proofs.Common.{◌≡◌, suc, add-one, ◌<◌, ◌+◌, ◌∷◌, length, take, drop, sym, ap, ◌∙◌, arith, rules}
use Rattle.std.proofs.lemmas.List.Sums.{position_or_len_is}
use Rattle.std.proofs.lemmas.List.{take_rest}
use Rattle.std.specs.List.{position_or_len}
use Rattle.obs_c.specs.Blocks.{is_ended, is_zero, words_in}
use Rattle.obs_c.proofs.Ended.{is_ended-more, is_ended-none, words_in-more}
use Rattle.obs_c.proofs.block_words.first_word.Goals as goal

pub returns-in-Some-clause-word : goal.returns-in-Some-clause-word
returns-in-Some-clause-word c =
    let bytes = c.args.block.now in
    let found : position_or_len is_zero bytes ≡ c.in-Some.end = position_or_len_is is_zero bytes c.in-Some.end 0 (search rules) (search rules) (search rules) in
    let less : c.in-Some.end < length bytes = search rules in
    words_in-more bytes (omega (arith, found, less))
    ∙ ap (λ n. take n bytes ∷ words_in (drop (suc n) bytes)) found
    ∙ ap (λ n. take c.in-Some.end bytes ∷ words_in (drop n bytes)) (sym (add-one c.in-Some.end))
    ∙ ap (λ rest. take c.in-Some.end bytes ∷ words_in rest) (sym (take_rest bytes (c.in-Some.end + 1)))

pub returns-in-Some-clause-rest : goal.returns-in-Some-clause-rest
returns-in-Some-clause-rest c =
    let bytes = c.args.block.now in
    let found : position_or_len is_zero bytes ≡ c.in-Some.end = position_or_len_is is_zero bytes c.in-Some.end 0 (search rules) (search rules) (search rules) in
    let less : c.in-Some.end < length bytes = search rules in
    is_ended-more bytes (omega (arith, found, less))
    ∙ ap (λ n. is_ended (drop (suc n) bytes)) found
    ∙ ap (λ n. is_ended (drop n bytes)) (sym (add-one c.in-Some.end))
    ∙ ap is_ended (sym (take_rest bytes (c.in-Some.end + 1)))

pub returns-in-None-clause-none : goal.returns-in-None-clause-none
returns-in-None-clause-none c =
    let bytes = c.args.block.now in
    is_ended-none bytes (search rules) (position_or_len_is is_zero bytes (length bytes) 0 (omega arith) (search rules) (search rules))
