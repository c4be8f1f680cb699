use Rattle.std.proofs.Common.{◌≡◌, suc, add-one, ◌<◌, ◌+◌, ◌∷◌, length, take, drop, sym, ap, ◌∙◌, arith, rules}
use Rattle.std.proofs.lemmas.List.Sums.{position_or_len_is}
use Rattle.std.proofs.lemmas.List.{take_rest}
use Rattle.std.specs.List.{position_or_len}
use Rattle.obs_cert.specs.Words.{is_tab, words_of}
use Rattle.obs_cert.proofs.WordLemmas.{words_of-last, words_of-more}
use Rattle.obs_cert.proofs.line_words.first_word.Goals as goal

pub returns-in-Some-clause-more : goal.returns-in-Some-clause-more
returns-in-Some-clause-more c =
    let bytes = c.args.bytes.now in
    let found : position_or_len is_tab bytes ≡ c.in-Some.end = position_or_len_is is_tab bytes c.in-Some.end 0 (search rules) (search rules) (search rules) in
    let less : c.in-Some.end < length bytes = search rules in
    words_of-more bytes (omega (arith, found, less))
    ∙ ap (λ n. take n bytes ∷ words_of (drop (suc n) bytes)) found
    ∙ ap (λ n. take c.in-Some.end bytes ∷ words_of (drop n bytes)) (sym (add-one c.in-Some.end))
    ∙ ap (λ rest. take c.in-Some.end bytes ∷ words_of rest) (sym (take_rest bytes (c.in-Some.end + 1)))

pub returns-in-None-clause-last : goal.returns-in-None-clause-last
returns-in-None-clause-last c =
    let bytes = c.args.bytes.now in
    words_of-last bytes (position_or_len_is is_tab bytes (length bytes) 0 (omega arith) (search rules) (search rules))
