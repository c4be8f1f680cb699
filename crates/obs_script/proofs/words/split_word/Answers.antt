use Rattle.std.proofs.Common.{◌+◌, ◌≡◌, length, take, drop, sym, ap, ◌∙◌, arith, rules, take_all}
use Rattle.std.proofs.lemmas.List.Sums.{position_or_len_is}
use Rattle.std.proofs.lemmas.List.{drop_all, take_rest}
use Rattle.std.specs.List.{position_or_len}
use Rattle.obs_text.specs.Columns.{is_blank}
use Rattle.obs_script.proofs.words.split_word.Goals as goal

pub returns-in-Some : goal.returns-in-Some
returns-in-Some c =
    let line = c.args.line.now in
    let found : position_or_len is_blank line ≡ c.in-Some.end = position_or_len_is is_blank line c.in-Some.end 0 (search rules) (search rules) (search rules) in
    record {
      word = ap (λ n. take n line) (sym found);
      name = take_rest line (c.in-Some.end + 1) ∙ ap (λ n. drop (n + 1) line) (sym found);
    }

pub returns-in-None : goal.returns-in-None
returns-in-None c =
    let line = c.args.line.now in
    let none : position_or_len is_blank line ≡ length line = position_or_len_is is_blank line (length line) 0 (omega arith) (search rules) (search rules) in
    record {
      word = sym (ap (λ n. take n line) none ∙ take_all (length line) line (omega arith));
      name = sym (ap (λ n. drop (n + 1) line) none ∙ drop_all (length line + 1) line (omega arith));
    }
