use Rattle.std.proofs.Common.{◌+◌, length, take, drop, sym, ap, ◌∙◌, arith, rules, take_all}
use Rattle.std.proofs.lemmas.List.Sums.{position_or_len_is}
use Rattle.std.proofs.lemmas.List.{take_rest, drop_all}
use Rattle.std.specs.Str.Lines.{strip_carriage_return}
use Rattle.obs_text.specs.Lines.{is_feed}
use Rattle.obs_text.proofs.line_iter.split_line.Goals as goal

pub returns-in-Some : goal.returns-in-Some
returns-in-Some c =
    let bytes = c.args.bytes.now in
    let found = position_or_len_is is_feed bytes c.in-Some.end 0 (search rules) (search rules) (search rules) in
    record {
      line = c.without_return.ensures.stripped ∙ ap (λ n. strip_carriage_return (take n bytes)) (sym found);
      rest = take_rest bytes _ ∙ ap (λ n. drop (n + 1) bytes) (sym found);
    }

pub returns-in-None : goal.returns-in-None
returns-in-None c =
    let bytes = c.args.bytes.now in
    let none = position_or_len_is is_feed bytes (length bytes) 0 (omega arith) (search rules) (search rules) in
    record {
      line = c.without_return-in-None.ensures.stripped ∙ sym (ap strip_carriage_return (ap (λ n. take n bytes) none ∙ take_all (length bytes) bytes (omega arith)));
      rest = sym (ap (λ n. drop (n + 1) bytes) none ∙ drop_all (length bytes + 1) bytes (omega arith));
    }
