use Rattle.std.specs.List.{prefix_len, suffix_len}
use Rattle.obs_text.specs.Columns.{is_blank, without_first_blanks}
use Rattle.obs_text.proofs.BareLemmas.{bare_between, bare_first, no_last_blank}
use Rattle.obs_text.proofs.laws.bare_is_between_blanks.Goals as goal

pub returns : goal.returns
returns c = record {
  bare = record {
    between = λ bytes. (prefix_len is_blank bytes, suffix_len is_blank (without_first_blanks bytes), bare_between bytes);
    first = bare_first;
    last = λ bytes front. no_last_blank (without_first_blanks bytes) front;
  };
}
