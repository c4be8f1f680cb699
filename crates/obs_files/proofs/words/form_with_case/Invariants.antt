use Rattle.std.proofs.Common.{◌≡◌, drop, map, string_bytes}
use Rattle.obs_files.specs.Words.{case_commands}
use Rattle.obs_files.proofs.Filed.{search_among}
use Rattle.obs_files.proofs.words.form_with_case.Given as goal

abbrev pub invariant-loop-k : goal.invariant-loop-k
invariant-loop-k l = search_among (map string_bytes l.words) l.from case_commands ≡ search_among (map string_bytes l.words) l.from (drop l.k l.commands)
