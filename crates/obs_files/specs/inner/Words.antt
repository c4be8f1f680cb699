-- What the usage line says of a form.
use Rattle.std.specs.Prelude.{ℕ, ◌+◌, ◌&&◌, not, List, [], ◌++◌, codes, if◌then◌else◌}
use Rattle.obs_files.specs.declared.words.Form.{Form}
use Rattle.obs_files.specs.declared.words.Form.TheVariants.{Topology, Case, Trial}
use Rattle.obs_files.specs.Words.{command_word, has_with, is_offered, takes_certificate}

-- what the usage line says of a form: its words, with FORM for those that name a case and one word for each other file. That a case
-- may stand with candidates behind the word `with` it doesn't say
abbrev pub usage_of : Form → List ℕ
usage_of Topology = codes "topology N S"
usage_of (Case command from) =
    command_word (Case command from)
    ++ (codes " FORM"
    ++ ((if is_offered (Case command from) && not (has_with (Case command from)) then codes " CAND" else [])
    ++ (if takes_certificate (Case command from) then codes " CERT" else [])))
usage_of (Trial rows seed) = codes "trial N SEED"
