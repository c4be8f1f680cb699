use Rattle.std.proofs.Common.{◌∙◌, ap, sym, map, string_bytes}
use Rattle.std.proofs.lemmas.List.{at_drop_all}
use Rattle.obs_files.proofs.Filed.{search_among, search_goes_on}
use Rattle.obs_files.proofs.words.form_with_case.Goals as goal

pub loop-k-init : goal.loop-k-init
loop-k-init c = ap (search_among (map string_bytes c.args.words.now) c.args.from) (sym c.case_commands-commands.ensures.commands)

pub loop-k-preserved : goal.loop-k-preserved
loop-k-preserved c =
    c.loop-k.invariant ∙ search_goes_on (map string_bytes c.args.words.now) c.args.from c.case_commands-commands.result.now c.loop-k.k c.loop-k-test.true (sym c.fits.ensures.fits ∙ c.if-fits.false)

pub returns-clause-form : goal.returns-clause-form
returns-clause-form c =
    sym (c.loop-k.invariant ∙ at_drop_all (search_among (map string_bytes c.args.words.now) c.args.from) c.case_commands-commands.result.now c.loop-k.k c.loop-k-test.false)
