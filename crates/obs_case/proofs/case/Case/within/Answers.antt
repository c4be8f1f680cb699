use Rattle.obs_case.proofs.ValidLemmas.{valid-no_rows_within}
use Rattle.obs_case.proofs.case.Case.within.Goals as goal

pub invariant_of-result : goal.invariant_of-result
invariant_of-result c = rw (c.new.ensures.empty, c.new-2.ensures.empty, c.new-3.ensures.empty, c.new-4.ensures.empty, c.new-5.ensures.empty) (valid-no_rows_within c.args.most c.requires.limit)
