use Rattle.obs_cert.proofs.FormLemmas.{FormsArePlain-holds, LinesHaveForms-holds}
use Rattle.obs_cert.proofs.laws.lines_have_forms.Goals as goal

pub returns-clause-exactly : goal.returns-clause-exactly
returns-clause-exactly c = LinesHaveForms-holds

pub returns-clause-plain : goal.returns-clause-plain
returns-clause-plain c = FormsArePlain-holds
