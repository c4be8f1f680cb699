use Rattle.std.proofs.Common.{ℕ, List, ap}
use Rattle.obs_engine.specs.PairReply.{classes_text, pairs_reply}
use Rattle.obs_engine.proofs.Asked.{appends_as}
use Rattle.obs_engine.proofs.Endings.{replied_memory}
use Rattle.obs_engine.proofs.Replied.{replied_verdict, report_status-is}
use Rattle.obs_engine.proofs.Summed.{not_for_memory}
use Rattle.obs_engine.proofs.pair_reply.answer_pairs.Goals as goal

pub returns-in_default : goal.returns-in_default
returns-in_default g c = record { replied = replied_memory (pairs_reply c.args.case.now); summary = λ whole. not_for_memory whole }

pub returns-in_default-make_work : goal.returns-in_default-make_work
returns-in_default-make_work g c = record { replied = replied_memory (pairs_reply c.args.case.now); summary = λ whole. not_for_memory whole }

pub returns-in_default-sum_up : goal.returns-in_default-sum_up
returns-in_default-sum_up g c = record { replied = replied_memory (pairs_reply c.args.case.now); summary = λ whole. not_for_memory whole }

pub returns-clause-replied : goal.returns-clause-replied
returns-clause-replied g c =
    let t = c.args.case.now in
    let text = ap (λ (xs : List ℕ). classes_text t xs) c.find_case_classes.ensures.classes in
    replied_verdict (pairs_reply t) c.print_classes-outcome.result c.kept_verdict-status.result c.printed_status.result c.printed_status.ensures.status
    c.kept_verdict-status.ensures.status (report_status-is t) (appends_as text c.print_classes-outcome.ensures.appends)
