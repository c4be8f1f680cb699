use Rattle.std.proofs.Common.{◌∙◌, ◌<◌, All, List, ap, length, subst, sym}
use Rattle.obs_case.specs.Tables.{Tables}
use Rattle.obs_outage.specs.declared.outages.Outage.{Outage}
use Rattle.obs_engine.specs.OutageReply.{outages_reply, outages_status, outages_text}
use Rattle.obs_engine.proofs.Asked.{appends_as}
use Rattle.obs_engine.proofs.Endings.{replied_memory}
use Rattle.obs_engine.proofs.Replied.{outages_status-is, replied_verdict}
use Rattle.obs_engine.proofs.Studied.{outages_below}
use Rattle.obs_engine.proofs.Summed.{not_for_memory}
use Rattle.obs_engine.proofs.print_outages.answer_outages.Goals as goal

pub print_outages-outcome-requires : goal.print_outages-outcome-requires
print_outages-outcome-requires g c =
    let t = c.args.case.now in
    let listed = c.found.ensures.found ∙ c.find_list.ensures.list in
    record {
      rows =
          subst (λ (u : Tables). All (λ (o : Outage). o.branch < length u.branches) c.found.result.now) (sym c.find_list.ensures.case)
          (subst (λ (os : List Outage). All (λ (o : Outage). o.branch < length t.branches) os) (sym listed) (outages_below t));
    }

pub returns-in_default : goal.returns-in_default
returns-in_default g c = record { replied = replied_memory (outages_reply c.args.case.now); summary = λ whole. not_for_memory whole }

pub returns-in_default-sum_up : goal.returns-in_default-sum_up
returns-in_default-sum_up g c = record { replied = replied_memory (outages_reply c.args.case.now); summary = λ whole. not_for_memory whole }

pub returns-clause-replied : goal.returns-clause-replied
returns-clause-replied g c =
    let t = c.args.case.now in
    let listed = c.found.ensures.found ∙ c.find_list.ensures.list in
    let text = ap (λ (u : Tables). outages_text u c.found.result.now) c.find_list.ensures.case ∙ ap (λ (os : List Outage). outages_text t os) listed in
    let status = c.status_of-status.ensures.status ∙ ap (λ (u : Tables). outages_status u) c.find_list.ensures.case in
    replied_verdict (outages_reply t) c.print_outages-outcome.result c.status_of-status.result c.printed_status.result c.printed_status.ensures.status
    status (outages_status-is t) (appends_as text c.print_outages-outcome.ensures.appends)
