use Rattle.std.proofs.Common.{refl, ◌∙◌, ap, subst}
use Rattle.obs_case.specs.Tables.{Tables}
use Rattle.obs_assign.specs.inner.Assignment.{StandsOver}
use Rattle.obs_network.specs.Network.{case_offered, network_of}
use Rattle.obs_edit.specs.Planned.{case_placed_pairs, case_placement}
use Rattle.obs_edit.proofs.session.Session.place.Goals as goal

pub returns : goal.returns
returns g c =
    let found = c.find_placement.ensures in
    let same = found.tables in (
      (refl, (λ s. tt), (same, found.offered, found.pairs, found.at_hand)),
      record {
        case = c.present.ensures.case ∙ same;
        network = c.network.ensures.network ∙ ap network_of same;
        placement = c.found_placement.ensures.placed ∙ ap case_placement same;
        pairs = c.found_plan_pairs.ensures.pairs ∙ ap case_placed_pairs same;
        stands = subst (λ (t : Tables). StandsOver c.found_plan_pairs.result.now (network_of t).graph (case_offered t)) same c.found_plan_pairs.ensures.stands;
        given_back = tt;
      },
    )
