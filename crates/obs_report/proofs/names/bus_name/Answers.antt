use Rattle.std.proofs.Common.{◌≡◌, ◌<◌, ◌∙◌, length, get_or, ap, sym, subst, arith}
use Rattle.obs_case.specs.Tables.{Tables}
use Rattle.obs_switch.specs.Buses.{members_of}
use Rattle.obs_switch.specs.Held.{Buses}
use Rattle.obs_network.specs.Network.{Network}
use Rattle.obs_network.specs.Switched.{case_buses}
use Rattle.obs_report.specs.Nodes.{node_name}
use Rattle.obs_report.proofs.Named.{first_of_bus}
use Rattle.obs_report.proofs.names.bus_name.Goals as goal
use Rattle.obs_report.proofs.names.bus_name.Goals.{After-first_of-first, After-members}

-- the members of the bus are those of the case
members : (c : After-members) → c.members.result.now ≡ members_of (case_buses c.args.present.now) c.args.bus
members c = c.members.ensures.members ∙ ap (λ bs. members_of bs c.args.bus) (ap (λ (b : Buses). b.buses) c.buses.ensures.buses ∙ ap (λ (n : Network). n.buses.buses) c.network.ensures.network)

-- the first of them
first_is : (c : After-first_of-first) → c.first_of-first.result ≡ get_or (members_of (case_buses c.args.present.now) c.args.bus) 0 0
first_is c = c.first_of-first.ensures.first ∙ ap (λ t. get_or t 0 0) (members c.before)

pub first_of-first-requires : goal.first_of-first-requires
first_of-first-requires c = record { some = subst (λ t. 0 < length t) (sym (members c)) (first_of_bus c.args.present.now c.args.bus c.requires.bus).0 }

pub node_name-requires : goal.node_name-requires
node_name-requires c =
    let found = first_of_bus c.args.present.now c.args.bus c.requires.bus in
    let here = first_is (goal.at.node_name-requires c).After-first_of-first in
    record { node = omega (arith, here, found.1, ap (λ (t : Tables). length t.nodes) c.case.ensures.case) }

pub returns : goal.returns
returns c =
    let here = first_is (goal.at.returns c).After-first_of-first in
    record { name = c.node_name.ensures.name ∙ (ap (λ (t : Tables). node_name t c.first_of-first.result) c.case.ensures.case ∙ ap (node_name c.args.present.now) here) }
