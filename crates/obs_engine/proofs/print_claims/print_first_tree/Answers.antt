use Rattle.std.proofs.Common.{◌∙◌, ap, arith}
use Rattle.obs_case.specs.Tables.{Tables}
use Rattle.obs_matroid.specs.inner.Slots.{pairs_of}
use Rattle.obs_network.specs.Network.{case_component_count}
use Rattle.obs_report.specs.Trees.{tree_text}
use Rattle.obs_engine.specs.Asks.{tree_claim}
use Rattle.obs_engine.proofs.Asked.{appends_as, tree_is}
use Rattle.obs_network.proofs.OfCase.{count_of}
use Rattle.obs_engine.proofs.print_claims.print_first_tree.Goals as goal

pub print_tree-requires-clause-component : goal.print_tree-requires-clause-component
print_tree-requires-clause-component g c =
    let n = count_of c.network.result.now c.find_first.new.self.tables c.network.ensures.network in
    let same = ap (λ (t : Tables). case_component_count t) c.find_first.ensures.tables in
    let low = c.requires.component in
    omega (arith, n, same, low)

pub returns-clause-appends : goal.returns-clause-appends
returns-clause-appends g c =
    let pairs = pairs_of c.found_pairs.result.now.slots in
    appends_as
    (ap (λ (t : Tables). tree_text t c.args.c pairs) c.present.ensures.case
    ∙ (tree_is c.find_first.new.self.tables c.args.c pairs c.found_pairs.ensures.first ∙ ap (λ (t : Tables). tree_claim t c.args.c) c.find_first.ensures.tables))
    c.print_tree.ensures.appends
