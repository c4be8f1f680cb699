use Rattle.std.proofs.Common.{◌∙◌, length, ap, subst, arith}
use Rattle.obs_case.specs.Tables.{Tables}
use Rattle.obs_assign.specs.inner.Assignment.{StandsOver}
use Rattle.obs_network.specs.Network.{Network}
use Rattle.obs_network.specs.inner.Located.{live_meters_of}
use Rattle.obs_network.proofs.OfCase.{length-case_meters}
use Rattle.obs_report.specs.Meters.{component_name}
use Rattle.obs_report.proofs.OfPairs.{tree_pairs}
use Rattle.obs_report.proofs.Printing.{then_printed, finished}
use Rattle.obs_report.proofs.trees.print_tree.Goals as goal

pub print_pairs-requires : goal.print_pairs-requires
print_pairs-requires g c =
    let t = c.args.case.now in
    let rows = ap (λ (n : Network). length n.meters.touches) c.requires.network ∙ length-case_meters t in
    record {
      valid = c.of.ensures.valid;
      meters = λ k d l. let low = c.live_meters.ensures.below k d l in omega (arith, low, rows);
      pairs = subst (λ (n : Network). StandsOver c.args.pairs.now n.graph n.meters.touches) c.requires.network c.requires.pairs;
    }

pub returns : goal.returns
returns g c =
    let t = c.args.case.now in
    let stands = subst (λ (n : Network). StandsOver c.args.pairs.now n.graph n.meters.touches) c.requires.network c.requires.pairs in
    let meters = c.live_meters.ensures.meters ∙ ap (λ (n : Network). live_meters_of n c.args.c) c.requires.network in
    let named = rw (c.component_name-name.ensures.name ∙ ap (λ (s : Tables). component_name s c.args.c) c.of.ensures.case) at c.line.ensures.printed in
    let listed = rw (meters, tree_pairs t c.of.ensures.valid c.args.pairs.now stands c.args.c) at c.print_pairs.ensures.printed in
    record { appends = finished c.new-lines.ensures.empty (then_printed named listed) c.finish.ensures.printed }
