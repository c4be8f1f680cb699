use Rattle.std.proofs.Common.{◌∙◌, ap, arith}
use Rattle.obs_case.specs.Tables.{Tables}
use Rattle.obs_assign.specs.Assignment.{Assignment}
use Rattle.obs_assign.specs.inner.Assignment.{pairs}
use Rattle.obs_report.specs.Trees.{tree_text}
use Rattle.obs_network.proofs.OfCase.{count_of}
use Rattle.obs_engine.proofs.Asked.{appends_as, lone_tree_is}
use Rattle.obs_engine.proofs.print_claims.print_lone_tree.Goals as goal

pub print_tree-requires-clause-component : goal.print_tree-requires-clause-component
print_tree-requires-clause-component g c =
    let n = count_of c.network.result.now c.args.session.now.tables c.network.ensures.network in
    omega (arith, n, c.requires.component)

pub returns : goal.returns
returns g c =
    let t = c.args.session.now.tables in
    record {
      appends = appends_as
          (ap (λ (x : Tables). tree_text x c.args.c (pairs c.pairs.result.now)) c.present.ensures.case
          ∙ (ap (λ (a : Assignment). tree_text t c.args.c (pairs a)) c.pairs.ensures.pairs ∙ lone_tree_is t c.network.ensures.valid c.args.c c.requires.lone c.args.session.now.pairs c.pairs.ensures.longest))
          c.print_tree.ensures.appends;
    }
