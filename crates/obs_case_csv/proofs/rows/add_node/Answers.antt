use Rattle.std.proofs.Common.{◌∙◌, ap, sym, true, unwrap_or, false}
use Rattle.obs_case.specs.declared.rows.Node.{Node}
use Rattle.obs_case.specs.Adds.{with_node}
use Rattle.obs_case.specs.inner.Adds.{node_of}
use Rattle.obs_case.specs.inner.Flags.{with_absolute}
use Rattle.obs_case.proofs.RowLemmas.{changed-last}
use Rattle.obs_case_csv.proofs.rows.add_node.Goals as goal

-- the row that was added is the last, and it is marked
pub returns-then-absolute-clause-added : goal.returns-then-absolute-clause-added
returns-then-absolute-clause-added c =
    let t = c.args.case.now in
    let row = node_of c.in-Some.node.now c.in-Some-read_flag.source in
    let marked : Node → Node = λ r. record r { absolute = true } in
    let source = ap (λ o. unwrap_or o false) c.in-Some-read_flag.ensures.flag in
    let absolute = sym c.if-absolute.true ∙ ap (λ o. unwrap_or o false) c.in-Some-read_flag-2.ensures.flag in
    c.set_absolute.ensures.set
    ∙ ap (λ u. with_absolute u c.in-Ok.at true) c.in-Ok.ensures.added
    ∙ ap (λ n. with_absolute (with_node t row) n true) c.in-Ok.ensures.position
    ∙ ap (λ rows. record t { nodes = rows }) (changed-last marked t.nodes row)
    ∙ (λ j. with_node t (record { name = c.in-Some.ensures.same j; source = source j; absolute = absolute j }))
