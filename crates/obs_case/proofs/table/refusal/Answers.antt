use Rattle.std.proofs.Common.{◌∙◌, map, sym}
use Rattle.std.proofs.lemmas.List.{length-map}
use Rattle.obs_case.specs.inner.Adds.{first_fault, name_fault}
use Rattle.obs_case.proofs.AddLemmas.{told_none, told_other, told_some, told_twice}
use Rattle.obs_case.proofs.RowLemmas.{any-by_name}
use Rattle.obs_case.proofs.table.refusal.Goals as goal
use Rattle.obs_case.proofs.table.refusal.Goals.{else-is_some-via-then-is_some+else-contains, else-is_some-via-else-is_some}

pub returns-then-contains-clause-fault : goal.returns-then-contains-clause-fault
returns-then-contains-clause-fault g c =
    let names = map g.R.Row.own_name c.args.rows.now.keys in
    let same = any-by_name g.R.PartialEq.eq g.R.Row.own_name g.met.R.Row.by_name c.args.row.now c.args.rows.now.keys in
    told_twice c.args.most names (g.R.Row.own_name c.args.row.now) c.args.other
    (λ full. c.if-len-most.false (c.len.ensures.len ∙ (sym (length-map c.args.rows.now.keys g.R.Row.own_name) ∙ full)))
    (sym same ∙ (sym c.contains.ensures ∙ c.if-contains.true))

pub returns-clause-fault : goal.returns-clause-fault
returns-clause-fault g c =
    let names = map g.R.Row.own_name c.args.rows.now.keys in
    let name = g.R.Row.own_name c.args.row.now in
    let fault = first_fault (name_fault c.args.most names name) c.args.other in
    let same = any-by_name g.R.PartialEq.eq g.R.Row.own_name g.met.R.Row.by_name c.args.row.now c.args.rows.now.keys in
    elim c.else-is_some.branch [
      | else-is_some-via-then-is_some+else-contains w ↦ told_some fault c.args.other (told_other c.args.most names name c.args.other
          (λ full. c.if-len-most.false (c.len.ensures.len ∙ (sym (length-map c.args.rows.now.keys g.R.Row.own_name) ∙ full)))
          (sym same ∙ (sym w.contains.ensures ∙ w.if-contains.false)))
      | else-is_some-via-else-is_some w ↦ told_none fault c.args.other (sym c.is_some.ensures ∙ w.if-is_some.false)
    ]
