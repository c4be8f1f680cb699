use Rattle.std.proofs.Common.{◌∙◌, ◌≡◌, map, sym, not, false, true}
use Rattle.std.proofs.lemmas.Bool.{not-true, not-false}
use Rattle.std.proofs.lemmas.List.{length-map}
use Rattle.std.specs.List.{list_any}
use Rattle.obs_case.proofs.AddLemmas.{refuses_own, told_other, told_twice}
use Rattle.obs_case.proofs.NameLemmas.{place-absent}
use Rattle.obs_case.proofs.RowLemmas.{any-by_name}
use Rattle.obs_case.proofs.table.add.Goals as goal

pub returns-then-new-clause-accepted : goal.returns-then-new-clause-accepted
returns-then-new-clause-accepted g c =
    let names = map g.R.Row.own_name c.args.rows.now.keys in
    let none = c.refusal.ensures.none c.in_default.is in
    let added : not (list_any (g.R.PartialEq.eq c.args.row) c.args.rows.now.keys) ≡ true = sym c.in-Ok.ensures.added ∙ c.if-new.true in
    let new = sym (any-by_name g.R.PartialEq.eq g.R.Row.own_name g.met.R.Row.by_name c.args.row c.args.rows.now.keys) ∙ not-true _ added in
    told_other c.args.most names (g.R.Row.own_name c.args.row) c.args.other (λ full. none.1 (sym (length-map c.args.rows.now.keys g.R.Row.own_name) ∙ full)) new ∙ none.0

pub returns-then-new-clause-position : goal.returns-then-new-clause-position
returns-then-new-clause-position g c =
    let added : not (list_any (g.R.PartialEq.eq c.args.row) c.args.rows.now.keys) ≡ true = sym c.in-Ok.ensures.added ∙ c.if-new.true in
    c.in-Ok.ensures.index ∙ place-absent (g.R.PartialEq.eq c.args.row) c.args.rows.now.keys (not-true _ added)

pub returns-else-new-clause-refused : goal.returns-else-new-clause-refused
returns-else-new-clause-refused g c =
    let names = map g.R.Row.own_name c.args.rows.now.keys in
    let none = c.refusal.ensures.none c.in_default.is in
    let added : not (list_any (g.R.PartialEq.eq c.args.row) c.args.rows.now.keys) ≡ false = sym c.in-Ok.ensures.added ∙ c.if-new.false in
    let there = sym (any-by_name g.R.PartialEq.eq g.R.Row.own_name g.met.R.Row.by_name c.args.row c.args.rows.now.keys) ∙ not-false _ added in
    told_twice c.args.most names (g.R.Row.own_name c.args.row) c.args.other (λ full. none.1 (sym (length-map c.args.rows.now.keys g.R.Row.own_name) ∙ full)) there

pub returns-in-Some-clause-refused : goal.returns-in-Some-clause-refused
returns-in-Some-clause-refused g c = refuses_own _ c.in-Some.fault c.in-Some.ensures.fault
