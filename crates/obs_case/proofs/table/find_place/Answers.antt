use Rattle.std.proofs.Common.{arith, ◌<◌, ◌≤◌, length, map, sym, ap, None, Some}
use Rattle.std.specs.Prelude.{if◌then◌else◌}
use Rattle.std.proofs.lemmas.List.{length-map}
use Rattle.obs_case.specs.declared.table.AddFault.TheVariants.{UnknownPlace}
use Rattle.obs_case.proofs.AddLemmas.{absent_by, there_by}
use Rattle.obs_case.proofs.table.find_place.Goals as goal

pub returns-then-at-len-clause-fault : goal.returns-then-at-len-clause-fault
returns-then-at-len-clause-fault g c =
    let names = map g.R.Row.own_name c.args.rows.now.keys in
    let low : c.place_of-at.result < length names = omega (arith, c.if-at-len.true, c.len.ensures.len, length-map c.args.rows.now.keys g.R.Row.own_name) in
    sym (ap (λ b. if b then None else Some UnknownPlace) (there_by names c.args.name.now c.place_of-at.result c.place_of-at.ensures.place low))

pub returns-else-at-len-clause-fault : goal.returns-else-at-len-clause-fault
returns-else-at-len-clause-fault g c =
    let names = map g.R.Row.own_name c.args.rows.now.keys in
    let high : length names ≤ c.place_of-at.result = omega (arith, c.if-at-len.false, c.len.ensures.len, length-map c.args.rows.now.keys g.R.Row.own_name) in
    sym (ap (λ b. if b then None else Some UnknownPlace) (absent_by names c.args.name.now c.place_of-at.result c.place_of-at.ensures.place high))
