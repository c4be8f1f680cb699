use Rattle.std.proofs.Common.{◌≡◌, ◌+◌, ◌<◌, ◌≤◌, Some, Err, [], ◌∷◌, ◌++◌, length, sym, ap, ◌∙◌, subst, arith}
use Rattle.obs_text.specs.Names.{is_name}
use Rattle.obs_case.specs.Tables.{most_rows}
use Rattle.obs_bus_branch.specs.Buses.{branch_name, tables_of_rows}
use Rattle.obs_bus_branch.proofs.NumberLemmas.{is_name-branch}
use Rattle.obs_ieee_cdf.specs.Fields.{number_of, tap_field, z_field}
use Rattle.obs_ieee_cdf.specs.inner.Reading.{Answers}
use Rattle.obs_ieee_cdf.specs.Rows.{read_branch}
use Rattle.obs_ieee_cdf.proofs.RowLemmas.{branch_accepted, branch_refused}
use Rattle.obs_ieee_cdf.proofs.rows.add_branch.Goals as goal

pub add_branch-requires : goal.add_branch-requires
add_branch-requires c =
    let named = ap is_name c.branch_name-name.ensures.name ∙ is_name-branch _ (omega arith) in
    record { name = named }

pub returns-in-Ok : goal.returns-in-Ok
returns-in-Ok c = record {
  read = λ most buses earlier are named is.
      let limit = c.most.ensures.limit ∙ ap (λ t. t.most) is in
      let low : most ≤ most_rows = omega (arith, limit, c.most.ensures.few) in
      let few : length earlier < most = (let count : length c.branches-count.result.now ≡ length earlier = ap length c.branches-count.ensures.rows ∙ ap (λ t. length t.branches) is in omega (arith, count, limit, c.if-count-most.false)) in
      let from : number_of (tap_field c.args.line.now) ≡ Some c.in-Some.from = cc in
      let to : number_of (z_field c.args.line.now) ≡ Some c.in-Some-bus_number.to = cc in
      let count : length c.branches-count.result.now + 1 ≡ length earlier + 1 = ap (λ rows. length rows + 1) c.branches-count.ensures.rows ∙ ap (λ t. length t.branches + 1) is in
      let name : c.branch_name-name.result.now ≡ branch_name (length earlier + 1) = c.branch_name-name.ensures.name ∙ ap branch_name count in
      branch_accepted most low buses earlier c.args.at c.args.line.now c.in-Some.from c.in-Some-bus_number.to are named few from to c.args.case.now c.add_branch.new.self is
      (rw (name, c.text.ensures.decimal, c.text-2.ensures.decimal) at c.in-Ok.ensures.accepted)
      (rw (name, c.text.ensures.decimal, c.text-2.ensures.decimal) at c.in-Ok.ensures.added);
}

pub returns-in-Err : goal.returns-in-Err
returns-in-Err c = record {
  read = λ most buses earlier are named is.
      let limit = c.most.ensures.limit ∙ ap (λ t. t.most) is in
      let low : most ≤ most_rows = omega (arith, limit, c.most.ensures.few) in
      let few : length earlier < most = (let count : length c.branches-count.result.now ≡ length earlier = ap length c.branches-count.ensures.rows ∙ ap (λ t. length t.branches) is in omega (arith, count, limit, c.if-count-most.false)) in
      let from : number_of (tap_field c.args.line.now) ≡ Some c.in-Some.from = cc in
      let to : number_of (z_field c.args.line.now) ≡ Some c.in-Some-bus_number.to = cc in
      let count : length c.branches-count.result.now + 1 ≡ length earlier + 1 = ap (λ rows. length rows + 1) c.branches-count.ensures.rows ∙ ap (λ t. length t.branches + 1) is in
      let name : c.branch_name-name.result.now ≡ branch_name (length earlier + 1) = c.branch_name-name.ensures.name ∙ ap branch_name count in
      subst (λ stop. Answers (read_branch most buses earlier c.args.at c.args.line.now) (λ branch. tables_of_rows most buses (earlier ++ branch ∷ [])) c.add_branch.new.self (Err stop)) (sym c.stop.ensures.stop)
      (branch_refused most low buses earlier c.args.at c.args.line.now c.in-Some.from c.in-Some-bus_number.to are named few from to c.args.case.now c.add_branch.new.self c.in-Err.fault is
      (rw (name, c.text.ensures.decimal, c.text-2.ensures.decimal) at c.in-Err.ensures.refused));
}
