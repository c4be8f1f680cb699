use Rattle.std.proofs.Common.{◌≡◌, ◌+◌, ◌<◌, Some, false, [], ◌∷◌, ◌++◌, length, sym, ap, ◌∙◌, subst, arith}
use Rattle.obs_case.specs.declared.rows.Branch.{Branch}
use Rattle.obs_matpower.specs.Fields.{is_short, number_in}
use Rattle.obs_matpower.specs.Read.{branch_of}
use Rattle.obs_matpower.specs.inner.Reading.{Answers, held_branches}
use Rattle.obs_matpower.proofs.NumberLemmas.{number_in-lt}
use Rattle.obs_matpower.proofs.RowFaults.{whole_branch}
use Rattle.obs_matpower.proofs.add.add_branch.Goals as goal

pub add_between-requires-clause-from : goal.add_between-requires-clause-from
add_between-requires-clause-from c =
    let is : number_in 1 c.args.row.now ≡ Some c.in-Some.from = cc in
    number_in-lt 1 c.args.row.now c.in-Some.from is

pub add_between-requires-clause-to : goal.add_between-requires-clause-to
add_between-requires-clause-to c =
    let is : number_in 2 c.args.row.now ≡ Some c.in-Some-number_in.to = cc in
    number_in-lt 2 c.args.row.now c.in-Some-number_in.to is

pub returns : goal.returns
returns c = record {
  read = λ most buses earlier are named is flags.
      let row = c.args.row.now in
      let limit = c.most.ensures.limit ∙ ap (λ t. t.most) is in
      let few : length earlier < most = (let count = ap length c.branches.ensures.rows ∙ ap (λ t. length t.branches) is in omega (arith, count, limit, c.if-branches-most.false)) in
      let long : is_short 11 row ≡ false = sym c.is_short.ensures.short ∙ c.if-is_short.false in
      let from : number_in 1 row ≡ Some c.in-Some.from = cc in
      let to : number_in 2 row ≡ Some c.in-Some-number_in.to = cc in
      let whole = whole_branch most buses earlier c.args.at row (record { room = few; long = long }) (Some c.in-Some.from) (Some c.in-Some-number_in.to) from to in
      let stated = whole ∙ ap (branch_of buses (length earlier + 1) c.args.at (Some c.in-Some.from) (Some c.in-Some-number_in.to)) (sym c.status_in-status.ensures.status) in
      subst (λ r. Answers r (λ (branch : Branch). held_branches most buses (earlier ++ branch ∷ [])) c.add_between.new.case c.add_between.result) (sym stated)
      (c.add_between.ensures.read most buses earlier are named few is flags);
}
