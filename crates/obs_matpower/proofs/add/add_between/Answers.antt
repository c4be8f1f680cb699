use Rattle.std.proofs.Common.{◌≡◌, ◌+◌, Some, Ok, ◌∷◌, ◌++◌, [], length, decimal, sym, ap, ◌∙◌, subst, arith}
use Rattle.obs_text.specs.Names.{is_name}
use Rattle.obs_case.specs.Adds.{with_branch}
use Rattle.obs_case.specs.Adds as case
use Rattle.obs_case.specs.Tables.{node_names, position_of}
use Rattle.obs_case.specs.declared.rows.Branch.{Branch}
use Rattle.obs_bus_branch.specs.Buses.{branch_name}
use Rattle.obs_bus_branch.proofs.NumberLemmas.{is_name-branch}
use Rattle.obs_matpower.specs.Read.{branch_of, with_status}
use Rattle.obs_matpower.specs.inner.Reading.{Answers, held_branches}
use Rattle.obs_matpower.proofs.AddLemmas.{both_known, branch_added, first_unknown, second_unknown}
use Rattle.obs_matpower.proofs.add.add_between.Goals as goal

pub returns-in_default : goal.returns-in_default
returns-in_default c = record {
  read = λ most buses earlier are named few is flags.
      first_unknown most buses earlier c.args.at c.args.from c.args.to c.requires.from c.requires.to are c.args.case.now is (length earlier + 1) c.args.status
      (c.in_default.ensures.position ∙ ap (position_of (node_names c.args.case.now)) c.text-from.ensures.decimal);
}

pub returns-in_default-find_node : goal.returns-in_default-find_node
returns-in_default-find_node c = record {
  read = λ most buses earlier are named few is flags.
      second_unknown most buses earlier c.args.at c.args.from c.args.to c.requires.from c.requires.to are c.args.case.now is (length earlier + 1) c.args.status
      (c.in_default-find_node.ensures.position ∙ ap (position_of (node_names c.args.case.now)) c.text-to.ensures.decimal);
}

pub returns-in_default-status : goal.returns-in_default-status
returns-in_default-status c = record {
  read = λ most buses earlier are named few is flags.
      both_known most buses earlier c.args.at c.args.from c.args.to c.requires.from c.requires.to are c.args.case.now is (length earlier + 1) c.args.status c.in-Some.first c.in-Some-find_node.second
      (c.in-Some.ensures.position ∙ ap (position_of (node_names c.args.case.now)) c.text-from.ensures.decimal)
      (c.in-Some-find_node.ensures.position ∙ ap (position_of (node_names c.args.case.now)) c.text-to.ensures.decimal)
      ∙ ap (with_status buses (length earlier + 1) c.args.at c.args.from c.args.to) c.in_default-status.is;
}

pub add_branch-requires : goal.add_branch-requires
add_branch-requires c =
    let named = ap is_name c.branch_name-name.ensures.name ∙ is_name-branch _ (omega arith) in
    record { name = named }

pub returns-in-Ok : goal.returns-in-Ok
returns-in-Ok c = record {
  read = λ most buses earlier are named few is flags.
      let old = c.args.case.now in
      let inservice = c.is_in_service-inservice.result in
      let count : length c.branches-count.result.now + 1 ≡ length earlier + 1 = ap (λ rows. length rows + 1) c.branches-count.ensures.rows ∙ ap (λ t. length t.branches + 1) is in
      let name : c.branch_name-name.result.now ≡ branch_name (length earlier + 1) = c.branch_name-name.ensures.name ∙ ap branch_name count in
      let added : c.add_branch.new.self ≡ with_branch old (case.branch_of old (branch_name (length earlier + 1)) c.text-from.result.now c.text-to.result.now inservice) =
      c.in-Ok.ensures.added ∙ ap (λ n. with_branch old (case.branch_of old n c.text-from.result.now c.text-to.result.now inservice)) name in
      subst (λ (status : _). Answers (branch_of buses (length earlier + 1) c.args.at (Some c.args.from) (Some c.args.to) status) (λ (branch : Branch). held_branches most buses (earlier ++ branch ∷ [])) c.add_branch.new.self (Ok tt)) (sym c.in-Some-status.is)
      (branch_added most buses earlier c.args.at c.args.from c.args.to c.requires.from c.requires.to are old is c.in-Some.first c.in-Some-find_node.second
      (c.in-Some.ensures.position ∙ ap (position_of (node_names old)) c.text-from.ensures.decimal)
      (c.in-Some-find_node.ensures.position ∙ ap (position_of (node_names old)) c.text-to.ensures.decimal)
      c.args.isolated.now flags c.in-Some-status.status inservice c.add_branch.new.self c.is_in_service-inservice.ensures.inservice
      (added
      ∙ ap (λ n. with_branch old (case.branch_of old (branch_name (length earlier + 1)) n c.text-to.result.now inservice)) c.text-from.ensures.decimal
      ∙ ap (λ n. with_branch old (case.branch_of old (branch_name (length earlier + 1)) (decimal c.args.from) n inservice)) c.text-to.ensures.decimal));
}
