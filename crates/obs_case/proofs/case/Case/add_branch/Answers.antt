use Rattle.std.proofs.Common.{Bool, IfOk, IfErr, OnOk, List, ◌∙◌, ◌<◌, ◌≡◌, ◌∷◌, ◌++◌, [], ℕ, ap, length, refl, subst, sym, Ok, None}
use Rattle.std.proofs.lemmas.List.{length-map}
use Rattle.obs_text.specs.Names.{is_name}
use Rattle.obs_case.specs.declared.rows.Node.{Node}
use Rattle.obs_case.specs.declared.rows.Branch.{Branch}
use Rattle.obs_case.specs.Adds.{branch_of, with_branch}
use Rattle.obs_case.specs.inner.Adds.{Refuses, first_fault, name_fault, branch_fault}
use Rattle.obs_case.specs.inner.Case.{tables_of}
use Rattle.obs_case.specs.Tables.{IsValid, Tables, node_names, branch_names, place_of}
use Rattle.obs_case.proofs.AddLemmas.{either, ends_within, never_place, never_place_of_ends, no_fault}
use Rattle.obs_case.proofs.ValidLemmas.{valid-branches}
use Rattle.std.proofs.lemmas.Result.{on_err_weaker, on_ok_weaker}
use Rattle.obs_case.proofs.case.Case.add_branch.Goals as goal
use Rattle.obs_case.proofs.case.Case.add_branch.Goals.{After-add}

pub invariant_of-self : goal.invariant_of-self
invariant_of-self c =
    let t = tables_of c.self.inside in
    let ends = c.find_ends-ends in
    let row : Branch = record { name = c.new.result; from = ends.result.from; to = ends.result.to; inservice = c.args.inservice } in
    let good = ap is_name c.new.ensures.bytes ∙ c.requires.name in
    let nodes = length-map t.nodes (λ (r : Node). r.name) in
    either (λ rows. IsValid (record t { branches = rows })) t.branches c.add.new.rows.keys row c.add.result (first_fault (name_fault t.most (branch_names t) c.new.result) ends.result.fault) c.self.invariant
    (λ free. let f = no_fault t.most (branch_names t) c.new.result ends.result.fault free in
    let low = ends_within (node_names t) c.args.from.now c.args.to.now (sym ends.ensures.fault ∙ f.2) in
    let from : ends.result.from < length t.nodes = subst (λ n. ends.result.from < n) nodes (subst (λ a. a < length (node_names t)) (sym ends.ensures.from) low.0) in
    let to : ends.result.to < length t.nodes = subst (λ n. ends.result.to < n) nodes (subst (λ a. a < length (node_names t)) (sym ends.ensures.to) low.1) in
    valid-branches t c.self.invariant (Ok 0) row (t.branches ++ row ∷ []) good (λ full. f.0 (length-map t.branches (λ (r : Branch). r.name) ∙ full)) (from, to) f.1 refl tt)
    c.add.ensures.accepted c.add.ensures.added c.add.ensures.unchanged

abbrev as_row : List ℕ → ℕ → ℕ → Bool → Branch
as_row name from to flag = record { name = name; from = from; to = to; inservice = flag }

-- the fault of the row, and the row itself
fault_is : (c : After-add) → first_fault (name_fault (tables_of c.self.inside).most (branch_names (tables_of c.self.inside)) c.new.result) c.find_ends-ends.result.fault ≡ branch_fault c.args.self.now c.args.name.now c.args.from.now c.args.to.now
fault_is c =
    let t = tables_of c.self.inside in
    ap (λ n. first_fault (name_fault t.most (branch_names t) n) c.find_ends-ends.result.fault) c.new.ensures.bytes
    ∙ (ap (λ f. first_fault (name_fault t.most (branch_names t) c.args.name.now) f) c.find_ends-ends.ensures.fault
    ∙ ap (λ u. branch_fault u c.args.name.now c.args.from.now c.args.to.now) c.self.view_is)

row_is : (c : After-add) → as_row c.new.result c.find_ends-ends.result.from c.find_ends-ends.result.to c.args.inservice ≡ branch_of (tables_of c.self.inside) c.args.name.now c.args.from.now c.args.to.now c.args.inservice
row_is c =
    ap (λ n. as_row n c.find_ends-ends.result.from c.find_ends-ends.result.to c.args.inservice) c.new.ensures.bytes
    ∙ (ap (λ a. as_row c.args.name.now a c.find_ends-ends.result.to c.args.inservice) c.find_ends-ends.ensures.from
    ∙ ap (λ b. as_row c.args.name.now (place_of (node_names (tables_of c.self.inside)) c.args.from.now) b c.args.inservice) c.find_ends-ends.ensures.to)

pub returns-clause-accepted : goal.returns-clause-accepted
returns-clause-accepted c = subst (λ f. OnOk c.add.result (f ≡ None)) (fault_is c) c.add.ensures.accepted

pub returns-clause-refused : goal.returns-clause-refused
returns-clause-refused c = subst (λ f. IfErr c.add.result (Refuses f)) (fault_is c) c.add.ensures.refused

pub returns-clause-never_unknown_place : goal.returns-clause-never_unknown_place
returns-clause-never_unknown_place c =
    never_place (tables_of c.self.inside).most (branch_names (tables_of c.self.inside)) c.new.result c.find_ends-ends.result.fault c.add.result c.add.ensures.refused
    (never_place_of_ends _ c.find_ends-ends.result.fault c.find_ends-ends.ensures.fault)

pub returns-clause-position : goal.returns-clause-position
returns-clause-position c = subst (λ (u : Tables). IfOk c.add.result (λ at. at ≡ length u.branches)) c.self.view_is c.add.ensures.position

pub returns-clause-added : goal.returns-clause-added
returns-clause-added c =
    let t = tables_of c.self.inside in
    on_ok_weaker c.add.result
    (λ e. ap (λ (rows : List Branch). record t { branches = rows }) e
    ∙ (ap (λ (row : Branch). with_branch t row) (row_is c)
    ∙ ap (λ (u : Tables). with_branch u (branch_of u c.args.name.now c.args.from.now c.args.to.now c.args.inservice)) c.self.view_is))
    c.add.ensures.added

pub returns-clause-unchanged : goal.returns-clause-unchanged
returns-clause-unchanged c =
    let t = tables_of c.self.inside in
    on_err_weaker c.add.result (λ e. ap (λ (rows : List Branch). record t { branches = rows }) e ∙ c.self.view_is) c.add.ensures.unchanged
