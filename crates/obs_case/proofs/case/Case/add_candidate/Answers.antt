use Rattle.std.proofs.Common.{length, ℕ, IfOk, IfErr, OnOk, List, ◌∙◌, ◌<◌, ◌≡◌, ◌∷◌, ◌++◌, [], ap, refl, subst, sym, Ok, None}
use Rattle.std.proofs.lemmas.List.{length-map}
use Rattle.obs_text.specs.Names.{is_name}
use Rattle.obs_case.specs.declared.rows.Candidate.{Candidate}
use Rattle.obs_case.specs.Adds.{candidate_of, with_candidate}
use Rattle.obs_case.specs.inner.Adds.{Refuses, first_fault, name_fault, place_fault, candidate_fault}
use Rattle.obs_case.specs.inner.Case.{tables_of}
use Rattle.obs_case.specs.Tables.{IsValid, Tables, candidate_names, place_names, place_of, places}
use Rattle.obs_case.proofs.AddLemmas.{either, never_node, never_node_of_place, no_fault, place_low}
use Rattle.obs_case.proofs.ValidLemmas.{valid-candidates}
use Rattle.std.proofs.lemmas.Result.{on_err_weaker, on_ok_weaker}
use Rattle.obs_case.specs.declared.rows.Kind.{Kind}
use Rattle.obs_case.proofs.case.Case.add_candidate.Goals as goal
use Rattle.obs_case.proofs.case.Case.add_candidate.Goals.{After-add}

pub invariant_of-self : goal.invariant_of-self
invariant_of-self c =
    let t = tables_of c.self.inside in
    let place = c.find_place-place in
    let view = sym c.self.view_is in
    let row : Candidate = record { name = c.new.result; kind = c.args.kind; at = place.result.at; price = c.args.price } in
    let good = ap is_name c.new.ensures.bytes ∙ c.requires.name in
    let at = place.ensures.at ∙ ap (λ u. place_of (place_names u c.args.kind) c.args.at.now) view in
    let fault = place.ensures.fault ∙ ap (λ u. place_fault u c.args.kind c.args.at.now) view in
    either (λ rows. IsValid (record t { candidates = rows })) t.candidates c.add.new.rows.keys row c.add.result (first_fault (name_fault t.most (candidate_names t) c.new.result) place.result.fault) c.self.invariant
    (λ free. let f = no_fault t.most (candidate_names t) c.new.result place.result.fault free in
    let within : place.result.at < places t c.args.kind = subst (λ k. k < places t c.args.kind) (sym at) (place_low t c.args.kind c.args.at.now (sym fault ∙ f.2)) in
    valid-candidates t c.self.invariant (Ok 0) row (t.candidates ++ row ∷ []) good (λ full. f.0 (length-map t.candidates (λ (r : Candidate). r.name) ∙ full)) within c.requires.price f.1 refl tt)
    c.add.ensures.accepted c.add.ensures.added c.add.ensures.unchanged

abbrev as_row : List ℕ → Kind → ℕ → ℕ → Candidate
as_row name kind at price = record { name = name; kind = kind; at = at; price = price }

-- the fault of the row, and the row itself
fault_is : (c : After-add) → first_fault (name_fault (tables_of c.self.inside).most (candidate_names (tables_of c.self.inside)) c.new.result) c.find_place-place.result.fault ≡ candidate_fault c.args.self.now c.args.name.now c.args.kind c.args.at.now
fault_is c =
    let t = tables_of c.self.inside in
    ap (λ n. first_fault (name_fault t.most (candidate_names t) n) c.find_place-place.result.fault) c.new.ensures.bytes
    ∙ (ap (λ f. first_fault (name_fault t.most (candidate_names t) c.args.name.now) f) c.find_place-place.ensures.fault
    ∙ ap (λ u. first_fault (name_fault u.most (candidate_names u) c.args.name.now) (place_fault c.args.self.now c.args.kind c.args.at.now)) c.self.view_is)

row_is : (c : After-add) → as_row c.new.result c.args.kind c.find_place-place.result.at c.args.price ≡ candidate_of c.args.self.now c.args.name.now c.args.kind c.args.at.now c.args.price
row_is c =
    ap (λ n. as_row n c.args.kind c.find_place-place.result.at c.args.price) c.new.ensures.bytes
    ∙ ap (λ a. as_row c.args.name.now c.args.kind a c.args.price) c.find_place-place.ensures.at

pub returns-clause-accepted : goal.returns-clause-accepted
returns-clause-accepted c = subst (λ f. OnOk c.add.result (f ≡ None)) (fault_is c) c.add.ensures.accepted

pub returns-clause-refused : goal.returns-clause-refused
returns-clause-refused c = subst (λ f. IfErr c.add.result (Refuses f)) (fault_is c) c.add.ensures.refused

pub returns-clause-never_unknown_node : goal.returns-clause-never_unknown_node
returns-clause-never_unknown_node c =
    never_node (tables_of c.self.inside).most (candidate_names (tables_of c.self.inside)) c.new.result c.find_place-place.result.fault c.add.result c.add.ensures.refused
    (never_node_of_place _ c.find_place-place.result.fault c.find_place-place.ensures.fault)

pub returns-clause-position : goal.returns-clause-position
returns-clause-position c = subst (λ (u : Tables). IfOk c.add.result (λ at. at ≡ length u.candidates)) c.self.view_is c.add.ensures.position

pub returns-clause-added : goal.returns-clause-added
returns-clause-added c =
    let t = tables_of c.self.inside in
    on_ok_weaker c.add.result
    (λ e. ap (λ (rows : List Candidate). record t { candidates = rows }) e
    ∙ (ap (λ (row : Candidate). with_candidate t row) (row_is c)
    ∙ ap (λ (u : Tables). with_candidate u (candidate_of c.args.self.now c.args.name.now c.args.kind c.args.at.now c.args.price)) c.self.view_is))
    c.add.ensures.added

pub returns-clause-unchanged : goal.returns-clause-unchanged
returns-clause-unchanged c =
    let t = tables_of c.self.inside in
    on_err_weaker c.add.result (λ e. ap (λ (rows : List Candidate). record t { candidates = rows }) e ∙ c.self.view_is) c.add.ensures.unchanged
