use Rattle.std.proofs.Common.{◌∙◌, ◌∷◌, ◌++◌, [], ap, false, refl, Ok, None}
use Rattle.std.proofs.lemmas.List.{length-map}
use Rattle.obs_text.specs.Names.{is_name}
use Rattle.obs_case.specs.declared.rows.Node.{Node}
use Rattle.obs_case.specs.inner.Adds.{first_fault, name_fault}
use Rattle.obs_case.specs.inner.Case.{tables_of}
use Rattle.obs_case.specs.Tables.{IsValid, node_names}
use Rattle.obs_case.proofs.AddLemmas.{either, no_fault}
use Rattle.obs_case.proofs.ValidLemmas.{valid-nodes}
use Rattle.obs_case.proofs.case.Case.add_node.Goals as goal

pub invariant_of-self : goal.invariant_of-self
invariant_of-self c =
    let t = tables_of c.self.inside in
    let row : Node = record { name = c.new.result; source = c.args.source; absolute = false } in
    let good = ap is_name c.new.ensures.bytes ∙ c.requires.name in
    either (λ rows. IsValid (record t { nodes = rows })) t.nodes c.add.new.rows.keys row c.add.result (first_fault (name_fault t.most (node_names t) c.new.result) None) c.self.invariant
    (λ free. let f = no_fault t.most (node_names t) c.new.result None free in
    valid-nodes t c.self.invariant (Ok 0) row (t.nodes ++ row ∷ []) good (λ full. f.0 (length-map t.nodes (λ (r : Node). r.name) ∙ full)) f.1 refl tt)
    c.add.ensures.accepted c.add.ensures.added c.add.ensures.unchanged
