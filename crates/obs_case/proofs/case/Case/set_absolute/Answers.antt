use Rattle.std.proofs.Common.{◌≡◌, ◌∙◌, ◌<◌, ℕ, List, ap, get_or, length, refl, subst, sym}
use Rattle.obs_case.specs.declared.rows.Node.{Node}
use Rattle.obs_case.specs.inner.Case.{tables_of}
use Rattle.obs_case.specs.Flags.{changed_at}
use Rattle.obs_case.specs.inner.Flags.{with_absolute}
use Rattle.obs_case.specs.Tables.{IsValid, Tables}
use Rattle.obs_case.proofs.RowLemmas.{has_name-set, set-row}
use Rattle.obs_case.proofs.ValidLemmas.{valid-with_absolute}
use Rattle.obs_case.proofs.case.Case.set_absolute.Goals as goal
use Rattle.obs_case.proofs.case.Case.set_absolute.Goals.{After-put}

pub put-requires : goal.put-requires
put-requires c =
    let rows = c.self.inside.nodes.keys in
    let row = c.index-as_slice-at.result in
    let lt : c.args.at < length rows = subst (λ (t : Tables). c.args.at < length t.nodes) (sym c.self.view_is) c.requires.at in
    let is = c.index-as_slice-at.is ∙ ap (λ l. get_or l c.args.at row) c.as_slice.ensures.keys in
    record { there = has_name-set (λ (r : Node). r.name) (λ r. r) (λ r. refl) rows c.args.at row lt is c.new.result (c.new.ensures.bytes ∙ c.bytes.ensures.bytes) }

-- the rows with that one changed
set : (c : After-put) → c.put.new.rows.keys ≡ changed_at (λ (r : Node). record r { absolute = c.args.absolute }) c.args.at c.self.inside.nodes.keys
set c =
    let rows = c.self.inside.nodes.keys in
    let row = c.index-as_slice-at.result in
    let change : Node → Node = λ r. record r { absolute = c.args.absolute } in
    let lt : c.args.at < length rows = subst (λ (t : Tables). c.args.at < length t.nodes) (sym c.self.view_is) c.requires.at in
    let is = c.index-as_slice-at.is ∙ ap (λ l. get_or l c.args.at row) c.as_slice.ensures.keys in
    let with_name : List ℕ → Node = λ name. record row { name = name; absolute = c.args.absolute } in
    c.put.ensures.put ∙ set-row (λ (r : Node). r.name) change (λ r. refl) rows c.args.at row (with_name c.new.result) lt c.self.invariant.nodes is (ap with_name (c.new.ensures.bytes ∙ c.bytes.ensures.bytes))

pub invariant_of-self : goal.invariant_of-self
invariant_of-self c =
    let t = tables_of c.self.inside in
    subst (λ rows. IsValid (record t { nodes = rows })) (sym (set c)) (valid-with_absolute t c.self.invariant c.args.at c.args.absolute)

pub returns : goal.returns
returns c =
    let t = tables_of c.self.inside in
    let with_rows : List Node → Tables = λ rows. record t { nodes = rows } in
    record { set = ap with_rows (set c) ∙ ap (λ u. with_absolute u c.args.at c.args.absolute) c.self.view_is }
