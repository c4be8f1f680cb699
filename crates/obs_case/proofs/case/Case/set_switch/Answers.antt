use Rattle.std.proofs.Common.{◌≡◌, ◌∙◌, ◌<◌, ℕ, List, ap, get_or, length, refl, subst, sym}
use Rattle.obs_case.specs.declared.rows.Switch.{Switch}
use Rattle.obs_case.specs.inner.Case.{tables_of}
use Rattle.obs_case.specs.Flags.{changed_at, with_closed}
use Rattle.obs_case.specs.Tables.{IsValid, Tables}
use Rattle.obs_case.proofs.RowLemmas.{has_name-set, set-row}
use Rattle.obs_case.proofs.ValidLemmas.{valid-with_closed}
use Rattle.obs_case.proofs.case.Case.set_switch.Goals as goal
use Rattle.obs_case.proofs.case.Case.set_switch.Goals.{After-put}

pub put-requires : goal.put-requires
put-requires c =
    let rows = c.self.inside.switches.keys in
    let row = c.index-as_slice-at.result in
    let lt : c.args.at < length rows = subst (λ (t : Tables). c.args.at < length t.switches) (sym c.self.view_is) c.requires.at in
    let is = c.index-as_slice-at.is ∙ ap (λ l. get_or l c.args.at row) c.as_slice.ensures.keys in
    record { there = has_name-set (λ (r : Switch). r.name) (λ r. r) (λ r. refl) rows c.args.at row lt is c.new.result (c.new.ensures.bytes ∙ c.bytes.ensures.bytes) }

-- the rows with that one changed
set : (c : After-put) → c.put.new.rows.keys ≡ changed_at (λ (r : Switch). record r { closed = c.args.closed }) c.args.at c.self.inside.switches.keys
set c =
    let rows = c.self.inside.switches.keys in
    let row = c.index-as_slice-at.result in
    let change : Switch → Switch = λ r. record r { closed = c.args.closed } in
    let lt : c.args.at < length rows = subst (λ (t : Tables). c.args.at < length t.switches) (sym c.self.view_is) c.requires.at in
    let is = c.index-as_slice-at.is ∙ ap (λ l. get_or l c.args.at row) c.as_slice.ensures.keys in
    let with_name : List ℕ → Switch = λ name. record row { name = name; closed = c.args.closed } in
    c.put.ensures.put ∙ set-row (λ (r : Switch). r.name) change (λ r. refl) rows c.args.at row (with_name c.new.result) lt c.self.invariant.switches is (ap with_name (c.new.ensures.bytes ∙ c.bytes.ensures.bytes))

pub invariant_of-self : goal.invariant_of-self
invariant_of-self c =
    let t = tables_of c.self.inside in
    subst (λ rows. IsValid (record t { switches = rows })) (sym (set c)) (valid-with_closed t c.self.invariant c.args.at c.args.closed)

pub returns : goal.returns
returns c =
    let t = tables_of c.self.inside in
    let with_rows : List Switch → Tables = λ rows. record t { switches = rows } in
    record { set = ap with_rows (set c) ∙ ap (λ u. with_closed u c.args.at c.args.closed) c.self.view_is }
