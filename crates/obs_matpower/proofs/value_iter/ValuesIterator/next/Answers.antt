use Rattle.std.proofs.Common.{◌≡◌, ◌<◌, ◌∷◌, length, sym, ap, ◌∙◌, rules}
use Rattle.std.proofs.lemmas.List.{nil_from_length}
use Rattle.obs_matpower.specs.Rows.{values_of}
use Rattle.obs_matpower.proofs.SplitLemmas.{values-nil, values_first, values_skip}
use Rattle.obs_matpower.proofs.value_iter.ValuesIterator.next.Goals as goal

first_value : (c : goal.Then-not-is_empty) → values_of c.args.self.now.rest.now ≡ c.cut_value.result.0.now ∷ values_of c.cut_value.result.1.now
first_value c =
    let some : 0 < length c.cut_value.result.0.now = search rules in
    let cut = c.cut_value.ensures in
    rw (cut.before, cut.after, ← c.loop-value.invariant) (values_first _ (rw cut.before at some))

pub returns-then-not-is_empty-clause-steps : goal.returns-then-not-is_empty-clause-steps
returns-then-not-is_empty-clause-steps c = first_value c

pub returns-then-not-is_empty-clause-goes : goal.returns-then-not-is_empty-clause-goes
returns-then-not-is_empty-clause-goes c =
    let shorter = ap length (first_value c) in
    search rules

pub loop-value-preserved : goal.loop-value-preserved
loop-value-preserved c =
    let empty : length c.cut_value.result.0.now ≡ 0 = search rules in
    let cut = c.cut_value.ensures in
    rw cut.after (sym (values_skip _ (rw cut.before at empty)) ∙ c.loop-value.invariant)

pub returns-clause-steps : goal.returns-clause-steps
returns-clause-steps c =
    let ended = nil_from_length c.loop-value.self.rest.now (search rules) in
    let none = ap values_of ended ∙ values-nil in
    (sym c.loop-value.invariant ∙ none, none)
