use Rattle.std.proofs.Common.{◌≡◌, ℕ, Bool, List, false, true, length, take, sym, ap, ◌∙◌, subst, arith}
use Rattle.std.specs.Prelude.{IfSome, IsSome, MatchOption}
use Rattle.std.proofs.lemmas.List.{get_or-take, get_or_default}
use Rattle.obs_matroid.specs.Assignments.{branches}
use Rattle.obs_matroid.specs.inner.Assignments.{part}
use Rattle.obs_matroid.specs.inner.Slots.{pairs_of}
use Rattle.obs_forest.specs.inner.Forest.{StandsOver}
use Rattle.obs_assign.specs.Assignment.{Assignment}
use Rattle.obs_assign.specs.inner.Assignment.{has_flag}
use Rattle.obs_assign.specs.inner.Kept.{seen}
use Rattle.obs_assign.specs.inner.Pins.{MayPin, joins}
use Rattle.obs_assign.specs.inner.Spare.{IsSpare}
use Rattle.obs_assign.proofs.Paths.{spare_from}
use Rattle.obs_assign.proofs.assignment.Assignment.spare.Goals as goal
use Rattle.obs_assign.proofs.assignment.Assignment.spare.Goals.{After-spare_for}

-- what is found, as the assignment sees it
found : (c : After-spare_for)
    → IfSome c.spare_for.result (λ x. IsSpare c.args.g.now.ends c.args.self.now.slots c.args.self.now.frozen c.args.m c.args.e x)
    × ((IsSome c.spare_for.result → MayPin c.args.self.now c.args.g.now.ends c.args.m c.args.e) × (MayPin c.args.self.now c.args.g.now.ends c.args.m c.args.e → IsSome c.spare_for.result))
found c =
    let ins = c.self.inside in
    let ends = c.args.g.now.ends in
    let m = c.args.m in
    let e = c.args.e in
    let n = length ins.kept.slots in
    let spare = c.spare_for.result in
    let now_len = ap (λ (x : Assignment). length x.slots) c.self.view_is in
    let low = c.requires.m in
    let inv = c.self.invariant in
    let thawed : has_flag (take n ins.frozen.items) m ≡ false =
    get_or-take n ins.frozen.items m false (omega arith) ∙ (get_or_default ins.frozen.items m false c.index.result.now (omega (arith, low, now_len, inv.whole.meters, inv.frozen_len)) ∙ (sym c.index.ensures ∙ c.if-index.false)) in
    let P : ℕ → List Bool → Type 0 = λ k f. MatchOption spare (joins ends (branches (part (has_flag (take k f)) (pairs_of ins.kept.slots))) e ≡ true) (λ x. IsSpare ends ins.kept.slots (take k f) m e x) in
    let h : P n ins.frozen.items = subst (λ f. P n f) c.deref.ensures.value (subst (λ k. P k c.deref.result.now) (ap (λ l. length l) c.slots-meters.ensures.slots) c.spare_for.ensures.spare) in
    spare_from (seen ins.kept ins.frozen.items ins.turns) c.args.self.now ends m e spare c.self.view_is thawed h

pub returns-clause-spare : goal.returns-clause-spare
returns-clause-spare c = (found (goal.at.returns-clause-spare c).After-spare_for).0

pub returns-clause-may : goal.returns-clause-may
returns-clause-may c = (found (goal.at.returns-clause-may c).After-spare_for).1

pub spare_for-requires-clause-stands : goal.spare_for-requires-clause-stands
spare_for-requires-clause-stands c = subst (λ (a : Assignment). StandsOver a.forest c.args.g.now) (sym c.self.view_is) c.requires.stands

pub spare_for-requires-clause-paired : goal.spare_for-requires-clause-paired
spare_for-requires-clause-paired c = rw (c.slots-meters.ensures.slots, c.deref.ensures.value) c.self.invariant.whole.paired

pub spare_for-requires-clause-room : goal.spare_for-requires-clause-room
spare_for-requires-clause-room c = omega (arith, c.deref_mut.ensures.len, ap (λ xs. length xs) c.deref_mut.ensures.value, c.self.invariant.path_len, c.self.invariant.whole.vertices)

pub spare_for-requires-clause-thawed : goal.spare_for-requires-clause-thawed
spare_for-requires-clause-thawed c =
    let ins = c.self.inside in
    let m = c.args.m in
    let now_len = ap (λ (x : Assignment). length x.slots) c.self.view_is in
    let low = c.requires.m in
    let inv = c.self.invariant in
    rw (c.slots-meters.ensures.slots, c.deref.ensures.value)
    (get_or-take (length ins.kept.slots) ins.frozen.items m false (omega arith) ∙ (get_or_default ins.frozen.items m false c.index.result.now (omega (arith, low, now_len, inv.whole.meters, inv.frozen_len)) ∙ (sym c.index.ensures ∙ c.if-index.false)))

pub returns-clause-same : goal.returns-clause-same
returns-clause-same c = c.self.view_is
