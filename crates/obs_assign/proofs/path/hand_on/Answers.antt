use Rattle.std.proofs.Common.{◌≡◌, ◌<◌, ◌+◌, ◌-◌, ℕ, Option, List, get_or, length, drop, inl, refl, ap, sym, subst, arith}
use Rattle.std.proofs.lemmas.List.{drop_more}
use Rattle.obs_graph.specs.Positions.{IsForestAt}
use Rattle.obs_matroid.specs.Assignments.{branches}
use Rattle.obs_matroid.specs.inner.Slots.{pairs_of}
use Rattle.obs_assign.specs.declared.Move.{Move}
use Rattle.obs_assign.specs.inner.Kept.{Kept, with_slots}
use Rattle.obs_assign.specs.inner.Pins.{pinned_slots}
use Rattle.obs_assign.proofs.Handing.{Handing-begun, Handing-more, IsHanding, hand_bare, one_left, two_left}
use Rattle.obs_assign.proofs.Over.{IsOver-new, over-next}
use Rattle.obs_assign.proofs.path.hand_on.Goals as goal

pub loop-i-init : goal.loop-i-init
loop-i-init c = let r = c.requires in record { held = r.over; handing = Handing-begun c.args.path.now c.args.kept.now.slots r.low r.hands r.different }

pub hand-requires-clause-meter : goal.hand-requires-clause-meter
hand-requires-clause-meter c =
    let l = c.loop-i in
    let path = c.args.path.now in
    let none : Move = record { meter = 0; branch = 0 } in
    let h = subst (λ (m : List Move). IsHanding path c.args.kept.now.slots m l.kept.slots) (two_left path l.i none (let t = c.loop-i-test.true in omega (arith, t))) l.invariant.handing in
    h.low (get_or path l.i none) (inl refl)

pub hand-requires-clause-next : goal.hand-requires-clause-next
hand-requires-clause-next c =
    let l = c.loop-i in
    let path = c.args.path.now in
    let none : Move = record { meter = 0; branch = 0 } in
    let h = subst (λ (m : List Move). IsHanding path c.args.kept.now.slots m l.kept.slots) (two_left path l.i none (let t = c.loop-i-test.true in omega (arith, t))) l.invariant.handing in
    h.hands.1.0

pub hand-requires-clause-bare : goal.hand-requires-clause-bare
hand-requires-clause-bare c =
    let l = c.loop-i in
    let path = c.args.path.now in
    let none : Move = record { meter = 0; branch = 0 } in
    let h = subst (λ (m : List Move). IsHanding path c.args.kept.now.slots m l.kept.slots) (two_left path l.i none (let t = c.loop-i-test.true in omega (arith, t))) l.invariant.handing in
    hand_bare path c.args.kept.now.slots (get_or path l.i none) (get_or path (l.i + 1) none) (drop (l.i + 1 + 1) path) l.kept.slots h

pub loop-i-preserved : goal.loop-i-preserved
loop-i-preserved c =
    let a = c.args in
    let l = c.loop-i in
    let path = a.path.now in
    let before = a.kept.now.slots in
    let none : Move = record { meter = 0; branch = 0 } in
    let x = get_or path l.i none in
    let y = get_or path (l.i + 1) none in
    let rest = drop (l.i + 1 + 1) path in
    let low : l.i + 1 < length path = (let t = c.loop-i-test.true in omega (arith, t)) in
    let h = subst (λ (m : List Move). IsHanding path before m l.kept.slots) (two_left path l.i none low) l.invariant.handing in
    let more = Handing-more path before x y rest l.kept.slots h in
    let handed = c.hand.ensures.handed a.g.now (IsOver-new a.kept.now l.kept a.g.now l.kept.slots l.invariant.held) in
    let slots = ap (λ (k : Kept). k.slots) handed in
    record {
      held = subst (λ (s : List (Option ℕ)). c.hand.new.self ≡ with_slots a.kept.now a.g.now s) (sym slots) (over-next a.kept.now l.kept c.hand.new.self a.g.now _ l.invariant.held handed);
      handing = subst (λ (s : List (Option ℕ)). IsHanding path before (drop (l.i + 1) path) s) (sym slots)
          (subst (λ (m : List Move). IsHanding path before m (pinned_slots l.kept.slots x.meter x.branch y.meter)) (sym (drop_more path (l.i + 1) none low)) more);
    }

pub add-requires-clause-over : goal.add-requires-clause-over
add-requires-clause-over c = let l = c.loop-i in IsOver-new c.args.kept.now l.kept c.args.g.now l.kept.slots l.invariant.held

pub add-requires-clause-meter : goal.add-requires-clause-meter
add-requires-clause-meter c =
    let l = c.loop-i in
    let none : Move = record { meter = 0; branch = 0 } in
    let path = c.args.path.now in
    let before = c.args.kept.now.slots in
    let h = subst (λ (m : List Move). IsHanding path before m l.kept.slots) (one_left path none c.requires.some)
    (subst (λ (i : ℕ). IsHanding path before (drop i path) l.kept.slots) (let f = c.loop-i-test.false in omega (arith, f, l.auto.i-end)) l.invariant.handing) in
    h.low (get_or path (length path - 1) none) (inl refl)

pub add-requires-clause-bare : goal.add-requires-clause-bare
add-requires-clause-bare c =
    let l = c.loop-i in
    let none : Move = record { meter = 0; branch = 0 } in
    let path = c.args.path.now in
    let before = c.args.kept.now.slots in
    let h = subst (λ (m : List Move). IsHanding path before m l.kept.slots) (one_left path none c.requires.some)
    (subst (λ (i : ℕ). IsHanding path before (drop i path) l.kept.slots) (let f = c.loop-i-test.false in omega (arith, f, l.auto.i-end)) l.invariant.handing) in
    h.hands.0

pub add-requires-clause-forest : goal.add-requires-clause-forest
add-requires-clause-forest c =
    let l = c.loop-i in
    let none : Move = record { meter = 0; branch = 0 } in
    let path = c.args.path.now in
    let before = c.args.kept.now.slots in
    let h = subst (λ (m : List Move). IsHanding path before m l.kept.slots) (one_left path none c.requires.some)
    (subst (λ (i : ℕ). IsHanding path before (drop i path) l.kept.slots) (let f = c.loop-i-test.false in omega (arith, f, l.auto.i-end)) l.invariant.handing) in
    subst (λ (s : List (Option ℕ)). IsForestAt c.args.g.now.ends (branches (pairs_of s))) (sym h.moved_are) c.requires.forest

pub returns : goal.returns
returns c =
    let a = c.args in
    let l = c.loop-i in
    let none : Move = record { meter = 0; branch = 0 } in
    let path = a.path.now in
    let before = a.kept.now.slots in
    let h = subst (λ (m : List Move). IsHanding path before m l.kept.slots) (one_left path none c.requires.some)
    (subst (λ (i : ℕ). IsHanding path before (drop i path) l.kept.slots) (let f = c.loop-i-test.false in omega (arith, f, l.auto.i-end)) l.invariant.handing) in
    record { moved = subst (λ (s : List (Option ℕ)). c.add.new.self ≡ with_slots a.kept.now a.g.now s) h.moved_are (over-next a.kept.now l.kept c.add.new.self a.g.now _ l.invariant.held c.add.ensures.added) }
