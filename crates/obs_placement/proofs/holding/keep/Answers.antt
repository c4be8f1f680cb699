use Rattle.std.proofs.Common.{◌<◌, length, arith, get_or, sym, ◌∙◌}
use Rattle.std.proofs.lemmas.List.{get_or_default}
use Rattle.obs_placement.specs.inner.Taking.{never}
use Rattle.obs_placement.proofs.Flagged.{AreKept-more, AreKept-over}
use Rattle.obs_placement.proofs.holding.keep.Goals as goal
use Rattle.obs_placement.proofs.holding.keep.Goals.{then-since-m, else-since-m}

pub loop-m-preserved : goal.loop-m-preserved
loop-m-preserved g c =
    let l = c.loop-m in
    let L = c.args.reached.now in
    let x = get_or L l.m-index 0 in
    let before = c.args.known.now.since in
    let since = l.known.since in
    let h = l.invariant in
    let beside = h.2 in
    let low : x < length since = let a = c.requires.low l.m-index 0 c.loop-m-test.true in let b = beside.count in omega (arith, a, b) in
    elim c.if-since-m.branch [
      | then-since-m w ↦
          let e = w.keep_item.ensures in
          let same = e.same_room in
          let room = h.3 in
          rw (w.pairs-is, w.known-is) (
            rw e.since
                (AreKept-more L c.args.price c.requires.price before l.m-index c.loop-m-test.true since h.0 low (get_or_default since x never 0 low ∙ (rw c.since.ensures.since at w.if-since-m.true))),
            e.slots ∙ h.1,
            e.beside,
            record { meters = same.meters ∙ room.meters; vertices = same.vertices ∙ room.vertices; branches = same.branches ∙ room.branches },
            e.same_sizes ∙ h.4,
          )
      | else-since-m w ↦ rw (w.pairs-is, w.known-is) (
        AreKept-over L c.args.price c.requires.price before l.m-index c.loop-m-test.true since h.0 (λ q. (rw c.since.ensures.since at w.if-since-m.false) (sym (get_or_default since x never 0 low) ∙ q)),
        h.1,
        h.2,
        h.3,
        h.4,
      )
    ]

pub keep_item-requires-clause-offer : goal.keep_item-requires-clause-offer
keep_item-requires-clause-offer g c = c.requires.offer

pub keep_item-requires-clause-m : goal.keep_item-requires-clause-m
keep_item-requires-clause-m g c = c.requires.low c.loop-m.m-index 0 c.loop-m-test.true

pub keep_item-requires-clause-price : goal.keep_item-requires-clause-price
keep_item-requires-clause-price g c = c.requires.price

pub keep_item-requires-clause-unknown : goal.keep_item-requires-clause-unknown
keep_item-requires-clause-unknown g c =
    let x = get_or c.args.reached.now c.loop-m.m-index 0 in
    let since = c.loop-m.known.since in
    let low : x < length since = let a = c.requires.low c.loop-m.m-index 0 c.loop-m-test.true in let b = c.loop-m.invariant.2.count in omega (arith, a, b) in
    get_or_default since x never 0 low ∙ (rw c.since.ensures.since at c.if-since-m.true)

pub keep_item-requires-clause-beside : goal.keep_item-requires-clause-beside
keep_item-requires-clause-beside g c = c.loop-m.invariant.2

pub returns-clause-slots : goal.returns-clause-slots
returns-clause-slots g c = c.loop-m.invariant.1

pub returns-clause-beside : goal.returns-clause-beside
returns-clause-beside g c = c.loop-m.invariant.2

pub returns-clause-same_room : goal.returns-clause-same_room
returns-clause-same_room g c = c.loop-m.invariant.3

pub returns-clause-same_sizes : goal.returns-clause-same_sizes
returns-clause-same_sizes g c = c.loop-m.invariant.4
