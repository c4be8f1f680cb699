use Rattle.std.proofs.Common.{◌≤◌, length, sym, ◌∙◌, arith}
use Rattle.std.proofs.lemmas.List.{length-take-le}
use Rattle.obs_placement.specs.inner.Offer.{price_in}
use Rattle.obs_placement.proofs.Measures.{measured_items, measured_outside, measured_rank}
use Rattle.obs_placement.proofs.measuring.measure_own.Goals as goal

pub returns-clause-measured : goal.returns-clause-measured
returns-clause-measured c =
    let o = c.args.offer.now in
    record {
      inside_is = c.measure.ensures.inside
          ∙ measured_items o.graph.now o.items.now.touches (price_in o) c.args.since.now c.args.to c.mark_known.new.marks c.mark_below.new.scope c.requires.known.known (let b = c.ranges.to.fits in omega (arith, b))
          (λ m l. c.mark_known.ensures.marks m (let e = c.requires.known.count in omega (arith, l, e))) c.mark_below.ensures.marks;
      rank_is = c.measure.ensures.rank
          ∙ measured_rank o.graph.now o.items.now.touches (price_in o) c.args.since.now c.args.to c.mark_known.new.marks c.mark_below.new.scope c.requires.known.known (let b = c.ranges.to.fits in omega (arith, b))
          (λ m l. c.mark_known.ensures.marks m (let e = c.requires.known.count in omega (arith, l, e))) c.mark_below.ensures.marks;
      outside_is = c.measure.ensures.outside
          ∙ measured_outside o.graph.now o.items.now.touches (price_in o) c.args.since.now c.args.to c.mark_known.new.marks c.mark_below.new.scope c.requires.known.known (let b = c.ranges.to.fits in omega (arith, b))
          (λ m l. c.mark_known.ensures.marks m (let e = c.requires.known.count in omega (arith, l, e))) c.mark_below.ensures.marks;
    }

pub mark_known-requires : goal.mark_known-requires
mark_known-requires c =
    let count = c.count-n.ensures.count in
    let room : c.count-n.result ≤ length c.args.marks.now = let m = c.requires.room.meters in let k = c.requires.marks in omega (arith, count, m, k) in
    record { count = length-take-le c.count-n.result c.args.marks.now room ∙ (count ∙ sym c.requires.known.count) }

pub mark_below-requires-clause-offer : goal.mark_below-requires-clause-offer
mark_below-requires-clause-offer c = c.requires.offer

pub mark_below-requires-clause-count : goal.mark_below-requires-clause-count
mark_below-requires-clause-count c =
    let count = c.count-n.ensures.count in
    let room : c.count-n.result ≤ length c.args.scope.now = let m = c.requires.room.meters in let s = c.requires.scope in omega (arith, count, m, s) in
    length-take-le c.count-n.result c.args.scope.now room ∙ count

pub measure-requires-clause-in_range : goal.measure-requires-clause-in_range
measure-requires-clause-in_range c = c.requires.offer.in_range

pub measure-requires-clause-room : goal.measure-requires-clause-room
measure-requires-clause-room c = c.requires.room

pub measure-requires-clause-marks : goal.measure-requires-clause-marks
measure-requires-clause-marks c =
    let count = c.count-n.ensures.count in
    let room : c.count-n.result ≤ length c.args.marks.now = let m = c.requires.room.meters in let k = c.requires.marks in omega (arith, count, m, k) in
    c.mark_known.ensures.count ∙ (length-take-le c.count-n.result c.args.marks.now room ∙ count)

pub measure-requires-clause-scope : goal.measure-requires-clause-scope
measure-requires-clause-scope c =
    let count = c.count-n.ensures.count in
    let room : c.count-n.result ≤ length c.args.scope.now = let m = c.requires.room.meters in let s = c.requires.scope in omega (arith, count, m, s) in
    c.mark_below.ensures.count ∙ (length-take-le c.count-n.result c.args.scope.now room ∙ count)

pub returns-clause-same_sizes : goal.returns-clause-same_sizes
returns-clause-same_sizes c = c.measure.ensures.same_sizes
