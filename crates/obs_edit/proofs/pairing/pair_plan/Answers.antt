use Rattle.std.proofs.Common.{ap, length, not, sym, subst, ◌∙◌, arith}
use Rattle.obs_meter.specs.inner.Sizes.{HasRoomFor}
use Rattle.obs_meter.specs.inner.Touches.{AreInRange}
use Rattle.obs_meter.proofs.Lost.{in_range-losing, room-losing}
use Rattle.obs_forest.specs.Forest.{has_position}
use Rattle.obs_assign.specs.inner.Assignment.{Fits, StandsOver}
use Rattle.obs_exchange.proofs.Losing.{stands-all}
use Rattle.obs_edit.specs.Planned.{planned_items}
use Rattle.obs_edit.proofs.Planned.{length-touches_of}
use Rattle.obs_edit.proofs.pairing.pair_plan.Goals as goal

pub pair_placed-requires-clause-in_range : goal.pair_placed-requires-clause-in_range
pair_placed-requires-clause-in_range g c =
    let items = planned_items c.args.meters c.chosen.result.now in
    subst (AreInRange c.args.g.now) (sym c.list_plan.ensures.planned) (in_range-losing (λ m. not (has_position items m)) c.args.offered.now.touches c.args.g.now c.requires.in_range)

pub pair_placed-requires-clause-room : goal.pair_placed-requires-clause-room
pair_placed-requires-clause-room g c =
    let items = planned_items c.args.meters c.chosen.result.now in
    subst (HasRoomFor c.args.exchange.now.sizes c.args.g.now) (sym c.list_plan.ensures.planned) (room-losing (λ m. not (has_position items m)) c.args.offered.now.touches c.args.exchange.now.sizes c.args.g.now c.requires.room)

pub pair_placed-requires-clause-fits : goal.pair_placed-requires-clause-fits
pair_placed-requires-clause-fits g c =
    let items = planned_items c.args.meters c.chosen.result.now in
    subst (Fits c.args.pairs.now c.args.g.now) (sym c.list_plan.ensures.planned) (record {
      meters = let f = c.requires.fits.meters in omega (arith, length-touches_of c.args.offered.now.touches items, f);
      vertices = c.requires.fits.vertices;
      branches = c.requires.fits.branches;
    })

pub returns-clause-stands : goal.returns-clause-stands
returns-clause-stands g c =
    let items = planned_items c.args.meters c.chosen.result.now in
    stands-all (λ m. not (has_position items m)) c.args.g.now c.args.offered.now.touches c.pair_placed.new.pairs
    (subst (StandsOver c.pair_placed.new.pairs c.args.g.now) c.list_plan.ensures.planned c.pair_placed.ensures.stands)

pub pair_placed-requires-clause-one_each : goal.pair_placed-requires-clause-one_each
pair_placed-requires-clause-one_each g c =
    let items = planned_items c.args.meters c.chosen.result.now in
    c.requires.one_each ∙ sym (ap length c.list_plan.ensures.planned ∙ length-touches_of c.args.offered.now.touches items)
