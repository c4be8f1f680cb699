use Rattle.std.proofs.Common.{get_or, sym}
use Rattle.obs_meter.specs.declared.Touch.TheVariants.{Nothing}
use Rattle.obs_meter.proofs.Touched.{hub_low, touched-hub}
use Rattle.obs_placement.proofs.Flagged.{AreFrontsOfKnown-set}
use Rattle.obs_placement.proofs.holding.mark_front.Goals as goal

pub returns-clause-flags : goal.returns-clause-flags
returns-clause-flags c =
    let g = c.args.offer.now.graph.now in
    let touches = c.args.offer.now.items.now.touches in
    let known = c.args.known.now in
    let h = c.in-Some.h in
    let t = get_or touches c.args.m Nothing in
    let is = sym c.in-Some.ensures.hub in
    rw c.put_front.ensures.front (record {
      touched = c.requires.flags.touched;
      fronts = AreFrontsOfKnown-set g touches known.since c.args.m c.requires.is_known known.fronts h
          (hub_low g t h (c.requires.offer.in_range c.args.m Nothing c.requires.m) is) (touched-hub g.ends t h is) c.requires.flags.fronts;
    })
