use Rattle.std.proofs.Common.{◌++◌, [], get_or, length, refl, subst}
use Rattle.std.proofs.Math.Seq.{drop-cons}
use Rattle.obs_placement.specs.declared.plans.Layer.{Layer}
use Rattle.obs_report.specs.Placements.{layer_line, listed_between}
use Rattle.obs_report.specs.inner.Placements.{AreCountsOf}
use Rattle.obs_report.proofs.Printing.{nothing_printed, then_printed}
use Rattle.obs_report.proofs.Slotted.{layer_more, layer_none}
use Rattle.obs_report.proofs.placements.print_layers.Goals as goal

-- what an index gives past the end
abbrev none : Layer
none = record { from = 0; to = 0; rank = 0; outside = 0; upto = 0 }

pub loop-k-init : goal.loop-k-init
loop-k-init g c = ([], nothing_printed _, record { whole = refl; counts = c.requires.counts })

pub print_layer-requires-clause-inside : goal.print_layer-requires-clause-inside
print_layer-requires-clause-inside g c = c.requires.inside

pub print_layer-requires-clause-rising : goal.print_layer-requires-clause-rising
print_layer-requires-clause-rising g c =
    let l = c.loop-k in
    (subst (AreCountsOf (length c.args.inside.now) l.upto) (drop-cons c.args.layers.now l.k none c.loop-k-test.true) l.invariant.2.counts).0

pub print_layer-requires-clause-within : goal.print_layer-requires-clause-within
print_layer-requires-clause-within g c =
    let l = c.loop-k in
    (subst (AreCountsOf (length c.args.inside.now) l.upto) (drop-cons c.args.layers.now l.k none c.loop-k-test.true) l.invariant.2.counts).1

pub loop-k-preserved : goal.loop-k-preserved
loop-k-preserved g c =
    let inv = c.loop-k.invariant in
    let t = c.args.case.now in
    let inside = c.args.inside.now in
    let layers = c.args.layers.now in
    let k = c.loop-k.k in
    let u = c.loop-k.upto in
    let l = get_or layers k none in (
      inv.0 ++ (layer_line l ++ listed_between t inside u l.upto),
      then_printed {two = layer_line l ++ listed_between t inside u l.upto} inv.1 c.print_layer.ensures.printed,
      layer_more t inside layers k u inv.0 l (drop-cons layers k none c.loop-k-test.true) inv.2,
    )

pub returns : goal.returns
returns g c =
    let inv = c.loop-k.invariant in
    let done = layer_none c.args.case.now c.args.inside.now c.args.layers.now c.loop-k.k c.loop-k.upto inv.0 c.loop-k-test.false inv.2 in
    record { printed = rw done at inv.1 }
