use Rattle.std.proofs.Common.{◌∙◌, length, sym, arith}
use Rattle.std.specs.List.{range_with_len}
use Rattle.std.proofs.lemmas.List.FromFn.{length-range_with_len}
use Rattle.std.proofs.lemmas.List.Sums.{length-filter}
use Rattle.obs_meter.specs.Touches.{is_live}
use Rattle.obs_report.proofs.Counted.{counted_all}
use Rattle.obs_report.proofs.counts.count_live.Goals as goal

pub returns : goal.returns
returns c =
    let p = is_live c.args.graph.now.ends c.args.meters.now.touches in
    let items = range_with_len 0 (length c.args.meters.now.touches) in
    let size = length-range_with_len 0 (length c.args.meters.now.touches) in
    record { live = c.loop-m.invariant.counted ∙ (counted_all p items c.loop-m.m (omega arith) ∙ sym (length-filter p items)) }
