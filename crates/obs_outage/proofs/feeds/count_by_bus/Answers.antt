use Rattle.std.proofs.Common.{ℕ, suc, ◌<◌, length, sym, ◌∷◌, drop, ap, ◌∙◌, arith}
use Rattle.std.specs.Prelude.{slice_index}
use Rattle.std.proofs.Math.Seq.{drop-cons}
use Rattle.obs_case.specs.declared.rows.Node.{Node}
use Rattle.obs_switch.specs.Held.{Buses}
use Rattle.obs_network.specs.inner.Components.{source_nodes}
use Rattle.obs_outage.specs.inner.Feeds.{sources_at}
use Rattle.obs_outage.proofs.Feeding.{counted_other, counted_source, small_source}
use Rattle.obs_outage.proofs.feeds.count_by_bus.Goals as goal
use Rattle.obs_outage.proofs.feeds.count_by_bus.Goals.{then-nodes-u, else-nodes-u}

pub loop-u-preserved : goal.loop-u-preserved
loop-u-preserved c =
    let n = c.args.network.now in
    let nodes = c.args.nodes.now in
    let u = c.loop-u.u in
    let row = c.index-nodes-u.result in
    let counts = c.loop-u.counts in
    let place : ℕ → ℕ = λ w. slice_index n.buses.buses w in
    let total : ℕ → ℕ = sources_at place (source_nodes nodes) in
    let at = drop-cons nodes u row (omega arith) ∙ ap (λ (x : Node). x ∷ drop (suc u) nodes) (sym c.index-nodes-u.is) in
    let flag = ap (λ (x : Node). x.source) c.index-nodes-u.is in
    let room = c.requires.room in
    let many = c.loop-u.auto.counts in
    elim c.if-nodes-u.branch [
      | then-nodes-u w ↦
          let k = w.bus.result in
          let is = w.bus.ensures.bus ∙ ap (λ (x : Buses). slice_index x.buses u) w.buses.ensures.buses in
          let below = w.bus.ensures.below in
          let count = ap (λ (x : Buses). x.count) w.buses.ensures.buses in
          let low : k < length counts = omega (arith, below, count, room, many) in
          record {
            counted = rw w.counts-is (λ b l. counted_source place nodes u row at counts k total (flag ∙ w.if-nodes-u.true) is low (λ d j. c.loop-u.invariant.counted d (omega (arith, j, many))) b (omega (arith, l, many)));
            small = rw w.counts-is (λ b l. small_source counts k u low (λ d j. c.loop-u.invariant.small d (omega (arith, j, many))) b (omega (arith, l, many)));
          }
      | else-nodes-u w ↦ record {
        counted = rw w.counts-is (λ b l. counted_other place nodes u row at counts total (flag ∙ w.if-nodes-u.false) (λ d j. c.loop-u.invariant.counted d (omega (arith, j, many))) b (omega (arith, l, many)));
        small = rw w.counts-is (λ b l. let s = c.loop-u.invariant.small b l in omega (arith, s));
      }
    ]
