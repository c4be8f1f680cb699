use Rattle.std.proofs.Common.{◌<◌, List, ap, length, subst, sym, ◌∙◌}
use Rattle.std.specs.Prelude.{slice_index_or}
use Rattle.obs_case.specs.declared.rows.Meter.{Meter}
use Rattle.obs_switch.specs.Held.{Buses}
use Rattle.obs_network.specs.Network.{Network}
use Rattle.obs_engine.proofs.Summed.{injection_node}
use Rattle.obs_engine.proofs.summary.injection_bus.Goals as goal

pub bus-requires : goal.bus-requires
bus-requires c =
    let t = c.args.case.now in
    let m = c.args.m in
    let d = c.index-meters-m.result in
    let buses = ap (λ (b : Buses). length b.buses) (c.buses.ensures.buses ∙ ap (λ (n : Network). n.buses) c.requires.network) in
    let node = injection_node t c.meters.ensures.valid m d c.requires.meter c.requires.injection in
    record {
      node =
          subst (λ (rows : List Meter). (slice_index_or rows m d).at < length c.buses.result.now.buses) (sym c.meters.ensures.rows)
          (subst (λ n. (slice_index_or t.meters m d).at < n) (sym buses) node);
    }
