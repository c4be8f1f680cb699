use Rattle.std.proofs.Common.{◌≡◌, length, sym, ap, ◌∙◌, arith}
use Rattle.obs_meter.specs.Held.{Meters}
use Rattle.obs_network.specs.Network.{Network, case_offered}
use Rattle.obs_cert.specs.Scopes.{is_live_item}
use Rattle.obs_cert.proofs.CountingLemmas.{counted, counting_more, counting_none, counting_same}
use Rattle.obs_cert.proofs.layers.count_live.Goals as goal
use Rattle.obs_cert.proofs.layers.count_live.Goals.{then-is_live, else-is_live}

pub loop-m-init : goal.loop-m-init
loop-m-init c = counting_none (is_live_item c.args.present.now)

pub loop-m-preserved : goal.loop-m-preserved
loop-m-preserved c =
    let p = is_live_item c.args.present.now in
    elim c.if-is_live.branch [
      | then-is_live w ↦ rw w.count-is (counting_more p c.loop-m.m c.loop-m.count (sym c.is_live.ensures.live ∙ w.if-is_live.true) c.loop-m.invariant)
      | else-is_live w ↦ rw w.count-is (counting_same p c.loop-m.m c.loop-m.count (sym c.is_live.ensures.live ∙ w.if-is_live.false) c.loop-m.invariant)
    ]

pub returns : goal.returns
returns c =
    let t = c.args.present.now in
    let e : length c.offered.result.now.touches ≡ length (case_offered t) = ap (λ (i : Meters). length i.touches) (c.offered.ensures.offered ∙ ap (λ (n : Network). n.offered) c.network-network.ensures.network) in
    record { count = counted (is_live_item t) c.loop-m.m (length (case_offered t)) c.loop-m.count (omega (arith, e, c.count-m-end.ensures.count, c.loop-m-test.false, c.loop-m.auto.m-end)) c.loop-m.invariant }
