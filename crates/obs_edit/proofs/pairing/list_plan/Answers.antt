use Rattle.std.proofs.Common.{◌+◌, ◌∙◌, get_or, length, set, ap, sym, take, arith}
use Rattle.std.proofs.lemmas.List.{length-set}
use Rattle.obs_meter.specs.Held.{Meters}
use Rattle.obs_edit.specs.Planned.{listed_touches, planned_items}
use Rattle.obs_edit.proofs.Planned.{plan-begun, plan-more}
use Rattle.obs_edit.proofs.pairing.list_plan.Goals as goal

pub loop-k-init : goal.loop-k-init
loop-k-init c =
    let l = c.loop-m in
    let end = c.loop-m-test.false in
    let count = c.count-m-end.ensures.count in
    record {
      planned = plan-begun c.args.offered.now.touches l.items.touches c.args.meters c.args.chosen.now l.invariant.one_each
          (λ m low. l.invariant.listed m (omega (arith, low, end, count, l.auto.m-end)));
      one_each = l.invariant.one_each;
      most = l.invariant.most;
    }

pub loop-k-preserved : goal.loop-k-preserved
loop-k-preserved c =
    let l = c.loop-k in
    let m = c.args.meters + get_or c.args.chosen.now l.k-index 0 in
    let is = ap (λ (i : Meters). i.touches) c.set-in-loop-k.ensures.set in
    record {
      planned = is
          ∙ (ap (λ xs. set xs m c.kind.result) l.invariant.planned
          ∙ (ap (set (listed_touches c.args.offered.now.touches (planned_items c.args.meters (take l.k-index c.args.chosen.now))) m) c.kind.ensures.kind
          ∙ sym (plan-more c.args.offered.now.touches c.args.meters c.args.chosen.now l.k-index c.loop-k-test.true)));
      one_each = ap length is ∙ (length-set l.items.touches m c.kind.result ∙ l.invariant.one_each);
      most = ap (λ (i : Meters). i.most) c.set-in-loop-k.ensures.set ∙ l.invariant.most;
    }
