use Rattle.std.proofs.Common.{List, false, refl, ap, ◌∙◌, arith}
use Rattle.obs_meter.specs.declared.Touch.{Touch}
use Rattle.obs_meter.proofs.Lost.{losing-none}
use Rattle.obs_pairs.proofs.Losing.{Left-all}
use Rattle.obs_pairs.proofs.lost.restore.Goals as goal

pub returns : goal.returns
returns c =
    let e = c.count-m-end.ensures.count in
    let f = c.loop-m-test.false in
    let touches = c.args.ms.now.touches in
    record {
      left = Left-all (λ k. false) touches c.args.left.now c.loop-m.left c.loop-m.m (omega (arith, e, f)) c.loop-m.invariant
          ∙ ap (λ (t : List Touch). record c.args.left.now { touches = t }) (losing-none (λ k. false) touches (λ m l. refl));
    }
