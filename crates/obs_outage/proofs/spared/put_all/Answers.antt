use Rattle.std.proofs.Common.{[], List, ℕ, subst, arith}
use Rattle.std.proofs.lemmas.List.{take_all}
use Rattle.obs_outage.specs.inner.Sparing.{ArePut, HasPut}
use Rattle.obs_outage.proofs.Putting.{ArePut-next, ArePut-none}
use Rattle.obs_outage.proofs.PutWhole.{HasPut-next, HasPut-none}
use Rattle.obs_outage.proofs.spared.put_all.Goals as goal

pub loop-e-init : goal.loop-e-init
loop-e-init c = (ArePut-none c.args.g.now.ends c.args.part.now [], HasPut-none c.args.g.now.ends c.args.part.now)

pub loop-e-preserved : goal.loop-e-preserved
loop-e-preserved c =
    let l = c.loop-e in
    let low = c.requires.low l.e-index 0 c.loop-e-test.true in (
      ArePut-next c.args.g.now.ends c.args.part.now l.part c.args.positions.now l.e-index c.ends.result c.loop-e-test.true c.ends.ensures.ends low (omega (arith, low)) l.invariant.0,
      HasPut-next c.args.g.now.ends c.args.part.now l.part c.args.positions.now l.e-index c.ends.result c.loop-e-test.true c.ends.ensures.ends low (omega (arith, low)) l.invariant.1,
    )

pub returns : goal.returns
returns c = record {
  put = subst (λ (L : List ℕ). ArePut c.args.g.now.ends c.args.part.now L c.loop-e.part) (take_all c.loop-e.e-index c.args.positions.now (omega arith)) c.loop-e.invariant.0;
  whole = subst (λ (L : List ℕ). HasPut c.args.g.now.ends c.args.part.now L c.loop-e.part) (take_all c.loop-e.e-index c.args.positions.now (omega arith)) c.loop-e.invariant.1;
}
