use Rattle.std.proofs.Common.{◌∙◌, arith}
use Rattle.obs_matroid.proofs.Lists.{clash}
use Rattle.obs_exchange.proofs.Placing.{Placing-all, Placing-none}
use Rattle.obs_exchange.proofs.Trails.{IsAsLarge-run, IsAsLarge-then}
use Rattle.obs_exchange.proofs.ordered.spread_in_order.Goals as goal

pub loop-k-init : goal.loop-k-init
loop-k-init c =
    let s = c.start_anew in
    let e = s.ensures in
    let b = c.begin_places in
    record {
      placing = Placing-none c.args.over.now c.args.order.now s.new.search b.new.places e.resting (λ m t. clash t (e.unmarked m)) (b.ensures.same_length ∙ c.requires.places) b.ensures.behind;
      as_large = e.as_large;
    }

pub loop-k-preserved : goal.loop-k-preserved
loop-k-preserved c =
    let l = c.loop-k in
    let s = c.spread_at in
    record {
      placing = s.ensures.placing;
      as_large = IsAsLarge-then c.args.search.now l.search s.new.search l.invariant.as_large (IsAsLarge-run c.args.over.now l.search s.new.search l.invariant.placing.resting.running s.ensures.runs_on);
    }

pub returns-clause-reached : goal.returns-clause-reached
returns-clause-reached c =
    let l = c.loop-k in
    let f = c.loop-k-test.false in
    let e = l.auto.k-end in
    Placing-all c.args.over.now c.args.order.now l.search l.places l.k l.invariant.placing (omega (arith, f, e))
