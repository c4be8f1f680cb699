use Rattle.std.proofs.Common.{◌≡◌, ℕ, ◌+◌, ◌-◌, List, cond, drop, get_or, set, ap, ◌∙◌, subst, arith}
use Rattle.std.proofs.lemmas.List.{get_or-drop, length-drop, take_all}
use Rattle.obs_meter.specs.Lost.{is_listed}
use Rattle.obs_exchange.proofs.Placing.{AreWritten, Written-more, Written-none}
use Rattle.obs_exchange.proofs.ordered.write_place.Goals as goal

pub loop-k-init : goal.loop-k-init
loop-k-init c =
    let none : 0 ≡ c.args.first - c.args.first = omega arith in
    record {
      first = omega arith;
      written = subst (λ (n : ℕ). AreWritten (drop c.args.first c.args.reached.now) c.args.place c.args.places.now c.args.places.now n) none
          (Written-none (drop c.args.first c.args.reached.now) c.args.place c.args.places.now);
    }

pub loop-k-preserved : goal.loop-k-preserved
loop-k-preserved c =
    let l = c.loop-k in
    let list = c.args.reached.now in
    let first = c.args.first in
    let f = l.invariant.first in
    let t = c.loop-k-test.true in
    let len = length-drop first list in
    let there : first + (l.k - first) ≡ l.k = omega (arith, f) in
    let next : l.k - first + 1 ≡ l.k + 1 - first = omega (arith, f) in
    record {
      first = omega (arith, f);
      written = subst (λ (n : ℕ). AreWritten (drop first list) c.args.place c.args.places.now (set l.places (get_or list l.k 0) c.args.place) n) next
          (Written-more (drop first list) c.args.place c.args.places.now l.places (l.k - first) (get_or list l.k 0) l.invariant.written (omega (arith, len, t, f))
          (get_or-drop first list (l.k - first) 0 ∙ ap (λ (j : ℕ). get_or list j 0) there) (c.requires.low l.k (omega (arith, t))));
    }

pub returns-clause-written : goal.returns-clause-written
returns-clause-written c = λ m.
    let l = c.loop-k in
    let list = c.args.reached.now in
    let first = c.args.first in
    let f = l.invariant.first in
    let e = c.loop-k-test.false in
    let len = length-drop first list in
    l.invariant.written.written m
    ∙ ap (λ (xs : List ℕ). cond (is_listed xs m) c.args.place (get_or c.args.places.now m 0)) (take_all (l.k - first) (drop first list) (omega (arith, len, e, f)))
