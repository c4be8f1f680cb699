use Rattle.std.proofs.Common.{get_or, set, subst, add-one, sym, ℕ}
use Rattle.obs_cert.proofs.JoinLemmas.{IsClearing, cleared, clearing_next, clearing_none, clearing_within}
use Rattle.obs_cert.proofs.joins.clear.Goals as goal

pub loop-v-init : goal.loop-v-init
loop-v-init c = clearing_none c.requires.joined.0 c.args.ups.now c.args.moved.now c.requires.joined.1

pub bounds-ups-v : goal.bounds-ups-v
bounds-ups-v c = clearing_within c.args.moved.now c.loop-v.v-index c.loop-v.ups c.loop-v.invariant c.loop-v-test.true

pub loop-v-preserved : goal.loop-v-preserved
loop-v-preserved c =
    let l = c.loop-v in
    let v = get_or c.args.moved.now l.v-index 0 in
    subst (λ (i : ℕ). IsClearing c.args.moved.now i (set l.ups v v)) (sym (add-one l.v-index)) (clearing_next c.args.moved.now l.v-index l.ups l.invariant c.loop-v-test.true)

pub returns : goal.returns
returns c = record { clear = cleared c.args.moved.now c.loop-v.v-index c.loop-v.ups c.loop-v-test.false c.loop-v.invariant }
