use Rattle.std.proofs.Common.{◌∙◌, arith}
use Rattle.obs_pairs.proofs.Naming.{Named-all, Named-first, Named-none, Named-put}
use Rattle.obs_pairs.proofs.name.name_all.Goals as goal

pub loop-k-init : goal.loop-k-init
loop-k-init c = Named-none c.args.g.now.vertices c.args.g.now.ends c.args.ms.now.touches c.requires.branches c.args.list.now c.requires.keyed

pub bounds-list-key : goal.bounds-list-key
bounds-list-key c =
    let e = c.count-k-end.ensures.count in
    let l = c.loop-k-test.true in
    let p = c.loop-k.invariant.places in
    let u = (c.loop-k.invariant.keyed c.loop-k.k (omega arith) (omega (arith, e, l))).0 in
    omega (arith, p, u)

pub loop-k-preserved : goal.loop-k-preserved
loop-k-preserved c =
    let e = c.count-k-end.ensures.count in
    let l = c.loop-k-test.true in
    let touches = c.args.ms.now.touches in
    let n = c.args.g.now.vertices in
    let ends = c.args.g.now.ends in
    let ok = c.requires.branches in
    Named-put n ends touches ok c.loop-k.list c.loop-k.k (omega (arith, e, l)) c.loop-k.invariant c.min-first.result
    (c.min-first.ensures ∙ Named-first n ends touches ok c.loop-k.list c.loop-k.k (omega (arith, e, l)) c.loop-k.invariant)

pub returns : goal.returns
returns c =
    let e = c.count-k-end.ensures.count in
    let f = c.loop-k-test.false in
    record { classes = Named-all c.args.g.now.vertices c.args.g.now.ends c.args.ms.now.touches c.requires.branches c.loop-k.list c.loop-k.k (omega (arith, e, f)) c.loop-k.invariant }
