use Rattle.std.proofs.Common.{true, false, sym, arith}
use Rattle.obs_engine.proofs.Asked.{appends_as, appends_nothing, bound_claimed, claim_dead, tree_claimed}
use Rattle.obs_network.proofs.OfCase.{count_of}
use Rattle.obs_engine.proofs.OfNetwork.{energised_so}
use Rattle.obs_engine.proofs.print_claims.print_claim.Goals as goal

pub energised-requires : goal.energised-requires
energised-requires g c = record {
  component = let low = c.requires.component in let n = count_of c.network.result.now c.args.session.now.tables c.network.ensures.network in omega (arith, low, n);
}

pub returns-then-not-energised-clause-appends : goal.returns-then-not-energised-clause-appends
returns-then-not-energised-clause-appends g c =
    let t = c.args.session.now.tables in
    let dead = energised_so c.network.result.now t c.args.c c.energised.result false c.network.ensures.network c.energised.ensures.energised c.if-not-energised.true in
    appends_as (sym (claim_dead c.args.trees c.args.bounds t c.args.c dead)) (appends_nothing _ _ _ _)

pub returns-then-trees-clause-appends : goal.returns-then-trees-clause-appends
returns-then-trees-clause-appends g c =
    let t = c.args.session.now.tables in
    let energised = energised_so c.network.result.now t c.args.c c.energised.result true c.network.ensures.network c.energised.ensures.energised c.if-not-energised.false in
    appends_as (tree_claimed c.args.trees c.args.bounds t c.network.ensures.valid c.args.c c.requires.component energised (c.observable.ensures.observable.0 c.if-observable.true) true c.if-trees.true)
    c.print_component_tree.ensures.appends

pub returns-then-bounds-clause-appends : goal.returns-then-bounds-clause-appends
returns-then-bounds-clause-appends g c =
    let t = c.args.session.now.tables in
    let energised = energised_so c.network.result.now t c.args.c c.energised.result true c.network.ensures.network c.energised.ensures.energised c.if-not-energised.false in
    appends_as (bound_claimed c.args.trees c.args.bounds t c.network.ensures.valid c.args.c c.requires.component energised c.observable.result c.observable.ensures.observable.1 c.if-observable.false true c.if-bounds.true)
    c.print_component_bound.ensures.appends

pub returns-else-trees-clause-appends : goal.returns-else-trees-clause-appends
returns-else-trees-clause-appends g c =
    let t = c.args.session.now.tables in
    let energised = energised_so c.network.result.now t c.args.c c.energised.result true c.network.ensures.network c.energised.ensures.energised c.if-not-energised.false in
    appends_as (tree_claimed c.args.trees c.args.bounds t c.network.ensures.valid c.args.c c.requires.component energised (c.observable.ensures.observable.0 c.if-observable.true) false c.if-trees.false)
    (appends_nothing _ _ _ _)

pub returns-else-bounds-clause-appends : goal.returns-else-bounds-clause-appends
returns-else-bounds-clause-appends g c =
    let t = c.args.session.now.tables in
    let energised = energised_so c.network.result.now t c.args.c c.energised.result true c.network.ensures.network c.energised.ensures.energised c.if-not-energised.false in
    appends_as (bound_claimed c.args.trees c.args.bounds t c.network.ensures.valid c.args.c c.requires.component energised c.observable.result c.observable.ensures.observable.1 c.if-observable.false false c.if-bounds.false)
    (appends_nothing _ _ _ _)
