use Rattle.std.proofs.Common.{sym, ap, subst}
use Rattle.obs_placement.specs.inner.Holding.{AreFlagged, IsTouchedByKnown, Taking}
use Rattle.obs_placement.proofs.Takes.{takes_joined}
use Rattle.obs_placement.proofs.taking.Taking.take.Goals as goal

pub returns-then-touches_known-clause-taken : goal.returns-then-touches_known-clause-taken
returns-then-touches_known-clause-taken g c =
    let o = c.args.offer.now in
    takes_joined o c.requires.offer.branches c.args.c c.args.price c.args.self.now c.requires.item
    (λ e i. subst (λ (t : Taking). IsTouchedByKnown o.graph.now.ends o.items.now.touches t.known.since e) c.self.view_is (c.touches_known.ensures.known c.if-touches_known.true e i))
    (record { known = c.set.new.self; pairs = c.self.inside.pairs; sizes = c.self.inside.work.sizes })
    c.self.inside.known (ap (λ (t : Taking). t.pairs) c.self.view_is) (ap (λ (t : Taking). t.known) c.self.view_is) c.set.ensures.set

pub touches_known-requires-clause-offer : goal.touches_known-requires-clause-offer
touches_known-requires-clause-offer g c = c.requires.offer

pub touches_known-requires-clause-m : goal.touches_known-requires-clause-m
touches_known-requires-clause-m g c = c.requires.item.low

pub touches_known-requires-clause-flags : goal.touches_known-requires-clause-flags
touches_known-requires-clause-flags g c = subst (λ (t : Taking). AreFlagged c.args.offer.now t.known) (sym c.self.view_is) c.requires.item.before.beside.flags
