use Rattle.std.proofs.Common.{◌≡◌, ◌∙◌, ◌<◌, None, length, ap, sym, subst}
use Rattle.obs_assign.specs.Assignment.{Assignment}
use Rattle.obs_assign.specs.inner.Assignment.{StandsOver, branch_at}
use Rattle.obs_exchange.specs.declared.Sources.TheVariants.{One}
use Rattle.obs_exchange.specs.inner.Found.{HasClosed, HasGrown}
use Rattle.obs_placement.specs.inner.Holding.{StandsBeside, Taking}
use Rattle.obs_placement.specs.inner.Offer.{HasRoomForOffer}
use Rattle.obs_placement.specs.inner.Taking.{AreKept}
use Rattle.obs_placement.proofs.Flagged.{listed_low}
use Rattle.obs_placement.proofs.Takes.{takes_closed, takes_grown, takes_source}
use Rattle.obs_placement.proofs.taking.Taking.search_item.Goals as goal

pub search-requires-clause-begins : goal.search-requires-clause-begins
search-requires-clause-begins g c =
    subst (λ (t : Taking). (c.args.c < length t.pairs.slots) × (branch_at t.pairs c.args.c ≡ None)) (sym c.self.view_is)
    (takes_source c.args.offer.now c.requires.offer.branches c.args.c c.args.price c.args.self.now c.requires.item)

pub returns-in-Grown-clause-taken : goal.returns-in-Grown-clause-taken
returns-in-Grown-clause-taken g c =
    let o = c.args.offer.now in
    takes_grown o c.requires.offer.branches c.args.c c.args.price c.args.self.now c.requires.item
    (record { known = c.self.inside.known; pairs = c.search.new.a; sizes = c.search.new.work.sizes }) (ap (λ (t : Taking). t.known) c.self.view_is) c.in-Grown.field-0 c.search.ensures.whole c.search.ensures.stands
    (subst (λ (t : Taking). HasGrown o.graph.now.ends o.items.now.touches (One c.args.c) t.pairs c.search.new.a c.in-Grown.field-0) c.self.view_is c.in-Grown.ensures.found)

pub keep-requires-clause-low : goal.keep-requires-clause-low
keep-requires-clause-low g c =
    rw c.listed.ensures.listed (listed_low c.search.new.work.reached c.search.new.work.listed (length c.args.offer.now.items.now.touches) c.in-Closed.ensures.found.flags (c.search.ensures.listed c.in-Closed.is))

pub returns-in-Closed-clause-taken : goal.returns-in-Closed-clause-taken
returns-in-Closed-clause-taken g c =
    let o = c.args.offer.now in
    let w = c.search.new.work in
    takes_closed o c.requires.offer.branches c.args.c c.args.price c.args.self.now c.requires.item c.search.new.a w.reached w.listed
    (subst (λ (t : Taking). HasClosed o.graph.now.ends o.items.now.touches (One c.args.c) t.pairs c.search.new.a w.reached) c.self.view_is c.in-Closed.ensures.found)
    (c.search.ensures.listed c.in-Closed.is) (record { known = c.keep.new.known; pairs = c.keep.new.pairs; sizes = w.sizes })
    (subst (λ (t : Taking). AreKept w.listed c.args.price t.known.since c.keep.new.known.since) c.self.view_is (rw c.listed.ensures.listed at c.keep.ensures.marked))
    c.keep.ensures.slots c.keep.ensures.beside

pub search-requires-clause-stands : goal.search-requires-clause-stands
search-requires-clause-stands g c = subst (λ (t : Taking). StandsOver t.pairs c.args.offer.now.graph.now c.args.offer.now.items.now.touches) (sym c.self.view_is) c.requires.item.before.beside.standing.stands

pub search-requires-clause-in_range : goal.search-requires-clause-in_range
search-requires-clause-in_range g c = c.requires.offer.in_range

pub search-requires-clause-room : goal.search-requires-clause-room
search-requires-clause-room g c = subst (λ (t : Taking). HasRoomForOffer t.sizes c.args.offer.now) (sym c.self.view_is) c.requires.room

pub keep-requires-clause-offer : goal.keep-requires-clause-offer
keep-requires-clause-offer g c = c.requires.offer

pub keep-requires-clause-price : goal.keep-requires-clause-price
keep-requires-clause-price g c = c.requires.item.cheap

pub keep-requires-clause-beside : goal.keep-requires-clause-beside
keep-requires-clause-beside g c =
    let before = subst (λ (t : Taking). StandsBeside c.args.offer.now t.pairs t.known) (sym c.self.view_is) c.requires.item.before.beside in
    subst (λ (a : Assignment). StandsBeside c.args.offer.now a c.self.inside.known) (sym c.in-Closed.ensures.found.same) before

pub returns-in-Grown-clause-same_sizes : goal.returns-in-Grown-clause-same_sizes
returns-in-Grown-clause-same_sizes g c = c.search.ensures.same_sizes ∙ ap (λ (t : Taking). t.sizes) c.self.view_is

pub returns-in-Closed-clause-same_sizes : goal.returns-in-Closed-clause-same_sizes
returns-in-Closed-clause-same_sizes g c = c.search.ensures.same_sizes ∙ ap (λ (t : Taking). t.sizes) c.self.view_is
