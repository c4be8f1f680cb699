use Rattle.std.proofs.Common.{◌≡◌, ◌∙◌, ℕ, List, ap, length, arith}
use Rattle.obs_switch.specs.Groups.{items_with}
use Rattle.obs_network.specs.Network.{Network}
use Rattle.obs_network.specs.inner.Located.{live_meters_of}
use Rattle.obs_network.proofs.Listed.{listed_meters, live_meters-below}
use Rattle.obs_network.proofs.network.Network.live_meters.Goals as goal

meters : (c : goal.After-list) → c.list.result.now ≡ live_meters_of c.args.self.now c.args.c
meters c =
    let s = c.self.inside in
    let count = ap (λ (n : Network). length n.components.first_buses) c.self.view_is in
    c.list.ensures.meters
    ∙ (ap (λ (lists : List ℕ). items_with lists c.args.c) c.self.invariant.lists
    ∙ (listed_meters s.components s.graph s.meters c.args.c (omega (arith, count, c.requires.component))
    ∙ ap (λ (n : Network). live_meters_of n c.args.c) c.self.view_is))

pub returns-clause-meters : goal.returns-clause-meters
returns-clause-meters c = meters c

pub returns-clause-below : goal.returns-clause-below
returns-clause-below c = rw (meters c) (live_meters-below c.args.self.now c.args.c)
