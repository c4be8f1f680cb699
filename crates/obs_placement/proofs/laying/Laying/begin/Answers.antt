use Rattle.std.proofs.Common.{◌≡◌, ◌++◌, ◌∙◌, length, take, drop, ap, arith}
use Rattle.obs_graph.proofs.Stored.{written_back}
use Rattle.obs_placement.specs.inner.Choosing.{Laying}
use Rattle.obs_placement.proofs.laying.Laying.begin.Goals as goal

pub put_known_in_order-requires-clause-room : goal.put_known_in_order-requires-clause-room
put_known_in_order-requires-clause-room c =
    let room = c.requires.room in
    let before = ap (λ (l : Laying). l.room) c.self.view_is in
    let keys = c.self.invariant.keys in
    let value = ap length c.deref_mut.ensures.value in
    omega (arith, room, before, keys, value)

pub invariant_of-self : goal.invariant_of-self
invariant_of-self c =
    let new = c.put_known_in_order.new.keys in
    let v = c.self.inside.keys in
    let same : length new ≡ length v.items = c.put_known_in_order.auto.keys ∙ ap length c.deref_mut.ensures.value in
    let back : take v.len (new ++ drop (length new) v.items) ≡ new = written_back v.len new v.items same v.ok.0 in
    let room = c.requires.room in
    let before = ap (λ (l : Laying). l.room) c.self.view_is in
    rw back (record { count = omega arith; upto = omega arith; items = omega (arith, room, before); layers = c.self.invariant.layers; keys = same ∙ c.self.invariant.keys })

pub returns-clause-order : goal.returns-clause-order
returns-clause-order c =
    let new = c.put_known_in_order.new.keys in
    let v = c.self.inside.keys in
    let same : length new ≡ length v.items = c.put_known_in_order.auto.keys ∙ ap length c.deref_mut.ensures.value in
    let back : take v.len (new ++ drop (length new) v.items) ≡ new = written_back v.len new v.items same v.ok.0 in
    rw back c.put_known_in_order.ensures.order
