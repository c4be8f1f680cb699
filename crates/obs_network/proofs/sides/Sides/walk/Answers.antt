use Rattle.std.proofs.Common.{length, sym, ap, ◌∙◌, arith}
use Rattle.obs_graph.proofs.Stored.{written_back}
use Rattle.obs_network.specs.inner.Sides.{Sides}
use Rattle.obs_network.proofs.sides.Sides.walk.Goals as goal

pub part-requires-clause-places : goal.part-requires-clause-places
part-requires-clause-places c =
    ap length c.deref_mut-2.ensures.value ∙ (c.self.invariant.found_len ∙ sym (ap length c.deref_mut.ensures.value))

pub part-requires-clause-places_there : goal.part-requires-clause-places_there
part-requires-clause-places_there c =
    ap length c.deref_mut-3.ensures.value ∙ (c.self.invariant.other_len ∙ sym (ap length c.deref_mut.ensures.value))

pub part-requires-clause-clear : goal.part-requires-clause-clear
part-requires-clause-clear c = rw c.deref_mut.ensures.value c.self.invariant.clear

pub invariant_of-self : goal.invariant_of-self
invariant_of-self c =
    let k = c.part in
    let s = c.self.inside in
    let a1 = k.auto.labels in
    let a2 = k.auto.found in
    let a3 = k.auto.queue in
    let found_len = c.self.invariant.found_len in
    let other_len = c.self.invariant.other_len in
    rw (
      written_back s.labels.len k.new.labels s.labels.items (omega arith) (omega arith),
      written_back s.queue.len k.new.found s.queue.items (omega arith) (omega arith),
      written_back s.queue_there.len k.new.queue s.queue_there.items (omega arith) (omega arith),
    )
    record { clear = k.ensures.clear; found_len = omega arith; other_len = omega arith; few = c.in-Some.ensures.parted.0 }

pub invariant_of-self-in-None : goal.invariant_of-self-in-None
invariant_of-self-in-None c =
    let k = c.part in
    let s = c.self.inside in
    let a1 = k.auto.labels in
    let a2 = k.auto.found in
    let a3 = k.auto.queue in
    let found_len = c.self.invariant.found_len in
    let other_len = c.self.invariant.other_len in
    let few = c.self.invariant.few in
    rw (
      written_back s.labels.len k.new.labels s.labels.items (omega arith) (omega arith),
      written_back s.queue.len k.new.found s.queue.items (omega arith) (omega arith),
      written_back s.queue_there.len k.new.queue s.queue_there.items (omega arith) (omega arith),
    )
    record { clear = k.ensures.clear; found_len = omega arith; other_len = omega arith; few = omega arith }

pub returns-in-Some-clause-parted : goal.returns-in-Some-clause-parted
returns-in-Some-clause-parted c =
    let k = c.part in
    let s = c.self.inside in
    let a2 = k.auto.found in
    rw (written_back s.queue.len k.new.found s.queue.items (omega arith) (omega arith)) (λ same. c.in-Some.ensures.parted.1)

pub returns-in-Some-clause-room : goal.returns-in-Some-clause-room
returns-in-Some-clause-room c =
    let k = c.part in
    let s = c.self.inside in
    let a1 = k.auto.labels in
    let most = ap (λ (x : Sides). x.most_vertices) c.self.view_is in
    rw (written_back s.labels.len k.new.labels s.labels.items (omega arith) (omega arith)) (omega (arith, a1, most))

pub returns-in-None-clause-joined : goal.returns-in-None-clause-joined
returns-in-None-clause-joined c = λ joined. c.in-None.ensures.parted

pub returns-in-None-clause-room : goal.returns-in-None-clause-room
returns-in-None-clause-room c =
    let k = c.part in
    let s = c.self.inside in
    let a1 = k.auto.labels in
    let most = ap (λ (x : Sides). x.most_vertices) c.self.view_is in
    rw (written_back s.labels.len k.new.labels s.labels.items (omega arith) (omega arith)) (omega (arith, a1, most))
