use Rattle.std.proofs.Common.{◌∙◌, length, ap, arith}
use Rattle.obs_graph.proofs.Stored.{written_back}
use Rattle.obs_network.specs.inner.Kept.{Listed}
use Rattle.obs_network.proofs.live_meters.LiveMeters.refill.Goals as goal

pub write_members-requires-clause-meters : goal.write_members-requires-clause-meters
write_members-requires-clause-meters c =
    omega (arith, c.requires.meters, ap (λ (l : Listed). l.most_meters) c.self.view_is, ap length c.deref_mut.ensures.value)

pub write_members-requires-clause-components : goal.write_members-requires-clause-components
write_members-requires-clause-components c =
    omega (arith, c.requires.components, c.self.invariant.starts_len, ap (λ (l : Listed). l.most_components) c.self.view_is, ap length c.deref_mut-3.ensures.value)

pub invariant_of-self : goal.invariant_of-self
invariant_of-self c =
    let k = c.write_members in
    let s = c.self.inside in
    let v = c.self.invariant in
    let a1 = k.auto.lists in
    let a2 = k.auto.members in
    let a3 = k.auto.starts in
    let small = v.small in
    let members_len = v.members_len in
    let starts_len = v.starts_len in
    let most_meters = ap (λ (l : Listed). l.most_meters) c.self.view_is in
    let most_components = ap (λ (l : Listed). l.most_components) c.self.view_is in
    let meters = c.requires.meters in
    let components = c.requires.components in
    rw (
      written_back s.lists.len k.new.lists s.lists.items (c.write_members.auto.lists ∙ ap length c.deref_mut.ensures.value) s.lists.ok.0,
      written_back s.members.len k.new.members s.members.items (c.write_members.auto.members ∙ ap length c.deref_mut-2.ensures.value) s.members.ok.0,
      written_back s.starts.len k.new.starts s.starts.items (c.write_members.auto.starts ∙ ap length c.deref_mut-3.ensures.value) s.starts.ok.0,
      c.count.ensures.count,
      c.count-self-inside.ensures.count,
    )
    record {
      small = omega arith;
      fits = omega arith;
      few = omega arith;
      members_len = omega arith;
      starts_len = omega arith;
      below = k.ensures.below;
      groups = k.ensures.groups;
    }

pub returns-clause-lists : goal.returns-clause-lists
returns-clause-lists c =
    let k = c.write_members in
    let s = c.self.inside in
    let a1 = k.auto.lists in
    rw (written_back s.lists.len k.new.lists s.lists.items (c.write_members.auto.lists ∙ ap length c.deref_mut.ensures.value) s.lists.ok.0, c.count.ensures.count) k.ensures.lists

pub returns-clause-components : goal.returns-clause-components
returns-clause-components c = c.count-self-inside.ensures.count

pub returns-clause-most_meters : goal.returns-clause-most_meters
returns-clause-most_meters c =
    let k = c.write_members in
    let s = c.self.inside in
    let a1 = k.auto.lists in
    let most = ap (λ (l : Listed). l.most_meters) c.self.view_is in
    rw (written_back s.lists.len k.new.lists s.lists.items (c.write_members.auto.lists ∙ ap length c.deref_mut.ensures.value) s.lists.ok.0) (omega (arith, a1, most))

pub returns-clause-most_components : goal.returns-clause-most_components
returns-clause-most_components c = ap (λ (l : Listed). l.most_components) c.self.view_is
