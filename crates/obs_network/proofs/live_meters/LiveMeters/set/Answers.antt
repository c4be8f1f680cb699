use Rattle.std.proofs.Common.{length, set, take, ap, ◌∙◌, arith}
use Rattle.obs_graph.proofs.Stored.{written_back}
use Rattle.obs_network.specs.inner.Kept.{Listed}
use Rattle.obs_network.proofs.live_meters.LiveMeters.set.Goals as goal

pub change_list-requires-clause-list : goal.change_list-requires-clause-list
change_list-requires-clause-list c = omega (arith, c.list_of-list.ensures.below, c.requires.components, ap (λ (l : Listed). l.components) c.self.view_is)

pub change_list-requires-clause-below : goal.change_list-requires-clause-below
change_list-requires-clause-below c = rw c.deref_mut.ensures.value c.self.invariant.below

pub change_list-requires-clause-groups : goal.change_list-requires-clause-groups
change_list-requires-clause-groups c =
    rw (c.deref_mut.ensures.value, c.deref_mut-2.ensures.value, c.deref_mut-3.ensures.value) c.self.invariant.groups

pub invariant_of-self : goal.invariant_of-self
invariant_of-self c =
    let k = c.change_list in
    let s = c.self.inside in
    let v = c.self.invariant in
    let a1 = k.auto.lists in
    let a2 = k.auto.members in
    let a3 = k.auto.starts in
    let small = v.small in
    let fits = v.fits in
    let members_len = v.members_len in
    let starts_len = v.starts_len in
    rw (
      written_back s.lists.len k.new.lists s.lists.items (c.change_list.auto.lists ∙ ap length c.deref_mut.ensures.value) s.lists.ok.0,
      written_back s.members.len k.new.members s.members.items (c.change_list.auto.members ∙ ap length c.deref_mut-2.ensures.value) s.members.ok.0,
      written_back s.starts.len k.new.starts s.starts.items (c.change_list.auto.starts ∙ ap length c.deref_mut-3.ensures.value) s.starts.ok.0,
    )
    record {
      small = omega arith;
      fits = omega arith;
      few = v.few;
      members_len = omega arith;
      starts_len = omega arith;
      below = k.ensures.below;
      groups = k.ensures.groups;
    }

pub returns-clause-lists : goal.returns-clause-lists
returns-clause-lists c =
    let k = c.change_list in
    let s = c.self.inside in
    let a1 = k.auto.lists in
    let was = ap (take s.meters) c.deref_mut.ensures.value ∙ ap (λ (l : Listed). l.lists) c.self.view_is in
    rw (written_back s.lists.len k.new.lists s.lists.items (c.change_list.auto.lists ∙ ap length c.deref_mut.ensures.value) s.lists.ok.0)
    (k.ensures.lists ∙ (ap (λ xs. set xs c.args.m c.list_of-list.result) was ∙ ap (λ x. set c.args.self.now.lists c.args.m x) c.list_of-list.ensures.list))

pub returns-clause-components : goal.returns-clause-components
returns-clause-components c = ap (λ (l : Listed). l.components) c.self.view_is

pub returns-clause-most_meters : goal.returns-clause-most_meters
returns-clause-most_meters c =
    let k = c.change_list in
    let s = c.self.inside in
    let a1 = k.auto.lists in
    let most = ap (λ (l : Listed). l.most_meters) c.self.view_is in
    rw (written_back s.lists.len k.new.lists s.lists.items (c.change_list.auto.lists ∙ ap length c.deref_mut.ensures.value) s.lists.ok.0) (omega (arith, a1, most))

pub returns-clause-most_components : goal.returns-clause-most_components
returns-clause-most_components c = ap (λ (l : Listed). l.most_components) c.self.view_is
