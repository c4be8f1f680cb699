use Rattle.std.proofs.Common.{◌≡◌, ℕ, suc, List, length, take, sym, ap, ◌∙◌, arith}
use Rattle.obs_graph.proofs.Stored.{written_back}
use Rattle.obs_switch.specs.Held.{Buses}
use Rattle.obs_switch.proofs.Rebuilt.{AreHeld-written}
use Rattle.obs_switch.proofs.buses.Buses.relabel.Goals as goal

pub rebuild-self-inside-requires-clause-nodes : goal.rebuild-self-inside-requires-clause-nodes
rebuild-self-inside-requires-clause-nodes c =
    let most : c.self.inside.numbers.len ≡ c.args.self.now.most_nodes = ap (λ (b : Buses). b.most_nodes) c.self.view_is in
    let room = c.requires.room in
    let len = c.self.inside.numbers.ok.0 in
    let same = ap length c.deref_mut-2.ensures.value in
    omega (arith, room, most, len, same)

pub rebuild-self-inside-requires-clause-few : goal.rebuild-self-inside-requires-clause-few
rebuild-self-inside-requires-clause-few c = let same = ap length c.deref_mut-2.ensures.value in let small = c.self.invariant.small in omega (arith, same, small)

pub rebuild-self-inside-requires-clause-firsts : goal.rebuild-self-inside-requires-clause-firsts
rebuild-self-inside-requires-clause-firsts c = ap length c.deref_mut.ensures.value ∙ (c.self.invariant.firsts_size ∙ sym (ap length c.deref_mut-2.ensures.value))

pub rebuild-self-inside-requires-clause-members : goal.rebuild-self-inside-requires-clause-members
rebuild-self-inside-requires-clause-members c = ap length c.deref_mut-3.ensures.value ∙ (c.self.invariant.members_size ∙ sym (ap length c.deref_mut-2.ensures.value))

pub rebuild-self-inside-requires-clause-starts : goal.rebuild-self-inside-requires-clause-starts
rebuild-self-inside-requires-clause-starts c =
    let numbers = ap length c.deref_mut-2.ensures.value in
    let starts = ap length c.deref_mut-4.ensures.value in
    let more = c.self.invariant.starts_size in
    omega (arith, numbers, starts, more)

pub rebuild-self-inside-requires-clause-ends : goal.rebuild-self-inside-requires-clause-ends
rebuild-self-inside-requires-clause-ends c = c.requires.ends

pub invariant_of-self : goal.invariant_of-self
invariant_of-self c =
    let most : c.self.inside.numbers.len ≡ c.args.self.now.most_nodes = ap (λ (b : Buses). b.most_nodes) c.self.view_is in
    let inside = c.self.inside in
    let held = c.self.invariant in
    let new = c.rebuild-self-inside.new in
    let firsts : length new.firsts ≡ length inside.firsts.items = c.rebuild-self-inside.auto.firsts ∙ ap length c.deref_mut.ensures.value in
    let numbers : length new.numbers ≡ length inside.numbers.items = c.rebuild-self-inside.auto.numbers ∙ ap length c.deref_mut-2.ensures.value in
    let members : length new.members ≡ length inside.members.items = c.rebuild-self-inside.auto.members ∙ ap length c.deref_mut-3.ensures.value in
    let starts : length new.starts ≡ length inside.starts.items = c.rebuild-self-inside.auto.starts ∙ ap length c.deref_mut-4.ensures.value in
    let room = c.requires.room in
    let len = inside.numbers.ok.0 in
    let small = held.small in
    AreHeld-written c.args.nodes c.rebuild-self-inside.result new.firsts new.numbers new.members new.starts
    _ _ _ _
    (written_back inside.firsts.len new.firsts inside.firsts.items firsts inside.firsts.ok.0) (written_back inside.numbers.len new.numbers inside.numbers.items numbers inside.numbers.ok.0)
    (written_back inside.members.len new.members inside.members.items members inside.members.ok.0) (written_back inside.starts.len new.starts inside.starts.items starts inside.starts.ok.0)
    (record {
      fits = omega (arith, room, most, len, numbers);
      small = omega (arith, small, numbers);
      firsts_size = firsts ∙ (held.firsts_size ∙ sym numbers);
      members_size = members ∙ (held.members_size ∙ sym numbers);
      starts_size = starts ∙ (held.starts_size ∙ ap suc (sym numbers));
      few = c.rebuild-self-inside.ensures.few;
      below = c.rebuild-self-inside.ensures.below;
      groups = c.rebuild-self-inside.ensures.groups;
    })

pub returns-clause-buses : goal.returns-clause-buses
returns-clause-buses c =
    let back = written_back c.self.inside.numbers.len c.rebuild-self-inside.new.numbers c.self.inside.numbers.items (c.rebuild-self-inside.auto.numbers ∙ ap length c.deref_mut-2.ensures.value) c.self.inside.numbers.ok.0 in
    ap (λ (xs : List ℕ). take c.args.nodes xs) back ∙ c.rebuild-self-inside.ensures.buses

pub returns-clause-count : goal.returns-clause-count
returns-clause-count c = c.rebuild-self-inside.ensures.count

pub returns-clause-room : goal.returns-clause-room
returns-clause-room c = ap (λ (b : Buses). b.most_nodes) c.self.view_is
