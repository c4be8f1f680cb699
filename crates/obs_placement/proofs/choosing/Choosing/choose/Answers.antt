use Rattle.std.proofs.Common.{◌≡◌, ◌≤◌, length, sym, ap, ◌∙◌, subst, arith}
use Rattle.obs_graph.proofs.Stored.{written_back}
use Rattle.obs_meter.specs.inner.Sizes.{Sizes}
use Rattle.obs_placement.specs.inner.Choosing.{Choosing}
use Rattle.obs_placement.specs.inner.Offer.{HasRoomForOffer}
use Rattle.obs_placement.proofs.choosing.Choosing.choose.Goals as goal

pub choose_in-self-inside-requires-clause-offer : goal.choose_in-self-inside-requires-clause-offer
choose_in-self-inside-requires-clause-offer g c = c.requires.offer

pub choose_in-self-inside-requires-clause-room : goal.choose_in-self-inside-requires-clause-room
choose_in-self-inside-requires-clause-room g c = subst (λ (t : Choosing). HasRoomForOffer t.sizes c.args.offer.now) (sym c.self.view_is) c.requires.room

pub choose_in-self-inside-requires-clause-keys : goal.choose_in-self-inside-requires-clause-keys
choose_in-self-inside-requires-clause-keys g c = ap length c.deref_mut.ensures.value ∙ c.self.invariant.keys

pub choose_in-self-inside-requires-clause-raised : goal.choose_in-self-inside-requires-clause-raised
choose_in-self-inside-requires-clause-raised g c = ap length c.deref_mut-2.ensures.value ∙ c.self.invariant.raised

pub choose_in-self-inside-requires-clause-list : goal.choose_in-self-inside-requires-clause-list
choose_in-self-inside-requires-clause-list g c = ap length c.deref_mut-3.ensures.value ∙ c.self.invariant.list

pub invariant_of-self : goal.invariant_of-self
invariant_of-self g c =
    let new = c.choose_in-self-inside.new in
    let keys : length new.keys ≡ new.taking.sizes.meters = c.choose_in-self-inside.auto.keys ∙ (ap length c.deref_mut.ensures.value ∙ (c.self.invariant.keys ∙ sym (ap (λ (s : Sizes). s.meters) c.choose_in-self-inside.ensures.same_sizes))) in
    let raised : length new.raised ≡ new.taking.sizes.meters = c.choose_in-self-inside.auto.raised ∙ (ap length c.deref_mut-2.ensures.value ∙ (c.self.invariant.raised ∙ sym (ap (λ (s : Sizes). s.meters) c.choose_in-self-inside.ensures.same_sizes))) in
    let list : length new.list ≡ new.taking.sizes.meters = c.choose_in-self-inside.auto.list ∙ (ap length c.deref_mut-3.ensures.value ∙ (c.self.invariant.list ∙ sym (ap (λ (s : Sizes). s.meters) c.choose_in-self-inside.ensures.same_sizes))) in
    let room = c.requires.room.meters in
    let before = ap (λ (t : Choosing). t.sizes.meters) c.self.view_is in
    let same = ap (λ (s : Sizes). s.meters) c.choose_in-self-inside.ensures.same_sizes in
    let count = c.count.ensures.count in
    let items : c.count.result ≤ length new.keys = omega (arith, keys, room, before, same, count) in
    rw (written_back c.self.inside.keys.len c.choose_in-self-inside.new.keys c.self.inside.keys.items (c.choose_in-self-inside.auto.keys ∙ ap length c.deref_mut.ensures.value) c.self.inside.keys.ok.0, written_back c.self.inside.raised.len c.choose_in-self-inside.new.raised c.self.inside.raised.items (c.choose_in-self-inside.auto.raised ∙ ap length c.deref_mut-2.ensures.value) c.self.inside.raised.ok.0, written_back c.self.inside.list.len c.choose_in-self-inside.new.list c.self.inside.list.items (c.choose_in-self-inside.auto.list ∙ ap length c.deref_mut-3.ensures.value) c.self.inside.list.ok.0)
    (record { items = items; count = c.choose_in-self-inside.ensures.bound; keys = keys; raised = raised; list = list })

pub returns-clause-chosen : goal.returns-clause-chosen
returns-clause-chosen g c = rw (written_back c.self.inside.keys.len c.choose_in-self-inside.new.keys c.self.inside.keys.items (c.choose_in-self-inside.auto.keys ∙ ap length c.deref_mut.ensures.value) c.self.inside.keys.ok.0, written_back c.self.inside.raised.len c.choose_in-self-inside.new.raised c.self.inside.raised.items (c.choose_in-self-inside.auto.raised ∙ ap length c.deref_mut-2.ensures.value) c.self.inside.raised.ok.0, written_back c.self.inside.list.len c.choose_in-self-inside.new.list c.self.inside.list.items (c.choose_in-self-inside.auto.list ∙ ap length c.deref_mut-3.ensures.value) c.self.inside.list.ok.0, c.count.ensures.count) c.choose_in-self-inside.ensures.chosen

pub returns-clause-same_sizes : goal.returns-clause-same_sizes
returns-clause-same_sizes g c = c.choose_in-self-inside.ensures.same_sizes ∙ ap (λ (t : Choosing). t.sizes) c.self.view_is
