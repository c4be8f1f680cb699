use Rattle.std.proofs.Common.{Bool, true, false, List, get_or, sym, ap, ◌∙◌, inl, inr, arith}
use Rattle.std.proofs.lemmas.Bool.{cases_eq}
use Rattle.std.proofs.lemmas.List.{get_or-set_other}
use Rattle.obs_placement.proofs.Flagged.{MayPin-own, pinned_same}
use Rattle.obs_placement.proofs.holding.freeze.Goals as goal

pub pin-requires-clause-may : goal.pin-requires-clause-may
pin-requires-clause-may g c =
    let o = c.args.offer.now in
    MayPin-own o.graph.now o.items.now.touches c.requires.offer.branches c.args.pairs.now c.requires.whole c.requires.stands c.args.m c.in-Some.e (sym c.in-Some.ensures.branch) c.requires.thawed

pub returns-in-Some-clause-slots : goal.returns-in-Some-clause-slots
returns-in-Some-clause-slots g c =
    let o = c.args.offer.now in
    let p = c.pin.ensures.pinned in
    pinned_same o.graph.now o.items.now.touches c.requires.offer.branches c.args.pairs.now c.requires.whole c.requires.stands c.args.m c.in-Some.e (sym c.in-Some.ensures.branch) c.requires.thawed
    c.pin.new.self.slots p.0 p.1

pub pin-requires-clause-stands : goal.pin-requires-clause-stands
pin-requires-clause-stands g c = c.requires.stands

pub pin-requires-clause-m : goal.pin-requires-clause-m
pin-requires-clause-m g c = omega (arith, c.requires.m, c.requires.stands.meters)

pub pin-requires-clause-touched : goal.pin-requires-clause-touched
pin-requires-clause-touched g c = c.requires.stands.touched c.args.m c.in-Some.e (sym c.in-Some.ensures.branch)

pub returns-in-Some-clause-frozen : goal.returns-in-Some-clause-frozen
returns-in-Some-clause-frozen g c =
    λ x t.
    let before = c.args.pairs.now.frozen in
    elim (cases_eq x c.args.m) [
      | inl e ↦ inl e
      | inr n ↦ inr (sym (get_or-set_other before c.args.m x true false n) ∙ (sym (ap (λ (f : List Bool). get_or f x false) c.pin.ensures.frozen) ∙ t))
    ]

pub returns-in-Some-clause-stands : goal.returns-in-Some-clause-stands
returns-in-Some-clause-stands g c = c.pin.ensures.stands

pub returns-in-Some-clause-whole : goal.returns-in-Some-clause-whole
returns-in-Some-clause-whole g c = c.pin.ensures.whole

pub returns-in-Some-clause-same_room : goal.returns-in-Some-clause-same_room
returns-in-Some-clause-same_room g c = c.pin.ensures.same_room
