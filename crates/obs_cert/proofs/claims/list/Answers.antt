use Rattle.std.proofs.Common.{◌≡◌, length, suc, refl, sym, ap, ◌∙◌}
use Rattle.obs_case.specs.Tables.{Tables}
use Rattle.obs_cert.specs.Flaws.{not_inside, twice}
use Rattle.obs_cert.specs.inner.InScope.{in_scope}
use Rattle.obs_cert.specs.Numbered.{items_of}
use Rattle.obs_cert.specs.inner.Walked.{parts_in}
use Rattle.obs_cert.proofs.ClaimLemmas.{ready_later, ready_listed}
use Rattle.obs_cert.proofs.claims.list.Goals as goal
use Rattle.obs_cert.proofs.claims.list.Goals.{After-has_outside, After-has_twice}

pub returns-clause-ready : goal.returns-clause-ready
returns-clause-ready c =
    let p = c.has_twice in
    c.numbers.ensures.ready (suc c.args.stamp)
    (ready_listed c.args.present.now c.args.stamp c.args.work.now p.new.marks c.requires.ready (p.auto.marks ∙ ap length c.deref_mut.ensures.value) p.ensures.below)

pub returns-then-has_twice-clause-ready : goal.returns-then-has_twice-clause-ready
returns-then-has_twice-clause-ready c =
    let p = c.has_twice in
    ready_listed c.args.present.now c.args.stamp c.args.work.now p.new.marks c.requires.ready (p.auto.marks ∙ ap length c.deref_mut.ensures.value) p.ensures.below

pub has_twice-requires-clause-room : goal.has_twice-requires-clause-room
has_twice-requires-clause-room c = rw (c.case-case.ensures.case, c.deref_mut.ensures.value) c.requires.ready.room.listed

pub has_twice-requires-clause-fresh : goal.has_twice-requires-clause-fresh
has_twice-requires-clause-fresh c = rw c.deref_mut.ensures.value c.requires.ready.listed

pub numbers-requires-clause-ready : goal.numbers-requires-clause-ready
numbers-requires-clause-ready c =
    let p = c.has_twice in (
      suc c.args.stamp,
      ready_listed c.args.present.now c.args.stamp c.args.work.now p.new.marks c.requires.ready (p.auto.marks ∙ ap length c.deref_mut.ensures.value) p.ensures.below,
    )

inside : (c : After-has_outside) → c.has_outside.result ≡ not_inside (in_scope c.args.present.now c.args.scope) (items_of c.args.present.now (parts_in c.args.rest.now).inside)
inside c = rw (sym c.walk_items.ensures.items) c.has_outside.ensures.outside

pub returns-then-has_outside-clause-flaw : goal.returns-then-has_outside-clause-flaw
returns-then-has_outside-clause-flaw c = rw (sym (inside (goal.at.returns-then-has_outside-clause-flaw c).After-has_outside) ∙ c.if-has_outside.true) refl

pub returns-then-has_outside-clause-ready : goal.returns-then-has_outside-clause-ready
returns-then-has_outside-clause-ready c = ready_later c.args.present.now c.args.stamp c.args.work.now c.requires.ready

again : (c : After-has_twice) → c.has_twice.result ≡ twice (items_of c.args.present.now (parts_in c.args.rest.now).inside)
again c = rw (sym c.walk_items-items.ensures.items) (c.has_twice.ensures.twice ∙ ap (λ (x : Tables). twice (items_of x c.walk_items-items.result)) c.case-case.ensures.case)

pub returns-clause-flaw : goal.returns-clause-flaw
returns-clause-flaw c =
    let e = sym (inside (goal.at.returns-clause-flaw c).After-has_outside) ∙ c.if-has_outside.false in
    let once = sym (again (goal.at.returns-clause-flaw c).After-has_twice) ∙ c.if-has_twice.false in
    c.numbers.ensures.flaw (in_scope c.args.present.now c.args.scope) c.requires.count c.requires.items e ∙ sym (rw (e, once) refl)

pub returns-then-has_twice-clause-flaw : goal.returns-then-has_twice-clause-flaw
returns-then-has_twice-clause-flaw c =
    let e = sym (inside (goal.at.returns-then-has_twice-clause-flaw c).After-has_outside) ∙ c.if-has_outside.false in
    let more = sym (again (goal.at.returns-then-has_twice-clause-flaw c).After-has_twice) ∙ c.if-has_twice.true in
    rw (e, more) refl

pub numbers-requires-clause-once : goal.numbers-requires-clause-once
numbers-requires-clause-once c = sym (again (goal.at.numbers-requires-clause-once c).After-has_twice) ∙ c.if-has_twice.false
