use Rattle.std.proofs.Common.{◌≡◌, ◌∷◌, true, false, sym, ap, ◌∙◌, refl}
use Rattle.obs_case.specs.Tables.{Tables}
use Rattle.obs_network.specs.Network.{Network}
use Rattle.obs_cert.specs.declared.flaw.FlawCode.TheVariants.{NotInside}
use Rattle.obs_cert.specs.Flaws.{first_true, list_clauses, not_inside, unknown_item}
use Rattle.obs_cert.specs.Numbered.{items_of}
use Rattle.obs_cert.specs.Scopes.{is_live_item}
use Rattle.obs_cert.specs.inner.Walked.{parts_in}
use Rattle.obs_cert.proofs.ClaimLemmas.{ready_later, shortfall_rest}
use Rattle.obs_cert.proofs.OutsideLemmas.{live_of_items}
use Rattle.obs_cert.proofs.claims.shortfall.Goals as goal

pub returns-then-has_unknown-clause-flaw : goal.returns-then-has_unknown-clause-flaw
returns-then-has_unknown-clause-flaw c =
    let t = c.args.present.now in
    let inside = (parts_in c.args.rest.now).inside in
    let known : unknown_item t inside ≡ true = rw (sym c.walk_items.ensures.items) (sym (c.if-has_unknown.ensures.unknown ∙ ap (λ (x : Tables). unknown_item x c.walk_items.result) c.case-case.ensures.case)) in
    rw known refl

pub returns-then-has_unknown-clause-ready : goal.returns-then-has_unknown-clause-ready
returns-then-has_unknown-clause-ready c = ready_later c.args.present.now c.args.stamp c.args.work.now c.requires.ready

pub list-requires : goal.list-requires
list-requires c = record { count = c.requires.live; items = live_of_items c.args.present.now; ready = c.requires.ready }

pub returns-clause-flaw : goal.returns-clause-flaw
returns-clause-flaw c =
    let t = c.args.present.now in
    let inside = (parts_in c.args.rest.now).inside in
    let known : unknown_item t inside ≡ false = rw (sym c.walk_items.ensures.items) (sym (c.if-has_unknown.ensures.unknown ∙ ap (λ (x : Tables). unknown_item x c.walk_items.result) c.case-case.ensures.case)) in
    c.list.ensures.flaw
    ∙ ap (λ need. first_true ((not_inside (is_live_item t) (items_of t inside), NotInside) ∷ list_clauses t (is_live_item t) (items_of t inside) c.args.numbers.0 c.args.numbers.1 need)) (c.needed.ensures.needed ∙ ap (λ (n : Network). n.needed) c.network-network.ensures.network)
    ∙ shortfall_rest t (record { rank = c.args.numbers.0; outside = c.args.numbers.1; inside = inside }) known

pub returns-clause-ready : goal.returns-clause-ready
returns-clause-ready c = c.list.ensures.ready
