use Rattle.std.proofs.Common.{◌≡◌, length, sym, ap, ◌∙◌, arith}
use Rattle.std.proofs.lemmas.Bool.{not-false, not-true}
use Rattle.obs_case.specs.Tables.{Tables}
use Rattle.obs_cert.specs.Flaws.{unknown_item}
use Rattle.obs_cert.specs.Scopes.{is_meter_in, scope_of}
use Rattle.obs_cert.specs.inner.Walked.{parts_in}
use Rattle.obs_network.specs.inner.Located.{live_meters_of}
use Rattle.obs_network.specs.Network.{Network}
use Rattle.obs_cert.proofs.ClaimLemmas.{bound_dead, bound_list, bound_nameless, bound_unknown, ready_later}
use Rattle.obs_cert.proofs.ComponentLemmas.{rows_few, scope_few, scope_same}
use Rattle.obs_cert.proofs.OutsideLemmas.{meters_of_items}
use Rattle.obs_cert.proofs.claims.bound.Goals as goal
use Rattle.obs_cert.proofs.claims.bound.Goals.{After-live_meters}

many : (c : After-live_meters) → length c.live_meters.result.now ≡ length (scope_of c.args.present.now (is_meter_in c.args.present.now c.in-Some.named.component))
many c =
    ap length c.live_meters.ensures.meters ∙ ap (λ (n : Network). length (live_meters_of n c.in-Some.named.component)) c.network-network.ensures.network
    ∙ scope_same c.args.present.now c.in-Some.named.component

pub overflow_cast-count : goal.overflow_cast-count
overflow_cast-count c =
    let t = c.args.present.now in
    let m = many (goal.at.overflow_cast-count c).After-live_meters in
    omega (arith, m, scope_few t (is_meter_in t c.in-Some.named.component), rows_few t c.case-case.ensures.valid)

pub list-requires-clause-count : goal.list-requires-clause-count
list-requires-clause-count c = many (goal.at.list-requires-clause-count c).After-live_meters

pub list-requires-clause-items : goal.list-requires-clause-items
list-requires-clause-items c = meters_of_items c.args.present.now c.in-Some.named.component

pub list-requires-clause-ready : goal.list-requires-clause-ready
list-requires-clause-ready c = c.requires.ready

pub returns-clause-flaw : goal.returns-clause-flaw
returns-clause-flaw c =
    let t = c.args.present.now in
    let n = c.in-Some.ensures in
    c.list.ensures.flaw
    ∙ bound_list t (record { component = c.args.name.now; rank = c.args.numbers.0; outside = c.args.numbers.1; inside = (parts_in c.args.rest.now).inside }) c.in-Some.named.component c.in-Some.named.need n.component n.need
    (sym n.known) (rw (sym c.walk_items.ensures.items) (sym (c.if-has_unknown.ensures.unknown ∙ ap (λ (x : Tables). unknown_item x c.walk_items.result) c.case-case.ensures.case))) (sym n.names ∙ not-false c.in-Some.named.energised c.if-not-named.false)

pub returns-clause-ready : goal.returns-clause-ready
returns-clause-ready c = c.list.ensures.ready

pub returns-in_default-clause-ready : goal.returns-in_default-clause-ready
returns-in_default-clause-ready c = ready_later c.args.present.now c.args.stamp c.args.work.now c.requires.ready

pub returns-then-has_unknown-clause-ready : goal.returns-then-has_unknown-clause-ready
returns-then-has_unknown-clause-ready c = ready_later c.args.present.now c.args.stamp c.args.work.now c.requires.ready

pub returns-then-not-named-clause-ready : goal.returns-then-not-named-clause-ready
returns-then-not-named-clause-ready c = ready_later c.args.present.now c.args.stamp c.args.work.now c.requires.ready

pub returns-in_default-clause-flaw : goal.returns-in_default-clause-flaw
returns-in_default-clause-flaw c = bound_nameless c.args.present.now (record { component = c.args.name.now; rank = c.args.numbers.0; outside = c.args.numbers.1; inside = (parts_in c.args.rest.now).inside }) (sym c.in_default.ensures.known)

pub returns-then-has_unknown-clause-flaw : goal.returns-then-has_unknown-clause-flaw
returns-then-has_unknown-clause-flaw c =
    bound_unknown c.args.present.now (record { component = c.args.name.now; rank = c.args.numbers.0; outside = c.args.numbers.1; inside = (parts_in c.args.rest.now).inside }) (sym c.in-Some.ensures.known)
    (rw (sym c.walk_items.ensures.items) (sym (c.if-has_unknown.ensures.unknown ∙ ap (λ (x : Tables). unknown_item x c.walk_items.result) c.case-case.ensures.case)))

pub returns-then-not-named-clause-flaw : goal.returns-then-not-named-clause-flaw
returns-then-not-named-clause-flaw c =
    bound_dead c.args.present.now (record { component = c.args.name.now; rank = c.args.numbers.0; outside = c.args.numbers.1; inside = (parts_in c.args.rest.now).inside }) (sym c.in-Some.ensures.known)
    (rw (sym c.walk_items.ensures.items) (sym (c.if-has_unknown.ensures.unknown ∙ ap (λ (x : Tables). unknown_item x c.walk_items.result) c.case-case.ensures.case))) (sym c.in-Some.ensures.names ∙ not-true c.in-Some.named.energised c.if-not-named.true)
