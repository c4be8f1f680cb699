use Rattle.std.proofs.Common.{length, sym, ap, ◌∙◌}
use Rattle.std.specs.List.{list_any}
use Rattle.obs_case.specs.Tables.{Tables}
use Rattle.obs_network.specs.Network.{rows_of}
use Rattle.obs_cert.specs.Flaws.{Listed, costs_clauses, first_true, listed_layers, wrong_outside}
use Rattle.obs_cert.specs.Scopes.{is_below}
use Rattle.obs_cert.specs.inner.Walked.{cost_of, parts_in}
use Rattle.obs_cert.proofs.ClaimLemmas.{free_of, layers_outside, layers_rank, layers_rest, ready_hubs, ready_joined}
use Rattle.obs_cert.proofs.plans.layers.Goals as goal

pub returns-then-has_wrong_outside-clause-flaw : goal.returns-then-has_wrong_outside-clause-flaw
returns-then-has_wrong_outside-clause-flaw c =
    layers_outside c.args.present.now (cost_of c.args.number (parts_in c.args.rest.now))
    (rw (sym c.walk_layers.ensures.layers) (sym c.if-has_wrong_rank.ensures.rank)) (rw (sym c.walk_layers-2.ensures.layers) (sym (c.if-has_wrong_outside.ensures.outside ∙ ap (λ (x : Tables). list_any (λ (l : Listed). wrong_outside x (is_below x l.layer.to) l.list l.layer.outside) (listed_layers x c.walk_layers-2.result)) c.case-case.ensures.case)))

pub returns-clause-flaw : goal.returns-clause-flaw
returns-clause-flaw c =
    c.costs.ensures.flaw
    ∙ ap (λ (x : Tables). first_true (costs_clauses x (cost_of c.args.number (parts_in c.args.rest.now)))) c.case-case.ensures.case
    ∙ layers_rest c.args.present.now (cost_of c.args.number (parts_in c.args.rest.now))
    (rw (sym c.walk_layers.ensures.layers) (sym c.if-has_wrong_rank.ensures.rank)) (rw (sym c.walk_layers-2.ensures.layers) (sym (c.if-has_wrong_outside.ensures.outside ∙ ap (λ (x : Tables). list_any (λ (l : Listed). wrong_outside x (is_below x l.layer.to) l.list l.layer.outside) (listed_layers x c.walk_layers-2.result)) c.case-case.ensures.case)))

pub returns-then-has_wrong_rank-clause-ready : goal.returns-then-has_wrong_rank-clause-ready
returns-then-has_wrong_rank-clause-ready c stamp r =
    let j = c.has_wrong_rank in
    ready_joined c.args.present.now stamp (record c.args.work.now { hubs = j.new.hubs }) j.new.ups j.new.moved (ready_hubs c.args.present.now stamp c.args.work.now j.new.hubs r j.ensures.hubs) (j.auto.ups ∙ ap length c.deref_mut.ensures.value) (j.auto.moved ∙ ap length c.deref_mut-2.ensures.value) j.ensures.clear

pub returns-then-has_wrong_outside-clause-ready : goal.returns-then-has_wrong_outside-clause-ready
returns-then-has_wrong_outside-clause-ready c stamp r =
    let j = c.has_wrong_rank in
    ready_joined c.args.present.now stamp (record c.args.work.now { hubs = j.new.hubs }) j.new.ups j.new.moved (ready_hubs c.args.present.now stamp c.args.work.now j.new.hubs r j.ensures.hubs) (j.auto.ups ∙ ap length c.deref_mut.ensures.value) (j.auto.moved ∙ ap length c.deref_mut-2.ensures.value) j.ensures.clear

pub returns-clause-ready : goal.returns-clause-ready
returns-clause-ready c stamp r =
    let j = c.has_wrong_rank in
    ready_joined c.args.present.now stamp (record c.args.work.now { hubs = j.new.hubs }) j.new.ups j.new.moved (ready_hubs c.args.present.now stamp c.args.work.now j.new.hubs r j.ensures.hubs) (j.auto.ups ∙ ap length c.deref_mut.ensures.value) (j.auto.moved ∙ ap length c.deref_mut-2.ensures.value) j.ensures.clear

pub has_wrong_outside-requires-clause-keys : goal.has_wrong_outside-requires-clause-keys
has_wrong_outside-requires-clause-keys c = rw c.case-case.ensures.case c.requires.keys

pub has_wrong_outside-requires-clause-inside : goal.has_wrong_outside-requires-clause-inside
has_wrong_outside-requires-clause-inside c = rw (c.case-case.ensures.case, c.walk_layers-2.ensures.layers) c.requires.inside

pub has_wrong_outside-requires-clause-once : goal.has_wrong_outside-requires-clause-once
has_wrong_outside-requires-clause-once c = rw (c.case-case.ensures.case, c.walk_layers-2.ensures.layers) c.requires.once

pub returns-then-has_wrong_rank-clause-flaw : goal.returns-then-has_wrong_rank-clause-flaw
returns-then-has_wrong_rank-clause-flaw c =
    layers_rank c.args.present.now (cost_of c.args.number (parts_in c.args.rest.now)) (rw (sym c.walk_layers.ensures.layers) (sym c.if-has_wrong_rank.ensures.rank))

pub has_wrong_rank-requires-clause-hubs : goal.has_wrong_rank-requires-clause-hubs
has_wrong_rank-requires-clause-hubs c = rw c.deref_mut.ensures.value c.requires.room.hubs

pub has_wrong_rank-requires-clause-free : goal.has_wrong_rank-requires-clause-free
has_wrong_rank-requires-clause-free c = rw (c.deref_mut.ensures.value, c.deref_mut-2.ensures.value) (free_of (rows_of c.args.present.now) c.args.work.now c.requires.room c.requires.clear)
