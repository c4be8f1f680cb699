use Rattle.std.proofs.Common.{◌≡◌, ℕ, ◌||◌, Bool, true, false, suc, refl, sym, ap, ◌∙◌, subst}
use Rattle.obs_case.specs.Tables.{Tables}
use Rattle.obs_cert.specs.inner.Ready.{IsReadyFor}
use Rattle.obs_cert.specs.Flaws.{all_inside, layers_clauses, not_touched, paired_twice, twice, outside_of_plan, twice_in_plan, unknown_in_plan}
use Rattle.obs_cert.specs.Numbered.{candidate_items, items_of, pairs_of}
use Rattle.obs_cert.specs.inner.Walked.{cost_of, parts_in}
use Rattle.obs_network.specs.Network.{Network, case_needed, network_of}
use Rattle.obs_cert.specs.Flaws.{first_true, forest_clauses}
use Rattle.obs_cert.proofs.ClaimLemmas.{plan_layers, plan_outside, plan_rest, plan_touched, plan_twice, ready_later}
use Rattle.obs_cert.proofs.plans.plan.Goals as goal
use Rattle.obs_cert.proofs.plans.plan.Goals.{After-has_unknown_name, After-has_outside_item, After-has_untouched, After-has_twice_in_plan-twice}

known : (c : After-has_unknown_name) → c.has_unknown_name.result ≡ unknown_in_plan c.args.present.now (cost_of c.args.number (parts_in c.args.rest.now))
known c = c.has_unknown_name.ensures.unknown c.args.number ∙ ap (λ (x : Tables). unknown_in_plan x (cost_of c.args.number (parts_in c.args.rest.now))) c.case-case.ensures.case

outside : (c : After-has_outside_item) → c.has_outside_item.result ≡ outside_of_plan c.args.present.now (cost_of c.args.number (parts_in c.args.rest.now))
outside c = c.has_outside_item.ensures.outside c.args.number

touched : (c : After-has_untouched) → c.has_untouched.result ≡ not_touched c.args.present.now (pairs_of c.args.present.now (parts_in c.args.rest.now).pairs)
touched c = rw (sym c.walk_pairs.ensures.pairs) c.has_untouched.ensures.untouched

again : (c : After-has_twice_in_plan-twice) → c.has_twice_in_plan-twice.result ≡ twice_in_plan c.args.present.now (cost_of c.args.number (parts_in c.args.rest.now))
again c = c.has_twice_in_plan-twice.ensures.twice c.args.number ∙ ap (λ (x : Tables). twice_in_plan x (cost_of c.args.number (parts_in c.args.rest.now))) c.case-case.ensures.case

ready : (c : After-has_twice_in_plan-twice) → IsReadyFor c.args.present.now (suc c.args.stamp) c.has_twice_in_plan-twice.new.work
ready c = subst (λ (x : Tables). IsReadyFor x (suc c.args.stamp) c.has_twice_in_plan-twice.new.work) c.case-case.ensures.case c.has_twice_in_plan-twice.ensures.ready

need_is : (t : Tables) (n : Network) (k : ℕ) → n ≡ network_of t → k ≡ n.needed → case_needed t ≡ k
need_is t n k is same = sym (same ∙ ap (λ (m : Network). m.needed) is)

last_false : (a b d : Bool) → (a || (b || d)) ≡ false → d ≡ false
last_false false false d e = e
last_false false true d e = cc
last_false true b d e = cc

pub returns-then-has_outside_item-clause-flaw : goal.returns-then-has_outside_item-clause-flaw
returns-then-has_outside_item-clause-flaw c =
    plan_outside c.args.present.now (cost_of c.args.number (parts_in c.args.rest.now))
    (sym (known (goal.at.returns-then-has_outside_item-clause-flaw c).After-has_unknown_name) ∙ c.if-has_unknown_name.false)
    (sym (outside (goal.at.returns-then-has_outside_item-clause-flaw c).After-has_outside_item) ∙ c.if-has_outside_item.true)

pub returns-then-has_untouched-clause-flaw : goal.returns-then-has_untouched-clause-flaw
returns-then-has_untouched-clause-flaw c =
    plan_touched c.args.present.now (cost_of c.args.number (parts_in c.args.rest.now))
    (sym (known (goal.at.returns-then-has_untouched-clause-flaw c).After-has_unknown_name) ∙ c.if-has_unknown_name.false)
    (sym (outside (goal.at.returns-then-has_untouched-clause-flaw c).After-has_outside_item) ∙ c.if-has_outside_item.false)
    (sym (touched (goal.at.returns-then-has_untouched-clause-flaw c).After-has_untouched) ∙ c.if-has_untouched.true)

pub returns-then-has_unknown_name-clause-flaw : goal.returns-then-has_unknown_name-clause-flaw
returns-then-has_unknown_name-clause-flaw c = rw (sym (known (goal.at.returns-then-has_unknown_name-clause-flaw c).After-has_unknown_name) ∙ c.if-has_unknown_name.true) refl

pub returns-then-twice-clause-flaw : goal.returns-then-twice-clause-flaw
returns-then-twice-clause-flaw c =
    plan_twice c.args.present.now (cost_of c.args.number (parts_in c.args.rest.now))
    (sym (known (goal.at.returns-then-twice-clause-flaw c).After-has_unknown_name) ∙ c.if-has_unknown_name.false)
    (sym (outside (goal.at.returns-then-twice-clause-flaw c).After-has_outside_item) ∙ c.if-has_outside_item.false)
    (sym (touched (goal.at.returns-then-twice-clause-flaw c).After-has_untouched) ∙ c.if-has_untouched.false)
    (sym (again (goal.at.returns-then-twice-clause-flaw c).After-has_twice_in_plan-twice) ∙ c.if-twice.true)

pub returns-in-Some-clause-flaw : goal.returns-in-Some-clause-flaw
returns-in-Some-clause-flaw c =
    let t = c.args.present.now in
    let parts = parts_in c.args.rest.now in
    let plan = cost_of c.args.number parts in
    let need = need_is t c.network-network.result.now c.needed.result c.network-network.ensures.network c.needed.ensures.needed in
    sym (c.in-Some.ensures.flaw (layers_clauses t plan))
    ∙ ap (λ (k : ℕ). first_true (forest_clauses t (pairs_of t parts.pairs) k (layers_clauses t plan))) (sym need)
    ∙ plan_rest t plan
    (sym (known (goal.at.returns-in-Some-clause-flaw c).After-has_unknown_name) ∙ c.if-has_unknown_name.false)
    (sym (outside (goal.at.returns-in-Some-clause-flaw c).After-has_outside_item) ∙ c.if-has_outside_item.false)
    (sym (touched (goal.at.returns-in-Some-clause-flaw c).After-has_untouched) ∙ c.if-has_untouched.false)
    (sym (again (goal.at.returns-in-Some-clause-flaw c).After-has_twice_in_plan-twice) ∙ c.if-twice.false)

pub returns-in-Some-clause-ready : goal.returns-in-Some-clause-ready
returns-in-Some-clause-ready c = c.forest.ensures.ready (suc c.args.stamp) (ready (goal.at.returns-in-Some-clause-ready c).After-has_twice_in_plan-twice)

pub layers-requires-clause-inside : goal.layers-requires-clause-inside
layers-requires-clause-inside c =
    plan_layers c.args.present.now (cost_of c.args.number (parts_in c.args.rest.now))
    (sym (outside (goal.at.layers-requires-clause-inside c).After-has_outside_item) ∙ c.if-has_outside_item.false)

pub returns-clause-flaw : goal.returns-clause-flaw
returns-clause-flaw c =
    let t = c.args.present.now in
    let parts = parts_in c.args.rest.now in
    let plan = cost_of c.args.number parts in
    let need = need_is t c.network-network.result.now c.needed.result c.network-network.ensures.network c.needed.ensures.needed in
    c.layers.ensures.flaw
    ∙ sym (c.in_default.ensures.none (layers_clauses t plan))
    ∙ ap (λ (k : ℕ). first_true (forest_clauses t (pairs_of t parts.pairs) k (layers_clauses t plan))) (sym need)
    ∙ plan_rest t plan
    (sym (known (goal.at.returns-clause-flaw c).After-has_unknown_name) ∙ c.if-has_unknown_name.false)
    (sym (outside (goal.at.returns-clause-flaw c).After-has_outside_item) ∙ c.if-has_outside_item.false)
    (sym (touched (goal.at.returns-clause-flaw c).After-has_untouched) ∙ c.if-has_untouched.false)
    (sym (again (goal.at.returns-clause-flaw c).After-has_twice_in_plan-twice) ∙ c.if-twice.false)

pub returns-clause-ready : goal.returns-clause-ready
returns-clause-ready c = c.layers.ensures.ready (suc c.args.stamp) (c.forest.ensures.ready (suc c.args.stamp) (ready (goal.at.returns-clause-ready c).After-has_twice_in_plan-twice))

pub returns-then-has_unknown_name-clause-ready : goal.returns-then-has_unknown_name-clause-ready
returns-then-has_unknown_name-clause-ready c = ready_later c.args.present.now c.args.stamp c.args.work.now c.requires.ready

pub returns-then-has_outside_item-clause-ready : goal.returns-then-has_outside_item-clause-ready
returns-then-has_outside_item-clause-ready c = ready (goal.at.returns-then-has_outside_item-clause-ready c).After-has_twice_in_plan-twice

pub returns-then-has_untouched-clause-ready : goal.returns-then-has_untouched-clause-ready
returns-then-has_untouched-clause-ready c = ready (goal.at.returns-then-has_untouched-clause-ready c).After-has_twice_in_plan-twice

pub returns-then-twice-clause-ready : goal.returns-then-twice-clause-ready
returns-then-twice-clause-ready c = ready (goal.at.returns-then-twice-clause-ready c).After-has_twice_in_plan-twice

pub forest-requires-clause-room : goal.forest-requires-clause-room
forest-requires-clause-room c = (ready (goal.at.forest-requires-clause-room c).After-has_twice_in_plan-twice).room

pub forest-requires-clause-clear : goal.forest-requires-clause-clear
forest-requires-clause-clear c = (ready (goal.at.forest-requires-clause-clear c).After-has_twice_in_plan-twice).clear

pub layers-requires-clause-keys : goal.layers-requires-clause-keys
layers-requires-clause-keys c = c.requires.keys

pub layers-requires-clause-room : goal.layers-requires-clause-room
layers-requires-clause-room c = c.forest.ensures.room

pub layers-requires-clause-clear : goal.layers-requires-clause-clear
layers-requires-clause-clear c = c.forest.ensures.clear

pub layers-requires-clause-once : goal.layers-requires-clause-once
layers-requires-clause-once c =
    let t = c.args.present.now in
    let parts = parts_in c.args.rest.now in
    last_false (twice (items_of t (candidate_items parts.chosen))) (paired_twice t parts.pairs) (twice (items_of t (all_inside parts.layers)))
    (sym (again (goal.at.layers-requires-clause-once c).After-has_twice_in_plan-twice) ∙ c.if-twice.false)
