use Rattle.std.proofs.Common.{[], length, suc, sym, ap, ◌∙◌}
use Rattle.std.proofs.lemmas.Bool.{not-false, not-true}
use Rattle.obs_case.specs.Tables.{Tables}
use Rattle.obs_cert.specs.Flaws.{first_true, forest_clauses, not_inside, paired_twice, unknown_pair}
use Rattle.obs_cert.specs.Numbered.{items_of, paired_items, pairs_of}
use Rattle.obs_cert.specs.Scopes.{is_meter_in}
use Rattle.obs_cert.specs.inner.Walked.{parts_in}
use Rattle.obs_cert.proofs.ClaimLemmas.{forest_end, ready_later, ready_pairs, tree_dead, tree_nameless, tree_outside, tree_rest, tree_touched, tree_twice, tree_unknown}
use Rattle.obs_cert.proofs.claims.tree.Goals as goal

pub returns-clause-flaw : goal.returns-clause-flaw
returns-clause-flaw c =
    let t = c.args.present.now in
    let n = c.in-Some.ensures in
    let pairs = (parts_in c.args.rest.now).pairs in
    let e = tree_rest t (record { component = c.args.name.now; pairs = pairs }) (sym n.known) (sym (c.if-has_unknown_pair.ensures.unknown ∙ ap (λ (x : Tables). unknown_pair x pairs) c.case-case.ensures.case)) (sym n.names ∙ not-false c.in-Some.named.energised c.if-not-named.false)
    (ap (λ k. not_inside (is_meter_in t k) (items_of t (paired_items pairs))) (sym n.component) ∙ rw (sym c.walk_items.ensures.items) (sym c.if-has_outside.ensures.outside))
    (rw (sym c.walk_pairs.ensures.pairs) (sym c.if-has_untouched.ensures.untouched)) (sym (c.if-has_pair_twice.ensures.twice ∙ ap (λ (x : Tables). paired_twice x pairs) c.case-case.ensures.case)) in
    forest_end t (pairs_of t pairs) c.in-Some.named.need c.forest.result c.forest.ensures.none c.forest.ensures.flaw
    ∙ ap (λ k. first_true (forest_clauses t (pairs_of t pairs) k [])) n.need ∙ sym e

pub returns-clause-ready : goal.returns-clause-ready
returns-clause-ready c =
    let p = c.has_pair_twice in
    c.forest.ensures.ready (suc c.args.stamp)
    (ready_pairs c.args.present.now c.args.stamp c.args.work.now p.new.paired p.new.taken c.requires.ready
    (p.auto.paired ∙ ap length c.deref_mut.ensures.value) (p.auto.taken ∙ ap length c.deref_mut-2.ensures.value) p.ensures.below_items p.ensures.below_branches)

pub returns-then-has_pair_twice-clause-flaw : goal.returns-then-has_pair_twice-clause-flaw
returns-then-has_pair_twice-clause-flaw c =
    let t = c.args.present.now in
    let n = c.in-Some.ensures in
    let pairs = (parts_in c.args.rest.now).pairs in
    tree_twice t (record { component = c.args.name.now; pairs = pairs }) (sym n.known)
    (sym (c.if-has_unknown_pair.ensures.unknown ∙ ap (λ (x : Tables). unknown_pair x pairs) c.case-case.ensures.case)) (sym n.names ∙ not-false c.in-Some.named.energised c.if-not-named.false)
    (ap (λ k. not_inside (is_meter_in t k) (items_of t (paired_items pairs))) (sym n.component) ∙ rw (sym c.walk_items.ensures.items) (sym c.if-has_outside.ensures.outside))
    (rw (sym c.walk_pairs.ensures.pairs) (sym c.if-has_untouched.ensures.untouched))
    (sym (c.if-has_pair_twice.ensures.twice ∙ ap (λ (x : Tables). paired_twice x pairs) c.case-case.ensures.case))

pub returns-then-has_pair_twice-clause-ready : goal.returns-then-has_pair_twice-clause-ready
returns-then-has_pair_twice-clause-ready c =
    let p = c.has_pair_twice in
    ready_pairs c.args.present.now c.args.stamp c.args.work.now p.new.paired p.new.taken c.requires.ready
    (p.auto.paired ∙ ap length c.deref_mut.ensures.value) (p.auto.taken ∙ ap length c.deref_mut-2.ensures.value) p.ensures.below_items p.ensures.below_branches

pub returns-in_default-clause-ready : goal.returns-in_default-clause-ready
returns-in_default-clause-ready c = ready_later c.args.present.now c.args.stamp c.args.work.now c.requires.ready

pub returns-then-has_unknown_pair-clause-ready : goal.returns-then-has_unknown_pair-clause-ready
returns-then-has_unknown_pair-clause-ready c = ready_later c.args.present.now c.args.stamp c.args.work.now c.requires.ready

pub returns-then-not-named-clause-ready : goal.returns-then-not-named-clause-ready
returns-then-not-named-clause-ready c = ready_later c.args.present.now c.args.stamp c.args.work.now c.requires.ready

pub returns-then-has_outside-clause-ready : goal.returns-then-has_outside-clause-ready
returns-then-has_outside-clause-ready c = ready_later c.args.present.now c.args.stamp c.args.work.now c.requires.ready

pub returns-then-has_untouched-clause-ready : goal.returns-then-has_untouched-clause-ready
returns-then-has_untouched-clause-ready c = ready_later c.args.present.now c.args.stamp c.args.work.now c.requires.ready

pub forest-requires-clause-room : goal.forest-requires-clause-room
forest-requires-clause-room c =
    let p = c.has_pair_twice in
    (ready_pairs c.args.present.now c.args.stamp c.args.work.now p.new.paired p.new.taken c.requires.ready
    (p.auto.paired ∙ ap length c.deref_mut.ensures.value) (p.auto.taken ∙ ap length c.deref_mut-2.ensures.value) p.ensures.below_items p.ensures.below_branches).room

pub forest-requires-clause-clear : goal.forest-requires-clause-clear
forest-requires-clause-clear c = c.requires.ready.clear

pub has_pair_twice-requires-clause-items : goal.has_pair_twice-requires-clause-items
has_pair_twice-requires-clause-items c = rw (c.case-case.ensures.case, c.deref_mut.ensures.value) c.requires.ready.room.paired

pub has_pair_twice-requires-clause-branches : goal.has_pair_twice-requires-clause-branches
has_pair_twice-requires-clause-branches c = rw (c.case-case.ensures.case, c.deref_mut-2.ensures.value) c.requires.ready.room.taken

pub has_pair_twice-requires-clause-fresh_items : goal.has_pair_twice-requires-clause-fresh_items
has_pair_twice-requires-clause-fresh_items c = rw c.deref_mut.ensures.value c.requires.ready.paired

pub has_pair_twice-requires-clause-fresh_branches : goal.has_pair_twice-requires-clause-fresh_branches
has_pair_twice-requires-clause-fresh_branches c = rw c.deref_mut-2.ensures.value c.requires.ready.taken

pub returns-in_default-clause-flaw : goal.returns-in_default-clause-flaw
returns-in_default-clause-flaw c = tree_nameless c.args.present.now (record { component = c.args.name.now; pairs = (parts_in c.args.rest.now).pairs }) (sym c.in_default.ensures.known)

pub returns-then-has_unknown_pair-clause-flaw : goal.returns-then-has_unknown_pair-clause-flaw
returns-then-has_unknown_pair-clause-flaw c =
    tree_unknown c.args.present.now (record { component = c.args.name.now; pairs = (parts_in c.args.rest.now).pairs }) (sym c.in-Some.ensures.known)
    (sym (c.if-has_unknown_pair.ensures.unknown ∙ ap (λ (x : Tables). unknown_pair x (parts_in c.args.rest.now).pairs) c.case-case.ensures.case))

pub returns-then-not-named-clause-flaw : goal.returns-then-not-named-clause-flaw
returns-then-not-named-clause-flaw c =
    tree_dead c.args.present.now (record { component = c.args.name.now; pairs = (parts_in c.args.rest.now).pairs }) (sym c.in-Some.ensures.known)
    (sym (c.if-has_unknown_pair.ensures.unknown ∙ ap (λ (x : Tables). unknown_pair x (parts_in c.args.rest.now).pairs) c.case-case.ensures.case)) (sym c.in-Some.ensures.names ∙ not-true c.in-Some.named.energised c.if-not-named.true)

pub returns-then-has_outside-clause-flaw : goal.returns-then-has_outside-clause-flaw
returns-then-has_outside-clause-flaw c =
    tree_outside c.args.present.now (record { component = c.args.name.now; pairs = (parts_in c.args.rest.now).pairs }) (sym c.in-Some.ensures.known)
    (sym (c.if-has_unknown_pair.ensures.unknown ∙ ap (λ (x : Tables). unknown_pair x (parts_in c.args.rest.now).pairs) c.case-case.ensures.case)) (sym c.in-Some.ensures.names ∙ not-false c.in-Some.named.energised c.if-not-named.false)
    (ap (λ k. not_inside (is_meter_in c.args.present.now k) (items_of c.args.present.now (paired_items (parts_in c.args.rest.now).pairs))) (sym c.in-Some.ensures.component) ∙ rw (sym c.walk_items.ensures.items) (sym c.if-has_outside.ensures.outside))

pub returns-then-has_untouched-clause-flaw : goal.returns-then-has_untouched-clause-flaw
returns-then-has_untouched-clause-flaw c =
    tree_touched c.args.present.now (record { component = c.args.name.now; pairs = (parts_in c.args.rest.now).pairs }) (sym c.in-Some.ensures.known)
    (sym (c.if-has_unknown_pair.ensures.unknown ∙ ap (λ (x : Tables). unknown_pair x (parts_in c.args.rest.now).pairs) c.case-case.ensures.case)) (sym c.in-Some.ensures.names ∙ not-false c.in-Some.named.energised c.if-not-named.false)
    (ap (λ k. not_inside (is_meter_in c.args.present.now k) (items_of c.args.present.now (paired_items (parts_in c.args.rest.now).pairs))) (sym c.in-Some.ensures.component) ∙ rw (sym c.walk_items.ensures.items) (sym c.if-has_outside.ensures.outside))
    (rw (sym c.walk_pairs.ensures.pairs) (sym c.if-has_untouched.ensures.untouched))
