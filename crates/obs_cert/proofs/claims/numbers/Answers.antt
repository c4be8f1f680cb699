use Rattle.std.proofs.Common.{◌≡◌, ℕ, Bool, false, length, sym, ap, ◌∙◌, arith}
use Rattle.std.specs.Vec.{with_items}
use Rattle.obs_network.specs.Network.{rows_of}
use Rattle.obs_cert.specs.Flaws.{not_inside, outside_of, rank_of_items}
use Rattle.obs_cert.specs.Numbered.{items_of}
use Rattle.obs_cert.specs.inner.Ready.{IsReadyFor}
use Rattle.obs_cert.specs.Scopes.{scope_of}
use Rattle.obs_cert.specs.inner.Scopes.{OfItems}
use Rattle.obs_cert.specs.inner.Walked.{parts_in}
use Rattle.obs_cert.proofs.ClaimLemmas.{bound_high, bound_rank, bound_right, bound_wrong, free_of, outside_counted, ready_measured}
use Rattle.obs_cert.proofs.claims.numbers.Goals as goal
use Rattle.obs_cert.proofs.claims.numbers.Goals.{After-from-2, After-measure_listed-rank}

rank_is : (c : After-from-2) → rank_of_items c.args.present.now (items_of c.args.present.now (parts_in c.args.rest.now).inside) ≡ c.args.stated.rank
rank_is c = sym c.measure_listed-rank.ensures.rank ∙ sym c.from.ensures ∙ c.if-from-stated.false

outside_is : (c : After-from-2) (test : ℕ → Bool) → c.args.scope ≡ length (scope_of c.args.present.now test) → OfItems c.args.present.now test
    → not_inside test (items_of c.args.present.now (parts_in c.args.rest.now).inside) ≡ false → outside_of c.args.present.now test (items_of c.args.present.now (parts_in c.args.rest.now).inside) ≡ c.from-2.result
outside_is c test is of inside =
    outside_counted c.args.present.now test (parts_in c.args.rest.now).inside c.args.scope c.count.result (let f = c.ranges.scope in omega (arith, f)) is of inside c.requires.once
    (rw (sym c.walk_items.ensures.items) c.count.ensures.count) ∙ sym c.saturating_sub-outside.ensures ∙ sym c.from-2.ensures

pub returns-then-from-stated-2-clause-flaw : goal.returns-then-from-stated-2-clause-flaw
returns-then-from-stated-2-clause-flaw c test is of inside =
    let at = (goal.at.returns-then-from-stated-2-clause-flaw c).After-from-2 in
    bound_wrong c.args.present.now test (items_of c.args.present.now (parts_in c.args.rest.now).inside) c.args.stated.rank c.args.stated.outside c.args.stated.need (rank_is at)
    (λ e. c.if-from-stated-2.true (sym (outside_is at test is of inside) ∙ e))

pub returns-then-saturating_add-from-clause-flaw : goal.returns-then-saturating_add-from-clause-flaw
returns-then-saturating_add-from-clause-flaw c test is of inside =
    let at = (goal.at.returns-then-saturating_add-from-clause-flaw c).After-from-2 in
    let s = c.saturating_add.ensures in
    let f = c.from-3.ensures in
    let h = c.if-saturating_add-from.true in
    bound_high c.args.present.now test (items_of c.args.present.now (parts_in c.args.rest.now).inside) c.args.stated.rank c.args.stated.outside c.args.stated.need (rank_is at)
    (outside_is at test is of inside ∙ c.if-from-stated-2.false) (grind (arith, s, f, h))

pub returns-clause-flaw : goal.returns-clause-flaw
returns-clause-flaw c test is of inside =
    let at = (goal.at.returns-clause-flaw c).After-from-2 in
    let s = c.saturating_add.ensures in
    let f = c.from-3.ensures in
    let h = c.if-saturating_add-from.false in
    let few = c.from-3.type_inv in
    bound_right c.args.present.now test (items_of c.args.present.now (parts_in c.args.rest.now).inside) c.args.stated.rank c.args.stated.outside c.args.stated.need (rank_is at)
    (outside_is at test is of inside ∙ c.if-from-stated-2.false) (grind (arith, s, f, h, few))

ready : (c : After-measure_listed-rank) (stamp : ℕ) → IsReadyFor c.args.present.now stamp c.args.work.now → IsReadyFor c.args.present.now stamp (record c.args.work.now {
  hubs = c.measure_listed-rank.new.hubs;
  stars = with_items c.args.work.now.stars c.measure_listed-rank.new.stars;
  ups = with_items c.args.work.now.ups c.measure_listed-rank.new.ups;
  moved = with_items c.args.work.now.moved c.measure_listed-rank.new.moved;
})
ready c stamp r =
    let j = c.measure_listed-rank in
    ready_measured c.args.present.now stamp c.args.work.now j.new.hubs j.new.stars j.new.ups j.new.moved r j.ensures.hubs
    (j.auto.stars ∙ ap length c.deref_mut.ensures.value) (j.auto.ups ∙ ap length c.deref_mut-2.ensures.value) (j.auto.moved ∙ ap length c.deref_mut-3.ensures.value) j.ensures.clear j.ensures.kept

pub returns-then-from-stated-clause-ready : goal.returns-then-from-stated-clause-ready
returns-then-from-stated-clause-ready c = ready (goal.at.returns-then-from-stated-clause-ready c).After-measure_listed-rank

pub returns-then-from-stated-2-clause-ready : goal.returns-then-from-stated-2-clause-ready
returns-then-from-stated-2-clause-ready c = ready (goal.at.returns-then-from-stated-2-clause-ready c).After-measure_listed-rank

pub returns-then-saturating_add-from-clause-ready : goal.returns-then-saturating_add-from-clause-ready
returns-then-saturating_add-from-clause-ready c = ready (goal.at.returns-then-saturating_add-from-clause-ready c).After-measure_listed-rank

pub returns-clause-ready : goal.returns-clause-ready
returns-clause-ready c = ready (goal.at.returns-clause-ready c).After-measure_listed-rank

pub measure_listed-rank-requires-clause-stars : goal.measure_listed-rank-requires-clause-stars
measure_listed-rank-requires-clause-stars c = rw (c.deref_mut-2.ensures.value, c.deref_mut.ensures.value) c.requires.ready.1.room.stars

pub measure_listed-rank-requires-clause-kept : goal.measure_listed-rank-requires-clause-kept
measure_listed-rank-requires-clause-kept c = rw c.deref_mut.ensures.value c.requires.ready.1.known

pub returns-then-from-stated-clause-flaw : goal.returns-then-from-stated-clause-flaw
returns-then-from-stated-clause-flaw c test is of inside =
    bound_rank c.args.present.now test (items_of c.args.present.now (parts_in c.args.rest.now).inside) c.args.stated.rank c.args.stated.outside c.args.stated.need
    (λ e. c.if-from-stated.true (c.from.ensures ∙ c.measure_listed-rank.ensures.rank ∙ e))

pub measure_listed-rank-requires-clause-hubs : goal.measure_listed-rank-requires-clause-hubs
measure_listed-rank-requires-clause-hubs c = rw c.deref_mut-2.ensures.value c.requires.ready.1.room.hubs

pub measure_listed-rank-requires-clause-links : goal.measure_listed-rank-requires-clause-links
measure_listed-rank-requires-clause-links c = rw c.deref.ensures.value c.requires.ready.1.links

pub measure_listed-rank-requires-clause-free : goal.measure_listed-rank-requires-clause-free
measure_listed-rank-requires-clause-free c =
    let r = c.requires.ready.1 in
    rw (c.deref_mut-2.ensures.value, c.deref_mut-3.ensures.value) (free_of (rows_of c.args.present.now) c.args.work.now r.room r.clear)
