use Rattle.std.proofs.Common.{◌≡◌, ◌-◌, Bool, List, true, false, inl, inr, length, refl, ap, ◌∙◌, subst, arith}
use Rattle.obs_assign.specs.inner.Assignment.{has_flag}
use Rattle.obs_network.specs.Network.{Network}
use Rattle.obs_kept.specs.inner.Kept.{AreLongestOver}
use Rattle.obs_outage.proofs.Joined.{spared_over}
use Rattle.obs_outage.proofs.short_way.rank_without.Goals as goal

pub bounds-flags-e : goal.bounds-flags-e
bounds-flags-e g c =
    let row = c.requires.row in
    let rows = c.requires.ready.rows in
    let flags = c.requires.ready.told.flags.branches in
    let same = ap (λ (xs : List Bool). length xs) c.flags.ensures.flags in
    omega (arith, row, rows, flags, same)

pub settle-requires : goal.settle-requires
settle-requires g c = record {
  ready = c.requires.ready;
  row = c.requires.row;
  unspared = subst (λ (xs : List Bool). has_flag xs c.args.e ≡ false) c.flags.ensures.flags c.if-flags-e.false;
}

pub meter_of-requires : goal.meter_of-requires
meter_of-requires g c =
    let row = c.requires.row in
    let rows = c.requires.ready.rows in
    let same = ap (λ (n : Network). length n.graph.ends) c.settle.ensures.network in
    let held = c.settle.ensures.ready.longest.stands.forest.positions in
    record { e = omega (arith, row, rows, held, same) }

pub returns-then-flags-e : goal.returns-then-flags-e
returns-then-flags-e g c = record {
  rank = inl (c.length.ensures.length, c.requires.ready.told.spared c.args.e (subst (λ (xs : List Bool). has_flag xs c.args.e ≡ true) c.flags.ensures.flags c.if-flags-e.true));
  ready = c.requires.ready;
  network = refl;
  quiet = λ missed. (refl, refl);
}

pub returns-in-Some : goal.returns-in-Some
returns-in-Some g c = record {
  rank = inr (
    c.saturating_sub.ensures ∙ ap (λ n. n - 1) c.length-most.ensures.length,
    elim c.settle.ensures.settled [ inl missed ↦ absurd (missed c.in-Some.field-0 c.in-Some.ensures.meter) | inr costly ↦ costly ],
  );
  ready = c.settle.ensures.ready;
  network = c.settle.ensures.network;
  quiet = c.settle.ensures.quiet;
}

pub returns-in-None : goal.returns-in-None
returns-in-None g c = record {
  rank = inl (
    c.length-most.ensures.length,
    spared_over c.args.kept.now.network c.settle.new.kept.pairs (subst (λ (n : Network). AreLongestOver n c.settle.new.kept.pairs) c.settle.ensures.network c.settle.ensures.ready.longest) c.args.e c.in-None.ensures.none,
  );
  ready = c.settle.ensures.ready;
  network = c.settle.ensures.network;
  quiet = c.settle.ensures.quiet;
}
