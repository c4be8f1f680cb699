use Rattle.std.proofs.Common.{◌≡◌, Bool, List, false, inl, inr, length, refl, sym, ap, subst, arith}
use Rattle.obs_assign.specs.inner.Assignment.{has_flag}
use Rattle.obs_outage.proofs.bridges.frees.Goals as goal

pub is_confined-requires : goal.is_confined-requires
is_confined-requires g c =
    let l = c.requires.ready.longest in
    let row = c.requires.row in
    let rows = c.requires.ready.rows in
    let held = l.stands.forest.positions in
    record { branch = omega (arith, row, rows, held); whole = l.whole; meters = sym l.stands.meters; one_each = sym held }

pub settle-requires-clause-unspared : goal.settle-requires-clause-unspared
settle-requires-clause-unspared g c = subst (λ (xs : List Bool). has_flag xs c.args.e ≡ false) c.flags.ensures.flags c.if-flags-e.false

pub bounds-flags-e : goal.bounds-flags-e
bounds-flags-e g c =
    let row = c.requires.row in
    let rows = c.requires.ready.rows in
    let flags = c.requires.ready.told.flags.branches in
    let same = ap (λ (xs : List Bool). length xs) c.flags.ensures.flags in
    omega (arith, row, rows, flags, same)

pub returns-then-is_confined : goal.returns-then-is_confined
returns-then-is_confined g c = record {
  freed = λ _. inl (c.is_confined.ensures.confined c.if-is_confined.true);
  ready = c.requires.ready;
  network = refl;
  quiet = λ missed. (refl, refl);
}

pub returns-then-flags-e : goal.returns-then-flags-e
returns-then-flags-e g c = record {
  freed = λ yes. inl (λ m h has hub. absurd (c.miss.ensures.missed yes m has));
  ready = c.miss.ensures.ready;
  network = c.miss.ensures.network;
  quiet = c.miss.ensures.quiet;
}

pub returns : goal.returns
returns g c = record {
  freed = λ _. elim c.settle.ensures.settled [ inl missed ↦ inl (λ m h has hub. absurd (missed m has)) | inr costly ↦ inr costly ];
  ready = c.settle.ensures.ready;
  network = c.settle.ensures.network;
  quiet = c.settle.ensures.quiet;
}
