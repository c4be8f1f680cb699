use Rattle.std.proofs.Common.{◌≡◌, Bool, true, false, List, inl, inr, length, refl, sym, ap, subst, arith}
use Rattle.obs_assign.specs.inner.Assignment.{has_flag}
use Rattle.obs_meter.specs.inner.Sizes.{HasRoomFor}
use Rattle.obs_kept.proofs.OfNetwork.{room_stays}
use Rattle.obs_outage.proofs.Readied.{ready_again}
use Rattle.obs_outage.proofs.short_way.settle.Goals as goal

pub meter_of-requires : goal.meter_of-requires
meter_of-requires g c =
    let row = c.requires.row in
    let rows = c.requires.ready.rows in
    let held = c.requires.ready.longest.stands.forest.positions in
    record { e = omega (arith, row, rows, held) }

pub bounds-costly-e : goal.bounds-costly-e
bounds-costly-e g c =
    let row = c.requires.row in
    let rows = c.requires.ready.rows in
    let flags = c.requires.ready.told.flags.costly in
    let same = ap (λ (xs : List Bool). length xs) c.costly.ensures.costly in
    omega (arith, row, rows, flags, same)

pub leave_out-requires : goal.leave_out-requires
leave_out-requires g c = record { copy = c.requires.ready.copy; row = let row = c.requires.row in let rows = c.requires.ready.rows in omega (arith, row, rows) }

pub put_back-requires : goal.put_back-requires
put_back-requires g c = record { without = c.leave_out.ensures.without }

pub look_for_other-requires : goal.look_for_other-requires
look_for_other-requires g c =
    let row = c.requires.row in
    let k = c.args.kept.now in
    record {
      without = c.leave_out.ensures.without;
      branches = c.requires.ready.branches;
      longest = c.requires.ready.longest;
      owner = c.in-Some.ensures.meter;
      critical = c.requires.ready.told.settled c.args.e c.in-Some.m row c.requires.unspared
          (subst (λ (xs : List Bool). has_flag xs c.args.e ≡ false) c.costly.ensures.costly c.if-costly-e.false)
          (c.requires.ready.longest.stands.touched c.in-Some.m c.args.e c.in-Some.ensures.meter);
      room = subst (λ s. HasRoomFor s k.network.graph k.network.meters.touches) (sym c.requires.ready.room.work) c.requires.ready.fits;
    }

pub returns : goal.returns
returns g c =
    let k = c.args.kept.now in
    let after = c.look_for_other.ensures in
    record {
      settled = after.settled;
      ready = ready_again k c.args.without.now c.args.spared.now c.requires.ready _ _ refl after.longest
          (room_stays k.network k.pairs c.look_for_other.new.pairs k.work c.look_for_other.new.work c.requires.ready.room after.same_room after.same_sizes) c.put_back.ensures.copy;
      network = refl;
      quiet = λ missed. absurd (missed c.in-Some.m c.in-Some.ensures.meter);
    }

pub returns-then-costly-e : goal.returns-then-costly-e
returns-then-costly-e g c = record {
  settled = inr (c.requires.ready.told.costly c.args.e (subst (λ (xs : List Bool). has_flag xs c.args.e ≡ true) c.costly.ensures.costly c.if-costly-e.true));
  ready = c.requires.ready;
  network = refl;
  quiet = λ missed. (refl, refl);
}

pub returns-in_default : goal.returns-in_default
returns-in_default g c = record { settled = inl c.in_default.ensures.none; ready = c.requires.ready; network = refl; quiet = λ missed. (refl, refl) }
