use Rattle.std.proofs.Common.{refl, sym, subst, arith}
use Rattle.obs_meter.specs.inner.Sizes.{HasRoomFor}
use Rattle.obs_kept.proofs.OfNetwork.{room_stays}
use Rattle.obs_outage.proofs.Readied.{ready_again}
use Rattle.obs_outage.proofs.short_way.miss.Goals as goal

pub meter_of-requires : goal.meter_of-requires
meter_of-requires g c =
    let row = c.requires.row in
    let rows = c.requires.ready.rows in
    let held = c.requires.ready.longest.stands.forest.positions in
    record { e = omega (arith, row, rows, held) }

pub leave_out-requires : goal.leave_out-requires
leave_out-requires g c = record { copy = c.requires.ready.copy; row = let row = c.requires.row in let rows = c.requires.ready.rows in omega (arith, row, rows) }

pub put_back-requires : goal.put_back-requires
put_back-requires g c = record { without = c.leave_out.ensures.without }

pub find_another-missed-requires : goal.find_another-missed-requires
find_another-missed-requires g c =
    let k = c.args.kept.now in
    record {
      without = c.leave_out.ensures.without;
      longest = c.requires.ready.longest;
      owner = c.in-Some.ensures.meter;
      room = subst (λ s. HasRoomFor s k.network.graph k.network.meters.touches) (sym c.requires.ready.room.work) c.requires.ready.fits;
    }

pub returns : goal.returns
returns g c =
    let k = c.args.kept.now in
    let after = c.find_another-missed.ensures in
    record {
      missed = after.missed;
      ready = ready_again k c.args.without.now c.args.spared.now c.requires.ready _ _ refl after.longest
          (room_stays k.network k.pairs c.find_another-missed.new.pairs k.work c.find_another-missed.new.work c.requires.ready.room after.same_room after.same_sizes) c.put_back.ensures.copy;
      network = refl;
      quiet = λ missed. absurd (missed c.in-Some.m c.in-Some.ensures.meter);
    }

pub returns-in_default : goal.returns-in_default
returns-in_default g c = record { missed = λ yes. c.in_default.ensures.none; ready = c.requires.ready; network = refl; quiet = λ missed. (refl, refl) }
