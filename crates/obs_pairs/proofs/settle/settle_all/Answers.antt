use Rattle.std.proofs.Common.{Bool, List, length, refl, sym, ap, subst, arith}
use Rattle.obs_assign.specs.inner.Assignment.{has_flag}
use Rattle.obs_pairs.specs.inner.Settled.{LacksClass}
use Rattle.obs_pairs.proofs.Moving.{IsMoved-on, IsMoved-same}
use Rattle.obs_pairs.proofs.Settling.{Settled-all, Settled-more, Settled-over}
use Rattle.obs_pairs.proofs.settle.settle_all.Goals as goal
use Rattle.obs_pairs.proofs.settle.settle_all.Goals.{else-waiting-m, then-waiting-m}

pub loop-m-init : goal.loop-m-init
loop-m-init g c = record { settled = c.requires.settled; moved = IsMoved-same refl refl refl refl c.requires.may }

pub search_without-requires : goal.search_without-requires
search_without-requires g c = record { may = c.loop-m.invariant.moved.may; redundant = c.loop-m.invariant.settled.opened c.loop-m.m c.if-waiting-m.true }

pub settle-requires : goal.settle-requires
settle-requires g c =
    let flags = c.search_without.ensures.flags in
    let same = ap length c.reached.ensures.reached in
    let open_flags = c.loop-m.invariant.settled.flags in
    let places = c.loop-m.invariant.settled.places in
    record { waiting = omega (arith, flags, same, open_flags); list = omega (arith, flags, same, places) }

pub loop-m-preserved : goal.loop-m-preserved
loop-m-preserved g c =
    let n = c.args.over.now.graph.now.vertices in
    let ends = c.args.over.now.graph.now.ends in
    let touches = c.args.over.now.meters.now.touches in
    let ok = c.requires.may.search.branches in
    let l = c.loop-m in
    elim c.if-waiting-m.branch [
      | then-waiting-m w ↦
          let e = w.search_without.ensures in
          let lacks : LacksClass n ends touches l.m (has_flag w.reached.result.now) =
          subst (λ (flags : List Bool). LacksClass n ends touches l.m (has_flag flags)) (sym w.reached.ensures.reached) e.lacks in
          rw (w.a-is, w.room-is, w.waiting-is, w.list-is)
          (record {
            settled = Settled-more n ends touches ok l.waiting l.list l.m l.invariant.settled w.if-waiting-m.true w.reached.result.now w.settle.new.waiting w.settle.new.list w.settle.auto.waiting w.settle.auto.list lacks
                w.settle.ensures.waiting w.settle.ensures.list;
            moved = IsMoved-on l.invariant.moved e.moved;
          })
      | else-waiting-m w ↦
          rw (w.a-is, w.room-is, w.waiting-is, w.list-is)
          (record { settled = Settled-over n ends touches ok l.waiting l.list l.m l.invariant.settled w.if-waiting-m.false; moved = l.invariant.moved })
    ]

pub returns : goal.returns
returns g c =
    let graph = c.args.over.now.graph.now in
    let l = c.loop-m in
    let e = c.count-m-end.ensures.count in
    let f = c.loop-m-test.false in
    record {
      keyed = Settled-all graph.vertices graph.ends c.args.over.now.meters.now.touches c.requires.may.search.branches l.waiting l.list l.m l.invariant.settled (omega (arith, e, f));
      moved = l.invariant.moved;
    }
