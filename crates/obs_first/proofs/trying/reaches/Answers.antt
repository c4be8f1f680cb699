use Rattle.std.proofs.Common.{set, sym, subst, arith}
use Rattle.obs_assign.specs.Assignment.{Assignment}
use Rattle.obs_assign.specs.inner.Assignment.{has_flag}
use Rattle.obs_meter.specs.declared.Touch.TheVariants.{Edge}
use Rattle.obs_exchange.specs.declared.Sources.TheVariants.{All, One}
use Rattle.obs_exchange.specs.inner.Closed.{IsLeastClosedAt}
use Rattle.obs_exchange.specs.inner.Noting.{AreNoted, Noted}
use Rattle.obs_exchange.proofs.Walking.{touched_low}
use Rattle.obs_first.proofs.Changed.{grown_noted, has_edge, noted_with_edge, stands_with_edge}
use Rattle.obs_first.proofs.Going.{IsMoved-left, IsMoved-searched}
use Rattle.obs_first.proofs.trying.reaches.Goals as goal

pub search_by-requires : goal.search_by-requires
search_by-requires g c =
    let graph = c.args.over.now.graph.now in
    let touches = c.args.over.now.meters.now.touches in
    let ready = c.requires.ready.1 in
    let low = c.requires.without.low in
    record {
      stands = ready.stands;
      in_range = ready.in_range;
      room = ready.prepared.room;
      copied = ready.prepared.copied;
      m = low;
      bare = c.requires.without.bare;
      touch = touched_low graph.ends touches c.args.m c.args.e c.requires.touched;
      begins = (omega (arith, ready.stands.meters, low), c.requires.without.bare);
      noted = noted_with_edge graph touches c.args.m c.args.e low c.requires.touched c.args.a.now c.args.work.now.noted ready.prepared.noted;
    }

pub returns-in-Grown : goal.returns-in-Grown
returns-in-Grown g c =
    let graph = c.args.over.now.graph.now in
    let touches = c.args.over.now.meters.now.touches in
    let a = c.args.a.now in
    let b = c.search_by.new.a in
    let w = c.search_by.new.work in
    let e = c.search_by.ensures in
    let f = c.in-Grown.ensures.found in
    let low = c.requires.without.low in
    let n = f.longer in
    record {
      same = λ e. absurd cc;
      reached = record { enough = omega (arith, n); has = has_edge graph touches c.args.m c.args.e low c.requires.touched b e.stands };
      moved = IsMoved-searched graph touches a b c.args.work.now w e.same_sizes e.copied e.same_loose (stands_with_edge graph touches c.args.m c.args.e low c.requires.touched b e.stands) e.whole e.same_room
          f.frozen_pairs f.frozen
          (subst (λ (k : Noted). AreNoted graph.ends touches All b k) (sym e.noted)
          (grown_noted graph.ends touches (set touches c.args.m (Edge c.args.e)) (One c.args.m) a b c.in-Grown.field-0 f c.args.work.now.noted c.requires.ready.1.prepared.noted));
    }

pub returns-in-Closed : goal.returns-in-Closed
returns-in-Closed g c =
    let graph = c.args.over.now.graph.now in
    let touches = c.args.over.now.meters.now.touches in
    let e = c.search_by.ensures in
    let f = c.in-Closed.ensures.found in
    let flags = has_flag c.search_by.new.work.reached in
    record {
      same = λ e. f.same;
      reached = (flags, subst (λ (x : Assignment). IsLeastClosedAt graph.ends (set touches c.args.m (Edge c.args.e)) (One c.args.m) x flags) (sym f.same) f.least);
      moved = IsMoved-left graph touches c.args.a.now c.search_by.new.a c.args.work.now c.search_by.new.work e.same_sizes e.copied e.same_loose f.same e.noted;
    }
