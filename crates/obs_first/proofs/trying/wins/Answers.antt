use Rattle.std.proofs.Common.{◌∙◌, set, sym, ap, subst, arith, length-set}
use Rattle.obs_meter.specs.declared.Touch.TheVariants.{Nothing}
use Rattle.obs_meter.specs.inner.Sizes.{Sizes}
use Rattle.obs_meter.proofs.Live.{live_low}
use Rattle.obs_exchange.specs.declared.Sources.TheVariants.{All}
use Rattle.obs_exchange.specs.inner.Found.{Work}
use Rattle.obs_exchange.specs.inner.Noting.{AreNoted, Noted}
use Rattle.obs_first.proofs.Beside.{source_of_all}
use Rattle.obs_first.proofs.Changed.{bare_over, grown_noted_less, noted_without, stands_again}
use Rattle.obs_first.proofs.Going.{IsMoved-left, IsMoved-searched}
use Rattle.obs_first.proofs.trying.wins.Goals as goal

pub search_by-requires : goal.search_by-requires
search_by-requires g c =
    let graph = c.args.over.now.graph.now in
    let touches = c.args.over.now.meters.now.touches in
    let ready = c.requires.ready.1 in
    let low = c.requires.without.low in
    record {
      stands = ready.stands;
      in_range = ready.in_range;
      room = ready.prepared.room;
      copied = ready.prepared.copied;
      m = low;
      bare = c.requires.without.bare;
      touch = tt;
      begins = c.requires.begins;
      noted = λ k s. noted_without graph touches c.args.m low c.args.a.now c.args.work.now.noted ready.prepared.noted k (source_of_all graph.ends (set touches c.args.m Nothing) c.args.from c.args.a.now k s);
    }

pub note-requires : goal.note-requires
note-requires g c =
    let ends = c.args.over.now.graph.now.ends in
    let touches = c.args.over.now.meters.now.touches in
    let over = set touches c.args.m Nothing in
    let l = live_low ends over c.in-Grown.x (source_of_all ends over c.args.from c.args.a.now c.in-Grown.x c.in-Grown.ensures.found.source).0 in
    record { m = omega (arith, l, length-set touches c.args.m Nothing, ap (λ (s : Sizes). s.meters) c.search_by.ensures.same_sizes, c.requires.ready.1.prepared.room.meters) }

pub returns-in-Grown : goal.returns-in-Grown
returns-in-Grown g c =
    let graph = c.args.over.now.graph.now in
    let touches = c.args.over.now.meters.now.touches in
    let a = c.args.a.now in
    let b = c.search_by.new.a in
    let e = c.search_by.ensures in
    let f = c.in-Grown.ensures.found in
    let note = c.note.ensures.noted in
    let low = c.requires.without.low in
    let noted = subst (λ (k : Noted). AreNoted graph.ends touches All a k) (sym e.noted) c.requires.ready.1.prepared.noted in
    record {
      won = f.longer;
      bare = bare_over graph touches c.args.m low b e.stands;
      moved = IsMoved-searched graph touches a b c.args.work.now c.note.new.self (ap (λ (w : Work). w.sizes) note ∙ e.same_sizes) (ap (λ (w : Work). w.touches) note ∙ e.copied)
          (ap (λ (w : Work). w.loose) note ∙ e.same_loose) (stands_again graph touches c.args.m low b e.stands) e.whole e.same_room f.frozen_pairs f.frozen
          (subst (λ (k : Noted). AreNoted graph.ends touches All b k) (sym (ap (λ (w : Work). w.noted) note))
          (grown_noted_less graph.ends touches (set touches c.args.m Nothing) c.args.from a b c.in-Grown.x f c.search_by.new.work.noted noted));
    }

pub returns-in-Closed : goal.returns-in-Closed
returns-in-Closed g c =
    let graph = c.args.over.now.graph.now in
    let touches = c.args.over.now.meters.now.touches in
    let e = c.search_by.ensures in
    let f = c.in-Closed.ensures.found in
    record {
      won = f;
      bare = bare_over graph touches c.args.m c.requires.without.low c.search_by.new.a e.stands;
      moved = IsMoved-left graph touches c.args.a.now c.search_by.new.a c.args.work.now c.search_by.new.work e.same_sizes e.copied e.same_loose f.same e.noted;
    }
