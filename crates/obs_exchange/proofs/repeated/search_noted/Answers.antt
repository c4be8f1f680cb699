use Rattle.std.proofs.Common.{◌≡◌, ◌∙◌, false, set, sym, ap, subst, arith}
use Rattle.obs_meter.specs.inner.Sizes.{Sizes}
use Rattle.obs_meter.proofs.Live.{live_low}
use Rattle.obs_exchange.specs.declared.Sources.TheVariants.{All}
use Rattle.obs_exchange.specs.inner.Found.{Work}
use Rattle.obs_exchange.specs.inner.Noting.{AreNoted, Noted}
use Rattle.obs_exchange.proofs.Noting.{AreNoted-grown}
use Rattle.obs_exchange.proofs.repeated.search_noted.Goals as goal

pub run-requires : goal.run-requires
run-requires g c = record { can = c.requires.can }

pub note-requires : goal.note-requires
note-requires g c =
    let l = live_low c.args.g.now.ends c.args.ms.now.touches c.in-Grown.m c.in-Grown.ensures.run.finds.source.0 in
    let same = ap (λ (s : Sizes). s.meters) c.run.ensures.run.rest.sizes in
    record { m = omega (arith, l, same, c.requires.can.room.meters) }

pub returns-in-Grown : goal.returns-in-Grown
returns-in-Grown g c =
    let ends = c.args.g.now.ends in
    let touches = c.args.ms.now.touches in
    let a = c.args.a.now in
    let b = c.run.new.a in
    let n = c.args.work.now.noted in
    let m = c.in-Grown.m in
    let h = c.in-Grown.ensures.run in
    let is : c.note.new.self.noted ≡ record n { flags = set n.flags m false } =
    ap (λ (w : Work). w.noted) c.note.ensures.noted ∙ ap (λ (k : Noted). record k { flags = set k.flags m false }) h.rest.noted in
    record {
      found = h.finds;
      noted = subst (λ (k : Noted). AreNoted ends touches All b k) (sym is) (AreNoted-grown ends touches All a b m n h.finds c.requires.can.noted);
      tick = c.run.ensures.tick;
      stands = h.stands;
      whole = h.whole;
      same_room = h.same_room;
      same_sizes = ap (λ (w : Work). w.sizes) c.note.ensures.noted ∙ h.rest.sizes;
    }

pub returns-in-Closed : goal.returns-in-Closed
returns-in-Closed g c =
    let h = c.in-Closed.ensures.run in
    record {
      found = h.finds;
      noted = rw (h.rest.noted, h.finds.same) c.requires.can.noted;
      tick = c.run.ensures.tick;
      stands = h.stands;
      whole = h.whole;
      same_room = h.same_room;
      same_sizes = h.rest.sizes;
    }
