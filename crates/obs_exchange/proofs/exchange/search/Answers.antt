use Rattle.std.proofs.Common.{ap, subst, sym, ◌∙◌}
use Rattle.obs_meter.specs.inner.Sizes.{HasRoomFor, Sizes}
use Rattle.obs_exchange.specs.inner.Found.{Work}
use Rattle.obs_exchange.proofs.Noting.{AreNoted-all}
use Rattle.obs_exchange.proofs.exchange.search.Goals as goal

pub run-requires : goal.run-requires
run-requires g c =
    let r = c.requires in
    let w = c.note_all.new.self in
    let is = c.note_all.ensures.all in
    record {
      can = record {
        in_range = r.in_range;
        stands = r.stands;
        room = subst (λ (s : Sizes). HasRoomFor s c.args.g.now c.args.ms.now.touches) (sym (ap (λ (x : Work). x.sizes) is)) r.room;
        begins = r.begins;
        noted = AreNoted-all c.args.g.now.ends c.args.ms.now.touches c.args.from c.args.a.now w.noted (ap (λ (x : Work). x.noted.all) is);
      };
    }

pub returns : goal.returns
returns g c = let h = c.run.ensures.run in record {
  found = h.finds;
  listed = h.lists;
  tick = c.run.ensures.tick;
  stands = h.stands;
  whole = h.whole;
  same_room = h.same_room;
  same_sizes = h.rest.sizes ∙ ap (λ (x : Work). x.sizes) c.note_all.ensures.all;
}
