use Rattle.std.proofs.Common.{subst, ◌≡◌, ◌≤◌, ◌<◌, ◌∙◌, ℕ, List, get_or, set, sym, ap, length, arith}
use Rattle.std.proofs.lemmas.List.{length-set}
use Rattle.std.proofs.lemmas.List.Elements.{All-set}
use Rattle.obs_meter.specs.declared.Touch.{Touch}
use Rattle.obs_meter.specs.declared.Touch.TheVariants.{Nothing}
use Rattle.obs_meter.specs.inner.Sizes.{HasRoomFor, Sizes}
use Rattle.obs_meter.specs.inner.Touches.{AreInRange, IsInRange}
use Rattle.obs_assign.specs.inner.Assignment.{StandsOver}
use Rattle.obs_exchange.specs.inner.Found.{IsFound, Work}
use Rattle.obs_exchange.proofs.Changing.{StandsOver-changed, set_back}
use Rattle.obs_exchange.proofs.changed.search_by.Goals as goal

pub change-requires : goal.change-requires
change-requires g c = record { m = omega (arith, c.requires.m, ap length c.requires.copied) }

pub kind-requires : goal.kind-requires
kind-requires g c = record { item = c.requires.m }

pub run-found-requires : goal.run-found-requires
run-found-requires g c =
    let r = c.requires in
    let graph = c.args.g.now in
    let touches = c.args.ms.now.touches in
    let m = c.args.m in
    let t = c.args.touch in
    let is = c.change.ensures.changed in
    let there : c.change.new.self.touches ≡ set touches m t = ap (λ (w : Work). w.touches) is ∙ ap (λ (l : List Touch). set l m t) r.copied in
    record {
      can = record {
        in_range = subst (λ (X : List Touch). AreInRange graph X) (sym there) (All-set (IsInRange graph) touches m t r.touch r.in_range);
        stands = subst (λ (X : List Touch). StandsOver c.args.a.now graph X) (sym there) (StandsOver-changed graph touches m t c.args.a.now r.bare r.stands);
        room = subst (λ (s : Sizes). HasRoomFor s graph c.change.new.self.touches) (sym (ap (λ (w : Work). w.sizes) is))
            (subst (λ (X : List Touch). HasRoomFor c.args.work.now.sizes graph X) (sym there)
            (record { meters = subst (λ (n : ℕ). n ≤ c.args.work.now.sizes.meters) (sym (length-set touches m t)) r.room.meters; branches = r.room.branches; vertices = r.room.vertices }));
        begins = r.begins;
        noted = rw (there, ap (λ (w : Work). w.noted) is) r.noted;
      };
    }

pub change-requires-2 : goal.change-requires-2
change-requires-2 g c =
    let r = c.requires in
    record {
      m = subst (λ (n : ℕ). c.args.m < n)
          (sym (ap length (c.run-found.ensures.run.rest.touches ∙ (ap (λ (w : Work). w.touches) c.change.ensures.changed ∙ ap (λ (l : List Touch). set l c.args.m c.args.touch) r.copied)) ∙ length-set c.args.ms.now.touches c.args.m c.args.touch))
          r.m;
    }

pub returns : goal.returns
returns g c =
    let graph = c.args.g.now in
    let m = c.args.m in
    let t = c.args.touch in
    let old = c.args.work.now.touches in
    let first = c.change.ensures.changed in
    let last = c.change-2.ensures.changed in
    let h = c.run-found.ensures.run in
    let n = c.run-found.new in
    let set_there : c.change.new.self.touches ≡ set old m t = ap (λ (w : Work). w.touches) first in
    let there = set_there ∙ ap (λ (l : List Touch). set l m t) c.requires.copied in
    let own : c.kind.result ≡ get_or old m Nothing = c.kind.ensures.kind ∙ ap (λ (l : List Touch). get_or l m Nothing) (sym c.requires.copied) in
    record {
      found = rw (ap (λ (w : Work). w.reached) last) (subst (λ (X : List Touch). IsFound graph.ends X c.args.from c.args.a.now n.a n.self.reached c.run-found.result) there h.finds);
      listed = λ is. rw (ap (λ (w : Work). w.reached) last, ap (λ (w : Work). w.listed) last) (h.lists is);
      noted = ap (λ (w : Work). w.noted) last ∙ h.rest.noted ∙ ap (λ (w : Work). w.noted) first;
      copied = ap (λ (w : Work). w.touches) last
          ∙ (ap (λ (l : List Touch). set l m c.kind.result) (h.rest.touches ∙ set_there) ∙ (ap (λ (k : Touch). set (set old m t) m k) own ∙ set_back old m t));
      same_loose = ap (λ (w : Work). w.loose) last ∙ h.rest.loose ∙ ap (λ (w : Work). w.loose) first;
      tick = c.run-found.ensures.tick;
      stands = subst (λ (X : List Touch). StandsOver n.a graph X) there h.stands;
      whole = h.whole;
      same_room = h.same_room;
      same_sizes = ap (λ (w : Work). w.sizes) last ∙ h.rest.sizes ∙ ap (λ (w : Work). w.sizes) first;
    }
