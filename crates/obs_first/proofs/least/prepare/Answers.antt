use Rattle.std.proofs.Common.{◌≡◌, ◌≤◌, ◌∙◌, Bool, List, length, sym, ap, subst, arith}
use Rattle.obs_assign.specs.Assignment.{Assignment}
use Rattle.obs_assign.specs.inner.Assignment.{StandsOver, has_flag, pairs}
use Rattle.obs_meter.specs.inner.Sizes.{Sizes}
use Rattle.obs_exchange.specs.declared.Sources.TheVariants.{All}
use Rattle.obs_exchange.specs.inner.Closed.{IsLeastClosedAt}
use Rattle.obs_exchange.specs.inner.Found.{Work}
use Rattle.obs_exchange.specs.inner.Noting.{AreNoted}
use Rattle.obs_exchange.proofs.Lengthening.{room_again}
use Rattle.obs_first.specs.inner.Deciding.{AreCriticalBeside, IsReady}
use Rattle.obs_first.proofs.Beside.{AreCriticalBeside-loose, AreCriticalBeside-narrowed}
use Rattle.obs_first.proofs.least.prepare.Goals as goal

pub close-requires : goal.close-requires
close-requires g c = record { longest = c.requires.longest; in_range = c.requires.in_range; room = c.requires.room }

pub note_sources-requires : goal.note_sources-requires
note_sources-requires g c =
    let sizes = ap (λ (w : Work). w.sizes) c.narrow.ensures.same ∙ (ap (λ (w : Work). w.sizes) c.loosen.ensures.same ∙ c.close.ensures.same_sizes) in
    record {
      stands = subst (λ (x : Assignment). StandsOver x c.args.g.now c.args.ms.now.touches) (sym c.close.ensures.same) c.requires.longest.stands;
      in_range = c.requires.in_range;
      room = room_again c.args.g.now c.args.ms.now.touches c.args.work.now.sizes c.narrow.new.self.sizes sizes c.requires.room;
    }

pub note_near-requires : goal.note_near-requires
note_near-requires g c = record {
  in_range = c.requires.in_range;
  meters = subst (λ (x : Assignment). length c.args.ms.now.touches ≡ length x.slots) (sym c.close.ensures.same) c.requires.longest.stands.meters;
}

pub returns : goal.returns
returns g c =
    let ends = c.args.g.now.ends in
    let touches = c.args.ms.now.touches in
    let a = c.args.a.now in
    let l = c.requires.longest in
    let f = c.close.ensures.closed in
    let loosened = c.loosen.new.self in
    let same = c.close.ensures.same in
    let sizes = ap (λ (w : Work). w.sizes) c.narrow.ensures.same ∙ (ap (λ (w : Work). w.sizes) c.loosen.ensures.same ∙ c.close.ensures.same_sizes) in
    let reached : loosened.reached ≡ c.close.new.work.reached = ap (λ (w : Work). w.reached) c.loosen.ensures.same in
    let least : IsLeastClosedAt ends touches All a (has_flag loosened.reached) =
    subst (λ (x : Assignment). IsLeastClosedAt ends touches All x (has_flag loosened.reached)) same
    (subst (λ (r : List Bool). IsLeastClosedAt ends touches All c.close.new.a (has_flag r)) (sym reached) f.least) in
    let many : length touches ≤ length loosened.reached = omega (arith, ap length reached, f.flags) in
    let few : length touches ≤ c.close.new.work.sizes.meters = omega (arith, ap (λ (s : Sizes). s.meters) c.close.ensures.same_sizes, c.requires.room.meters) in
    let sources = c.note_sources.ensures in
    record {
      same = same;
      ready = rw (c.list_touching.ensures.same ∙ c.note_near.ensures.same) (subst (λ (x : Assignment). IsReady c.args.g.now touches x c.note_sources.new.self (length (pairs a))) (sym same) (record {
        branches = c.requires.branches;
        in_range = c.requires.in_range;
        stands = l.stands;
        whole = l.whole;
        prepared = record {
          room = room_again c.args.g.now touches c.args.work.now.sizes c.note_sources.new.self.sizes (sources.same_sizes ∙ sizes) c.requires.room;
          noted = subst (λ (x : Assignment). AreNoted ends touches All x c.note_sources.new.self.noted) same sources.noted;
          copied = sources.copied;
          critical = subst (λ (r : List Bool). AreCriticalBeside ends touches a r (length (pairs a))) (sym sources.same_loose)
              (AreCriticalBeside-narrowed c.args.g.now touches a (length (pairs a)) c.requires.branches l.whole l.stands (omega arith) loosened.loose loosened.reached c.narrow.new.self.loose many c.narrow.ensures.loose
              least.closed least.holds (AreCriticalBeside-loose ends touches a loosened.loose (length (pairs a)) c.close.new.work.sizes.meters few c.loosen.ensures.loose));
        };
      }));
      same_sizes = ap (λ (w : Work). w.sizes) (c.list_touching.ensures.same ∙ c.note_near.ensures.same) ∙ (sources.same_sizes ∙ sizes);
    }
