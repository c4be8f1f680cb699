use Rattle.std.proofs.Common.{◌≡◌, ◌∙◌, ℕ, false, length, refl, sym, ap, subst, arith}
use Rattle.obs_meter.specs.Assignments.{IsRhoAt}
use Rattle.obs_meter.specs.Touches.{live_items}
use Rattle.obs_assign.specs.Assignment.{Assignment}
use Rattle.obs_assign.specs.inner.Assignment.{HasRoomOf, StandsOver, has_flag, pairs}
use Rattle.obs_exchange.proofs.Lengthening.{rooms}
use Rattle.obs_assign.proofs.Keeping.{flags_clear}
use Rattle.obs_first.specs.inner.Deciding.{IsReady}
use Rattle.obs_first.proofs.Beside.{thawed_longest}
use Rattle.obs_first.proofs.Counting.{count_none}
use Rattle.obs_first.proofs.Lawful.{Decided-all, Decided-begun}
use Rattle.obs_first.proofs.least.first.Goals as goal

pub prepare-requires : goal.prepare-requires
prepare-requires g c = record {
  branches = c.vertices.ensures.branches;
  longest = thawed_longest c.args.g.now c.args.ms.now.touches c.args.a.now c.thaw-rank.new.a c.thaw-rank.ensures.thawed c.thaw-rank.ensures.whole c.requires.stands c.requires.longest;
  in_range = c.requires.in_range;
  room = c.requires.room;
}

pub loop-m-init : goal.loop-m-init
loop-m-init g c =
    let graph = c.args.g.now in
    let touches = c.args.ms.now.touches in
    let old = c.args.a.now in
    let new = c.thaw-rank.new.a in
    let is = c.thaw-rank.ensures.thawed in
    let rank = sym c.thaw-rank.ensures.length in
    let thawed : (x : ℕ) → has_flag new.frozen x ≡ false = λ x. ap (λ (a : Assignment). has_flag a.frozen x) is ∙ flags_clear (length old.frozen) x in
    let longest = (thawed_longest graph touches old new is c.thaw-rank.ensures.whole c.requires.stands c.requires.longest).longest in
    let same = c.prepare.ensures.same in
    rw same (record {
      decided = Decided-begun graph touches new c.thaw-rank.result (subst (λ r. IsRhoAt graph.ends touches (live_items graph.ends touches) r) rank longest) rank thawed;
      taken = sym (count_none new thawed);
      ready = subst (λ (a : Assignment). IsReady graph touches a c.prepare.new.work c.thaw-rank.result) same (subst (λ r. IsReady graph touches c.prepare.new.a c.prepare.new.work r) rank c.prepare.ensures.ready);
      same_room = subst (λ (a : Assignment). HasRoomOf old a) (sym is) (record { meters = refl; vertices = refl; branches = refl });
      same_sizes = c.prepare.ensures.same_sizes;
    })

pub decide-taken-requires : goal.decide-taken-requires
decide-taken-requires g c =
    let e = c.count-m-end.ensures.count in
    let t = c.loop-m-test.true in
    let i = c.loop-m.invariant in
    record { ready = i.ready; m = omega (arith, e, t); decided = i.decided; taken = i.taken }

pub loop-m-preserved : goal.loop-m-preserved
loop-m-preserved g c =
    let i = c.loop-m.invariant in
    let e = c.decide-taken.ensures in
    let on = e.goes_on in
    record {
      decided = e.decided;
      taken = e.taken;
      ready = on.ready;
      same_room = rooms c.args.a.now c.loop-m.a c.decide-taken.new.a i.same_room on.same_room;
      same_sizes = on.same_sizes ∙ i.same_sizes;
    }

pub returns : goal.returns
returns g c =
    let l = c.loop-m in
    let i = l.invariant in
    let s = i.ready.stands in
    let r = i.same_room in
    let is = c.thaw.ensures.thawed in
    let e = c.count-m-end.ensures.count in
    let up = l.auto.m-end in
    let down = c.loop-m-test.false in
    record {
      first = ap (λ (a : Assignment). pairs a) is
          ∙ Decided-all c.args.g.now c.args.ms.now.touches l.a c.thaw-rank.result c.vertices.ensures.branches i.ready.whole s l.m (omega (arith, e, up, down)) i.decided;
      thawed = λ x. ap (λ (a : Assignment). has_flag a.frozen x) is ∙ flags_clear (length l.a.frozen) x;
      stands = subst (λ (a : Assignment). StandsOver a c.args.g.now c.args.ms.now.touches) (sym is) (record { forest = s.forest; meters = s.meters; touched = s.touched });
      whole = c.thaw.ensures.whole;
      same_room = subst (λ (a : Assignment). HasRoomOf c.args.a.now a) (sym is) (record { meters = r.meters; vertices = r.vertices; branches = r.branches });
      same_sizes = i.same_sizes;
    }
