use Rattle.std.proofs.Common.{◌≡◌, List, length, take, refl, ap, sym, subst, ◌∙◌, arith}
use Rattle.obs_graph.specs.Graph.{Graph}
use Rattle.obs_meter.specs.declared.Touch.{Touch}
use Rattle.obs_meter.specs.inner.Touches.{AreInRange}
use Rattle.obs_assign.specs.inner.Assignment.{StandsOver}
use Rattle.obs_exchange.specs.inner.Found.{AreListed, HasClosed, HasGrown, Work, searched}
use Rattle.obs_exchange.specs.inner.Noting.{AreNoted, Noted}
use Rattle.obs_exchange.specs.inner.Setting.{shut_by}
use Rattle.obs_exchange.proofs.Beginning.{sources_low}
use Rattle.obs_exchange.proofs.Closing.{HasClosed-flags}
use Rattle.obs_exchange.proofs.work.Work.run.Goals as goal

pub new-requires : goal.new-requires
new-requires g c =
    let r = c.requires.can in
    let is = sym (c.picked-ms.ensures.touches ∙ ap (λ (w : Work). searched c.args.copied w.touches c.args.ms.now.touches) c.self.view_is) in
    let stands = subst (λ (X : List Touch). StandsOver c.args.a.now c.args.g.now X) is r.stands in
    record {
      stands = stands;
      in_range = subst (λ (X : List Touch). AreInRange c.args.g.now X) is r.in_range;
      low = sources_low c.args.from c.args.a.now c.args.g.now c.picked-ms.result.now.touches r.begins stands;
    }

pub shut-requires : goal.shut-requires
shut-requires g c =
    let r = c.requires.can in
    let is = sym (c.picked-ms.ensures.touches ∙ ap (λ (w : Work). searched c.args.copied w.touches c.args.ms.now.touches) c.self.view_is) in
    let stands = subst (λ (X : List Touch). StandsOver c.args.a.now c.args.g.now X) is r.stands in
    record {
      stands = stands;
      in_range = subst (λ (X : List Touch). AreInRange c.args.g.now X) is r.in_range;
      low = sources_low c.args.from c.args.a.now c.args.g.now c.picked-ms.result.now.touches r.begins stands;
    }

pub find-found-requires : goal.find-found-requires
find-found-requires g c =
    let r = c.requires.can in
    let n = c.new.ensures.over in
    let s = c.shut.ensures.over in
    let view = c.self.view_is in
    let most = ap (λ (w : Work). w.sizes.meters) view in
    let is : c.new.result.touches ≡ searched c.args.copied c.args.self.now.touches c.args.ms.now.touches = n.touches ∙ c.picked-ms.ensures.touches ∙ ap (λ (w : Work). searched c.args.copied w.touches c.args.ms.now.touches) view in
    record {
      can = record {
        sound = n.sound;
        passes = record {
          shut = c.all.result.now;
          graph = s.graph ∙ sym n.graph;
          touches = s.touches ∙ sym n.touches;
          assignment = s.assignment ∙ ap (shut_by c.all.result.now) (sym n.assignment);
          sources = s.sources ∙ sym n.sources;
          room = s.room ∙ sym n.room;
          sound = s.sound;
        };
        noted = record {
          room = omega (arith, ap length is, most, r.room.meters, c.self.invariant.2);
          noted = rw (n.graph, is, n.assignment, n.sources) (subst (λ (x : Noted). AreNoted c.args.g.now.ends (searched c.args.copied c.args.self.now.touches c.args.ms.now.touches) c.args.from c.args.a.now x) (sym (ap (λ (w : Work). w.noted) view)) r.noted);
        };
        tried = rw n.sources c.start-start.ensures.tried;
        searched = rw n.sources c.start-start.ensures.searched;
      };
      meters = omega (arith, ap length is, most, r.room.meters);
      branches = omega (arith, ap (λ (x : Graph). length x.ends) n.graph, ap (λ (w : Work). w.sizes.branches) view, r.room.branches);
      vertices = omega (arith, ap (λ (x : Graph). x.vertices) n.graph, ap (λ (w : Work). w.sizes.vertices) view, r.room.vertices);
      room = n.room ∙ c.vertices-room.ensures.vertices;
    }

pub path-path-requires : goal.path-path-requires
path-path-requires g c = record { k = c.in-Ok.ensures.found.bound }

pub grow-m-requires : goal.grow-m-requires
grow-m-requires g c =
    let n = c.new.ensures.over in
    record {
      stands = subst (λ (X : List Touch). StandsOver c.args.a.now c.args.g.now X) (sym (c.picked-ms.ensures.touches ∙ ap (λ (w : Work). searched c.args.copied w.touches c.args.ms.now.touches) c.self.view_is)) c.requires.can.stands;
      can = rw c.path-path.ensures.path (rw (n.graph, n.touches, n.assignment) at c.in-Ok.ensures.found.ready.can);
    }

pub invariant_of-self : goal.invariant_of-self
invariant_of-self g c =
    let i = c.self.invariant in
    let same = c.find-found.ensures.same_meters in
    let is : c.picked-ms.result.now.touches ≡ searched c.args.copied c.args.self.now.touches c.args.ms.now.touches = c.picked-ms.ensures.touches ∙ ap (λ (w : Work). searched c.args.copied w.touches c.args.ms.now.touches) c.self.view_is in (
      omega (arith, c.count.ensures.count, same, ap (λ (w : Work). w.sizes.meters) c.self.view_is, ap length is, c.requires.can.room.meters),
      omega (arith, i.1, same),
      i.2 ∙ sym same,
      i.3 ∙ sym same,
      i.4 ∙ sym same,
    )

pub invariant_of-self-in-Err : goal.invariant_of-self-in-Err
invariant_of-self-in-Err g c =
    let i = c.self.invariant in
    let same = c.find-found.ensures.same_meters in
    let is : c.picked-ms.result.now.touches ≡ searched c.args.copied c.args.self.now.touches c.args.ms.now.touches = c.picked-ms.ensures.touches ∙ ap (λ (w : Work). searched c.args.copied w.touches c.args.ms.now.touches) c.self.view_is in (
      omega (arith, c.count.ensures.count, same, ap (λ (w : Work). w.sizes.meters) c.self.view_is, ap length is, c.requires.can.room.meters),
      c.in-Err.ensures.found.few,
      i.2 ∙ sym same,
      i.3 ∙ sym same,
      i.4 ∙ sym same,
    )

pub returns-in-Ok : goal.returns-in-Ok
returns-in-Ok g c =
    let n = c.new.ensures.over in
    let f = c.find-found.ensures in
    let k = c.grow-m.ensures in
    let view = c.self.view_is in
    let is : c.picked-ms.result.now.touches ≡ searched c.args.copied c.args.self.now.touches c.args.ms.now.touches = c.picked-ms.ensures.touches ∙ ap (λ (w : Work). searched c.args.copied w.touches c.args.ms.now.touches) view in
    record {
      run = record {
        finds = subst (λ (X : List Touch). HasGrown c.args.g.now.ends X c.args.from c.args.a.now c.grow-m.new.a c.grow-m.result) is
            (k.grown c.args.from (rw c.path-path.ensures.path (rw (n.graph, n.touches, n.assignment, n.sources) at c.in-Ok.ensures.found.ready.begins)));
        lists = λ e. absurd (cc e);
        rest = record {
          noted = ap (λ (w : Work). w.noted) view;
          touches = ap (λ (w : Work). w.touches) view;
          loose = ap (λ (w : Work). w.loose) view;
          sizes = rw (f.same_meters, f.same_branches, f.same_vertices) (ap (λ (w : Work). w.sizes) view);
        };
        stands = subst (λ (X : List Touch). StandsOver c.grow-m.new.a c.args.g.now X) is k.stands;
        whole = k.whole;
        same_room = k.same_room;
      };
      tick = k.tick;
    }

pub returns-in-Err-clause-run : goal.returns-in-Err-clause-run
returns-in-Err-clause-run g c =
    let n = c.new.ensures.over in
    let f = c.find-found in
    let e = f.ensures in
    let view = c.self.view_is in
    let most = ap (λ (w : Work). w.sizes.meters) view in
    let is : c.picked-ms.result.now.touches ≡ searched c.args.copied c.args.self.now.touches c.args.ms.now.touches = c.picked-ms.ensures.touches ∙ ap (λ (w : Work). searched c.args.copied w.touches c.args.ms.now.touches) view in
    let found = c.in-Err.ensures.found in
    record {
      finds = subst (λ (X : List Touch). HasClosed c.args.g.now.ends X c.args.from c.args.a.now c.args.a.now (take c.count.result f.new.self.trail.marks)) is
          (rw (n.graph, n.touches, n.assignment, n.sources) at
          (HasClosed-flags c.new.result n.sound f.new.self.trail.marks c.count.result (rw n.touches c.count.ensures.count)
          (rw n.touches (omega (arith, e.same_meters, most, ap length is, c.requires.can.room.meters))) found.least));
      lists = λ closed. subst (λ k. AreListed (take k f.new.self.trail.marks) (take c.in-Err.count f.new.self.trail.queue)) (ap length n.touches ∙ sym c.count.ensures.count) found.listed;
      rest = record {
        noted = ap (λ (w : Work). w.noted) view;
        touches = ap (λ (w : Work). w.touches) view;
        loose = ap (λ (w : Work). w.loose) view;
        sizes = rw (e.same_meters, e.same_branches, e.same_vertices) (ap (λ (w : Work). w.sizes) view);
      };
      stands = c.requires.can.stands;
      whole = c.length-self-inside.ensures.whole;
      same_room = record { meters = refl; vertices = refl; branches = refl };
    }
