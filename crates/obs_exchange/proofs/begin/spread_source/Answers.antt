use Rattle.std.proofs.Common.{◌<◌, true, None, length, set, sym, ◌∙◌, inl, subst, arith}
use Rattle.obs_exchange.proofs.Beginning.{source_thawed}
use Rattle.obs_exchange.proofs.Queued.{IsSearching-source, flag-kept, source_room}
use Rattle.obs_exchange.specs.inner.Trail.{AreLed, Follows, Trail, pushed}
use Rattle.obs_exchange.proofs.Trails.{Follows-push, Follows-then, RunsOn-same, led_but_pushed}
use Rattle.obs_exchange.proofs.Upward.{AreClasses-kept}
use Rattle.obs_exchange.proofs.begin.spread_source.Goals as goal

pub is_marked-requires : goal.is_marked-requires
is_marked-requires c = let s = c.requires.resting.running.searching in record { m = omega (arith, c.requires.end, s.sound.sources_low, s.marks_len) }

pub is_source-requires : goal.is_source-requires
is_source-requires c = record { first = c.requires.first; end = c.requires.end }

pub push-requires : goal.push-requires
push-requires c =
    let r = c.requires in
    let s = r.resting.running.searching in
    record {
      x = omega (arith, r.end, s.sound.sources_low, s.marks_len);
      tail = source_room c.args.over.now c.args.search.now.trail c.args.m s (omega (arith, r.end, s.sound.sources_low)) (sym c.is_marked.ensures.marked ∙ c.if-is_marked.false);
    }

pub spread-requires : goal.spread-requires
spread-requires c =
    let r = c.requires in
    let p = r.resting.running in
    let s = p.searching in
    let over = c.args.over.now in
    let trail = c.args.search.now.trail in
    let low : c.args.m < length over.touches = omega (arith, r.end, s.sound.sources_low) in
    let source = c.is_source.ensures.source.0 c.if-not-is_source.false in
    rw c.push.ensures.pushed
    (record {
      running = record {
        searching = IsSearching-source over trail c.args.m s low (sym c.is_marked.ensures.marked ∙ c.if-is_marked.false)
            (source_thawed over.graph.ends over.touches over.sources over.assignment c.args.m s.sound.whole source) source;
        starred = p.starred;
        classes = AreClasses-kept over trail.marks c.args.search.now.tops p.classes (set trail.marks c.args.m true)
            (flag-kept trail.marks c.args.m (omega (arith, r.end, s.sound.sources_low, s.marks_len)));
      };
    })

pub returns-then-is_marked : goal.returns-then-is_marked
returns-then-is_marked c = let r = c.requires.resting in
    record { runs_on = RunsOn-same c.args.over.now c.args.search.now r.running; found = r.done; marked = λ s. sym c.is_marked.ensures.marked ∙ c.if-is_marked.true; led = λ x o. inl o }

pub returns-then-not-is_source-clause-runs_on : goal.returns-then-not-is_source-clause-runs_on
returns-then-not-is_source-clause-runs_on c = RunsOn-same c.args.over.now c.args.search.now c.requires.resting.running

pub returns-then-not-is_source-clause-found : goal.returns-then-not-is_source-clause-found
returns-then-not-is_source-clause-found c = c.requires.resting.done

pub returns-clause-runs_on : goal.returns-clause-runs_on
returns-clause-runs_on c =
    let e = c.spread.ensures.runs_on in
    let s = c.requires.resting.running.searching in
    let t = c.args.search.now.trail in
    let n = c.spread.new.search.trail in
    record {
      running = e.running;
      follows = Follows-then t (pushed t c.args.m None) n (Follows-push t c.args.m None (omega (arith, c.requires.end, s.sound.sources_low, s.marks_len)))
          (subst (λ (u : Trail). Follows u n) c.push.ensures.pushed e.follows);
      stars = e.stars;
    }

pub returns-then-not-is_source-clause-led : goal.returns-then-not-is_source-clause-led
returns-then-not-is_source-clause-led c = λ x r. inl r

pub returns-clause-led : goal.returns-clause-led
returns-clause-led c =
    led_but_pushed c.args.search.now.trail c.spread.new.search.trail c.args.m (subst (λ (u : Trail). AreLed u c.spread.new.search.trail) c.push.ensures.pushed c.spread.ensures.led)

pub returns-clause-found : goal.returns-clause-found
returns-clause-found c = c.spread.ensures.found
