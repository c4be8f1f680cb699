use Rattle.obs_exchange.proofs.Trails.{Follows-then, RunsOn-same, RunsOn-then}
use Rattle.std.proofs.Common.{inl, inr, arith, sym, ◌∙◌}
use Rattle.std.proofs.lemmas.Bool.{cases_lt}
use Rattle.obs_matroid.proofs.Lists.{clash}
use Rattle.obs_exchange.proofs.Closing.{tail_low}
use Rattle.obs_exchange.proofs.Visiting.{IsSearching-next, visited_marked}
use Rattle.obs_exchange.proofs.visit.spread.Goals as goal

pub next-m-requires : goal.next-m-requires
next-m-requires c =
    let l = c.loop-search in
    let s = l.invariant.runs_on.running.searching in
    let t = tail_low c.args.over.now l.search.trail s in
    let w = c.waits.ensures.waits.0 c.loop-search-test.true in
    record { head = omega (arith, t, w, s.marks_len) }

pub visit-requires : goal.visit-requires
visit-requires c =
    let r = c.loop-search.invariant.runs_on.running in
    record { visiting = record { searching = r.searching; below = c.waits.ensures.waits.0 c.loop-search-test.true; at_head = sym c.next-m.ensures.next }; running = r }

pub advance-requires : goal.advance-requires
advance-requires c =
    let v = c.visit.ensures.visiting in
    let t = tail_low c.args.over.now c.visit.new.search.trail v.searching in
    record { head = omega (arith, t, v.below, v.searching.marks_len) }

pub loop-search-init : goal.loop-search-init
loop-search-init c = record { runs_on = RunsOn-same c.args.over.now c.args.search.now c.requires.running; led = λ x r. r }

pub loop-search-smaller : goal.loop-search-smaller
loop-search-smaller c =
    let v = c.visit.ensures in
    let t = tail_low c.args.over.now c.visit.new.search.trail v.visiting.searching in
    rw c.advance.ensures.advanced (omega (arith, t, v.visiting.below, v.head))

pub loop-search-preserved : goal.loop-search-preserved
loop-search-preserved c =
    let v = c.in_default.ensures in
    let r = v.runs_on in
    let l = c.loop-search in
    let f = Follows-then c.args.search.now.trail l.search.trail c.visit.new.search.trail l.invariant.runs_on.follows r.follows in
    rw c.advance.ensures.advanced (record {
      runs_on = record {
        running = record { searching = IsSearching-next c.args.over.now c.visit.new.search.trail c.next-m.result v.visiting v.walked; starred = r.running.starred; classes = r.running.classes };
        follows = record { marks = f.marks; walked = f.walked; tail = f.tail; queue = f.queue; meters = f.meters; branches = f.branches };
        stars = r.stars ∙ l.invariant.runs_on.stars;
      };
      led = λ x o. l.invariant.led x (v.led x (record { marked = o.marked; first = o.first }));
    })

pub returns-in-Some : goal.returns-in-Some
returns-in-Some c =
    let l = c.loop-search in
    let e = c.in-Some.ensures in
    let r = e.runs_on in
    record {
      runs_on = RunsOn-then c.args.over.now c.args.search.now l.search c.visit.new.search l.invariant.runs_on r;
      led = λ x o. l.invariant.led x (e.led x o);
      found = record { searching = e.visiting.searching; marked = visited_marked c.args.over.now c.visit.new.search.trail c.next-m.result e.visiting; free = e.walked };
    }

pub returns : goal.returns
returns c =
    let i = c.loop-search.invariant in
    let t = c.loop-search.search.trail in
    let le = i.runs_on.running.searching.head_le in
    record {
      runs_on = i.runs_on;
      led = i.led;
      found = elim (cases_lt t.head t.tail) [
        | inl b ↦ clash (c.waits.ensures.waits.1 b) c.loop-search-test.false
        | inr n ↦ omega (arith, le, n)
      ];
    }
