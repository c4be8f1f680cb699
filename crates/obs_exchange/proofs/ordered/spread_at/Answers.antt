use Rattle.std.proofs.Common.{◌≡◌, ℕ, ◌<◌, List, cond, drop, get_or, length, take, ap, ◌∙◌, arith}
use Rattle.obs_meter.specs.Lost.{is_listed}
use Rattle.obs_exchange.proofs.Closing.{entry_at, queue_len, tail_low}
use Rattle.obs_exchange.proofs.Placing.{Placing-more, done_without_end, new_part}
use Rattle.obs_exchange.proofs.ordered.spread_at.Goals as goal

pub spread_source-requires-clause-resting : goal.spread_source-requires-clause-resting
spread_source-requires-clause-resting c = c.requires.placing.resting

pub queued-requires : goal.queued-requires
queued-requires c =
    let s = c.spread_source.ensures.runs_on.running.searching in
    let t = tail_low c.args.over.now c.spread_source.new.search.trail s in
    record { count = omega (arith, t, c.tail-after.ensures.tail, s.marks_len) }

pub write_place-requires : goal.write_place-requires
write_place-requires c =
    let n = c.spread_source.new.search.trail in
    let e = c.spread_source.ensures.runs_on in
    let s = e.running.searching in
    let is = c.queued.ensures.queued ∙ ap (λ (k : ℕ). take k n.queue) c.tail-after.ensures.tail in
    let same = ap length is in
    let all = queue_len c.args.over.now n s in
    record {
      first = omega (arith, same, all, c.tail-before.ensures.tail, e.follows.tail);
      low = λ k l.
          let low : k < n.tail = omega (arith, l, same, all) in
          let at : get_or c.queued.result.now k 0 ≡ get_or n.queue k 0 = ap (λ (xs : List ℕ). get_or xs k 0) is ∙ entry_at c.args.over.now n s k 0 (omega (arith, all, low)) in
          let b = s.low (get_or n.queue k 0) (s.entries k low).0 in
          let m = c.requires.placing.meters in
          omega (arith, at, b, m);
    }

pub returns-clause-placing : goal.returns-clause-placing
returns-clause-placing c =
    let over = c.args.over.now in
    let order = c.args.order.now in
    let p = c.args.search.now in
    let s = c.spread_source in
    let q = s.new.search in
    let n = q.trail in
    let e = s.ensures in
    let r = c.requires in
    let part : drop c.tail-before.result c.queued.result.now ≡ new_part p.trail n =
    ap (λ (b : ℕ). drop b c.queued.result.now) c.tail-before.ensures.tail
    ∙ ap (λ (xs : List ℕ). drop p.trail.tail xs) (c.queued.ensures.queued ∙ ap (λ (k : ℕ). take k n.queue) c.tail-after.ensures.tail) in
    Placing-more over order p q c.args.places.now c.write_place.new.places c.args.k r.k r.placing
    (record { running = e.runs_on.running; done = done_without_end over n s.result r.longest e.found })
    e.runs_on.follows e.led e.marked r.sources c.write_place.ensures.same_length
    (λ m. c.write_place.ensures.written m ∙ ap (λ (xs : List ℕ). cond (is_listed xs m) c.args.k (get_or c.args.places.now m 0)) part)
