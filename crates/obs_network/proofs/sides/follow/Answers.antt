use Rattle.std.proofs.Common.{false, true, sym, refl, Some, Option, Bool, ◌≡◌, ℕ, None, get_or, ap, ◌∙◌, arith}
use Rattle.obs_network.specs.inner.Sides.{label_at, rows_in}
use Rattle.obs_network.proofs.Walking.{tail_room}
use Rattle.obs_network.proofs.FollowedRows.{Following-come, Following-come_met, Following-end, Following-skip, Following-stop, but_itself, but_past, but_reaches, end_at_entry, rows_but-IsPart}
use Rattle.std.proofs.lemmas.Bool.{false≢true, true≢false}
use Rattle.obs_network.proofs.sides.follow.Goals as goal
use Rattle.obs_network.proofs.sides.follow.Goals.{else-p-e-via-then-p-e+else-come, else-p-e-via-else-p-e}

pub bounds-queue-head : goal.bounds-queue-head
bounds-queue-head c = omega (arith, c.requires.head, c.requires.queue.few)

pub returns-then-p-rows-clause-followed : goal.returns-then-p-rows-clause-followed
returns-then-p-rows-clause-followed c f =
    let g = c.args.others.now.graph.now in
    let held = rows_in c.args.others.now in
    let l = c.loop-p in
    Following-stop g.vertices held c.args.end (get_or c.args.queue.now c.args.head 0) c.args.head c.branches_at-p-items.result.now c.args.labels.now c.args.tail.now l.labels l.queue l.tail l.p-index l.invariant
    g.ends (rows_but-IsPart g.ends c.args.others.now.rows c.args.others.now.without) c.branches_at-p-items.ensures.branches c.args.others.now.rows (but_past g.ends c.args.others.now.rows c.args.others.now.without) c.loop-p-test.true (omega (arith, c.if-p-rows.true))

pub across-requires : goal.across-requires
across-requires c = record { there = end_at_entry c.args.others.now.graph.now.ends (get_or c.args.queue.now c.args.head 0) c.loop-p.p-index c.branches_at-p-items.result.now c.branches_at-p-items.ensures.branches c.loop-p-test.true }

pub come-requires-clause-room : goal.come-requires-clause-room
come-requires-clause-room c bare =
    let g = c.args.others.now.graph.now in
    let l = c.loop-p in
    tail_room g.vertices (rows_in c.args.others.now) l.labels c.args.end l.queue l.tail l.invariant.here c.across.result (omega (arith, c.across.ensures.vertex, c.requires.room, l.auto.labels)) bare

pub returns-then-come-clause-met : goal.returns-then-come-clause-met
returns-then-come-clause-met c t =
    let g = c.args.others.now.graph.now in
    let held = rows_in c.args.others.now in
    let l = c.loop-p in
    let v = get_or c.args.queue.now c.args.head 0 in
    let bl = c.branches_at-p-items.result.now in
    Following-come_met g.vertices held c.args.end v c.args.head bl c.args.labels.now c.args.tail.now l.labels l.queue l.tail l.p-index l.invariant
    c.across.result (but_reaches g.ends c.args.others.now.rows c.args.others.now.without v c.across.result (get_or bl l.p-index 0) (omega (arith, c.if-p-rows.false)) c.if-p-e.true c.across.ensures.to)
    c.come.new.labels c.come.new.queue c.come.new.tail c.come.result c.come.ensures.new c.come.ensures.known c.if-come.true

pub loop-p-preserved : goal.loop-p-preserved
loop-p-preserved c =
    let g = c.args.others.now.graph.now in
    let held = rows_in c.args.others.now in
    let l = c.loop-p in
    let v = get_or c.args.queue.now c.args.head 0 in
    let bl = c.branches_at-p-items.result.now in
    elim c.else-p-e.branch [
      | else-p-e-via-then-p-e+else-come w ↦
          rw (w.labels-is, w.queue-is, w.tail-is)
          (Following-come g.vertices held c.args.end v c.args.head bl c.args.labels.now c.args.tail.now l.labels l.queue l.tail l.p-index l.invariant
          w.across.result (but_reaches g.ends c.args.others.now.rows c.args.others.now.without v w.across.result (get_or bl l.p-index 0) (omega (arith, c.if-p-rows.false)) w.if-p-e.true w.across.ensures.to)
          w.come.new.labels w.come.new.queue w.come.new.tail w.come.result w.come.ensures.new w.come.ensures.known w.if-come.false
          w.across.ensures.vertex (let low = w.across.ensures.vertex in omega (arith, low, c.requires.room, l.auto.labels)))
      | else-p-e-via-else-p-e w ↦
          rw (w.labels-is, w.queue-is, w.tail-is)
          (Following-skip g.vertices held c.args.end v c.args.head bl c.args.labels.now c.args.tail.now l.labels l.queue l.tail l.p-index l.invariant
          (ap (λ (p : ℕ). get_or held p None) w.if-p-e.false ∙ but_itself g.ends c.args.others.now.rows c.args.others.now.without))
    ]

pub returns-clause-followed : goal.returns-clause-followed
returns-clause-followed c f =
    let g = c.args.others.now.graph.now in
    let l = c.loop-p in
    Following-end g.vertices (rows_in c.args.others.now) c.args.end (get_or c.args.queue.now c.args.head 0) c.args.head c.branches_at-p-items.result.now c.args.labels.now c.args.tail.now l.labels l.queue l.tail l.p-index l.invariant
    g.ends (rows_but-IsPart g.ends c.args.others.now.rows c.args.others.now.without) c.branches_at-p-items.ensures.branches (omega arith)

pub returns-then-p-rows-clause-queue : goal.returns-then-p-rows-clause-queue
returns-then-p-rows-clause-queue c = c.loop-p.invariant.here

pub returns-then-p-rows-clause-grown : goal.returns-then-p-rows-clause-grown
returns-then-p-rows-clause-grown c = c.loop-p.invariant.grown

pub come-requires-clause-vertex : goal.come-requires-clause-vertex
come-requires-clause-vertex c = omega (arith, c.across.ensures.vertex, c.requires.room, c.loop-p.auto.labels)

pub returns-clause-queue : goal.returns-clause-queue
returns-clause-queue c = c.loop-p.invariant.here

pub returns-clause-grown : goal.returns-clause-grown
returns-clause-grown c = c.loop-p.invariant.grown

pub returns-then-p-rows-clause-met : goal.returns-then-p-rows-clause-met
returns-then-p-rows-clause-met c = λ met. absurd (false≢true met)

pub returns-clause-met : goal.returns-clause-met
returns-clause-met c = λ met. absurd (false≢true met)

-- where the ends meet, the vertex was reached before, and nothing is queued
still : {K : Type 0} (label : Option ℕ) (result : Bool) → (label ≡ None → result ≡ false) → ((u : ℕ) → label ≡ Some u → K) → result ≡ true → K
still None result new known met = absurd (true≢false (sym met ∙ new refl))
still (Some u) result new known met = known u refl

same : (c : goal.Then-come) → (c.come.new.labels ≡ c.loop-p.labels) × (c.come.new.queue ≡ c.loop-p.queue) × (c.come.new.tail ≡ c.loop-p.tail)
same c =
    still (label_at c.loop-p.labels c.across.result) c.come.result (λ (bare : label_at c.loop-p.labels c.across.result ≡ None). (c.come.ensures.new bare).0)
    (λ (u : ℕ) (is : label_at c.loop-p.labels c.across.result ≡ Some u). let k = c.come.ensures.known u is in (k.0, k.1, k.2)) c.if-come.true

pub returns-then-come-clause-queue : goal.returns-then-come-clause-queue
returns-then-come-clause-queue c = let s = same c in rw (s.0, s.1, s.2) c.loop-p.invariant.here

pub returns-then-come-clause-followed : goal.returns-then-come-clause-followed
returns-then-come-clause-followed c = λ met. absurd (true≢false met)

pub returns-then-come-clause-grown : goal.returns-then-come-clause-grown
returns-then-come-clause-grown c = rw (same c).0 c.loop-p.invariant.grown
