use Rattle.std.proofs.Common.{◌-◌, length, length-set, sym, ◌∙◌, arith}
use Rattle.obs_exchange.proofs.Tracing.{Tracing-begin, Tracing-end, Tracing-more, Tracing-room}
use Rattle.obs_exchange.proofs.find.trace.Goals as goal

pub loop-p-init : goal.loop-p-init
loop-p-init c = λ over e.
    let s = e.searching in
    let low = s.low c.args.last.meter e.marked in
    Tracing-begin over c.args.trail.now c.args.last e c.args.path.now (length c.args.path.now - 1) (omega (arith, low, c.requires.room, s.marks_len))

pub loop-p-preserved : goal.loop-p-preserved
loop-p-preserved c = λ over e. let r = c.requires in let l = c.loop-p in
    let t = l.invariant over e in
    let h = Tracing-room over c.args.trail.now c.args.last e l.path l.start l.x t
    (omega (arith, r.room, l.auto.path, length-set c.args.path.now (length c.args.path.now - 1) c.args.last)) c.in-Some.p (sym c.parent.ensures.parent ∙ c.in-Some.is) in
    Tracing-more over c.args.trail.now c.args.last e l.path l.start l.x t c.in-Some.p (sym c.parent.ensures.parent ∙ c.in-Some.is) (l.start - 1) (omega (arith, h))

pub returns-clause-ready : goal.returns-clause-ready
returns-clause-ready c = λ over e. let l = c.loop-p in
    Tracing-end over c.args.trail.now c.args.last e l.path l.start l.x (l.invariant over e) (sym c.parent.ensures.parent ∙ c.in_default.is)

pub overflow_sub-start-in-Some : goal.overflow_sub-start-in-Some
overflow_sub-start-in-Some c = let r = c.requires in let l = c.loop-p in let e = r.end in
    let h = Tracing-room e.0 c.args.trail.now c.args.last e.1 l.path l.start l.x (l.invariant e.0 e.1)
    (omega (arith, r.room, l.auto.path, length-set c.args.path.now (length c.args.path.now - 1) c.args.last)) c.in-Some.p (sym c.parent.ensures.parent ∙ c.in-Some.is) in
    omega (arith, h)

pub loop-p-smaller : goal.loop-p-smaller
loop-p-smaller c = let r = c.requires in let l = c.loop-p in let e = r.end in
    let h = Tracing-room e.0 c.args.trail.now c.args.last e.1 l.path l.start l.x (l.invariant e.0 e.1)
    (omega (arith, r.room, l.auto.path, length-set c.args.path.now (length c.args.path.now - 1) c.args.last)) c.in-Some.p (sym c.parent.ensures.parent ∙ c.in-Some.is) in
    omega (arith, h)
