use Rattle.obs_exchange.specs.inner.Searching.{IsEnd}
use Rattle.obs_exchange.specs.inner.Setting.{Setting}
use Rattle.obs_exchange.proofs.Tracing.{IsTracing}
use Rattle.obs_exchange.proofs.find.trace.Given as goal

abbrev pub invariant-loop-p : goal.invariant-loop-p
invariant-loop-p l = (over : Setting) → IsEnd over l.trail l.fn.last → IsTracing over l.trail l.fn.last l.path l.start l.x

abbrev pub decreases-loop-p : goal.decreases-loop-p
decreases-loop-p l = l.start
