use Rattle.obs_pairs.proofs.Settling.{IsSettling}
use Rattle.obs_pairs.proofs.settle.settle.Given as goal

abbrev pub invariant-loop-k : goal.invariant-loop-k
invariant-loop-k l = IsSettling l.marks l.fn.waiting l.fn.list l.fn.m l.waiting l.list l.k
