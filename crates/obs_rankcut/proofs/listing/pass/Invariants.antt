use Rattle.obs_rankcut.specs.inner.Flags.{marked}
use Rattle.obs_rankcut.proofs.Passing.{IsPassed}
use Rattle.obs_rankcut.proofs.listing.pass.Given as goal

abbrev pub invariant-loop-m : goal.invariant-loop-m
invariant-loop-m l = IsPassed l.g.ends l.ms.touches (marked l.choice.marks.now) (marked l.choice.scope.now) l.flags l.fronts l.list l.count l.outside l.m
