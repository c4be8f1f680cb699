use Rattle.obs_pairs.proofs.Naming.{AreNamed}
use Rattle.obs_pairs.proofs.name.name_all.Given as goal

abbrev pub invariant-loop-k : goal.invariant-loop-k
invariant-loop-k l = AreNamed l.g.vertices l.g.ends l.ms.touches l.list l.k
