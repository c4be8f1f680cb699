use Rattle.obs_matroid.specs.Assignments.{branches}
use Rattle.obs_cert.specs.Numbered.{pairs_of}
use Rattle.obs_cert.proofs.PairLemmas.{IsPairing}
use Rattle.obs_cert.proofs.pairs.join_pairs.Given as goal

abbrev pub invariant-loop-pair : goal.invariant-loop-pair
invariant-loop-pair l = IsPairing l.g.ends (branches (pairs_of l.case l.pair-iterator)) (branches (pairs_of l.case l.fn.pairs)) l.fn.ups l.fn.moved l.ups l.moved l.count l.cycle
