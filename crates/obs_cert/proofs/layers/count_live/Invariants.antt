use Rattle.obs_cert.specs.Scopes.{is_live_item}
use Rattle.obs_cert.proofs.CountingLemmas.{IsCounting}
use Rattle.obs_cert.proofs.layers.count_live.Given as goal

abbrev pub invariant-loop-m : goal.invariant-loop-m
invariant-loop-m l = IsCounting (is_live_item l.present) l.m l.count
