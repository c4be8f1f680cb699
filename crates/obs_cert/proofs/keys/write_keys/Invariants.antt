use Rattle.std.proofs.Common.{◌+◌, length}
use Rattle.obs_cert.specs.inner.Keys.{key_of}
use Rattle.obs_cert.proofs.KeyLemmas.{AreWritten}
use Rattle.obs_cert.proofs.keys.write_keys.Given as goal

abbrev pub invariant-loop-m : goal.invariant-loop-m
invariant-loop-m l = AreWritten (key_of l.present) (length l.present.meters + length l.present.candidates) l.m l.keys
