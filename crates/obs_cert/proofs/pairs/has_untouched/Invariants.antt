use Rattle.std.proofs.Common.{◌≡◌}
use Rattle.obs_cert.specs.Flaws.{not_touched}
use Rattle.obs_cert.specs.Numbered.{pairs_of}
use Rattle.obs_cert.proofs.pairs.has_untouched.Given as goal

abbrev pub invariant-loop-pair : goal.invariant-loop-pair
invariant-loop-pair l = not_touched l.present (pairs_of l.present l.pair-iterator) ≡ not_touched l.present (pairs_of l.present l.fn.pairs)
