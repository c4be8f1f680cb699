use Rattle.std.proofs.Common.{◌≡◌, take}
use Rattle.obs_case.specs.Tables.{prices_of}
use Rattle.obs_edit.proofs.placing.write_prices.Given as goal

abbrev pub invariant-loop-k : goal.invariant-loop-k
invariant-loop-k l = take l.k l.prices ≡ prices_of (take l.k l.candidates)
