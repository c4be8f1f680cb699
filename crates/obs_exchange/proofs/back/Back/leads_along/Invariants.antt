use Rattle.std.proofs.Common.{◌≡◌, length}
use Rattle.obs_exchange.proofs.back.Back.leads_along.Given as goal

abbrev pub invariant-loop : goal.invariant-loop
invariant-loop l = length l.shut ≡ length l.fn.shut
