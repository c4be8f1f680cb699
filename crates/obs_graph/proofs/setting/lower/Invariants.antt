use Rattle.std.proofs.Common.{◌≡◌, ◌-◌, ◌++◌, map, take, drop}
use Rattle.obs_graph.proofs.setting.lower.Given as goal

abbrev pub invariant-loop-number : goal.invariant-loop-number
invariant-loop-number l = l.numbers ≡ map (λ n. n - 1) (take l.number-index l.initial.numbers) ++ drop l.number-index l.initial.numbers
