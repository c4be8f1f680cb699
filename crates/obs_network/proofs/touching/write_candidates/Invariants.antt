use Rattle.std.proofs.Common.{◌≡◌, ◌+◌, ◌<◌, ℕ, get_or, take}
use Rattle.obs_case.specs.declared.rows.Candidate.{Candidate}
use Rattle.obs_meter.specs.declared.Touch.TheVariants.{Nothing}
use Rattle.obs_network.specs.Touching.{candidate_touch}
use Rattle.obs_network.proofs.touching.write_candidates.Given as goal

abbrev pub invariant-loop-i : goal.invariant-loop-i
invariant-loop-i l = (d : Candidate) (k : ℕ) → k < l.i → get_or l.touches k Nothing ≡ candidate_touch (take l.rows l.graph.ends) l.buses.buses (l.first + k) (get_or l.candidates k d)
