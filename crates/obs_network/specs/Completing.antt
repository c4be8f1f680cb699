-- Candidates that complete the meters of a case, and what they cost.
use Rattle.std.specs.Prelude.{ℕ, List, length}
use Rattle.std.specs.List.{sum_by}
use Rattle.obs_case.specs.Tables.{Tables, prices_of}
use Rattle.obs_meter.specs.Costs.{Completes, price_of}
use Rattle.obs_network.specs.Network.{case_branches, case_needed, case_offered}

-- candidates complete the meters of a case: with these, the live ones have an assignment that is as long as the case needs. An item
-- is a meter, or a candidate, whose number then stands behind those of the meters
abbrev pub CompletesCase : Tables → List ℕ → Type 0
CompletesCase t X = Completes (case_branches t) (case_offered t) (length t.meters) (case_needed t) X

-- what items cost together: meters nothing
abbrev pub price_together : Tables → List ℕ → ℕ
price_together t X = sum_by (price_of (length t.meters) (prices_of t.candidates)) X
