-- What claims on candidates that hold say of the case.
use Rattle.std.specs.Prelude.{◌≡◌, ℕ, ◌+◌, ◌≤◌, ◌<◌, List, length}
use Rattle.obs_case.specs.Tables.{IsValid, Tables}
use Rattle.obs_matroid.specs.Lists.{In, IsDistinct}
use Rattle.obs_network.specs.Completing.{CompletesCase, price_together}
use Rattle.obs_cert.specs.Claims.{CostClaim, ShortfallClaim, cost, shortfall}
use Rattle.obs_cert.specs.Flaws.{Holds}
use Rattle.obs_cert.specs.Numbered.{candidate_items, items_of}

-- different candidates of the case that complete its meters, and no candidates that complete them cost less
pub record IsCheapest (t : Tables) (X : List ℕ) : Type 0 where
  pub different : IsDistinct X
  pub offered : (c : ℕ) → In c X → c < length t.meters + length t.candidates
  pub completes : CompletesCase t X
  pub least : (Y : List ℕ) → CompletesCase t Y → price_together t X ≤ price_together t Y

-- the candidates that a cost claim chooses
abbrev pub chosen_by : Tables → CostClaim → List ℕ
chosen_by t c = items_of t (candidate_items c.chosen)

-- the candidates that a cost claim that holds chooses are a cheapest set that completes the meters, and cost what it says
abbrev pub ChosenAreCheapest : Type 0
ChosenAreCheapest = (t : Tables) (c : CostClaim) → IsValid t → Holds t (cost c) →
    IsCheapest t (chosen_by t c) × (price_together t (chosen_by t c) ≡ c.number)

-- where a shortfall claim holds, no candidates complete the meters
abbrev pub ShortfallsRefute : Type 0
ShortfallsRefute = (t : Tables) (c : ShortfallClaim) → IsValid t → Holds t (shortfall c) → (X : List ℕ) → CompletesCase t X → ⊥
