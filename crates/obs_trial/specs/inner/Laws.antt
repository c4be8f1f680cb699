-- Statements of laws.
use Rattle.std.specs.Prelude.{◌≡◌, ℕ, ◌*◌, ◌-◌, ◌≤◌, [], ◌∷◌, length, map}
use Rattle.obs_case.specs.Tables.{IsValid}
use Rattle.obs_trial.specs.Draws.{draw_at}
use Rattle.obs_trial.specs.Trial.{trial_of}

-- how many nodes, branches and meters there are
pub record HasCounts (n seed : ℕ) : Type 0 where
  pub nodes : length (trial_of n seed).nodes ≡ n * n
  pub branches : length (trial_of n seed).branches ≡ 2 * n * (n - 1)
  pub meters : length (trial_of n seed).meters ≡ 2 * n * (n - 1)

abbrev pub TrialCounts : Type 0
TrialCounts = (n seed : ℕ) → 1 ≤ n → HasCounts n seed

-- it is a case that a `Case` can hold
abbrev pub TrialIsValid : Type 0
TrialIsValid = (n seed : ℕ) → 1 ≤ n → n ≤ 100 → IsValid (trial_of n seed)

-- the first draws of seed 1
abbrev pub FirstDraws : Type 0
FirstDraws = map (draw_at 1) (0 ∷ 1 ∷ 2 ∷ 3 ∷ []) ≡ 16838 ∷ 5758 ∷ 10113 ∷ 17515 ∷ []
