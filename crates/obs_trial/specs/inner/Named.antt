-- What stands while a case is generated.
use Rattle.std.specs.Prelude.{◌≡◌, ℕ, List, ◌∷◌, map, decimal, length}
use Rattle.std.specs.List.{range_with_len}
use Rattle.obs_case.specs.Tables.{Tables, node_names, place_names}
use Rattle.obs_case.specs.declared.rows.Kind.{Kind}
use Rattle.obs_case.specs.declared.rows.Kind.TheVariants.{Flow, Injection, Zero, Angle}
use Rattle.obs_trial.specs.Draws.{state_after}
use Rattle.obs_trial.specs.Trial.{node_name, trial_with}

-- so many nodes, named by their numbers
abbrev pub HasNodes : Tables → ℕ → Type 0
HasNodes t count = node_names t ≡ map node_name (range_with_len 0 count)

-- the letter of what a meter of this kind stands at
abbrev pub place_letter : Kind → ℕ
place_letter Flow = 0x62
place_letter Injection = 0x6E
place_letter Zero = 0x6E
place_letter Angle = 0x6E

-- so many places for a meter of this kind, named by their numbers
abbrev pub HasPlaces : Tables → Kind → ℕ → Type 0
HasPlaces t kind count = place_names t kind ≡ map (λ i. place_letter kind ∷ decimal i) (range_with_len 0 count)

-- the case has these branches and their meters, and the generator made a draw for each
pub record IsSoFar (n seed : ℕ) (ends : List (ℕ × ℕ)) (case : Tables) (state : ℕ) : Type 0 where
  pub tables : case ≡ trial_with n seed ends
  pub drawn : state ≡ state_after seed (length ends)
