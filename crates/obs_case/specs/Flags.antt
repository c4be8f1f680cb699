-- The tables after one flag of one row was set.
use Rattle.std.specs.Prelude.{ℕ, zero, suc, Bool, List, [], ◌∷◌}
use Rattle.obs_case.specs.declared.rows.Branch.{Branch}
use Rattle.obs_case.specs.declared.rows.Meter.{Meter}
use Rattle.obs_case.specs.declared.rows.Switch.{Switch}
use Rattle.obs_case.specs.Tables.{Tables}

-- the list whose item at this position is changed, and no other
unfoldable pub changed_at : {A : Type 0} → (A → A) → ℕ → List A → List A
changed_at change i [] = []
changed_at change zero (x ∷ xs) = change x ∷ xs
changed_at change (suc i) (x ∷ xs) = x ∷ changed_at change i xs

-- a switch opened or closed
abbrev pub with_closed : Tables → ℕ → Bool → Tables
with_closed t at closed = record t { switches = changed_at (λ (row : Switch). record row { closed = closed }) at t.switches }

-- a branch put in service or taken out
abbrev pub with_branch_inservice : Tables → ℕ → Bool → Tables
with_branch_inservice t at inservice =
    record t { branches = changed_at (λ (row : Branch). record row { inservice = inservice }) at t.branches }

-- a meter put in service or taken out
abbrev pub with_meter_inservice : Tables → ℕ → Bool → Tables
with_meter_inservice t at inservice =
    record t { meters = changed_at (λ (row : Meter). record row { inservice = inservice }) at t.meters }
