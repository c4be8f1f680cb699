-- A branch out of service is absent.
use Rattle.std.proofs.Common.{◌≡◌, ℕ, zero, suc, ◌<◌, Bool, false, None, List, [], ◌∷◌, length, map, get_or, refl, ◌∙◌, arith}
use Rattle.std.proofs.lemmas.List.{get_or_append_left}
use Rattle.obs_case.specs.declared.rows.Branch.{Branch}
use Rattle.obs_case.specs.Flags.{changed_at, with_branch_inservice}
use Rattle.obs_case.specs.Tables.{Tables}
use Rattle.obs_case.proofs.RowLemmas.{length-changed}
use Rattle.obs_network.specs.Components.{if_energised}
use Rattle.obs_network.specs.Live.{live_ends}
use Rattle.obs_network.specs.Switched.{case_buses}
use Rattle.obs_network.specs.Network.{case_angles, case_branches, case_components, case_energised, case_live, case_rows}
use Rattle.obs_network.proofs.OfCase.{length-case_rows}

abbrev out_of_service : ℕ → List Branch → List Branch
out_of_service at rows = changed_at (λ (row : Branch). record row { inservice = false }) at rows

row_absent : (buses components : List ℕ) (energised : List Bool) (rows : List Branch) (at : ℕ)
    → get_or (map (if_energised components energised) (map (live_ends buses) (out_of_service at rows))) at None ≡ None
unfolding changed_at
row_absent buses components energised [] at = refl
row_absent buses components energised (row ∷ rows) zero = refl
row_absent buses components energised (row ∷ rows) (suc at) = row_absent buses components energised rows at

-- the branch at the position of a row that is out of service
pub absent-out : (t : Tables) (at : ℕ) → at < length t.branches → get_or (case_branches (with_branch_inservice t at false)) at None ≡ None
unfolding case_branches case_rows case_live
absent-out t at low =
    let out = with_branch_inservice t at false in
    let many = length-changed (λ (row : Branch). record row { inservice = false }) t.branches at in
    get_or_append_left (case_rows out) (case_angles out) None at (omega (arith, low, many, length-case_rows out))
    ∙ row_absent (case_buses t) (case_components out) (case_energised out) t.branches at
