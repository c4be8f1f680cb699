-- The case of a trial: each of its meters is in service.
use Rattle.std.proofs.Common.{ℕ, ◌≡◌, ◌*◌, refl, subst, true, List, [], get_or, map, Option, Some, Ok}
use Rattle.std.specs.Prelude.{All}
use Rattle.std.specs.List.{enumerate_from}
use Rattle.std.proofs.lemmas.List.Elements.{All-map}
use Rattle.obs_case.specs.Tables.{Tables}
use Rattle.obs_case.specs.declared.rows.Meter.{Meter}
use Rattle.obs_trial.specs.Trial.{ends_of_first, meter_at, trial_of}
use Rattle.obs_files.specs.declared.words.Form.{Form}
use Rattle.obs_files.specs.declared.words.Form.TheVariants.{Trial}
use Rattle.obs_files.specs.Files.{case_in_files, certificate_in, parsed}
use Rattle.obs_files.specs.Limits.{Limits}
use Rattle.obs_files.specs.Outside.{AreFiles}
use Rattle.obs_engine.specs.inner.Trials.{AreInService}

drawn_in_service : (seed : ℕ) (ends : List (ℕ × (ℕ × ℕ))) → All (λ (row : Meter). row.inservice ≡ true) (map (meter_at seed) ends)
drawn_in_service seed ends = All-map (λ (row : Meter). row.inservice ≡ true) (meter_at seed) ends (λ i d low. drawn (get_or ends i d))
  where
    drawn : (b : ℕ × (ℕ × ℕ)) → (meter_at seed b).inservice ≡ true
    drawn b = refl

trial_in_service : (rows seed : ℕ) → AreInService (trial_of rows seed)
unfolding trial_of
trial_in_service rows seed = drawn_in_service seed (enumerate_from 0 (ends_of_first rows (rows * rows)))

parsed_trial : (limits : Limits) (rows seed : ℕ) (file : ℕ → List ℕ) (t : Tables) → parsed limits (Trial rows seed) file ≡ Ok t → AreInService t
unfolding parsed
parsed_trial limits rows seed file t e = (let same : trial_of rows seed ≡ t = cc e in subst (λ (u : Tables). AreInService u) same (trial_in_service rows seed))

-- what was taken for a trial, which names no file
pub generated_in_service : (limits : Limits) (content : ℕ → Option (List ℕ)) (form : Form) (t : Tables) (certificate : List ℕ)
    → ((file : ℕ → List ℕ) → AreFiles limits (Some form) content file → (case_in_files limits form file ≡ Ok t) × (certificate_in form file ≡ certificate))
    → (rows seed : ℕ) → form ≡ Trial rows seed → AreInService t
generated_in_service limits content form t certificate taken rows seed is = parsed_trial limits rows seed (λ w. []) t
    ((subst (λ (f : Form). (file : ℕ → List ℕ) → AreFiles limits (Some f) content file → (case_in_files limits f file ≡ Ok t) × (certificate_in f file ≡ certificate)) is taken (λ w. []) tt).0)
