-- The files of `verify` are those of a session, and the certificate.
use Rattle.std.proofs.Common.{◌≡◌, ◌∙◌, ℕ, Bool, true, false, List, [], ◌∷◌, ◌++◌, length, Option, None, Some, Result, Ok, refl, sym, ap, arith}
use Rattle.std.specs.Prelude.{codes, if◌then◌else◌}
use Rattle.obs_text.specs.Faults.{Fault, too_long}
use Rattle.obs_case.specs.Tables.{Tables}
use Rattle.obs_files.specs.declared.words.CaseForm.{CaseForm}
use Rattle.obs_files.specs.declared.words.CaseForm.TheVariants.{Csv, Cdf, Matpower}
use Rattle.obs_files.specs.declared.words.CaseCommand.TheVariants.{Session, Verify}
use Rattle.obs_files.specs.declared.words.Form.TheVariants.{Case}
use Rattle.obs_files.specs.Limits.{Limits}
use Rattle.obs_files.specs.Files.{case_in_files, first_too_long, is_too_long, parsed, unless_fault}
use Rattle.obs_files.specs.Words.{certificate_at, parts_of, words_of}

-- no file of several is too long, and neither is one more
unless_long : (long : Bool) (fault : Fault) (next : Option Fault) → (if long then Some fault else next) ≡ None → (long ≡ false) × (next ≡ None)
unless_long true fault next e = absurd cc
unless_long false fault next e = (refl, e)

last_fits : (limits : Limits) (parts : List (List ℕ)) (part : List ℕ) (file : ℕ → List ℕ) (words : List ℕ) (word : ℕ) → length parts ≡ length words → first_too_long limits parts file words ≡ None
    → is_too_long limits (file word) ≡ false → first_too_long limits (parts ++ (part ∷ [])) file (words ++ (word ∷ [])) ≡ None
last_fits limits [] part file [] word same none fits = rw fits refl
last_fits limits [] part file (w ∷ words) word same none fits = absurd (omega (arith, same))
last_fits limits (p ∷ parts) part file [] word same none fits = absurd (omega (arith, same))
last_fits limits (p ∷ parts) part file (w ∷ words) word same none fits =
    let first = unless_long (is_too_long limits (file w)) (too_long p) (first_too_long limits parts file words) none in
    rw first.0 (last_fits limits parts part file words word (omega (arith, same)) first.1 fits)

-- files that are a case have no fault
no_fault : (fault : Option Fault) (next : Result Tables Fault) (t : Tables) → unless_fault fault next ≡ Ok t → (fault ≡ None) × (next ≡ Ok t)
no_fault None next t e = (refl, e)
no_fault (Some fault) next t e = absurd cc

-- the files of `verify` are those of a session, and the certificate
module _ (limits : Limits) (file : ℕ → List ℕ) where
  abbrev more_parts : Bool → CaseForm → List (List ℕ)
  more_parts offered from = parts_of (Case (Session offered) from) ++ (codes "certificate" ∷ [])

  abbrev more_words : Bool → CaseForm → List ℕ
  more_words offered from = words_of (Case (Session offered) from) ++ (certificate_at (Case (Verify offered) from) ∷ [])

  parts_are : (offered : Bool) (from : CaseForm) → more_parts offered from ≡ parts_of (Case (Verify offered) from)
  parts_are true Csv = refl
  parts_are true Cdf = refl
  parts_are true Matpower = refl
  parts_are false Csv = refl
  parts_are false Cdf = refl
  parts_are false Matpower = refl

  words_are : (offered : Bool) (from : CaseForm) → more_words offered from ≡ words_of (Case (Verify offered) from)
  words_are true Csv = refl
  words_are true Cdf = refl
  words_are true Matpower = refl
  words_are false Csv = refl
  words_are false Cdf = refl
  words_are false Matpower = refl

  as_many : (offered : Bool) (from : CaseForm) → length (parts_of (Case (Session offered) from)) ≡ length (words_of (Case (Session offered) from))
  as_many true Csv = refl
  as_many true Cdf = refl
  as_many true Matpower = refl
  as_many false Csv = refl
  as_many false Cdf = refl
  as_many false Matpower = refl

  parsed_same : (offered : Bool) (from : CaseForm) → parsed limits (Case (Verify offered) from) file ≡ parsed limits (Case (Session offered) from) file
  unfolding parsed
  parsed_same offered from = refl

  pub same_case : (offered : Bool) (from : CaseForm) (t : Tables) → case_in_files limits (Case (Session offered) from) file ≡ Ok t → is_too_long limits (file (certificate_at (Case (Verify offered) from))) ≡ false
      → case_in_files limits (Case (Verify offered) from) file ≡ Ok t
  same_case offered from t is fits =
      let session = Case (Session offered) from in
      let verify = Case (Verify offered) from in
      let both = no_fault (first_too_long limits (parts_of session) file (words_of session)) (parsed limits session file) t is in
      let none : first_too_long limits (parts_of verify) file (words_of verify) ≡ None =
      ap (λ (parts : List (List ℕ)). first_too_long limits parts file (words_of verify)) (sym (parts_are offered from))
      ∙ (ap (λ (words : List ℕ). first_too_long limits (more_parts offered from) file words) (sym (words_are offered from))
      ∙ last_fits limits (parts_of session) (codes "certificate") file (words_of session) (certificate_at verify) (as_many offered from) both.0 fits) in
      ap (λ (fault : Option Fault). unless_fault fault (parsed limits verify file)) none ∙ (parsed_same offered from ∙ both.1)
