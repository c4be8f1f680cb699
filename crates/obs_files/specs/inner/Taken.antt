-- What was taken from files, beside what these hold.
use Rattle.std.specs.Prelude.{ℕ, ◌≡◌, true, false, List, [], ◌∷◌, ◌++◌, map, None, Some, Result, Ok, Err, Vec}
use Rattle.std.specs.declared.alloc.Global.{Global}
use Rattle.obs_text.specs.Faults.{Fault, too_long}
use Rattle.obs_text.specs.inner.Faults.{fault_of}
use Rattle.obs_case.specs.Tables.{Tables}
use Rattle.obs_files.specs.declared.taken.Taken.{Taken}
use Rattle.obs_files.specs.declared.taken.CaseError.{CaseError}
use Rattle.obs_files.specs.declared.taken.CaseError.TheVariants.{Refused, Read, NoMemory}
use Rattle.obs_files.specs.declared.words.Form.{Form}
use Rattle.obs_files.specs.Limits.{Limits}
use Rattle.obs_files.specs.Files.{case_in_files, certificate_in, first_too_long, is_too_long}

-- why nothing was taken from files that hold this: they are refused for the fault that is stated, or reading them failed, or there was
-- no memory
abbrev pub IsCaseError : Result Tables Fault → CaseError → Type 0
IsCaseError stated (Refused why) = stated ≡ Err (fault_of why)
IsCaseError stated Read = Unit {0}
IsCaseError stated NoMemory = Unit {0}

-- what was taken from files that hold this
abbrev pub IsTaken : Result Tables Fault → Result Tables CaseError → Type 0
IsTaken stated (Ok t) = stated ≡ Ok t
IsTaken stated (Err why) = IsCaseError stated why

-- what was taken from the files of a form: the case that they are, and the certificate's bytes
abbrev pub IsOfFiles : Limits → Form → (ℕ → List ℕ) → Result Taken CaseError → Type 0
IsOfFiles limits form file (Ok taken) = (case_in_files limits form file ≡ Ok taken.case) × (certificate_in form file ≡ taken.certificate.items)
IsOfFiles limits form file (Err why) = IsCaseError (case_in_files limits form file) why

-- what was taken from one file that has this content and is this part of the input
abbrev pub IsFile : Limits → List ℕ → List ℕ → Result (Vec ℕ Global) CaseError → Type 0
IsFile limits part content (Ok bytes) = (bytes.items ≡ content) × (is_too_long limits content ≡ false)
IsFile limits part content (Err (Refused why)) = (is_too_long limits content ≡ true) × (fault_of why ≡ too_long part)
IsFile limits part content (Err Read) = Unit {0}
IsFile limits part content (Err NoMemory) = Unit {0}

-- a file with this content, which is this part of the input, was taken behind others, or why it wasn't
abbrev pub IsNext : Limits → List ℕ → List ℕ → List (List ℕ) → List (List ℕ) → Result (Unit {0}) CaseError → Type 0
IsNext limits part content before now (Ok done) = (now ≡ before ++ (content ∷ [])) × (is_too_long limits content ≡ false)
IsNext limits part content before now (Err (Refused why)) = (is_too_long limits content ≡ true) × (fault_of why ≡ too_long part)
IsNext limits part content before now (Err Read) = Unit {0}
IsNext limits part content before now (Err NoMemory) = Unit {0}

-- the bytes of each
abbrev pub bytes_of : List (Vec ℕ Global) → List (List ℕ)
bytes_of contents = map (λ (content : Vec ℕ Global). content.items) contents

-- what was taken from the files of these words, which are these parts of the input: their contents, of which none is too long, or the
-- fault of the first that is
abbrev pub AreContents : Limits → List (List ℕ) → (ℕ → List ℕ) → List ℕ → Result (Vec (Vec ℕ Global) Global) CaseError → Type 0
AreContents limits parts file words (Ok contents) = (first_too_long limits parts file words ≡ None) × (bytes_of contents.items ≡ map file words)
AreContents limits parts file words (Err (Refused why)) = first_too_long limits parts file words ≡ Some (fault_of why)
AreContents limits parts file words (Err Read) = Unit {0}
AreContents limits parts file words (Err NoMemory) = Unit {0}
