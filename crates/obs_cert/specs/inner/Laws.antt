-- The reading of bytes and what bytes are.
use Rattle.std.specs.Prelude.{◌≡◌, ◌↔◌, ℕ, IsTrue, List, Ok, Err, Some}
use Rattle.std.specs.List.{list_all}
use Rattle.obs_text.specs.Lines.{lines_of}
use Rattle.obs_text.specs.Names.{is_name_byte}
use Rattle.obs_cert.specs.declared.fault.CertFault.{CertFault}
use Rattle.obs_cert.specs.inner.Certificate.{IsCertificate, IsFirstFault}
use Rattle.obs_cert.specs.Claims.{Claim}
use Rattle.obs_cert.specs.inner.Forms.{HasForm, with_tabs}
use Rattle.obs_cert.specs.Read.{claims_of}
use Rattle.obs_cert.specs.Words.{Line, claim_line}

-- what is read are the claims that the bytes are
abbrev pub CertificateIsRead : Type 0
CertificateIsRead =
    (bytes : List ℕ) (claims : List Claim) → (claims_of bytes ≡ Ok claims → IsCertificate bytes claims) × (IsCertificate bytes claims → claims_of bytes ≡ Ok claims)

-- a fault is met exactly where the bytes are no list of claims
abbrev pub FaultWhereNoCertificate : Type 0
FaultWhereNoCertificate =
    (bytes : List ℕ) →
    ((fault : CertFault) → claims_of bytes ≡ Err fault → (claims : List Claim) → ¬ IsCertificate bytes claims)
    × (((claims : List Claim) → ¬ IsCertificate bytes claims) → (fault : CertFault) × (claims_of bytes ≡ Err fault))

-- the fault that is met is the first one: it stands at the first line that is wrong, or is that of a missing end where no line is
abbrev pub FirstFaultIsMet : Type 0
FirstFaultIsMet = (bytes : List ℕ) (fault : CertFault) → claims_of bytes ≡ Err fault → IsFirstFault (lines_of bytes) fault

-- bytes are a line exactly where they are words of its form, with one tab between each two
abbrev pub LinesHaveForms : Type 0
LinesHaveForms = (bytes : List ℕ) (line : Line) →
    (claim_line bytes ≡ Some line) ↔ ((words : List (List ℕ)) × HasForm line words × (bytes ≡ with_tabs words))

-- no word of a form has a control byte, and so none has a tab
abbrev pub FormsArePlain : Type 0
FormsArePlain = (line : Line) (words : List (List ℕ)) → HasForm line words → IsTrue (list_all (list_all is_name_byte) words)
