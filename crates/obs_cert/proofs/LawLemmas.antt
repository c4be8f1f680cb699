-- What is read from bytes, and what bytes are.
use Rattle.std.proofs.Common.{◌≡◌, ℕ, ◌+◌, false, cond, List, [], ◌∷◌, map, Option, Some, None, Result, Ok, Err, refl, sym, ap, ◌∙◌, subst, inl, inr}
use Rattle.std.proofs.lemmas.Bool.{cases_Bool}
use Rattle.obs_text.specs.Lines.{lines_of}
use Rattle.obs_cert.specs.declared.fault.CertCode.{CertCode}
use Rattle.obs_cert.specs.declared.fault.CertCode.TheVariants.{AfterEnd, NoEnd}
use Rattle.obs_cert.specs.declared.fault.CertFault.{CertFault}
use Rattle.obs_cert.specs.declared.place.Place.{Place}
use Rattle.obs_cert.specs.declared.place.Place.TheVariants.{Start}
use Rattle.obs_cert.specs.inner.Certificate.{IsCertificate, certificate_lines}
use Rattle.obs_cert.specs.Claims.{Claim}
use Rattle.obs_cert.specs.inner.Laws.{CertificateIsRead, FaultWhereNoCertificate}
use Rattle.obs_cert.specs.Places.{formed, in_place, is_over, place_after, step}
use Rattle.obs_cert.specs.Read.{claims_in, claims_of, onto_lines, parts_of, read_from, then_read}
use Rattle.obs_cert.specs.Words.{Line, claim_line}
use Rattle.obs_cert.proofs.OrderLemmas.{InOrder, OnSome, are_claims, claims_in_order, parts_in_order}

-- a line that is read at a place has a form, and may stand there
pub record IsStep (place : Place) (bytes : List ℕ) (line : Line) (next : Place) : Type 0 where
  pub going : is_over place ≡ false
  pub form : claim_line bytes ≡ Some line
  pub placed : place_after place line ≡ Some next

in_place-ok : (line : Line) (o : Option Place) (said : Line) (next : Place) → in_place line o ≡ Ok (said, next) → (line ≡ said) × (o ≡ Some next)
in_place-ok line None said next is = cc
in_place-ok line (Some place) said next is =
    let same : Ok (line, place) ≡ Ok (said, next) = is in
    let both : (line, place) ≡ (said, next) = cc in
    (ap (λ (p : Line × Place). p.0) both, ap (λ (p : Line × Place). Some p.1) both)

formed-ok : (place : Place) (o : Option Line) (said : Line) (next : Place) → formed place o ≡ Ok (said, next) → (o ≡ Some said) × (place_after place said ≡ Some next)
formed-ok place None said next is = cc
formed-ok place (Some line) said next is =
    let both = in_place-ok line (place_after place line) said next is in
    (ap (λ l. Some l) both.0, ap (place_after place) (sym both.0) ∙ both.1)

pub step-ok : (place : Place) (bytes : List ℕ) (line : Line) (next : Place) → step place bytes ≡ Ok (line, next) → IsStep place bytes line next
step-ok place bytes line next is =
    elim (cases_Bool (is_over place)) [
      | inl over ↦ (let t = rw over at is in cc)
      | inr going ↦ (let both = formed-ok place (claim_line bytes) line next (rw going at is) in record { going = going; form = both.0; placed = both.1 })
    ]

-- lines that are read have their forms and stand in their places
abbrev pub AreRead : Place → List (List ℕ) → List Line → Type 0
AreRead place all lines = (map claim_line all ≡ map Some lines) × InOrder place lines

onto_lines-ok : (line : Line) (r : Result (List Line) CertFault) (lines : List Line) → onto_lines line r ≡ Ok lines → (rest : List Line) × (r ≡ Ok rest) × (lines ≡ line ∷ rest)
onto_lines-ok line (Ok rest) lines is = (rest, refl, (let same : Ok (line ∷ rest) ≡ Ok lines = is in let e : line ∷ rest ≡ lines = cc in sym e))
onto_lines-ok line (Err fault) lines is = cc

pub are_read : (all : List (List ℕ)) (place : Place) (at : ℕ) (lines : List Line) → read_from place at all ≡ Ok lines → AreRead place all lines
are_read [] place at lines is =
    elim (cases_Bool (is_over place)) [
      | inl over ↦
          let none : Ok [] ≡ Ok lines = rw over at is in
          let e : [] ≡ lines = cc in
          subst (AreRead place []) e (refl, over)
      | inr going ↦ (let t = rw going at is in cc)
    ]
are_read (bytes ∷ rest) place at lines is = by (step place bytes) refl is (λ next others h. are_read rest next (at + 1) others h)
  where
    by : (r : Result (Line × Place) CertCode) → step place bytes ≡ r → then_read at r (λ next. read_from next (at + 1) rest) ≡ Ok lines →
        ((next : Place) (others : List Line) → read_from next (at + 1) rest ≡ Ok others → AreRead next rest others) → AreRead place (bytes ∷ rest) lines
    by (Err code) read h later = cc
    by (Ok (line, next)) read h later =
        let one = step-ok place bytes line next read in
        let found = onto_lines-ok line (read_from next (at + 1) rest) lines h in
        let others = later next found.0 found.1 in
        subst (AreRead place (bytes ∷ rest)) (sym found.2) (
          ap (λ o. o ∷ map claim_line rest) one.form ∙ ap (λ os. Some line ∷ os) others.0,
          (one.going, subst (λ o. OnSome o (λ n. InOrder n found.0)) (sym one.placed) others.1),
        )

-- lines that have forms and stand in their places are read
after_some : (o : Option Place) (P : Place → Type 0) → OnSome o P → (next : Place) × (o ≡ Some next) × P next
after_some None P is = absurd is
after_some (Some place) P is = (place, refl, is)

read_all : (all : List (List ℕ)) (place : Place) (at : ℕ) (lines : List Line) → map claim_line all ≡ map Some lines → InOrder place lines → read_from place at all ≡ Ok lines
read_all [] place at [] forms order = ap (λ b. cond b (Ok []) (Err (record { line = 0; code = NoEnd }))) order
read_all [] place at (line ∷ lines) forms order = cc
read_all (bytes ∷ rest) place at [] forms order = cc
read_all (bytes ∷ rest) place at (line ∷ lines) forms (going, later) =
    let both : claim_line bytes ∷ map claim_line rest ≡ Some line ∷ map Some lines = forms in
    let form : claim_line bytes ≡ Some line = cc in
    let others : map claim_line rest ≡ map Some lines = cc in
    let found = after_some (place_after place line) (λ next. InOrder next lines) later in
    let read : step place bytes ≡ Ok (line, found.0) =
    ap (λ b. cond b (Err AfterEnd) (formed place (claim_line bytes))) going ∙ ap (formed place) form ∙ ap (in_place line) found.1 in
    ap (λ r. then_read at r (λ next. read_from next (at + 1) rest)) read ∙ ap (onto_lines line) (read_all rest found.0 (at + 1) lines others found.2)

module _ (bytes : List ℕ) (claims : List Claim) where
  is_read : (r : Result (List Line) CertFault) → read_from Start 1 (lines_of bytes) ≡ r → claims_in r ≡ Ok claims → IsCertificate bytes claims
  is_read (Err fault) read is = cc
  is_read (Ok lines) read is =
      let are = are_read (lines_of bytes) Start 1 lines read in
      let found = parts_in_order lines Start refl are.1 in
      let same : Ok (parts_of lines).claims ≡ Ok claims = is in
      let e : (parts_of lines).claims ≡ claims = cc in
      let all : found.0 ≡ claims = sym (ap (λ parts. parts.claims) found.1.parts) ∙ e in
      are.0 ∙ ap (map Some) found.1.stand ∙ ap (λ cs. map Some (certificate_lines cs)) all

  read_is : IsCertificate bytes claims → claims_of bytes ≡ Ok claims
  read_is is =
      ap claims_in (read_all (lines_of bytes) Start 1 (certificate_lines claims) is (claims_in_order claims Start refl))
      ∙ ap (λ parts. Ok parts.claims) (are_claims claims).parts

pub CertificateIsRead-holds : CertificateIsRead
CertificateIsRead-holds bytes claims = (is_read bytes claims (read_from Start 1 (lines_of bytes)) refl, read_is bytes claims)

found_fault : (bytes : List ℕ) (r : Result (List Claim) CertFault) → claims_of bytes ≡ r → ((claims : List Claim) → ¬ IsCertificate bytes claims) → (fault : CertFault) × (claims_of bytes ≡ Err fault)
found_fault bytes (Err fault) read none = (fault, read)
found_fault bytes (Ok claims) read none = absurd (none claims ((CertificateIsRead-holds bytes claims).0 read))

pub FaultWhereNoCertificate-holds : FaultWhereNoCertificate
FaultWhereNoCertificate-holds bytes = (λ fault is claims cert. (let read = read_is bytes claims cert in cc), found_fault bytes (claims_of bytes) refl)
