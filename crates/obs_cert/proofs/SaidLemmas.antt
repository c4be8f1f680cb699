-- The lines that are walked are those that were read.
use Rattle.std.proofs.Common.{◌≡◌, ℕ, List, [], ◌∷◌, length, map, Option, Some, Result, Ok, Err, refl, sym, ap, ◌∙◌}
use Rattle.obs_text.specs.Lines.{lines_of}
use Rattle.obs_cert.specs.declared.fault.CertFault.{CertFault}
use Rattle.obs_cert.specs.declared.place.Place.TheVariants.{Start}
use Rattle.obs_cert.specs.Claims.{Claim}
use Rattle.obs_cert.specs.Read.{claims_in, claims_of, parts_of, read_from}
use Rattle.obs_cert.specs.inner.Read.{HasClaims, claims_or_none}
use Rattle.obs_cert.specs.inner.Walked.{parts_in, said_line, said_lines}
use Rattle.obs_cert.specs.Words.{Line, claim_line}
use Rattle.obs_cert.proofs.LawLemmas.{are_read}

said : (all : List (List ℕ)) (lines : List Line) → map claim_line all ≡ map Some lines → said_lines all ≡ lines
said [] [] e = refl
said [] (line ∷ lines) e = cc
said (bytes ∷ all) [] e = cc
said (bytes ∷ all) (line ∷ lines) e =
    let both : claim_line bytes ∷ map claim_line all ≡ Some line ∷ map Some lines = e in
    let form : claim_line bytes ≡ Some line = cc in
    let others : map claim_line all ≡ map Some lines = cc in
    ap (λ (o : Option Line). said_line o (said_lines all)) form ∙ ap (λ ls. line ∷ ls) (said all lines others)

by_read : (bytes : List ℕ) (claims : List Claim) (r : Result (List Line) CertFault) → read_from Start 1 (lines_of bytes) ≡ r → claims_in r ≡ Ok claims → (parts_in bytes).claims ≡ claims
by_read bytes claims (Err fault) read e = cc
by_read bytes claims (Ok lines) read e =
    let are = are_read (lines_of bytes) Start 1 lines read in
    let same : Ok (parts_of lines).claims ≡ Ok claims = e in
    let one : (parts_of lines).claims ≡ claims = cc in
    ap (λ ls. (parts_of ls).claims) (said (lines_of bytes) lines are.0) ∙ one

-- the claims that are walked are the certificate's
pub walked : (bytes : List ℕ) (count : ℕ) → HasClaims bytes count → ((parts_in bytes).claims ≡ claims_or_none (claims_of bytes)) × (length (claims_or_none (claims_of bytes)) ≡ count)
walked bytes count has =
    let is : claims_or_none (claims_of bytes) ≡ has.0 = ap claims_or_none has.1 in
    (by_read bytes has.0 (read_from Start 1 (lines_of bytes)) refl has.1 ∙ sym is, ap length is ∙ has.2)
