-- How the reading of a certificate may end.
use Rattle.std.specs.Prelude.{ℕ, ◌≡◌, List, [], length, Result, Ok, Err}
use Rattle.obs_cert.specs.declared.fault.CertFault.{CertFault}
use Rattle.obs_cert.specs.declared.fault.CertEnd.{CertEnd}
use Rattle.obs_cert.specs.declared.fault.CertEnd.TheVariants.{Fault, NoMemory}
use Rattle.obs_cert.specs.Claims.{Claim}
use Rattle.obs_cert.specs.Read.{claims_of}

-- an answer that ends the reading: want of memory, or this fault
abbrev pub EndsCert : Result (List Claim) CertFault → CertEnd → Type 0
EndsCert stated (Fault fault) = stated ≡ Err fault
EndsCert stated NoMemory = Unit {0}

-- the claims that were read, or none
abbrev pub claims_or_none : Result (List Claim) CertFault → List Claim
claims_or_none (Ok claims) = claims
claims_or_none (Err fault) = []

-- bytes are so many claims
abbrev pub HasClaims : List ℕ → ℕ → Type 0
HasClaims bytes count = (claims : List Claim) × (claims_of bytes ≡ Ok claims) × (length claims ≡ count)
