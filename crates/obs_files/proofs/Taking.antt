-- What is taken from one file, and what that isn't.
use Rattle.std.proofs.Common.{◌≡◌, ◌∙◌, ap, ℕ, List, Option, Some, Result, Ok, Err, sym, false}
use Rattle.std.specs.Prelude.{IsErrAnd, IsErrOf}
use Rattle.obs_files.specs.declared.taken.CaseError.{CaseError}
use Rattle.obs_files.specs.declared.taken.CaseError.TheVariants.{Read}
use Rattle.obs_files.specs.Files.{is_too_long}
use Rattle.obs_files.specs.Limits.{Limits}

-- what was taken isn't a failed read
pub ok_not_read : {T : Type 0} (x : T) → Ok x ≡ Err Read → ⊥
ok_not_read x e = absurd cc

-- why nothing was taken, where reading failed
pub read_is : {T : Type 0} (why : CaseError) → IsErrOf {T = T} (Err why) Read → why ≡ Read
read_is why e = cc

-- and did where it is one
pub is_read : {T U : Type 0} (why : CaseError) (r : Result U CaseError) → IsErrAnd r (λ e. e ≡ why) → r ≡ Err Read → IsErrOf {T = T} (Err why) Read
is_read {T = T} {U = U} why (Ok x) e h = absurd e
is_read {T = T} {U = U} why (Err x) e h = ap Err (sym e ∙ read_is {T = U} x h)

-- and it is one, where reading failed
pub read_back : {T U : Type 0} (why : CaseError) (r : Result U CaseError) → IsErrAnd r (λ e. e ≡ why) → IsErrOf {T = T} (Err why) Read → IsErrOf r Read
read_back {T = T} {U = U} why (Ok x) e h = absurd e
read_back {T = T} {U = U} why (Err x) e h = ap Err (e ∙ read_is {T = T} why h)

-- a told content that fits
abbrev pub Fits : Limits → (ℕ → Option (List ℕ)) → ℕ → Type 0
Fits limits content w = (bytes : List ℕ) → content w ≡ Some bytes → is_too_long limits bytes ≡ false
