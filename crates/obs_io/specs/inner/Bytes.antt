-- What writers add to their bytes, and readers to theirs.
use Rattle.std.specs.Prelude.{ℕ, ◌≡◌, List, ◌++◌, length, take, Option, Result, Ok, Err, IfSome}
use Rattle.std.specs.Io.KnownBytes.{Appends}
use Rattle.obs_io.specs.Bytes.{IsPiece, Wrote, WrotePart}

-- what a writer holds, where it is known, grew by the first n of these bytes; behind a failure by a front of them
abbrev pub GivesFront : {E : Type 0} → Option (List ℕ) → Option (List ℕ) → Result ℕ E → List ℕ → Type 0
GivesFront before after (Ok n) bytes = Appends before after (take n bytes)
GivesFront before after (Err e) bytes = (n : ℕ) × Appends before after (take n bytes)

-- a call that writes a text, or fails behind a front of it
abbrev pub Writes : {T E : Type 0} → Option (List ℕ) → Option (List ℕ) → Result T E → List ℕ → Type 0
Writes before after (Ok x) text = Wrote before after text
Writes before after (Err e) text = WrotePart before after text

-- n bytes of a content that is told were added to those that came before them
abbrev pub AddsPart : Option (List ℕ) → List ℕ → List ℕ → ℕ → Type 0
AddsPart content old new n = (into : List ℕ) × (new ≡ old ++ take n into) × IfSome content (λ c. IsPiece c (length old) n into)
