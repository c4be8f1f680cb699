-- When bytes are a list of claims: an equation on the whole lists of lines.
use Rattle.std.specs.Prelude.{◌≡◌, ℕ, ◌+◌, ◌⊎◌, List, [], ◌∷◌, ◌++◌, length, map, None, Some}
use Rattle.obs_cert.specs.declared.fault.CertCode.{CertCode}
use Rattle.obs_cert.specs.declared.fault.CertCode.TheVariants.{BadLine, OutOfPlace, NoEnd, AfterEnd}
use Rattle.obs_cert.specs.declared.fault.CertFault.{CertFault}
use Rattle.obs_text.specs.Lines.{lines_of}
use Rattle.obs_cert.specs.Claims.{Claim, Layer, tree, bound, cost, shortfall}
use Rattle.obs_cert.specs.Words.{Line, tree_line, bound_line, cost_line, shortfall_line, pair_line, chosen_line, layer_line, inside_line, end_line, claim_line}

-- lists of lines, one after the other
abbrev pub joined : List (List Line) → List Line
joined [] = []
joined (lines ∷ others) = lines ++ joined others

-- a layer's line and those of the items that it adds
abbrev pub layer_lines : Layer → List Line
layer_lines layer = layer_line layer.from layer.to layer.rank layer.outside ∷ map inside_line layer.inside

-- a claim's lines
abbrev pub claim_lines : Claim → List Line
claim_lines (tree c) = tree_line c.component ∷ map pair_line c.pairs
claim_lines (bound c) = bound_line c.component c.rank c.outside ∷ map inside_line c.inside
claim_lines (cost c) = cost_line c.number ∷ (map chosen_line c.chosen ++ (map pair_line c.pairs ++ joined (map layer_lines c.layers)))
claim_lines (shortfall c) = shortfall_line c.rank c.outside ∷ map inside_line c.inside

-- a certificate's lines: those of its claims, and the line end
abbrev pub certificate_lines : List Claim → List Line
certificate_lines claims = joined (map claim_lines claims) ++ end_line ∷ []

-- bytes are these claims: each of their lines has the form of the line that stands at its place
abbrev pub IsCertificate : List ℕ → List Claim → Type 0
IsCertificate bytes claims = map claim_line (lines_of bytes) ≡ map Some (certificate_lines claims)

-- lines are those of a whole certificate
abbrev pub IsWhole : List Line → Type 0
IsWhole lines = (claims : List Claim) × (lines ≡ certificate_lines claims)

-- a certificate may begin with lines
abbrev pub IsFront : List Line → Type 0
IsFront lines = (claims : List Claim) × (rest : List Line) × (lines ++ rest ≡ certificate_lines claims)

-- bytes have the forms of lines with which a certificate may begin
pub record AreBefore (earlier : List (List ℕ)) (front : List Line) : Type 0 where
  pub forms : map claim_line earlier ≡ map Some front
  pub begins : IsFront front

-- what is wrong with the bytes after lines: these are whole; the bytes have no form; or no certificate begins with their line after these
abbrev pub IsWrong : CertCode → List Line → List ℕ → Type 0
IsWrong AfterEnd front bytes = IsWhole front
IsWrong BadLine front bytes = (¬ IsWhole front) × (claim_line bytes ≡ None)
IsWrong OutOfPlace front bytes = (¬ IsWhole front) × (line : Line) × (claim_line bytes ≡ Some line) × (¬ IsFront (front ++ line ∷ []))
IsWrong NoEnd front bytes = ⊥

-- the first line that is wrong, after lines with which a certificate may begin
abbrev pub IsFaultyLine : List (List ℕ) → CertFault → Type 0
IsFaultyLine lines fault =
    (earlier : List (List ℕ)) × (bytes : List ℕ) × (rest : List (List ℕ)) × (lines ≡ earlier ++ bytes ∷ rest) × (fault.line ≡ length earlier + 1)
    × (front : List Line) × AreBefore earlier front × IsWrong fault.code front bytes

-- no line is wrong, and the lines aren't whole
abbrev pub IsWithoutEnd : List (List ℕ) → CertFault → Type 0
IsWithoutEnd lines fault = (front : List Line) × AreBefore lines front × (¬ IsWhole front) × (fault ≡ record { line = 0; code = NoEnd })

abbrev pub IsFirstFault : List (List ℕ) → CertFault → Type 0
IsFirstFault lines fault = IsFaultyLine lines fault ⊎ IsWithoutEnd lines fault
