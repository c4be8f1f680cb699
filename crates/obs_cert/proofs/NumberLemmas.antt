-- Names that aren't in their table.
use Rattle.std.proofs.Common.{◌≡◌, ℕ, List, None, length, map, sym, ◌∙◌}
use Rattle.std.proofs.lemmas.List.{length-map}
use Rattle.std.specs.Str.{bytes_eq}
use Rattle.obs_case.specs.Tables.{place_of, position_of}
use Rattle.obs_case.proofs.NameLemmas.{place-absent, position-none}

-- the place of a name that no row has is the number of rows
pub absent : {R : Type 0} (name_of : R → List ℕ) (rows : List R) (name : List ℕ) → None ≡ position_of (map name_of rows) name → length rows ≡ place_of (map name_of rows) name
absent name_of rows name e = sym (length-map rows name_of) ∙ sym (place-absent (bytes_eq name) (map name_of rows) (position-none (bytes_eq name) (map name_of rows) (sym e)))
