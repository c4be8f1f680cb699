-- The forms of the lines of a certificate: the words of each kind of line.
use Rattle.std.specs.Prelude.{◌≡◌, ℕ, IsTrue, List, [], ◌∷◌, codes, map, Some}
use Rattle.std.specs.List.{join_with_byte}
use Rattle.obs_text.specs.Names.{is_name}
use Rattle.obs_text.specs.Numbers.{whole_of}
use Rattle.obs_cert.specs.Claims.{Item, meter, candidate}
use Rattle.obs_cert.specs.Words.{Line, tree_line, bound_line, cost_line, shortfall_line, pair_line, chosen_line, layer_line, inside_line, end_line}

-- words write these numbers, each in 1 to 19 digits
abbrev pub Write : List (List ℕ) → List ℕ → Type 0
Write words numbers = map whole_of words ≡ map Some numbers

-- the word for the sort of an item, and its name
abbrev pub sort_word : Item → List ℕ
sort_word (meter name) = codes "meter"
sort_word (candidate name) = codes "candidate"

abbrev pub claimed_name : Item → List ℕ
claimed_name (meter name) = name
claimed_name (candidate name) = name

-- words have the form of a line: the word for its kind, and then its sort, names and numbers, where it has them
abbrev pub HasForm : Line → List (List ℕ) → Type 0
HasForm (tree_line name) words = (words ≡ codes "tree" ∷ name ∷ []) × IsTrue (is_name name)
HasForm (bound_line name rank outside) words =
    (digits : List (List ℕ)) × (words ≡ codes "bound" ∷ name ∷ digits) × IsTrue (is_name name) × Write digits (rank ∷ outside ∷ [])
HasForm (cost_line number) words = (digits : List (List ℕ)) × (words ≡ codes "cost" ∷ digits) × Write digits (number ∷ [])
HasForm (shortfall_line rank outside) words =
    (digits : List (List ℕ)) × (words ≡ codes "shortfall" ∷ digits) × Write digits (rank ∷ outside ∷ [])
HasForm (pair_line pair) words =
    (words ≡ codes "pair" ∷ sort_word pair.item ∷ claimed_name pair.item ∷ pair.branch ∷ [])
    × IsTrue (is_name (claimed_name pair.item)) × IsTrue (is_name pair.branch)
HasForm (chosen_line name) words = (words ≡ codes "chosen" ∷ name ∷ []) × IsTrue (is_name name)
HasForm (layer_line from to rank outside) words =
    (digits : List (List ℕ)) × (words ≡ codes "layer" ∷ digits) × Write digits (from ∷ to ∷ rank ∷ outside ∷ [])
HasForm (inside_line item) words =
    (words ≡ codes "inside" ∷ sort_word item ∷ claimed_name item ∷ []) × IsTrue (is_name (claimed_name item))
HasForm end_line words = words ≡ codes "end" ∷ []

-- words with one tab between each two
abbrev pub with_tabs : List (List ℕ) → List ℕ
with_tabs words = join_with_byte 0x09 words
