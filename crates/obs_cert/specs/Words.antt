-- The line of a certificate that words are.
use Rattle.std.specs.Prelude.{ℕ, ◌==◌, Bool, List, [], ◌∷◌, codes, Option, None, Some, if◌then◌else◌, option_map}
use Rattle.std.specs.List.{onto_first}
use Rattle.std.specs.Str.{bytes_eq}
use Rattle.obs_text.specs.Names.{is_name}
use Rattle.obs_text.specs.Numbers.{whole_of}
use Rattle.obs_cert.specs.Claims.{Item, meter, candidate, Pair}

-- a line that starts a claim, a line that belongs to one, or the line that ends a certificate
pub data Line : Type 0 where
  tree_line : List ℕ → Line
  bound_line : List ℕ → ℕ → ℕ → Line
  cost_line : ℕ → Line
  shortfall_line : ℕ → ℕ → Line
  pair_line : Pair → Line
  chosen_line : List ℕ → Line
  layer_line : ℕ → ℕ → ℕ → ℕ → Line
  inside_line : Item → Line
  end_line : Line

-- a tab, which stands between two words
abbrev pub is_tab : ℕ → Bool
is_tab byte = byte == 0x09

-- the words of a line: there is one more than tabs, and each may be empty
abbrev pub words_of : List ℕ → List (List ℕ)
words_of [] = [] ∷ []
words_of (byte ∷ bytes) = if is_tab byte then [] ∷ words_of bytes else onto_first byte (words_of bytes)

-- a word that is a name
abbrev pub name_in : List ℕ → Option (List ℕ)
name_in word = if is_name word then Some word else None

-- the item that a sort and a name are
abbrev pub item_in : List ℕ → List ℕ → Option Item
item_in sort name =
    if bytes_eq sort (codes "meter") then option_map meter (name_in name)
    else if bytes_eq sort (codes "candidate") then option_map candidate (name_in name)
    else None

-- lines of several parts, where each part is there
abbrev pub pair_line_of : Option Item → Option (List ℕ) → Option Line
pair_line_of None branch = None
pair_line_of (Some item) None = None
pair_line_of (Some item) (Some branch) = Some (pair_line (record { item = item; branch = branch }))

abbrev pub shortfall_of : Option ℕ → Option ℕ → Option Line
shortfall_of None outside = None
shortfall_of (Some rank) None = None
shortfall_of (Some rank) (Some outside) = Some (shortfall_line rank outside)

abbrev pub bound_of : Option (List ℕ) → Option ℕ → Option ℕ → Option Line
bound_of None rank outside = None
bound_of (Some component) None outside = None
bound_of (Some component) (Some rank) None = None
bound_of (Some component) (Some rank) (Some outside) = Some (bound_line component rank outside)

abbrev pub layer_of : Option ℕ → Option ℕ → Option ℕ → Option ℕ → Option Line
layer_of None to rank outside = None
layer_of (Some from) None rank outside = None
layer_of (Some from) (Some to) None outside = None
layer_of (Some from) (Some to) (Some rank) None = None
layer_of (Some from) (Some to) (Some rank) (Some outside) = Some (layer_line from to rank outside)

-- the line that one word is, or two, and so on up to five
abbrev pub of_one : List ℕ → Option Line
of_one kind = if bytes_eq kind (codes "end") then Some end_line else None

abbrev pub of_two : List ℕ → List ℕ → Option Line
of_two kind a =
    if bytes_eq kind (codes "tree") then option_map tree_line (name_in a)
    else if bytes_eq kind (codes "cost") then option_map cost_line (whole_of a)
    else if bytes_eq kind (codes "chosen") then option_map chosen_line (name_in a)
    else None

abbrev pub of_three : List ℕ → List ℕ → List ℕ → Option Line
of_three kind a b =
    if bytes_eq kind (codes "inside") then option_map inside_line (item_in a b)
    else if bytes_eq kind (codes "shortfall") then shortfall_of (whole_of a) (whole_of b)
    else None

abbrev pub of_four : List ℕ → List ℕ → List ℕ → List ℕ → Option Line
of_four kind a b c =
    if bytes_eq kind (codes "pair") then pair_line_of (item_in a b) (name_in c)
    else if bytes_eq kind (codes "bound") then bound_of (name_in a) (whole_of b) (whole_of c)
    else None

abbrev pub of_five : List ℕ → List ℕ → List ℕ → List ℕ → List ℕ → Option Line
of_five kind a b c d =
    if bytes_eq kind (codes "layer") then layer_of (whole_of a) (whole_of b) (whole_of c) (whole_of d) else None

-- the line that words are
abbrev pub line_of_words : List (List ℕ) → Option Line
line_of_words [] = None
line_of_words (kind ∷ []) = of_one kind
line_of_words (kind ∷ a ∷ []) = of_two kind a
line_of_words (kind ∷ a ∷ b ∷ []) = of_three kind a b
line_of_words (kind ∷ a ∷ b ∷ c ∷ []) = of_four kind a b c
line_of_words (kind ∷ a ∷ b ∷ c ∷ d ∷ []) = of_five kind a b c d
line_of_words (kind ∷ a ∷ b ∷ c ∷ d ∷ e ∷ words) = None

-- the line that bytes are, if they have the form of one
abbrev pub claim_line : List ℕ → Option Line
claim_line bytes = line_of_words (words_of bytes)
