-- Lines of printed text: words with one tab between them, and a line feed at the end.
use Rattle.std.specs.Prelude.{ℕ, List, [], ◌∷◌, ◌++◌, codes, decimal}

-- the byte between two words, and the byte that ends a line
abbrev pub tab : ℕ
tab = 0x09

abbrev pub line_feed : ℕ
line_feed = 0x0A

-- each word with a tab before it
abbrev pub tabbed : List (List ℕ) → List ℕ
tabbed [] = []
tabbed (word ∷ words) = tab ∷ (word ++ tabbed words)

-- the line of some words
abbrev pub line_of : List (List ℕ) → List ℕ
line_of [] = line_feed ∷ []
line_of (word ∷ words) = word ++ (tabbed words ++ (line_feed ∷ []))

-- the line of a number of something
abbrev pub count_line : List ℕ → ℕ → List ℕ
count_line what n = line_of (codes "count" ∷ what ∷ decimal n ∷ [])

-- the line on a fault in an input: the part of the input, the place in it, the fault's code and its name
abbrev pub fault_line : List ℕ → ℕ → ℕ → List ℕ → List ℕ
fault_line part place code name = line_of (codes "fault" ∷ part ∷ decimal place ∷ decimal code ∷ name ∷ [])

-- the line on an edit that is done: the rank and the needed number of the case after it
abbrev pub ok_line : ℕ → ℕ → List ℕ
ok_line rank needed = line_of (codes "ok" ∷ decimal rank ∷ decimal needed ∷ [])

-- the line on a line that is refused: the refusal's code and its name
abbrev pub refused_line : ℕ → List ℕ → List ℕ
refused_line code name = line_of (codes "refused" ∷ decimal code ∷ name ∷ [])

-- the line that ends an answer
abbrev pub last_line : List ℕ
last_line = line_of (codes "end" ∷ [])
