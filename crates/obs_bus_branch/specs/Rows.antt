-- Rows of a file with the numbers of their lines, each read after those before it.
use Rattle.std.specs.Prelude.{ℕ, List, [], ◌∷◌, ◌++◌, Option, None, Some, Result, Ok, Err}

-- what comes after an answer, where that is no fault
abbrev pub on_ok : {A B F : Type 0} → Result A F → (A → Result B F) → Result B F
on_ok (Ok x) next = next x
on_ok (Err fault) next = Err fault

-- the answer, unless there is a fault at its end
abbrev pub at_end : {A F : Type 0} → Option F → A → Result A F
at_end None x = Ok x
at_end (Some fault) x = Err fault

-- what rows with the numbers of their lines are, each read after those before it, or the first fault
abbrev pub read_rows : {R F : Type 0} → (List R → ℕ → List ℕ → Result R F) → List R → List (ℕ × List ℕ) → Result (List R) F
read_rows read earlier [] = Ok earlier
read_rows read earlier (row ∷ rows) = on_ok (read earlier row.0 row.1) (λ r. read_rows read (earlier ++ r ∷ []) rows)
