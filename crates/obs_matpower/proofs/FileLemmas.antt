-- Reading a whole file.
use Rattle.std.proofs.Common.{◌≡◌, ℕ, ◌+◌, ◌≤◌, Bool, List, [], ◌∷◌, length, take, is_none, Option, Some, None, Result, Ok, Err, refl, sym, ap, ◌∙◌, length-append, inl, inr, arith}
use Rattle.std.proofs.lemmas.Bool.{cases_Bool}
use Rattle.std.proofs.lemmas.List.{length-drop, length-take, take-append-drop}
use Rattle.std.proofs.lemmas.List.Folds.{concat-append}
use Rattle.std.specs.List.{before_first, concat, position_or_len}
use Rattle.obs_text.specs.Limits.{most_file_bytes}
use Rattle.obs_text.specs.Lines.{ended_lines}
use Rattle.obs_text.proofs.LineLaws.{joined, length-ended_lines}
use Rattle.obs_case.specs.Tables.{Tables}
use Rattle.obs_case.proofs.NameLemmas.{place-there}
use Rattle.obs_bus_branch.specs.Buses.{tables_of_rows}
use Rattle.obs_bus_branch.specs.Rows.{at_end, on_ok, read_rows}
use Rattle.obs_bus_branch.proofs.NumberLemmas.{AreBuses-none}
use Rattle.obs_bus_branch.proofs.RowsRead.{read_rows-good}
use Rattle.obs_matpower.specs.declared.fault.MatFault.{MatFault}
use Rattle.obs_matpower.specs.declared.part.MatTable.{MatTable}
use Rattle.obs_matpower.specs.declared.part.MatTable.TheVariants as table
use Rattle.obs_matpower.specs.declared.stop.Stop.{Stop}
use Rattle.obs_matpower.specs.declared.stop.Stop.TheVariants.{Fault, NoMemory}
use Rattle.obs_matpower.specs.Lines.{closes, is_closing, is_opening, opens}
use Rattle.obs_matpower.specs.Read.{BusRow, buses_of, mat_within, read_branch, read_bus, read_table}
use Rattle.obs_matpower.specs.inner.Reading.{Answers, AreBuses, held_branches, read_text}
use Rattle.obs_matpower.specs.Table.{after_opening, end_of, from_first, is_there, line_of}
use Rattle.obs_matpower.specs.inner.Table.{text_of, until_closing}
use Rattle.obs_matpower.specs.Whole.{table_rows}
use Rattle.obs_matpower.proofs.RowReads.{read_bus-good}
use Rattle.obs_matpower.proofs.WholeLemmas.{table_rows-are}

-- ---- how long the text of a table is, and where it starts

until_le : (lines : List (List ℕ)) → length (concat (until_closing lines)) ≤ length (concat lines)
until_le [] = omega arith
until_le (line ∷ lines) =
    elim (cases_Bool (closes line)) [
      | inl e ↦ rw e (omega (arith, length-append (before_first is_closing line) [], length-take (position_or_len is_closing line) line, length-append line (concat lines)))
      | inr e ↦ rw e (omega (arith, until_le lines, length-append line (concat lines), length-append line (concat (until_closing lines))))
    ]

from_le : (p : List ℕ → Bool) (lines : List (List ℕ)) → length (concat (from_first p lines)) ≤ length (concat lines)
from_le p lines =
    let at = position_or_len p lines in
    omega (arith, ap length (ap concat (sym (take-append-drop at lines)) ∙ concat-append (take at lines) (from_first p lines)), length-append (concat (take at lines)) (concat (from_first p lines)))

pub text_few : (which : MatTable) (bytes : List ℕ) → length bytes ≤ most_file_bytes → length (text_of which bytes) ≤ most_file_bytes
text_few which bytes few =
    let start = concat (from_first (opens which) (ended_lines bytes)) in
    omega (
      arith,
      few,
      until_le (ended_lines (after_opening which bytes)),
      ap length (joined (after_opening which bytes)),
      length-drop (position_or_len is_opening start + 1) start,
      from_le (opens which) (ended_lines bytes),
      ap length (joined bytes),
    )

pub line_low : (which : MatTable) (bytes : List ℕ) → length bytes ≤ most_file_bytes → line_of which bytes ≤ most_file_bytes
line_low which bytes few =
    elim (cases_Bool (is_there which bytes)) [
      | inl e ↦ rw e (omega (arith, few, length-ended_lines bytes, place-there (opens which) (ended_lines bytes) e))
      | inr e ↦ rw e (omega arith)
    ]

-- ---- tables

-- what the rows of a table's text are is what the rows of the table are
pub text_is_table : {R : Type 0} (read : List R → ℕ → List ℕ → Result R MatFault) (which : MatTable) (bytes text : List ℕ) (line : ℕ) (end : Option MatFault)
    → text ≡ text_of which bytes → line ≡ line_of which bytes → end ≡ end_of which bytes → read_text read (is_none end) line text end ≡ read_table read which bytes
text_is_table read which bytes text line end text_is line_is end_is =
    ap (λ t. read_text read (is_none end) line t end) text_is
    ∙ ap (λ n. read_text read (is_none end) n (text_of which bytes) end) line_is
    ∙ ap (λ e. read_text read (is_none e) (line_of which bytes) (text_of which bytes) e) end_is
    ∙ ap (λ rows. on_ok (read_rows read [] rows) (at_end (end_of which bytes))) (table_rows-are which bytes)

-- the rows of a table that is read are read, and it has no fault at its end
pub table_read : {R : Type 0} (read : List R → ℕ → List ℕ → Result R MatFault) (which : MatTable) (bytes : List ℕ) (rows : List R) → read_table read which bytes ≡ Ok rows
    → (read_rows read [] (table_rows which bytes) ≡ Ok rows) × (end_of which bytes ≡ None)
table_read {R} read which bytes rows is = by (read_rows read [] (table_rows which bytes)) (end_of which bytes) is
  where
    by : (x : Result (List R) MatFault) (end : Option MatFault) → on_ok x (at_end end) ≡ Ok rows → (x ≡ Ok rows) × (end ≡ None)
    by (Ok all) None e = (e, refl)
    by (Ok all) (Some fault) e = cc
    by (Err fault) end e = cc

-- ---- files

-- what comes after the buses
abbrev pub after_buses : ℕ → List ℕ → List BusRow → Result Tables MatFault
after_buses most bytes buses = on_ok (read_table (read_branch most buses) table.Branch bytes) (λ branches. Ok (tables_of_rows most (buses_of buses) branches))

module _ (most : ℕ) (bytes : List ℕ) where
  pub stop_in_buses : {S : Type 0} (held : List BusRow → S) (after : S) (last : Tables) (stop : Stop) → Answers (read_table (read_bus most) table.Bus bytes) held after (Err stop) → Answers (mat_within most bytes) (λ tables. tables) last (Err stop)
  stop_in_buses held after last NoMemory why = tt
  stop_in_buses held after last (Fault f) why = ap (λ r. on_ok r (after_buses most bytes)) why

  module _ (buses : List BusRow) (read : read_table (read_bus most) table.Bus bytes ≡ Ok buses) where
    pub buses_are : AreBuses (buses_of buses)
    buses_are = read_rows-good (read_bus most) (λ rows. AreBuses (buses_of rows)) (read_bus-good most) [] (table_rows table.Bus bytes) buses AreBuses-none (table_read (read_bus most) table.Bus bytes buses read).0

    pub after_branches : (after : Tables) (result : Result (Unit {0}) Stop) → Answers (read_table (read_branch most buses) table.Branch bytes) (held_branches most buses) after result → Answers (mat_within most bytes) (λ tables. tables) after result
    after_branches after (Ok tt) (branches, is, held) = (
      tables_of_rows most (buses_of buses) branches,
      ap (λ r. on_ok r (after_buses most bytes)) read ∙ ap (λ r. on_ok r (λ rows. Ok (tables_of_rows most (buses_of buses) rows))) is,
      held,
    )
    after_branches after (Err NoMemory) why = tt
    after_branches after (Err (Fault f)) why = ap (λ r. on_ok r (after_buses most bytes)) read ∙ ap (λ r. on_ok r (λ rows. Ok (tables_of_rows most (buses_of buses) rows))) why
