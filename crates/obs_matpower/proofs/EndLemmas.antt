-- How reading a file with its tables ends.
use Rattle.std.proofs.Common.{◌≡◌, ◌∙◌, ap, sym, ℕ, List, Option, Ok, Err}
use Rattle.obs_case.specs.Tables.{Tables}
use Rattle.obs_case_csv.specs.Read.{tables_after}
use Rattle.obs_case_csv.specs.inner.Read.{EndsAll}
use Rattle.obs_case_csv.specs.declared.faults.TableEnd.{TableEnd}
use Rattle.obs_case_csv.specs.declared.faults.TableEnd.TheVariants as table
use Rattle.obs_matpower.specs.declared.fault.MatEnd.{MatEnd}
use Rattle.obs_matpower.specs.declared.stop.Stop.{Stop}
use Rattle.obs_matpower.specs.declared.stop.Stop.TheVariants as stop
use Rattle.obs_matpower.specs.inner.Ends.{IsEndOfStop, IsEndOfTable}
use Rattle.obs_matpower.specs.Read.{as_end, case_within, mat_within, with_tables}
use Rattle.obs_matpower.specs.inner.Read.{EndsCase}
use Rattle.obs_matpower.specs.inner.Reading.{Answers}

-- a file that is read: its nodes and branches
abbrev pub IsRead : ℕ → List ℕ → Tables → Type 0
IsRead most matpower tables = Answers (mat_within most matpower) (λ t. t) tables (Ok tt)

pub file_refused : (most : ℕ) (matpower meters : List ℕ) (candidates : Option (List ℕ)) (tables : Tables) (why : Stop) (end : MatEnd) → Answers (mat_within most matpower) (λ t. t) tables (Err why) → IsEndOfStop why end
    → EndsCase (case_within most matpower meters candidates) end
file_refused most matpower meters candidates tables (stop.Fault fault) end read is = rw is (ap (with_tables meters candidates) read)
file_refused most matpower meters candidates tables stop.NoMemory end read is = rw is tt

pub tables_refused : (most : ℕ) (matpower meters : List ℕ) (candidates : Option (List ℕ)) (tables : Tables) (why : TableEnd) (end : MatEnd) → IsRead most matpower tables → EndsAll (tables_after meters candidates tables) why
    → IsEndOfTable why end → EndsCase (case_within most matpower meters candidates) end
tables_refused most matpower meters candidates tables (table.Fault fault) end read ends is =
    rw is (ap (with_tables meters candidates) (read.1 ∙ ap Ok (sym read.2)) ∙ ap as_end ends)
tables_refused most matpower meters candidates tables table.NoMemory end read ends is = rw is tt

pub tables_read : (most : ℕ) (matpower meters : List ℕ) (candidates : Option (List ℕ)) (tables new : Tables) → IsRead most matpower tables → tables_after meters candidates tables ≡ Ok new → case_within most matpower meters candidates ≡ Ok new
tables_read most matpower meters candidates tables new read done = ap (with_tables meters candidates) (read.1 ∙ ap Ok (sym read.2)) ∙ ap as_end done
