-- The first fault of a file.
use Rattle.std.proofs.Common.{◌≡◌, ℕ, ◌⊎◌, Bool, true, false, not, cond, List, [], Option, Some, None, Result, Ok, Err, refl, ap, ◌∙◌, subst, inl, inr, arith}
use Rattle.obs_case.specs.declared.rows.Branch.{Branch}
use Rattle.obs_bus_branch.specs.Buses.{tables_of_rows}
use Rattle.obs_bus_branch.specs.Rows.{at_end, on_ok, read_rows}
use Rattle.obs_bus_branch.proofs.RowsRead.{Met, Stops, ends, first_met, has_fault, row_met, stops}
use Rattle.obs_matpower.specs.declared.fault.MatFault.{MatFault}
use Rattle.obs_matpower.specs.declared.fault.MatFault.TheVariants.{NoBusTable, BusTableOpen, NoBranchTable, BranchTableOpen, BadBusNumber, BadType, BusTwice, UnknownBus, TooMany, ShortRow, BadStatus}
use Rattle.obs_matpower.specs.declared.part.MatTable.{MatTable}
use Rattle.obs_matpower.specs.declared.part.MatTable.TheVariants as table
use Rattle.obs_matpower.specs.inner.Case.{AreAllBranches, AreAllBuses}
use Rattle.obs_matpower.specs.inner.IsFault.{BranchRowHas, BranchTableHas, BusRowHas, BusTableHas, IsBranchFault, IsFault, IsNotAfter}
use Rattle.obs_matpower.specs.inner.Laws.{FirstFaultOfFile}
use Rattle.obs_matpower.specs.Read.{BusRow, buses_of, mat_within, read_branch, read_bus, read_table}
use Rattle.obs_matpower.specs.Table.{end_of, is_ended, is_there, left_open, missing}
use Rattle.obs_matpower.specs.Whole.{table_rows}
use Rattle.obs_matpower.proofs.FileLemmas.{after_buses, table_read}
use Rattle.obs_matpower.proofs.LawLemmas.{branches_are, branches_read, buses_are, buses_read, few_branches, few_buses, rows_read}
use Rattle.obs_matpower.proofs.RowFaults.{bus_has, bus_met, branch_has, branch_met}

-- ---- tables that are read

module _ {R : Type 0} (read : List R → ℕ → List ℕ → Result R MatFault) where
  -- a table that isn't read stops at a row, or has a fault at its end
  abbrev pub TableStops : MatTable → List ℕ → MatFault → Type 0
  TableStops which bytes fault =
      Stops read [] (table_rows which bytes) fault ⊎ ((rows : List R) × (read_rows read [] (table_rows which bytes) ≡ Ok rows) × (end_of which bytes ≡ Some fault))

  pub table_stops : (which : MatTable) (bytes : List ℕ) (fault : MatFault) → read_table read which bytes ≡ Err fault → TableStops which bytes fault
  table_stops which bytes fault is = by (read_rows read [] (table_rows which bytes)) (end_of which bytes) refl refl is
    where
      by : (r : Result (List R) MatFault) (end : Option MatFault) → read_rows read [] (table_rows which bytes) ≡ r → end_of which bytes ≡ end → on_ok r (at_end end) ≡ Err fault → TableStops which bytes fault
      by (Ok rows) None e f h = cc
      by (Ok rows) (Some g) e f h = (let same : g ≡ fault = cc in inr (rows, e, f ∙ ap (λ x. Some x) same))
      by (Err g) end e f h = (let same : g ≡ fault = cc in inl (stops read [] (table_rows which bytes) fault (e ∙ ap (λ x. Err x) same)))

  pub met_in_rows : (which : MatTable) (bytes : List ℕ) (other : MatFault) → Met IsNotAfter (read_rows read [] (table_rows which bytes)) other → Met IsNotAfter (read_table read which bytes) other
  met_in_rows which bytes other met = ends IsNotAfter (read_rows read [] (table_rows which bytes)) (at_end (end_of which bytes)) other met

  pub met_at_end : (which : MatTable) (bytes : List ℕ) (rows : List R) (other : MatFault) → read_rows read [] (table_rows which bytes) ≡ Ok rows → end_of which bytes ≡ Some other → Met IsNotAfter (read_table read which bytes) other
  met_at_end which bytes rows other is end = (
    other,
    ap (λ r. on_ok r (at_end (end_of which bytes))) is ∙ ap (λ e. at_end e rows) end,
    record { same_line = refl; not_higher = omega arith },
  )

-- ---- tables

module _ (most : ℕ) (bytes : List ℕ) where
  -- a fault with which a table ends is that it isn't there or isn't ended
  table_has : (which : MatTable) (Has : MatFault → Type 0) → (is_there which bytes ≡ false → Has (missing which))
      → ((is_there which bytes ≡ true) × (is_ended which bytes ≡ false) → Has (left_open which)) → (fault : MatFault) → end_of which bytes ≡ Some fault → Has fault
  table_has which Has not_there not_ended fault is = by (is_there which bytes) (is_ended which bytes) refl refl is
    where
      by : (there ended : Bool) → is_there which bytes ≡ there → is_ended which bytes ≡ ended → cond (not there) (Some (missing which)) (cond (not ended) (Some (left_open which)) None) ≡ Some fault → Has fault
      by false ended t e h = (let same : missing which ≡ fault = cc in subst Has same (not_there t))
      by true false t e h = (let same : left_open which ≡ fault = cc in subst Has same (not_ended (t, e)))
      by true true t e h = cc

  bus_table_met : (fault : MatFault) → BusTableHas bytes fault → end_of table.Bus bytes ≡ Some fault
  bus_table_met NoBusTable has = rw has refl
  bus_table_met BusTableOpen has = rw (has.0, has.1) refl
  bus_table_met NoBranchTable has = absurd has
  bus_table_met BranchTableOpen has = absurd has
  bus_table_met (BadBusNumber n) has = absurd has
  bus_table_met (BadType n) has = absurd has
  bus_table_met (BusTwice n) has = absurd has
  bus_table_met (UnknownBus n) has = absurd has
  bus_table_met (TooMany n) has = absurd has
  bus_table_met (ShortRow n) has = absurd has
  bus_table_met (BadStatus n) has = absurd has

  branch_table_met : (fault : MatFault) → BranchTableHas bytes fault → end_of table.Branch bytes ≡ Some fault
  branch_table_met NoBusTable has = absurd has
  branch_table_met BusTableOpen has = absurd has
  branch_table_met NoBranchTable has = rw has refl
  branch_table_met BranchTableOpen has = rw (has.0, has.1) refl
  branch_table_met (BadBusNumber n) has = absurd has
  branch_table_met (BadType n) has = absurd has
  branch_table_met (BusTwice n) has = absurd has
  branch_table_met (UnknownBus n) has = absurd has
  branch_table_met (TooMany n) has = absurd has
  branch_table_met (ShortRow n) has = absurd has
  branch_table_met (BadStatus n) has = absurd has

  -- ---- each fault of a file is met, or one that isn't after it

  branch_fault_met : (buses : List BusRow) (other : MatFault) → IsBranchFault most buses bytes other → Met IsNotAfter (read_table (read_branch most buses) table.Branch bytes) other
  branch_fault_met buses other (inl has) =
      met_in_rows (read_branch most buses) table.Branch bytes other
      (row_met IsNotAfter (read_branch most buses) has (branches_read most buses has.before has.done has.done_are) (branch_met most buses has.done has.at has.row other has.has))
  branch_fault_met buses other (inr has) =
      met_at_end (read_branch most buses) table.Branch bytes has.0 other (branches_read most buses (table_rows table.Branch bytes) has.0 has.1) (branch_table_met other has.2)

  fault_met : (other : MatFault) → IsFault most bytes other → Met IsNotAfter (mat_within most bytes) other
  fault_met other (inl has) =
      ends IsNotAfter (read_table (read_bus most) table.Bus bytes) (after_buses most bytes) other
      (met_in_rows (read_bus most) table.Bus bytes other
      (row_met IsNotAfter (read_bus most) has (buses_read most has.before has.done has.done_are) (bus_met most has.done has.at has.row other has.has)))
  fault_met other (inr (buses, are, inl has)) =
      ends IsNotAfter (read_table (read_bus most) table.Bus bytes) (after_buses most bytes) other
      (met_at_end (read_bus most) table.Bus bytes buses other (buses_read most (table_rows table.Bus bytes) buses are) (bus_table_met other has))
  fault_met other (inr (buses, are, inr (whole, has))) =
      let read = rows_read (read_bus most) table.Bus bytes buses (buses_read most (table_rows table.Bus bytes) buses are) whole in
      let met = ends IsNotAfter (read_table (read_branch most buses) table.Branch bytes) (λ branches. Ok (tables_of_rows most (buses_of buses) branches)) other (branch_fault_met buses other has) in
      (met.0, ap (λ r. on_ok r (after_buses most bytes)) read ∙ met.1, met.2)

  -- ---- a fault that is met is one of the file

  branch_fault_is : (buses : List BusRow) (fault : MatFault) → read_table (read_branch most buses) table.Branch bytes ≡ Err fault → IsBranchFault most buses bytes fault
  branch_fault_is buses fault is = by (table_stops (read_branch most buses) table.Branch bytes fault is)
    where
      by : TableStops (read_branch most buses) table.Branch bytes fault → IsBranchFault most buses bytes fault
      by (inl s) =
          inl
          (has_fault (read_branch most buses) (AreAllBranches most buses) (BranchRowHas most buses) s (branches_are most buses s.before s.done s.done_are)
          (branch_has most buses s.done s.at s.row fault (few_branches most buses s.before s.done s.done_are) s.has))
      by (inr (branches, read, end)) = inr (branches, branches_are most buses (table_rows table.Branch bytes) branches read, table_has table.Branch (BranchTableHas bytes) (λ none. none) (λ part. part) fault end)

  fault_in_buses : (fault : MatFault) → read_table (read_bus most) table.Bus bytes ≡ Err fault → IsFault most bytes fault
  fault_in_buses fault is = by (table_stops (read_bus most) table.Bus bytes fault is)
    where
      by : TableStops (read_bus most) table.Bus bytes fault → IsFault most bytes fault
      by (inl s) =
          inl
          (has_fault (read_bus most) (AreAllBuses most) (BusRowHas most) s (buses_are most s.before s.done s.done_are)
          (bus_has most s.done s.at s.row fault (few_buses most s.before s.done s.done_are) s.has))
      by (inr (buses, read, end)) = inr (buses, buses_are most (table_rows table.Bus bytes) buses read, inl (table_has table.Bus (BusTableHas bytes) (λ none. none) (λ part. part) fault end))

  branches_fault : (buses : List BusRow) (fault : MatFault) (r : Result (List Branch) MatFault) → read_table (read_branch most buses) table.Branch bytes ≡ r → on_ok r (λ branches. Ok (tables_of_rows most (buses_of buses) branches)) ≡ Err fault
      → IsBranchFault most buses bytes fault
  branches_fault buses fault (Ok branches) e is = cc
  branches_fault buses fault (Err f) e is = (let same : f ≡ fault = cc in branch_fault_is buses fault (e ∙ ap (λ g. Err g) same))

  fault_is : (fault : MatFault) → mat_within most bytes ≡ Err fault → IsFault most bytes fault
  fault_is fault is = by (read_table (read_bus most) table.Bus bytes) refl is
    where
      by : (r : Result (List BusRow) MatFault) → read_table (read_bus most) table.Bus bytes ≡ r → on_ok r (after_buses most bytes) ≡ Err fault → IsFault most bytes fault
      by (Err f) e h = (let same : f ≡ fault = cc in fault_in_buses fault (e ∙ ap (λ g. Err g) same))
      by (Ok buses) e h =
          let read = table_read (read_bus most) table.Bus bytes buses e in
          inr (buses, buses_are most (table_rows table.Bus bytes) buses read.0, inr (read.1, branches_fault buses fault (read_table (read_branch most buses) table.Branch bytes) refl h))

pub FirstFaultOfFile-holds : FirstFaultOfFile
FirstFaultOfFile-holds most bytes = first_met IsNotAfter (IsFault most bytes) (mat_within most bytes) (fault_is most bytes) (fault_met most bytes)
