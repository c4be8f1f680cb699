-- When the bytes of one table are rows of a case, and when those of two are a case of nodes and switches alone.
use Rattle.std.specs.Prelude.{ℕ, ◌≡◌, ◌+◌, ◌⊎◌, List, [], ◌∷◌, ◌++◌, length, Option, None, Some}
use Rattle.obs_case.specs.Tables.{IsValid, Tables, usual_rows}
use Rattle.obs_case_csv.specs.declared.faults.Table.{Table}
use Rattle.obs_case_csv.specs.declared.faults.Table.TheVariants.{Nodes, Switches, Branches, Meters, Candidates}
use Rattle.obs_case_csv.specs.Fields.{Record, header_fault}
use Rattle.obs_case_csv.specs.IsCase.{AreRows, EachIs, IsBranch, IsCandidate, IsMeter, IsNode, IsSwitch}
use Rattle.obs_case_csv.specs.Read.{table_records}

-- tables u are t but for this one
abbrev pub SameBut : Table → Tables → Tables → Type 0
SameBut Nodes t u = u ≡ record t { nodes = u.nodes }
SameBut Switches t u = u ≡ record t { switches = u.switches }
SameBut Branches t u = u ≡ record t { branches = u.branches }
SameBut Meters t u = u ≡ record t { meters = u.meters }
SameBut Candidates t u = u ≡ record t { candidates = u.candidates }

-- a table of u has one row for each of these records, in their order, and the other tables of u are those of t
abbrev pub HasRows : Table → Record → List Record → Tables → Tables → Type 0
HasRows Nodes header records t u = SameBut Nodes t u × EachIs (IsNode u header) records u.nodes
HasRows Switches header records t u = SameBut Switches t u × EachIs (IsSwitch u header) records u.switches
HasRows Branches header records t u = SameBut Branches t u × EachIs (IsBranch u header) records u.branches
HasRows Meters header records t u = SameBut Meters t u × EachIs (IsMeter u header) records u.meters
HasRows Candidates header records t u = SameBut Candidates t u × EachIs (IsCandidate u header) records u.candidates

-- records are numbered from 0, the header. Up to number 0 there is nothing, and u is t; else the table of u has one row for each record
-- behind the header and before this number, in order, and the others are those of t
abbrev pub HasRowsBefore : Table → ℕ → List Record → Tables → Tables → Type 0
HasRowsBefore table number records t u =
    ((number ≡ 0) × (u ≡ t))
    ⊎ ((header : Record) × (before : List Record) × (rest : List Record)
    × (records ≡ header ∷ (before ++ rest)) × (number ≡ length before + 1) × HasRows table header before t u)

-- the bytes are a table of u: their records are a header without a fault, and then that table's rows; u is valid, and
-- its other tables are those of t
pub record IsTableOf (table : Table) (bytes : List ℕ) (t u : Tables) : Type 0 where
  pub header : Record
  pub records : List Record
  pub records_are : table_records t.most bytes ≡ header ∷ records
  pub columns : header_fault table header ≡ None
  pub valid : IsValid u
  pub rows : HasRows table header records t u

-- tables have the candidates of these bytes, or none where no bytes are given, and else are those before
abbrev pub HasCandidates : Option (List ℕ) → Tables → Tables → Type 0
HasCandidates None before tables = tables ≡ before
HasCandidates (Some bytes) before tables = IsTableOf Candidates bytes before tables

-- the bytes are a case of nodes and switches alone under this limit: it is valid, and each table's bytes are its rows
pub record IsSwitchingCaseWithin (most : ℕ) (nodes switches : List ℕ) (t : Tables) : Type 0 where
  pub limit : t.most ≡ most
  pub valid : IsValid t
  pub nodes_are : AreRows most (IsNode t) Nodes nodes t.nodes
  pub switches_are : AreRows most (IsSwitch t) Switches switches t.switches
  pub no_branches : t.branches ≡ []
  pub no_meters : t.meters ≡ []
  pub no_candidates : t.candidates ≡ []

-- the same under the usual limit
abbrev pub IsSwitchingCase : List ℕ → List ℕ → Tables → Type 0
IsSwitchingCase nodes switches t = IsSwitchingCaseWithin usual_rows nodes switches t
