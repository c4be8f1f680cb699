-- When the bytes of five tables are a case, and the law that a fault is given exactly where they are none.
use Rattle.std.specs.Prelude.{ℕ, ◌≡◌, List, [], ◌∷◌, codes, Option, None, Some, MatchResult, option_and_then}
use Rattle.obs_case.specs.declared.rows.Branch.{Branch}
use Rattle.obs_case.specs.declared.rows.Candidate.{Candidate}
use Rattle.obs_case.specs.declared.rows.Meter.{Meter}
use Rattle.obs_case.specs.declared.rows.Node.{Node}
use Rattle.obs_case.specs.declared.rows.Switch.{Switch}
use Rattle.obs_case.specs.Tables.{IsValid, Tables, node_names, place_names, position_of, usual_rows}
use Rattle.obs_case_csv.specs.declared.faults.Table.{Table}
use Rattle.obs_case_csv.specs.declared.faults.Table.TheVariants.{Nodes, Switches, Branches, Meters, Candidates}
use Rattle.obs_case_csv.specs.Fields.{Record, field_under, flag_of, header_fault, kind_of, price_of}
use Rattle.obs_case_csv.specs.Read.{table_records, tables_within}

-- each field of a row is the reading of the record's field under its column
pub record IsNode (t : Tables) (header row : Record) (node : Node) : Type 0 where
  pub name : field_under header row (codes "node") ≡ Some node.name
  pub source : option_and_then flag_of (field_under header row (codes "source")) ≡ Some node.source
  pub absolute : option_and_then flag_of (field_under header row (codes "absolute")) ≡ Some node.absolute

pub record IsSwitch (t : Tables) (header row : Record) (switch : Switch) : Type 0 where
  pub name : field_under header row (codes "switch") ≡ Some switch.name
  pub from : option_and_then (position_of (node_names t)) (field_under header row (codes "from")) ≡ Some switch.from
  pub to : option_and_then (position_of (node_names t)) (field_under header row (codes "to")) ≡ Some switch.to
  pub closed : option_and_then flag_of (field_under header row (codes "closed")) ≡ Some switch.closed

pub record IsBranch (t : Tables) (header row : Record) (branch : Branch) : Type 0 where
  pub name : field_under header row (codes "branch") ≡ Some branch.name
  pub from : option_and_then (position_of (node_names t)) (field_under header row (codes "from")) ≡ Some branch.from
  pub to : option_and_then (position_of (node_names t)) (field_under header row (codes "to")) ≡ Some branch.to
  pub inservice : option_and_then flag_of (field_under header row (codes "inservice")) ≡ Some branch.inservice

pub record IsMeter (t : Tables) (header row : Record) (meter : Meter) : Type 0 where
  pub name : field_under header row (codes "meter") ≡ Some meter.name
  pub kind : option_and_then kind_of (field_under header row (codes "kind")) ≡ Some meter.kind
  pub at : option_and_then (position_of (place_names t meter.kind)) (field_under header row (codes "at")) ≡ Some meter.at
  pub inservice : option_and_then flag_of (field_under header row (codes "inservice")) ≡ Some meter.inservice

pub record IsCandidate (t : Tables) (header row : Record) (candidate : Candidate) : Type 0 where
  pub name : field_under header row (codes "candidate") ≡ Some candidate.name
  pub kind : option_and_then kind_of (field_under header row (codes "kind")) ≡ Some candidate.kind
  pub at : option_and_then (position_of (place_names t candidate.kind)) (field_under header row (codes "at")) ≡ Some candidate.at
  pub price : option_and_then price_of (field_under header row (codes "price")) ≡ Some candidate.price

-- one record for each row, in their order
unfoldable pub EachIs : {R : Type 0} → (Record → R → Type 0) → List Record → List R → Type 0
EachIs is [] [] = Unit {0}
EachIs is [] (x ∷ xs) = ⊥
EachIs is (row ∷ rows) [] = ⊥
EachIs is (row ∷ rows) (x ∷ xs) = is row x × EachIs is rows xs

-- the records, as many as are asked for under this limit, are a header without a fault, and then the rows
pub record AreRows {R : Type 0} (most : ℕ) (is : Record → Record → R → Type 0) (table : Table) (bytes : List ℕ) (rows : List R) : Type 0 where
  pub header : Record
  pub records : List Record
  pub records_are : table_records most bytes ≡ header ∷ records
  pub columns : header_fault table header ≡ None
  pub each : EachIs (is header) records rows

-- the same of a table that isn't given: it has no rows
abbrev pub AreRowsGiven : {R : Type 0} → ℕ → (Record → Record → R → Type 0) → Table → Option (List ℕ) → List R → Type 0
AreRowsGiven most is table None rows = rows ≡ []
AreRowsGiven most is table (Some bytes) rows = AreRows most is table bytes rows

-- the bytes are the case under this limit: it is valid, and each table's bytes are its rows
pub record IsCaseWithin (most : ℕ) (nodes switches branches meters : List ℕ) (candidates : Option (List ℕ)) (t : Tables) : Type 0 where
  pub limit : t.most ≡ most
  pub valid : IsValid t
  pub nodes_are : AreRows most (IsNode t) Nodes nodes t.nodes
  pub switches_are : AreRows most (IsSwitch t) Switches switches t.switches
  pub branches_are : AreRows most (IsBranch t) Branches branches t.branches
  pub meters_are : AreRows most (IsMeter t) Meters meters t.meters
  pub candidates_are : AreRowsGiven most (IsCandidate t) Candidates candidates t.candidates

-- under a limit, the case that is read is the only one that the bytes are, and a fault is given exactly where they are none
abbrev pub ReadExactlyWithin : ℕ → Type 0
ReadExactlyWithin most =
    (nodes switches branches meters : List ℕ) (candidates : Option (List ℕ))
    → MatchResult (tables_within most nodes switches branches meters candidates)
    (λ t. IsCaseWithin most nodes switches branches meters candidates t × ((u : Tables) → IsCaseWithin most nodes switches branches meters candidates u → u ≡ t))
    (λ fault. (t : Tables) → IsCaseWithin most nodes switches branches meters candidates t → ⊥)

-- the same under the usual limit
abbrev pub ReadExactly : Type 0
ReadExactly = ReadExactlyWithin usual_rows
