-- How the code hands on the fields of a row: by the order of the needed columns, and then the one that a table may have.
use Rattle.std.specs.Prelude.{ℕ, ◌≡◌, ◌||◌, Bool, List, [], ◌∷◌, codes, Option, None, Some, is_none}
use Rattle.std.specs.List.{list_any}
use Rattle.csv.specs.Records.{field_at}
use Rattle.obs_case.specs.Adds.{branch_of, candidate_of, meter_of, switch_of, with_branch, with_candidate, with_meter, with_node, with_switch}
use Rattle.obs_case.specs.Tables.{Tables, place_of, position_of}
use Rattle.obs_case.specs.declared.table.AddFault.{AddFault}
use Rattle.obs_case.specs.declared.table.AddFault.TheVariants as add
use Rattle.obs_case_csv.specs.declared.columns.Places.{Places}
use Rattle.obs_case_csv.specs.declared.faults.RowFault.{RowFault}
use Rattle.obs_case_csv.specs.declared.faults.RowFault.TheVariants as code
use Rattle.obs_case_csv.specs.declared.faults.Table.{Table}
use Rattle.obs_case_csv.specs.declared.faults.Table.TheVariants.{Nodes, Switches, Branches, Meters, Candidates}
use Rattle.obs_case_csv.specs.declared.rows.RowEnd.{RowEnd}
use Rattle.obs_case_csv.specs.declared.rows.RowEnd.TheVariants.{Fault, NoMemory}
use Rattle.obs_case_csv.specs.Fields.{Record, field_or_0}
use Rattle.obs_case_csv.specs.Rows.{branch_row_fault, candidate_row_fault, flag, kind, meter_row_fault, node_read, node_row_fault, price, switch_row_fault}

-- the needed columns in their order; a table with two has its second again in the later places
abbrev pub own_column : Table → List ℕ
own_column Nodes = codes "node"
own_column Switches = codes "switch"
own_column Branches = codes "branch"
own_column Meters = codes "meter"
own_column Candidates = codes "candidate"

abbrev pub second_column : Table → List ℕ
second_column Nodes = codes "source"
second_column Switches = codes "from"
second_column Branches = codes "from"
second_column Meters = codes "kind"
second_column Candidates = codes "kind"

abbrev pub third_column : Table → List ℕ
third_column Nodes = codes "source"
third_column Switches = codes "to"
third_column Branches = codes "to"
third_column Meters = codes "at"
third_column Candidates = codes "at"

abbrev pub fourth_column : Table → List ℕ
fourth_column Nodes = codes "source"
fourth_column Switches = codes "closed"
fourth_column Branches = codes "inservice"
fourth_column Meters = codes "inservice"
fourth_column Candidates = codes "price"

-- the place of the column that a table may have, if it may and the header has it
abbrev pub further_place : Table → Record → Option ℕ
further_place Nodes header = position_of header (codes "absolute")
further_place Switches header = None
further_place Branches header = None
further_place Meters header = None
further_place Candidates header = None

-- the places of the columns in a header
pub record ArePlaces (table : Table) (header : Record) (places : Places) : Type 0 where
  pub own : places.own ≡ place_of header (own_column table)
  pub second : places.second ≡ place_of header (second_column table)
  pub third : places.third ≡ place_of header (third_column table)
  pub fourth : places.fourth ≡ place_of header (fourth_column table)
  pub further : places.further ≡ further_place table header

-- a row has no field at one of the places
abbrev pub lacks_field : Record → Places → Bool
lacks_field row places =
    list_any (λ place. is_none (field_at row place)) (places.own ∷ places.second ∷ places.third ∷ places.fourth ∷ [])
    || is_none (field_or_0 row places.further)

-- why a row with these fields is refused
abbrev pub ordered_fault : Table → Tables → List ℕ → List ℕ → List ℕ → List ℕ → List ℕ → Option RowFault
ordered_fault Nodes t own second third fourth further = node_row_fault t own second further
ordered_fault Switches t own second third fourth further = switch_row_fault t own second third fourth
ordered_fault Branches t own second third fourth further = branch_row_fault t own second third fourth
ordered_fault Meters t own second third fourth further = meter_row_fault t own second third fourth
ordered_fault Candidates t own second third fourth further = candidate_row_fault t own second third fourth

-- the tables with a row of these fields
abbrev pub with_ordered : Table → Tables → List ℕ → List ℕ → List ℕ → List ℕ → List ℕ → Tables
with_ordered Nodes t own second third fourth further = with_node t (node_read own second further)
with_ordered Switches t own second third fourth further = with_switch t (switch_of t own second third (flag fourth))
with_ordered Branches t own second third fourth further = with_branch t (branch_of t own second third (flag fourth))
with_ordered Meters t own second third fourth further = with_meter t (meter_of t own (kind second) third (flag fourth))
with_ordered Candidates t own second third fourth further = with_candidate t (candidate_of t own (kind second) third (price fourth))

-- an answer that refuses a row: want of memory, or this fault
abbrev pub Stops : Option RowFault → RowEnd → Type 0
Stops fault (Fault f) = fault ≡ Some f
Stops fault NoMemory = Unit {0}

-- what an add call's fault is called here
abbrev pub row_end : AddFault → RowEnd
row_end add.NameTwice = Fault code.NameTwice
row_end add.UnknownNode = Fault code.UnknownNode
row_end add.UnknownPlace = Fault code.UnknownPlace
row_end add.TooMany = Fault code.TooMany
row_end add.NoMemory = NoMemory
