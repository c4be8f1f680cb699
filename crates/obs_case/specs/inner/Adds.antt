-- When a row that is added is refused, and the row of a node.
use Rattle.std.specs.Prelude.{◌≡◌, ℕ, ◌==◌, ◌&&◌, Bool, false, List, length, Option, None, Some, if◌then◌else◌}
use Rattle.obs_case.specs.declared.rows.Kind.{Kind}
use Rattle.obs_case.specs.declared.rows.Node.{Node}
use Rattle.obs_case.specs.declared.table.AddFault.{AddFault}
use Rattle.obs_case.specs.declared.table.AddFault.TheVariants.{NameTwice, UnknownNode, UnknownPlace, TooMany, NoMemory}
use Rattle.obs_case.specs.Tables.{Tables, node_names, switch_names, branch_names, meter_names, candidate_names, has_name, place_names}

-- the number of a refusal
abbrev pub add_fault_code : AddFault → ℕ
add_fault_code NameTwice = 1
add_fault_code UnknownNode = 2
add_fault_code UnknownPlace = 3
add_fault_code TooMany = 4
add_fault_code NoMemory = 5

-- a table with as many rows as its limit takes no row, and no table a name that it has
abbrev pub name_fault : ℕ → List (List ℕ) → List ℕ → Option AddFault
name_fault most names name =
    if length names == most then Some TooMany else (if has_name names name then Some NameTwice else None)

-- both ends are nodes
abbrev pub ends_fault : Tables → List ℕ → List ℕ → Option AddFault
ends_fault t from to = if has_name (node_names t) from && has_name (node_names t) to then None else Some UnknownNode

-- a meter of this kind can stand there
abbrev pub place_fault : Tables → Kind → List ℕ → Option AddFault
place_fault t kind at = if has_name (place_names t kind) at then None else Some UnknownPlace

-- the first fault that there is
abbrev pub first_fault : Option AddFault → Option AddFault → Option AddFault
first_fault None later = later
first_fault (Some fault) later = Some fault

-- why a row is refused, for each table
abbrev pub node_fault : Tables → List ℕ → Option AddFault
node_fault t name = name_fault t.most (node_names t) name

abbrev pub switch_fault : Tables → List ℕ → List ℕ → List ℕ → Option AddFault
switch_fault t name from to = first_fault (name_fault t.most (switch_names t) name) (ends_fault t from to)

abbrev pub branch_fault : Tables → List ℕ → List ℕ → List ℕ → Option AddFault
branch_fault t name from to = first_fault (name_fault t.most (branch_names t) name) (ends_fault t from to)

abbrev pub meter_fault : Tables → List ℕ → Kind → List ℕ → Option AddFault
meter_fault t name kind at = first_fault (name_fault t.most (meter_names t) name) (place_fault t kind at)

abbrev pub candidate_fault : Tables → List ℕ → Kind → List ℕ → Option AddFault
candidate_fault t name kind at = first_fault (name_fault t.most (candidate_names t) name) (place_fault t kind at)

-- an answer that refuses a row: want of memory, or this fault
abbrev pub Refuses : Option AddFault → AddFault → Type 0
Refuses fault NameTwice = fault ≡ Some NameTwice
Refuses fault UnknownNode = fault ≡ Some UnknownNode
Refuses fault UnknownPlace = fault ≡ Some UnknownPlace
Refuses fault TooMany = fault ≡ Some TooMany
Refuses fault NoMemory = Unit {0}

-- the row that a name stands for; a node that is added isn't marked absolute
abbrev pub node_of : List ℕ → Bool → Node
node_of name source = record { name = name; source = source; absolute = false }
