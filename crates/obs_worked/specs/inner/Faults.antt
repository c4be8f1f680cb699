-- What the bytes of tables are: a case, or a first fault, of which a line is printed.
use Prim.Native.String.{String}
use Rattle.std.specs.Prelude.{◌≡◌, List, [], ◌∷◌, Some, None, option_map, Ok}
use Rattle.obs_case.specs.Tables.{Tables}
use Rattle.obs_case.specs.inner.Tables.{no_rows}
use Rattle.obs_case_csv.specs.declared.faults.Table.{Table}
use Rattle.obs_case_csv.specs.declared.faults.Table.TheVariants.{Nodes, Switches, Meters, Candidates}
use Rattle.obs_case_csv.specs.Faults.{table_fault}
use Rattle.obs_case_csv.specs.Read.{fault_in}
use Rattle.obs_case_csv.specs.inner.Read.{tables_in}
use Rattle.obs_files.specs.declared.status.Status.TheVariants.{InputFault}
use Rattle.obs_engine.specs.Replies.{fault_reply}
use Rattle.obs_worked.specs.inner.Cases.{one_bus, row_of_four, row_offered}
use Rattle.obs_worked.specs.inner.Rows.{printed, typed}

-- the line that is printed of the first fault of a table of these lines, given other tables
abbrev pub HasFault : Table → Tables → List String → String → Type 0
HasFault table t lines line =
    option_map (λ fault. fault_reply (table_fault fault)) (fault_in table t (typed lines))
    ≡ Some (record { status = InputFault; text = printed (line ∷ []) })

-- a table of these lines has no fault
abbrev pub HasNone : Table → Tables → List String → Type 0
HasNone table t lines = fault_in table t (typed lines) ≡ None

-- nodes: no header, a flag that is none, a name twice, a column twice; further columns and any order of columns are well
abbrev pub FaultsOfNodes : Type 0
FaultsOfNodes =
    HasFault Nodes no_rows [] "fault nodes 0 1 NoHeader"
    × HasFault Nodes no_rows ("node,source" ∷ "a,2" ∷ []) "fault nodes 1 6 BadFlag"
    × HasFault Nodes no_rows ("node,source" ∷ "a,0" ∷ "a,0" ∷ []) "fault nodes 2 9 NameTwice"
    × HasFault Nodes no_rows ("node,source,node" ∷ []) "fault nodes 0 3 ColumnTwice"
    × HasNone Nodes no_rows ("source,node,zone" ∷ "1,a,x" ∷ "0,b,y" ∷ [])

-- other tables: a flag is looked at before the ends, and a place, a kind and a price are what they may be
abbrev pub FaultsOfOthers : Type 0
FaultsOfOthers =
    HasFault Switches one_bus ("switch,from,to,closed" ∷ "S1,a,z,7" ∷ []) "fault switches 1 6 BadFlag"
    × HasFault Meters (record row_of_four { meters = [] }) ("meter,kind,at,inservice" ∷ "f1,flow,L9,1" ∷ []) "fault meters 1 11 UnknownPlace"
    × HasFault Meters (record row_of_four { meters = [] }) ("meter,kind,at,inservice" ∷ "g1,Angle,a,1" ∷ []) "fault meters 1 7 BadKind"
    × HasFault Candidates row_of_four ("candidate,kind,at,price" ∷ "p1,flow,L3,1000000001" ∷ []) "fault candidates 1 8 BadPrice"

-- five tables that are the row of four buses and its candidates
abbrev pub RowIsRead : Type 0
RowIsRead =
    tables_in
    (typed ("node,source" ∷ "a,1" ∷ "b,0" ∷ "c,0" ∷ "d,0" ∷ []))
    (typed ("switch,from,to,closed" ∷ []))
    (typed ("branch,from,to,inservice" ∷ "L1,a,b,1" ∷ "L2,b,c,1" ∷ "L3,c,d,1" ∷ []))
    (typed ("meter,kind,at,inservice" ∷ "f1,flow,L1,1" ∷ "f2,flow,L1,1" ∷ "ib,injection,b,1" ∷ []))
    (Some (typed ("candidate,kind,at,price" ∷ "p1,flow,L2,0" ∷ "p2,injection,c,3" ∷ "p3,flow,L3,5" ∷ [])))
    ≡ Ok row_offered
