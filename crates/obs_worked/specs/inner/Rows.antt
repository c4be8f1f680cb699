-- Rows of tables and printed lines, written short.
use Prim.Native.String.{String}
use Rattle.std.specs.Prelude.{ℕ, ◌==◌, Bool, false, true, List, [], ◌∷◌, ◌++◌, codes, map, if◌then◌else◌}
use Rattle.obs_case.specs.declared.rows.Branch.{Branch}
use Rattle.obs_case.specs.declared.rows.Candidate.{Candidate}
use Rattle.obs_case.specs.declared.rows.Kind.{Kind}
use Rattle.obs_case.specs.declared.rows.Meter.{Meter}
use Rattle.obs_case.specs.declared.rows.Node.{Node}
use Rattle.obs_case.specs.declared.rows.Switch.{Switch}

-- a node that isn't absolute
abbrev pub node : String → Bool → Node
node name source = record { name = codes name; source = source; absolute = false }

-- an absolute node
abbrev pub absolute_node : String → Bool → Node
absolute_node name source = record { name = codes name; source = source; absolute = true }

-- a switch between two nodes
abbrev pub switch : String → ℕ → ℕ → Bool → Switch
switch name from to closed = record { name = codes name; from = from; to = to; closed = closed }

-- a branch in service between two nodes
abbrev pub branch : String → ℕ → ℕ → Branch
branch name from to = record { name = codes name; from = from; to = to; inservice = true }

-- a branch out of service
abbrev pub branch_out : String → ℕ → ℕ → Branch
branch_out name from to = record { name = codes name; from = from; to = to; inservice = false }

-- a meter in service
abbrev pub meter : String → Kind → ℕ → Meter
meter name kind at = record { name = codes name; kind = kind; at = at; inservice = true }

-- a candidate and its price
abbrev pub candidate : String → Kind → ℕ → ℕ → Candidate
candidate name kind at price = record { name = codes name; kind = kind; at = at; price = price }

-- a tab in the place of a blank
abbrev pub tab_for_blank : ℕ → ℕ
tab_for_blank byte = if byte == 0x20 then 0x09 else byte

-- printed lines, each written with a blank for each tab
abbrev pub printed : List String → List ℕ
printed [] = []
printed (line ∷ lines) = map tab_for_blank (codes line) ++ 0x0A ∷ printed lines

-- lines of an input, each with its line feed
abbrev pub typed : List String → List ℕ
typed [] = []
typed (line ∷ lines) = codes line ++ 0x0A ∷ typed lines
