-- Numbered buses and named branches, and the tables of them.
use Rattle.std.specs.Prelude.{ℕ, ◌==◌, Bool, false, List, [], ◌∷◌, map, decimal}
use Rattle.std.specs.List.{list_any, position_or_len}
use Rattle.obs_case.specs.Tables.{Tables}
use Rattle.obs_case.specs.declared.rows.Branch.{Branch}
use Rattle.obs_case.specs.declared.rows.Node.{Node}

-- a bus: its number, and whether it has a source
pub record Bus : Type 0 where
  pub number : ℕ
  pub source : Bool

-- whether one of these buses has the number
abbrev pub has_bus : List Bus → ℕ → Bool
has_bus buses number = list_any (λ (bus : Bus). bus.number == number) buses

-- its position among them
abbrev pub place_of_bus : List Bus → ℕ → ℕ
place_of_bus buses number = position_or_len (λ (bus : Bus). bus.number == number) buses

-- the name of the k-th branch, counted from 1
abbrev pub branch_name : ℕ → List ℕ
branch_name k = 0x4C ∷ decimal k

-- the node that a bus is: its name is its number without leading zeros, and it isn't marked absolute
abbrev pub node_of_bus : Bus → Node
node_of_bus bus = record { name = decimal bus.number; source = bus.source; absolute = false }

-- the tables of these buses and branches, under this limit of rows
abbrev pub tables_of_rows : ℕ → List Bus → List Branch → Tables
tables_of_rows most buses branches =
    record { nodes = map node_of_bus buses; switches = []; branches = branches; meters = []; candidates = []; most = most }
