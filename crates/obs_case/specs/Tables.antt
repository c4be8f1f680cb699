-- What a case holds: five tables of rows, and when they are valid.
use Rattle.std.specs.Prelude.{ℕ, ◌<◌, ◌≤◌, ◌&&◌, Bool, true, not, IsTrue, List, [], ◌∷◌, length, map, position, All, Option}
use Rattle.std.specs.List.{list_all, list_any, position_or_len}
use Rattle.std.specs.Str.{bytes_eq}
use Rattle.obs_text.specs.Names.{is_name}
use Rattle.obs_case.specs.declared.rows.Branch.{Branch}
use Rattle.obs_case.specs.declared.rows.Candidate.{Candidate}
use Rattle.obs_case.specs.declared.rows.Kind.{Kind}
use Rattle.obs_case.specs.declared.rows.Kind.TheVariants.{Flow, Injection, Zero, Angle}
use Rattle.obs_case.specs.declared.rows.Meter.{Meter}
use Rattle.obs_case.specs.declared.rows.Node.{Node}
use Rattle.obs_case.specs.declared.rows.Switch.{Switch}

-- the five tables of a case, and the most rows that each of them may have
pub record Tables : Type 0 where
  pub nodes : List Node
  pub switches : List Switch
  pub branches : List Branch
  pub meters : List Meter
  pub candidates : List Candidate
  pub most : ℕ

-- the highest limit of rows that a case may have
abbrev pub most_rows : ℕ
most_rows = 1000000

-- the limit of rows that a case has where none is given
abbrev pub usual_rows : ℕ
usual_rows = 20000

-- five tables without rows, under this limit
abbrev pub no_rows_within : ℕ → Tables
no_rows_within most = record { nodes = []; switches = []; branches = []; meters = []; candidates = []; most = most }

-- the names of each table's rows, in their order
abbrev pub node_names : Tables → List (List ℕ)
node_names t = map (λ (row : Node). row.name) t.nodes

abbrev pub switch_names : Tables → List (List ℕ)
switch_names t = map (λ (row : Switch). row.name) t.switches

abbrev pub branch_names : Tables → List (List ℕ)
branch_names t = map (λ (row : Branch). row.name) t.branches

abbrev pub meter_names : Tables → List (List ℕ)
meter_names t = map (λ (row : Meter). row.name) t.meters

abbrev pub candidate_names : Tables → List (List ℕ)
candidate_names t = map (λ (row : Candidate). row.name) t.candidates

-- what candidates cost
abbrev pub prices_of : List Candidate → List ℕ
prices_of candidates = map (λ (row : Candidate). row.price) candidates

-- whether a row has this name
abbrev pub has_name : List (List ℕ) → List ℕ → Bool
has_name names name = list_any (bytes_eq name) names

-- the position of the first row with this name, if there is one
abbrev pub position_of : List (List ℕ) → List ℕ → Option ℕ
position_of names name = position (bytes_eq name) names

-- the same position, which is the number of rows where no row has the name
abbrev pub place_of : List (List ℕ) → List ℕ → ℕ
place_of names name = position_or_len (bytes_eq name) names

-- the names of what a meter of this kind stands at: a branch for a flow, a node for the others
abbrev pub place_names : Tables → Kind → List (List ℕ)
place_names t Flow = branch_names t
place_names t Injection = node_names t
place_names t Zero = node_names t
place_names t Angle = node_names t

-- how many positions there are for a meter of this kind
abbrev pub places : Tables → Kind → ℕ
places t Flow = length t.branches
places t Injection = length t.nodes
places t Zero = length t.nodes
places t Angle = length t.nodes

-- no two of these names are equal
unfoldable pub are_different : List (List ℕ) → Bool
are_different [] = true
are_different (name ∷ names) = not (has_name names name) && are_different names

-- the highest price
abbrev pub most_price : ℕ
most_price = 1000000000

-- a table's names are names, no two of them are equal, and there are at most so many
pub record IsNamed (most : ℕ) (names : List (List ℕ)) : Type 0 where
  pub named : IsTrue (list_all is_name names)
  pub different : IsTrue (are_different names)
  pub few : length names ≤ most

-- the tables are well named, positions are in range, prices are in range, and the limit of rows is one that a case may have
pub record IsValid (t : Tables) : Type 0 where
  pub nodes : IsNamed t.most (node_names t)
  pub switches : IsNamed t.most (switch_names t)
  pub branches : IsNamed t.most (branch_names t)
  pub meters : IsNamed t.most (meter_names t)
  pub candidates : IsNamed t.most (candidate_names t)
  pub switch_ends : All (λ row. (row.from < length t.nodes) × (row.to < length t.nodes)) t.switches
  pub branch_ends : All (λ row. (row.from < length t.nodes) × (row.to < length t.nodes)) t.branches
  pub meter_places : All (λ row. row.at < places t row.kind) t.meters
  pub candidate_places : All (λ row. row.at < places t row.kind) t.candidates
  pub prices : All (λ row. row.price ≤ most_price) t.candidates
  pub limit : t.most ≤ most_rows
