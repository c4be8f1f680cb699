-- The lines of placements: plans with their layers, and shortfalls.
use Rattle.std.specs.Prelude.{ℕ, ◌-◌, List, [], ◌∷◌, ◌++◌, codes, decimal, drop, take}
use Rattle.std.specs.List.{flat_map}
use Rattle.obs_case.specs.Tables.{Tables}
use Rattle.obs_matroid.specs.Assignments.{Pair}
use Rattle.obs_placement.specs.declared.plans.Layer.{Layer}
use Rattle.obs_placement.specs.Placed.{ShortfallValue, Placed, PlanValue, cheapest, shortfall}
use Rattle.obs_report.specs.Items.{candidate_name, inside_line, pair_line}
use Rattle.obs_report.specs.Lines.{line_of}

-- what a plan costs, and a candidate that it chooses
abbrev pub cost_line : ℕ → List ℕ
cost_line cost = line_of (codes "cost" ∷ decimal cost ∷ [])

abbrev pub chosen_line : Tables → ℕ → List ℕ
chosen_line t k = line_of (codes "chosen" ∷ candidate_name t k ∷ [])

-- the line of a layer: its two prices, and the two numbers of its bound
abbrev pub layer_line : Layer → List ℕ
layer_line l = line_of (codes "layer" ∷ decimal l.from ∷ decimal l.to ∷ decimal l.rank ∷ decimal l.outside ∷ [])

-- the line of a shortfall: the two numbers of its bound
abbrev pub shortfall_line : ℕ → ℕ → List ℕ
shortfall_line rank outside = line_of (codes "shortfall" ∷ decimal rank ∷ decimal outside ∷ [])

-- the listed items from one place up to another
abbrev pub listed_between : Tables → List ℕ → ℕ → ℕ → List ℕ
listed_between t inside from to = flat_map (inside_line t) (take (to - from) (drop from inside))

-- each layer's line and those of the items that it adds, where u items are listed before the first
abbrev pub layers_text : Tables → List ℕ → ℕ → List Layer → List ℕ
layers_text t inside u [] = []
layers_text t inside u (l ∷ ls) = (layer_line l ++ listed_between t inside u l.upto) ++ layers_text t inside l.upto ls

-- a plan, with the pairs of meters and candidates
abbrev pub plan_text : Tables → PlanValue → List Pair → List ℕ
plan_text t p pairs =
    ((cost_line p.cost ++ flat_map (chosen_line t) p.chosen) ++ flat_map (pair_line t) pairs) ++ layers_text t p.inside 0 p.layers

-- a shortfall, with the items that its bound lists
abbrev pub shortfall_text : Tables → ShortfallValue → List ℕ
shortfall_text t b = shortfall_line b.rank b.outside ++ flat_map (inside_line t) b.inside

-- a placement; a shortfall has no pairs
abbrev pub placement_text : Tables → Placed → List Pair → List ℕ
placement_text t (cheapest p) pairs = plan_text t p pairs
placement_text t (shortfall b) pairs = shortfall_text t b
