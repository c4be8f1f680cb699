-- The clauses of claims: each is a test that is true where the clause is false, under the name of its flaw.
use Rattle.std.specs.Prelude.{◌≡◌, ℕ, ◌+◌, ◌-◌, ◌*◌, ◌==◌, ◌||◌, ◌&&◌, Bool, true, false, not, nat_lt, Option, None, Some, List, [], ◌∷◌, ◌++◌, length, filter, flat_map, if◌then◌else◌}
use Rattle.std.specs.List.{list_any, sum_by}
use Rattle.obs_case.specs.Tables.{Tables, has_name, node_names}
use Rattle.obs_matroid.specs.Assignments.{Pair as NumberPair, branches}
use Rattle.obs_meter.specs.Spanned.{rank_at}
use Rattle.obs_network.specs.Network.{case_branches, case_needed, case_vertex_count}
use Rattle.obs_cert.specs.declared.flaw.FlawCode.{FlawCode}
use Rattle.obs_cert.specs.declared.flaw.FlawCode.TheVariants.{UnknownName, NotComponent, NotInside, NotTouched, Twice, Cycle, WrongLength, WrongRank, WrongOutside, NotBelow, WrongLayers, WrongCost}
use Rattle.obs_cert.specs.declared.flaw.Flaw.{Flaw}
use Rattle.obs_cert.specs.Claims.{Claim, BoundClaim, CostClaim, Item, Layer, Pair, ShortfallClaim, TreeClaim, tree, bound, cost, shortfall}
use Rattle.obs_cert.specs.Numbered.{candidate_items, is_known, is_known_branch, items_of, paired_items, pairs_of}
use Rattle.obs_meter.specs.Lost.{is_listed}
use Rattle.obs_cert.specs.Scopes.{is_below, is_live_item, is_meter_in, is_of_plan, item_touches, named_component, named_need, names_component, price_at, scope_of}

-- an item isn't in its table, or a word stands for no branch in its pair
abbrev pub unknown_item : Tables → List Item → Bool
unknown_item t inside = list_any (λ item. not (is_known t item)) inside

abbrev pub unknown_branch : Tables → List Pair → Bool
unknown_branch t pairs = list_any (λ (p : Pair). not (is_known_branch t p.item p.branch)) pairs

-- a name or a word of a pair stands for nothing
abbrev pub unknown_pair : Tables → List Pair → Bool
unknown_pair t pairs = unknown_item t (paired_items pairs) || unknown_branch t pairs

-- an item isn't one that the claim may speak of
abbrev pub not_inside : (ℕ → Bool) → List ℕ → Bool
not_inside scope list = list_any (λ m. not (scope m)) list

-- a pair's branch isn't touched by its item
abbrev pub not_touched : Tables → List NumberPair → Bool
not_touched t pairs = list_any (λ (p : NumberPair). not (is_listed (item_touches t p.0) p.1)) pairs

-- a number stands twice
abbrev pub twice : List ℕ → Bool
twice [] = false
twice (x ∷ xs) = is_listed xs x || twice xs

-- an item or a branch stands in two pairs
abbrev pub paired_twice : Tables → List Pair → Bool
paired_twice t pairs = twice (items_of t (paired_items pairs)) || twice (branches (pairs_of t pairs))

-- the rank of some branches, and of those that some items touch
abbrev pub rank_of_branches : Tables → List ℕ → ℕ
rank_of_branches t positions = rank_at (case_vertex_count t) (case_branches t) positions

abbrev pub rank_of_items : Tables → List ℕ → ℕ
rank_of_items t list = rank_of_branches t (flat_map (item_touches t) list)

-- the pairs' branches are no forest: their rank isn't their number
abbrev pub cycle : Tables → List NumberPair → Bool
cycle t pairs = not (rank_of_branches t (branches pairs) == length pairs)

abbrev pub wrong_length : List NumberPair → ℕ → Bool
wrong_length pairs need = not (length pairs == need)

abbrev pub wrong_rank : Tables → List ℕ → ℕ → Bool
wrong_rank t list stated = not (rank_of_items t list == stated)

-- how many items of a scope are outside a list
abbrev pub outside_of : Tables → (ℕ → Bool) → List ℕ → ℕ
outside_of t scope list = length (filter (λ m. not (is_listed list m)) (scope_of t scope))

abbrev pub wrong_outside : Tables → (ℕ → Bool) → List ℕ → ℕ → Bool
wrong_outside t scope list stated = not (outside_of t scope list == stated)

abbrev pub not_below : ℕ → ℕ → ℕ → Bool
not_below rank outside need = not (nat_lt (rank + outside) need)

-- a layer with its list: all that is listed up to its end
pub record Listed : Type 0 where
  pub layer : Layer
  pub list : List ℕ

abbrev pub listed_from : Tables → List ℕ → List Layer → List Listed
listed_from t before [] = []
listed_from t before (layer ∷ layers) =
    record { layer = layer; list = before ++ items_of t layer.inside } ∷ listed_from t (before ++ items_of t layer.inside) layers

abbrev pub listed_layers : Tables → List Layer → List Listed
listed_layers t layers = listed_from t [] layers

-- all that layers list
abbrev pub all_inside : List Layer → List Item
all_inside layers = flat_map (λ (l : Layer). l.inside) layers

-- the layers run on from a price: each begins where the one before it ends, and ends above that
abbrev pub runs_on : ℕ → List Layer → Bool
runs_on from [] = true
runs_on from (l ∷ layers) = (l.from == from) && (nat_lt l.from l.to && runs_on l.to layers)

-- what a layer shows of the cost, and what all show
abbrev pub shows : ℕ → Layer → ℕ
shows needed l = (needed - l.rank - l.outside) * (l.to - l.from)

abbrev pub wrong_cost : Tables → List ℕ → List Layer → ℕ → Bool
wrong_cost t chosen layers number =
    not (sum_by (price_at t) chosen == number) || not (sum_by (shows (case_needed t)) layers == number)

-- the first test that is true
abbrev pub first_true : List (Bool × FlawCode) → Option FlawCode
first_true [] = None
first_true (clause ∷ clauses) = if clause.0 then Some clause.1 else first_true clauses

-- the clauses on the numbers that are stated for a list and a need
abbrev pub bound_clauses : Tables → (ℕ → Bool) → List ℕ → ℕ → ℕ → ℕ → List (Bool × FlawCode)
bound_clauses t scope list rank outside need =
    (wrong_rank t list rank, WrongRank)
    ∷ (wrong_outside t scope list outside, WrongOutside)
    ∷ (not_below rank outside need, NotBelow)
    ∷ []

-- the clauses on a list and these numbers
abbrev pub list_clauses : Tables → (ℕ → Bool) → List ℕ → ℕ → ℕ → ℕ → List (Bool × FlawCode)
list_clauses t scope list rank outside need =
    (twice list, Twice) ∷ bound_clauses t scope list rank outside need

-- the clauses on the pairs' branches and their number, before others
abbrev pub forest_clauses : Tables → List NumberPair → ℕ → List (Bool × FlawCode) → List (Bool × FlawCode)
forest_clauses t pairs need clauses = (cycle t pairs, Cycle) ∷ (wrong_length pairs need, WrongLength) ∷ clauses

-- the clauses on the cost and on what layers state beside these
abbrev pub costs_clauses : Tables → CostClaim → List (Bool × FlawCode)
costs_clauses t c =
    (list_any (λ (l : Layer). not_below l.rank l.outside (case_needed t)) c.layers, NotBelow)
    ∷ (not (runs_on 0 c.layers), WrongLayers)
    ∷ (wrong_cost t (items_of t (candidate_items c.chosen)) c.layers c.number, WrongCost)
    ∷ []

-- the clauses on the ranks of layers and the numbers outside, and these
abbrev pub layers_clauses : Tables → CostClaim → List (Bool × FlawCode)
layers_clauses t c =
    (list_any (λ (l : Listed). wrong_rank t l.list l.layer.rank) (listed_layers t c.layers), WrongRank)
    ∷ (list_any (λ (l : Listed). wrong_outside t (is_below t l.layer.to) l.list l.layer.outside) (listed_layers t c.layers), WrongOutside)
    ∷ costs_clauses t c

-- the flaw of a tree claim
abbrev pub tree_flaw : Tables → TreeClaim → Option FlawCode
tree_flaw t c =
    let pairs = pairs_of t c.pairs in
    first_true (
    (not (has_name (node_names t) c.component) || unknown_pair t c.pairs, UnknownName)
    ∷ (not (names_component t c.component), NotComponent)
    ∷ (not_inside (is_meter_in t (named_component t c.component)) (items_of t (paired_items c.pairs)), NotInside)
    ∷ (not_touched t pairs, NotTouched)
    ∷ (paired_twice t c.pairs, Twice)
    ∷ (cycle t pairs, Cycle)
    ∷ (wrong_length pairs (named_need t c.component), WrongLength)
    ∷ []
    )

-- the flaw of a bound claim
abbrev pub bound_flaw : Tables → BoundClaim → Option FlawCode
bound_flaw t c =
    let list = items_of t c.inside in
    let scope = is_meter_in t (named_component t c.component) in
    first_true (
    (not (has_name (node_names t) c.component) || unknown_item t c.inside, UnknownName)
    ∷ (not (names_component t c.component), NotComponent)
    ∷ (not_inside scope list, NotInside)
    ∷ list_clauses t scope list c.rank c.outside (named_need t c.component)
    )

-- a name of a cost claim isn't in its table
abbrev pub unknown_in_plan : Tables → CostClaim → Bool
unknown_in_plan t c =
    unknown_item t (candidate_items c.chosen) || (unknown_pair t c.pairs || unknown_item t (all_inside c.layers))

-- a paired item is idle or a candidate that isn't chosen, or a listed item is none that its layer may speak of
abbrev pub outside_of_plan : Tables → CostClaim → Bool
outside_of_plan t c =
    not_inside (is_of_plan t (is_listed (items_of t (candidate_items c.chosen)))) (items_of t (paired_items c.pairs))
    || list_any (λ (l : Listed). not_inside (is_below t l.layer.to) l.list) (listed_layers t c.layers)

-- a candidate is chosen twice, or an item or a branch stands in two pairs, or an item stands twice in the lists
abbrev pub twice_in_plan : Tables → CostClaim → Bool
twice_in_plan t c =
    twice (items_of t (candidate_items c.chosen)) || (paired_twice t c.pairs || twice (items_of t (all_inside c.layers)))

-- the flaw of a cost claim
abbrev pub cost_flaw : Tables → CostClaim → Option FlawCode
cost_flaw t c =
    let pairs = pairs_of t c.pairs in
    first_true (
    (unknown_in_plan t c, UnknownName)
    ∷ (outside_of_plan t c, NotInside)
    ∷ (not_touched t pairs, NotTouched)
    ∷ (twice_in_plan t c, Twice)
    ∷ forest_clauses t pairs (case_needed t) (layers_clauses t c)
    )

-- the flaw of a shortfall claim
abbrev pub shortfall_flaw : Tables → ShortfallClaim → Option FlawCode
shortfall_flaw t c =
    let list = items_of t c.inside in
    first_true (
    (unknown_item t c.inside, UnknownName)
    ∷ (not_inside (is_live_item t) list, NotInside)
    ∷ list_clauses t (is_live_item t) list c.rank c.outside (case_needed t)
    )

-- the flaw of a claim: the false clause of the lowest code
abbrev pub flaw_of : Tables → Claim → Option FlawCode
flaw_of t (tree c) = tree_flaw t c
flaw_of t (bound c) = bound_flaw t c
flaw_of t (cost c) = cost_flaw t c
flaw_of t (shortfall c) = shortfall_flaw t c

-- a claim's flaw with its number, and that of a later claim where it has none
abbrev pub flaw_at : ℕ → Option FlawCode → Option Flaw → Option Flaw
flaw_at at None later = later
flaw_at at (Some code) later = Some (record { claim = at; code = code })

-- the flaw of the first claim that fails, where the claims are counted on from a number
abbrev pub first_flaw : Tables → ℕ → List Claim → Option Flaw
first_flaw t at [] = None
first_flaw t at (claim ∷ claims) = flaw_at at (flaw_of t claim) (first_flaw t (at + 1) claims)

-- a claim holds: none of its clauses is false
abbrev pub Holds : Tables → Claim → Type 0
Holds t claim = flaw_of t claim ≡ None
