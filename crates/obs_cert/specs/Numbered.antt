-- What the names of a claim stand for: meters and candidates by one number, the meters first, and branches by position. A name that isn't in
-- its table stands for the number behind those of its table.
use Rattle.std.specs.Prelude.{ℕ, ◌+◌, ◌&&◌, Bool, Option, Some, None, List, codes, if◌then◌else◌, length, map}
use Rattle.std.specs.Option.{is_some, unwrap_or}
use Rattle.std.specs.Str.{bytes_eq}
use Rattle.obs_case.specs.Items.{angle_position, is_angle}
use Rattle.obs_case.specs.Tables.{Tables, branch_names, candidate_names, has_name, meter_names, place_of, position_of}
use Rattle.obs_matroid.specs.Assignments.{Pair as NumberPair}
use Rattle.obs_network.specs.Network.{case_position_room}
use Rattle.obs_cert.specs.Claims.{Item, meter, candidate, Pair}

-- whether an item is in its table
abbrev pub is_known : Tables → Item → Bool
is_known t (meter name) = has_name (meter_names t) name
is_known t (candidate name) = has_name (candidate_names t) name

-- the number of an item
abbrev pub item_of : Tables → Item → ℕ
item_of t (meter name) = place_of (meter_names t) name
item_of t (candidate name) = length t.meters + place_of (candidate_names t) name

-- whether an item is in its table and an angle item
abbrev pub is_angle_item : Tables → Item → Bool
is_angle_item t item = is_angle t (item_of t item) && is_known t item

-- the position of the branch that a word stands for in a pair of an item, if it stands for one: of an angle item the word `angle` for its angle
-- branch, and of another one, or one that isn't in its table, the name of a branch for that
abbrev pub branch_in : Tables → Item → List ℕ → Option ℕ
branch_in t item word =
    if is_angle_item t item
    then (if bytes_eq word (codes "angle") then Some (angle_position t (item_of t item)) else None)
    else position_of (branch_names t) word

-- whether a word stands for a branch in a pair of an item
abbrev pub is_known_branch : Tables → Item → List ℕ → Bool
is_known_branch t item word = is_some (branch_in t item word)

-- the position of the branch of an item's pair; what stands for none has the number behind all positions that there is room for
abbrev pub branch_of : Tables → Item → List ℕ → ℕ
branch_of t item word = unwrap_or (branch_in t item word) (case_position_room t)

-- the numbers of some items
abbrev pub items_of : Tables → List Item → List ℕ
items_of t items = map (item_of t) items

-- a pair by numbers
abbrev pub pair_of : Tables → Pair → NumberPair
pair_of t pair = (item_of t pair.item, branch_of t pair.item pair.branch)

abbrev pub pairs_of : Tables → List Pair → List NumberPair
pairs_of t pairs = map (pair_of t) pairs

-- the items of some pairs, and chosen candidates as items
abbrev pub paired_items : List Pair → List Item
paired_items pairs = map (λ (p : Pair). p.item) pairs

abbrev pub candidate_items : List (List ℕ) → List Item
candidate_items names = map candidate names
