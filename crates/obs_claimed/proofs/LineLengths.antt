-- How long each kind of printed line is at the most.
use Rattle.std.proofs.Common.{◌≡◌, ℕ, suc, ◌+◌, ◌*◌, ◌-◌, ◌≤◌, ◌&&◌, true, List, [], ◌∷◌, ◌++◌, length, decimal, get_or, refl, inl, inr, arith}
use Rattle.std.specs.Prelude.{codes, nat_le, nat_lt}
use Rattle.std.specs.List.{flat_map, list_all}
use Rattle.std.proofs.lemmas.Bool.{and_parts, cases_Bool, cases_lt, leb-true}
use Rattle.std.proofs.lemmas.List.{get_or_past, length-append}
use Rattle.std.proofs.lemmas.List.Concat.{length-flat_map}
use Rattle.std.proofs.lemmas.List.Sums.{sum_by-le}
use Rattle.obs_text.specs.Names.{is_name, is_name_byte}
use Rattle.obs_text.proofs.DecimalLemmas.{length-decimal}
use Rattle.obs_case.specs.Items.{is_angle}
use Rattle.obs_case.specs.Tables.{IsValid, Tables, branch_names, candidate_names, meter_names, node_names}
use Rattle.obs_matroid.specs.Assignments.{Pair as NumberPair}
use Rattle.obs_placement.specs.declared.plans.Layer.{Layer as PlacedLayer}
use Rattle.obs_network.specs.Network.{is_meter}
use Rattle.obs_report.specs.Items.{branch_word, candidate_name, inside_line, item_name, item_word, pair_line}
use Rattle.obs_report.specs.Lines.{line_feed, line_of, tabbed}
use Rattle.obs_report.specs.Meters.{bound_line, component_name}
use Rattle.obs_report.specs.Placements.{chosen_line, cost_line, layer_line, shortfall_line}
use Rattle.obs_report.specs.Trees.{tree_line}
use Rattle.obs_claimed.proofs.Small.{IsSmallLayer}
use Rattle.obs_claimed.proofs.Within.{name_at}
use Rattle.obs_claimed.proofs.Words.{IsSmall}

-- pieces of a text are together no longer than as many of the longest
pub each_length : {X : Type 0} (f : X → List ℕ) (most : ℕ) (xs : List X) → ((x : X) → length (f x) ≤ most) → length (flat_map f xs) ≤ length xs * most
each_length f most xs h =
    let all = length-flat_map f xs in
    let few = sum_by-le (λ x. length (f x)) most xs (λ i d l. h (get_or xs i d)) in
    omega (arith, all, few)

-- a line has its words, a byte between two of them, and one at the end
abbrev words_length : List (List ℕ) → ℕ
words_length [] = 0
words_length (word ∷ words) = suc (length word) + words_length words

tabbed_length : (words : List (List ℕ)) → length (tabbed words) ≡ words_length words
tabbed_length [] = refl
tabbed_length (word ∷ words) =
    let both = length-append word (tabbed words) in
    let rest = tabbed_length words in
    omega (arith, both, rest)

line_length : (word : List ℕ) (words : List (List ℕ)) → length (line_of (word ∷ words)) ≡ length word + (words_length words + 1)
line_length word words =
    let all = length-append word (tabbed words ++ (line_feed ∷ [])) in
    let behind = length-append (tabbed words) (line_feed ∷ []) in
    let rest = tabbed_length words in
    omega (arith, all, behind, rest)

-- a number and a name
number_short : (n : ℕ) → IsSmall n → length (decimal n) ≤ 20
number_short n small = length-decimal n (omega (arith, small))

name_short : (name : List ℕ) → is_name name ≡ true → length name ≤ 64
name_short name is =
    let sized = and_parts (nat_lt 0 (length name) && nat_le (length name) 64) (list_all is_name_byte name) is in
    leb-true (length name) 64 (and_parts (nat_lt 0 (length name)) (nat_le (length name) 64) sized.0).1

-- the name at a position, or nothing behind the last
named_short : (names : List (List ℕ)) (k : ℕ) → list_all is_name names ≡ true → length (get_or names k []) ≤ 64
named_short names k named = elim (cases_lt k (length names)) [
  | inl low ↦ name_short (get_or names k []) (name_at names k named low)
  | inr past ↦ rw (get_or_past names k [] past) (omega arith)
]

word_short : (t : Tables) (m : ℕ) → length (item_word t m) ≤ 9
word_short t m = elim (cases_Bool (is_meter t m)) [ inl e ↦ rw e (omega arith) | inr e ↦ rw e (omega arith) ]

module _ (t : Tables) (v : IsValid t) where
  item_short : (m : ℕ) → length (item_name t m) ≤ 64
  item_short m = elim (cases_Bool (is_meter t m)) [
    | inl e ↦ rw e (named_short (meter_names t) m v.meters.named)
    | inr e ↦ rw e (named_short (candidate_names t) (m - length t.meters) v.candidates.named)
  ]

  branch_short : (m e : ℕ) → length (branch_word t m e) ≤ 64
  branch_short m e = elim (cases_Bool (is_angle t m)) [ inl is ↦ rw is (omega arith) | inr other ↦ rw other (named_short (branch_names t) e v.branches.named) ]

  component_short : (c : ℕ) → length (component_name t c) ≤ 64
  component_short c = named_short (node_names t) _ v.nodes.named

  -- the lines of listed items, pairs and chosen candidates
  pub inside_length : (m : ℕ) → length (inside_line t m) ≤ 82
  inside_length m =
      let all = line_length (codes "inside") (item_word t m ∷ item_name t m ∷ []) in
      let word = word_short t m in
      let name = item_short m in
      omega (arith, all, word, name)

  pub pair_length : (p : NumberPair) → length (pair_line t p) ≤ 145
  pair_length p =
      let all = line_length (codes "pair") (item_word t p.0 ∷ item_name t p.0 ∷ branch_word t p.0 p.1 ∷ []) in
      let word = word_short t p.0 in
      let name = item_short p.0 in
      let branch = branch_short p.0 p.1 in
      omega (arith, all, word, name, branch)

  pub chosen_length : (k : ℕ) → length (chosen_line t k) ≤ 72
  chosen_length k =
      let all = line_length (codes "chosen") (candidate_name t k ∷ []) in
      let name = named_short (candidate_names t) k v.candidates.named in
      omega (arith, all, name)

  -- the first lines of trees and bounds
  pub tree_line-length : (c : ℕ) → length (tree_line (component_name t c)) ≤ 70
  tree_line-length c =
      let all = line_length (codes "tree") (component_name t c ∷ []) in
      let name = component_short c in
      omega (arith, all, name)

  pub bound_line-length : (c rank outside : ℕ) → IsSmall rank → IsSmall outside → length (bound_line (component_name t c) rank outside) ≤ 113
  bound_line-length c rank outside r o =
      let all = line_length (codes "bound") (component_name t c ∷ decimal rank ∷ decimal outside ∷ []) in
      let name = component_short c in
      let first = number_short rank r in
      let second = number_short outside o in
      omega (arith, all, name, first, second)

-- the first lines of plans, layers and shortfalls
pub cost_length : (cost : ℕ) → IsSmall cost → length (cost_line cost) ≤ 26
cost_length cost small =
    let all = line_length (codes "cost") (decimal cost ∷ []) in
    let number = number_short cost small in
    omega (arith, all, number)

pub layer_length : (l : PlacedLayer) → IsSmallLayer l → length (layer_line l) ≤ 90
layer_length l small =
    let all = line_length (codes "layer") (decimal l.from ∷ decimal l.to ∷ decimal l.rank ∷ decimal l.outside ∷ []) in
    let from = number_short l.from small.from in
    let to = number_short l.to small.to in
    let rank = number_short l.rank small.rank in
    let outside = number_short l.outside small.outside in
    omega (arith, all, from, to, rank, outside)

pub shortfall_length : (rank outside : ℕ) → IsSmall rank → IsSmall outside → length (shortfall_line rank outside) ≤ 52
shortfall_length rank outside r o =
    let all = line_length (codes "shortfall") (decimal rank ∷ decimal outside ∷ []) in
    let first = number_short rank r in
    let second = number_short outside o in
    omega (arith, all, first, second)
