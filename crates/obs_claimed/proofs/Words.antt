-- Each kind of printed line is read back as the line that it means.
use Rattle.std.proofs.Common.{◌≡◌, ◌∙◌, ℕ, ◌<◌, ◌^◌, true, List, [], ◌∷◌, map, Option, Some, decimal, refl, sym, ap, inl, inr}
use Rattle.std.specs.Prelude.{codes}
use Rattle.std.proofs.lemmas.Bool.{cases_Bool}
use Rattle.obs_text.specs.Names.{is_name}
use Rattle.obs_text.specs.Numbers.{whole_of}
use Rattle.obs_text.proofs.DecimalLemmas.{whole_of-decimal}
use Rattle.obs_case.specs.Tables.{Tables}
use Rattle.obs_matroid.specs.Assignments.{Pair as NumberPair}
use Rattle.obs_placement.specs.declared.plans.Layer.{Layer as PlacedLayer}
use Rattle.obs_cert.specs.inner.Forms.{Write, claimed_name, sort_word}
use Rattle.obs_cert.specs.Words.{bound_line, chosen_line, cost_line, end_line, inside_line, layer_line, pair_line, shortfall_line, tree_line}
use Rattle.obs_network.specs.Network.{is_meter}
use Rattle.obs_report.specs.Items.{branch_word, candidate_name, item_name, item_word, inside_line as inside_text, pair_line as pair_text}
use Rattle.obs_report.specs.Meters.{bound_line as bound_text}
use Rattle.obs_report.specs.Placements.{chosen_line as chosen_text, cost_line as cost_text, layer_line as layer_text, shortfall_line as shortfall_text}
use Rattle.obs_report.specs.Trees.{tree_line as tree_text}
use Rattle.obs_claimed.specs.Claimed.{named_item, named_pair}
use Rattle.obs_claimed.specs.inner.Laws.{AreLines, LastIsLine}
use Rattle.obs_claimed.proofs.Lines.{line_back}

-- a number that is read back from its decimal text
abbrev pub IsSmall : ℕ → Type 0
IsSmall n = n < 10 ^ 19

-- decimal digits write their number, and then what the others write
written : (n : ℕ) (digits : List (List ℕ)) (numbers : List ℕ) → IsSmall n → Write digits numbers → Write (decimal n ∷ digits) (n ∷ numbers)
written n digits numbers small write =
    ap (λ (o : Option ℕ). o ∷ map whole_of digits) (whole_of-decimal n small) ∙ ap (λ (os : List (Option ℕ)). Some n ∷ os) write

two_written : (m n : ℕ) → IsSmall m → IsSmall n → Write (decimal m ∷ decimal n ∷ []) (m ∷ n ∷ [])
two_written m n a b = written m (decimal n ∷ []) (n ∷ []) a (written n [] [] b refl)

-- the last line
pub last_is_line : LastIsLine
last_is_line = line_back (codes "end") [] end_line refl

-- the line of a tree
pub tree_back : (name : List ℕ) → is_name name ≡ true → AreLines (tree_text name) (tree_line name ∷ [])
tree_back name is = line_back (codes "tree") (name ∷ []) (tree_line name) (refl, is)

-- the line of a bound
pub bound_back : (name : List ℕ) (rank outside : ℕ) → is_name name ≡ true → IsSmall rank → IsSmall outside → AreLines (bound_text name rank outside) (bound_line name rank outside ∷ [])
bound_back name rank outside is r o =
    let digits = decimal rank ∷ decimal outside ∷ [] in
    line_back (codes "bound") (name ∷ digits) (bound_line name rank outside) (digits, refl, is, two_written rank outside r o)

-- what a plan costs
pub cost_back : (cost : ℕ) → IsSmall cost → AreLines (cost_text cost) (cost_line cost ∷ [])
cost_back cost small =
    let digits = decimal cost ∷ [] in
    line_back (codes "cost") digits (cost_line cost) (digits, refl, written cost [] [] small refl)

-- a chosen candidate
pub chosen_back : (t : Tables) (k : ℕ) → is_name (candidate_name t k) ≡ true → AreLines (chosen_text t k) (chosen_line (candidate_name t k) ∷ [])
chosen_back t k is =
    let name = candidate_name t k in line_back (codes "chosen") (name ∷ []) (chosen_line name) (refl, is)

-- the line of a layer
pub layer_back : (l : PlacedLayer) → IsSmall l.from → IsSmall l.to → IsSmall l.rank → IsSmall l.outside → AreLines (layer_text l) (layer_line l.from l.to l.rank l.outside ∷ [])
layer_back l a b c d =
    let last = decimal l.rank ∷ decimal l.outside ∷ [] in
    let digits = decimal l.from ∷ decimal l.to ∷ last in
    let write = written l.from (decimal l.to ∷ last) (l.to ∷ l.rank ∷ l.outside ∷ []) a
    (written l.to last (l.rank ∷ l.outside ∷ []) b (two_written l.rank l.outside c d)) in
    line_back (codes "layer") digits (layer_line l.from l.to l.rank l.outside) (digits, refl, write)

-- the line of a shortfall
pub shortfall_back : (rank outside : ℕ) → IsSmall rank → IsSmall outside → AreLines (shortfall_text rank outside) (shortfall_line rank outside ∷ [])
shortfall_back rank outside r o =
    let digits = decimal rank ∷ decimal outside ∷ [] in
    line_back (codes "shortfall") digits (shortfall_line rank outside) (digits, refl, two_written rank outside r o)

-- an item by its sort and its name
sort_is : (t : Tables) (m : ℕ) → sort_word (named_item t m) ≡ item_word t m
sort_is t m = elim (cases_Bool (is_meter t m)) [ inl e ↦ rw e refl | inr e ↦ rw e refl ]

name_is : (t : Tables) (m : ℕ) → claimed_name (named_item t m) ≡ item_name t m
name_is t m = elim (cases_Bool (is_meter t m)) [ inl e ↦ rw e refl | inr e ↦ rw e refl ]

-- an item that is listed
pub inside_back : (t : Tables) (m : ℕ) → is_name (item_name t m) ≡ true → AreLines (inside_text t m) (inside_line (named_item t m) ∷ [])
inside_back t m is =
    let item = named_item t m in
    let named : is_name (claimed_name item) ≡ true = ap is_name (name_is t m) ∙ is in
    let words : codes "inside" ∷ item_word t m ∷ item_name t m ∷ [] ≡ codes "inside" ∷ sort_word item ∷ claimed_name item ∷ [] =
    ap (λ (word : List ℕ). codes "inside" ∷ word ∷ item_name t m ∷ []) (sym (sort_is t m))
    ∙ ap (λ (word : List ℕ). codes "inside" ∷ sort_word item ∷ word ∷ []) (sym (name_is t m)) in
    line_back (codes "inside") (item_word t m ∷ item_name t m ∷ []) (inside_line item) (words, named)

-- a pair
pub pair_back : (t : Tables) (p : NumberPair) → is_name (item_name t p.0) ≡ true → is_name (branch_word t p.0 p.1) ≡ true → AreLines (pair_text t p) (pair_line (named_pair t p) ∷ [])
pair_back t p a b =
    let item = named_item t p.0 in
    let branch = branch_word t p.0 p.1 in
    let named : is_name (claimed_name item) ≡ true = ap is_name (name_is t p.0) ∙ a in
    let words : codes "pair" ∷ item_word t p.0 ∷ item_name t p.0 ∷ branch ∷ [] ≡ codes "pair" ∷ sort_word item ∷ claimed_name item ∷ branch ∷ [] =
    ap (λ (word : List ℕ). codes "pair" ∷ word ∷ item_name t p.0 ∷ branch ∷ []) (sym (sort_is t p.0))
    ∙ ap (λ (word : List ℕ). codes "pair" ∷ sort_word item ∷ word ∷ branch ∷ []) (sym (name_is t p.0)) in
    line_back (codes "pair") (item_word t p.0 ∷ item_name t p.0 ∷ branch ∷ []) (pair_line (named_pair t p)) (words, named, b)
