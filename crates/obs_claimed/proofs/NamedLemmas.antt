-- The names that are printed stand for what they were printed for: items, branches, pairs and chosen candidates of a valid case.
use Rattle.std.proofs.Common.{◌≡◌, ℕ, ◌+◌, ◌-◌, ◌<◌, ◌||◌, ◌&&◌, Bool, true, false, cond, not, Option, Some, None, List, [], ◌∷◌, length, map, refl, sym, ap, ◌∙◌, inl, inr, arith}
use Rattle.std.specs.Prelude.{codes}
use Rattle.std.specs.Option.{is_some, unwrap_or}
use Rattle.std.specs.Str.{bytes_eq}
use Rattle.std.proofs.lemmas.Bool.{cases_Bool, cases_lt, le-ltb, lt-ltb}
use Rattle.std.proofs.lemmas.List.{length-map}
use Rattle.obs_case.specs.Items.{angle_position, is_angle}
use Rattle.obs_case.specs.Tables.{IsValid, Tables, branch_names, candidate_names, has_name, meter_names, place_of, position_of}
use Rattle.obs_case.proofs.NameLemmas.{bytes_eq-itself}
use Rattle.obs_matroid.specs.Assignments.{Pair as NumberPair, items}
use Rattle.obs_matroid.specs.Lists.{In}
use Rattle.obs_network.specs.Network.{case_item_count, case_position_room}
use Rattle.obs_report.specs.Items.{branch_name, branch_word, candidate_name, meter_name}
use Rattle.obs_report.specs.inner.Items.{IsBranchOf}
use Rattle.obs_cert.specs.Claims.{Item}
use Rattle.obs_cert.specs.Flaws.{unknown_branch, unknown_item, unknown_pair}
use Rattle.obs_cert.specs.Numbered.{branch_in, branch_of, candidate_items, is_angle_item, is_known, is_known_branch, item_of, items_of, paired_items, pairs_of}
use Rattle.obs_claimed.specs.Claimed.{named_item, named_items, named_pair}
use Rattle.obs_claimed.proofs.ComponentNames.{has_own, place_own, position_own}

-- pairs of items of the case and branches that they may have
abbrev pub AreWithin : Tables → List NumberPair → Type 0
AreWithin t pairs = (p : NumberPair) → In p pairs → (p.0 < case_item_count t) × IsBranchOf t p.0 p.1

module _ (t : Tables) (v : IsValid t) where
  -- a meter and a candidate
  pub meter_place : (m : ℕ) → m < length t.meters → place_of (meter_names t) (meter_name t m) ≡ m
  meter_place m l = place_own (meter_names t) m v.meters.different (omega (arith, l, length-map t.meters (λ row. row.name)))

  pub candidate_place : (k : ℕ) → k < length t.candidates → place_of (candidate_names t) (candidate_name t k) ≡ k
  candidate_place k l = place_own (candidate_names t) k v.candidates.different (omega (arith, l, length-map t.candidates (λ row. row.name)))

  pub meter_known : (m : ℕ) → m < length t.meters → has_name (meter_names t) (meter_name t m) ≡ true
  meter_known m l = has_own (meter_names t) m (omega (arith, l, length-map t.meters (λ row. row.name)))

  pub candidate_known : (k : ℕ) → k < length t.candidates → has_name (candidate_names t) (candidate_name t k) ≡ true
  candidate_known k l = has_own (candidate_names t) k (omega (arith, l, length-map t.candidates (λ row. row.name)))

  -- an item
  pub item_named : (m : ℕ) → m < case_item_count t → item_of t (named_item t m) ≡ m
  item_named m l = elim (cases_lt m (length t.meters)) [
    | inl low ↦ rw (lt-ltb m (length t.meters) low) (meter_place m low)
    | inr high ↦ (let k = candidate_place (m - length t.meters) (omega (arith, l, high)) in rw (le-ltb m (length t.meters) high) (omega (arith, high, k)))
  ]

  pub item_known : (m : ℕ) → m < case_item_count t → is_known t (named_item t m) ≡ true
  item_known m l = elim (cases_lt m (length t.meters)) [
    | inl low ↦ rw (lt-ltb m (length t.meters) low) (meter_known m low)
    | inr high ↦ rw (le-ltb m (length t.meters) high) (candidate_known (m - length t.meters) (omega (arith, l, high)))
  ]

  -- the branch of a pair
  angle_named : (m : ℕ) → m < case_item_count t → is_angle_item t (named_item t m) ≡ is_angle t m
  angle_named m l =
      ap (λ (k : ℕ). is_angle t k && is_known t (named_item t m)) (item_named m l)
      ∙ ap (λ (b : Bool). is_angle t m && b) (item_known m l)
      ∙ with_true (is_angle t m)
    where
      with_true : (b : Bool) → (b && true) ≡ b
      with_true true = refl
      with_true false = refl

  branch_read : (m e : ℕ) → m < case_item_count t → IsBranchOf t m e → branch_in t (named_item t m) (branch_word t m e) ≡ Some e
  branch_read m e l of =
      let item = named_item t m in
      let word = branch_word t m e in
      let angle : Option ℕ = Some (angle_position t (item_of t item)) in
      let named = angle_named m l in
      elim (cases_Bool (is_angle t m)) [
        | inl is ↦
            ap (λ (b : Bool). cond b (cond (bytes_eq word (codes "angle")) angle None) (position_of (branch_names t) word)) (named ∙ is)
            ∙ ap (λ (w : List ℕ). cond (bytes_eq w (codes "angle")) angle None) (ap (λ (b : Bool). cond b (codes "angle") (branch_name t e)) is)
            ∙ ap (λ (b : Bool). cond b angle None) (bytes_eq-itself (codes "angle"))
            ∙ ap (λ (k : ℕ). Some (angle_position t k)) (item_named m l)
            ∙ ap Some (sym (of.angle is))
        | inr other ↦
            ap (λ (b : Bool). cond b (cond (bytes_eq word (codes "angle")) angle None) (position_of (branch_names t) word)) (named ∙ other)
            ∙ ap (position_of (branch_names t)) (ap (λ (b : Bool). cond b (codes "angle") (branch_name t e)) other)
            ∙ position_own (branch_names t) e v.branches.different (let low = of.row other in omega (arith, low, length-map t.branches (λ row. row.name)))
      ]

  pub named_branch : (m e : ℕ) → m < case_item_count t → IsBranchOf t m e → branch_of t (named_item t m) (branch_word t m e) ≡ e
  named_branch m e l of = ap (λ (o : Option ℕ). unwrap_or o (case_position_room t)) (branch_read m e l of)

  pub branch_known : (m e : ℕ) → m < case_item_count t → IsBranchOf t m e → is_known_branch t (named_item t m) (branch_word t m e) ≡ true
  branch_known m e l of = ap is_some (branch_read m e l of)

  -- some items
  pub items_named : (list : List ℕ) → ((m : ℕ) → In m list → m < case_item_count t) → items_of t (named_items t list) ≡ list
  items_named [] low = refl
  items_named (m ∷ list) low =
      ap (λ (x : ℕ). x ∷ items_of t (named_items t list)) (item_named m (low m (inl refl)))
      ∙ ap (λ (xs : List ℕ). m ∷ xs) (items_named list (λ k i. low k (inr i)))

  pub none_unknown : (list : List ℕ) → ((m : ℕ) → In m list → m < case_item_count t) → unknown_item t (named_items t list) ≡ false
  none_unknown [] low = refl
  none_unknown (m ∷ list) low =
      ap (λ (b : Bool). not b || unknown_item t (named_items t list)) (item_known m (low m (inl refl)))
      ∙ none_unknown list (λ k i. low k (inr i))

  -- some pairs
  pub pairs_named : (pairs : List NumberPair) → AreWithin t pairs → pairs_of t (map (named_pair t) pairs) ≡ pairs
  pairs_named [] within = refl
  pairs_named (p ∷ pairs) within =
      let here = within p (inl refl) in
      ap (λ (x : ℕ). (x, branch_of t (named_item t p.0) (branch_word t p.0 p.1)) ∷ pairs_of t (map (named_pair t) pairs)) (item_named p.0 here.0)
      ∙ ap (λ (x : ℕ). (p.0, x) ∷ pairs_of t (map (named_pair t) pairs)) (named_branch p.0 p.1 here.0 here.1)
      ∙ ap (λ (ps : List NumberPair). p ∷ ps) (pairs_named pairs (λ q i. within q (inr i)))

  paired_are : (pairs : List NumberPair) → paired_items (map (named_pair t) pairs) ≡ named_items t (items pairs)
  paired_are [] = refl
  paired_are (p ∷ pairs) = ap (λ (xs : List Item). named_item t p.0 ∷ xs) (paired_are pairs)

  items_low : (pairs : List NumberPair) → AreWithin t pairs → (m : ℕ) → In m (items pairs) → m < case_item_count t
  items_low [] within m i = absurd i
  items_low (p ∷ pairs) within m (inl e) = (let l = (within p (inl refl)).0 in omega (arith, e, l))
  items_low (p ∷ pairs) within m (inr i) = items_low pairs (λ q j. within q (inr j)) m i

  pub paired_named : (pairs : List NumberPair) → AreWithin t pairs → items_of t (paired_items (map (named_pair t) pairs)) ≡ items pairs
  paired_named pairs within = ap (items_of t) (paired_are pairs) ∙ items_named (items pairs) (items_low pairs within)

  pub paired_known : (pairs : List NumberPair) → AreWithin t pairs → unknown_item t (paired_items (map (named_pair t) pairs)) ≡ false
  paired_known pairs within = ap (unknown_item t) (paired_are pairs) ∙ none_unknown (items pairs) (items_low pairs within)

  pub branches_known : (pairs : List NumberPair) → AreWithin t pairs → unknown_branch t (map (named_pair t) pairs) ≡ false
  branches_known [] within = refl
  branches_known (p ∷ pairs) within =
      let here = within p (inl refl) in
      ap (λ (b : Bool). not b || unknown_branch t (map (named_pair t) pairs)) (branch_known p.0 p.1 here.0 here.1)
      ∙ branches_known pairs (λ q i. within q (inr i))

  pub pairs_known : (pairs : List NumberPair) → AreWithin t pairs → unknown_pair t (map (named_pair t) pairs) ≡ false
  pairs_known pairs within =
      ap (λ (b : Bool). b || unknown_branch t (map (named_pair t) pairs)) (paired_known pairs within) ∙ branches_known pairs within

  -- chosen candidates, as items behind the meters
  pub chosen_named : (ks : List ℕ) → ((k : ℕ) → In k ks → k < length t.candidates)
      → items_of t (candidate_items (map (candidate_name t) ks)) ≡ map (λ (k : ℕ). length t.meters + k) ks
  chosen_named [] low = refl
  chosen_named (k ∷ ks) low =
      ap (λ (x : ℕ). (length t.meters + x) ∷ items_of t (candidate_items (map (candidate_name t) ks))) (candidate_place k (low k (inl refl)))
      ∙ ap (λ (xs : List ℕ). (length t.meters + k) ∷ xs) (chosen_named ks (λ j i. low j (inr i)))

  pub chosen_known : (ks : List ℕ) → ((k : ℕ) → In k ks → k < length t.candidates) → unknown_item t (candidate_items (map (candidate_name t) ks)) ≡ false
  chosen_known [] low = refl
  chosen_known (k ∷ ks) low =
      ap (λ (b : Bool). not b || unknown_item t (candidate_items (map (candidate_name t) ks))) (candidate_known k (low k (inl refl)))
      ∙ chosen_known ks (λ j i. low j (inr i))
