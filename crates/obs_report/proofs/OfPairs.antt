-- Pairs that stand over the network of a case.
use Rattle.std.proofs.Common.{◌≡◌, ◌∙◌, ◌<◌, ◌+◌, ℕ, suc, inl, inr, Bool, true, Option, Some, None, List, [], ◌∷◌, ◌++◌, length, get_or, filter, refl, sym, ap, subst, append-nil, add-one, arith}
use Rattle.std.specs.Prelude.{IfSome, ◌==◌}
use Rattle.std.specs.List.{flat_map, range_with_len}
use Rattle.std.proofs.lemmas.Bool.{cases_Bool, cases_lt}
use Rattle.std.proofs.lemmas.List.{get_or_past}
use Rattle.obs_case.specs.Tables.{Tables, IsValid}
use Rattle.obs_matroid.specs.Assignments.{Pair}
use Rattle.obs_matroid.specs.Lists.{In}
use Rattle.obs_matroid.specs.inner.Slots.{pairs_from, pairs_of}
use Rattle.obs_meter.specs.declared.Touch.{Touch}
use Rattle.obs_meter.specs.declared.Touch.TheVariants.{Nothing}
use Rattle.obs_meter.specs.Touches.{is_live, touch_at, touched}
use Rattle.obs_meter.proofs.Touched.{live-from_In}
use Rattle.obs_assign.specs.Assignment.{Assignment}
use Rattle.obs_assign.specs.inner.Assignment.{StandsOver, branch_at}
use Rattle.obs_network.specs.Network.{case_branches, case_meters, case_offered, network_of}
use Rattle.obs_network.specs.inner.Located.{is_meter_in, live_meters_of}
use Rattle.obs_network.proofs.InComponents.{touched_component}
use Rattle.obs_network.proofs.Items.{meter_is_item}
use Rattle.obs_network.proofs.OfCase.{length-case_meters, length-case_offered}
use Rattle.obs_network.proofs.WithoutAngles.{position_of_item}
use Rattle.obs_report.specs.Items.{pair_line}
use Rattle.obs_report.specs.inner.Items.{IsBranchOf}
use Rattle.obs_report.specs.inner.Placements.{ArePairsOf}
use Rattle.obs_report.specs.Trees.{lies_in, pair_lines}

-- what an item touches is a branch that its pair may have
pub offered_branch : (t : Tables) → IsValid t → (m e : ℕ) → In e (touch_at (case_branches t) (case_offered t) m) → IsBranchOf t m e
offered_branch t v m e i = let is = position_of_item t v m e i in record { angle = is.0; row = is.1 }

-- and a meter is an item
pub meter_branch : (t : Tables) → IsValid t → (m e : ℕ) → In e (touch_at (case_branches t) (case_meters t) m) → IsBranchOf t m e
meter_branch t v m e i =
    elim (cases_lt m (length t.meters)) [
      | inl l ↦ offered_branch t v m e (subst (λ (x : Touch). In e (touched (case_branches t) x)) (sym (meter_is_item t m l)) i)
      | inr past ↦ absurd (subst (λ (x : Touch). In e (touched (case_branches t) x)) (get_or_past (case_meters t) m Nothing (omega (arith, past, length-case_meters t))) i)
    ]

-- the branch of an item's pair is one that it may have
pub held_branch : (t : Tables) (a : Assignment) → ((m e : ℕ) → branch_at a m ≡ Some e → IsBranchOf t m e) → (m : ℕ) → IfSome (branch_at a m) (IsBranchOf t m)
held_branch t a each m = by (branch_at a m) refl
  where
    by : (o : Option ℕ) → branch_at a m ≡ o → IfSome o (IsBranchOf t m)
    by None h = tt
    by (Some e) h = each m e h

-- pairs that stand over what is offered are pairs of the case's items
pub standing_pairs : (t : Tables) (a : Assignment) → StandsOver a (network_of t).graph (case_offered t) → ArePairsOf t a
standing_pairs t a s = record { items = sym s.meters ∙ length-case_offered t; touched = s.touched }

-- the lines of a meter's pair, where it has one
abbrev pub slot_lines : Tables → Assignment → ℕ → List ℕ
slot_lines t a m = flat_map (pair_line t) (pairs_from m (branch_at a m ∷ []))

-- the lines of the pairs that pass a test are those of the items that pass it, whatever is said of items without a branch
module _ (f : Pair → List ℕ) (q : Pair → Bool) (live r : ℕ → Bool) (at : ℕ → Option ℕ) where
  -- the lines of the first slot, and those of the others
  one_slot : (s : Option ℕ) (slots : List (Option ℕ)) (i : ℕ) → (0 < suc (length slots) → at i ≡ s) → ((e : ℕ) → s ≡ Some e → (live i ≡ true) × (q (i, e) ≡ r i))
      → flat_map (λ m. flat_map f (pairs_from m (at m ∷ []))) (filter r (filter live (range_with_len (i + 1) (length slots)))) ≡ flat_map f (filter q (pairs_from (suc i) slots))
      → flat_map (λ m. flat_map f (pairs_from m (at m ∷ []))) (filter r (filter live (range_with_len i (suc (length slots))))) ≡ flat_map f (filter q (pairs_from i (s ∷ slots)))
  one_slot None slots i is same rest =
      let here : at i ≡ None = is (omega arith) in
      elim (cases_Bool (live i)) [
        | inr b ↦ rw b rest
        | inl b ↦ elim (cases_Bool (r i)) [ inr d ↦ rw (b, d) rest | inl d ↦ rw (b, d, here) rest ]
      ]
  one_slot (Some e) slots i is same rest =
      let here : at i ≡ Some e = is (omega arith) in
      let both = same e refl in
      let others = flat_map (λ m. flat_map f (pairs_from m (at m ∷ []))) (filter r (filter live (range_with_len (i + 1) (length slots)))) in
      elim (cases_Bool (r i)) [
        | inr d ↦ rw (both.0, both.1, d) rest
        | inl d ↦ rw (both.0, both.1, d, here) (ap (λ (x : List ℕ). x ++ others) (append-nil (f (i, e))) ∙ ap (λ (x : List ℕ). f (i, e) ++ x) rest)
      ]

  passing_slots : (slots : List (Option ℕ)) (i : ℕ) → ((k : ℕ) → k < length slots → at (i + k) ≡ get_or slots k None)
      → ((k e : ℕ) → get_or slots k None ≡ Some e → (live (i + k) ≡ true) × (q (i + k, e) ≡ r (i + k)))
      → flat_map (λ m. flat_map f (pairs_from m (at m ∷ []))) (filter r (filter live (range_with_len i (length slots)))) ≡ flat_map f (filter q (pairs_from i slots))
  passing_slots [] i is same = refl
  passing_slots (s ∷ slots) i is same =
      one_slot s slots i (λ l. let e : i + 0 ≡ i = omega arith in ap at (sym e) ∙ is 0 l)
      (λ e h. let n : i + 0 ≡ i = omega arith in subst (λ (m : ℕ). (live m ≡ true) × (q (m, e) ≡ r m)) n (same 0 e h))
      (passing_slots slots (i + 1)
      (λ k l. let e : i + suc k ≡ i + 1 + k = omega arith in ap at (sym e) ∙ is (suc k) (omega (arith, l)))
      (λ k e h. let n : i + suc k ≡ i + 1 + k = omega arith in subst (λ (m : ℕ). (live m ≡ true) × (q (m, e) ≡ r m)) n (same (suc k) e h))
      ∙ ap (λ (n : ℕ). flat_map f (filter q (pairs_from n slots))) (add-one i))

-- the pairs that lie in a component are those of its live meters
pub tree_pairs : (t : Tables) → IsValid t → (a : Assignment) → StandsOver a (network_of t).graph (case_meters t) → (c : ℕ)
    → flat_map (slot_lines t a) (live_meters_of (network_of t) c) ≡ pair_lines t c (pairs_of a.slots)
tree_pairs t v a stands c =
    let at : (k : ℕ) → branch_at a (0 + k) ≡ get_or a.slots k None = λ k. let e : 0 + k ≡ k = omega arith in ap (branch_at a) e in
    let facts : (k e : ℕ) → get_or a.slots k None ≡ Some e → (is_live (case_branches t) (case_meters t) (0 + k) ≡ true) × (lies_in t c (0 + k, e) ≡ is_meter_in (network_of t) c (0 + k)) =
    λ k e h.
    let n : 0 + k ≡ k = omega arith in
    let touched = stands.touched k e h in
    rw n (live-from_In (case_branches t) (case_meters t) k e touched, ap (λ (x : ℕ). x == c) (touched_component t v (case_meters t) k e touched)) in
    ap (λ (n : ℕ). flat_map (slot_lines t a) (filter (is_meter_in (network_of t) c) (filter (is_live (case_branches t) (case_meters t)) (range_with_len 0 n)))) stands.meters
    ∙ passing_slots (pair_line t) (lies_in t c) (is_live (case_branches t) (case_meters t)) (is_meter_in (network_of t) c) (branch_at a) a.slots 0 (λ k l. at k) facts
