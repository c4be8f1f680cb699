-- The positions of the chosen candidates, and the items that the laws speak of.
use Rattle.std.proofs.Common.{◌≡◌, ℕ, zero, suc, ◌+◌, ◌-◌, ◌≤◌, Bool, true, false, not, Option, List, [], ◌∷◌, ◌++◌, length, map, get_or, refl, sym, ap, ◌∙◌, inl, inr, arith, subst}
use Rattle.std.specs.Prelude.{filter, nat_lt}
use Rattle.std.specs.List.{range_with_len, sum_by}
use Rattle.std.proofs.lemmas.Bool.{cases_Bool, le-ltb, lt-ltb, and_parts}
use Rattle.std.proofs.lemmas.List.Elements.{filter-append}
use Rattle.std.proofs.lemmas.List.Sums.{sum_by-cons}
use Rattle.obs_graph.specs.declared.Ends.{Ends}
use Rattle.obs_graph.specs.Positions.{AreBranches}
use Rattle.obs_matroid.specs.Placement.{is_raising}
use Rattle.obs_matroid.proofs.Ranges.{range_append}
use Rattle.obs_meter.specs.declared.Touch.{Touch}
use Rattle.obs_meter.specs.Assignments.{IsRhoAt}
use Rattle.obs_meter.specs.Spanned.{graph_matroid}
use Rattle.obs_meter.specs.Touches.{is_live, live_items, touch_at}
use Rattle.obs_meter.specs.Costs.{price_of}
use Rattle.obs_rankcut.specs.inner.Costs.{DoAsMuch}
use Rattle.obs_placement.specs.Answer.{chosen_of, cost_of, earlier_items, is_chosen}
use Rattle.obs_placement.specs.inner.Laws.{answer_at}
use Rattle.obs_placement.proofs.Lawful.{none_cheaper_at}

module _ (P live : ℕ → Bool) (meters : ℕ) (lives : (x : ℕ) → P x ≡ true → live x ≡ true) where
  abbrev candidates : List ℕ → List ℕ
  candidates xs = filter P (filter (λ m. not (nat_lt m meters)) (filter live xs))

  no_meter : (n a : ℕ) → a + n ≤ meters → candidates (range_with_len a n) ≡ []
  no_meter zero a l = refl
  no_meter (suc n) a l =
      let t : nat_lt a meters ≡ true = lt-ltb a meters (omega (arith, l)) in
      let rest = no_meter n (a + 1) (omega (arith, l)) in
      elim (cases_Bool (live a)) [
        | inl y ↦ rw (y, t) rest
        | inr f ↦ rw f rest
      ]

  at_positions : (n k : ℕ) → map (λ j. meters + j) (filter (λ j. P (meters + j)) (range_with_len k n)) ≡ candidates (range_with_len (meters + k) n)
  at_positions zero k = refl
  at_positions (suc n) k =
      let f : nat_lt (meters + k) meters ≡ false = le-ltb (meters + k) meters (omega arith) in
      let e : meters + (k + 1) ≡ meters + k + 1 = omega arith in
      let rest = at_positions n (k + 1) ∙ ap (λ x. candidates (range_with_len x n)) e in
      elim (cases_Bool (P (meters + k))) [
        | inl y ↦ rw (y, lives (meters + k) y, f, y) (ap (λ xs. (meters + k) ∷ xs) rest)
        | inr p ↦ elim (cases_Bool (live (meters + k))) [
          | inl y ↦ rw (p, y, f, p) rest
          | inr o ↦ rw (p, o) rest
        ]
      ]

  at_all : (n : ℕ) → map (λ j. meters + j) (filter (λ j. P (meters + j)) (range_with_len 0 n)) ≡ candidates (range_with_len 0 (meters + n))
  at_all n =
      let e : meters + 0 ≡ meters = omega arith in
      let first = no_meter meters 0 (omega arith) in
      let z : 0 + meters ≡ meters = omega arith in
      let split = ap (filter live) (range_append 0 meters n ∙ ap (λ x. range_with_len 0 meters ++ range_with_len x n) z) ∙ filter-append live (range_with_len 0 meters) (range_with_len meters n) in
      let parts =
      ap (λ xs. filter P (filter (λ m. not (nat_lt m meters)) xs)) split
      ∙ (ap (filter P) (filter-append (λ m. not (nat_lt m meters)) (filter live (range_with_len 0 meters)) (filter live (range_with_len meters n)))
      ∙ filter-append P (filter (λ m. not (nat_lt m meters)) (filter live (range_with_len 0 meters))) (filter (λ m. not (nat_lt m meters)) (filter live (range_with_len meters n)))) in
      at_positions n 0 ∙ (ap (λ x. candidates (range_with_len x n)) e ∙ sym (parts ∙ ap (λ xs. xs ++ candidates (range_with_len meters n)) first))

pub positions_are : (n : ℕ) (ends : List (Option Ends)) (touches : List Touch) (meters : ℕ) (prices : List ℕ) → length touches ≡ meters + length prices
    → map (λ k. meters + k) (chosen_of n ends touches meters prices) ≡ answer_at n ends touches meters prices
positions_are n ends touches meters prices count =
    let P = is_chosen n ends touches (price_of meters prices) in
    let live = is_live ends touches in
    let lives : (x : ℕ) → P x ≡ true → live x ≡ true = λ x y. (and_parts (live x) (is_raising (graph_matroid n ends) (touch_at ends touches) (earlier_items ends touches (price_of meters prices) x) x) y).0 in
    at_all P live meters lives (length prices)
    ∙ ap (λ k. filter P (filter (λ m. not (nat_lt m meters)) (filter live (range_with_len 0 k)))) (sym count)

price_at : (meters : ℕ) (prices : List ℕ) (k : ℕ) → price_of meters prices (meters + k) ≡ get_or prices k 0
price_at meters prices k = let e : meters + k - meters ≡ k = omega arith in rw (le-ltb (meters + k) meters (omega arith)) (ap (λ j. get_or prices j 0) e)

costs_same : (meters : ℕ) (prices ks : List ℕ) → cost_of prices ks ≡ sum_by (price_of meters prices) (map (λ k. meters + k) ks)
costs_same meters prices [] = refl
costs_same meters prices (k ∷ ks) =
    let a = sum_by-cons (λ j. get_or prices j 0) k ks in
    let b = sum_by-cons (price_of meters prices) (meters + k) (map (λ j. meters + j) ks) in
    let c = price_at meters prices k in
    let d = costs_same meters prices ks in
    omega (arith, a, b, c, d)

pub cost_is : (n : ℕ) (ends : List (Option Ends)) (touches : List Touch) (meters : ℕ) (prices : List ℕ) → length touches ≡ meters + length prices
    → cost_of prices (chosen_of n ends touches meters prices) ≡ sum_by (price_of meters prices) (answer_at n ends touches meters prices)
cost_is n ends touches meters prices count =
    costs_same meters prices (chosen_of n ends touches meters prices) ∙ ap (sum_by (price_of meters prices)) (positions_are n ends touches meters prices count)

pub cost_least : (n : ℕ) (ends : List (Option Ends)) (touches : List Touch) (meters r : ℕ) (prices X : List ℕ) → AreBranches n ends → length touches ≡ meters + length prices
    → IsRhoAt ends touches (live_items ends touches) r → DoAsMuch ends touches meters r X
    → cost_of prices (chosen_of n ends touches meters prices) ≤ sum_by (price_of meters prices) X
cost_least n ends touches meters r prices X ok count all d =
    subst (λ (s : ℕ). s ≤ sum_by (price_of meters prices) X) (sym (cost_is n ends touches meters prices count)) (none_cheaper_at n ends touches meters r prices X ok all d)
