-- The pairs of a plan are the first assignment of its items.
use Rattle.std.proofs.Common.{◌≡◌, ℕ, zero, suc, ◌+◌, ◌<◌, ◌≤◌, Bool, true, false, not, eqb, Option, None, List, [], ◌∷◌, ◌++◌, length, map, refl, sym, ap, ◌∙◌, subst, inl, inr, arith, All}
use Rattle.std.specs.Prelude.{filter, nat_lt}
use Rattle.std.specs.List.{range_with_len}
use Rattle.std.proofs.lemmas.Bool.{cases_Bool, cases_eq, cond-false, cond-true, ne_eqb, eq-eqb, or_left}
use Rattle.std.proofs.Math.Bool.{not-not}
use Rattle.obs_graph.specs.declared.Ends.{Ends}
use Rattle.obs_matroid.specs.Assignments.{Pair}
use Rattle.obs_matroid.specs.First.{branch_at}
use Rattle.obs_matroid.specs.Lists.{In, IsRising}
use Rattle.obs_matroid.proofs.Comparing.{branch_at_out}
use Rattle.obs_matroid.proofs.Contained.{All-from_In}
use Rattle.obs_matroid.proofs.Lists.{In-append_cases, In-filter_from, In-map_from, clash, filter_same}
use Rattle.obs_matroid.proofs.Pairs.{In-items_from}
use Rattle.obs_matroid.proofs.Ranges.{range_from, range_rising, rising_filter}
use Rattle.obs_meter.specs.declared.Touch.{Touch}
use Rattle.obs_meter.specs.Assignments.{IsAssignmentAt, rho_at}
use Rattle.obs_meter.specs.Lost.{losing}
use Rattle.obs_meter.specs.inner.Lost.{left_of}
use Rattle.obs_meter.specs.Touches.{every_item, live_items}
use Rattle.obs_meter.proofs.Lost.{assignment-left, assignment-lost}
use Rattle.obs_forest.specs.Forest.{has_position}
use Rattle.obs_first.specs.First.{IsFirstAt, first_pairs}
use Rattle.obs_first.proofs.Lawful.{IsNotAfter-filter, first_pairs-is}
use Rattle.obs_placement.specs.Answer.{chosen_of, is_chosen}
use Rattle.obs_placement.specs.Placed.{Placed, PlanValue, shortfall_of, placement_of, plan_of}
use Rattle.obs_placement.specs.Placed.Placed.{cheapest, shortfall}
use Rattle.obs_edit.specs.Planned.{PlanPairsAreFirst, listed_touches, pairs_in, placed_pairs, planned_items}
use Rattle.obs_edit.proofs.Planned.{length-touches_of}
use Rattle.obs_meter.specs.Costs.{price_of}
use Rattle.obs_islands.proofs.Parts.{In-from_has}

-- a rising list is what the test for it leaves of a range that holds it
filter-listed : (n a : ℕ) (listed : List ℕ) → IsRising listed → ((m : ℕ) → In m listed → (a ≤ m) × (m < a + n)) → filter (has_position listed) (range_with_len a n) ≡ listed
filter-listed zero a [] rising low = refl
filter-listed zero a (x ∷ listed) rising low = let l = low x (inl refl) in absurd (omega (arith, l.0, l.1))
filter-listed (suc n) a [] rising low = filter-listed n (a + 1) [] rising (λ m i. absurd i)
filter-listed (suc n) a (x ∷ listed) rising low = elim (cases_eq x a) [
  | inl same ↦
      let here : has_position (x ∷ listed) a ≡ true = or_left (eqb x a) (has_position listed a) (eq-eqb x a same) in
      let rest : filter (has_position (x ∷ listed)) (range_with_len (a + 1) n) ≡ listed =
      filter_same (has_position (x ∷ listed)) (has_position listed) (range_with_len (a + 1) n) (λ y i. let r = range_from (a + 1) n y i in rw (ne_eqb x y (λ e. absurd (omega (arith, r.0, e, same)))) refl)
      ∙ filter-listed n (a + 1) listed rising.1 (λ m i. let l = low m (inr i) in let u = rising.0 m i in (omega (arith, u, same), omega (arith, l.1))) in
      rw here (ap (λ (ys : List ℕ). a ∷ ys) rest ∙ ap (λ (y : ℕ). y ∷ listed) (sym same))
  | inr other ↦
      let above = low x (inl refl) in
      let gone : has_position (x ∷ listed) a ≡ false = elim (cases_Bool (has_position (x ∷ listed) a)) [
        | inl t ↦ elim (In-from_has (x ∷ listed) a t) [
          | inl e ↦ absurd (other (sym e))
          | inr i ↦ let u = rising.0 a i in absurd (omega (arith, u, above.0))
        ]
        | inr f ↦ f
      ] in
      rw gone (filter-listed n (a + 1) (x ∷ listed) rising (λ m i. elim i [
        | inl e ↦ (omega (arith, e, above.0, other), let l = low m (inl e) in omega (arith, l.1))
        | inr j ↦ let u = rising.0 m j in let l = low m (inr j) in (omega (arith, u, above.0), omega (arith, l.1))
      ]))
]

-- a first assignment, where some are lost, is the first of the items that are left
first-lost : (lost : ℕ → Bool) (ends : List (Option Ends)) (touches : List Touch) (M : List ℕ) (A : List Pair) → IsFirstAt ends (losing lost touches) M A → IsFirstAt ends touches (left_of lost M) A
first-lost lost ends touches M A a =
    let whole = assignment-lost lost touches ends M A a.assigns in
    record {
      assigns = whole;
      longest = λ B b. a.longest B (assignment-left lost touches ends M B b);
      least = λ B b l. IsNotAfter-filter (λ m. not (lost m)) M A B (λ x f. (none A whole x f, none B b x f)) (a.least B (assignment-left lost touches ends M B b) l);
    }
  where
    none : (B : List Pair) → IsAssignmentAt ends touches (left_of lost M) B → (x : ℕ) → not (lost x) ≡ false → branch_at B x ≡ None
    none B b x f = branch_at_out B x (λ i.
        let v = In-items_from B x i in
        clash (ap (λ y. not (lost y)) v.2 ∙ (In-filter_from (λ m. not (lost m)) v.0.0 M (b.of_items v.0 v.1)).1) f)

-- a first assignment of all items, where only the listed ones touch anything, is the first of these
first-listed : (ends : List (Option Ends)) (touches : List Touch) (listed : List ℕ) → IsRising listed → ((m : ℕ) → In m listed → m < length touches)
    → (A : List Pair) → IsFirstAt ends (listed_touches touches listed) (every_item (listed_touches touches listed)) A → IsFirstAt ends touches listed A
first-listed ends touches listed rising low A a =
    let lost : ℕ → Bool = λ m. not (has_position listed m) in
    let all = every_item (listed_touches touches listed) in
    let kept : left_of lost all ≡ listed =
    filter_same (λ m. not (lost m)) (has_position listed) all (λ m i. not-not (has_position listed m))
    ∙ filter-listed (length (listed_touches touches listed)) 0 listed rising (λ m i. (omega arith, let l = low m i in omega (arith, l, length-touches_of touches listed))) in
    subst (λ (M : List ℕ). IsFirstAt ends touches M A) kept (first-lost lost ends touches all A a)

IsRising-after : (meters : ℕ) (xs : List ℕ) → IsRising xs → IsRising (map (λ k. meters + k) xs)
IsRising-after meters [] r = tt
IsRising-after meters (x ∷ xs) r = ((λ y i. let f = In-map_from (λ k. meters + k) y xs i in let l = r.0 f.0 f.1 in let e = f.2 in omega (arith, l, e)), IsRising-after meters xs r.1)

IsRising-append : (xs ys : List ℕ) → IsRising xs → IsRising ys → ((x y : ℕ) → In x xs → In y ys → x < y) → IsRising (xs ++ ys)
IsRising-append [] ys r s h = s
IsRising-append (x ∷ xs) ys r s h = (
  (λ y i. elim (In-append_cases y xs ys i) [ inl j ↦ r.0 y j | inr j ↦ h x y (inl refl) j ]),
  IsRising-append xs ys r.1 s (λ u v i j. h u v (inr i) j),
)

module _ (n : ℕ) (ends : List (Option Ends)) (touches : List Touch) (meters : ℕ) (prices : List ℕ) where
  chosen : List ℕ
  chosen = chosen_of n ends touches meters prices

  items_rise : IsRising (planned_items meters chosen)
  unfolding chosen
  items_rise =
      IsRising-append (range_with_len 0 meters) (map (λ k. meters + k) chosen) (range_rising 0 meters)
      (IsRising-after meters chosen (rising_filter (λ k. is_chosen n ends touches (price_of meters prices) (meters + k)) (range_with_len 0 (length prices)) (range_rising 0 (length prices))))
      (λ x y i j. let r = range_from 0 meters x i in let f = In-map_from (λ k. meters + k) y chosen j in let e = f.2 in omega (arith, r.1, e))

  chosen_low : (k : ℕ) → In k (chosen_of n ends touches meters prices) → k < length prices
  chosen_low k i =
      let f = In-filter_from (λ k. is_chosen n ends touches (price_of meters prices) (meters + k)) k (range_with_len 0 (length prices)) i in
      let r = range_from 0 (length prices) k f.0 in omega (arith, r.1)

  items_low : length touches ≡ meters + length prices → (m : ℕ) → In m (planned_items meters chosen) → m < length touches
  unfolding chosen
  items_low count m i = elim (In-append_cases m (range_with_len 0 meters) (map (λ k. meters + k) chosen) i) [
    | inl j ↦ let r = range_from 0 meters m j in omega (arith, r.1, count)
    | inr j ↦ let f = In-map_from (λ k. meters + k) m chosen j in let e = f.2 in let l = chosen_low f.0 f.1 in omega (arith, e, l, count)
  ]

-- each chosen candidate is one of what is offered
pub chosen_offered : (n : ℕ) (ends : List (Option Ends)) (touches : List Touch) (meters : ℕ) (prices : List ℕ) → length touches ≡ meters + length prices
    → All (λ k. meters + k < length touches) (chosen_of n ends touches meters prices)
chosen_offered n ends touches meters prices count =
    All-from_In (λ k. meters + k < length touches) (chosen_of n ends touches meters prices) (λ k i. let l = chosen_low n ends touches meters prices k i in omega (arith, l, count))

chosen_in : Placed → List ℕ
chosen_in (cheapest plan) = plan.chosen
chosen_in (shortfall lack) = []

is_plan : Placed → Bool
is_plan (cheapest plan) = true
is_plan (shortfall lack) = false

-- a plan has the chosen candidates
plan_has_chosen : (n : ℕ) (ends : List (Option Ends)) (touches : List Touch) (meters needed : ℕ) (prices : List ℕ) (plan : PlanValue)
    → placement_of n ends touches meters prices needed ≡ cheapest plan → plan.chosen ≡ chosen_of n ends touches meters prices
unfolding chosen_in is_plan
plan_has_chosen n ends touches meters needed prices plan h =
    let short = nat_lt (rho_at n ends touches (live_items ends touches)) needed in
    let lack = shortfall (shortfall_of n ends touches needed) in
    let whole = cheapest (plan_of n ends touches meters prices) in
    elim (cases_Bool short) [
      | inl t ↦ clash refl (ap is_plan (sym h ∙ cond-true short lack whole t))
      | inr f ↦ ap chosen_in (sym h ∙ cond-false short lack whole f)
    ]

pub plan_pairs_first : PlanPairsAreFirst
unfolding chosen
plan_pairs_first n ends touches meters needed prices plan ok count h =
    let listed = planned_items meters (chosen_of n ends touches meters prices) in
    let same : planned_items meters plan.chosen ≡ listed = ap (planned_items meters) (plan_has_chosen n ends touches meters needed prices plan h) in
    let pairs : placed_pairs n ends touches meters prices needed ≡ first_pairs n ends (listed_touches touches listed) = ap (pairs_in n ends (listed_touches touches listed)) h in
    let first = first-listed ends touches listed (items_rise n ends touches meters prices) (items_low n ends touches meters prices count) (first_pairs n ends (listed_touches touches listed))
    (first_pairs-is n ends (listed_touches touches listed) ok) in
    subst (λ (M : List ℕ). IsFirstAt ends touches M (placed_pairs n ends touches meters prices needed)) (sym same)
    (subst (λ (A : List Pair). IsFirstAt ends touches listed A) (sym pairs) first)
