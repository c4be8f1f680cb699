-- What the items of a list touch, where the others touch nothing.
use Rattle.std.proofs.Common.{◌≡◌, ℕ, ◌+◌, ◌<◌, Bool, true, false, not, eqb, cond, ◌&&◌, ◌||◌, Option, List, [], ◌∷◌, ◌++◌, length, map, get_or, set, take, refl, sym, ap, ◌∙◌, arith, append_assoc}
use Rattle.std.specs.Prelude.{nat_lt}
use Rattle.std.specs.Cmp.Derive.{one_truth}
use Rattle.std.specs.List.{range_with_len}
use Rattle.std.proofs.lemmas.Bool.{lt-ltb, ltb-true, not-false}
use Rattle.std.proofs.lemmas.List.{append-nil, map-append, take_more}
use Rattle.obs_graph.specs.declared.Ends.{Ends}
use Rattle.obs_matroid.specs.Lists.{In}
use Rattle.obs_matroid.proofs.Ranges.{range_from, range_in}
use Rattle.obs_meter.specs.declared.Touch.{Touch}
use Rattle.obs_meter.specs.declared.Touch.TheVariants.{Nothing}
use Rattle.obs_meter.specs.Lost.{losing}
use Rattle.obs_meter.specs.Touches.{touch_at}
use Rattle.obs_meter.proofs.Lost.{length-losing, losing-but, losing-is, touch-lost}
use Rattle.obs_forest.specs.Forest.{has_position}
use Rattle.obs_forest.proofs.Held.{has_position-append}
use Rattle.obs_edit.specs.Planned.{listed_touches, planned_items}
use Rattle.obs_islands.proofs.Parts.{In-from_has, has-from_In}

has-range : (n m : ℕ) → has_position (range_with_len 0 n) m ≡ nat_lt m n
has-range n m = one_truth (has_position (range_with_len 0 n) m) (nat_lt m n)
    (λ t. let r = range_from 0 n m (In-from_has (range_with_len 0 n) m t) in lt-ltb m n (omega (arith, r.1)))
    (λ t. let l = ltb-true m n t in has-from_In (range_with_len 0 n) m (range_in 0 n m (omega arith) (omega (arith, l))))

module _ (touches : List Touch) (listed : List ℕ) where
  pub length-touches_of : length (listed_touches touches listed) ≡ length touches
  length-touches_of = length-losing (λ m. not (has_position listed m)) touches

  -- where an item touches a branch it is listed, and touches the branch
  pub touch-listed : (ends : List (Option Ends)) (m e : ℕ) → In e (touch_at ends (listed_touches touches listed) m) → In m listed × In e (touch_at ends touches m)
  touch-listed ends m e i =
      let t = touch-lost (λ k. not (has_position listed k)) touches ends m e i in (In-from_has listed m (not-false (has_position listed m) t.0), t.1)

-- one item more
touches_of-more : (touches : List Touch) (listed : List ℕ) (x : ℕ) → listed_touches touches (listed ++ x ∷ []) ≡ set (listed_touches touches listed) x (get_or touches x Nothing)
touches_of-more touches listed x =
    let test : (λ m. not (has_position (listed ++ x ∷ []) m)) ≡ (λ m. not (has_position listed m) && not (eqb x m)) = λ j m.
    (ap not (has_position-append listed x m) ∙ neither (has_position listed m) (eqb x m)) j in
    ap (λ (p : ℕ → Bool). losing p touches) test ∙ sym (losing-but (λ m. not (has_position listed m)) touches x)
  where
    neither : (a b : Bool) → not (a || b) ≡ (not a && not b)
    neither true b = refl
    neither false b = refl

-- the meters are written
pub plan-begun : (touches xs : List Touch) (meters : ℕ) (chosen : List ℕ) → length xs ≡ length touches
    → ((m : ℕ) → m < length touches → get_or xs m Nothing ≡ cond (not (nat_lt m meters)) Nothing (get_or touches m Nothing)) → xs ≡ listed_touches touches (planned_items meters (take 0 chosen))
plan-begun touches xs meters chosen len at =
    let items : List ℕ = planned_items meters (take 0 chosen) in
    let meter : (m : ℕ) → has_position items m ≡ nat_lt m meters = λ m. ap (λ (l : List ℕ). has_position l m) (append-nil (range_with_len 0 meters)) ∙ has-range meters m in
    losing-is (λ m. not (has_position items m)) touches xs len (λ m low. at m low ∙ ap (λ b. cond (not b) Nothing (get_or touches m Nothing)) (sym (meter m)))

-- one chosen candidate more is written
pub plan-more : (touches : List Touch) (meters : ℕ) (chosen : List ℕ) (k : ℕ) → k < length chosen
    → listed_touches touches (planned_items meters (take (k + 1) chosen)) ≡ set (listed_touches touches (planned_items meters (take k chosen))) (meters + get_or chosen k 0) (get_or touches (meters + get_or chosen k 0) Nothing)
plan-more touches meters chosen k low =
    let f : ℕ → ℕ = λ x. meters + x in
    let one : map f (take (k + 1) chosen) ≡ map f (take k chosen) ++ f (get_or chosen k 0) ∷ [] = ap (map f) (take_more chosen k 0 low) ∙ map-append f (take k chosen) (get_or chosen k 0 ∷ []) in
    let items : planned_items meters (take (k + 1) chosen) ≡ planned_items meters (take k chosen) ++ f (get_or chosen k 0) ∷ [] =
    ap (λ ys. range_with_len 0 meters ++ ys) one ∙ sym (append_assoc (range_with_len 0 meters) (map f (take k chosen)) (f (get_or chosen k 0) ∷ [])) in
    ap (listed_touches touches) items ∙ touches_of-more touches (planned_items meters (take k chosen)) (meters + get_or chosen k 0)
