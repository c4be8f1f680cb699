-- How many searches stations may take whose ranks are known.
use Rattle.std.proofs.Common.{◌≡◌, ◌≢◌, Bool, true, false, ℕ, zero, suc, ◌+◌, ◌<◌, Option, Some, None, List, length, get_or, set, refl, sym, ap, ◌∙◌, inl, inr, arith}
use Rattle.std.proofs.lemmas.Bool.{cases_eq}
use Rattle.std.proofs.lemmas.List.{get_or-set_other, get_or-set_same}
use Rattle.obs_graph.proofs.FlatParts.{sum_below-agree}
use Rattle.obs_graph.specs.Positions.{sum_below}
use Rattle.obs_matroid.proofs.Lists.{clash}
use Rattle.obs_switch.specs.Groups.{items_with}
use Rattle.obs_station.specs.declared.grouping.Grouping.{Grouping}
use Rattle.obs_station.specs.inner.Held.{Stations, has_any}
use Rattle.obs_station.specs.inner.Rounds.{AreRanked, allowance, allowed, rank_left}

-- sums of numbers that agree but at one place
sum_put : (f g : ℕ → ℕ) (c n : ℕ) → c < n → ((k : ℕ) → k ≢ c → f k ≡ g k) → sum_below f n + g c ≡ sum_below g n + f c
sum_put f g c zero l same = absurd (omega (arith, l))
sum_put f g c (suc n) l same = elim (cases_eq c n) [
  | inl e ↦
      let below = sum_below-agree f g n (λ k m. same k (λ s. omega (arith, s, m, e))) in
      let fc = ap f e in
      let gc = ap g e in
      omega (arith, below, fc, gc)
  | inr o ↦
      let rest = sum_put f g c n (omega (arith, l, o)) same in
      let last = same n (λ s. o (sym s)) in
      omega (arith, rest, last)
]

module _ (s : Stations) where
  -- one rank more is known
  pub allowance-put : (ranks : List (Option ℕ)) (c r : ℕ) → c < s.buses.count → c < length ranks → get_or ranks c None ≡ None
      → allowance s (set ranks c (Some r)) s.buses.count ≡ allowance s ranks s.buses.count + suc (length (items_with s.keys c))
  allowance-put ranks c r low room none =
      let lost = λ (k : ℕ). length (items_with s.keys k) in
      let put =
      sum_put (λ k. allowed (lost k) (get_or (set ranks c (Some r)) k None)) (λ k. allowed (lost k) (get_or ranks k None)) c s.buses.count low
      (λ k n. ap (allowed (lost k)) (get_or-set_other ranks c k (Some r) None n)) in
      let now = ap (allowed (lost c)) (get_or-set_same ranks c (Some r) None room) in
      let was = ap (allowed (lost c)) none in
      omega (arith, put, now, was)

  -- where none is known there are none
  pub allowance-none : (ranks : List (Option ℕ)) (n : ℕ) → ((c : ℕ) → get_or ranks c None ≡ None) → allowance s ranks n ≡ 0
  allowance-none ranks zero none = refl
  allowance-none ranks (suc n) none =
      let rest = allowance-none ranks n none in
      let last = ap (allowed (length (items_with s.keys n))) (none n) in
      omega (arith, rest, last)

  pub allowance-next : (ranks : List (Option ℕ)) (c : ℕ) → allowance s ranks (c + 1) ≡ allowance s ranks c + allowed (length (items_with s.keys c)) (get_or ranks c None)
  allowance-next ranks c = let on : c + 1 ≡ suc c = omega arith in rw on refl

-- and it is right
pub ranked-put : (y : Grouping) (ranks : List (Option ℕ)) (c r : ℕ) → c < length ranks → AreRanked y ranks → has_any y.stations.now c ≡ true → r ≡ rank_left y c → AreRanked y (set ranks c (Some r))
ranked-put y ranks c r room known any is k q e = elim (cases_eq k c) [
  | inr n ↦ known k q (sym (get_or-set_other ranks c k (Some r) None n) ∙ e)
  | inl o ↦
      let same : Some r ≡ Some q = sym (get_or-set_same ranks c (Some r) None room) ∙ (ap (λ (x : ℕ). get_or (set ranks c (Some r)) x None) (sym o) ∙ e) in
      let value : r ≡ q = ap (λ (x : Option ℕ). taken x) same in
      (ap (has_any y.stations.now) o ∙ any, sym value ∙ (is ∙ ap (rank_left y) (sym o)))
]
  where
    taken : Option ℕ → ℕ
    taken None = 0
    taken (Some x) = x

-- where none is known
pub ranked-none : (y : Grouping) (ranks : List (Option ℕ)) → ((c : ℕ) → get_or ranks c None ≡ None) → AreRanked y ranks
ranked-none y ranks none c r e = clash (ap (λ (x : Option ℕ). is_none x) (none c)) (ap (λ (x : Option ℕ). is_none x) e)
  where
    is_none : Option ℕ → Bool
    is_none None = true
    is_none (Some x) = false
