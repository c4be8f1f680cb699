-- The live meters of all stations are at most the live meters.
use Rattle.std.proofs.Common.{◌≡◌, ℕ, zero, suc, ◌+◌, ◌<◌, ◌≤◌, Bool, false, cond, eqb, ltb, List, [], ◌∷◌, length, map, ap, inl, inr, arith}
use Rattle.std.specs.Prelude.{All, filter}
use Rattle.std.specs.List.{range_with_len}
use Rattle.std.proofs.lemmas.Bool.{cases_Bool, le-ltb}
use Rattle.std.proofs.lemmas.Bool.Decides.{nat_tests}
use Rattle.obs_graph.specs.Positions.{sum_below}
use Rattle.obs_graph.proofs.AtVertex.{positions_from-pass}
use Rattle.obs_graph.proofs.FlatParts.{cond-one, length-positions_from, passing_start-cons, sum_below-zero}
use Rattle.obs_case.specs.Tables.{Tables}
use Rattle.obs_meter.specs.Touches.{is_live}
use Rattle.obs_switch.specs.Groups.{items_with}
use Rattle.obs_switch.specs.inner.Groups.{group_start}
use Rattle.obs_switch.proofs.Grouping.{group_start-le, has_key}
use Rattle.obs_network.specs.Network.{case_branches, case_meters}
use Rattle.obs_network.specs.Observable.{case_live_meters}
use Rattle.obs_network.proofs.OfCase.{length-case_meters}
use Rattle.obs_station.specs.inner.Held.{station_key, station_keys}
use Rattle.obs_station.specs.Stations.{case_station_count}

-- one key has the item b, or none below n
below_or : (b n : ℕ) → sum_below (λ v. cond (eqb b v) 1 0) n ≤ cond (ltb b n) 1 0
below_or b zero = omega arith
below_or b (suc n) = omega (arith, below_or b n, step b n)
  where
    step : (b n : ℕ) → cond (ltb b n) 1 0 + cond (eqb b n) 1 0 ≤ cond (ltb b (suc n)) 1 0
    step b n = grind (arith, nat_tests)

-- where idle items have no key below k, the keys below have no more items than are live
few_keys : (f : ℕ → ℕ) (live : ℕ → Bool) (k : ℕ) → ((m : ℕ) → live m ≡ false → k ≤ f m) → (xs : List ℕ) → group_start (map f xs) k ≤ length (filter live xs)
few_keys f live k h [] = omega (arith, sum_below-zero k)
few_keys f live k h (x ∷ xs) =
    let rest = few_keys f live k h xs in
    let first = passing_start-cons has_key (f x) (map f xs) k in
    let most = below_or (f x) k in
    let one = cond-one (ltb (f x) k) in
    elim (cases_Bool (live x)) [
      | inl t ↦ rw t (omega (arith, rest, first, most, one))
      | inr e ↦ let none = ap {B = ℕ} (λ (b : Bool). cond b 1 0) (le-ltb (f x) k (h x e)) in rw e (omega (arith, rest, first, most, none))
    ]

-- the live meters of all stations
pub few_live : (t : Tables) → group_start (station_keys t) (case_station_count t) ≤ length (case_live_meters t)
few_live t =
    let few = few_keys (station_key t) (is_live (case_branches t) (case_meters t)) (case_station_count t) idle (range_with_len 0 (length t.meters)) in
    let same = ap (λ (n : ℕ). length (filter (is_live (case_branches t) (case_meters t)) (range_with_len 0 n))) (length-case_meters t) in
    omega (arith, few, same)
  where
    idle : (m : ℕ) → is_live (case_branches t) (case_meters t) m ≡ false → case_station_count t ≤ station_key t m
    idle m f = rw f (omega arith)

-- the items of one key are below their number, and no more
pub items-low : (keys : List ℕ) (c : ℕ) → All (λ m. m < length keys) (items_with keys c)
items-low keys c k d l = let r = positions_from-pass (λ b. eqb b c) 0 keys k d 0 l in let low = r.1 in let at = r.2 in omega (arith, low, at)

pub items-next : (keys : List ℕ) (c : ℕ) → group_start keys (c + 1) ≡ group_start keys c + length (items_with keys c)
items-next keys c = let on : c + 1 ≡ suc c = omega arith in rw on (let e = length-positions_from (λ b. eqb b c) 0 keys in omega (arith, e))

pub items-few : (keys : List ℕ) (c : ℕ) → length (items_with keys c) ≤ length keys
items-few keys c = let next = items-next keys c in let all = group_start-le keys (c + 1) in omega (arith, next, all)
