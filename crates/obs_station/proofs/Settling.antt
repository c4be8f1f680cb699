-- Steps by which ranks without stations are known, and what they take.
use Rattle.std.proofs.Common.{◌≡◌, ℕ, zero, suc, ◌+◌, ◌<◌, ◌≤◌, true, Option, Some, None, List, [], ◌∷◌, length, get_or, set, take, refl, sym, ap, ◌∙◌, subst, arith}
use Rattle.std.specs.Prelude.{All}
use Rattle.std.proofs.lemmas.List.{get_or-take, length-set}
use Rattle.obs_switch.specs.Groups.{items_with}
use Rattle.obs_assign.specs.Assignment.{Assignment}
use Rattle.obs_station.specs.declared.grouping.Grouping.{Grouping}
use Rattle.obs_station.specs.declared.room.Room.{Room}
use Rattle.obs_station.specs.inner.Going.{AreKnown, GoesOn, HasSettled}
use Rattle.obs_station.specs.inner.Held.{has_any}
use Rattle.obs_station.specs.inner.Rounds.{AreRanked, Rounds, allowance, rank_left}
use Rattle.obs_station.proofs.Allowed.{allowance-put, ranked-put}
use Rattle.obs_station.proofs.Placed.{same_item}

-- a front of a list in which each number is low
pub all_low : (xs : List ℕ) (n most : ℕ) → ((k : ℕ) → k < n → get_or xs k 0 < most) → All (λ m. m < most) (take n xs)
all_low xs n most low k d l =
    let inner : k < n = few_of n xs k l in
    let at = get_or-take n xs k d inner in
    let same = same_item xs k d (long_of n xs k l) in
    let bound = low k inner in
    omega (arith, at, same, bound)
  where
    few_of : (n : ℕ) (xs : List ℕ) (k : ℕ) → k < length (take n xs) → k < n
    few_of zero xs k l = absurd (omega (arith, l))
    few_of (suc n) [] k l = absurd (omega (arith, l))
    few_of (suc n) (x ∷ xs) zero l = omega arith
    few_of (suc n) (x ∷ xs) (suc k) l = let rest = few_of n xs k (omega (arith, l)) in omega (arith, rest)

    long_of : (n : ℕ) (xs : List ℕ) (k : ℕ) → k < length (take n xs) → k < length xs
    long_of zero xs k l = absurd (omega (arith, l))
    long_of (suc n) [] k l = absurd (omega (arith, l))
    long_of (suc n) (x ∷ xs) zero l = omega arith
    long_of (suc n) (x ∷ xs) (suc k) l = let rest = long_of n xs k (omega (arith, l)) in omega (arith, rest)

-- what is known is as before, and only what is reached, and what is listed, may be other
pub known_again : {y : Grouping} {p w : Rounds} → AreKnown y p → w.ranks ≡ p.ranks → length w.firsts ≡ length p.firsts → AreKnown y w
known_again {y = y} {p = p} k ranks firsts =
    let nodes = k.places.nodes in
    let long = ap (λ (xs : List (Option ℕ)). length xs) ranks in
    record { places = record { meters = firsts ∙ k.places.meters; nodes = omega (arith, nodes, long) }; ranked = subst (λ (xs : List (Option ℕ)). AreRanked y xs) (sym ranks) k.ranked }

-- other pairs are found, and meters are listed
pub settled_pairs : {y : Grouping} {a b : Assignment} {r q : Room} {p w : Rounds} {t u n : ℕ} → AreKnown y p → w ≡ record p { list = w.list } → GoesOn y a b r q t u → u ≤ t + n → HasSettled y a b r q p w t u n 0
settled_pairs {y = y} {p = p} {w = w} k is goes few =
    let s = y.stations.now in
    let ranks = ap (λ (x : Rounds). x.ranks) is in
    let firsts = ap (λ (x : Rounds). length x.firsts) is in
    let was = ap (λ (xs : List (Option ℕ)). allowance s xs s.buses.count) ranks in
    record {
      goes_on = goes;
      known = known_again k ranks firsts;
      searched = omega (arith, few, was);
      as_large = record { meters = firsts; nodes = ap (λ (xs : List (Option ℕ)). length xs) ranks };
    }

-- the rank without one station is found
pub settled_one : {y : Grouping} {a b : Assignment} {r q : Room} {p w : Rounds} {t u c rank : ℕ} → AreKnown y p → GoesOn y a b r q t u → c < y.stations.now.buses.count → get_or p.ranks c None ≡ None
    → has_any y.stations.now c ≡ true → rank ≡ rank_left y c → u ≤ t + length (items_with y.stations.now.keys c) → w ≡ record p { ranks = set p.ranks c (Some rank) } → HasSettled y a b r q p w t u 0 1
settled_one {y = y} {a = a} {b = b} {r = r} {q = q} {p = p} {t = t} {u = u} {c = c} {rank = rank} k goes low none any is few put =
    let nodes = k.places.nodes in
    let room : c < length p.ranks = omega (arith, low, nodes) in
    let more = allowance-put y.stations.now p.ranks c rank low room none in
    let long = length-set p.ranks c (Some rank) in
    subst (λ (w : Rounds). HasSettled y a b r q p w t u 0 1) (sym put) (record {
      goes_on = goes;
      known = record { places = record { meters = k.places.meters; nodes = omega (arith, nodes, long) }; ranked = ranked-put y p.ranks c rank room k.ranked any is };
      searched = omega (arith, few, more);
      as_large = record { meters = refl; nodes = long };
    })
