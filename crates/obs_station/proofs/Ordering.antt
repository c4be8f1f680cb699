-- The live meters, one station after another, and the other way round.
use Rattle.std.proofs.Common.{◌≡◌, ℕ, zero, suc, ◌+◌, ◌-◌, ◌<◌, ◌≤◌, List, [], ◌∷◌, length, get_or, take, drop, refl, sym, ◌∙◌, subst, inl, inr, arith}
use Rattle.std.proofs.lemmas.Bool.{cases_lt}
use Rattle.std.proofs.lemmas.List.{get_or-take, length-take-le}
use Rattle.obs_matroid.specs.Lists.{In}
use Rattle.obs_switch.specs.inner.Groups.{AreGroups, group_start}
use Rattle.obs_switch.proofs.Grouping.{group_start-le}
use Rattle.obs_exchange.specs.inner.Ordered.{IsOrder}
use Rattle.obs_station.specs.inner.Rounds.{IsBackward, IsByStation}
use Rattle.obs_station.proofs.Members.{member-at, member-low}

-- what stands in a slice stands at a place of it
in_slice : (xs : List ℕ) (s n m : ℕ) → In m (take n (drop s xs)) → (p : ℕ) × (s ≤ p) × (p < s + n) × (get_or xs p 0 ≡ m)
in_slice [] zero zero m i = absurd i
in_slice [] zero (suc n) m i = absurd i
in_slice [] (suc s) zero m i = absurd i
in_slice [] (suc s) (suc n) m i = absurd i
in_slice (x ∷ xs) zero zero m i = absurd i
in_slice (x ∷ xs) zero (suc n) m i = elim i [
  | inl e ↦ (0, omega arith, omega arith, sym e)
  | inr j ↦ let v = in_slice xs zero n m j in let l = v.2 in (suc v.0, omega arith, omega (arith, l), v.3)
]
in_slice (x ∷ xs) (suc s) n m i = let v = in_slice xs s n m i in let l = v.1 in let k = v.2 in (suc v.0, omega (arith, l), omega (arith, k), v.3)

-- and the other way round
slice_in : (xs : List ℕ) (s n p : ℕ) → s ≤ p → p < s + n → p < length xs → In (get_or xs p 0) (take n (drop s xs))
slice_in [] s n p l k e = absurd (omega (arith, e))
slice_in (x ∷ xs) zero zero p l k e = absurd (omega (arith, k))
slice_in (x ∷ xs) zero (suc n) zero l k e = inl refl
slice_in (x ∷ xs) zero (suc n) (suc p) l k e = inr (slice_in xs zero n p (omega arith) (omega (arith, k)) (omega (arith, e)))
slice_in (x ∷ xs) (suc s) n zero l k e = absurd (omega (arith, l))
slice_in (x ∷ xs) (suc s) n (suc p) l k e = slice_in xs s n p (omega (arith, l)) (omega (arith, k)) (omega (arith, e))

-- a place lies in one of the groups
group_at : (keys : List ℕ) (c p : ℕ) → p < group_start keys c → (k : ℕ) × (k < c) × (group_start keys k ≤ p) × (p < group_start keys (suc k))
group_at keys zero p l = absurd (omega (arith, l))
group_at keys (suc c) p l = elim (cases_lt p (group_start keys c)) [
  | inl low ↦ let v = group_at keys c p low in let k = v.1 in (v.0, omega (arith, k), v.2, v.3)
  | inr high ↦ (c, omega arith, high, l)
]

-- the starts of the groups rise
pub starts_rise : (keys : List ℕ) (c d : ℕ) → c ≤ d → group_start keys c ≤ group_start keys d
starts_rise keys c zero l = let e : c ≡ 0 = omega (arith, l) in rw e (omega arith)
starts_rise keys c (suc d) l = elim (cases_lt d c) [
  | inl e ↦ let same : c ≡ suc d = omega (arith, l, e) in rw same (omega arith)
  | inr n ↦ let rest = starts_rise keys c d n in omega (arith, rest)
]

module _ (keys members starts : List ℕ) (count : ℕ) (groups : AreGroups keys members starts (suc count)) (room : length keys ≤ length members) where
  pub by_station : IsByStation keys count (take (group_start keys count) members)
  by_station =
      let most = group_start-le keys count in
      let size = length-take-le (group_start keys count) members (omega (arith, most, room)) in
      record {
        all = size;
        low = λ p l.
            let v = group_at keys count p (omega (arith, l, size)) in
            let key = v.0 in
            let low = v.1 in
            let from = v.2 in
            let to = v.3 in
            let there = slice_in members (group_start keys key) (group_start keys (suc key) - group_start keys key) p from (omega (arith, from, to)) (omega (arith, l, size, most, room)) in
            let member = subst (λ (xs : List ℕ). In (get_or members p 0) xs) (groups.groups key (omega (arith, low))) there in
            let same = get_or-take (group_start keys count) members p 0 (omega (arith, l, size)) in
            let fits = member-low keys key (get_or members p 0) member in
            omega (arith, same, fits);
        placed = λ m l own.
            let key = get_or keys m 0 in
            let member = subst (λ (xs : List ℕ). In m xs) (sym (groups.groups key (omega (arith, own)))) (member-at keys m l) in
            let v = in_slice members (group_start keys key) (group_start keys (suc key) - group_start keys key) m member in
            let from = v.1 in
            let to = v.2 in
            let high : v.0 < group_start keys (suc key) = omega (arith, to, from) in
            let end = starts_rise keys (suc key) count (omega (arith, own)) in
            (v.0, get_or-take (group_start keys count) members v.0 0 (omega (arith, high, end)) ∙ v.3, from, high);
      }

-- an order by stations is one of the meters, the other way round too
pub order_back : (keys : List ℕ) (count : ℕ) (order list : List ℕ) → IsByStation keys count order → IsBackward order list → IsOrder (length keys) list
order_back keys count order list by back =
    let size = by.all in
    let most = group_start-le keys count in
    let same = back.same in
    record {
      few = omega (arith, size, most, same);
      low = λ k l.
          let j = length order - suc k in
          let at = back.back j k (omega (arith, l, same)) in
          let low = by.low j (omega (arith, l, same)) in
          omega (arith, at, low);
    }
