-- Groups that lie in the front of longer arrays, where one key was set.
use Rattle.std.proofs.Common.{◌≡◌, ℕ, suc, ◌+◌, ◌<◌, ◌≤◌, inl, inr, List, ◌++◌, length, get_or, set, take, sym, ap, ◌∙◌, arith}
use Rattle.std.proofs.Math.Seq.{take-append_seam}
use Rattle.std.proofs.lemmas.Bool.{cases_eq}
use Rattle.std.proofs.lemmas.List.{get_or-set_other, get_or-set_same, get_or-take, get_or_append_left, length-set, length-take-le}
use Rattle.obs_switch.specs.inner.Groups.{AreGroups}

-- the front of a list that was put together
pub front_of : (n : ℕ) (keys rest : List ℕ) → length keys ≡ n → take n (keys ++ rest) ≡ keys
front_of n keys rest len = ap (λ k. take k (keys ++ rest)) (sym len) ∙ take-append_seam keys rest

-- the starts of so many groups suffice
pub groups_within : (keys members starts : List ℕ) (last : ℕ) → last < length starts → AreGroups keys members starts (suc last)
    → AreGroups keys members (take (last + 1) starts) (length (take (last + 1) starts))
groups_within keys members starts last low g =
    let len = length-take-le (last + 1) starts (omega (arith, low)) in
    record {
      begins = λ key l.
          let near : key < last + 1 = omega (arith, l, len) in
          get_or-take (last + 1) starts key 0 near ∙ g.begins key (omega (arith, near));
      groups = λ key l. g.groups key (omega (arith, l, len));
    }

-- and what stands behind them doesn't matter
pub groups_before : (n last count : ℕ) (keys rest members starts more : List ℕ) → length keys ≡ n → suc last ≤ length starts → suc last ≤ count → AreGroups keys members starts count
    → AreGroups (take n (keys ++ rest)) members (starts ++ more) (suc last)
groups_before n last count keys rest members starts more len room few g =
    rw (front_of n keys rest len)
    record {
      begins = λ key l. get_or_append_left starts more 0 key (omega (arith, l, room)) ∙ g.begins key (omega (arith, l, few));
      groups = λ key l. g.groups key (omega (arith, l, few));
    }

-- the keys stay low
pub low_after : (n last m key : ℕ) (keys rest lists : List ℕ) → n ≤ length lists → keys ≡ set (take n lists) m key → key ≤ last → m < n → ((k : ℕ) → k < n → get_or lists k 0 ≤ last)
    → (k : ℕ) → k < n → get_or (keys ++ rest) k 0 ≤ last
low_after n last m key keys rest lists fits is low at below k l =
    let size : length (take n lists) ≡ n = length-take-le n lists fits in
    let len : length keys ≡ n = ap length is ∙ (length-set (take n lists) m key ∙ size) in
    let here : get_or (keys ++ rest) k 0 ≡ get_or (set (take n lists) m key) k 0 = get_or_append_left keys rest 0 k (omega (arith, l, len)) ∙ ap (λ xs. get_or xs k 0) is in
    elim (cases_eq k m) [
      | inl e ↦
          let same : get_or (set (take n lists) m key) k 0 ≡ key = ap (λ i. get_or (set (take n lists) m key) i 0) e ∙ get_or-set_same (take n lists) m key 0 (omega (arith, at, size)) in
          omega (arith, here, same, low)
      | inr other ↦
          let was : get_or (set (take n lists) m key) k 0 ≡ get_or lists k 0 = get_or-set_other (take n lists) m k key 0 other ∙ get_or-take n lists k 0 l in
          omega (arith, here, was, below k l)
    ]
