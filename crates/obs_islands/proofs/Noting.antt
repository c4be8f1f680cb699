-- Noting the lowest branches at vertices.
use Rattle.std.proofs.Common.{◌≡◌, ℕ, ◌+◌, ◌-◌, ◌<◌, ◌≤◌, Bool, ◌||◌, Option, Some, List, length, get_or, sym, ◌∙◌, inl, inr, subst, arith}
use Rattle.std.specs.Prelude.{AllPairs, slice_index_or}
use Rattle.std.proofs.lemmas.Bool.{cases_eq, cases_lt, or_cases, or_left, or_right}
use Rattle.std.proofs.lemmas.List.{get_or_default, get_or_past}
use Rattle.obs_graph.specs.declared.Ends.{Ends}
use Rattle.obs_matroid.specs.Lists.{In}
use Rattle.obs_matroid.proofs.Contained.{Contains-from_In}
use Rattle.obs_meter.specs.declared.Hub.{Hub}
use Rattle.obs_meter.specs.declared.Touch.{Touch}
use Rattle.obs_meter.specs.declared.Touch.TheVariants.{Nothing}
use Rattle.obs_meter.specs.Touches.{touch_at}
use Rattle.obs_meter.specs.inner.Touches.{hub_of}
use Rattle.obs_islands.specs.inner.Rounds.{IsNotedAt, noted}

-- where a position is noted, there is a vertex
pub noted_low : (lowest : List ℕ) (v n : ℕ) → noted lowest v < n → n ≤ 4294967295 → v < length lowest
noted_low lowest v n l few = elim (cases_lt v (length lowest)) [
  | inl y ↦ y
  | inr past ↦ let none = get_or_past lowest v 4294967295 past in absurd (omega (arith, l, few, none))
]

-- what is noted at a vertex is read there
pub noted_is : (lowest : List ℕ) (v d : ℕ) → v < length lowest → get_or lowest v d ≡ noted lowest v
noted_is lowest v d l = get_or_default lowest v d 4294967295 l

-- a branch is noted here and then there
pub NotedAt-both : (p q : ℕ → Bool) (e : ℕ) (a b c : List ℕ) → IsNotedAt p e a b → IsNotedAt q e b c → IsNotedAt (λ u. p u || q u) e a c
NotedAt-both p q e a b c h k = record {
  no_higher = λ u. let one = h.no_higher u in let two = k.no_higher u in omega (arith, one, two);
  here = λ u t. elim (or_cases (p u) (q u) t) [
    | inl y ↦ let one = h.here u y in let two = k.no_higher u in omega (arith, one, two)
    | inr y ↦ k.here u y
  ];
  only = λ u. elim (k.only u) [
    | inr w ↦ inr (or_right (p u) (q u) w.0, w.1)
    | inl same ↦ elim (h.only u) [
      | inl before ↦ inl (same ∙ before)
      | inr w ↦ inr (or_left (p u) (q u) w.0, same ∙ w.1)
    ]
  ];
}

-- of a rising list none is above the last one
pub In-last : (xs : List ℕ) (e : ℕ) → AllPairs ◌<◌ xs → In e xs → e ≤ get_or xs (length xs - 1) 0
In-last xs e rising i =
    let c = Contains-from_In e xs i in
    let low = c.1 in
    let is = c.2 in
    elim (cases_lt c.0 (length xs - 1)) [
      | inl l ↦
          let r = rising c.0 (length xs - 1) e l (omega (arith, low)) in
          let same = get_or_default xs (length xs - 1) e 0 (omega (arith, low)) in
          omega (arith, r, is, same)
      | inr l ↦
          let last : c.0 ≡ length xs - 1 = omega (arith, l, low) in
          let there : get_or xs (length xs - 1) e ≡ e = subst (λ k. get_or xs k e ≡ e) last is in
          let same = get_or_default xs (length xs - 1) e 0 (omega (arith, low)) in
          omega (arith, there, same)
    ]

-- all branches that the first m items touch at their hubs are below the limit
abbrev pub IsAbove : List (Option Ends) → List Touch → ℕ → ℕ → Type 0
IsAbove ends touches i limit =
    (m e : ℕ) (h : Hub) → m < i → hub_of ends (slice_index_or touches m Nothing) ≡ Some h → In e (touch_at ends touches m) → e < limit

module _ (ends : List (Option Ends)) (touches : List Touch) (i limit : ℕ) (above : IsAbove ends touches i limit) where
  -- one item more
  pub Above-next : (end after : ℕ) → ((e : ℕ) (h : Hub) → hub_of ends (slice_index_or touches i Nothing) ≡ Some h → In e (touch_at ends touches i) → e < end) → limit ≤ after → end ≤ after
      → IsAbove ends touches (i + 1) after
  Above-next end after own le more m e h l is j = elim (cases_eq m i) [
    | inl y ↦ let low = own e h (subst (λ k. hub_of ends (slice_index_or touches k Nothing) ≡ Some h) y is) (subst (λ k. In e (touch_at ends touches k)) y j) in omega (arith, low, more)
    | inr n ↦ let low = above m e h (omega (arith, l, n)) is j in omega (arith, low, le)
  ]

  -- all of them
  pub Above-ended : length touches ≤ i → (m e : ℕ) (h : Hub) → hub_of ends (slice_index_or touches m Nothing) ≡ Some h → In e (touch_at ends touches m) → e < limit
  Above-ended all m e h is j = elim (cases_lt m (length touches)) [
    | inl l ↦ above m e h (omega (arith, l, all)) is j
    | inr past ↦ absurd (subst (λ (t : Touch). hub_of ends t ≡ Some h → ⊥) (sym (get_or_past touches m Nothing past)) (λ w. cc w) is)
  ]
