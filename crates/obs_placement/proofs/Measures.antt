-- Flags of the items of a price, and what is measured by them.
use Rattle.std.proofs.Common.{◌≡◌, ℕ, ◌+◌, ◌≤◌, ◌<◌, Bool, false, not, List, length, set, ap, sym, ◌∙◌, ltb, inl, inr, arith, get_or-set_same, get_or-set_other}
use Rattle.std.proofs.lemmas.Bool.{cases_eq}
use Rattle.std.proofs.lemmas.List.{length-set}
use Rattle.std.specs.Prelude.{filter, flat_map}
use Rattle.obs_graph.specs.Graph.{Graph}
use Rattle.obs_matroid.specs.Lists.{In}
use Rattle.obs_matroid.proofs.Lists.{In-filter_from, filter_same}
use Rattle.obs_meter.specs.declared.Touch.{Touch}
use Rattle.obs_meter.specs.Spanned.{rank_at}
use Rattle.obs_meter.specs.Touches.{live_items, touch_at}
use Rattle.obs_meter.proofs.Live.{live-from_live_items, live_low}
use Rattle.obs_rankcut.specs.Bounds.{in_scope, listed, listed_rank, unlisted}
use Rattle.obs_rankcut.specs.inner.Flags.{marked}
use Rattle.obs_placement.specs.Layers.{layer_outside, layer_rank}
use Rattle.obs_placement.specs.inner.Layers.{layer_items}
use Rattle.obs_placement.specs.Taking.{is_below, is_listed_at}
use Rattle.obs_placement.specs.inner.Taking.{AreKnown, never, since_at}

-- the first i of n flags are those of a test
pub record AreTested (P : ℕ → Bool) (n i : ℕ) (flags : List Bool) : Type 0 where
  pub count : length flags ≡ n
  pub is : (m : ℕ) → m < i → marked flags m ≡ P m

pub AreTested-none : (P : ℕ → Bool) (n : ℕ) (flags : List Bool) → length flags ≡ n → AreTested P n 0 flags
AreTested-none P n flags e = record { count = e; is = λ m l. absurd (omega (arith, l)) }

pub AreTested-next : (P : ℕ → Bool) (n i : ℕ) (flags : List Bool) → i < n → (b : Bool) → b ≡ P i → AreTested P n i flags → AreTested P n (i + 1) (set flags i b)
AreTested-next P n i flags l b e h = record {
  count = length-set flags i b ∙ h.count;
  is = λ m k. elim (cases_eq m i) [
    | inl w ↦
        let low : i < length flags = let c = h.count in omega (arith, l, c) in
        ap (marked (set flags i b)) w ∙ (get_or-set_same flags i b false low ∙ (e ∙ ap P (sym w)))
    | inr o ↦ get_or-set_other flags i m b false o ∙ h.is m (omega (arith, k, o))
  ];
}

module _ (g : Graph) (touches : List Touch) (price : ℕ → ℕ) (since : List ℕ) (t : ℕ) (marks scope : List Bool) (known : AreKnown g touches price since) (high : t ≤ never)
    (marks_are : (m : ℕ) → m < length touches → marked marks m ≡ ltb (since_at since m) t) (scope_is : (m : ℕ) → m < length touches → marked scope m ≡ is_below price t m) where
  low : (m : ℕ) → In m (live_items g.ends touches) → m < length touches
  low m i = live_low g.ends touches m (live-from_live_items g.ends touches m i)

  scope_same : in_scope g.ends touches (marked scope) ≡ in_scope g.ends touches (is_below price t)
  scope_same = filter_same (marked scope) (is_below price t) (live_items g.ends touches) (λ m i. scope_is m (low m i))

  own_same : (m : ℕ) → In m (in_scope g.ends touches (is_below price t)) → marked marks m ≡ is_listed_at g.vertices g.ends touches price t m
  own_same m i = marks_are m (low m (In-filter_from (is_below price t) m (live_items g.ends touches) i).0) ∙ known t m high

  pub measured_items : listed g.ends touches (marked marks) (marked scope) ≡ layer_items g.vertices g.ends touches price t
  measured_items = ap (filter (marked marks)) scope_same ∙ filter_same (marked marks) (is_listed_at g.vertices g.ends touches price t) (in_scope g.ends touches (is_below price t)) own_same

  pub measured_rank : listed_rank g.vertices g.ends touches (marked marks) (marked scope) ≡ layer_rank g.vertices g.ends touches price t
  measured_rank = ap (λ xs. rank_at g.vertices g.ends (flat_map (touch_at g.ends touches) xs)) measured_items

  pub measured_outside : length (unlisted g.ends touches (marked marks) (marked scope)) ≡ layer_outside g.vertices g.ends touches price t
  measured_outside = ap length (
      ap (filter (λ m. not (marked marks m))) scope_same
      ∙ filter_same (λ m. not (marked marks m)) (λ m. not (is_listed_at g.vertices g.ends touches price t m)) (in_scope g.ends touches (is_below price t)) (λ m i. ap not (own_same m i)))
