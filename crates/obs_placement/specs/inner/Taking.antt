-- Where the taking of items stands: which are taken, kept and known.
use Rattle.std.specs.Prelude.{◌≡◌, ◌⊎◌, ℕ, ◌+◌, ◌≤◌, ◌<◌, ◌==◌, ◌&&◌, Bool, true, false, ◌↔◌, if◌then◌else◌, nat_lt, Option, List, length, slice_index_or}
use Rattle.obs_graph.specs.declared.Ends.{Ends}
use Rattle.obs_graph.specs.Graph.{Graph}
use Rattle.obs_matroid.specs.Lists.{In, IsDistinct}
use Rattle.obs_matroid.specs.Matroid.{Matroid}
use Rattle.obs_matroid.specs.Assignments.{Pair, items, IsAssignment}
use Rattle.obs_matroid.specs.inner.Critical.{IsCritical}
use Rattle.obs_meter.specs.declared.Touch.{Touch}
use Rattle.obs_meter.specs.Spanned.{graph_matroid}
use Rattle.obs_meter.specs.Touches.{is_live, live_items, touch_at}
use Rattle.obs_assign.specs.Assignment.{Assignment}
use Rattle.obs_assign.specs.inner.Assignment.{IsWhole, StandsOver, has_flag, is_frozen, pairs}
use Rattle.obs_placement.specs.Answer.{is_chosen}
use Rattle.obs_placement.specs.inner.Order.{item_at}
use Rattle.obs_placement.specs.Taking.{is_listed_at}

-- the price of an item that isn't found not to be critical: above all prices
abbrev pub never : ℕ
never = 18446744073709551615

-- from which price on the item m isn't critical
abbrev pub since_at : List ℕ → ℕ → ℕ
since_at since m = slice_index_or since m never

-- whether the item m is known not to be critical
abbrev pub is_known : List ℕ → ℕ → Bool
is_known since m = nat_lt (since_at since m) never

-- the items of N are taken: A is a longest assignment of them, and S holds just those that aren't critical in N
pub record IsTaken (g : Matroid) (touch : ℕ → List ℕ) (N : List ℕ) (A : List Pair) (S : ℕ → Bool) : Type 0 where
  pub distinct : IsDistinct N
  pub assigns : IsAssignment g touch N A
  pub longest : (B : List Pair) → IsAssignment g touch N B → length B ≤ length A
  pub critical : (m : ℕ) → In m N → (S m ≡ false) ↔ IsCritical g touch N m
  pub within : (m : ℕ) → S m ≡ true → In m N

-- the items of N are taken, over a graph: the pairs of a are a longest assignment of them, and those known not to be critical in N aren't
abbrev pub IsTakenAt : Graph → List Touch → List ℕ → Assignment → List ℕ → Type 0
IsTakenAt g touches N a since = IsTaken (graph_matroid g.vertices g.ends) (touch_at g.ends touches) N (pairs a) (is_known since)

-- the pairs stand, and nothing is frozen
pub record IsStanding (g : Graph) (touches : List Touch) (a : Assignment) : Type 0 where
  pub stands : StandsOver a g touches
  pub whole : IsWhole a
  pub thawed : (m : ℕ) → is_frozen a m ≡ false

-- the pairs stand, and only items that are known not to be critical are frozen
pub record StandsWithKnown (g : Graph) (touches : List Touch) (a : Assignment) (since : List ℕ) : Type 0 where
  pub stands : StandsOver a g touches
  pub whole : IsWhole a
  pub frozen : (m : ℕ) → is_frozen a m ≡ true → is_known since m ≡ true

-- from which price on an item isn't critical, after a search from an item of this price has reached it or not
abbrev pub since_after : Bool → ℕ → ℕ → ℕ
since_after reached price s = if reached && (s == never) then price else s

-- the listed items that weren't known are known from the price on, and nothing else changed
pub record AreKept (listed : List ℕ) (price : ℕ) (before after : List ℕ) : Type 0 where
  pub kept : (m : ℕ) → In m listed → since_at after m ≡ since_after true price (since_at before m)
  pub others : (m : ℕ) → (In m listed → ⊥) → since_at after m ≡ since_at before m

-- each item with a pair is chosen
abbrev pub AreHeld : Graph → List Touch → (ℕ → ℕ) → Assignment → Type 0
AreHeld g touches price a = (m : ℕ) → In m (items (pairs a)) → is_chosen g.vertices g.ends touches price m ≡ true

-- of the items that weren't known some are known from this price on now
abbrev pub AreAdded : ℕ → List ℕ → List ℕ → Type 0
AreAdded price before after =
    (m : ℕ) → (since_at after m ≡ since_at before m) ⊎ ((since_at before m ≡ never) × (since_at after m ≡ price))

-- the list has just the live ones of the items at the first i places
pub record AreFirst (ends : List (Option Ends)) (touches : List Touch) (keys : List (ℕ × ℕ)) (i : ℕ) (N : List ℕ) : Type 0 where
  pub distinct : IsDistinct N
  pub from : (x : ℕ) → In x N → (is_live ends touches x ≡ true) × (k : ℕ) × (k < i) × (item_at keys k ≡ x)
  pub all : (k : ℕ) → k < i → is_live ends touches (item_at keys k) ≡ true → In (item_at keys k) N

-- the items at the first i places are taken
pub record IsUnderWay (g : Graph) (touches : List Touch) (price : ℕ → ℕ) (keys : List (ℕ × ℕ)) (i : ℕ) (a : Assignment) (since : List ℕ) (raised : List Bool) : Type 0 where
  pub since_count : length since ≡ length touches
  pub raised_count : length raised ≡ length touches
  pub bounded : (m : ℕ) → since_at since m ≤ never
  pub standing : StandsWithKnown g touches a since
  pub held : AreHeld g touches price a
  pub taken : (N : List ℕ) → AreFirst g.ends touches keys i N → IsTakenAt g touches N a since
  pub chosen : (k : ℕ) → k < i → has_flag raised (item_at keys k) ≡ is_chosen g.vertices g.ends touches price (item_at keys k)
  pub untouched : (k : ℕ) → i ≤ k → k < length touches → has_flag raised (item_at keys k) ≡ false
  pub reached : (m : ℕ) → is_known since m ≡ true → (k : ℕ) × (k < i) × (since_at since m ≡ price (item_at keys k))
  pub known : (t m : ℕ) → t ≤ never → ((k : ℕ) → i ≤ k → k < length touches → t ≤ price (item_at keys k))
      → nat_lt (since_at since m) t ≡ is_listed_at g.vertices g.ends touches price t m

-- the price is kept from which on each item isn't critical: those with one below t are the own items of t
abbrev pub AreKnown : Graph → List Touch → (ℕ → ℕ) → List ℕ → Type 0
AreKnown g touches price since = (t m : ℕ) → t ≤ never → nat_lt (since_at since m) t ≡ is_listed_at g.vertices g.ends touches price t m

-- all items are taken: the chosen ones are raised, they alone have pairs, and from which price on each isn't critical is known
pub record AreTaken (g : Graph) (touches : List Touch) (price : ℕ → ℕ) (a : Assignment) (since : List ℕ) (raised : List Bool) : Type 0 where
  pub taken : IsTakenAt g touches (live_items g.ends touches) a since
  pub chosen : (m : ℕ) → m < length touches → has_flag raised m ≡ is_chosen g.vertices g.ends touches price m
  pub held : AreHeld g touches price a
  pub known : AreKnown g touches price since

-- whether the flag of the candidate at a position is set
abbrev pub is_raised : List Bool → ℕ → ℕ → Bool
is_raised raised meters k = has_flag raised (meters + k)
