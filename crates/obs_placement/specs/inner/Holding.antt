-- What is known of items while they are taken, with flags and counts of what those touch which are known not to be
-- critical.
use Rattle.std.specs.Prelude.{◌≡◌, ℕ, ◌≤◌, ◌<◌, Bool, true, false, Option, List, ◌∷◌, length, replicate, slice_index_or, take}
use Rattle.obs_graph.specs.declared.Ends.{Ends}
use Rattle.obs_graph.specs.Graph.{Graph}
use Rattle.obs_graph.specs.Positions.{branches_at}
use Rattle.obs_matroid.specs.Lists.{In}
use Rattle.obs_meter.specs.declared.Touch.{Touch}
use Rattle.obs_meter.specs.inner.Sizes.{Sizes}
use Rattle.obs_meter.specs.Touches.{is_live, touch_at}
use Rattle.obs_assign.specs.Assignment.{Assignment}
use Rattle.obs_assign.specs.inner.Assignment.{has_flag}
use Rattle.obs_placement.specs.declared.offer.Offer.{Offer}
use Rattle.obs_placement.specs.inner.Offer.{earlier_in, is_chosen_in, price_in}
use Rattle.obs_placement.specs.inner.Taking.{AreAdded, AreHeld, AreTaken, IsTakenAt, IsUnderWay, StandsWithKnown, is_known, never, since_at}

-- by item the price from which on it isn't critical, by branch a flag, by vertex a count, and the sizes that there is
-- room for
pub record Known : Type 0 where
  pub since : List ℕ
  pub touched : List Bool
  pub fronts : List ℕ
  pub sizes : Sizes

-- no item of the offer is known, no flag is set, and nothing is counted
abbrev pub nothing_known : Known → Offer → Known
nothing_known k o =
    record k {
      since = replicate (length o.items.now.touches) never;
      touched = replicate (length o.graph.now.ends) false;
      fronts = replicate o.graph.now.vertices 0;
    }

-- some item that is known not to be critical touches the branch e
abbrev pub IsTouchedByKnown : List (Option Ends) → List Touch → List ℕ → ℕ → Type 0
IsTouchedByKnown ends touches since e = (m : ℕ) × (is_known since m ≡ true) × In e (touch_at ends touches m)

-- there is a flag for each branch, and a known item touches those whose flag is set
pub record AreTouchedByKnown (g : Graph) (touches : List Touch) (since : List ℕ) (flags : List Bool) : Type 0 where
  pub count : length flags ≡ length g.ends
  pub known : (e : ℕ) → has_flag flags e ≡ true → IsTouchedByKnown g.ends touches since e

-- there is a count for each vertex, and known items touch so many of the first branches there
pub record AreFrontsOfKnown (g : Graph) (touches : List Touch) (since : List ℕ) (counts : List ℕ) : Type 0 where
  pub count : length counts ≡ g.vertices
  pub known : (v e : ℕ) → In e (take (slice_index_or counts v 0) (branches_at g.ends v)) → IsTouchedByKnown g.ends touches since e

-- known items touch what the flags are set for, and what is counted
pub record AreFlagged (o : Offer) (k : Known) : Type 0 where
  pub touched : AreTouchedByKnown o.graph.now o.items.now.touches k.since k.touched
  pub fronts : AreFrontsOfKnown o.graph.now o.items.now.touches k.since k.fronts

-- the pairs stand beside what is known: only known items are frozen, and known items touch what the flags and counts say
pub record StandsBeside (o : Offer) (a : Assignment) (k : Known) : Type 0 where
  pub count : length k.since ≡ length o.items.now.touches
  pub standing : StandsWithKnown o.graph.now o.items.now.touches a k.since
  pub flags : AreFlagged o k

-- what items are taken in: what is known of them, the pairs of those that were taken, and the sizes that there is room
-- for
pub record Taking : Type 0 where
  pub known : Known
  pub pairs : Assignment
  pub sizes : Sizes

-- the pairs without a frozen one
abbrev pub thawed : Assignment → Assignment
thawed a = record a { frozen = replicate (length a.frozen) false }

-- the items of N are taken: the pairs are a longest assignment of them, of chosen items alone, and stand beside what is
-- known
pub record AreTakenBeside (o : Offer) (N : List ℕ) (t : Taking) : Type 0 where
  pub taken : IsTakenAt o.graph.now o.items.now.touches N t.pairs t.known.since
  pub held : AreHeld o.graph.now o.items.now.touches (price_in o) t.pairs
  pub bounded : (m : ℕ) → since_at t.known.since m ≤ never
  pub beside : StandsBeside o t.pairs t.known

-- a live item of this price is to be taken, and those before it are
pub record IsToTake (o : Offer) (c price : ℕ) (t : Taking) : Type 0 where
  pub low : c < length o.items.now.touches
  pub live : is_live o.graph.now.ends o.items.now.touches c ≡ true
  pub cheap : price < never
  pub before : AreTakenBeside o (earlier_in o c) t

-- it is taken, and the answer is whether it is chosen; of the items that weren't known some are known from this price
-- on
pub record IsTakenNow (o : Offer) (c price : ℕ) (before after : Taking) (answer : Bool) : Type 0 where
  pub taken : AreTakenBeside o (c ∷ earlier_in o c) after
  pub chosen : answer ≡ is_chosen_in o c
  pub added : AreAdded price before.known.since after.known.since

-- the items at the first i places are taken, and known items touch what the flags are set for
pub record GoesOn (o : Offer) (keys : List (ℕ × ℕ)) (i : ℕ) (t : Taking) (raised : List Bool) : Type 0 where
  pub way : IsUnderWay o.graph.now o.items.now.touches (price_in o) keys i t.pairs t.known.since raised
  pub flags : AreFlagged o t.known

-- all items are taken, and the pairs stand
pub record HasEnded (o : Offer) (t : Taking) (raised : List Bool) : Type 0 where
  pub count : length t.known.since ≡ length o.items.now.touches
  pub taken : AreTaken o.graph.now o.items.now.touches (price_in o) t.pairs t.known.since raised
  pub standing : StandsWithKnown o.graph.now o.items.now.touches t.pairs t.known.since
