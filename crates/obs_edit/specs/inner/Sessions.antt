-- What is true of the answers that a session keeps, and the room for them.
use Rattle.std.specs.Prelude.{◌≡◌, ℕ, ◌≤◌, Bool, true, Some, List, length}
use Rattle.obs_case.specs.Tables.{Tables, prices_of}
use Rattle.obs_assign.specs.Assignment.{Assignment}
use Rattle.obs_assign.specs.inner.Assignment.{StandsOver, pairs}
use Rattle.obs_critical.specs.inner.Listed.{CriticalWork}
use Rattle.obs_islands.specs.inner.IslandWork.{IslandWork}
use Rattle.obs_network.specs.Network.{case_offered, network_of}
use Rattle.obs_repair.specs.Bounds.{bound_meters, bound_outside, bound_rank, case_critical_meters}
use Rattle.obs_repair.specs.inner.Bounds.{AreMarks}
use Rattle.obs_edit.specs.Answers.{case_first_pairs, case_islands}
use Rattle.obs_repair.specs.inner.Kept.{case_room}
use Rattle.obs_edit.specs.Planned.{case_placed_pairs, case_placement}
use Rattle.obs_edit.specs.inner.Planned.{Planning, offered_room}
use Rattle.obs_edit.specs.declared.hand.AtHand.{AtHand}

-- the list of a bound, the rank of what it touches, and the number of the component's other live meters
pub record BoundOf : Type 0 where
  pub inside : List ℕ
  pub rank : ℕ
  pub outside : ℕ

-- the bound of a component of a case
abbrev pub case_bound : Tables → ℕ → BoundOf
case_bound t c = record { inside = bound_meters t c; rank = bound_rank t c; outside = bound_outside t c }

-- there is room for the answers to a case: flags and lists of meters, and islands
pub record HasRoomToAnswer (t : Tables) (flags : List Bool) (listing : CriticalWork) (found : IslandWork) (list : List ℕ) (listed : ℕ) : Type 0 where
  pub flags_len : length flags ≡ length t.meters
  pub listing_room : listing.most_meters ≡ length t.meters
  pub islands_room : found.sizes ≡ case_room t
  pub list_len : length list ≡ length t.meters
  pub within : listed ≤ length list

-- what is said to be at hand is the answer to the case
pub record AreAnswers (t : Tables) (a : Assignment) (flags : List Bool) (listing : CriticalWork) (found : IslandWork) (measured : BoundOf) (hand : AtHand) : Type 0 where
  pub first : hand.first ≡ true → pairs a ≡ case_first_pairs t
  pub marks : hand.critical ≡ true → AreMarks t flags
  pub critical : hand.critical ≡ true → listing.list ≡ case_critical_meters t
  pub islands : hand.islands ≡ true → found.firsts ≡ case_islands t
  pub bound : (c : ℕ) → hand.bound ≡ Some c → measured ≡ case_bound t c

-- a placement is of these prices, and where candidates were given of these sizes; where it is said to be at hand it is the one
-- of the case, with its pairs
pub record IsPlacing (t : Tables) (offered at_hand : Bool) (p : Planning) : Type 0 where
  pub prices : p.prices ≡ prices_of t.candidates
  pub sizes : offered ≡ true → p.sizes ≡ offered_room t
  pub placed : at_hand ≡ true → p.placed ≡ case_placement t
  pub pairs : at_hand ≡ true → pairs p.pairs ≡ case_placed_pairs t
  pub stands : at_hand ≡ true → StandsOver p.pairs (network_of t).graph (case_offered t)
