-- An assignment after moves, after a pair was taken away, and cleared.
use Rattle.std.proofs.Common.{◌≡◌, ℕ, ◌+◌, ◌<◌, ◌≤◌, Bool, false, Option, Some, None, List, [], length, get_or, set, take, refl, sym, ap, ◌∙◌, subst, arith, replicate, length-set}
use Rattle.std.proofs.lemmas.List.{length-take-le, length-replicate}
use Rattle.std.proofs.Math.Seq.{take-set-lt}
use Rattle.obs_graph.specs.declared.Ends.{Ends}
use Rattle.obs_graph.specs.Positions.{IsForestAt}
use Rattle.obs_graph.specs.Graph.{Graph}
use Rattle.obs_graph.proofs.AtPositions.{IsForestAt-among}
use Rattle.obs_matroid.specs.Assignments.{branches}
use Rattle.obs_matroid.specs.inner.Closed.{HasFrozen}
use Rattle.obs_matroid.specs.inner.Slots.{pairs_of}
use Rattle.obs_matroid.proofs.Contained.{Contains-from_In, In-from_Contains, pairs_from_IsDistinct}
use Rattle.obs_matroid.proofs.Slots.{slot_at}
use Rattle.obs_meter.specs.declared.Touch.{Touch}
use Rattle.obs_meter.specs.Assignments.{IsAssignmentAt}
use Rattle.obs_meter.specs.Touches.{every_item}
use Rattle.obs_forest.specs.inner.Forest.{StandsOver as ForestStandsOver}
use Rattle.obs_forest.proofs.Refilled.{StandsOver-taken}
use Rattle.obs_assign.specs.declared.Move.{Move}
use Rattle.obs_assign.specs.Assignment.{Assignment}
use Rattle.obs_assign.specs.inner.Assignment.{IsWhole, StandsOver, has_flag, pairs}
use Rattle.obs_assign.specs.inner.Kept.{Kept, SlotsApart, seen, with_slots}
use Rattle.obs_assign.specs.inner.Moves.{ArePath, moved}
use Rattle.obs_assign.proofs.Slotted.{IsForestAt-over, branch_slot, distinct-from_apart, none_some, slot_branch, slots_apart}
use Rattle.obs_assign.proofs.Keeping.{HasFrozen-clear, HasFrozen-dropped, HasFrozen-moved, IsForestAt-empty, IsWhole-remade, StandsOver-remade, empty_pairs, empty_slot, length-moved, length-path, slot_without}

abbrev pub HF : List Bool → List (Option ℕ) → Type 0
HF flags s = HasFrozen (has_flag flags) (pairs_of s)

-- the new assignment after the moves of a path
pub record IsMoved (now : Assignment) (path : List Move) (g : Graph) (touches : List Touch) (new : Assignment) : Type 0 where
  pub slots_are : new.slots ≡ moved path now.slots
  pub frozen_are : new.frozen ≡ now.frozen
  pub longer : length (pairs new) ≡ length (pairs now) + 1
  pub stands : StandsOver new g touches
  pub whole : IsWhole new

pub IsMoved-made : (now : Assignment) (path : List Move) (g : Graph) (touches : List Touch) (k : Kept) (frozen : List Bool) (turns after_turns : ℕ)
    → seen k frozen turns ≡ now → IsWhole (seen k frozen turns) → length frozen ≡ k.most_meters
    → StandsOver now g touches → ArePath now path → IsAssignmentAt g.ends touches (every_item touches) (pairs_of (moved path now.slots))
    → IsMoved now path g touches (seen (with_slots k g (moved path k.slots)) frozen after_turns)
IsMoved-made now path g touches k frozen turns after_turns is whole flags =
    subst (λ (a : Assignment). StandsOver a g touches → ArePath a path → IsAssignmentAt g.ends touches (every_item touches) (pairs_of (moved path a.slots))
    → IsMoved a path g touches (seen (with_slots k g (moved path k.slots)) frozen after_turns)) is (λ stands h assigns.
    let new = moved path k.slots in
    let len = length-moved path k.slots in
    let sv = stands.forest.vertices in
    let sp = stands.forest.positions in
    let wm = whole.meters in
    let wv = whole.vertices in
    let wp = whole.positions in
    let sm = stands.meters in
    let has = HasFrozen-moved (take (length k.slots) frozen) path k.slots whole.paired.frozen_have in
    record {
      slots_are = refl;
      frozen_are = ap (λ (n : ℕ). take n frozen) len;
      longer = length-path (seen k frozen turns) path h;
      stands = StandsOver-remade k g new frozen after_turns assigns.forest touches (omega arith) (λ m e s. assigns.touched (m, e) (slot_at new m e s));
      whole = IsWhole-remade k g new frozen after_turns assigns.forest (omega arith) (omega arith) (omega arith) (omega arith) (subst (λ (n : ℕ). HF (take n frozen) new) (sym len) has);
    })

-- the branches of a part of the pairs are a forest
pub forest_within : (ends : List (Option Ends)) (slots new : List (Option ℕ)) → ((m e : ℕ) → get_or new m None ≡ Some e → get_or slots m None ≡ Some e) → IsForestAt ends (branches (pairs_of slots))
    → IsForestAt ends (branches (pairs_of new))
forest_within ends slots new within f =
    let L = branches (pairs_of slots) in
    let K = branches (pairs_of new) in
    let apart : SlotsApart new = λ k n e h j. slots_apart ends slots f k n e (within k e h) (within n e j) in
    IsForestAt-among ends L K f (λ q c. let s = branch_slot new q (In-from_Contains q K c) in Contains-from_In q L (slot_branch slots s.0 q (within s.0 q s.1)))
    (pairs_from_IsDistinct K (distinct-from_apart new apart))

-- the branches without those of a meter are a forest
pub forest_dropped : (ends : List (Option Ends)) (slots : List (Option ℕ)) (m : ℕ) → IsForestAt ends (branches (pairs_of slots)) → IsForestAt ends (branches (pairs_of (set slots m None)))
forest_dropped ends slots m f = forest_within ends slots (set slots m None) (λ k e h. (slot_without slots m k e h).1) f

pub record IsDropped (now : Assignment) (m : ℕ) (g : Graph) (new : Assignment) : Type 0 where
  pub slots_are : new.slots ≡ set now.slots m None
  pub frozen_are : new.frozen ≡ set now.frozen m false
  pub forest : ForestStandsOver new.forest g
  pub stands : (touches : List Touch) → StandsOver now g touches → StandsOver new g touches
  pub whole : IsWhole new

pub IsDropped-made : (now : Assignment) (m : ℕ) (g : Graph) (k : Kept) (frozen : List Bool) (turns : ℕ)
    → seen k frozen turns ≡ now → IsWhole (seen k frozen turns) → length frozen ≡ k.most_meters → ForestStandsOver now.forest g → m < length now.slots
    → IsDropped now m g (seen (with_slots k g (set k.slots m None)) (set frozen m false) turns)
IsDropped-made now m g k frozen turns is whole flags =
    subst (λ (a : Assignment). ForestStandsOver a.forest g → m < length a.slots → IsDropped a m g (seen (with_slots k g (set k.slots m None)) (set frozen m false) turns)) is (λ stands lm.
    let n = length k.slots in
    let new = set k.slots m None in
    let len = length-set k.slots m None in
    let lf = length-set frozen m false in
    let f = forest_dropped g.ends k.slots m (IsForestAt-over k.forest.held g.ends (branches (pairs_of k.slots)) stands.held whole.paired.holds.forest) in
    let cut : take n (set frozen m false) ≡ set (take n frozen) m false = take-set-lt n frozen m false lm in
    let cut_new : take (length new) (set frozen m false) ≡ set (take n frozen) m false = ap (λ (i : ℕ). take i (set frozen m false)) len ∙ cut in
    let sv = stands.vertices in
    let sp = stands.positions in
    let wm = whole.meters in
    let wv = whole.vertices in
    let wp = whole.positions in
    let has = HasFrozen-dropped (take n frozen) k.slots m (let lt = length-take-le n frozen (omega arith) in omega arith) whole.paired.frozen_have in
    record {
      slots_are = refl;
      frozen_are = cut_new;
      forest = StandsOver-taken k.forest g (branches (pairs_of new));
      stands = λ touches s. let sm = s.meters in
          StandsOver-remade k g new (set frozen m false) turns f touches (omega arith) (λ i e h. s.touched i e (slot_without k.slots m i e h).1);
      whole = IsWhole-remade k g new (set frozen m false) turns f (omega arith) (omega arith) (omega arith) (omega arith)
          (subst (λ (fl : List Bool). HasFrozen (has_flag fl) (pairs_of new)) (sym cut_new) has);
    })

pub record IsCleared (g : Graph) (touches : List Touch) (new : Assignment) : Type 0 where
  pub no_pair : pairs new ≡ []
  pub stands : StandsOver new g touches
  pub whole : IsWhole new

pub IsCleared-made : (g : Graph) (touches : List Touch) (k : Kept) (n turns : ℕ) → length touches ≤ k.most_meters → n ≡ k.most_meters → g.vertices ≤ k.forest.most_vertices → length g.ends ≤ k.forest.most_branches
    → IsCleared g touches (seen (with_slots k g (replicate (length touches) None)) (replicate n false) turns)
IsCleared-made g touches k n turns low same v b =
    let new = replicate {A = Option ℕ} (length touches) None in
    let len : length new ≡ length touches = length-replicate {A = Option ℕ} (length touches) None in
    let flags = length-replicate n false in
    let f = IsForestAt-empty g.ends (length touches) in
    record {
      no_pair = empty_pairs (length touches);
      stands = StandsOver-remade k g new (replicate n false) turns f touches (sym len) (λ j e h. absurd (none_some e (sym (empty_slot (length touches) j) ∙ h)));
      whole = IsWhole-remade k g new (replicate n false) turns f (omega arith) (omega arith) v b (HasFrozen-clear (length new) n (pairs_of new));
    }
