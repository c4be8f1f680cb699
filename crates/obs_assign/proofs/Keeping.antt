-- What an assignment keeps when its pairs have changed.
use Rattle.std.proofs.Common.{◌≡◌, ◌≢◌, ℕ, zero, suc, ◌+◌, ◌<◌, ◌≤◌, Bool, false, Option, Some, None, List, [], ◌∷◌, length, get_or, set, take, refl, sym, ap, ◌∙◌, subst, inl, inr, arith, replicate, length-set, get_or-set_same, get_or-set_other}
use Rattle.std.specs.Prelude.{All, IfSome}
use Rattle.std.specs.List.{AllPairs}
use Rattle.std.proofs.lemmas.Bool.{cases_eq, cases_lt}
use Rattle.std.proofs.lemmas.List.{get_or-take, get_or-replicate, get_or_past, length-take, length-take-le, take-replicate, length-replicate}
use Rattle.obs_graph.specs.declared.Ends.{Ends}
use Rattle.obs_graph.specs.Positions.{IsForestAt}
use Rattle.obs_graph.specs.Graph.{Graph}
use Rattle.obs_matroid.specs.Lists.{In}
use Rattle.obs_matroid.specs.Assignments.{Pair, branches}
use Rattle.obs_matroid.specs.inner.Closed.{HasFrozen}
use Rattle.obs_matroid.specs.inner.Slots.{pairs_from, pairs_of}
use Rattle.obs_matroid.proofs.Contained.{Contains-from_In, In-from_All, In-from_Contains}
use Rattle.obs_matroid.proofs.Lists.{clash}
use Rattle.obs_meter.specs.declared.Touch.{Touch}
use Rattle.obs_meter.specs.Touches.{touch_at}
use Rattle.obs_forest.specs.Forest.{Forest}
use Rattle.obs_forest.specs.inner.Forest.{taken}
use Rattle.obs_forest.specs.inner.Forest.{StandsOver as ForestStandsOver}
use Rattle.obs_forest.proofs.Keeping.{taken-exactly}
use Rattle.obs_forest.proofs.Refilled.{StandsOver-taken}
use Rattle.obs_assign.specs.declared.Move.{Move}
use Rattle.obs_assign.specs.Assignment.{Assignment}
use Rattle.obs_assign.specs.inner.Assignment.{HasRoomOf, HoldsPairs, IsWhole, StandsOver, has_flag, pairs}
use Rattle.obs_assign.specs.inner.Kept.{HasArrays, IsInverse, IsListed, Kept, seen, with_slots}
use Rattle.obs_assign.specs.inner.Moves.{ArePath, moved}
use Rattle.obs_assign.proofs.Slotted.{HoldsPairs-taken, IsForestAt-nil, item_slot, none_some, slot_item, slot_low}
use Rattle.obs_assign.proofs.Moving.{length-moved_path, moved-some}

-- the forest holds the branches at such a list
pub held_listed : (f : Forest) (g : Graph) (slots : List (Option ℕ)) (list : List ℕ) → ForestStandsOver f g → HoldsPairs slots f.held → IsListed slots list → f.held ≡ taken g.ends list
held_listed f g slots list stands holds listed =
    taken-exactly g.ends f.held list (sym stands.positions) stands.held (λ p. (
      (λ s. Contains-from_In p list ((listed.exactly p).1 ((holds.exactly p).0 s))),
      (λ i. (holds.exactly p).1 ((listed.exactly p).0 (In-from_Contains p list i))),
    ))

module _ (k : Kept) (g : Graph) (slots : List (Option ℕ)) (frozen : List Bool) (turns : ℕ) (f : IsForestAt g.ends (branches (pairs_of slots))) where
  pub IsWhole-remade : length slots ≤ k.most_meters → length slots ≤ length frozen → g.vertices ≤ k.forest.most_vertices → length g.ends ≤ k.forest.most_branches
      → HasFrozen (has_flag (take (length slots) frozen)) (pairs_of slots) → IsWhole (seen (with_slots k g slots) frozen turns)
  IsWhole-remade low flags v b has =
      let positions = (StandsOver-taken k.forest g (branches (pairs_of slots))).positions in
      record {
        paired = record { flags = length-take-le (length slots) frozen flags; holds = HoldsPairs-taken g.ends slots f; frozen_have = has };
        meters = low;
        vertices = v;
        positions = omega arith;
      }

  pub StandsOver-remade : (touches : List Touch) → length touches ≡ length slots → ((m e : ℕ) → get_or slots m None ≡ Some e → In e (touch_at g.ends touches m)) → StandsOver (seen (with_slots k g slots) frozen turns) g touches
  StandsOver-remade touches n t = record { forest = StandsOver-taken k.forest g (branches (pairs_of slots)); meters = n; touched = t }

-- no slot, no pair
none_pairs : (n : ℕ) (slots : List (Option ℕ)) → ((k : ℕ) → get_or slots k None ≡ None) → pairs_from n slots ≡ []
none_pairs n [] h = refl
none_pairs n (None ∷ slots) h = none_pairs (suc n) slots (λ k. h (suc k))
none_pairs n (Some e ∷ slots) h = absurd (none_some e (sym (h 0)))

pub replicate_at : {X : Type 0} (n k : ℕ) (x : X) → get_or (replicate n x) k x ≡ x
replicate_at n k x = elim (cases_lt k n) [ inl l ↦ get_or-replicate n k x x l | inr l ↦ get_or_past (replicate n x) k x (let e = length-replicate n x in omega arith) ]

pub empty_pairs : (n : ℕ) → pairs_of (replicate n None) ≡ []
empty_pairs n = none_pairs 0 (replicate n None) (λ k. replicate_at n k None)

pub empty_slot : (n k : ℕ) → get_or {A = Option ℕ} (replicate n None) k None ≡ None
empty_slot n k = replicate_at n k None

-- no flag is set after all were cleared
pub flags_clear : (n k : ℕ) → has_flag (replicate n false) k ≡ false
flags_clear zero k = refl
flags_clear (suc n) zero = refl
flags_clear (suc n) (suc k) = flags_clear n k

pub clear_flag : (n m k : ℕ) → has_flag (take n (replicate m false)) k ≡ false
clear_flag n m k = elim (cases_lt k n) [
  | inl l ↦ get_or-take n (replicate m false) k false l ∙ flags_clear m k
  | inr l ↦ get_or_past (take n (replicate m false)) k false (let e = length-take n (replicate m false) in omega arith)
]

pub IsForestAt-empty : (ends : List (Option Ends)) (n : ℕ) → IsForestAt ends (branches (pairs_of (replicate n None)))
IsForestAt-empty ends n = subst (λ (A : List Pair). IsForestAt ends (branches A)) (sym (empty_pairs n)) (IsForestAt-nil ends)

pub HasFrozen-clear : (n m : ℕ) (A : List Pair) → HasFrozen (has_flag (take n (replicate m false))) A
HasFrozen-clear n m A = λ k t. clash t (clear_flag n m k)

-- the moves of a path
pub path_low : (a : Assignment) (path : List Move) → ArePath a path → (x : Move) → In x path → x.meter < length a.slots
path_low a [] h x i = absurd i
path_low a (first ∷ rest) h x i = In-from_All (λ (y : Move). y.meter < length a.slots) (first ∷ rest) h.low x i

pub path_low_all : (a : Assignment) (path : List Move) → ArePath a path → All (λ (x : Move). x.meter < length a.slots) path
path_low_all a [] h = absurd h
path_low_all a (first ∷ rest) h = h.low

pub path_some : (a : Assignment) (path : List Move) → ArePath a path → 0 < length path
path_some a [] h = absurd h
path_some a (first ∷ rest) h = omega arith

pub path_different : (a : Assignment) (path : List Move) → ArePath a path → AllPairs (λ (x y : Move). x.meter ≢ y.meter) path
path_different a [] h = absurd h
path_different a (first ∷ rest) h = h.different

pub length-path : (a : Assignment) (path : List Move) → ArePath a path → length (pairs_of (moved path a.slots)) ≡ length (pairs a) + 1
length-path a [] h = absurd h
length-path a (first ∷ rest) h =
    length-moved_path first rest a.slots (path_low a (first ∷ rest) h first (inl refl)) h.bare (In-from_All (λ (y : Move). get_or a.slots y.meter None ≢ None) rest h.paired)

pub length-moved : (path : List Move) (slots : List (Option ℕ)) → length (moved path slots) ≡ length slots
length-moved [] slots = refl
length-moved (x ∷ path) slots = length-moved path (set slots x.meter (Some x.branch)) ∙ length-set slots x.meter (Some x.branch)

pub HasFrozen-moved : (frozen : List Bool) (path : List Move) (slots : List (Option ℕ)) → HasFrozen (has_flag frozen) (pairs_of slots) → HasFrozen (has_flag frozen) (pairs_of (moved path slots))
HasFrozen-moved frozen path slots h m t =
    let s = item_slot slots m (h m t) in
    let r = moved-some path slots m s.0 s.1 in
    slot_item (moved path slots) m r.0 r.1

-- a pair is taken away
pub slot_without : (slots : List (Option ℕ)) (m k e : ℕ) → get_or (set slots m None) k None ≡ Some e → (k ≡ m → ⊥) × (get_or slots k None ≡ Some e)
slot_without slots m k e h = elim (cases_eq k m) [
  | inl y ↦ absurd (none_some e (sym (gone slots m) ∙ (ap (λ j. get_or (set slots m None) j None) (sym y) ∙ h)))
  | inr n ↦ (n, sym (get_or-set_other slots m k None None n) ∙ h)
]
  where
    gone : (slots : List (Option ℕ)) (m : ℕ) → get_or (set slots m None) m None ≡ None
    gone slots m = elim (cases_lt m (length slots)) [
      | inl l ↦ get_or-set_same slots m None None l
      | inr l ↦ get_or_past (set slots m None) m None (omega (arith, l, length-set slots m None))
    ]

pub HasFrozen-dropped : (frozen : List Bool) (slots : List (Option ℕ)) (m : ℕ) → m < length frozen → HasFrozen (has_flag frozen) (pairs_of slots) → HasFrozen (has_flag (set frozen m false)) (pairs_of (set slots m None))
HasFrozen-dropped frozen slots m l h k t = elim (cases_eq k m) [
  | inl y ↦ clash t (ap (λ j. get_or (set frozen m false) j false) y ∙ get_or-set_same frozen m false false l)
  | inr n ↦
      let s = item_slot slots k (h k (sym (get_or-set_other frozen m k false false n) ∙ t)) in
      slot_item (set slots m None) k s.0 (get_or-set_other slots m k None None n ∙ s.1)
]

-- thawed, with the pairs as they are
pub seen-thawed : (k : Kept) (frozen new : List Bool) (turns : ℕ) (now : Assignment) → seen k frozen turns ≡ now → length k.slots ≤ length frozen
    → new ≡ replicate (length frozen) false → seen k new turns ≡ record now { frozen = replicate (length now.frozen) false }
seen-thawed k frozen new turns now is low new_is =
    let n = length k.slots in
    let flags : take n new ≡ replicate (length (take n frozen)) false =
    ap (take n) new_is ∙ (take-replicate n (length frozen) false low ∙ ap (λ i. replicate i false) (sym (length-take-le n frozen low))) in
    subst (λ (a : Assignment). seen k new turns ≡ record a { frozen = replicate (length a.frozen) false }) is
    (ap (λ (fs : List Bool). let a : Assignment = record { slots = k.slots; frozen = fs; turns = turns; forest = k.forest; most_meters = k.most_meters } in a) flags)

-- the meter of a branch is one of the slots
pub owner_low : (slots owners : List (Option ℕ)) (o : Option ℕ) (e : ℕ) → IsInverse slots owners → get_or owners e None ≡ o → IfSome o (λ m. m < length slots)
owner_low slots owners None e inverse is = tt
owner_low slots owners (Some m) e inverse is = slot_low slots m e ((inverse m e).1 is)

-- the arrays have the room that they had
pub HasArrays-same : (a b : Assignment) (f p c s f2 p2 c2 s2 : ℕ) → HasArrays a f p c s → IsWhole b → HasRoomOf a b → f2 ≡ f → p2 ≡ p → c2 ≡ c → s2 ≡ s → HasArrays b f2 p2 c2 s2
HasArrays-same a b f p c s f2 p2 c2 s2 h whole room ff pp cc2 ss = record {
  whole = whole;
  frozen_len = ff ∙ (h.frozen_len ∙ sym room.meters);
  path_len = pp ∙ (h.path_len ∙ sym room.vertices);
  remaining_len = cc2 ∙ (h.remaining_len ∙ sym room.branches);
  search_len = ss ∙ (h.search_len ∙ sym room.vertices);
}
