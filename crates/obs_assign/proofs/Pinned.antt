-- An assignment after a pin, and after the pairs were carried over.
use Rattle.std.proofs.Common.{◌≡◌, ℕ, zero, suc, ◌+◌, ◌<◌, ◌≤◌, Bool, true, false, Option, Some, None, List, [], ◌∷◌, length, get_or, set, take, refl, sym, ap, ◌∙◌, subst, inl, inr, arith, replicate, length-set, get_or-set_other}
use Rattle.std.proofs.lemmas.Bool.{cases_eq}
use Rattle.std.proofs.lemmas.List.{length-replicate}
use Rattle.std.proofs.Math.Seq.{take-set-lt}
use Rattle.obs_graph.specs.Positions.{AreBranches, IsForestAt}
use Rattle.obs_graph.specs.Graph.{Graph}
use Rattle.obs_matroid.specs.Lists.{In, other_than}
use Rattle.obs_matroid.specs.Assignments.{branches}
use Rattle.obs_matroid.specs.inner.Assignments.{others, part}
use Rattle.obs_matroid.specs.inner.Closed.{HasFrozen}
use Rattle.obs_matroid.specs.inner.Exchange.{pinned}
use Rattle.obs_matroid.specs.inner.Slots.{pairs_from, pairs_of}
use Rattle.obs_matroid.proofs.Lists.{clash, other_true}
use Rattle.obs_matroid.proofs.Order.{independent_within}
use Rattle.obs_matroid.proofs.Pairs.{In-branches, In-part, own}
use Rattle.obs_matroid.proofs.Pin.{pinned_by}
use Rattle.obs_matroid.proofs.Slots.{IsDistinct-slots, pair_from_parts, slot_at, slot_from}
use Rattle.obs_meter.specs.declared.Touch.{Touch}
use Rattle.obs_meter.specs.Touches.{every_item, touch_at}
use Rattle.obs_meter.specs.Spanned.{graph_matroid}
use Rattle.obs_meter.proofs.Assigned.{forest_at-from_independent, independent-from_forest_at, to_matroid}
use Rattle.obs_meter.proofs.Instance.{IsMatroid-graph}
use Rattle.obs_meter.proofs.Live.{In-every}
use Rattle.obs_assign.specs.Assignment.{Assignment}
use Rattle.obs_assign.specs.inner.Assignment.{IsWhole, StandsOver, has_flag, is_frozen, pairs}
use Rattle.obs_assign.specs.inner.Kept.{Kept, seen, with_slots}
use Rattle.obs_assign.specs.inner.Pins.{IsPinnedAt, pinned_slots}
use Rattle.obs_assign.specs.inner.Spare.{IsSpare}
use Rattle.obs_assign.specs.inner.Still.{AreRetained}
use Rattle.obs_assign.proofs.Slotted.{IsForestAt-over, item_slot, slot_item}
use Rattle.obs_assign.proofs.Moving.{length-put_bare, length-put_paired}
use Rattle.obs_assign.proofs.Pinning.{pinned-at, pinned-from, pinned-other}
use Rattle.obs_assign.proofs.Paths.{joins-own}
use Rattle.obs_assign.proofs.Standing.{IsAssignmentAt-standing, still_from}
use Rattle.obs_assign.proofs.Keeping.{HasFrozen-clear, IsWhole-remade, StandsOver-remade, clear_flag}

-- fewer pairs without a slot, and at most one more with another
count_gone : (n : ℕ) (slots : List (Option ℕ)) (x : ℕ) → length (pairs_from n (set slots x None)) ≤ length (pairs_from n slots)
count_gone n [] x = omega arith
count_gone n (None ∷ slots) zero = omega arith
count_gone n (None ∷ slots) (suc x) = count_gone (suc n) slots x
count_gone n (Some e ∷ slots) zero = omega arith
count_gone n (Some e ∷ slots) (suc x) = let h = count_gone (suc n) slots x in omega arith

-- and at most one fewer
count_left : (n : ℕ) (slots : List (Option ℕ)) (x : ℕ) → length (pairs_from n slots) ≤ length (pairs_from n (set slots x None)) + 1
count_left n [] x = omega arith
count_left n (None ∷ slots) zero = omega arith
count_left n (None ∷ slots) (suc x) = count_left (suc n) slots x
count_left n (Some e ∷ slots) zero = omega arith
count_left n (Some e ∷ slots) (suc x) = let h = count_left (suc n) slots x in omega (arith, h)

pub length-left : (slots : List (Option ℕ)) (x : ℕ) → length (pairs_of slots) ≤ length (pairs_of (set slots x None)) + 1
length-left slots x = count_left 0 slots x

put_bound : (slots : List (Option ℕ)) (m e : ℕ) (o : Option ℕ) → m < length slots → get_or slots m None ≡ o → length (pairs_of (set slots m (Some e))) ≤ length (pairs_of slots) + 1
put_bound slots m e None l h = omega (arith, length-put_bare slots m e l h)
put_bound slots m e (Some f) l h = omega (arith, length-put_paired slots m e f h)

pub length-pinned : (slots : List (Option ℕ)) (m e x : ℕ) → m < length slots → length (pairs_of (pinned_slots slots m e x)) ≤ length (pairs_of slots) + 1
length-pinned slots m e x l =
    let a = put_bound (set slots x None) m e (get_or (set slots x None) m None) (omega (arith, l, length-set slots x None)) refl in
    omega (arith, a, count_gone 0 slots x)

-- no fewer, where the pinned meter has no pair once x has given up its own
pub length-pinned_bare : (slots : List (Option ℕ)) (m e x : ℕ) → m < length slots → get_or (set slots x None) m None ≡ None → length (pairs_of slots) ≤ length (pairs_of (pinned_slots slots m e x))
length-pinned_bare slots m e x l none =
    let a = length-put_bare (set slots x None) m e (omega (arith, l, length-set slots x None)) none in
    omega (arith, a, length-left slots x)

module _ (n : ℕ) (g : Graph) (touches : List Touch) (a : Assignment) (ok : AreBranches n g.ends) (whole : IsWhole a) (stands : StandsOver a g touches) (m e x : ℕ)
    (low : m < length a.slots) (touched : In e (touch_at g.ends touches m)) (thawed : is_frozen a m ≡ false) (spare : IsSpare g.ends a.slots a.frozen m e x) where
  forest_now : IsForestAt g.ends (branches (pairs a))
  forest_now = IsForestAt-over a.forest.held g.ends (branches (pairs a)) stands.forest.held whole.paired.holds.forest

  -- the branches after the pin are a forest
  pub forest_pinned : IsForestAt g.ends (branches (pairs_of (pinned_slots a.slots m e x)))
  forest_pinned =
      let mat = graph_matroid n g.ends in
      let laws = IsMatroid-graph n g.ends ok in
      let A = to_matroid n g.ends touches (every_item touches) (pairs a) (IsAssignmentAt-standing a g touches whole stands) in
      let p = pinned_by mat laws (touch_at g.ends touches) (every_item touches) (is_frozen a) (pairs a) m e A (In-every touches m (let s = stands.meters in omega arith)) touched thawed x spare.thawed spare.apart in
      forest_at-from_independent n g.ends (branches (pairs_of (pinned_slots a.slots m e x)))
      (independent_within mat laws (pinned (pairs a) m e x) (pairs_of (pinned_slots a.slots m e x)) p.assigns.independent p.assigns.different (IsDistinct-slots (pinned_slots a.slots m e x))
      (λ q i. elim (pinned-from a.slots m e x low q.0 q.1 (slot_from (pinned_slots a.slots m e x) q i)) [
        | inl b ↦ inl (pair_from_parts q m e b.0 b.1)
        | inr b ↦ inr (In-part (other_than m) (part (other_than x) (pairs a)) q (In-part (other_than x) (pairs a) q (slot_at a.slots q.0 q.1 b.2) (other_true x q.0 b.1)) (other_true m q.0 b.0))
      ]))

  -- who had the branch gives up its pair
  pub spare_owner : (y : ℕ) → get_or a.slots y None ≡ Some e → y ≡ x
  spare_owner y h = elim (cases_eq y x) [
    | inl s ↦ s
    | inr d ↦ elim (cases_eq y m) [
      | inl s ↦ elim spare.needed [
        | inl t ↦ s ∙ sym t
        | inr t ↦ clash t (own (graph_matroid n g.ends) (IsMatroid-graph n g.ends ok) (pairs a) (m, e) (independent-from_forest_at n g.ends (branches (pairs a)) forest_now) (IsDistinct-slots a.slots)
            (slot_at a.slots m e (ap (λ k. get_or a.slots k None) (sym s) ∙ h)))
      ]
      | inr k ↦ clash (joins-own g.ends (others (part (other_than m) (pairs a)) x) e
          (In-branches (part (other_than x) (part (other_than m) (pairs a))) (y, e)
          (In-part (other_than x) (part (other_than m) (pairs a)) (y, e) (In-part (other_than m) (pairs a) (y, e) (slot_at a.slots y e h) (other_true m y k)) (other_true x y d)))) spare.apart
    ]
  ]

  pub HasFrozen-pinned : HasFrozen (has_flag (set a.frozen m true)) (pairs_of (pinned_slots a.slots m e x))
  HasFrozen-pinned k t = elim (cases_eq k m) [
    | inl y ↦ slot_item (pinned_slots a.slots m e x) k e (ap (λ i. get_or (pinned_slots a.slots m e x) i None) y ∙ pinned-at a.slots m e x low)
    | inr d ↦
        let was : has_flag a.frozen k ≡ true = sym (get_or-set_other a.frozen m k true false d) ∙ t in
        let s = item_slot a.slots k (whole.paired.frozen_have k was) in
        slot_item (pinned_slots a.slots m e x) k s.0 (pinned-other a.slots m e x low k d (λ y. clash was (ap (has_flag a.frozen) y ∙ spare.thawed)) ∙ s.1)
  ]

  pub touched_pinned : (k f : ℕ) → get_or (pinned_slots a.slots m e x) k None ≡ Some f → In f (touch_at g.ends touches k)
  touched_pinned k f h = elim (pinned-from a.slots m e x low k f h) [
    | inl b ↦ subst (λ (j : ℕ). In f (touch_at g.ends touches j)) (sym b.0) (subst (λ (j : ℕ). In j (touch_at g.ends touches m)) (sym b.1) touched)
    | inr b ↦ stands.touched k f b.2
  ]

pub record IsPinnedNew (now : Assignment) (g : Graph) (touches : List Touch) (m e x : ℕ) (new : Assignment) : Type 0 where
  pub pinned_is : IsPinnedAt now g.ends m e new.slots x
  pub frozen_is : new.frozen ≡ set now.frozen m true
  pub bound : length (pairs new) ≤ length (pairs now) + 1
  pub stands : StandsOver new g touches
  pub whole : IsWhole new

pub IsPinnedNew-made : (n : ℕ) (g : Graph) (touches : List Touch) (k : Kept) (frozen : List Bool) (turns after_turns m e x : ℕ)
    → AreBranches n g.ends → IsWhole (seen k frozen turns) → length frozen ≡ k.most_meters
    → StandsOver (seen k frozen turns) g touches → m < length k.slots → In e (touch_at g.ends touches m)
    → has_flag (take (length k.slots) frozen) m ≡ false → IsSpare g.ends k.slots (take (length k.slots) frozen) m e x
    → IsPinnedNew (seen k frozen turns) g touches m e x (seen (with_slots k g (pinned_slots k.slots m e x)) (set frozen m true) after_turns)
IsPinnedNew-made n g touches k frozen turns after_turns m e x ok whole flags stands lm touched thawed spare =
    let a : Assignment = seen k frozen turns in
    let new = pinned_slots k.slots m e x in
    let len : length new ≡ length k.slots = length-set (set k.slots x None) m (Some e) ∙ length-set k.slots x None in
    let lf = length-set frozen m true in
    let cut : take (length new) (set frozen m true) ≡ set (take (length k.slots) frozen) m true = ap (λ (i : ℕ). take i (set frozen m true)) len ∙ take-set-lt (length k.slots) frozen m true lm in
    let sv = stands.forest.vertices in
    let sp = stands.forest.positions in
    let wm = whole.meters in
    let wv = whole.vertices in
    let wp = whole.positions in
    let sm = stands.meters in
    let f = forest_pinned n g touches a ok whole stands m e x lm touched thawed spare in
    record {
      pinned_is = record { low = spare.low; thawed = spare.thawed; needed = spare.needed; pairs_are = refl };
      frozen_is = cut;
      bound = length-pinned k.slots m e x lm;
      stands = StandsOver-remade k g new (set frozen m true) after_turns f touches (omega arith) (touched_pinned n g touches a ok whole stands m e x lm touched thawed spare);
      whole = IsWhole-remade k g new (set frozen m true) after_turns f (omega arith) (omega arith) (omega arith) (omega arith)
          (subst (λ (fs : List Bool). HasFrozen (has_flag fs) (pairs_of new)) (sym cut) (HasFrozen-pinned n g touches a ok whole stands m e x lm touched thawed spare));
    }

pub record IsCarried (now : Assignment) (g : Graph) (touches : List Touch) (new : Assignment) : Type 0 where
  pub retained : AreRetained g.ends touches (pairs now) (pairs new)
  pub thawed : (m : ℕ) → is_frozen new m ≡ false
  pub stands : StandsOver new g touches
  pub whole : IsWhole new

pub IsCarried-made : (now : Assignment) (g : Graph) (touches : List Touch) (k : Kept) (new : List (Option ℕ)) (frozen : List Bool) (n turns : ℕ)
    → seen k frozen turns ≡ now → IsWhole (seen k frozen turns) → n ≡ k.most_meters → length new ≡ length k.slots → length touches ≡ length now.slots → length g.ends ≡ length now.forest.held → g.vertices ≤ now.forest.most_vertices
    → AreRetained g.ends touches (pairs_of k.slots) (pairs_of new) → IsForestAt g.ends (branches (pairs_of new))
    → IsCarried now g touches (seen (with_slots k g new) (replicate n false) turns)
IsCarried-made now g touches k new frozen n turns is whole n_is len meters positions vertices retained f =
    let len_now = ap (λ (a : Assignment). length a.slots) is in
    let held = ap (λ (a : Assignment). length a.forest.held) is in
    let most_v = ap (λ (a : Assignment). a.forest.most_vertices) is in
    let wm = whole.meters in
    let wp = whole.positions in
    let lk = length-replicate n false in
    record {
      retained = subst (λ (a : Assignment). AreRetained g.ends touches (pairs a) (pairs_of new)) is retained;
      thawed = λ m. clear_flag (length new) n m;
      stands = StandsOver-remade k g new (replicate n false) turns f touches (omega arith)
          (λ m e h. (still_from g.ends touches (pairs_of k.slots) (m, e) (retained.standing (m, e) (slot_at new m e h))).1);
      whole = IsWhole-remade k g new (replicate n false) turns f (omega arith) (omega arith) (omega arith) (omega arith) (HasFrozen-clear (length new) n (pairs_of new));
    }
