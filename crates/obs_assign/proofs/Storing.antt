-- The arrays of kept pairs after a change of their slots.
use Rattle.std.proofs.Common.{◌≡◌, ◌≢◌, ℕ, ◌+◌, ◌-◌, ◌<◌, ◌≤◌, ◌^◌, Option, Some, None, List, [], length, replicate, get_or, set, take, refl, sym, ap, ◌∙◌, subst, ◌↔◌, arith, length-set}
use Rattle.std.proofs.lemmas.List.{get_or-take, length-replicate, length-take-le, take-replicate}
use Rattle.std.proofs.Math.Seq.{take-set-lt}
use Rattle.obs_graph.specs.declared.Ends.{Ends}
use Rattle.obs_graph.specs.Graph.{Graph}
use Rattle.obs_graph.specs.Positions.{IsForestAt}
use Rattle.obs_graph.proofs.AtPositions.{IsForestAt-among}
use Rattle.obs_matroid.specs.Lists.{In, IsDistinct}
use Rattle.obs_matroid.specs.Assignments.{Pair, branches}
use Rattle.obs_matroid.specs.inner.Slots.{pairs_of}
use Rattle.obs_matroid.proofs.Contained.{Contains-from_In, In-from_Contains, pairs_from_IsDistinct}
use Rattle.obs_forest.specs.Forest.{Forest}
use Rattle.obs_forest.specs.inner.Forest.{StandsOver, taken}
use Rattle.obs_forest.proofs.Refilled.{StandsOver-taken}
use Rattle.obs_assign.specs.inner.Assignment.{HoldsPairs}
use Rattle.obs_assign.specs.inner.Kept.{IsInverse, IsKept, IsListed, IsOver, Kept, with_slots}
use Rattle.obs_assign.specs.inner.Pins.{pinned_slots}
use Rattle.obs_assign.proofs.Changes.{forest_dropped}
use Rattle.obs_assign.proofs.Handing.{apart-inverse, count-same}
use Rattle.obs_assign.proofs.Keeping.{IsForestAt-empty, empty_pairs, empty_slot}
use Rattle.obs_assign.proofs.Listed.{IsAdded, IsAdded-made, IsListed-same, taken-same}
use Rattle.obs_assign.proofs.Losing.{IsLosable, IsLost, IsLost-made, losable}
use Rattle.obs_assign.proofs.Over.{IsOver-made, over_forest, over_listed, over_stands}
use Rattle.obs_assign.proofs.Pinning.{inverse-swapped, same_branches, take-pinned}
use Rattle.obs_assign.proofs.Slotted.{HoldsPairs-taken, IsForestAt-nil, branch_low, distinct-from_apart, length-pairs_of, none_some, slot_low, some_same}

-- what the arrays are the value of
abbrev pub stored : ℕ → List (Option ℕ) → Forest → Kept
stored meters slots forest = record { slots = take meters slots; forest = forest; most_meters = length slots }

-- the arrays keep what they should, and hold the pairs of these slots
pub record IsStored (now : Kept) (g : Graph) (new : List (Option ℕ)) (after : Kept) (meters count : ℕ) (owners : List (Option ℕ)) (list : List ℕ) : Type 0 where
  pub kept : IsKept after meters count owners list
  pub is : after ≡ with_slots now g new

pub IsStored-made : (now : Kept) (g : Graph) (meters : ℕ) (slots slots2 new : List (Option ℕ)) (forest forest2 : Forest) (count2 : ℕ) (owners2 : List (Option ℕ)) (list2 : List ℕ)
    → stored meters slots forest ≡ now → length slots < 2 ^ 32 → meters ≤ length slots → length g.ends ≤ forest.most_branches
    → take meters slots2 ≡ new → length slots2 ≡ length slots → IsForestAt g.ends (branches (pairs_of new))
    → forest2 ≡ record forest { vertices = g.vertices; held = taken g.ends (branches (pairs_of new)) }
    → count2 ≡ length (pairs_of new) → IsInverse new owners2 → length owners2 ≡ forest.most_branches → length list2 ≡ length slots → IsListed new (take count2 list2)
    → IsStored now g new (stored meters slots2 forest2) meters count2 owners2 list2
IsStored-made now g meters slots slots2 new forest forest2 count2 owners2 list2 is few low room first len f forest_is count_is inverse owners_len list_len listed =
    let list = branches (pairs_of new) in
    let positions = (StandsOver-taken forest g list).positions in
    let held = ap (λ (h : Forest). length h.held) forest_is in
    let most_b = ap (λ (h : Forest). h.most_branches) forest_is in
    record {
      kept = record {
        few = rw len few;
        meters_low = rw len low;
        holds = subst (λ (h : Forest). HoldsPairs (take meters slots2) h.held) (sym forest_is) (subst (λ (s : List (Option ℕ)). HoldsPairs s (taken g.ends list)) (sym first) (HoldsPairs-taken g.ends new f));
        positions = omega arith;
        count_is = count_is ∙ ap (λ (s : List (Option ℕ)). length (pairs_of s)) (sym first);
        inverse = subst (λ (s : List (Option ℕ)). IsInverse s owners2) (sym first) inverse;
        owners_len = owners_len ∙ sym most_b;
        list_len = list_len ∙ sym len;
        listed = subst (λ (s : List (Option ℕ)). IsListed s (take count2 list2)) (sym first) listed;
      };
      is = ap (λ (s : List (Option ℕ)). let k : Kept = record { slots = s; forest = forest2; most_meters = length slots2 } in k) first
          ∙ (ap (λ (h : Forest). let k : Kept = record { slots = new; forest = h; most_meters = length slots2 } in k) forest_is
          ∙ (ap (λ (n : ℕ). let k : Kept = record { slots = new; forest = record forest { vertices = g.vertices; held = taken g.ends list }; most_meters = n } in k) len
          ∙ ap (λ (k : Kept). with_slots k g new) is));
    }

module _ (now : Kept) (meters : ℕ) (slots : List (Option ℕ)) (forest : Forest) (count : ℕ) (owners : List (Option ℕ)) (list : List ℕ)
    (is : stored meters slots forest ≡ now) (kept : IsKept (stored meters slots forest) meters count owners list) where
  slots_are : take meters slots ≡ now.slots
  slots_are = ap (λ (k : Kept). k.slots) is

  len : length (take meters slots) ≡ meters
  len = length-take-le meters slots kept.meters_low

  below : (m : ℕ) → m < length now.slots → m < meters
  below m low = omega (arith, low, len, ap (λ (s : List (Option ℕ)). length s) slots_are)

  at : (m : ℕ) → m < meters → get_or slots m None ≡ get_or now.slots m None
  at m low = sym (get_or-take meters slots m None low) ∙ ap (λ (s : List (Option ℕ)). get_or s m None) slots_are

  module _ (g : Graph) (over : IsOver now g) where
    over_here : IsOver (stored meters slots forest) g
    over_here = subst (λ (k : Kept). IsOver k g) (sym is) over

    pub stands_here : StandsOver forest g
    stands_here = over_stands (stored meters slots forest) g over_here

    forest_here : IsForestAt g.ends (branches (pairs_of (take meters slots)))
    forest_here = over_forest (stored meters slots forest) g over_here kept.holds

    width : length g.ends ≤ forest.most_branches
    width = omega (arith, stands_here.positions, kept.positions)

    pub held_here : forest.held ≡ taken g.ends (take count list)
    held_here = over_listed (stored meters slots forest) g over_here (take count list) kept.holds kept.listed

    -- a pair more
    module _ (m e : ℕ) (low : m < length now.slots) (bare : get_or now.slots m None ≡ None) (f : IsForestAt g.ends (branches (pairs_of (set now.slots m (Some e))))) where
      pub added : IsAdded g.ends meters slots owners list count m e
      added =
          let lm = below m low in
          IsAdded-made g.ends meters slots owners list count m e kept.meters_low lm (at m lm ∙ bare) (omega (arith, kept.list_len, kept.meters_low)) (omega (arith, width, kept.owners_len))
          kept.count_is kept.inverse kept.listed (subst (λ (s : List (Option ℕ)). IsForestAt g.ends (branches (pairs_of (set s m (Some e))))) (sym slots_are) f)

      pub stored-added : (after : Forest) → after ≡ record forest { vertices = g.vertices; held = taken g.ends (take (count + 1) (set list count e)) }
          → IsStored now g (set now.slots m (Some e)) (stored meters (set slots m (Some e)) after) meters (count + 1) (set owners e (Some m)) (set list count e)
      stored-added after after_is =
          let lm = below m low in
          let new = set now.slots m (Some e) in
          let first : take meters (set slots m (Some e)) ≡ new = take-set-lt meters slots m (Some e) lm ∙ ap (λ (s : List (Option ℕ)). set s m (Some e)) slots_are in
          let listed : IsListed new (take (count + 1) (set list count e)) = subst (λ (s : List (Option ℕ)). IsListed s (take (count + 1) (set list count e))) first added.listed in
          IsStored-made now g meters slots (set slots m (Some e)) new forest after (count + 1) (set owners e (Some m)) (set list count e) is kept.few kept.meters_low width first (length-set slots m (Some e)) f
          (after_is ∙ ap (λ (h : List (Option Ends)). let x : Forest = record forest { vertices = g.vertices; held = h } in x) (taken-same g.ends (take (count + 1) (set list count e)) (branches (pairs_of new)) listed.exactly))
          (added.counted ∙ ap (λ (s : List (Option ℕ)). length (pairs_of s)) first)
          (subst (λ (s : List (Option ℕ)). IsInverse s (set owners e (Some m))) first added.inverse)
          (length-set owners e (Some m) ∙ kept.owners_len) (length-set list count e ∙ kept.list_len) listed

    -- a pair less
    module _ (m e : ℕ) (has : get_or now.slots m None ≡ Some e) where
      lost_low : m < meters
      lost_low = below m (slot_low now.slots m e has)

      pub may_lose : IsLosable g.ends meters slots owners (take count list) count m e
      may_lose =
          let h = at m lost_low ∙ has in
          losable g.ends meters slots owners (take count list) count m e kept.meters_low lost_low h kept.inverse kept.listed kept.count_is forest_here
          (omega (arith, branch_low g.ends (take meters slots) forest_here m e (get_or-take meters slots m None lost_low ∙ h), width, kept.owners_len))
          (omega (arith, kept.count_is, length-pairs_of (take meters slots), len))

      module _ (less : List ℕ) (different : IsDistinct less) (exactly : (x : ℕ) → In x less ↔ (In x (take count list) × (x ≢ e))) where
        pub lost : IsLost g.ends meters slots owners (take count list) less count m e
        lost = IsLost-made g.ends meters slots owners (take count list) count m e kept.meters_low lost_low (at m lost_low ∙ has) kept.inverse kept.listed kept.count_is forest_here less different exactly may_lose.room

        pub stored-lost : (after : Forest) (list2 : List ℕ) → after ≡ record forest { vertices = g.vertices; held = taken g.ends less } → take (count - 1) list2 ≡ less → length list2 ≡ length list
            → IsStored now g (set now.slots m None) (stored meters (set slots m None) after) meters (count - 1) (set owners e None) list2
        stored-lost after list2 after_is less_is same =
            let new = set now.slots m None in
            let first : take meters (set slots m None) ≡ new = take-set-lt meters slots m None lost_low ∙ ap (λ (s : List (Option ℕ)). set s m None) slots_are in
            let listed : IsListed new less = subst (λ (s : List (Option ℕ)). IsListed s less) first lost.listed in
            let counted = lost.counted in
            let firsts = ap (λ (s : List (Option ℕ)). length (pairs_of s)) first in
            IsStored-made now g meters slots (set slots m None) new forest after (count - 1) (set owners e None) list2 is kept.few kept.meters_low width first (length-set slots m None)
            (subst (λ (s : List (Option ℕ)). IsForestAt g.ends (branches (pairs_of (set s m None)))) slots_are (forest_dropped g.ends (take meters slots) m forest_here))
            (after_is ∙ ap (λ (h : List (Option Ends)). let x : Forest = record forest { vertices = g.vertices; held = h } in x) (taken-same g.ends less (branches (pairs_of new)) listed.exactly))
            (omega (arith, counted, firsts))
            (subst (λ (s : List (Option ℕ)). IsInverse s (set owners e None)) first lost.inverse)
            (length-set owners e None ∙ kept.owners_len) (same ∙ kept.list_len) (subst (λ (l : List ℕ). IsListed new l) (sym less_is) listed)

  -- a branch that is handed on
  module _ (m e x : ℕ) (low : m < length now.slots) (has : get_or now.slots x None ≡ Some e) (bare : (f : ℕ) → get_or now.slots m None ≡ Some f → f ≡ e) where
    abbrev old : List (Option ℕ)
    old = take meters slots

    has_old : get_or old x None ≡ Some e
    has_old = ap (λ (s : List (Option ℕ)). get_or s x None) slots_are ∙ has

    owned : get_or owners e None ≡ Some x
    owned = (kept.inverse x e).0 has_old

    pub hand_wide : e < length owners
    hand_wide = slot_low owners e x owned

    spare : (y : ℕ) → get_or old y None ≡ Some e → y ≡ x
    spare y h = some_same y x (sym ((kept.inverse y e).0 h) ∙ owned)

    none : (f : ℕ) → get_or old m None ≡ Some f → f ≡ e
    none f h = bare f (sym (ap (λ (s : List (Option ℕ)). get_or s m None) slots_are) ∙ h)

    inside : m < length old
    inside = omega (arith, low, ap (λ (s : List (Option ℕ)). length s) slots_are)

    abbrev new : List (Option ℕ)
    new = pinned_slots old m e x

    same : (f : ℕ) → In f (branches (pairs_of new)) ↔ In f (branches (pairs_of old))
    same = same_branches old m e x inside owners kept.inverse x owned spare none hand_wide

    inverse : IsInverse new (set owners e (Some m))
    inverse = inverse-swapped old m e x inside owners kept.inverse x owned spare none hand_wide

    holds : HoldsPairs new forest.held
    holds = record {
      forest = IsForestAt-among forest.held (branches (pairs_of old)) (branches (pairs_of new)) kept.holds.forest
          (λ q c. Contains-from_In q (branches (pairs_of old)) ((same q).0 (In-from_Contains q (branches (pairs_of new)) c)))
          (pairs_from_IsDistinct (branches (pairs_of new)) (distinct-from_apart new (apart-inverse new (set owners e (Some m)) inverse)));
      exactly = λ p. ((λ s. (same p).1 ((kept.holds.exactly p).0 s)), (λ i. (kept.holds.exactly p).1 ((same p).0 i)));
    }

    first : take meters (pinned_slots slots m e x) ≡ new
    first = take-pinned meters slots m e x (below m low) (below x (slot_low now.slots x e has))

    len_new : length (pinned_slots slots m e x) ≡ length slots
    len_new = length-set (set slots x None) m (Some e) ∙ length-set slots x None

    pub kept-handed : IsKept (stored meters (pinned_slots slots m e x) forest) meters count (set owners e (Some m)) list
    kept-handed = record {
      few = rw len_new kept.few;
      meters_low = rw len_new kept.meters_low;
      holds = subst (λ (s : List (Option ℕ)). HoldsPairs s forest.held) (sym first) holds;
      positions = kept.positions;
      count_is = kept.count_is ∙ (sym (count-same old new (apart-inverse old owners kept.inverse) (apart-inverse new (set owners e (Some m)) inverse) same) ∙ ap (λ (s : List (Option ℕ)). length (pairs_of s)) (sym first));
      inverse = subst (λ (s : List (Option ℕ)). IsInverse s (set owners e (Some m))) (sym first) inverse;
      owners_len = length-set owners e (Some m) ∙ kept.owners_len;
      list_len = kept.list_len ∙ sym len_new;
      listed = subst (λ (s : List (Option ℕ)). IsListed s (take count list)) (sym first) (IsListed-same old new (take count list) kept.listed same);
    }

    pub stored-handed : (g : Graph) → IsOver now g → stored meters (pinned_slots slots m e x) forest ≡ with_slots now g (pinned_slots now.slots m e x)
    stored-handed g over =
        let after = stored meters (pinned_slots slots m e x) forest in
        IsOver-made after g (stands_here g over) kept-handed.holds
        ∙ (ap (λ (s : List (Option ℕ)). with_slots after g s) (first ∙ ap (λ (s : List (Option ℕ)). pinned_slots s m e x) slots_are)
        ∙ (ap (λ (n : ℕ). with_slots (record { slots = take meters (pinned_slots slots m e x); forest = forest; most_meters = n }) g (pinned_slots now.slots m e x)) len_new
        ∙ ap (λ (k : Kept). with_slots k g (pinned_slots now.slots m e x)) is))

-- no pair over the first meters
pub stored-cleared : (now : Kept) (g : Graph) (meters after : ℕ) (slots : List (Option ℕ)) (forest : Forest) (count : ℕ) (owners : List (Option ℕ)) (list : List ℕ)
    → stored meters slots forest ≡ now → IsKept (stored meters slots forest) meters count owners list → after ≤ length slots → length g.ends ≤ forest.most_branches
    → (forest2 : Forest) → forest2 ≡ record forest { vertices = g.vertices; held = taken g.ends [] }
    → IsStored now g (replicate after None) (stored after (replicate (length slots) None) forest2) after 0 (replicate (length owners) None) list
stored-cleared now g meters after slots forest count owners list is kept low room forest2 forest_is =
    let new = replicate {A = Option ℕ} after None in
    let none = empty_pairs after in
    let begun : stored after slots forest ≡ record now { slots = take after slots } = ap (λ (k : Kept). let x : Kept = record k { slots = take after slots } in x) is in
    let s = IsStored-made (record now { slots = take after slots }) g after slots (replicate (length slots) None) new forest forest2 0 (replicate (length owners) None) list begun kept.few low room
    (take-replicate after (length slots) None low) (length-replicate {A = Option ℕ} (length slots) None) (IsForestAt-empty g.ends after)
    (forest_is ∙ ap (λ (A : List Pair). let x : Forest = record forest { vertices = g.vertices; held = taken g.ends (branches A) } in x) (sym none))
    (ap (λ (A : List Pair). length A) (sym none))
    (λ m e. ((λ h. absurd (none_some e (sym (empty_slot after m) ∙ h))), (λ h. absurd (none_some m (sym (empty_slot (length owners) e) ∙ h)))))
    (length-replicate {A = Option ℕ} (length owners) None ∙ kept.owners_len) kept.list_len
    (record {
      different = tt;
      exactly = λ e. ((λ i. absurd i), (λ i. subst (λ (A : List Pair). In e (branches A)) none i));
    }) in
    record { kept = s.kept; is = s.is }

-- no pair over no meter
pub IsKept-none : (slots : List (Option ℕ)) (forest : Forest) (n : ℕ) (owners : List (Option ℕ)) (list : List ℕ) → forest.held ≡ [] → forest.most_branches ≡ n → length slots < 2 ^ 32
    → owners ≡ replicate n None → length list ≡ length slots → IsKept (stored 0 slots forest) 0 0 owners list
IsKept-none slots forest n owners list none room few empty list_len = record {
  few = few;
  meters_low = omega arith;
  holds = rw none (record { forest = IsForestAt-nil []; exactly = λ p. ((λ h. absurd cc), (λ i. absurd i)) });
  positions = omega (arith, ap (λ (h : List (Option Ends)). length h) none);
  count_is = refl;
  inverse = λ m e. ((λ h. absurd (none_some e h)), (λ h. absurd (none_some m (sym (empty_slot n e) ∙ (ap (λ (o : List (Option ℕ)). get_or o e None) (sym empty) ∙ h)))));
  owners_len = ap (λ (o : List (Option ℕ)). length o) empty ∙ (length-replicate {A = Option ℕ} n None ∙ sym room);
  list_len = list_len;
  listed = record { different = tt; exactly = λ e. ((λ i. absurd i), (λ i. absurd i)) };
}
