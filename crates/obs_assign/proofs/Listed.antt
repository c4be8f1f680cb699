-- The list of the pairs' branches, and a pair more.
use Rattle.std.proofs.Common.{◌≡◌, ℕ, ◌+◌, ◌<◌, ◌≤◌, Option, Some, None, List, [], ◌∷◌, ◌++◌, cond, length, get_or, set, take, sym, ap, ◌∙◌, subst, inl, inr, ◌⊎◌, ◌↔◌, arith, get_or-set_same, get_or-set_other, length-set}
use Rattle.std.specs.Cmp.Derive.{one_truth}
use Rattle.std.proofs.lemmas.Bool.{cases_eq}
use Rattle.std.proofs.lemmas.List.{get_or-take, get_or_default, length-take-le, same_lists, take_at, take_more_set}
use Rattle.std.proofs.Math.Seq.{take-set-lt}
use Rattle.obs_graph.specs.declared.Ends.{Ends}
use Rattle.obs_graph.specs.Positions.{IsForestAt}
use Rattle.obs_graph.proofs.AtPositions.{IsForestAt-among}
use Rattle.obs_matroid.specs.Lists.{In}
use Rattle.obs_matroid.specs.Assignments.{branches}
use Rattle.obs_matroid.specs.inner.Slots.{pairs_of}
use Rattle.obs_matroid.proofs.Contained.{Contains-from_In, In-from_Contains, pairs_from_IsDistinct}
use Rattle.obs_matroid.proofs.Lists.{In_same, In-append_cases, In-append_left, In-append_right, IsDistinct-append}
use Rattle.obs_forest.specs.Forest.{has_position}
use Rattle.obs_forest.specs.inner.Forest.{taken}
use Rattle.obs_forest.proofs.Held.{contains-has_position, get_or-taken, has_position-contains, length-taken}
use Rattle.obs_assign.specs.inner.Kept.{IsInverse, IsListed, SlotsApart}
use Rattle.obs_assign.proofs.Moving.{length-put_bare}
use Rattle.obs_assign.proofs.Slotted.{branch_low, branch_slot, distinct_branches, length-pairs_of, none_some, slot_branch, slots_apart, some_same}

-- the branches by meter are such a list
pub IsListed-all : (ends : List (Option Ends)) (slots : List (Option ℕ)) → IsForestAt ends (branches (pairs_of slots)) → IsListed slots (branches (pairs_of slots))
IsListed-all ends slots f = record { different = distinct_branches ends (branches (pairs_of slots)) f; exactly = λ e. ((λ i. i), (λ i. i)) }

-- what a list holds is told by what is in it
pub taken-same : (bs : List (Option Ends)) (ps qs : List ℕ) → ((p : ℕ) → In p ps ↔ In p qs) → taken bs ps ≡ taken bs qs
taken-same bs ps qs same =
    same_lists (taken bs ps) (taken bs qs) (length-taken bs ps ∙ sym (length-taken bs qs)) (λ k d l.
    get_or_default (taken bs ps) k d None l ∙ (get_or-taken bs ps k ∙ (ap (λ t. cond t (get_or bs k None) None) (tests k)
    ∙ (sym (get_or-taken bs qs k) ∙ sym (get_or_default (taken bs qs) k d None (omega (arith, l, length-taken bs ps, length-taken bs qs)))))))
  where
    tests : (k : ℕ) → has_position ps k ≡ has_position qs k
    tests k = one_truth (has_position ps k) (has_position qs k)
        (λ t. contains-has_position qs k (Contains-from_In k qs ((same k).0 (In-from_Contains k ps (has_position-contains ps k t)))))
        (λ t. contains-has_position ps k (Contains-from_In k ps ((same k).1 (In-from_Contains k qs (has_position-contains qs k t)))))

-- a list of the pairs' branches is a forest, where they are
pub IsForestAt-listed : (ends : List (Option Ends)) (slots : List (Option ℕ)) (list : List ℕ) → IsListed slots list → IsForestAt ends (branches (pairs_of slots)) → IsForestAt ends list
IsForestAt-listed ends slots list h f =
    IsForestAt-among ends (branches (pairs_of slots)) list f
    (λ q c. Contains-from_In q (branches (pairs_of slots)) ((h.exactly q).0 (In-from_Contains q list c)))
    (pairs_from_IsDistinct list h.different)

-- other slots with the same branches
pub IsListed-same : (slots new : List (Option ℕ)) (list : List ℕ) → IsListed slots list → ((e : ℕ) → In e (branches (pairs_of new)) ↔ In e (branches (pairs_of slots))) → IsListed new list
IsListed-same slots new list h same = record {
  different = h.different;
  exactly = λ e. ((λ i. (same e).1 ((h.exactly e).0 i)), (λ i. (h.exactly e).1 ((same e).0 i)));
}

-- a meter that has no pair takes a branch that no other meter has
module _ (slots : List (Option ℕ)) (m e : ℕ) (low : m < length slots) (bare : get_or slots m None ≡ None) (apart : SlotsApart (set slots m (Some e))) where
  at_meter : get_or (set slots m (Some e)) m None ≡ Some e
  at_meter = get_or-set_same slots m (Some e) None low

  -- a pair that there was
  others : (k f : ℕ) → get_or slots k None ≡ Some f → (k ≡ m → ⊥) × (get_or (set slots m (Some e)) k None ≡ Some f)
  others k f h =
      let ne : k ≡ m → ⊥ = λ s. none_some f (sym bare ∙ (ap (λ i. get_or slots i None) (sym s) ∙ h)) in
      (ne, get_or-set_other slots m k (Some e) None ne ∙ h)

  -- nobody had the branch
  unowned : (k : ℕ) → get_or slots k None ≡ Some e → ⊥
  unowned k h = let o = others k e h in o.0 (apart k m e o.1 at_meter)

  -- a pair is the new one or was there
  from : (k f : ℕ) → get_or (set slots m (Some e)) k None ≡ Some f → ((k ≡ m) × (f ≡ e)) ⊎ (get_or slots k None ≡ Some f)
  from k f h = elim (cases_eq k m) [
    | inl y ↦ inl (y, some_same f e (sym h ∙ (ap (λ i. get_or (set slots m (Some e)) i None) y ∙ at_meter)))
    | inr n ↦ inr (sym (get_or-set_other slots m k (Some e) None n) ∙ h)
  ]

  pub IsInverse-more : (owners : List (Option ℕ)) → IsInverse slots owners → e < length owners → IsInverse (set slots m (Some e)) (set owners e (Some m))
  IsInverse-more owners inverse room k f = (
    (λ h. elim (from k f h) [
      | inl b ↦ ap (λ i. get_or (set owners e (Some m)) i None) b.1 ∙ (get_or-set_same owners e (Some m) None room ∙ ap Some (sym b.0))
      | inr b ↦ get_or-set_other owners e f (Some m) None (λ s. unowned k (b ∙ ap Some s)) ∙ (inverse k f).0 b
    ]),
    (λ h. elim (cases_eq f e) [
      | inl y ↦
          let is : m ≡ k = some_same m k (sym (get_or-set_same owners e (Some m) None room) ∙ (ap (λ i. get_or (set owners e (Some m)) i None) (sym y) ∙ h)) in
          ap (λ i. get_or (set slots m (Some e)) i None) (sym is) ∙ (at_meter ∙ ap Some (sym y))
      | inr n ↦ (others k f ((inverse k f).1 (sym (get_or-set_other owners e f (Some m) None n) ∙ h))).1
    ]),
  )

  pub IsListed-more : (list : List ℕ) → IsListed slots list → IsListed (set slots m (Some e)) (list ++ e ∷ [])
  IsListed-more list h =
      let new : In e list → ⊥ = λ i. let s = branch_slot slots e ((h.exactly e).0 i) in unowned s.0 s.1 in
      record {
        different = IsDistinct-append list (e ∷ []) h.different ((λ b. b), tt) (λ x i j. elim j [ inl y ↦ new (In_same e x list (sym y) i) | inr b ↦ b ]);
        exactly = λ f. (
          (λ i. elim (In-append_cases f list (e ∷ []) i) [
            | inl j ↦ let s = branch_slot slots f ((h.exactly f).0 j) in slot_branch (set slots m (Some e)) s.0 f (others s.0 f s.1).1
            | inr j ↦ elim j [ inl y ↦ slot_branch (set slots m (Some e)) m f (at_meter ∙ ap Some (sym y)) | inr b ↦ absurd b ]
          ]),
          (λ i. let s = branch_slot (set slots m (Some e)) f i in
              elim (from s.0 f s.1) [
                | inl b ↦ In-append_right f list (e ∷ []) (inl b.1)
                | inr b ↦ In-append_left f list (e ∷ []) ((h.exactly f).1 (slot_branch slots s.0 f b))
              ]),
        );
      }

-- the first slots with the pair put in, and the list with its branch at the end
pub record IsAdded (ends : List (Option Ends)) (meters : ℕ) (slots owners : List (Option ℕ)) (list : List ℕ) (count m e : ℕ) : Type 0 where
  pub room : e < length owners
  pub few : count + 1 ≤ meters
  pub long : count + 1 ≤ length (set list count e)
  pub forest : IsForestAt ends (take (count + 1) (set list count e))
  pub counted : count + 1 ≡ length (pairs_of (take meters (set slots m (Some e))))
  pub inverse : IsInverse (take meters (set slots m (Some e))) (set owners e (Some m))
  pub listed : IsListed (take meters (set slots m (Some e))) (take (count + 1) (set list count e))
  pub front : take count (take (count + 1) (set list count e)) ≡ take count list

pub IsAdded-made : (ends : List (Option Ends)) (meters : ℕ) (slots owners : List (Option ℕ)) (list : List ℕ) (count m e : ℕ)
    → meters ≤ length slots → m < meters → get_or slots m None ≡ None → meters ≤ length list → length ends ≤ length owners
    → count ≡ length (pairs_of (take meters slots)) → IsInverse (take meters slots) owners → IsListed (take meters slots) (take count list)
    → IsForestAt ends (branches (pairs_of (set (take meters slots) m (Some e)))) → IsAdded ends meters slots owners list count m e
IsAdded-made ends meters slots owners list count m e most lm bare room low count_is inverse listed f =
    let old = take meters slots in
    let new = set old m (Some e) in
    let len = length-take-le meters slots most in
    let inside : m < length old = omega (arith, len, lm) in
    let none : get_or old m None ≡ None = get_or-take meters slots m None lm ∙ bare in
    let apart = slots_apart ends new f in
    let below = branch_low ends new f m e (get_or-set_same old m (Some e) None inside) in
    let counted : count + 1 ≡ length (pairs_of new) = omega (arith, count_is, length-put_bare old m e inside none) in
    let few : count + 1 ≤ meters = omega (arith, counted, length-pairs_of new, length-set old m (Some e), len) in
    let first : take meters (set slots m (Some e)) ≡ new = take-set-lt meters slots m (Some e) lm in
    let front : take (count + 1) (set list count e) ≡ take count list ++ e ∷ [] = take_more_set list count e (omega (arith, few, room)) in
    let more = IsListed-more old m e inside none apart (take count list) listed in
    let all : IsListed new (take (count + 1) (set list count e)) = subst (λ (l : List ℕ). IsListed new l) (sym front) more in
    record {
      room = omega (arith, below, low);
      few = few;
      long = omega (arith, few, room, length-set list count e);
      forest = IsForestAt-listed ends new (take (count + 1) (set list count e)) all f;
      counted = counted ∙ ap (λ (s : List (Option ℕ)). length (pairs_of s)) (sym first);
      inverse = subst (λ (s : List (Option ℕ)). IsInverse s (set owners e (Some m))) (sym first) (IsInverse-more old m e inside none apart owners inverse (omega (arith, below, low)));
      listed = subst (λ (s : List (Option ℕ)). IsListed s (take (count + 1) (set list count e))) (sym first) all;
      front = ap (take count) front ∙ take_at (take count list) (e ∷ []) count (length-take-le count list (omega (arith, few, room)));
    }
