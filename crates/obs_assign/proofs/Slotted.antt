-- The pairs of slots, and their branches.
use Rattle.std.proofs.Common.{◌≡◌, ℕ, suc, ◌<◌, ◌≤◌, Option, Some, None, List, [], ◌∷◌, length, get_or, refl, sym, ap, ◌∙◌, subst, inl, inr, arith}
use Rattle.std.specs.Prelude.{IsSome, is_some}
use Rattle.std.proofs.lemmas.Bool.{cases_lt}
use Rattle.std.proofs.lemmas.List.{get_or_past}
use Rattle.obs_graph.specs.declared.Ends.{Ends}
use Rattle.obs_graph.specs.Positions.{IsForestAt, ends_of}
use Rattle.obs_graph.specs.Joined.{IsForest}
use Rattle.obs_graph.specs.inner.Search.{IsPart}
use Rattle.obs_graph.proofs.AtPositions.{there_at, AllPairs-from_IsForestAt}
use Rattle.obs_graph.proofs.Forests.{IsForest-from_Grows}
use Rattle.std.specs.List.{cons_option}
use Rattle.obs_matroid.specs.Lists.{In, IsDistinct}
use Rattle.obs_matroid.specs.Assignments.{Pair, items, branches}
use Rattle.obs_matroid.specs.inner.Slots.{pairs_from, pairs_of}
use Rattle.obs_matroid.proofs.Pairs.{In-branches, In-branches_from, In-items, In-items_from, same_pair_by_branch}
use Rattle.obs_matroid.proofs.Contained.{Contains-from_In, In-from_Contains, In-from_All, All-from_In, IsDistinct-from_pairs}
use Rattle.obs_matroid.proofs.Slots.{slot_from, slot_at, IsDistinct-slots}
use Rattle.obs_forest.specs.inner.Forest.{taken}
use Rattle.obs_forest.proofs.Held.{taken-at}
use Rattle.obs_forest.proofs.Keeping.{positions_in, held_exactly}
use Rattle.obs_assign.specs.inner.Assignment.{HoldsPairs}
use Rattle.obs_assign.specs.inner.Kept.{SlotsApart}

pub some_same : (a b : ℕ) → Some a ≡ Some b → a ≡ b
some_same a b e = cc

pub none_some : (a : ℕ) → None ≡ Some a → ⊥
none_some a e = absurd cc

-- a slot with a branch is one of the list
pub slot_low : (slots : List (Option ℕ)) (m e : ℕ) → get_or slots m None ≡ Some e → m < length slots
slot_low slots m e h = elim (cases_lt m (length slots)) [ inl l ↦ l | inr l ↦ absurd (none_some e (sym (get_or_past slots m None l) ∙ h)) ]

-- each pair has a slot
pairs_few : (n : ℕ) (slots : List (Option ℕ)) → length (pairs_from n slots) ≤ length slots
pairs_few n [] = omega arith
pairs_few n (None ∷ slots) = let l = pairs_few (suc n) slots in omega arith
pairs_few n (Some e ∷ slots) = let l = pairs_few (suc n) slots in omega arith

pub length-pairs_of : (slots : List (Option ℕ)) → length (pairs_of slots) ≤ length slots
length-pairs_of slots = pairs_few 0 slots

pub slot_branch : (slots : List (Option ℕ)) (m e : ℕ) → get_or slots m None ≡ Some e → In e (branches (pairs_of slots))
slot_branch slots m e h = In-branches (pairs_of slots) (m, e) (slot_at slots m e h)

pub branch_slot : (slots : List (Option ℕ)) (e : ℕ) → In e (branches (pairs_of slots)) → (m : ℕ) × (get_or slots m None ≡ Some e)
branch_slot slots e i = let p = In-branches_from (pairs_of slots) e i in (p.0.0, slot_from slots p.0 p.1 ∙ ap Some (sym p.2))

pub slot_item : (slots : List (Option ℕ)) (m e : ℕ) → get_or slots m None ≡ Some e → In m (items (pairs_of slots))
slot_item slots m e h = In-items (pairs_of slots) (m, e) (slot_at slots m e h)

pub item_slot : (slots : List (Option ℕ)) (m : ℕ) → In m (items (pairs_of slots)) → (e : ℕ) × (get_or slots m None ≡ Some e)
item_slot slots m i = let p = In-items_from (pairs_of slots) m i in (p.0.1, ap (λ k. get_or slots k None) p.2 ∙ slot_from slots p.0 p.1)

-- the branches of a forest are different, and so are the meters that have them
pub distinct_branches : (ends : List (Option Ends)) (L : List ℕ) → IsForestAt ends L → IsDistinct L
distinct_branches ends L f = IsDistinct-from_pairs L (AllPairs-from_IsForestAt ends L f)

pub slots_apart : (ends : List (Option Ends)) (slots : List (Option ℕ)) → IsForestAt ends (branches (pairs_of slots)) → SlotsApart slots
slots_apart ends slots f m n e h k =
    ap (λ (p : Pair). p.0) (same_pair_by_branch (pairs_of slots) (m, e) (n, e) (distinct_branches ends (branches (pairs_of slots)) f) (slot_at slots m e h) (slot_at slots n e k) refl)

distinct_pairs : (A : List Pair) → IsDistinct (items A) → ((p q : Pair) → In p A → In q A → p.1 ≡ q.1 → p.0 ≡ q.0) → IsDistinct (branches A)
distinct_pairs [] d h = tt
distinct_pairs (p ∷ A) d h = (
  (λ i. let q = In-branches_from A p.1 i in d.0 (subst_item A p q.0 q.1 (h p q.0 (inl refl) (inr q.1) q.2))),
  distinct_pairs A d.1 (λ x y i j. h x y (inr i) (inr j)),
)
  where
    subst_item : (A : List Pair) (p q : Pair) → In q A → p.0 ≡ q.0 → In p.0 (items A)
    subst_item A p q i e = rw e (In-items A q i)

pub distinct-from_apart : (slots : List (Option ℕ)) → SlotsApart slots → IsDistinct (branches (pairs_of slots))
distinct-from_apart slots apart = distinct_pairs (pairs_of slots) (IsDistinct-slots slots) (λ p q i j e. apart p.0 q.0 p.1 (slot_from slots p i) (slot_from slots q j ∙ ap Some (sym e)))

pub branch_low : (ends : List (Option Ends)) (slots : List (Option ℕ)) → IsForestAt ends (branches (pairs_of slots)) → (m e : ℕ) → get_or slots m None ≡ Some e → e < length ends
branch_low ends slots f m e h = In-from_All (λ p. p < length ends) (branches (pairs_of slots)) (positions_in ends (branches (pairs_of slots)) f) e (slot_branch slots m e h)

-- what is a forest by some ends is one by ends that agree there
ends_of-agree : (xs ys : List (Option Ends)) (ps : List ℕ) → ((p : ℕ) → In p ps → get_or xs p None ≡ get_or ys p None) → ends_of xs ps ≡ ends_of ys ps
ends_of-agree xs ys [] h = refl
ends_of-agree xs ys (p ∷ ps) h = ap (λ o. cons_option o (ends_of xs ps)) (h p (inl refl)) ∙ ap (cons_option (get_or ys p None)) (ends_of-agree xs ys ps (λ q i. h q (inr i)))

pub IsForestAt-agree : (xs ys : List (Option Ends)) (ps : List ℕ) → ((p : ℕ) → In p ps → get_or xs p None ≡ get_or ys p None) → IsForestAt xs ps → IsForestAt ys ps
IsForestAt-agree xs ys ps h f = record {
  present = All-from_In (λ p. IsSome (get_or ys p None)) ps (λ p i. ap is_some (sym (h p i)) ∙ In-from_All (λ p. IsSome (get_or xs p None)) ps f.present p i);
  forest = subst IsForest (ends_of-agree xs ys ps h) f.forest;
}

pub IsForestAt-over : (held ends : List (Option Ends)) (ps : List ℕ) → IsPart held ends → IsForestAt held ps → IsForestAt ends ps
IsForestAt-over held ends ps part f = IsForestAt-agree held ends ps (λ p i. let t = there_at held ps f.present p (Contains-from_In p ps i) in t.1 ∙ sym (part p t.0 t.1)) f

pub IsForestAt-nil : (ends : List (Option Ends)) → IsForestAt ends []
IsForestAt-nil ends = record { present = λ k d l. absurd (omega arith); forest = IsForest-from_Grows [] tt }

-- what a forest of the pairs' branches holds
pub HoldsPairs-taken : (ends : List (Option Ends)) (slots : List (Option ℕ)) → IsForestAt ends (branches (pairs_of slots)) → HoldsPairs slots (taken ends (branches (pairs_of slots)))
HoldsPairs-taken ends slots f =
    let ps = branches (pairs_of slots) in
    record {
      forest = IsForestAt-agree ends (taken ends ps) ps (λ p i. sym (taken-at ends ps p (Contains-from_In p ps i))) f;
      exactly = λ p. let h = held_exactly ends ps f p in ((λ s. In-from_Contains p ps (h.0 s)), (λ i. h.1 (Contains-from_In p ps i)));
    }
