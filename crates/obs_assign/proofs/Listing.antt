-- A pass over the slots that lists the branches of the pairs and notes who has them.
use Rattle.std.proofs.Common.{◌≡◌, ℕ, suc, ◌+◌, ◌<◌, ◌≤◌, Option, Some, None, List, [], ◌∷◌, ◌++◌, length, get_or, set, take, drop, sym, ap, ◌∙◌, inl, inr, arith, drop-cons, add-one, append_assoc, get_or-set_same, get_or-set_other}
use Rattle.std.proofs.lemmas.Bool.{cases_eq}
use Rattle.std.proofs.lemmas.List.{take_more_set}
use Rattle.obs_matroid.specs.Assignments.{branches}
use Rattle.obs_matroid.specs.inner.Slots.{pairs_from, pairs_of}
use Rattle.obs_assign.proofs.Slotted.{some_same, none_some}
use Rattle.obs_assign.specs.inner.Kept.{SlotsApart}

pub record IsListing (slots owners : List (Option ℕ)) (list : List ℕ) (count i : ℕ) : Type 0 where
  pub bound : count ≤ i
  pub listed : take count list ++ branches (pairs_from i (drop i slots)) ≡ branches (pairs_of slots)
  pub has : (m e : ℕ) → get_or owners e None ≡ Some m → (m < i) × (get_or slots m None ≡ Some e)
  pub back : (m e : ℕ) → m < i → get_or slots m None ≡ Some e → get_or owners e None ≡ Some m

from_slot : (slots : List (Option ℕ)) (i : ℕ) (o : Option ℕ) → i < length slots → get_or slots i None ≡ o → drop i slots ≡ o ∷ drop (suc i) slots
from_slot slots i o l e = drop-cons slots i None l ∙ ap (λ (x : Option ℕ). x ∷ drop (suc i) slots) e

module _ (slots owners : List (Option ℕ)) (list : List ℕ) (count i : ℕ) (low : i < length slots) (h : IsListing slots owners list count i) where
  pub Listing-none : get_or slots i None ≡ None → IsListing slots owners list count (i + 1)
  Listing-none is = record {
    bound = let b = h.bound in omega arith;
    listed = rw add-one (ap (λ s. take count list ++ branches (pairs_from i s)) (sym (from_slot slots i None low is)) ∙ h.listed);
    has = λ m e o. let r = h.has m e o in (omega (arith, r.0), r.1);
    back = λ m e l s. elim (cases_eq m i) [
      | inl y ↦ absurd (none_some e (sym is ∙ (ap (λ k. get_or slots k None) (sym y) ∙ s)))
      | inr n ↦ h.back m e (omega (arith, l, n)) s
    ];
  }

  pub Listing-some : (e : ℕ) → get_or slots i None ≡ Some e → e < length owners → length slots ≤ length list → SlotsApart slots
      → IsListing slots (set owners e (Some i)) (set list count e) (count + 1) (i + 1)
  Listing-some e is room long apart =
      let b = h.bound in
      let more : take (count + 1) (set list count e) ≡ take count list ++ e ∷ [] = take_more_set list count e (omega arith) in
      let front : branches (pairs_from i (drop i slots)) ≡ e ∷ branches (pairs_from (suc i) (drop (suc i) slots)) = ap (λ s. branches (pairs_from i s)) (from_slot slots i (Some e) low is) in
      let rest = branches (pairs_from (suc i) (drop (suc i) slots)) in
      let all : take (count + 1) (set list count e) ++ rest ≡ branches (pairs_of slots) =
      ap (λ t. t ++ rest) more ∙ (append_assoc (take count list) (e ∷ []) rest ∙ (ap (λ t. take count list ++ t) (sym front) ∙ h.listed)) in
      let step : i + 1 ≡ suc i = omega arith in
      record {
        bound = omega arith;
        listed = ap (λ k. take (count + 1) (set list count e) ++ branches (pairs_from k (drop k slots))) step ∙ all;
        has = λ m f o. elim (cases_eq f e) [
          | inl y ↦
              let same : Some i ≡ Some m = sym (get_or-set_same owners e (Some i) None room) ∙ (ap (λ k. get_or (set owners e (Some i)) k None) (sym y) ∙ o) in
              let im = some_same i m same in
              (omega (arith, im), ap (λ k. get_or slots k None) (sym im) ∙ (is ∙ ap Some (sym y)))
          | inr n ↦ let r = h.has m f (sym (get_or-set_other owners e f (Some i) None n) ∙ o) in (omega (arith, r.0), r.1)
        ];
        back = λ m f l s. elim (cases_eq f e) [
          | inl y ↦ let im : m ≡ i = apart m i e (s ∙ ap Some y) is in
              ap (λ k. get_or (set owners e (Some i)) k None) y ∙ (get_or-set_same owners e (Some i) None room ∙ ap Some (sym im))
          | inr n ↦ get_or-set_other owners e f (Some i) None n ∙ h.back m f (elim (cases_eq m i) [
            | inl y ↦ absurd (n (some_same f e (sym s ∙ (ap (λ k. get_or slots k None) y ∙ is))))
            | inr k ↦ omega (arith, l, k)
          ]) s
        ];
      }
