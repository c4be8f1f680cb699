-- The pairs that slots stand for.
use Rattle.std.proofs.Common.{◌≡◌, ℕ, zero, suc, ◌+◌, ◌≤◌, ◌<◌, List, [], ◌∷◌, length, sym, ap, ◌∙◌, inl, inr, arith, Option, Some, None, get_or, set, ◌↔◌}
use Rattle.std.proofs.lemmas.Bool.{cases_eq}
use Rattle.std.proofs.lemmas.List.{get_or-set_same, get_or-set_other}
use Rattle.obs_matroid.specs.Lists.{In, IsDistinct, other_than}
use Rattle.obs_matroid.specs.Assignments.{Pair, items}
use Rattle.obs_matroid.specs.inner.Exchange.{put}
use Rattle.obs_matroid.proofs.Lists.{other_true, other_ne}
use Rattle.obs_matroid.proofs.Pairs.{In-items_from, In-part, In-part_from}
use Rattle.obs_matroid.specs.inner.Slots.{pairs_from, pairs_of}

pairs_from_low : (n : ℕ) (slots : List (Option ℕ)) (p : Pair) → In p (pairs_from n slots) → n ≤ p.0
pairs_from_low n [] p i = absurd i
pairs_from_low n (None ∷ slots) p i = let h = pairs_from_low (suc n) slots p i in omega (arith, h)
pairs_from_low n (Some e ∷ slots) p (inl s) = let h = ap (λ (q : Pair). q.0) s in omega (arith, h)
pairs_from_low n (Some e ∷ slots) p (inr i) = let h = pairs_from_low (suc n) slots p i in omega (arith, h)

pairs_from_slot : (n : ℕ) (slots : List (Option ℕ)) (p : Pair) → In p (pairs_from n slots) → (k : ℕ) → p.0 ≡ n + k → get_or slots k None ≡ Some p.1
pairs_from_slot n [] p i k s = absurd i
pairs_from_slot n (None ∷ slots) p i zero s = let h = pairs_from_low (suc n) slots p i in absurd (omega (arith, h, s))
pairs_from_slot n (None ∷ slots) p i (suc k) s = pairs_from_slot (suc n) slots p i k (omega (arith, s))
pairs_from_slot n (Some e ∷ slots) p (inl t) zero s = ap Some (sym (ap (λ (q : Pair). q.1) t))
pairs_from_slot n (Some e ∷ slots) p (inl t) (suc k) s = let h = ap (λ (q : Pair). q.0) t in absurd (omega (arith, h, s))
pairs_from_slot n (Some e ∷ slots) p (inr i) zero s = let h = pairs_from_low (suc n) slots p i in absurd (omega (arith, h, s))
pairs_from_slot n (Some e ∷ slots) p (inr i) (suc k) s = pairs_from_slot (suc n) slots p i k (omega (arith, s))

pairs_from_at : (n : ℕ) (slots : List (Option ℕ)) (k e : ℕ) → get_or slots k None ≡ Some e → (m : ℕ) → m ≡ n + k → In (m, e) (pairs_from n slots)
pairs_from_at n [] k e h m s = absurd (cc h)
pairs_from_at n (None ∷ slots) zero e h m s = absurd (cc h)
pairs_from_at n (None ∷ slots) (suc k) e h m s = pairs_from_at (suc n) slots k e h m (omega (arith, s))
pairs_from_at n (Some f ∷ slots) zero e h m s = inl (let x : m ≡ n = omega (arith, s) in let y : e ≡ f = cc h in cc (x, y))
pairs_from_at n (Some f ∷ slots) (suc k) e h m s = inr (pairs_from_at (suc n) slots k e h m (omega (arith, s)))

pairs_from_distinct : (n : ℕ) (slots : List (Option ℕ)) → IsDistinct (items (pairs_from n slots))
pairs_from_distinct n [] = tt
pairs_from_distinct n (None ∷ slots) = pairs_from_distinct (suc n) slots
pairs_from_distinct n (Some e ∷ slots) = (
  (λ i. let v = In-items_from (pairs_from (suc n) slots) n i in let h = pairs_from_low (suc n) slots v.0 v.1 in let s = v.2 in absurd (omega (arith, h, s))),
  pairs_from_distinct (suc n) slots,
)

pub pair_from_parts : (p : Pair) (m e : ℕ) → p.0 ≡ m → p.1 ≡ e → p ≡ (m, e)
pair_from_parts p m e a b = λ i. (a i, b i)

-- the pairs, by the slots
pub slot_from : (slots : List (Option ℕ)) (p : Pair) → In p (pairs_of slots) → get_or slots p.0 None ≡ Some p.1
slot_from slots p i = pairs_from_slot 0 slots p i p.0 (omega arith)

pub slot_at : (slots : List (Option ℕ)) (m e : ℕ) → get_or slots m None ≡ Some e → In (m, e) (pairs_of slots)
slot_at slots m e h = pairs_from_at 0 slots m e h m (omega arith)

pub IsDistinct-slots : (slots : List (Option ℕ)) → IsDistinct (items (pairs_of slots))
IsDistinct-slots slots = pairs_from_distinct 0 slots

-- a write into a slot puts the pair in
pub slots_put : (slots : List (Option ℕ)) (m e : ℕ) → m < length slots → (p : Pair) → In p (pairs_of (set slots m (Some e))) ↔ In p (put (m, e) (pairs_of slots))
slots_put slots m e l p = (
  (λ i. let h = slot_from (set slots m (Some e)) p i in
      elim (cases_eq p.0 m) [
        | inl s ↦ inl (let k : get_or (set slots m (Some e)) m None ≡ Some p.1 = rw s at h in
            let x : Some e ≡ Some p.1 = sym (get_or-set_same slots m (Some e) None l) ∙ k in
            let y : p.1 ≡ e = cc x in pair_from_parts p m e s y)
        | inr n ↦ inr (In-part (other_than m) (pairs_of slots) p (slot_at slots p.0 p.1 (sym (get_or-set_other slots m p.0 (Some e) None n) ∙ h)) (other_true m p.0 n))
      ]),
  (λ i. slot_at (set slots m (Some e)) p.0 p.1 (elim i [
    | inl s ↦ let x : p.0 ≡ m = ap (λ (q : Pair). q.0) s in let y : p.1 ≡ e = ap (λ (q : Pair). q.1) s in
        rw (x, y) (get_or-set_same slots m (Some e) None l)
    | inr j ↦ let u = In-part_from (other_than m) (pairs_of slots) p j in
        get_or-set_other slots m p.0 (Some e) None (other_ne m p.0 u.1) ∙ slot_from slots p u.0
  ])),
)
