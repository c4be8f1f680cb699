-- Slots after moves.
use Rattle.std.proofs.Common.{◌≡◌, ◌≢◌, ℕ, zero, suc, ◌+◌, ◌<◌, Option, Some, None, List, [], ◌∷◌, length, get_or, set, map, refl, sym, ap, ◌∙◌, inl, inr, ◌↔◌, arith, get_or-set_same, get_or-set_other, length-set}
use Rattle.std.proofs.lemmas.Bool.{cases_eq}
use Rattle.obs_matroid.specs.Lists.{In}
use Rattle.obs_matroid.specs.Assignments.{Pair}
use Rattle.obs_matroid.specs.inner.Exchange.{put, put_all}
use Rattle.obs_matroid.specs.inner.Slots.{pairs_from, pairs_of}
use Rattle.obs_matroid.proofs.Order.{put_all_within}
use Rattle.obs_matroid.proofs.Slots.{slots_put}
use Rattle.obs_assign.specs.declared.Move.{Move}
use Rattle.obs_assign.specs.inner.Moves.{moved}
use Rattle.obs_assign.proofs.Slotted.{none_some, slot_low}

-- the pair that a move makes
abbrev pub pair_of : Move → Pair
pair_of x = (x.meter, x.branch)

-- the pairs after the moves are those after the same moves of pairs
pub moved_pairs : (path : List Move) (slots : List (Option ℕ)) → ((x : Move) → In x path → x.meter < length slots)
    → (p : Pair) → In p (pairs_of (moved path slots)) ↔ In p (put_all (map pair_of path) (pairs_of slots))
moved_pairs [] slots low p = ((λ i. i), (λ i. i))
moved_pairs (x ∷ path) slots low p =
    let next = set slots x.meter (Some x.branch) in
    let rest = moved_pairs path next (λ y i. let l = low y (inr i) in omega (arith, l, length-set slots x.meter (Some x.branch))) p in
    let one = slots_put slots x.meter x.branch (low x (inl refl)) in (
      (λ i. put_all_within (map pair_of path) (pairs_of next) (put (pair_of x) (pairs_of slots)) (λ q. (one q).0) p (rest.0 i)),
      (λ i. rest.1 (put_all_within (map pair_of path) (put (pair_of x) (pairs_of slots)) (pairs_of next) (λ q. (one q).1) p i)),
    )

-- a meter that has a branch keeps one
pub set-some : (slots : List (Option ℕ)) (m e k f : ℕ) → get_or slots k None ≡ Some f → (g : ℕ) × (get_or (set slots m (Some e)) k None ≡ Some g)
set-some slots m e k f h = elim (cases_eq k m) [
  | inl y ↦ (e, ap (λ i. get_or (set slots m (Some e)) i None) y ∙ get_or-set_same slots m (Some e) None (let l = slot_low slots k f h in omega (arith, l, y)))
  | inr n ↦ (f, get_or-set_other slots m k (Some e) None n ∙ h)
]

pub moved-some : (path : List Move) (slots : List (Option ℕ)) (k f : ℕ) → get_or slots k None ≡ Some f → (g : ℕ) × (get_or (moved path slots) k None ≡ Some g)
moved-some [] slots k f h = (f, h)
moved-some (x ∷ path) slots k f h = let s = set-some slots x.meter x.branch k f h in moved-some path (set slots x.meter (Some x.branch)) k s.0 s.1

-- how many pairs there are after a move
count_paired : (n : ℕ) (slots : List (Option ℕ)) (m e f : ℕ) → get_or slots m None ≡ Some f → length (pairs_from n (set slots m (Some e))) ≡ length (pairs_from n slots)
count_paired n [] m e f h = absurd (none_some f h)
count_paired n (None ∷ slots) zero e f h = absurd (none_some f h)
count_paired n (None ∷ slots) (suc m) e f h = count_paired (suc n) slots m e f h
count_paired n (Some g ∷ slots) zero e f h = refl
count_paired n (Some g ∷ slots) (suc m) e f h = ap suc (count_paired (suc n) slots m e f h)

count_bare : (n : ℕ) (slots : List (Option ℕ)) (m e : ℕ) → m < length slots → get_or slots m None ≡ None → length (pairs_from n (set slots m (Some e))) ≡ suc (length (pairs_from n slots))
count_bare n [] m e l h = absurd (omega arith)
count_bare n (None ∷ slots) zero e l h = refl
count_bare n (None ∷ slots) (suc m) e l h = count_bare (suc n) slots m e (omega arith) h
count_bare n (Some g ∷ slots) zero e l h = absurd (none_some g (sym h))
count_bare n (Some g ∷ slots) (suc m) e l h = ap suc (count_bare (suc n) slots m e (omega arith) h)

pub length-put_paired : (slots : List (Option ℕ)) (m e f : ℕ) → get_or slots m None ≡ Some f → length (pairs_of (set slots m (Some e))) ≡ length (pairs_of slots)
length-put_paired slots m e f h = count_paired 0 slots m e f h

pub length-put_bare : (slots : List (Option ℕ)) (m e : ℕ) → m < length slots → get_or slots m None ≡ None → length (pairs_of (set slots m (Some e))) ≡ suc (length (pairs_of slots))
length-put_bare slots m e l h = count_bare 0 slots m e l h

-- the number that is there
pub has_some : (o : Option ℕ) → (o ≡ None → ⊥) → (e : ℕ) × (o ≡ Some e)
has_some None n = absurd (n refl)
has_some (Some e) n = (e, refl)

length-moved_paired : (path : List Move) (slots : List (Option ℕ)) → ((x : Move) → In x path → (f : ℕ) × (get_or slots x.meter None ≡ Some f)) → length (pairs_of (moved path slots)) ≡ length (pairs_of slots)
length-moved_paired [] slots h = refl
length-moved_paired (x ∷ path) slots h =
    let a = h x (inl refl) in
    length-moved_paired path (set slots x.meter (Some x.branch)) (λ y i. let b = h y (inr i) in set-some slots x.meter x.branch y.meter b.0 b.1)
    ∙ length-put_paired slots x.meter x.branch a.0 a.1

-- the moves of a path make one pair more
pub length-moved_path : (x : Move) (path : List Move) (slots : List (Option ℕ)) → x.meter < length slots → get_or slots x.meter None ≡ None
    → ((y : Move) → In y path → get_or slots y.meter None ≢ None) → length (pairs_of (moved (x ∷ path) slots)) ≡ length (pairs_of slots) + 1
length-moved_path x path slots l bare paired =
    let more = length-moved_paired path (set slots x.meter (Some x.branch)) (λ y i. let b = has_some (get_or slots y.meter None) (paired y i) in set-some slots x.meter x.branch y.meter b.0 b.1) in
    omega (arith, more, length-put_bare slots x.meter x.branch l bare)
