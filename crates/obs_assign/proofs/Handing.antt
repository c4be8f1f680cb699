-- A path whose meters hand their branches on.
use Rattle.std.proofs.Common.{◌≡◌, ◌≢◌, ℕ, ◌+◌, ◌-◌, ◌<◌, Option, Some, None, List, [], ◌∷◌, length, get_or, set, drop, refl, sym, ap, ◌∙◌, inl, inr, ◌↔◌, arith, get_or-set_same, get_or-set_other, length-set}
use Rattle.std.specs.Prelude.{All}
use Rattle.std.proofs.lemmas.Bool.{cases_eq}
use Rattle.std.proofs.lemmas.List.{drop_all, drop_more, same_lists}
use Rattle.obs_matroid.specs.Lists.{In}
use Rattle.obs_matroid.specs.Assignments.{branches}
use Rattle.obs_matroid.specs.inner.Slots.{pairs_of}
use Rattle.obs_matroid.proofs.Lists.{length-within}
use Rattle.obs_matroid.proofs.Contained.{In-from_All}
use Rattle.obs_matroid.proofs.Bounds.{length-branches}
use Rattle.obs_assign.specs.declared.Move.{Move}
use Rattle.obs_assign.specs.inner.Kept.{IsInverse, SlotsApart}
use Rattle.obs_assign.specs.inner.Moves.{HandsOn, moved}
use Rattle.obs_assign.specs.inner.Pins.{pinned_slots}
use Rattle.obs_assign.proofs.Slotted.{distinct-from_apart, none_some, some_same}
use Rattle.obs_assign.proofs.Pinning.{pinned-other}
use Rattle.obs_assign.proofs.Afterwards.{Differ, head_apart, tail_apart}

-- slots that agree at the meters of the moves
HandsOn-kept : (slots new : List (Option ℕ)) (before : Option ℕ) (path : List Move) → ((x : Move) → In x path → get_or new x.meter None ≡ get_or slots x.meter None) → HandsOn slots before path → HandsOn new before path
HandsOn-kept slots new before [] same h = tt
HandsOn-kept slots new before (x ∷ path) same h = (same x (inl refl) ∙ h.0, HandsOn-kept slots new (Some x.branch) path (λ y i. same y (inr i)) h.1)

-- a branch has one owner
pub apart-inverse : (slots owners : List (Option ℕ)) → IsInverse slots owners → SlotsApart slots
apart-inverse slots owners inverse m n e h k = some_same m n (sym ((inverse m e).0 h) ∙ (inverse n e).0 k)

-- as many pairs as branches
pub count-same : (slots new : List (Option ℕ)) → SlotsApart slots → SlotsApart new → ((e : ℕ) → In e (branches (pairs_of new)) ↔ In e (branches (pairs_of slots)))
    → length (pairs_of new) ≡ length (pairs_of slots)
count-same slots new a b same =
    let ps = branches (pairs_of slots) in
    let qs = branches (pairs_of new) in
    let up = length-within qs ps (distinct-from_apart new b) (λ x i. (same x).0 i) in
    let down = length-within ps qs (distinct-from_apart slots a) (λ x i. (same x).1 i) in
    omega (arith, up, down, length-branches (pairs_of slots), length-branches (pairs_of new))

-- what a slot had doesn't matter where it is written after all
set-pinned : (slots : List (Option ℕ)) (m e k f : ℕ) → m ≢ k → m < length slots → k < length slots → set (pinned_slots slots m e k) k (Some f) ≡ set (set slots m (Some e)) k (Some f)
set-pinned slots m e k f ne lm lk =
    let old = set slots m (Some e) in
    let less = set slots k None in
    let new = pinned_slots slots m e k in
    let o = length-set slots m (Some e) in
    let l = length-set slots k None in
    let n = length-set less m (Some e) in
    same_lists (set new k (Some f)) (set old k (Some f)) (omega (arith, o, l, n, length-set new k (Some f), length-set old k (Some f))) (λ j d low. elim (cases_eq j k) [
      | inl y ↦ rw y (get_or-set_same new k (Some f) d (omega (arith, l, n, lk)) ∙ sym (get_or-set_same old k (Some f) d (omega (arith, o, lk))))
      | inr a ↦ get_or-set_other new k j (Some f) d a ∙ (elim (cases_eq j m) [
        | inl y ↦ rw y (get_or-set_same less m (Some e) d (omega (arith, l, lm)) ∙ sym (get_or-set_same slots m (Some e) d lm))
        | inr b ↦ get_or-set_other less m j (Some e) d b ∙ (get_or-set_other slots k j None d a ∙ sym (get_or-set_other slots m j (Some e) d b))
      ] ∙ sym (get_or-set_other old k j (Some f) d a))
    ])

-- the moves that are left put in what the path does, and hand their branches on
pub record IsHanding (path : List Move) (before : List (Option ℕ)) (rest : List Move) (slots : List (Option ℕ)) : Type 0 where
  pub low : (x : Move) → In x rest → x.meter < length slots
  pub hands : HandsOn slots None rest
  pub different : Differ rest
  pub moved_are : moved rest slots ≡ moved path before

-- one step: the next meter hands its branch on
module _ (path : List Move) (before : List (Option ℕ)) (x y : Move) (rest : List Move) (slots : List (Option ℕ)) (h : IsHanding path before (x ∷ y ∷ rest) slots) where
  lm : x.meter < length slots
  lm = h.low x (inl refl)

  lk : y.meter < length slots
  lk = h.low y (inr (inl refl))

  apart : x.meter ≢ y.meter
  apart = head_apart x (y ∷ rest) h.different y (inl refl)

  pub hand_bare : (f : ℕ) → get_or slots x.meter None ≡ Some f → f ≡ x.branch
  hand_bare f s = absurd (none_some f (sym h.hands.0 ∙ s))

  gone : get_or (pinned_slots slots x.meter x.branch y.meter) y.meter None ≡ None
  gone = get_or-set_other (set slots y.meter None) x.meter y.meter (Some x.branch) None (λ s. apart (sym s)) ∙ get_or-set_same slots y.meter None None lk

  after : (z : Move) → In z rest → get_or (pinned_slots slots x.meter x.branch y.meter) z.meter None ≡ get_or slots z.meter None
  after z i =
      pinned-other slots x.meter x.branch y.meter lm z.meter
      (λ s. head_apart x (y ∷ rest) h.different z (inr i) (sym s))
      (λ s. head_apart y rest (tail_apart x (y ∷ rest) h.different) z i (sym s))

  pub Handing-more : IsHanding path before (y ∷ rest) (pinned_slots slots x.meter x.branch y.meter)
  Handing-more = record {
    low = λ z i. omega (arith, h.low z (inr i), length-set (set slots y.meter None) x.meter (Some x.branch), length-set slots y.meter None);
    hands = (gone, HandsOn-kept slots (pinned_slots slots x.meter x.branch y.meter) (Some y.branch) rest after h.hands.1.1);
    different = tail_apart x (y ∷ rest) h.different;
    moved_are = ap (moved rest) (set-pinned slots x.meter x.branch y.meter y.branch apart lm lk) ∙ h.moved_are;
  }

-- before the first step
pub Handing-begun : (path : List Move) (slots : List (Option ℕ)) → All (λ (x : Move). x.meter < length slots) path → HandsOn slots None path → Differ path → IsHanding path slots path slots
Handing-begun path slots low hands different = record {
  low = In-from_All (λ (x : Move). x.meter < length slots) path low;
  hands = hands;
  different = different;
  moved_are = refl;
}

-- two moves are left, and more
pub two_left : (path : List Move) (i : ℕ) (d : Move) → i + 1 < length path → drop i path ≡ get_or path i d ∷ get_or path (i + 1) d ∷ drop (i + 1 + 1) path
two_left path i d l = drop_more path i d (omega (arith, l)) ∙ ap (λ (rest : List Move). get_or path i d ∷ rest) (drop_more path (i + 1) d l)

-- the last move is left
pub one_left : (path : List Move) (d : Move) → 0 < length path → drop (length path - 1) path ≡ get_or path (length path - 1) d ∷ []
one_left path d l =
    drop_more path (length path - 1) d (omega (arith, l)) ∙ ap (λ (rest : List Move). get_or path (length path - 1) d ∷ rest) (drop_all (length path - 1 + 1) path (omega (arith, l)))
