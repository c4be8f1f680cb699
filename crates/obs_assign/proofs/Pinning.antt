-- Slots after a pin, where the branches stay the same.
use Rattle.std.proofs.Common.{◌≡◌, ℕ, ◌<◌, Option, Some, None, List, length, get_or, set, take, refl, sym, ap, ◌∙◌, inl, inr, ◌⊎◌, ◌↔◌, arith, get_or-set_same, get_or-set_other, length-set}
use Rattle.std.specs.Prelude.{IsSome}
use Rattle.std.proofs.lemmas.Bool.{cases_eq, cases_lt}
use Rattle.std.proofs.lemmas.List.{get_or_past, set-set, set_comm}
use Rattle.std.proofs.Math.Seq.{take-set-lt}
use Rattle.obs_matroid.specs.Lists.{In}
use Rattle.obs_matroid.specs.Assignments.{branches}
use Rattle.obs_matroid.specs.inner.Slots.{pairs_of}
use Rattle.obs_assign.specs.inner.Kept.{IsInverse}
use Rattle.obs_assign.specs.inner.Pins.{pinned_slots}
use Rattle.obs_assign.proofs.Slotted.{branch_slot, none_some, slot_branch, some_same}

-- nothing was written
pub nothing : (slots : List (Option ℕ)) (x : ℕ) → get_or (set slots x None) x None ≡ None
nothing slots x = elim (cases_lt x (length slots)) [
  | inl l ↦ get_or-set_same slots x None None l
  | inr l ↦ get_or_past (set slots x None) x None (omega (arith, l, length-set slots x None))
]

pub some_there : (o : Option ℕ) → IsSome o → (y : ℕ) × (o ≡ Some y)
some_there None s = absurd cc
some_there (Some y) s = (y, refl)

-- writes below n
pub take-pinned : (n : ℕ) (slots : List (Option ℕ)) (m e x : ℕ) → m < n → x < n → take n (pinned_slots slots m e x) ≡ pinned_slots (take n slots) m e x
take-pinned n slots m e x lm lx = take-set-lt n (set slots x None) m (Some e) lm ∙ ap (λ s. set s m (Some e)) (take-set-lt n slots x None lx)

-- the pair that the meter had doesn't matter
pub pinned-lost : (slots : List (Option ℕ)) (m e x : ℕ) → pinned_slots (set slots m None) m e x ≡ pinned_slots slots m e x
pinned-lost slots m e x = elim (cases_eq m x) [
  | inl y ↦ ap (λ s. set s m (Some e)) (ap (λ k. set (set slots m None) k None) (sym y) ∙ (set-set slots m None None ∙ ap (λ k. set slots k None) y))
  | inr n ↦ ap (λ s. set s m (Some e)) (set_comm slots m x None None n) ∙ set-set (set slots x None) m None (Some e)
]

module _ (slots : List (Option ℕ)) (m e x : ℕ) (low : m < length slots) where
  pub pinned-at : get_or (pinned_slots slots m e x) m None ≡ Some e
  pinned-at = get_or-set_same (set slots x None) m (Some e) None (omega (arith, length-set slots x None))

  pub pinned-other : (k : ℕ) → (k ≡ m → ⊥) → (k ≡ x → ⊥) → get_or (pinned_slots slots m e x) k None ≡ get_or slots k None
  pinned-other k a b = get_or-set_other (set slots x None) m k (Some e) None a ∙ get_or-set_other slots x k None None b

  -- a pair after the pin is the new one, or was one before, of another meter than x
  pub pinned-from : (k f : ℕ) → get_or (pinned_slots slots m e x) k None ≡ Some f → ((k ≡ m) × (f ≡ e)) ⊎ ((k ≡ m → ⊥) × (k ≡ x → ⊥) × (get_or slots k None ≡ Some f))
  pinned-from k f h = elim (cases_eq k m) [
    | inl y ↦ inl (y, some_same f e (sym h ∙ (ap (λ i. get_or (pinned_slots slots m e x) i None) y ∙ pinned-at)))
    | inr n ↦ elim (cases_eq k x) [
      | inl y ↦
          let a : get_or (pinned_slots slots m e x) k None ≡ get_or (set slots x None) k None = get_or-set_other (set slots x None) m k (Some e) None n in
          absurd (at_x k f y (sym a ∙ h))
      | inr d ↦ inr (n, d, sym (pinned-other k n d) ∙ h)
    ]
  ]
    where
      at_x : (k f : ℕ) → k ≡ x → get_or (set slots x None) k None ≡ Some f → ⊥
      at_x k f y h = none_some f (sym (nothing slots x) ∙ (ap (λ i. get_or (set slots x None) i None) (sym y) ∙ h))

  -- where e had the meter x, and m had no other branch, the branches stay the same
  module _ (owners : List (Option ℕ)) (inverse : IsInverse slots owners) (owner : ℕ) (owned : get_or owners e None ≡ Some owner)
      (spare : (y : ℕ) → get_or slots y None ≡ Some e → y ≡ x) (before : (f : ℕ) → get_or slots m None ≡ Some f → f ≡ e) (room : e < length owners) where
    owner_is : owner ≡ x
    owner_is = spare owner ((inverse owner e).1 owned)

    at_owner : get_or slots x None ≡ Some e
    at_owner = ap (λ k. get_or slots k None) (sym owner_is) ∙ (inverse owner e).1 owned

    pub inverse-swapped : IsInverse (pinned_slots slots m e x) (set owners e (Some m))
    inverse-swapped k f = (
      (λ h. elim (pinned-from k f h) [
        | inl b ↦ ap (λ i. get_or (set owners e (Some m)) i None) b.1 ∙ (get_or-set_same owners e (Some m) None room ∙ ap Some (sym b.0))
        | inr b ↦ get_or-set_other owners e f (Some m) None (λ s. b.1 (spare k (b.2 ∙ ap Some s))) ∙ (inverse k f).0 b.2
      ]),
      (λ h. elim (cases_eq f e) [
        | inl y ↦
            let im : m ≡ k = some_same m k (sym (get_or-set_same owners e (Some m) None room) ∙ (ap (λ i. get_or (set owners e (Some m)) i None) (sym y) ∙ h)) in
            ap (λ i. get_or (pinned_slots slots m e x) i None) (sym im) ∙ (pinned-at ∙ ap Some (sym y))
        | inr n ↦
            let was : get_or slots k None ≡ Some f = (inverse k f).1 (sym (get_or-set_other owners e f (Some m) None n) ∙ h) in
            pinned-other k (λ s. n (before f (ap (λ i. get_or slots i None) (sym s) ∙ was))) (λ s. n (some_same f e (sym was ∙ (ap (λ i. get_or slots i None) s ∙ at_owner)))) ∙ was
      ]),
    )

    pub same_branches : (f : ℕ) → In f (branches (pairs_of (pinned_slots slots m e x))) ↔ In f (branches (pairs_of slots))
    same_branches f = (
      (λ i. let s = branch_slot (pinned_slots slots m e x) f i in
          elim (pinned-from s.0 f s.1) [
            | inl b ↦ slot_branch slots x f (at_owner ∙ ap Some (sym b.1))
            | inr b ↦ slot_branch slots s.0 f b.2
          ]),
      (λ i. let s = branch_slot slots f i in
          elim (cases_eq f e) [
            | inl y ↦ slot_branch (pinned_slots slots m e x) m f (pinned-at ∙ ap Some (sym y))
            | inr n ↦ slot_branch (pinned_slots slots m e x) s.0 f
                (pinned-other s.0 (λ t. n (before f (ap (λ i. get_or slots i None) (sym t) ∙ s.1))) (λ t. n (some_same f e (sym s.1 ∙ (ap (λ i. get_or slots i None) t ∙ at_owner)))) ∙ s.1)
          ]),
    )
