-- Who has what after the moves of a path, and after a pin.
use Rattle.std.proofs.Common.{◌≡◌, ◌≢◌, ℕ, suc, ◌<◌, Option, Some, None, List, [], ◌∷◌, length, get_or, set, refl, sym, ap, ◌∙◌, inl, inr, arith, get_or-set_same, get_or-set_other, length-set}
use Rattle.std.specs.List.{AllPairs}
use Rattle.obs_graph.specs.declared.Ends.{Ends}
use Rattle.obs_matroid.specs.Lists.{In}
use Rattle.obs_matroid.proofs.Contained.{Contains-from_In}
use Rattle.obs_assign.specs.declared.Move.{Move}
use Rattle.obs_assign.specs.Assignment.{Assignment}
use Rattle.obs_assign.specs.inner.Assignment.{IsWhole, branch_at}
use Rattle.obs_assign.specs.inner.Moves.{ArePath, moved}
use Rattle.obs_assign.specs.inner.Pins.{IsPinnedAt}
use Rattle.obs_assign.proofs.Keeping.{path_low}
use Rattle.obs_assign.proofs.Pinning.{pinned-at, pinned-other}
use Rattle.obs_assign.proofs.Slotted.{slots_apart}

-- no two of the moves have one meter
abbrev pub Differ : List Move → Type 0
Differ path = AllPairs (λ (x y : Move). x.meter ≢ y.meter) path

pub head_apart : (x : Move) (path : List Move) → Differ (x ∷ path) → (y : Move) → In y path → x.meter ≢ y.meter
head_apart x path d y i = let c = Contains-from_In y path i in let l = c.1 in λ e. d 0 (suc c.0) y (omega arith) (omega (arith, l)) (e ∙ sym (ap (λ (z : Move). z.meter) c.2))

pub tail_apart : (x : Move) (path : List Move) → Differ (x ∷ path) → Differ path
tail_apart x path d = λ i j e l m. d (suc i) (suc j) e (omega (arith, l)) (omega (arith, m))

-- a meter that isn't moved keeps what it has
pub moved-kept : (path : List Move) (slots : List (Option ℕ)) (m : ℕ) → ((x : Move) → In x path → x.meter ≢ m) → get_or (moved path slots) m None ≡ get_or slots m None
moved-kept [] slots m other = refl
moved-kept (x ∷ path) slots m other =
    moved-kept path (set slots x.meter (Some x.branch)) m (λ y i. other y (inr i)) ∙ get_or-set_other slots x.meter m (Some x.branch) None (λ e. other x (inl refl) (sym e))

-- each meter that is moved has the branch of its move
pub moved-taken : (path : List Move) (slots : List (Option ℕ)) → Differ path → ((x : Move) → In x path → x.meter < length slots)
    → (x : Move) → In x path → get_or (moved path slots) x.meter None ≡ Some x.branch
moved-taken [] slots d low x i = absurd i
moved-taken (y ∷ path) slots d low x (inl e) =
    rw e (moved-kept path (set slots y.meter (Some y.branch)) y.meter (λ z i s. head_apart y path d z i (sym s)) ∙ get_or-set_same slots y.meter (Some y.branch) None (low y (inl refl)))
moved-taken (y ∷ path) slots d low x (inr i) =
    moved-taken path (set slots y.meter (Some y.branch)) (tail_apart y path d) (λ z k. let l = low z (inr k) in omega (arith, l, length-set slots y.meter (Some y.branch))) x i

pub path_taken : (a : Assignment) (path : List Move) → ArePath a path → (x : Move) → In x path → get_or (moved path a.slots) x.meter None ≡ Some x.branch
path_taken a [] h x i = absurd i
path_taken a (first ∷ rest) h x i = moved-taken (first ∷ rest) a.slots h.different (path_low a (first ∷ rest) h) x i

-- a meter has its branch alone
pub one_owner : (a : Assignment) → IsWhole a → (m k e : ℕ) → branch_at a m ≡ Some e → branch_at a k ≡ Some e → m ≡ k
one_owner a whole m k e = slots_apart a.forest.held a.slots whole.paired.holds.forest m k e

module _ (a : Assignment) (ends : List (Option Ends)) (m e x : ℕ) (after : List (Option ℕ)) (h : IsPinnedAt a ends m e after x) where
  pub pin_taken : m < length a.slots → get_or after m None ≡ Some e
  pin_taken low = rw h.pairs_are (pinned-at a.slots m e x low)

  pub pin_gone : x ≢ m → get_or after x None ≡ None
  pin_gone other = rw h.pairs_are (get_or-set_other (set a.slots x None) m x (Some e) None other ∙ get_or-set_same a.slots x None None h.low)

  pub pin_kept : m < length a.slots → (k : ℕ) → k ≢ m → k ≢ x → get_or after k None ≡ get_or a.slots k None
  pin_kept low k other spare = rw h.pairs_are (pinned-other a.slots m e x low k other spare)
