-- Exchange paths: items that take new branches one after the other, so that an item with no pair gets one.
use Rattle.std.specs.Prelude.{◌≡◌, ℕ, suc, Bool, true, false, List, [], ◌∷◌, length, ◌⊎◌}
use Rattle.obs_matroid.specs.Lists.{In, other_than}
use Rattle.obs_matroid.specs.Matroid.{Matroid}
use Rattle.obs_matroid.specs.Assignments.{Pair, items, branches, IsAssignment}
use Rattle.obs_matroid.specs.inner.Assignments.{part, others}
use Rattle.obs_matroid.specs.inner.Closed.{Extends}

-- A after the move p: its item has its branch now, in place of the one that it had
abbrev pub put : Pair → List Pair → List Pair
put p A = p ∷ part (other_than p.0) A

-- A after these moves, the first of the list first; of an exchange path, which is listed from its last move back, the last move is put first
abbrev pub put_all : List Pair → List Pair → List Pair
put_all [] A = A
put_all (p ∷ back) A = put_all back (put p A)

-- the branch of m lies on the circuit that the branch of the move p makes with those of A, and on that of no earlier move
pub record IsLink (g : Matroid) (A : List Pair) (m : ℕ) (p : Pair) (back : List Pair) : Type 0 where
  pub spanned : g.spans (branches A) p.1 ≡ true
  pub on_circuit : g.spans (others A m) p.1 ≡ false
  pub no_shortcut : (q : Pair) → In q back → g.spans (others A m) q.1 ≡ true

-- the moves, listed from the last one back, lead without shortcuts from an item with no pair to m
abbrev pub LeadsTo : Matroid → List Pair → ℕ → List Pair → Type 0
LeadsTo g A m [] = In m (items A) → ⊥
LeadsTo g A m (p ∷ back) = IsLink g A m p back × LeadsTo g A p.0 back

-- the item at which the moves begin
abbrev pub source : ℕ → List Pair → ℕ
source m [] = m
source m (p ∷ back) = source p.0 back

-- an exchange path: each move gives an item of M a branch that it touches, the branch of the last move is free
-- (the branches of A do not span it), and the moves before it, listed from the last one back, lead to its item
pub record IsExchangePath (g : Matroid) (touch : ℕ → List ℕ) (M : List ℕ) (A : List Pair) (last : Pair) (back : List Pair) : Type 0 where
  pub moves : (q : Pair) → In q (last ∷ back) → In q.0 M × In q.1 (touch q.0)
  pub free : g.spans (branches A) last.1 ≡ false
  pub leads : LeadsTo g A last.0 back

-- B has one pair more than A: the item s has a pair (that it had none in A is said by the path), and no item lost its pair
pub record IsLonger (g : Matroid) (touch : ℕ → List ℕ) (M : List ℕ) (A B : List Pair) (s : ℕ) : Type 0 where
  pub assigns : IsAssignment g touch M B
  pub longer : length B ≡ suc (length A)
  pub gains : In s (items B)
  pub keeps : (x : ℕ) → In x (items A) → In x (items B)

-- A with m and e made a pair: the pair of m and the pair of x are given up, and no other
abbrev pub pinned : List Pair → ℕ → ℕ → ℕ → List Pair
pinned A m e x = put (m, e) (part (other_than x) A)

-- m and e are pinned at the price of the pair of x, if it has one and is another item than m: x is not frozen,
-- all frozen pairs are kept, and each item but m and x keeps its pair (so x is the item that had the branch e, if one had it)
pub record IsPinned (g : Matroid) (touch : ℕ → List ℕ) (M : List ℕ) (frozen : ℕ → Bool) (A : List Pair) (m e x : ℕ) : Type 0 where
  pub not_frozen : frozen x ≡ false
  pub assigns : IsAssignment g touch M (pinned A m e x)
  pub keeps : Extends frozen A (pinned A m e x)
  pub others_stay : (p : Pair) → In p A → (p.0 ≡ m) ⊎ ((p.0 ≡ x) ⊎ In p (pinned A m e x))
