-- What a search leaves that went by what one meter was made to touch.
use Rattle.std.proofs.Common.{◌≡◌, ℕ, ◌<◌, Bool, true, false, Option, None, Some, List, [], ◌∷◌, length, get_or, set, sym, ap, ◌∙◌, subst, inl, inr, ◌⊎◌, arith}
use Rattle.std.specs.Prelude.{nat_lt}
use Rattle.std.proofs.lemmas.Bool.{cases_eq, lt-ltb}
use Rattle.std.proofs.lemmas.List.{get_or-set_other, length-set, set-get_or}
use Rattle.obs_graph.specs.declared.Ends.{Ends}
use Rattle.obs_graph.specs.Graph.{Graph}
use Rattle.obs_matroid.specs.Lists.{In}
use Rattle.obs_matroid.proofs.Comparing.{cases_Option}
use Rattle.obs_matroid.proofs.Lists.{clash}
use Rattle.obs_meter.specs.declared.Touch.{Touch}
use Rattle.obs_meter.specs.declared.Touch.TheVariants.{Edge, Nothing}
use Rattle.obs_meter.specs.Touches.{is_live, touch_at}
use Rattle.obs_meter.proofs.Touched.{itself_from}
use Rattle.obs_assign.specs.Assignment.{Assignment}
use Rattle.obs_assign.specs.inner.Assignment.{StandsOver, branch_at, is_frozen}
use Rattle.obs_assign.proofs.Slotted.{none_some}
use Rattle.obs_exchange.specs.declared.Sources.{Sources}
use Rattle.obs_exchange.specs.declared.Sources.TheVariants.{All, One}
use Rattle.obs_exchange.specs.inner.Found.{HasGrown}
use Rattle.obs_exchange.specs.inner.Noting.{AreNoted, Noted}
use Rattle.obs_exchange.proofs.Changing.{StandsOver-changed, live_other, set_back, touch_changed, touch_other}
use Rattle.obs_exchange.proofs.Noting.{AreNoted-less, AreNoted-more}
use Rattle.obs_first.specs.inner.Deciding.{KeepsFrozen}

-- a thawed meter lost its pair
module _ (a b : Assignment) (m : ℕ) (slots : b.slots ≡ set a.slots m None) (thawed : is_frozen a m ≡ false) where
  pub other_slot : (k : ℕ) → (k ≡ m → ⊥) → branch_at b k ≡ branch_at a k
  other_slot k n = ap (λ (s : List (Option ℕ)). get_or s k None) slots ∙ get_or-set_other a.slots m k None None n

  pub dropped_frozen : b.frozen ≡ set a.frozen m false → b.frozen ≡ a.frozen
  dropped_frozen is = is ∙ subst (λ (v : Bool). set a.frozen m v ≡ a.frozen) thawed (set-get_or a.frozen m false)

  pub dropped_keeps : KeepsFrozen a b
  dropped_keeps x f = other_slot x (λ y. clash (ap (is_frozen a) (sym y) ∙ f) thawed)

  -- it is a source from then on
  pub dropped_noted : (ends : List (Option Ends)) (touches : List Touch) (n : Noted) → m < length n.flags → AreNoted ends touches All a n → AreNoted ends touches All b (record n { flags = set n.flags m true })
  dropped_noted ends touches n l h = AreNoted-more ends touches a b m n l (λ k none ne. sym (other_slot k ne) ∙ none) h

-- what was noted is noted after the search
module _ (ends : List (Option Ends)) (touches over : List Touch) (from : Sources) (a b : Assignment) (x : ℕ) (grown : HasGrown ends over from a b x) where
  was_bare : (k : ℕ) → branch_at b k ≡ None → branch_at a k ≡ None
  was_bare k n = elim (cases_Option (branch_at a k)) [ inl e ↦ e | inr s ↦ absurd (grown.keeps k (λ e. none_some s.0 (sym e ∙ s.1)) n) ]

  pub grown_noted : (n : Noted) → AreNoted ends touches All a n → AreNoted ends touches All b n
  grown_noted n h k s = h k (s.0, was_bare k s.1)

  -- and the meter that has a pair now needn't be
  pub grown_noted_less : (n : Noted) → AreNoted ends touches All a n → AreNoted ends touches All b (record n { flags = set n.flags x false })
  grown_noted_less n h = AreNoted-less ends touches All b x n grown.gains (grown_noted n h)

-- the meter touches nothing
module _ (g : Graph) (touches : List Touch) (m : ℕ) (low : m < length touches) where
  pub bare_over : (a : Assignment) → StandsOver a g (set touches m Nothing) → branch_at a m ≡ None
  bare_over a s = elim (cases_Option (branch_at a m)) [
    | inl n ↦ n
    | inr y ↦ absurd (subst (λ (l : List ℕ). In y.0 l) (touch_changed g.ends touches m Nothing low) (s.touched m y.0 y.1))
  ]

  pub stands_again : (a : Assignment) → StandsOver a g (set touches m Nothing) → StandsOver a g touches
  stands_again a s = subst (λ (over : List Touch). StandsOver a g over) (set_back touches m Nothing) (StandsOver-changed g (set touches m Nothing) m (get_or touches m Nothing) a (bare_over a s) s)

  pub noted_without : (a : Assignment) (n : Noted) → AreNoted g.ends touches All a n → AreNoted g.ends (set touches m Nothing) All a n
  noted_without a n h k s = h k (sym (live_other g.ends touches m Nothing k (λ y. clash (ap (is_live g.ends (set touches m Nothing)) (sym y) ∙ s.0) not_live)) ∙ s.0, s.1)
    where
      not_live : is_live g.ends (set touches m Nothing) m ≡ false
      not_live = ap (λ (l : List ℕ). nat_lt 0 (length l)) (touch_changed g.ends touches m Nothing low)

-- the meter touches one branch, of those that it touches
module _ (g : Graph) (touches : List Touch) (m e : ℕ) (low : m < length touches) (touched : In e (touch_at g.ends touches m)) where
  own_branch : (a : Assignment) (y : ℕ) → StandsOver a g (set touches m (Edge e)) → branch_at a m ≡ Some y → y ≡ e
  own_branch a y s h = (itself_from (get_or g.ends e None) e y (subst (λ (l : List ℕ). In y l) (touch_changed g.ends touches m (Edge e) low) (s.touched m y h))).0

  pub has_edge : (a : Assignment) → StandsOver a g (set touches m (Edge e)) → (branch_at a m ≡ None) ⊎ (branch_at a m ≡ Some e)
  has_edge a s = elim (cases_Option (branch_at a m)) [
    | inl n ↦ inl n
    | inr y ↦ inr (y.1 ∙ ap Some (own_branch a y.0 s y.1))
  ]

  pub stands_with_edge : (a : Assignment) → StandsOver a g (set touches m (Edge e)) → StandsOver a g touches
  stands_with_edge a s = record {
    forest = s.forest;
    meters = sym (length-set touches m (Edge e)) ∙ s.meters;
    touched = λ k f h. elim (cases_eq k m) [
      | inl y ↦
          let is : f ≡ e = own_branch a f s (ap (branch_at a) (sym y) ∙ h) in
          subst (λ (x : ℕ). In f (touch_at g.ends touches x)) (sym y) (subst (λ (x : ℕ). In x (touch_at g.ends touches m)) (sym is) touched)
      | inr n ↦ subst (λ (l : List ℕ). In f l) (touch_other g.ends touches m (Edge e) k n) (s.touched k f h)
    ];
  }

  pub noted_with_edge : (a : Assignment) (n : Noted) → AreNoted g.ends touches All a n → AreNoted g.ends (set touches m (Edge e)) (One m) a n
  noted_with_edge a n h k s = h k (subst (λ (x : ℕ). is_live g.ends touches x ≡ true) (sym s.0) (some_in (touch_at g.ends touches m) touched), s.2)
    where
      some_in : (xs : List ℕ) → In e xs → nat_lt 0 (length xs) ≡ true
      some_in [] i = absurd i
      some_in (x ∷ xs) i = lt-ltb 0 (length (x ∷ xs)) (omega arith)
