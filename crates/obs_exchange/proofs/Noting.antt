-- The noted meters, among which a search looks for its sources.
use Rattle.std.proofs.Common.{◌≡◌, ℕ, ◌+◌, ◌<◌, ◌≤◌, Bool, true, false, ◌||◌, Option, None, List, length, set, refl, sym, ap, ◌∙◌, subst, inl, inr, arith}
use Rattle.std.proofs.lemmas.Bool.{cases_eq, cases_lt}
use Rattle.std.proofs.lemmas.List.{get_or-set_other, get_or-set_same}
use Rattle.obs_graph.specs.declared.Ends.{Ends}
use Rattle.obs_matroid.proofs.Comparing.{cases_Option}
use Rattle.obs_matroid.proofs.Lists.{clash}
use Rattle.obs_meter.specs.declared.Touch.{Touch}
use Rattle.obs_assign.specs.Assignment.{Assignment}
use Rattle.obs_assign.specs.inner.Assignment.{branch_at, has_flag}
use Rattle.obs_assign.proofs.Slotted.{none_some}
use Rattle.obs_exchange.specs.declared.Sources.{Sources}
use Rattle.obs_exchange.specs.declared.Sources.TheVariants.{All, One}
use Rattle.obs_exchange.specs.inner.Closed.{IsSource}
use Rattle.obs_exchange.specs.inner.Found.{HasGrown}
use Rattle.obs_exchange.specs.inner.Noting.{AreNoted, AreNotedIn, Noted, is_noted}
use Rattle.obs_exchange.specs.inner.Setting.{IsSourceIn, Setting}
use Rattle.obs_exchange.specs.inner.Trail.{Keeps}
use Rattle.obs_exchange.proofs.Beginning.{source_bare}

-- where all meters are noted, the sources are
pub AreNoted-all : (ends : List (Option Ends)) (touches : List Touch) (from : Sources) (a : Assignment) (n : Noted) → n.all ≡ true → AreNoted ends touches from a n
AreNoted-all ends touches from a n t m s = ap (λ b. b || has_flag n.flags m) t

noted_other : (n : Noted) (m k : ℕ) (v : Bool) → (k ≡ m → ⊥) → is_noted n k ≡ true → is_noted (record n { flags = set n.flags m v }) k ≡ true
noted_other n m k v ne t = ap (λ b. n.all || b) (get_or-set_other n.flags m k v false ne) ∙ t

-- a meter that has a pair needn't be noted
pub AreNoted-less : (ends : List (Option Ends)) (touches : List Touch) (from : Sources) (b : Assignment) (m : ℕ) (n : Noted) → (branch_at b m ≡ None → ⊥)
    → AreNoted ends touches from b n → AreNoted ends touches from b (record n { flags = set n.flags m false })
AreNoted-less ends touches from b m n paired h k s = noted_other n m k false (λ e. paired (ap (branch_at b) (sym e) ∙ source_bare ends touches from b k s)) (h k s)

-- after an assignment has grown, the meter that has a pair now needn't be noted: each other source was one before
pub AreNoted-grown : (ends : List (Option Ends)) (touches : List Touch) (from : Sources) (a b : Assignment) (m : ℕ) (n : Noted) → HasGrown ends touches from a b m
    → AreNoted ends touches from a n → AreNoted ends touches from b (record n { flags = set n.flags m false })
AreNoted-grown ends touches from a b m n g h = AreNoted-less ends touches from b m n g.gains (λ k s. h k (before from k s))
  where
    was_bare : (k : ℕ) → branch_at b k ≡ None → branch_at a k ≡ None
    was_bare k n = elim (cases_Option (branch_at a k)) [ inl e ↦ e | inr s ↦ absurd (g.keeps k (λ e. none_some s.0 (sym e ∙ s.1)) n) ]

    before : (from : Sources) (k : ℕ) → IsSource ends touches from b k → IsSource ends touches from a k
    before All k s = (s.0, was_bare k s.1)
    before (One x) k s = (s.0, s.1, was_bare k s.2)

-- one meter more is noted
pub AreNoted-more : (ends : List (Option Ends)) (touches : List Touch) (a b : Assignment) (m : ℕ) (n : Noted) → m < length n.flags
    → ((k : ℕ) → branch_at b k ≡ None → (k ≡ m → ⊥) → branch_at a k ≡ None)
    → AreNoted ends touches All a n → AreNoted ends touches All b (record n { flags = set n.flags m true })
AreNoted-more ends touches a b m n l less h k s = elim (cases_eq k m) [
  | inl e ↦ rw e (noted_self n m l)
  | inr ne ↦ noted_other n m k true ne (h k (s.0, less k s.1 ne))
]
  where
    or_true : (b : Bool) → (b || true) ≡ true
    or_true true = refl
    or_true false = refl

    noted_self : (n : Noted) (m : ℕ) → m < length n.flags → is_noted (record n { flags = set n.flags m true }) m ≡ true
    noted_self n m l = ap (λ b. n.all || b) (get_or-set_same n.flags m true false l) ∙ or_true n.all

module _ (over : Setting) (n : Noted) (noted : AreNotedIn over n) (first limit next : ℕ) where
  -- there is no source before the first noted meter
  pub marked_first : (marks : List Bool) → ((k : ℕ) → first ≤ k → k < next → k < limit → is_noted n k ≡ false)
      → (k : ℕ) → first ≤ k → k < next → k < limit → IsSourceIn over k → has_flag marks k ≡ true
  marked_first marks passed k low l lim s = clash (noted.noted k s) (passed k low l lim)

  -- where the sources before m were marked, and m is where it is one, those before the next noted meter are
  pub marked_next : (m : ℕ) (before after : List Bool) → Keeps before after
      → ((k : ℕ) → first ≤ k → k < m → k < limit → IsSourceIn over k → has_flag before k ≡ true)
      → (IsSourceIn over m → has_flag after m ≡ true)
      → ((k : ℕ) → m + 1 ≤ k → k < next → k < limit → is_noted n k ≡ false)
      → (k : ℕ) → first ≤ k → k < next → k < limit → IsSourceIn over k → has_flag after k ≡ true
  marked_next m before after keeps old own passed k low l lim s = elim (cases_lt k m) [
    | inl b ↦ keeps k (old k low b lim s)
    | inr ge ↦ elim (cases_lt m k) [
      | inl b ↦ clash (noted.noted k s) (passed k (omega (arith, b)) l lim)
      | inr le ↦ let y : k ≡ m = omega (arith, ge, le) in subst (λ (j : ℕ). has_flag after j ≡ true) (sym y) (own (subst (λ (j : ℕ). IsSourceIn over j) y s))
    ]
  ]
