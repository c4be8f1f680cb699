-- A search that begins, and its sources.
use Rattle.std.proofs.Common.{◌≡◌, ℕ, zero, suc, ◌≤◌, Bool, true, false, Option, None, List, length, replicate, get_or, take, sym, ◌∙◌, subst, inl, inr, arith}
use Rattle.std.proofs.lemmas.Bool.{cases_Bool}
use Rattle.std.proofs.lemmas.List.{length-replicate}
use Rattle.obs_graph.specs.declared.Ends.{Ends}
use Rattle.obs_graph.specs.Graph.{Graph}
use Rattle.obs_graph.specs.Positions.{branches_at}
use Rattle.obs_matroid.specs.Lists.{In}
use Rattle.obs_meter.specs.declared.Touch.{Touch}
use Rattle.obs_assign.specs.Assignment.{Assignment}
use Rattle.obs_assign.specs.inner.Assignment.{IsWhole, StandsOver, has_flag, is_frozen}
use Rattle.obs_assign.proofs.Keeping.{replicate_at}
use Rattle.obs_assign.proofs.Slotted.{item_slot, none_some}
use Rattle.obs_exchange.specs.declared.Sources.{Sources}
use Rattle.obs_exchange.specs.declared.Sources.TheVariants.{All, One}
use Rattle.obs_exchange.specs.inner.Closed.{IsSource}
use Rattle.obs_exchange.specs.inner.Found.{CanBegin}
use Rattle.obs_exchange.specs.inner.Searching.{AreStarred, IsSearching}
use Rattle.obs_exchange.specs.inner.Setting.{IsSound, Setting, end_of}
use Rattle.obs_exchange.specs.inner.Trail.{AreFull, Trail, cleared}

-- where a search may begin, its sources are meters
pub sources_low : (from : Sources) (a : Assignment) (g : Graph) (touches : List Touch) → CanBegin from a → StandsOver a g touches → end_of from (length touches) ≤ length touches
sources_low All a g touches b s = omega (arith)
sources_low (One m) a g touches b s = omega (arith, b.0, s.meters)

-- a source has no pair
pub source_bare : (ends : List (Option Ends)) (touches : List Touch) (from : Sources) (a : Assignment) (m : ℕ) → IsSource ends touches from a m → get_or a.slots m None ≡ None
source_bare ends touches All a m s = s.1
source_bare ends touches (One k) a m s = s.2

-- and so isn't frozen
pub source_thawed : (ends : List (Option Ends)) (touches : List Touch) (from : Sources) (a : Assignment) (m : ℕ) → IsWhole a → IsSource ends touches from a m → is_frozen a m ≡ false
source_thawed ends touches from a m whole s = elim (cases_Bool (is_frozen a m)) [
  | inr f ↦ f
  | inl t ↦ let b = item_slot a.slots m (whole.paired.frozen_have m t) in absurd (none_some b.0 (sym (source_bare ends touches from a m s) ∙ b.1))
]

no_flag : (n x : ℕ) → has_flag (replicate n false) x ≡ true → ⊥
no_flag zero x t = absurd (cc t)
no_flag (suc n) zero t = absurd (cc t)
no_flag (suc n) (suc x) t = no_flag n x t

-- before anything is reached
pub IsSearching-start : (over : Setting) → IsSound over → (trail : Trail) → length over.touches ≤ length trail.marks → length over.graph.ends ≤ length trail.walked
    → AreFull (cleared trail) → IsSearching over (cleared trail)
IsSearching-start over sound trail meters branches full =
    let none = λ (x : ℕ). no_flag (length trail.marks) x in
    let unwalked = λ (e : ℕ). no_flag (length trail.walked) e in
    let marks = length-replicate (length trail.marks) false in
    let walked = length-replicate (length trail.walked) false in
    search (arith, none, unwalked, marks, walked)

pub AreStarred-start : (over : Setting) (n : ℕ) (walked : List Bool) → over.graph.vertices ≤ n → AreStarred over (replicate n 0) walked
AreStarred-start over n walked l = record {
  room = let e = length-replicate {A = ℕ} n 0 in omega (arith, e, l);
  starred = λ v e i. absurd (subst (λ k. In e (take k (branches_at over.graph.ends v))) (replicate_at n v 0) i);
}
