-- The critical meters are those with a pair that a closed set doesn't have.
use Rattle.std.proofs.Common.{◌≡◌, ℕ, Bool, not, ◌&&◌, List, refl, sym, ◌∙◌, inl, inr}
use Rattle.std.specs.Prelude.{filter}
use Rattle.std.proofs.lemmas.Bool.{cases_Bool}
use Rattle.obs_graph.specs.Graph.{Graph}
use Rattle.obs_matroid.proofs.Comparing.{cases_Option}
use Rattle.obs_matroid.proofs.Lists.{filter_same}
use Rattle.obs_meter.specs.declared.Touch.{Touch}
use Rattle.obs_meter.specs.Touches.{every_item, is_live}
use Rattle.obs_meter.proofs.Touched.{live-from_In}
use Rattle.obs_assign.specs.Assignment.{Assignment}
use Rattle.obs_assign.specs.inner.Assignment.{branch_at}
use Rattle.obs_exchange.specs.Critical.{critical_at, critical_meters}
use Rattle.obs_exchange.specs.inner.Laws.{HasClosedSet, IsThawed}
use Rattle.obs_exchange.proofs.Lawful.{critical_at-marks}
use Rattle.obs_critical.specs.inner.Listed.{is_unmarked_pair}

-- a live meter without a pair is marked, and a meter with a pair is live
pub unmarked_live : (a : Assignment) (g : Graph) (touches : List Touch) (S : ℕ → Bool) → HasClosedSet a g touches S → (m : ℕ) → is_unmarked_pair a S m ≡ (is_live g.ends touches m && not (S m))
unmarked_live a g touches S h m =
    elim (cases_Option (branch_at a m)) [
      | inl bare ↦ elim (cases_Bool (is_live g.ends touches m)) [
        | inl live ↦ rw (bare, live, h.least.holds m (live, bare)) refl
        | inr idle ↦ rw (bare, idle) refl
      ]
      | inr s ↦ rw (s.1, live-from_In g.ends touches m s.0 (h.stands.touched m s.0 s.1)) refl
    ]

pub unmarked_critical : (a : Assignment) (g : Graph) (touches : List Touch) (S : ℕ → Bool) → HasClosedSet a g touches S → IsThawed a
    → filter (is_unmarked_pair a S) (every_item touches) ≡ critical_meters g.vertices g.ends touches
unmarked_critical a g touches S h thawed =
    filter_same (is_unmarked_pair a S) (critical_at g.vertices g.ends touches) (every_item touches) (λ m i. unmarked_live a g touches S h m ∙ sym (critical_at-marks a g touches S h thawed m))
