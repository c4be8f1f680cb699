-- A meter takes a branch, or is refused it.
use Rattle.std.proofs.Common.{◌≡◌, ℕ, ◌<◌, true, false, Option, None, Some, List, length, get_or, set, refl, sym, ap, ◌∙◌, inl, inr, get_or-set_other, length-set}
use Rattle.std.proofs.lemmas.Bool.{cases_Bool}
use Rattle.std.proofs.lemmas.List.{get_or-set_same}
use Rattle.obs_graph.specs.declared.Ends.{Ends}
use Rattle.obs_graph.specs.Positions.{AreBranches}
use Rattle.obs_graph.specs.Graph.{Graph}
use Rattle.obs_matroid.specs.inner.Assignments.{part}
use Rattle.obs_matroid.proofs.Lists.{clash}
use Rattle.obs_matroid.proofs.Pairs.{In-branches, In-part}
use Rattle.obs_matroid.proofs.Pin.{pin_impossible}
use Rattle.obs_matroid.proofs.Slots.{slot_at}
use Rattle.obs_meter.specs.declared.Touch.{Touch}
use Rattle.obs_meter.specs.Spanned.{graph_matroid}
use Rattle.obs_meter.specs.Touches.{every_item, touch_at}
use Rattle.obs_meter.proofs.Assigned.{to_matroid}
use Rattle.obs_meter.proofs.Instance.{IsMatroid-graph}
use Rattle.obs_assign.specs.Assignment.{Assignment}
use Rattle.obs_assign.specs.inner.Assignment.{branch_at, frozen_branches, is_frozen, pairs}
use Rattle.obs_assign.specs.inner.Pins.{IsPinnedAt, MayPin, joins, pinned_slots}
use Rattle.obs_assign.proofs.Paths.{joins-own}
use Rattle.obs_assign.proofs.Slotted.{none_some}
use Rattle.obs_exchange.specs.declared.Sources.TheVariants.{All}
use Rattle.obs_exchange.specs.inner.Noting.{AreNoted, Noted}
use Rattle.obs_exchange.proofs.Noting.{AreNoted-less, AreNoted-more}
use Rattle.obs_first.specs.inner.Deciding.{HasRefused}

module _ (g : Graph) (touches : List Touch) (ok : AreBranches g.vertices g.ends) (a : Assignment) (m e : ℕ) (thawed : is_frozen a m ≡ false) where
  -- where the branch may not be pinned, the frozen branches join its ends
  frozen_join : (MayPin a g.ends m e → ⊥) → joins g.ends (frozen_branches a) e ≡ true
  frozen_join out = elim (cases_Bool (joins g.ends (frozen_branches a) e)) [
    | inl t ↦ t
    | inr f ↦ absurd (out (record {
      thawed = thawed;
      free = λ x t h. clash (joins-own g.ends (frozen_branches a) e (In-branches (part (is_frozen a) (pairs a)) (x, e) (In-part (is_frozen a) (pairs a) (x, e) (slot_at a.slots x e h) t))) f;
      apart = f;
    }))
  ]

  -- so no assignment that has the frozen pairs has this one
  pub HasRefused-joined : (long : ℕ) → (MayPin a g.ends m e → ⊥) → HasRefused g.ends touches a a m e long
  HasRefused-joined long out = record {
    frozen = refl;
    none = λ B b i. absurd (pin_impossible (graph_matroid g.vertices g.ends) (IsMatroid-graph g.vertices g.ends ok) (touch_at g.ends touches) (every_item touches) (is_frozen a) (pairs a) B m e
        (to_matroid g.vertices g.ends touches (every_item touches) B b.assigns) b.extends thawed (frozen_join out) i);
  }

-- after a pin the meter that gave up its pair is noted too, and the pinned one no more
pub AreNoted-pinned : (ends : List (Option Ends)) (touches : List Touch) (a b : Assignment) (m e x : ℕ) (n : Noted) → m < length a.slots → IsPinnedAt a ends m e b.slots x → x < length n.flags
    → AreNoted ends touches All a n → AreNoted ends touches All b (record n { flags = set (set n.flags x true) m false })
AreNoted-pinned ends touches a b m e x n l p lx h =
    let at : (k : ℕ) → branch_at b k ≡ get_or (pinned_slots a.slots m e x) k None = λ k. ap (λ (s : List (Option ℕ)). get_or s k None) p.pairs_are in
    let own : branch_at b m ≡ Some e = at m ∙ get_or-set_same (set a.slots x None) m (Some e) None (rw (length-set a.slots x None) l) in
    AreNoted-less ends touches All b m (record n { flags = set n.flags x true }) (λ none. none_some e (sym none ∙ own))
    (AreNoted-more ends touches a b x n lx (λ k none ne.
    let other : k ≡ m → ⊥ = λ is. none_some e (sym none ∙ (ap (branch_at b) is ∙ own)) in
    sym (at k ∙ (get_or-set_other (set a.slots x None) m k (Some e) None other ∙ get_or-set_other a.slots x k None None ne)) ∙ none) h)
