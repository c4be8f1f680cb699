-- Frozen pairs that are kept while the others change.
use Rattle.std.proofs.Common.{◌≡◌, ℕ, Bool, true, Option, List, sym, ap, ◌∙◌}
use Rattle.obs_graph.specs.declared.Ends.{Ends}
use Rattle.obs_graph.specs.Graph.{Graph}
use Rattle.obs_matroid.specs.Assignments.{Pair}
use Rattle.obs_matroid.specs.inner.Closed.{Extends}
use Rattle.obs_matroid.proofs.Slots.{slot_at, slot_from}
use Rattle.obs_meter.specs.declared.Touch.{Touch}
use Rattle.obs_assign.specs.Assignment.{Assignment}
use Rattle.obs_assign.specs.inner.Assignment.{IsWhole, StandsOver, has_flag, is_frozen, pairs}
use Rattle.obs_assign.proofs.Standing.{IsAssignmentAt-standing}
use Rattle.obs_first.specs.inner.Deciding.{HasFrozenOf, KeepsFrozen}

-- what is frozen in b is frozen in a
pub frozen_same : (a b : Assignment) → b.frozen ≡ a.frozen → (x : ℕ) → is_frozen b x ≡ is_frozen a x
frozen_same a b e x = ap (λ (f : List Bool). has_flag f x) e

pub KeepsFrozen-on : (a b c : Assignment) → b.frozen ≡ a.frozen → KeepsFrozen a b → KeepsFrozen b c → KeepsFrozen a c
KeepsFrozen-on a b c e h k x f = k x (frozen_same a b e x ∙ f) ∙ h x f

-- the frozen pairs of a are pairs of b
pub Extends-kept : (a b : Assignment) → KeepsFrozen a b → Extends (is_frozen a) (pairs a) (pairs b)
Extends-kept a b k p i f = slot_at b.slots p.0 p.1 (k p.0 f ∙ slot_from a.slots p i)

-- and the other way round
pub HasFrozenOf-kept : (ends : List (Option Ends)) (touches : List Touch) (a b : Assignment) (B : List Pair) → b.frozen ≡ a.frozen → KeepsFrozen a b → HasFrozenOf ends touches a B → HasFrozenOf ends touches b B
HasFrozenOf-kept ends touches a b B e k h = record {
  assigns = h.assigns;
  extends = λ p i f.
      let g : is_frozen a p.0 ≡ true = sym (frozen_same a b e p.0) ∙ f in
      h.extends p (slot_at a.slots p.0 p.1 (sym (k p.0 g) ∙ slot_from b.slots p i)) g;
}

pub HasFrozenOf-pairs : (a b : Assignment) (g : Graph) (touches : List Touch) → IsWhole b → StandsOver b g touches → KeepsFrozen a b → HasFrozenOf g.ends touches a (pairs b)
HasFrozenOf-pairs a b g touches w s k = record { assigns = IsAssignmentAt-standing b g touches w s; extends = Extends-kept a b k }

-- what has the frozen pairs of b has those of a, where they are frozen in b too
pub HasFrozenOf-back : (ends : List (Option Ends)) (touches : List Touch) (a b : Assignment) (B : List Pair) → ((x : ℕ) → is_frozen a x ≡ true → is_frozen b x ≡ true) → KeepsFrozen a b
    → HasFrozenOf ends touches b B → HasFrozenOf ends touches a B
HasFrozenOf-back ends touches a b B more k h = record {
  assigns = h.assigns;
  extends = λ p i f. h.extends p (slot_at b.slots p.0 p.1 (k p.0 f ∙ slot_from a.slots p i)) (more p.0 f);
}
