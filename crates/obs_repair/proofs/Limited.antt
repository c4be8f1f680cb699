-- How many pairs the parts bound after an edit.
use Rattle.std.proofs.Common.{◌⊎◌, inl, inr, ◌≡◌, ℕ, ◌+◌, ◌-◌, Bool, true, false, Option, Some, List, length, sym, ap, ◌∙◌, subst}
use Rattle.std.specs.Prelude.{IfSome}
use Rattle.obs_graph.specs.Positions.{AreBranches}
use Rattle.obs_exchange.specs.inner.Longest.{IsMost}
use Rattle.obs_network.specs.Network.{Network, network_of}
use Rattle.obs_network.proofs.OfCase.{case_branches-are}
use Rattle.obs_repair.specs.declared.edit.Edit.{Edit}
use Rattle.obs_repair.specs.declared.edit.Edit.TheVariants as edit
use Rattle.obs_repair.specs.Edits.{edited}
use Rattle.obs_repair.specs.inner.Parts.{AreBoundBefore, BoundsNetwork, IsSaidBetween, is_inside, is_within}
use Rattle.obs_repair.specs.inner.Repairing.{IsSaidAlone}
use Rattle.obs_repair.proofs.Bounding.{most-bounded}
use Rattle.obs_repair.proofs.Flagged.{meters-edited}
use Rattle.obs_repair.proofs.KeptParts.{bounds-but, bounds-lost, bounds-lost_between, bounds-regained, bounds-regained_within}

module _ (e : Edit) (alone between : Bool) (n : Network) (first : List ℕ) (had : ℕ) (h : AreBoundBefore e alone between n first had) where
  -- the network after, where the edit is this one
  network_by : (x : Edit) → e ≡ x → n ≡ network_of (edited h.before x)
  network_by x is = h.network ∙ ap (λ (y : Edit). network_of (edited h.before y)) is

  pub limit-lost : (at : ℕ) → e ≡ edit.Meter at false → BoundsNetwork n first had
  limit-lost at is =
      subst (λ (x : Network). BoundsNetwork x first had) (sym (network_by (edit.Meter at false) is)) (bounds-lost h.before at first had h.bound)

  pub limit-between : (at : ℕ) → e ≡ edit.Meter at false → between ≡ true → BoundsNetwork n first (had - 1)
  limit-between at is yes_between =
      let said = subst (λ (x : Edit). IsSaidBetween x between (network_of h.before) first) is h.said_between in
      subst (λ (x : Network). BoundsNetwork x first (had - 1)) (sym (network_by (edit.Meter at false) is))
      (bounds-lost_between h.before h.valid at first had (said yes_between) h.bound).1

  pub limit-back : (at : ℕ) → e ≡ edit.Meter at true → BoundsNetwork n first (had + 1)
  limit-back at is =
      subst (λ (x : Network). BoundsNetwork x first (had + 1)) (sym (network_by (edit.Meter at true) is)) (bounds-regained h.before at first had h.bound)

  pub limit-back_within : (at : ℕ) → e ≡ edit.Meter at true → is_within first n.graph.ends n.meters.touches at ≡ true → BoundsNetwork n first had
  limit-back_within at is within =
      let same = network_by (edit.Meter at true) is in
      subst (λ (x : Network). BoundsNetwork x first had) (sym same)
      (bounds-regained_within h.before h.valid at first had (subst (λ (x : Network). is_within first x.graph.ends x.meters.touches at ≡ true) same within) h.bound)

  pub limit-branch : (at : ℕ) (inservice : Bool) → e ≡ edit.Branch at inservice → alone ≡ true → is_inside first n.graph.ends at ≡ true → BoundsNetwork n first had
  limit-branch at inservice is surely inside =
      let said = subst (λ (x : Edit). IsSaidAlone x alone (network_of h.before) n) is h.said_alone in
      bounds-but at (network_of h.before) n (said surely) many ok first had inside h.bound
    where
      many : length n.meters.touches ≡ length (network_of h.before).meters.touches
      many = ap (λ (x : Network). length x.meters.touches) h.network ∙ meters-edited h.before e

      ok : AreBranches n.graph.vertices n.graph.ends
      ok = subst (λ (x : Network). AreBranches x.graph.vertices x.graph.ends) (sym h.network) (case_branches-are (edited h.before e) h.valid_after)

-- no more pairs than a number and than what the parts bound, where they bound any
pub most-least : (n : Network) (first : List ℕ) (most least : ℕ) (limit : Option ℕ) → AreBranches n.graph.vertices n.graph.ends → IsMost n.graph.ends n.meters.touches most
    → IfSome limit (λ k. BoundsNetwork n first k) → ((least ≡ most) ⊎ (limit ≡ Some least)) → IsMost n.graph.ends n.meters.touches least
most-least n first most least limit ok m bound (inl s) = subst (λ k. IsMost n.graph.ends n.meters.touches k) (sym s) m
most-least n first most least limit ok m bound (inr s) =
    most-bounded n.graph.vertices n.graph.ends n.meters.touches first least ok (subst (λ (o : Option ℕ). IfSome o (λ k. BoundsNetwork n first k)) s bound)
