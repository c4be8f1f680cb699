-- How many pairs are left without the meters of a list of which one has no pair.
use Rattle.std.proofs.Common.{◌≡◌, ℕ, ◌+◌, ◌<◌, cond, None, List, ◌++◌, length, ap, ◌∙◌, subst, inl, inr, arith}
use Rattle.std.proofs.lemmas.Bool.{cases_Bool}
use Rattle.std.proofs.lemmas.List.{length-append}
use Rattle.obs_matroid.specs.Lists.{In, without, other_than}
use Rattle.obs_matroid.specs.Assignments.{items}
use Rattle.obs_matroid.proofs.Bounds.{length-items}
use Rattle.obs_matroid.proofs.Lists.{In-append_left, In-append_right, In-filter, length-within, length-without_lt, other_true}
use Rattle.obs_matroid.proofs.Slots.{IsDistinct-slots}
use Rattle.obs_meter.specs.Lost.{is_listed}
use Rattle.obs_meter.proofs.Touched.{In-from_any}
use Rattle.obs_assign.specs.Assignment.{Assignment}
use Rattle.obs_assign.specs.inner.Assignment.{branch_at, pairs}
use Rattle.obs_assign.proofs.Slotted.{item_slot, slot_item}
use Rattle.obs_exchange.proofs.AtGraph.{out-from_bare}

pub fewer_lost : (a b : Assignment) (list : List ℕ) (m : ℕ) → ((x : ℕ) → branch_at b x ≡ cond (is_listed list x) None (branch_at a x)) → In m list → branch_at a m ≡ None
    → length (pairs a) < length (pairs b) + length list
fewer_lost a b list m slots i bare =
    let within =
    length-within (items (pairs a)) (items (pairs b) ++ without m list) (IsDistinct-slots a.slots) (λ x j. elim (cases_Bool (is_listed list x)) [
      | inl t ↦ In-append_right x (items (pairs b)) (without m list)
          (In-filter (other_than m) x list (In-from_any list x t) (other_true m x (λ e. out-from_bare a m bare (subst (λ (y : ℕ). In y (items (pairs a))) e j))))
      | inr f ↦ In-append_left x (items (pairs b)) (without m list)
          (let s = item_slot a.slots x j in slot_item b.slots x s.0 (slots x ∙ (ap (λ t. cond t None (branch_at a x)) f ∙ s.1)))
    ]) in
    let both = length-append (items (pairs b)) (without m list) in
    let less = length-without_lt m list i in
    let na = length-items (pairs a) in
    let nb = length-items (pairs b) in
    omega (arith, within, both, less, na, nb)
