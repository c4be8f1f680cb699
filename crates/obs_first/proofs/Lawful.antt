-- The computed pairs are the first assignment, and an assignment of which every meter is decided has them.
use Rattle.std.proofs.Common.{◌≡◌, ℕ, Bool, false, Option, None, List, [], ◌∷◌, length, ap, ◌∙◌, subst, inl, inr, ◌↔◌, arith}
use Rattle.std.specs.Prelude.{filter}
use Rattle.std.specs.List.{range_with_len}
use Rattle.std.proofs.lemmas.Bool.{cases_Bool}
use Rattle.obs_graph.specs.declared.Ends.{Ends}
use Rattle.obs_graph.specs.Positions.{AreBranches}
use Rattle.obs_graph.specs.Graph.{Graph}
use Rattle.obs_matroid.specs.Lists.{In}
use Rattle.obs_matroid.specs.Assignments.{Pair}
use Rattle.obs_matroid.specs.First.{IsNotAfter, branch_at}
use Rattle.obs_matroid.specs.inner.First.{IsFirst}
use Rattle.obs_matroid.proofs.Lists.{clash}
use Rattle.obs_matroid.proofs.Pairs.{In-items_from}
use Rattle.obs_matroid.proofs.Comparing.{branch_at_out, first_unique}
use Rattle.obs_matroid.proofs.Computed.{first_of_is}
use Rattle.obs_matroid.proofs.Ranges.{range_rising}
use Rattle.obs_meter.specs.declared.Touch.{Touch}
use Rattle.obs_meter.specs.Assignments.{IsAssignmentAt, IsRhoAt}
use Rattle.obs_meter.specs.Spanned.{graph_matroid}
use Rattle.obs_meter.specs.Touches.{every_item, is_live, live_items, touch_at}
use Rattle.obs_meter.proofs.Assigned.{every-to_live, every_item-distinct, from_matroid, live-to_every, rho-live-to_every, to_matroid}
use Rattle.obs_meter.proofs.Instance.{IsMatroid-graph}
use Rattle.obs_meter.proofs.Touched.{live-from_In, touch-rising}
use Rattle.obs_assign.specs.Assignment.{Assignment}
use Rattle.obs_assign.specs.inner.Assignment.{IsWhole, StandsOver, is_frozen, pairs}
use Rattle.obs_assign.proofs.Standing.{IsAssignmentAt-standing}
use Rattle.obs_first.specs.First.{IsFirstAt, first_pairs}
use Rattle.obs_first.specs.inner.Deciding.{IsDecided}
use Rattle.obs_first.proofs.Listed.{IsRising-first_of, IsRising-slots, pairs_same}

module _ (n : ℕ) (ends : List (Option Ends)) (touches : List Touch) (M : List ℕ) where
  -- first assignments are those of the matroid
  pub first-to_matroid : (A : List Pair) → IsFirstAt ends touches M A → IsFirst (graph_matroid n ends) (touch_at ends touches) M A
  first-to_matroid A a = record {
    assigns = to_matroid n ends touches M A a.assigns;
    longest = λ B b. a.longest B (from_matroid n ends touches M B b);
    least = λ B b l. a.least B (from_matroid n ends touches M B b) l;
  }

  pub first-from_matroid : (A : List Pair) → IsFirst (graph_matroid n ends) (touch_at ends touches) M A → IsFirstAt ends touches M A
  first-from_matroid A a = record {
    assigns = from_matroid n ends touches M A a.assigns;
    longest = λ B b. a.longest B (to_matroid n ends touches M B b);
    least = λ B b l. a.least B (to_matroid n ends touches M B b) l;
  }

-- items that have no branch in A nor in B do not matter
pub IsNotAfter-filter : (p : ℕ → Bool) (M : List ℕ) (A B : List Pair) → ((x : ℕ) → p x ≡ false → (branch_at A x ≡ None) × (branch_at B x ≡ None)) → IsNotAfter M A B → IsNotAfter (filter p M) A B
IsNotAfter-filter p [] A B h n = tt
IsNotAfter-filter p (x ∷ M) A B h (inl b) = elim (cases_Bool (p x)) [
  | inl t ↦ rw t (inl b)
  | inr f ↦ absurd (rw (h x f).0 at b)
]
IsNotAfter-filter p (x ∷ M) A B h (inr k) = elim (cases_Bool (p x)) [
  | inl t ↦ rw t (inr (k.0, IsNotAfter-filter p M A B h k.1))
  | inr f ↦ rw f (IsNotAfter-filter p M A B h k.1)
]

module _ (ends : List (Option Ends)) (touches : List Touch) where
  idle_has_none : (A : List Pair) → IsAssignmentAt ends touches (every_item touches) A → (x : ℕ) → is_live ends touches x ≡ false → branch_at A x ≡ None
  idle_has_none A a x f = branch_at_out A x (λ i.
      let v = In-items_from A x i in
      clash (ap (is_live ends touches) v.2 ∙ live-from_In ends touches v.0.0 v.0.1 (a.touched v.0 v.1)) f)

  -- a first assignment of all meters is one of the live ones
  pub first-live : (A : List Pair) → IsFirstAt ends touches (every_item touches) A → IsFirstAt ends touches (live_items ends touches) A
  first-live A a = record {
    assigns = every-to_live ends touches A a.assigns;
    longest = λ B b. a.longest B (live-to_every ends touches B b);
    least = λ B b l.
        let c = live-to_every ends touches B b in
        IsNotAfter-filter (is_live ends touches) (every_item touches) A B (λ x f. (idle_has_none A a.assigns x f, idle_has_none B c x f)) (a.least B c l);
  }

module _ (n : ℕ) (ends : List (Option Ends)) (touches : List Touch) (ok : AreBranches n ends) where
  pub first_pairs-is : IsFirstAt ends touches (every_item touches) (first_pairs n ends touches)
  first_pairs-is = first-from_matroid n ends touches (every_item touches) (first_pairs n ends touches)
      (first_of_is (graph_matroid n ends) (IsMatroid-graph n ends ok) (touch_at ends touches) (λ m. touch-rising ends touches m) (every_item touches) (every_item-distinct touches))

  -- and there is no other
  pub first_pairs-unique : (A : List Pair) → IsFirstAt ends touches (every_item touches) A → (p : Pair) → In p A ↔ In p (first_pairs n ends touches)
  first_pairs-unique A a = first_unique (graph_matroid n ends) (touch_at ends touches) (every_item touches) A (first_pairs n ends touches)
      (first-to_matroid n ends touches (every_item touches) A a) (first-to_matroid n ends touches (every_item touches) (first_pairs n ends touches) first_pairs-is)

module _ (g : Graph) (touches : List Touch) (a : Assignment) (long : ℕ) where
  -- no meter is decided yet
  pub Decided-begun : IsRhoAt g.ends touches (live_items g.ends touches) long → length (pairs a) ≡ long → ((x : ℕ) → is_frozen a x ≡ false) → IsDecided g.ends touches a 0 long
  Decided-begun r l thawed = record {
    length_is = l;
    longest = (rho-live-to_every g.ends touches long r).none_longer;
    least = λ B b k. tt;
    frozen = λ x. ((λ t. clash t (thawed x)), (λ u. let k = u.0 in absurd (omega (arith, k))));
  }

  -- all are
  pub Decided-all : AreBranches g.vertices g.ends → IsWhole a → StandsOver a g touches → (m : ℕ) → m ≡ length touches → IsDecided g.ends touches a m long → pairs a ≡ first_pairs g.vertices g.ends touches
  Decided-all ok whole stands m end d =
      let first : IsFirstAt g.ends touches (every_item touches) (pairs a) = record {
        assigns = IsAssignmentAt-standing a g touches whole stands;
        longest = λ B b. let k = d.longest B b in let e = d.length_is in omega (arith, k, e);
        least = λ B b l. subst (λ i. IsNotAfter (range_with_len 0 i) (pairs a) B) end (d.least B b (l ∙ d.length_is));
      } in
      pairs_same (pairs a) (first_pairs g.vertices g.ends touches) (IsRising-slots a.slots)
      (IsRising-first_of (graph_matroid g.vertices g.ends) (touch_at g.ends touches) (every_item touches) (range_rising 0 (length touches)))
      (first_pairs-unique g.vertices g.ends touches ok (pairs a) first)
