-- The parts that a closed set leaves: what the branches of its own pairs join.
use Rattle.std.proofs.Common.{inl, inr, ◌≡◌, ℕ, ◌+◌, ◌≤◌, Bool, true, false, not, ◌||◌, Option, Some, None, List, length, refl, sym, ap, ◌∙◌, arith}
use Rattle.std.specs.Prelude.{Contains, filter}
use Rattle.std.proofs.lemmas.Bool.{cases_Bool, not_from_false, or_cases, or_from, or_left}
use Rattle.std.proofs.lemmas.List.{length-map}
use Rattle.obs_graph.specs.declared.Ends.{Ends}
use Rattle.obs_graph.specs.Graph.{Graph}
use Rattle.obs_graph.specs.Joined.{rank}
use Rattle.obs_graph.specs.Positions.{AreBranches, ends_of, present}
use Rattle.obs_graph.specs.inner.Search.{IsRooted, State}
use Rattle.obs_graph.proofs.AtPositions.{contains-ends_of, ends_of-contains, rank-from_IsForestAt}
use Rattle.obs_graph.proofs.Forests.{rank-among, same_first-among}
use Rattle.obs_graph.proofs.IsJoined.{same-from_true, true-from_same}
use Rattle.obs_graph.proofs.Present.{contains_present, present_contains}
use Rattle.obs_matroid.specs.Lists.{In}
use Rattle.obs_matroid.specs.Assignments.{Pair, items}
use Rattle.obs_matroid.specs.inner.Assignments.{part}
use Rattle.obs_matroid.proofs.Contained.{Contains-from_In, In-from_Contains}
use Rattle.obs_matroid.proofs.Lists.{In-filter_from, IsDistinct-filter, clash, length-split, length-within}
use Rattle.obs_matroid.proofs.Pairs.{In-branches, In-branches_from, In-items, In-part, In-part_from, IsDistinct-part}
use Rattle.obs_matroid.proofs.Slots.{slot_at, slot_from}
use Rattle.obs_meter.specs.declared.Touch.{Touch}
use Rattle.obs_meter.specs.Spanned.{ends_at}
use Rattle.obs_meter.specs.Touches.{every_item}
use Rattle.obs_meter.proofs.Assigned.{every_item-distinct}
use Rattle.obs_meter.proofs.Touched.{live-from_In}
use Rattle.obs_assign.specs.Assignment.{Assignment}
use Rattle.obs_assign.specs.inner.Assignment.{IsWhole, StandsOver, branch_at, has_flag, is_frozen, pairs}
use Rattle.obs_assign.proofs.Standing.{IsAssignmentAt-standing}
use Rattle.obs_exchange.specs.declared.Sources.TheVariants.{All}
use Rattle.obs_exchange.specs.inner.Closed.{own_branches}
use Rattle.obs_exchange.specs.inner.Found.{HasClosed}
use Rattle.obs_exchange.specs.inner.Laws.{IsThawed}
use Rattle.obs_network.proofs.KeptForests.{InRange-ends_of}
use Rattle.obs_repair.specs.inner.Parts.{AreBounding, HoldsOwn, is_between}
use Rattle.obs_repair.proofs.Bounding.{between-from}
use Rattle.obs_repair.proofs.Retained.{assigns-within}

module _ (g : Graph) (touches : List Touch) (a : Assignment) (reached : List Bool) (held : List (Option Ends)) (ok : AreBranches g.vertices g.ends) (whole : IsWhole a) (stands : StandsOver a g touches)
    (thawed : IsThawed a) (closed : HasClosed g.ends touches All a a reached) (holds : HoldsOwn g.ends a reached held) where
  abbrev own : ℕ → Bool
  own m = has_flag reached m || is_frozen a m

  abbrev own_list : List ℕ
  own_list = own_branches a (has_flag reached)

  own-reached : (m : ℕ) → own m ≡ true → has_flag reached m ≡ true
  own-reached m t = elim (or_cases (has_flag reached m) (is_frozen a m) t) [ inl y ↦ y | inr y ↦ clash y (thawed m) ]

  -- the held branches are the own ones
  held_own : (x : Ends) → Contains (present held) x → Contains (ends_of g.ends own_list) x
  held_own x c =
      let p = present_contains held x c in
      let h = (holds p.0 x).0 p.1 in
      let q : Pair = (h.1, p.0) in
      let i : In q (pairs a) = slot_at a.slots h.1 p.0 h.3 in
      contains-ends_of g.ends own_list p.0 x
      (Contains-from_In p.0 own_list (In-branches (part own (pairs a)) q (In-part own (pairs a) q i (or_left (has_flag reached h.1) (is_frozen a h.1) h.2)))) h.0

  own_held : (x : Ends) → Contains (ends_of g.ends own_list) x → Contains (present held) x
  own_held x c =
      let p = ends_of-contains g.ends own_list x c in
      let q = In-branches_from (part own (pairs a)) p.0 (In-from_Contains p.0 own_list p.1) in
      let f = In-part_from own (pairs a) q.0 q.1 in
      contains_present held p.0 x ((holds p.0 x).1 (p.2, q.0.0, own-reached q.0.0 f.1, slot_from a.slots q.0 f.0 ∙ ap Some (sym q.2)))

  -- their rank is at most the number of the own pairs
  few_joins : rank g.vertices (present held) ≤ length (part own (pairs a))
  few_joins =
      let A = part own (pairs a) in
      let x = IsAssignmentAt-standing a g touches whole stands in
      let some = assigns-within g.vertices g.ends touches ok (every_item touches) (pairs a) x A (IsDistinct-part own (pairs a) x.different) (λ p i. (In-part_from own (pairs a) p i).0) in
      let full = rank-from_IsForestAt g.vertices g.ends own_list (InRange-ends_of g.vertices g.ends ok own_list) some.forest in
      let le = rank-among g.vertices (present held) (ends_of g.ends own_list) held_own in
      omega (arith, full, le, length-map A (λ (p : Pair). p.1))

  -- an item between parts wasn't reached
  not_reached : (m : ℕ) → is_between (present held) g.ends touches m ≡ true → has_flag reached m ≡ false
  not_reached m t =
      elim (cases_Bool (has_flag reached m)) [
        | inr f ↦ f
        | inl y ↦
            let e = between-from (present held) g.ends touches m t in
            let u = (ends_at g.ends e.0).0 in
            let w = (ends_at g.ends e.0).1 in
            let joined = same-from_true (ends_of g.ends own_list) u w (closed.least.closed.joined m e.0 y e.1) in
            clash (true-from_same (present held) u w (same_first-among (ends_of g.ends own_list) (present held) own_held u w joined)) e.2
      ]

  -- and has a pair
  has_pair : (m : ℕ) → is_between (present held) g.ends touches m ≡ true → (o : Option ℕ) → branch_at a m ≡ o → In m (items (part (λ x. not (own x)) (pairs a)))
  has_pair m t None bare =
      let e = between-from (present held) g.ends touches m t in
      clash (closed.least.holds m (live-from_In g.ends touches m e.0 e.1, bare)) (not_reached m t)
  has_pair m t (Some e) is =
      let other = not_from_false (own m) (or_from (has_flag reached m) (is_frozen a m) (not_reached m t) (thawed m)) in
      In-items (part (λ x. not (own x)) (pairs a)) (m, e) (In-part (λ x. not (own x)) (pairs a) (m, e) (slot_at a.slots m e is) other)

  few_between : length (filter (is_between (present held) g.ends touches) (every_item touches)) ≤ length (part (λ x. not (own x)) (pairs a))
  few_between =
      let f = is_between (present held) g.ends touches in
      let rest = part (λ x. not (own x)) (pairs a) in
      let l = length-within (filter f (every_item touches)) (items rest) (IsDistinct-filter f (every_item touches) (every_item-distinct touches))
      (λ m i. has_pair m (In-filter_from f m (every_item touches) i).1 (branch_at a m) refl) in
      omega (arith, l, length-map rest (λ (p : Pair). p.0))

  pub closed_bound : rank g.vertices (present held) + length (filter (is_between (present held) g.ends touches) (every_item touches)) ≤ length (pairs a)
  closed_bound =
      let joins = few_joins in
      let between = few_between in
      let split = length-split (λ (p : Pair). own p.0) (pairs a) in
      omega (arith, joins, between, split)

-- what a search along them finds bounds the pairs by their number
pub bounding-closed : (g : Graph) (touches : List Touch) (a : Assignment) (reached : List Bool) (held : List (Option Ends)) (s : State) → AreBranches g.vertices g.ends → IsWhole a → StandsOver a g touches → IsThawed a
    → HasClosed g.ends touches All a a reached → HoldsOwn g.ends a reached held → IsRooted g.vertices held s → AreBounding g.vertices g.ends touches s.piece (length (pairs a))
bounding-closed g touches a reached held s ok whole stands thawed closed holds rooted = record {
  joins = present held;
  parts = rooted.first;
  bound = closed_bound g touches a reached held ok whole stands thawed closed holds;
}
