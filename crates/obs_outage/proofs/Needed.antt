-- Branches that redundant meters touch and that aren't spared: without one there is a pair less.
use Rattle.std.proofs.Common.{inl, inr, ◌≡◌, ◌≢◌, ℕ, Bool, true, false, Option, Some, None, List, ◌∷◌, length, get_or, set, take, refl, sym, ap, ◌∙◌, subst, get_or-set_other, arith}
use Rattle.std.specs.Prelude.{IsSome, flat_map}
use Rattle.std.specs.List.{Contains}
use Rattle.std.proofs.lemmas.Bool.{cases_Bool}
use Rattle.std.proofs.lemmas.List.{take_all}
use Rattle.obs_graph.specs.declared.Ends.{Ends}
use Rattle.obs_graph.specs.Graph.{Graph}
use Rattle.obs_graph.specs.Joined.{Chain, is_joined}
use Rattle.obs_graph.specs.Positions.{ends_of, present}
use Rattle.obs_graph.proofs.AtPositions.{ends_of-contains}
use Rattle.obs_graph.proofs.Chains.{Chain-more, is_joined-true}
use Rattle.obs_graph.proofs.Present.{contains_present, none_some}
use Rattle.obs_matroid.specs.Lists.{In, other_than}
use Rattle.obs_matroid.specs.Matroid.{Matroid}
use Rattle.obs_matroid.specs.Assignments.{IsAssignment, branches}
use Rattle.obs_matroid.specs.inner.Assignments.{others, part}
use Rattle.obs_matroid.specs.Bounds.{inside}
use Rattle.obs_matroid.proofs.Bounds.{weak_bound}
use Rattle.obs_matroid.proofs.Contained.{In-from_Contains}
use Rattle.obs_matroid.proofs.Lists.{In-filter, In-filter_from, In-flat_map, In-flat_map_from, clash, other_ne, other_true}
use Rattle.obs_matroid.proofs.Pairs.{In-branches, In-part, own}
use Rattle.obs_matroid.proofs.Ranks.{rank-within}
use Rattle.obs_matroid.proofs.Slots.{slot_at}
use Rattle.obs_matroid.proofs.Spans.{spans_less}
use Rattle.obs_meter.specs.declared.Touch.{Touch}
use Rattle.obs_meter.specs.declared.Touch.TheVariants.{Nothing}
use Rattle.obs_meter.specs.Spanned.{both_ends, graph_matroid}
use Rattle.obs_meter.specs.Touches.{live_items, touch_at}
use Rattle.obs_meter.proofs.Assigned.{every-to_live, rho_at-unique, to_matroid}
use Rattle.obs_meter.proofs.Instance.{IsMatroid-graph}
use Rattle.obs_meter.proofs.Live.{In-live}
use Rattle.obs_meter.proofs.Touched.{live-from_In, touched-present}
use Rattle.obs_assign.specs.Assignment.{Assignment}
use Rattle.obs_assign.specs.inner.Assignment.{branch_at, has_flag, pairs}
use Rattle.obs_assign.proofs.Slotted.{some_same}
use Rattle.obs_exchange.specs.Critical.{IsCriticalAt, critical_at}
use Rattle.obs_exchange.specs.inner.Laws.{HasClosedSet}
use Rattle.obs_exchange.specs.inner.Longest.{IsLongest}
use Rattle.obs_exchange.proofs.AtGraph.{IsAssignment-live}
use Rattle.obs_exchange.proofs.Lawful.{closed_noncritical, closed_tight_at, critical_at-exactly}
use Rattle.obs_network.specs.inner.Parted.{AreJoinedWithout, IsSide}
use Rattle.obs_network.proofs.FoundSides.{side_parts}
use Rattle.obs_outage.specs.inner.Costly.{IsCostly}
use Rattle.obs_outage.specs.inner.Sparing.{ArePaired, AreTouchedBy, HasTouched, IsNeeded}
use Rattle.obs_outage.proofs.Sparing.{sparing}

-- what is some, is something
some_of : (o : Option Ends) → IsSome o → (x : Ends) × (o ≡ Some x)
some_of None i = absurd cc
some_of (Some x) i = (x, refl)

-- a branch that parts its ends isn't joined by the others of a part
pub needed_parted : (a : Assignment) (within : List (Option Ends)) (e many : ℕ) (side : List ℕ) → many ≡ length within → IsSide (take many within) e side → IsNeeded a within e
needed_parted a within e many side is sides = by_option (get_or within e None) refl
  where
    all : take many within ≡ within
    all = take_all many within (omega (arith, is))

    by_option : (o : Option Ends) → get_or within e None ≡ o → IsNeeded a within e
    by_option None there = inl there
    by_option (Some x) there = inr (inl (λ joined.
        side_parts (take many within) e x side (subst (λ (xs : List (Option Ends)). get_or xs e None ≡ Some x) (sym all) there) sides
        (subst (λ k. AreJoinedWithout (take k within) e) (sym is) joined)))

module _ (g : Graph) (touches : List Touch) (a : Assignment) (long : IsLongest g touches a) (marks : List Bool) (c : HasClosedSet a g touches (has_flag marks))
    (within : List (Option Ends)) (t : AreTouchedBy g.ends touches (has_flag marks) within) (w : HasTouched g.ends touches (has_flag marks) within) (e : ℕ) where
  abbrev matroid : Matroid
  matroid = graph_matroid g.vertices g.ends

  abbrev touch : ℕ → List ℕ
  touch = touch_at g.ends touches

  abbrev live : List ℕ
  live = live_items g.ends touches

  -- what marked meters touch but e
  abbrev but : List ℕ
  but = flat_map (sparing touch e) (inside (has_flag marks) live)

  -- each of it is one of the part, and not e
  in_part : (k : ℕ) → In k but → (get_or within k None ≡ get_or g.ends k None) × (k ≢ e) × IsSome (get_or g.ends k None)
  in_part k i =
      let v = In-flat_map_from (sparing touch e) k (inside (has_flag marks) live) i in
      let u = In-filter_from (other_than e) k (touch v.0) v.2 in
      let marked = (In-filter_from (has_flag marks) v.0 live v.1).1 in
      (w v.0 k marked u.0, other_ne e k u.1, touched-present g.ends (get_or touches v.0 Nothing) k u.0)

  module _ (x : Ends) (there : get_or within e None ≡ Some x) where
    -- so where others of the part don't join the ends of e, it doesn't span e
    among : (y : Ends) → Contains (ends_of g.ends but) y → Contains (present (set within e None)) y
    among y has =
        let q = ends_of-contains g.ends but y has in
        let p = in_part q.0 (In-from_Contains q.0 but q.1) in
        contains_present (set within e None) q.0 y (get_or-set_other within e q.0 None None p.1 ∙ (p.0 ∙ q.2))

    apart : (AreJoinedWithout (take (length within) within) e → ⊥) → matroid.spans but e ≡ false
    apart not_joined =
        elim (cases_Bool (matroid.spans but e)) [
          | inr f ↦ f
          | inl s ↦
              let joined : is_joined (ends_of g.ends but) x.a x.b ≡ true =
              subst (λ (o : Option Ends). is_joined (ends_of g.ends but) (both_ends o).0 (both_ends o).1 ≡ true) (t e x there).0 s in
              let chain = Chain-more (ends_of g.ends but) (present (set within e None)) among (is_joined-true (ends_of g.ends but) x.a x.b joined) in
              let whole : take (length within) within ≡ within = take_all (length within) within (omega arith) in
              absurd (not_joined (subst (λ (xs : List (Option Ends)). AreJoinedWithout xs e) (sym whole)
              (λ y is. subst (λ (z : Ends). Chain (present (set within e None)) z.a z.b) (same_ends x y (sym there ∙ is)) chain)))
        ]
      where
        same_ends : (x y : Ends) → Some x ≡ Some y → x ≡ y
        same_ends x y is = cc

    -- nor where pairs have all of the part
    paired : ArePaired a within → matroid.spans but e ≡ false
    paired all =
        let A = IsAssignment-live g.vertices a g touches long.whole long.stands in
        let laws = IsMatroid-graph g.vertices g.ends c.branches in
        let m = all e x there in
        spans_less matroid laws but (others (pairs a) m.0) e
        (λ k i.
        let p = in_part k i in
        let s = some_of (get_or g.ends k None) p.2 in
        let o = all k s.0 (p.0 ∙ s.1) in
        In-branches (part (other_than m.0) (pairs a)) (o.0, k) (In-part (other_than m.0) (pairs a) (o.0, k) (slot_at a.slots o.0 k o.1)
        (other_true m.0 o.0 (λ same. p.1 (some_same k e (sym o.1 ∙ (ap (branch_at a) same ∙ m.1)))))))
        (own matroid laws (pairs a) (m.0, e) A.independent A.different (slot_at a.slots m.0 e m.1))

    -- then each assignment without e is shorter
    costly_apart : matroid.spans but e ≡ false → IsCostly g.ends touches e
    costly_apart free = record {
      shorter = λ r rho B b out.
          let laws = IsMatroid-graph g.vertices g.ends c.branches in
          let S = has_flag marks in
          let all = flat_map touch (inside S live) in
          let touched = t e x there in
          let b1 = to_matroid g.vertices g.ends touches live B (every-to_live g.ends touches B b) in
          let without_e : IsAssignment matroid (sparing touch e) live B = record {
            of_items = b1.of_items;
            touched = λ p i. In-filter (other_than e) p.1 (touch p.0) (b1.touched p i) (other_true e p.1 (λ same. out (subst (λ (k : ℕ). In k (branches B)) same (In-branches B p i))));
            different = b1.different;
            independent = b1.independent;
          } in
          let bound = weak_bound matroid laws (sparing touch e) live S B without_e in
          let falls = laws.rank_new but e free in
          let item = In-filter S touched.1 live (In-live g.ends touches touched.1 (live-from_In g.ends touches touched.1 e touched.3)) touched.2 in
          let less = rank-within matroid laws (e ∷ but) all (λ y i. laws.member all y (elim i [
            | inl is ↦ subst (λ (k : ℕ). In k all) (sym is) (In-flat_map touch touched.1 e (inside S live) item touched.3)
            | inr j ↦
                let v = In-flat_map_from (sparing touch e) y (inside S live) j in
                In-flat_map touch v.0 y (inside S live) v.1 (In-filter_from (other_than e) y (touch v.0) v.2).0
          ])) in
          let tight = closed_tight_at a g touches S c long.thawed in
          let same = rho_at-unique g.ends touches live r (length (pairs a)) rho long.longest in
          omega (arith, bound, falls, less, tight, same);
    }

  -- so a branch of the part that is needed there is costly
  pub costly_needed : IsSome (get_or within e None) → IsNeeded a within e → IsCostly g.ends touches e
  costly_needed some needed =
      let x = some_of (get_or within e None) some in
      elim needed [
        | inl none ↦ absurd (none_some x.0 (sym none ∙ x.1))
        | inr there ↦ elim there [
          | inl not_joined ↦ costly_apart x.0 x.1 (apart x.0 x.1 not_joined)
          | inr all ↦ costly_apart x.0 x.1 (paired x.0 x.1 all)
        ]
      ]

  -- and each meter that touches a branch which isn't of the part is critical
  pub critical_outside : get_or within e None ≡ None → (m : ℕ) → In e (touch m) → IsCriticalAt g.ends touches live m
  critical_outside none m i =
      let there = some_of (get_or g.ends e None) (touched-present g.ends (get_or touches m Nothing) e i) in
      let unmarked : has_flag marks m ≡ false = elim (cases_Bool (has_flag marks m)) [
        | inr f ↦ f
        | inl s ↦ absurd (none_some there.0 (sym none ∙ (w m e s i ∙ there.1)))
      ] in
      let critical : critical_at g.vertices g.ends touches m ≡ true = elim (cases_Bool (critical_at g.vertices g.ends touches m)) [
        | inl s ↦ s
        | inr f ↦ clash ((closed_noncritical a g touches (has_flag marks) c long.thawed m).1 (live-from_In g.ends touches m e i, f)) unmarked
      ] in
      ((critical_at-exactly g.vertices g.ends touches c.branches m).0 critical).1
