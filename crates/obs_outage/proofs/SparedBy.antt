-- Branches that a longest assignment of a network can miss.
use Rattle.std.proofs.Common.{inl, inr, ◌≡◌, ◌≢◌, ℕ, ◌<◌, Bool, true, false, Option, Some, None, List, length, get_or, set, take, refl, sym, ap, ◌∙◌, subst, get_or-set_same, get_or-set_other, arith}
use Rattle.std.specs.Prelude.{IsSome, flat_map}
use Rattle.std.specs.List.{Contains}
use Rattle.std.proofs.lemmas.Bool.{and_from, cases_eq}
use Rattle.std.proofs.lemmas.List.{take_all}
use Rattle.obs_graph.specs.declared.Ends.{Ends}
use Rattle.obs_graph.specs.Graph.{Graph}
use Rattle.obs_graph.specs.Joined.{is_joined}
use Rattle.obs_graph.specs.Positions.{AreBranches, ends_of, present}
use Rattle.obs_graph.proofs.AtPositions.{contains-ends_of}
use Rattle.obs_graph.proofs.Chains.{Chain-more, is_joined-from_Chain}
use Rattle.obs_graph.proofs.Present.{none_some, present_contains, present_low}
use Rattle.obs_matroid.specs.Lists.{In, other_than}
use Rattle.obs_matroid.specs.Matroid.{Matroid}
use Rattle.obs_matroid.specs.Bounds.{inside}
use Rattle.obs_matroid.specs.inner.Critical.{IsCritical}
use Rattle.obs_matroid.specs.Values.{is_critical}
use Rattle.obs_matroid.proofs.Computed.{is_critical_is}
use Rattle.obs_matroid.proofs.Contained.{Contains-from_In}
use Rattle.obs_matroid.proofs.Critical.{rho_exists}
use Rattle.obs_matroid.proofs.Lists.{In-filter, In-flat_map, clash, other_true}
use Rattle.obs_meter.specs.declared.Touch.{Touch}
use Rattle.obs_meter.specs.Held.{Meters}
use Rattle.obs_meter.specs.Spanned.{both_ends, graph_matroid}
use Rattle.obs_meter.specs.Touches.{is_live, live_items, touch_at}
use Rattle.obs_meter.proofs.Assigned.{every-to_live, from_matroid, live-to_every, live_items-distinct, to_matroid}
use Rattle.obs_meter.proofs.Instance.{IsMatroid-graph}
use Rattle.obs_meter.proofs.Touched.{live-from_In}
use Rattle.obs_meter.proofs.Live.{In-live, live-from_live_items}
use Rattle.obs_assign.specs.Assignment.{Assignment}
use Rattle.obs_assign.specs.inner.Assignment.{branch_at, has_flag, pairs}
use Rattle.obs_assign.proofs.Slotted.{branch_slot}
use Rattle.obs_assign.proofs.Standing.{IsAssignmentAt-standing}
use Rattle.obs_exchange.specs.declared.Sources.TheVariants.{All}
use Rattle.obs_exchange.specs.Critical.{critical_at}
use Rattle.obs_exchange.specs.inner.Found.{HasClosed}
use Rattle.obs_exchange.specs.inner.Laws.{HasClosedSet}
use Rattle.obs_exchange.specs.inner.Longest.{IsLongest}
use Rattle.obs_exchange.proofs.Lawful.{closed_noncritical}
use Rattle.obs_network.specs.Network.{Network}
use Rattle.obs_kept.specs.inner.Kept.{AreLongestOver}
use Rattle.obs_outage.specs.inner.Spared.{AreSpared, IsSpared}
use Rattle.obs_outage.specs.inner.Sparing.{AreMissed, AreTouchedBy, CanBeMissed}
use Rattle.obs_network.specs.inner.Parted.{AreJoinedWithout}
use Rattle.obs_outage.proofs.Sparing.{spared_long, sparing, sparing_assigns, sparing_free}

module _ (n : ℕ) (ends : List (Option Ends)) (touches : List Touch) (ok : AreBranches n ends) where
  abbrev matroid : Matroid
  matroid = graph_matroid n ends

  abbrev touch : ℕ → List ℕ
  touch = touch_at ends touches

  abbrev live : List ℕ
  live = live_items ends touches

  -- a part of what marked meters touch
  module _ (marks : ℕ → Bool) (part : List (Option Ends)) (h : AreTouchedBy ends touches marks part) (e : ℕ) where
    -- where marked meters touch something but e
    abbrev but : List ℕ
    but = flat_map (sparing touch e) (inside marks live)

    -- each branch of the part, but e, is one of these
    among : e < length part → (y : Ends) → Contains (present (set part e None)) y → Contains (ends_of ends but) y
    among low y c =
        let p = present_contains (set part e None) y c in
        elim (cases_eq p.0 e) [
          | inl is ↦ absurd (none_some y (sym (get_or-set_same part e None None low) ∙ (ap (λ k. get_or (set part e None) k None) (sym is) ∙ p.1)))
          | inr ne ↦ (
              let t = h p.0 y (sym (get_or-set_other part e p.0 None None ne) ∙ p.1) in
              let item : In t.1 (inside marks live) = In-filter marks t.1 live (In-live ends touches t.1 (live-from_In ends touches t.1 p.0 t.3)) t.2 in
              contains-ends_of ends but p.0 y
              (Contains-from_In p.0 but (In-flat_map (sparing touch e) t.1 p.0 (inside marks live) item (In-filter (other_than e) p.0 (touch t.1) t.3 (other_true e p.0 ne))))
              t.0)
        ]

    -- so where the others of the part join the ends of e, they span e
    spanned : IsSome (get_or part e None) → AreJoinedWithout (take (length part) part) e → matroid.spans but e ≡ true
    spanned there joined = by_ends (get_or part e None) there refl
      where
        by_ends : (o : Option Ends) → IsSome o → get_or part e None ≡ o → matroid.spans but e ≡ true
        by_ends None some is = absurd cc
        by_ends (Some x) some is =
            let whole : take (length part) part ≡ part = take_all (length part) part (omega arith) in
            let chain = subst (λ (xs : List (Option Ends)). AreJoinedWithout xs e) whole joined x is in
            subst (λ (o : Option Ends). is_joined (ends_of ends but) (both_ends o).0 (both_ends o).1 ≡ true) (sym (h e x is).0)
            (is_joined-from_Chain (ends_of ends but) x.a x.b (Chain-more (present (set part e None)) (ends_of ends but) (among (present_low part e there)) chain))

    -- and where the marked meters are redundant, a longest assignment misses e
    spared_touched : ((m : ℕ) → marks m ≡ true → critical_at n ends touches m ≡ false) → matroid.spans but e ≡ true → IsSpared ends touches e
    spared_touched redundant joins =
        let laws = IsMatroid-graph n ends ok in
        let d = live_items-distinct ends touches in
        let r = rho_exists matroid laws touch live d in
        let s = rho_exists matroid laws (sparing touch e) live d in
        let kept : (m : ℕ) → In m live → marks m ≡ true → IsCritical matroid touch live m → ⊥ = λ m i t k.
        clash (and_from (is_live ends touches m) (is_critical matroid touch live m) (live-from_live_items ends touches m i) ((is_critical_is matroid laws touch live d m).1 k)) (redundant m t) in
        let more = spared_long matroid laws touch e live d r.0 s.0 r.1 s.1 marks kept joins in
        let long = s.1.long in
        record {
          pairs = s.1.longest;
          assigns = live-to_every ends touches s.1.longest (from_matroid n ends touches live s.1.longest (sparing_assigns matroid laws touch e live s.1.longest s.1.assigns));
          longest = λ B x.
              let few = r.1.none_longer B (to_matroid n ends touches live B (every-to_live ends touches B x)) in
              omega (arith, few, more, long);
          free = sparing_free matroid laws touch e live s.1.longest s.1.assigns;
        }

-- a branch that no pair of a longest assignment has is spared
spared_bare : (g : Graph) (touches : List Touch) (a : Assignment) → IsLongest g touches a → (e : ℕ) → ((m : ℕ) → branch_at a m ≢ Some e) → IsSpared g.ends touches e
spared_bare g touches a h e out = record {
  pairs = pairs a;
  assigns = IsAssignmentAt-standing a g touches h.whole h.stands;
  longest = λ B x. h.longest.none_longer B (every-to_live g.ends touches B x);
  free = λ i. let s = branch_slot a.slots e i in out s.0 s.1;
}

-- a branch that can be missed is spared, where the part is of what the meters touch that a search reached which found no pair more
pub spared_missed : (g : Graph) (touches : List Touch) (a : Assignment) → AreBranches g.vertices g.ends → IsLongest g touches a → (reached : List Bool)
    → HasClosed g.ends touches All a a reached → (part : List (Option Ends)) → AreTouchedBy g.ends touches (has_flag reached) part → (e : ℕ) → CanBeMissed a part e → IsSpared g.ends touches e
spared_missed g touches a ok h reached c part t e (inl out) = spared_bare g touches a h e out
spared_missed g touches a ok h reached c part t e (inr there) =
    let closed : HasClosedSet a g touches (has_flag reached) = record { branches = ok; whole = h.whole; stands = h.stands; least = c.least } in
    spared_touched g.vertices g.ends touches ok (has_flag reached) part t e
    (λ m marked. ((closed_noncritical a g touches (has_flag reached) closed h.thawed m).0 marked).1)
    (spanned g.vertices g.ends touches ok (has_flag reached) part t e there.0 there.1)

-- so are all flagged branches of a network
pub flags_spared : (n : Network) (g : Graph) (ms : Meters) → g ≡ n.graph → ms ≡ n.meters → AreBranches g.vertices g.ends → (a b : Assignment) → b ≡ a → AreLongestOver n a → (reached : List Bool)
    → HasClosed g.ends ms.touches All b b reached → (part : List (Option Ends)) → AreTouchedBy g.ends ms.touches (has_flag reached) part → (flags : List Bool) → AreMissed b part flags → AreSpared n flags
flags_spared n g ms gg mm ok a b same h reached c part t flags missed = λ e f.
    let there : IsLongest g ms.touches a = subst (λ (x : Graph). IsLongest x ms.touches a) (sym gg) (subst (λ (x : Meters). IsLongest n.graph x.touches a) (sym mm) h) in
    let long : IsLongest g ms.touches b = subst (λ (x : Assignment). IsLongest g ms.touches x) (sym same) there in
    subst (λ (x : Meters). IsSpared n.graph.ends x.touches e) mm (subst (λ (x : Graph). IsSpared x.ends ms.touches e) gg (spared_missed g ms.touches b ok long reached c part t e (missed e f)))
