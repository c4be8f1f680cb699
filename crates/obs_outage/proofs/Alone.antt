-- One search from a meter that lost its pair.
use Rattle.std.proofs.Common.{inl, inr, ◌≡◌, ◌≢◌, ℕ, suc, ◌+◌, ◌<◌, ◌≤◌, Bool, Option, Some, None, List, ◌∷◌, length, get_or, set, refl, sym, ap, ◌∙◌, subst, get_or-set_same, get_or-set_other, arith}
use Rattle.std.proofs.lemmas.Bool.{cases_eq}
use Rattle.std.proofs.lemmas.List.{length-set, set-get_or, set-set}
use Rattle.obs_graph.specs.declared.Ends.{Ends}
use Rattle.obs_graph.specs.Positions.{AreBranches}
use Rattle.obs_matroid.specs.Lists.{In, other_than, without}
use Rattle.obs_matroid.specs.Assignments.{IsAssignment, Pair, items}
use Rattle.obs_matroid.specs.inner.Closed.{IsGrown, every, none}
use Rattle.obs_matroid.specs.inner.Slots.{pairs_of}
use Rattle.obs_matroid.proofs.Bounds.{length-items}
use Rattle.obs_matroid.proofs.Critical.{longest_from_closed}
use Rattle.obs_matroid.proofs.Least.{grows_or_closes}
use Rattle.obs_matroid.proofs.Lists.{In-filter, IsDistinct-filter, clash, length-within, other_true}
use Rattle.obs_matroid.proofs.Pairs.{In-items, In-items_from}
use Rattle.obs_meter.specs.declared.Touch.{Touch}
use Rattle.obs_meter.specs.Assignments.{IsAssignmentAt, IsRhoAt, rho_at}
use Rattle.obs_meter.specs.Spanned.{graph_matroid}
use Rattle.obs_meter.specs.Touches.{every_item, live_items, touch_at}
use Rattle.obs_meter.proofs.Assigned.{every-to_live, from_matroid, live-to_every, live_items-distinct, rho-from_matroid, rho_at-is}
use Rattle.obs_meter.proofs.Instance.{IsMatroid-graph}
use Rattle.obs_meter.proofs.Live.{live-from_live_items}
use Rattle.obs_meter.proofs.Touched.{live-from_In}
use Rattle.obs_assign.specs.Assignment.{Assignment}
use Rattle.obs_assign.specs.inner.Assignment.{IsWhole, StandsOver, branch_at, pairs}
use Rattle.obs_assign.proofs.Moving.{length-put_bare}
use Rattle.obs_assign.proofs.Slotted.{item_slot, none_some, slot_item, slot_low}
use Rattle.obs_assign.proofs.Standing.{IsAssignmentAt-standing}
use Rattle.obs_exchange.specs.declared.Found.{Found}
use Rattle.obs_exchange.specs.declared.Found.TheVariants.{Closed, Grown}
use Rattle.obs_exchange.specs.declared.Sources.TheVariants.{One}
use Rattle.obs_exchange.specs.Critical.{IsCriticalAt}
use Rattle.obs_exchange.specs.inner.Found.{AddsSource, HasClosed, IsFound}
use Rattle.obs_exchange.specs.inner.Laws.{IsThawed}
use Rattle.obs_exchange.specs.inner.Longest.{IsLongest}
use Rattle.obs_exchange.proofs.AtGraph.{IsAssignment-live, out-from_bare}
use Rattle.obs_network.specs.Network.{Network}
use Rattle.obs_outage.specs.inner.Alone.{HasLost}
use Rattle.obs_outage.proofs.Crossed.{thawed_found}

module _ (n : Network) (a b : Assignment) (m e : ℕ) (h : HasLost n a m e b) where
  abbrev ends : List (Option Ends)
  ends = n.graph.ends

  abbrev touches : List Touch
  touches = n.meters.touches

  low : m < length a.slots
  low = slot_low a.slots m e h.had

  pub bare : branch_at b m ≡ None
  bare = ap (λ (s : List (Option ℕ)). get_or s m None) h.slots ∙ get_or-set_same a.slots m None None low

  pub low_there : m < length b.slots
  low_there = let len = ap (λ (s : List (Option ℕ)). length s) h.slots ∙ length-set a.slots m None in omega (arith, low, len)

  back : set b.slots m (Some e) ≡ a.slots
  back = ap (λ (s : List (Option ℕ)). set s m (Some e)) h.slots ∙ (set-set a.slots m None (Some e) ∙ (ap (λ o. set a.slots m o) (sym h.had) ∙ set-get_or a.slots m None))

  -- there is one pair less
  pub one_less : length (pairs a) ≡ suc (length (pairs b))
  one_less = ap (λ (s : List (Option ℕ)). length (pairs_of s)) (sym back) ∙ length-put_bare b.slots m e low_there bare

  keeps : (x : ℕ) → In x (items (pairs b)) → In x (items (pairs a))
  keeps x i =
      let s = item_slot b.slots x i in
      elim (cases_eq x m) [
        | inl y ↦ absurd (none_some s.0 (sym bare ∙ (ap (branch_at b) (sym y) ∙ s.1)))
        | inr ne ↦ slot_item a.slots x s.0 (sym (get_or-set_other a.slots m x None None ne) ∙ (ap (λ (t : List (Option ℕ)). get_or t x None) (sym h.slots) ∙ s.1))
      ]

  -- the longest pairs add the meter
  adds : AddsSource ends touches (One m) b (pairs a)
  adds = record {
    assigns = IsAssignmentAt-standing a n.graph touches h.longest.whole h.longest.stands;
    extends = λ p i f. clash f (h.thawed p.0);
    keeps = keeps;
    source = m;
    is_source = (refl, live-from_In ends touches m e (h.longest.stands.touched m e h.had), bare);
    adds = slot_item a.slots m e h.had;
  }

  -- so a search from it finds one more
  pub not_closed : (c : Assignment) (flags : List Bool) → HasClosed ends touches (One m) b c flags → ⊥
  not_closed c flags k = k.none (pairs a) adds

  -- pairs that are one more are longest
  pub grown_longest : (c : Assignment) → length (pairs c) ≡ length (pairs b) + 1 → StandsOver c n.graph touches → IsWhole c → IsThawed c → IsLongest n.graph touches c
  grown_longest c more stands whole thawed = record {
    stands = stands;
    whole = whole;
    thawed = thawed;
    longest = let one = one_less in
        let same : length (pairs a) ≡ length (pairs c) = omega (arith, one, more) in
        subst (λ (k : ℕ). IsRhoAt ends touches (live_items ends touches) k) same h.longest.longest;
  }

  -- so a search from the meter leaves longest pairs
  pub found_longest : (c : Assignment) (flags : List Bool) (answer : Found) → IsFound ends touches (One m) b c flags answer → StandsOver c n.graph touches → IsWhole c → IsLongest n.graph touches c
  found_longest c flags (Grown x) k stands whole = grown_longest c k.longer stands whole (thawed_found ends touches (One m) b c flags (Grown x) k h.thawed)
  found_longest c flags Closed k stands whole = absurd (not_closed c flags k)

  -- over another network, of which each assignment is one of this
  module _ (o : Network) (within : (B : List Pair) → IsAssignmentAt o.graph.ends o.meters.touches (every_item o.meters.touches) B → IsAssignmentAt ends touches (every_item touches) B) where
    abbrev there : List (Option Ends)
    there = o.graph.ends

    abbrev of : List Touch
    of = o.meters.touches

    -- one more is as many as there can be
    pub grown_there : (c : Assignment) → length (pairs c) ≡ length (pairs b) + 1 → StandsOver c o.graph of → IsWhole c → IsRhoAt there of (live_items there of) (length (pairs c))
    grown_there c more stands whole = record {
      longest = pairs c;
      assigns = every-to_live there of (pairs c) (IsAssignmentAt-standing c o.graph of whole stands);
      long = refl;
      none_longer = λ B x.
          let few = h.longest.longest.none_longer B (every-to_live ends touches B (within B (live-to_every there of B x))) in
          let one = one_less in
          omega (arith, few, one, more);
    }

    module _ (ok : AreBranches n.graph.vertices ends) (ok_there : AreBranches o.graph.vertices there)
        (critical : IsCriticalAt ends touches (live_items ends touches) m) (stands : StandsOver b o.graph of)
        (c : Assignment) (flags : List Bool) (closed : HasClosed there of (One m) b c flags) where
      abbrev live : List ℕ
      live = live_items there of

      assigns : IsAssignment (graph_matroid o.graph.vertices there) (touch_at there of) live (pairs b)
      assigns = IsAssignment-live o.graph.vertices b o.graph of h.whole stands

      -- none grows by the meter
      not_itself : (B : List Pair) (s : ℕ) → IsGrown (graph_matroid o.graph.vertices there) (touch_at there of) live none every (pairs b) B s → s ≡ m → ⊥
      not_itself B s w is =
          let i : In m (items B) = subst (λ (k : ℕ). In k (items B)) is w.gains in
          let v = In-items_from B m i in
          closed.none B (record {
            assigns = live-to_every there of B (from_matroid o.graph.vertices there of live B w.assigns);
            extends = λ p j f. clash f (h.thawed p.0);
            keeps = w.keeps;
            source = m;
            is_source = (refl, live-from_live_items there of m (subst (λ (k : ℕ). In k live) (sym v.2) (w.assigns.of_items v.0 v.1)), bare);
            adds = i;
          })

      -- nor by another, since then the first network had as many pairs without the meter
      not_another : (B : List Pair) (s : ℕ) → IsGrown (graph_matroid o.graph.vertices there) (touch_at there of) live none every (pairs b) B s → s ≢ m → ⊥
      not_another B s w ne =
          let few_b = length-items (pairs b) in
          let few_B = length-items B in
          let longer = w.longer in
          let out : In m (items B) → ⊥ = λ i.
          let le : suc (suc (length (items (pairs b)))) ≤ length (items B) =
          length-within (m ∷ s ∷ items (pairs b)) (items B)
          ((λ j. elim j [ inl y ↦ ne (sym y) | inr k ↦ out-from_bare b m bare k ]), (w.had_none, assigns.different))
          (λ x j. elim j [
            | inl y ↦ subst (λ (k : ℕ). In k (items B)) (sym y) i
            | inr l ↦ elim l [ inl y ↦ subst (λ (k : ℕ). In k (items B)) (sym y) w.gains | inr k ↦ w.keeps x k ]
          ]) in
          absurd (omega (arith, le, few_b, few_B, longer)) in
          let M = live_items ends touches in
          let here = every-to_live ends touches B (within B (live-to_every there of B (from_matroid o.graph.vertices there of live B w.assigns))) in
          let left = rho_at n.graph.vertices ends touches (without m M) in
          let has_left = rho_at-is n.graph.vertices ends touches (without m M) ok (IsDistinct-filter (other_than m) M (live_items-distinct ends touches)) in
          let falls = critical.falls (length (pairs a)) left h.longest.longest has_left in
          let at_most = has_left.none_longer B (record {
            of_items = λ p i. In-filter (other_than m) p.0 M (here.of_items p i) (other_true m p.0 (λ same. out (subst (λ (k : ℕ). In k (items B)) same (In-items B p i))));
            touched = here.touched;
            different = here.different;
            forest = here.forest;
          }) in
          let one = one_less in
          absurd (omega (arith, falls, at_most, one, longer))

      -- so there are no more
      pub closed_there : IsRhoAt there of live (length (pairs b))
      closed_there =
          let g = graph_matroid o.graph.vertices there in
          let laws = IsMatroid-graph o.graph.vertices there ok_there in
          let touch = touch_at there of in
          elim (grows_or_closes g laws touch live none every (pairs b) (live_items-distinct there of) assigns (λ x f. clash f refl)) [
            | inl w ↦ absurd (elim (cases_eq w.1 m) [ inl is ↦ not_itself w.0 w.1 w.2 is | inr ne ↦ not_another w.0 w.1 w.2 ne ])
            | inr s ↦ rho-from_matroid o.graph.vertices there of live (length (pairs b)) (record {
              longest = pairs b;
              assigns = assigns;
              long = refl;
              none_longer = longest_from_closed g laws touch live (pairs b) s.0 assigns s.1.closed s.1.holds;
            })
          ]
