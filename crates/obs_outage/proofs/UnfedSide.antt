-- A side without a source that a walk listed: what is counted at its buses is what the outage takes from the rank.
use Rattle.std.proofs.Common.{◌≡◌, ℕ, ◌+◌, ◌<◌, ◌^◌, Bool, true, not, ◌⊎◌, inl, inr, Option, Some, None, List, length, get_or, refl, sym, ap, ◌∙◌, subst, arith}
use Rattle.std.specs.Prelude.{◌==◌, IfSome, IsSome, count_by, is_some, slice_index_or, sum_by}
use Rattle.std.specs.Cmp.Derive.{one_truth}
use Rattle.std.proofs.lemmas.Bool.{cases_Bool, cases_eq, or_left, or_right, eq-eqb}
use Rattle.obs_graph.specs.declared.Ends.{Ends}
use Rattle.obs_graph.specs.Joined.{Leads}
use Rattle.obs_graph.specs.Positions.{branches_at, has_end}
use Rattle.obs_graph.proofs.AtVertex.{end_at}
use Rattle.obs_graph.proofs.Chains.{Leads-back}
use Rattle.obs_graph.proofs.Present.{some_one}
use Rattle.obs_case.specs.Tables.{IsValid, Tables}
use Rattle.obs_matroid.specs.Lists.{In}
use Rattle.obs_matroid.specs.Assignments.{Pair, branches}
use Rattle.obs_matroid.proofs.Lists.{clash}
use Rattle.obs_matroid.proofs.Pairs.{In-branches, In-branches_from}
use Rattle.obs_matroid.proofs.Slots.{slot_from}
use Rattle.obs_meter.specs.declared.Hub.{Hub}
use Rattle.obs_meter.specs.declared.Touch.{Touch}
use Rattle.obs_meter.specs.declared.Touch.TheVariants.{Edge, Front, Nothing, Star}
use Rattle.obs_meter.specs.Assignments.{IsAssignmentAt}
use Rattle.obs_meter.specs.Spanned.{both_ends, common_vertex, ends_at}
use Rattle.obs_meter.specs.Touches.{every_item, touch_at, touched}
use Rattle.obs_meter.specs.inner.Touches.{hub_of}
use Rattle.obs_meter.proofs.Touched.{itself_from, touched-vertex, touched-present}
use Rattle.obs_assign.specs.Assignment.{Assignment}
use Rattle.obs_assign.specs.inner.Assignment.{IsWhole, branch_at, pairs}
use Rattle.obs_assign.proofs.Slotted.{distinct_branches, length-pairs_of, slots_apart}
use Rattle.obs_assign.proofs.Standing.{IsAssignmentAt-standing}
use Rattle.obs_network.specs.Network.{Network, case_branches, case_meters, network_of}
use Rattle.obs_network.specs.Observable.{case_rank}
use Rattle.obs_network.specs.Parted.{outage_case}
use Rattle.obs_network.specs.inner.Parted.{HasSource, IsParted}
use Rattle.obs_network.proofs.OfCase.{case_position_count-le, few_branches, few_candidates, few_meters, length-case_branches, length-case_meters}
use Rattle.obs_network.proofs.Outed.{some_of}
use Rattle.obs_network.proofs.PartedNeeds.{Fed, Found, found, one_fed, some_fed}
use Rattle.obs_network.proofs.SideLists.{in_side, side_in}
use Rattle.obs_kept.specs.inner.Kept.{AreLongest}
use Rattle.obs_outage.specs.inner.Lost.{IsConfined, IsUnfed, counts_at}
use Rattle.obs_outage.specs.inner.Settled.{IsFreed}
use Rattle.obs_outage.proofs.InOutage.{rank_longest}
use Rattle.obs_outage.proofs.Losing.{any_from, any_in, ends_in, lost_pairs, same_length, sum_is}
use Rattle.obs_outage.proofs.Unfed.{at, ends_there, gone_at, goes_on, leaves, on, rank_less, row_is, row_off, stays_off}

-- an item without a hub touches one branch at most, and one with a hub touches branches with an end there
by_hub : (ends : List (Option Ends)) (t : Touch) → ((j k : ℕ) → In j (touched ends t) → In k (touched ends t) → j ≡ k) ⊎ ((h : Hub) × (hub_of ends t ≡ Some h) × (common_vertex ends t ≡ h.vertex))
by_hub ends Nothing = inl (λ j k i h. absurd i)
by_hub ends (Edge p) = inl (λ j k i h. (itself_from (slice_index_or ends p None) p j i).0 ∙ sym ((itself_from (slice_index_or ends p None) p k h).0))
by_hub ends (Star v) = inr (record { vertex = v; count = length (branches_at ends v) }, refl, refl)
by_hub ends (Front v count) = inr (record { vertex = v; count = count }, refl, refl)

module _ (t : Tables) (v : IsValid t) (e c : ℕ) (side : List ℕ) (p : IsParted t e c side) (none : HasSource t side → ⊥) (a : Assignment) (h : AreLongest t a) (freed : IsFreed (network_of t) a e side) where
  abbrev f : Found t e c side
  f = found t v e c side p

  abbrev out : Tables
  out = outage_case t e

  abbrev l : ℕ
  l = f.other

  abbrev d : ℕ
  d = f.one

  dark : Fed t v e c side p f d → ⊥
  dark s = none (one_fed t v e c side p f s)

  fed : Fed t v e c side p f l
  fed = elim (some_fed t v e c side p f) [ inl s ↦ absurd (dark s) | inr s ↦ s ]

  leads : Leads f.ends l d
  leads = Leads-back f.ends d l f.leads

  abbrev on_it : ℕ → Bool
  on_it = on t v e c side p f l d leads fed dark

  listed_on : (u : ℕ) → In u side → on_it u ≡ true
  listed_on u i = eq-eqb _ _ (in_side t v e f.ends f.row f.one f.other f.leads side f.of u i)

  on_listed : (u : ℕ) → on_it u ≡ true → In u side
  on_listed u is = side_in t v e f.ends f.row f.one f.other f.leads side f.of u (at t v e c side p f l d leads fed dark u is)

  abbrev ends : List (Option Ends)
  ends = case_branches t

  abbrev A : List Pair
  A = pairs a

  assigned : IsAssignmentAt ends (case_meters t) (every_item (case_meters t)) A
  assigned = IsAssignmentAt-standing a (network_of t).graph (case_meters t) h.whole h.stands

  alone : IsConfined (network_of t) a e side → (m j : ℕ) → In (m, e) A → In j (touch_at ends (case_meters t) m) → IsSome (slice_index_or (case_branches out) j None) → ⊥
  alone confined m j i hj some =
      let touch = slice_index_or (case_meters t) m Nothing in
      let off = stays_off t v e c side p f l d leads fed dark j some in
      elim (by_hub ends touch) [
        | inl one ↦
            let same = one j e hj (assigned.touched (m, e) i) in
            row_off t v e c side p f l d leads fed dark (subst (λ z. IsSome (slice_index_or (case_branches out) z None)) same some)
        | inr hub ↦
            let here = listed_on hub.0.vertex (confined m hub.0 (slot_from a.slots (m, e) i) hub.1) in
            let is : on_it (common_vertex ends touch) ≡ true = ap on_it hub.2 ∙ here in
            clash is (elim (touched-vertex ends touch j hj) [ inl s ↦ ap on_it (sym s) ∙ off.0 | inr s ↦ ap on_it (sym s) ∙ off.1 ])
      ]

  there : (k : ℕ) → In k (branches A) → (y : Ends) × (get_or ends k None ≡ Some y)
  there k i =
      let q = In-branches_from A k i in
      let y = some_of (get_or ends q.0.1 None) (touched-present ends (slice_index_or (case_meters t) q.0.0 Nothing) q.0.1 (assigned.touched q.0 q.1)) in
      (y.0, ap (λ z. get_or ends z None) q.2 ∙ y.1)

  row : get_or ends e None ≡ Some f.ends
  row = row_is t v e c side p f l d leads fed dark

  here : In d side
  here = side_in t v e f.ends f.row f.one f.other f.leads side f.of d refl

  whole : (k : ℕ) (y : Ends) → (k ≡ e → ⊥) → get_or ends k None ≡ Some y → In y.a side ⊎ In y.b side → In y.a side × In y.b side
  whole k y ne is s =
      let r = ends_there t v e c side p f l d leads fed dark k y ne is (elim s [ inl i ↦ inl (listed_on y.a i) | inr i ↦ inr (listed_on y.b i) ]) in
      (on_listed y.a r.0, on_listed y.b r.1)

  abbrev pub counted : ℕ
  counted = sum_by (λ w. count_by (counts_at ends a.forest.held e w) (branches_at ends w)) side

  counted_is : counted ≡ length (lost_pairs ends side A)
  counted_is =
      sum_is ends a.forest.held e d l side f.ends row f.leads here (f.of.apart f.ends f.other f.row f.leads) f.of.different whole
      A (distinct_branches ends (branches A) assigned.forest) (λ k i. (h.whole.paired.holds.exactly k).1 i) (λ k s. (h.whole.paired.holds.exactly k).0 s) there

  -- a pair is lost exactly where its branch goes
  lost_leaves : (q : Pair) → In q A → ends_in ends side q.1 ≡ leaves t v e c side p f l d leads fed dark q
  lost_leaves q i =
      let k = q.1 in
      let y = there k (In-branches A q i) in
      let gone : (IsSome (slice_index_or (case_branches out) k None) → ⊥) → leaves t v e c side p f l d leads fed dark q ≡ true =
      λ n. elim (cases_Bool (is_some (slice_index_or (case_branches out) k None))) [ inl s ↦ absurd (n s) | inr s ↦ ap not s ] in
      let test : ℕ → Bool = λ w. has_end w (get_or ends k None) in
      let test_at : (w : ℕ) → (y.0.a ≡ w) ⊎ (y.0.b ≡ w) → test w ≡ true = λ w s. ap (has_end w) y.1 ∙ (elim s [
        | inl r ↦ or_left (y.0.a == w) (y.0.b == w) (eq-eqb y.0.a w r)
        | inr r ↦ or_right (y.0.a == w) (y.0.b == w) (eq-eqb y.0.b w r)
      ]) in
      one_truth (ends_in ends side k) (leaves t v e c side p f l d leads fed dark q)
      (λ is. gone (λ some.
      let r = any_from test side is in
      let s = end_at r.0 y.0 (ap (has_end r.0) (sym y.1) ∙ r.2) in
      elim (cases_eq k e) [
        | inl same ↦ row_off t v e c side p f l d leads fed dark (subst (λ z. IsSome (slice_index_or (case_branches out) z None)) same some)
        | inr ne ↦
            let z = ends_there t v e c side p f l d leads fed dark k y.0 ne y.1
            (elim s [ inl w ↦ inl (listed_on y.0.a (subst (λ (z : ℕ). In z side) (sym w) r.1)) | inr w ↦ inr (listed_on y.0.b (subst (λ (z : ℕ). In z side) (sym w) r.1)) ]) in
            z.2 some
      ]))
      (λ lv. elim (cases_eq k e) [
        | inl same ↦
            let is : y.0 ≡ f.ends = some_one y.0 f.ends (sym y.1 ∙ ap (λ z. get_or ends z None) same ∙ row) in
            any_in test side d here (test_at d (elim f.leads [ inl w ↦ inl (ap (λ (z : Ends). z.a) is ∙ w.0) | inr w ↦ inr (ap (λ (z : Ends). z.b) is ∙ w.0) ]))
        | inr ne ↦
            let g = goes_on t v e c side p f l d leads fed dark k ne (subst IsSome (sym y.1) refl) (gone_at t v e c side p f l d leads fed dark q lv) in
            let is : (ends_at ends k).0 ≡ y.0.a = ap (λ (o : Option Ends). (both_ends o).0) y.1 in
            any_in test side y.0.a (on_listed y.0.a (ap on_it (sym is) ∙ g.0)) (test_at y.0.a (inl refl))
      ])

  -- what the outage leaves of the rank
  pub unfed_rank : case_rank out + counted ≡ length A
  unfed_rank =
      let all = rank_longest t v a h in
      let less = rank_less t v e c side p f l d leads fed dark A assigned (elim freed [ inl confined ↦ inl (alone confined) | inr costly ↦ inr costly ]) all in
      let same = same_length (λ (q : Pair). ends_in ends side q.1) (leaves t v e c side p f l d leads fed dark) A lost_leaves in
      omega (arith, all, less, same, counted_is)

-- the same, by the network, the branches and the sum that a body has
pub unfed_by : (t : Tables) → IsValid t → (e : ℕ) (side : List ℕ) → IsUnfed t e side → (a : Assignment) → AreLongest t a → (n : Network) → n ≡ network_of t → IsFreed n a e side
    → (ends : List (Option Ends)) → ends ≡ case_branches t → (sum : ℕ) → sum ≡ sum_by (λ w. count_by (counts_at ends a.forest.held e w) (branches_at ends w)) side
    → case_rank (outage_case t e) + sum ≡ length (pairs a)
unfed_by t v e side u a h n net freed ends same sum is =
    let less = unfed_rank t v e u.0 side u.1 u.2 a h (subst (λ (x : Network). IsFreed x a e side) net freed) in
    let all = is ∙ ap (λ (xs : List (Option Ends)). sum_by (λ w. count_by (counts_at xs a.forest.held e w) (branches_at xs w)) side) same in
    omega (arith, less, all)

-- there are fewer pairs and branches than a word has numbers
pub few_pairs : (t : Tables) → IsValid t → (a : Assignment) → AreLongest t a → length (pairs a) < 2 ^ 32
few_pairs t v a h = let m = h.stands.meters in omega (arith, length-pairs_of a.slots, m, length-case_meters t, few_meters t v)

pub few_positions : (t : Tables) → IsValid t → length (case_branches t) < 2 ^ 32
few_positions t v = omega (arith, length-case_branches t, case_position_count-le t, few_branches t v, few_meters t v, few_candidates t v)

-- what holds of the hub of the meter that has a branch holds of the hub of each such meter
pub confined_by : (ends : List (Option Ends)) (touches : List Touch) (a : Assignment) → IsWhole a → (e m : ℕ) → branch_at a m ≡ Some e → (o : Option Hub) → o ≡ hub_of ends (slice_index_or touches m Nothing)
    → (P : Hub → Type 0) → IfSome o P → (k : ℕ) (h : Hub) → branch_at a k ≡ Some e → hub_of ends (slice_index_or touches k Nothing) ≡ Some h → P h
confined_by ends touches a w e m has o is P told k h other hub =
    let same : m ≡ k = slots_apart a.forest.held a.slots w.paired.holds.forest m k e has other in
    subst (λ (z : Option Hub). IfSome z P) (is ∙ ap (λ i. hub_of ends (slice_index_or touches i Nothing)) same ∙ hub) told
