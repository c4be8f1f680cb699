-- A meter that came back: only a pair of its own can be missing.
use Rattle.std.proofs.Common.{inl, inr, ◌≡◌, ◌≢◌, ℕ, ◌+◌, ◌<◌, ◌≤◌, Bool, true, false, Option, Some, None, List, [], ◌∷◌, length, get_or, refl, sym, ap, ◌∙◌, subst, arith}
use Rattle.std.specs.Prelude.{MatchBool}
use mathlib.Core.Bool.{beq}
use Rattle.std.proofs.lemmas.Bool.{cases_Bool, cases_eq, eqb-true}
use Rattle.obs_graph.specs.Graph.{Graph}
use Rattle.obs_graph.specs.Positions.{AreBranches}
use Rattle.obs_case.specs.declared.rows.Kind.TheVariants.{Flow}
use Rattle.obs_case.specs.declared.rows.Meter.{Meter}
use Rattle.obs_case.specs.Flags.{with_meter_inservice}
use Rattle.obs_case.specs.Tables.{IsValid, Tables}
use Rattle.obs_matroid.specs.Lists.{In, IsDistinct, other_than, without}
use Rattle.obs_matroid.specs.Matroid.{Matroid}
use Rattle.obs_matroid.specs.Assignments.{IsAssignment, Pair, items}
use Rattle.obs_matroid.specs.inner.Assignments.{part}
use Rattle.obs_matroid.proofs.Lists.{In-filter, IsDistinct-filter, clash, filter_all, In-filter_from, other_ne, other_true}
use Rattle.obs_matroid.proofs.Pairs.{In-items_from, IsDistinct-part}
use Rattle.obs_matroid.proofs.Placement.{IsAssignment-items, one_more}
use Rattle.obs_matroid.proofs.Slots.{slot_at, slot_from}
use Rattle.obs_meter.specs.declared.Touch.{Touch}
use Rattle.obs_meter.specs.Assignments.{IsAssignmentAt}
use Rattle.obs_meter.specs.Spanned.{graph_matroid}
use Rattle.obs_meter.specs.Touches.{every_item, touch_at}
use Rattle.obs_meter.proofs.Assigned.{every-to_live, every_item-distinct, from_matroid, to_matroid}
use Rattle.obs_meter.proofs.Instance.{IsMatroid-graph}
use Rattle.obs_meter.proofs.Touched.{live-from_In}
use Rattle.obs_meter.proofs.Live.{In-every}
use Rattle.obs_assign.specs.Assignment.{Assignment}
use Rattle.obs_assign.specs.inner.Assignment.{IsWhole, StandsOver, branch_at, has_flag, pairs}
use Rattle.obs_assign.proofs.Slotted.{none_some}
use Rattle.obs_assign.proofs.Standing.{IsAssignmentAt-standing}
use Rattle.obs_exchange.specs.declared.Sources.TheVariants.{One}
use Rattle.obs_exchange.specs.inner.Found.{HasClosed, HasGrown}
use Rattle.obs_exchange.specs.inner.Laws.{IsThawed}
use Rattle.obs_exchange.specs.inner.Longest.{IsLongest, IsMost}
use Rattle.obs_exchange.proofs.Longest.{IsLongest-ended}
use Rattle.obs_network.specs.Network.{Network, case_branches, case_meters, network_of}
use Rattle.obs_network.proofs.Edited.{branches-with_meter}
use Rattle.obs_network.proofs.OfCase.{length-case_meters}
use Rattle.obs_repair.specs.declared.edit.Edit.TheVariants as edit
use Rattle.obs_repair.specs.inner.Repairing.{AreLeft, IsBack, IsBefore}
use Rattle.obs_repair.proofs.Flagged.{meters-edited, set_meter}
use Rattle.obs_repair.proofs.Metered.{assigns_without, touched_before, without_one}
use Rattle.obs_repair.proofs.MostPairs.{all_left}
use Rattle.obs_repair.proofs.Retained.{assigns-within}

module _ (g : Graph) (touches : List Touch) (ok : AreBranches g.vertices g.ends) (m : ℕ) (a : Assignment) (back : IsBack g touches m a) (stands : StandsOver a g touches) (thawed : IsThawed a) where
  abbrev others_of : List ℕ
  others_of = without m (every_item touches)

  abbrev mat : Matroid
  mat = graph_matroid g.vertices g.ends

  low : m < length touches
  low = let l = back.low in let s = stands.meters in omega (arith, l, s)

  all_items : (x : ℕ) → In x (m ∷ others_of) → In x (every_item touches)
  all_items x (inl e) = subst (λ y. In y (every_item touches)) (sym e) (In-every touches m low)
  all_items x (inr i) = (In-filter_from (other_than m) x (every_item touches) i).0

  from_every : (x : ℕ) → In x (every_item touches) → In x (m ∷ others_of)
  from_every x i = elim (cases_eq x m) [
    | inl e ↦ inl e
    | inr ne ↦ inr (In-filter (other_than m) x (every_item touches) i (other_true m x ne))
  ]

  differ : IsDistinct (m ∷ others_of)
  differ = (λ i. other_ne m m (In-filter_from (other_than m) m (every_item touches) i).1 refl, IsDistinct-filter (other_than m) (every_item touches) (every_item-distinct touches))

  not_back : (p : Pair) → In p (pairs a) → p.0 ≢ m
  not_back p i e = none_some p.1 (sym back.bare ∙ (ap (λ j. branch_at a j) (sym e) ∙ slot_from a.slots p i))

  module _ (whole : IsWhole a) where
    had : IsAssignment mat (touch_at g.ends touches) others_of (pairs a)
    had =
        let A = to_matroid g.vertices g.ends touches (every_item touches) (pairs a) (IsAssignmentAt-standing a g touches whole stands) in
        IsAssignment-items mat (IsMatroid-graph g.vertices g.ends ok) (touch_at g.ends touches) (every_item touches) others_of (pairs a) A
        (λ p i. In-filter (other_than m) p.0 (every_item touches) (A.of_items p i) (other_true m p.0 (not_back p i)))

    longest_before : (B : List Pair) → IsAssignment mat (touch_at g.ends touches) others_of B → length B ≤ length (pairs a)
    longest_before B x =
        back.most B
        (from_matroid g.vertices g.ends touches (every_item touches) B
        (IsAssignment-items mat (IsMatroid-graph g.vertices g.ends ok) (touch_at g.ends touches) others_of (every_item touches) B x (λ p i. (In-filter_from (other_than m) p.0 (every_item touches) (x.of_items p i)).0)))
        (λ p i. other_ne m p.0 (In-filter_from (other_than m) p.0 (every_item touches) (x.of_items p i)).1)

    -- a closed search from the meter alone shows that no assignment has more pairs
    most-closed : (flags : List Bool) → HasClosed g.ends touches (One m) a a flags → IsMost g.ends touches (length (pairs a))
    most-closed flags closed B x =
        elim (one_more mat (IsMatroid-graph g.vertices g.ends ok) (touch_at g.ends touches) others_of m (pairs a) differ had longest_before) [
          | inl b ↦
              let w = b.2 in
              let every = IsAssignment-items mat (IsMatroid-graph g.vertices g.ends ok) (touch_at g.ends touches) (m ∷ others_of) (every_item touches) b.0 w.assigns (λ p i. all_items p.0 (w.assigns.of_items p i)) in
              let is : b.1 ≡ m = eqb-true b.1 m w.is_source in
              let q = In-items_from b.0 b.1 w.gains in
              let touched : In q.0.1 (touch_at g.ends touches b.1) = subst (λ y. In q.0.1 (touch_at g.ends touches y)) (sym q.2) (w.assigns.touched q.0 q.1) in
              absurd (closed.none b.0 (record {
                assigns = from_matroid g.vertices g.ends touches (every_item touches) b.0 every;
                extends = λ p i f. clash f (thawed p.0);
                keeps = w.keeps;
                source = b.1;
                is_source = (is, live-from_In g.ends touches b.1 q.0.1 touched, ap (λ j. branch_at a j) is ∙ back.bare);
                adds = w.gains;
              }))
          | inr most ↦
              let A = to_matroid g.vertices g.ends touches (every_item touches) B x in
              most B (IsAssignment-items mat (IsMatroid-graph g.vertices g.ends ok) (touch_at g.ends touches) (every_item touches) (m ∷ others_of) B A (λ p i. from_every p.0 (A.of_items p i)))
        ]

    -- so the pairs are longest
    pub longest-closed : (b : Assignment) (flags : List Bool) → HasClosed g.ends touches (One m) a b flags → IsLongest g touches b
    longest-closed b flags closed =
        let here : HasClosed g.ends touches (One m) a a flags = subst (λ (x : Assignment). HasClosed g.ends touches (One m) a x flags) closed.same closed in
        subst (λ (x : Assignment). IsLongest g touches x) (sym closed.same)
        (IsLongest-ended g touches a [] (length (pairs a)) false ok stands whole thawed (most-closed flags here) (omega arith))

  -- there can be one pair more at the most
  pub most-back : IsMost g.ends touches (length (pairs a) + 1)
  most-back B x =
      let A = part (other_than m) B in
      let some = assigns-within g.vertices g.ends touches ok (every_item touches) B x A (apart B x) (λ p i. (In-filter_from (λ (q : Pair). other_than m q.0) p B i).0) in
      let few = back.most A some (λ p i. other_ne m p.0 (In-filter_from (λ (q : Pair). other_than m q.0) p B i).1) in
      let one = without_one m B x.different in
      omega (arith, few, one)
    where
      apart : (B : List Pair) → IsAssignmentAt g.ends touches (every_item touches) B → IsDistinct (items (part (other_than m) B))
      apart B x = IsDistinct-part (other_than m) B x.different

  -- one search, which found a pair
  pub longest-grown : (b : Assignment) (k : ℕ) → IsWhole b → StandsOver b g touches → HasGrown g.ends touches (One m) a b k → IsLongest g touches b
  longest-grown b k whole_after stands_after grown =
      IsLongest-ended g touches b [] (length (pairs a) + 1) false ok stands_after whole_after (λ x. ap (λ (f : List Bool). has_flag f x) grown.frozen ∙ thawed x) most-back
      (let l = grown.longer in omega (arith, l))

-- a meter that the edit puts in service was out of service
was_out : (t : Tables) (m : ℕ) → m < length t.meters → with_meter_inservice t m true ≢ t → with_meter_inservice t m false ≡ t
was_out t m low changed =
    let row : Meter = record { name = []; kind = Flow; at = 0; inservice = false } in
    elim (cases_Bool (get_or t.meters m row).inservice) [
      | inl y ↦ absurd (changed (subst (λ (b : Bool). MatchBool (beq b true) (with_meter_inservice t m true ≡ t) (with_meter_inservice t m true ≢ t)) y (set_meter t m true row low)))
      | inr n ↦ subst (λ (b : Bool). MatchBool (beq b false) (with_meter_inservice t m false ≡ t) (with_meter_inservice t m false ≢ t)) n (set_meter t m false row low)
    ]

-- the pairs that are left where a meter came back
module _ (t : Tables) (v : IsValid t) (n : Network) (a : Assignment) (m : ℕ) (h : IsBefore t (edit.Meter m true) n a) (b : Assignment) (l : AreLeft (edit.Meter m true) a b) where
  bare-back : (o : Option ℕ) → branch_at b m ≡ o → branch_at b m ≡ None
  bare-back None is = is
  bare-back (Some x) is =
      let i = ((l.left (m, x)).0 (slot_at b.slots m x is)).0 in
      let touched = h.longest.stands.touched m x (slot_from a.slots (m, x) i) in
      let out = sym (was_out h.before m h.row (λ k. h.changed (h.same ∙ k))) in
      let again = subst (λ (y : Tables). In x (touch_at (case_branches y) (case_meters y) m)) out touched in
      absurd ((touched_before h.before m m x (subst (λ bs. In x (touch_at bs (case_meters (with_meter_inservice h.before m false)) m)) (branches-with_meter h.before m false) again)).0 refl)

  most-without : (B : List Pair) → IsAssignmentAt (case_branches t) (case_meters t) (every_item (case_meters t)) B → ((p : Pair) → In p B → p.0 ≢ m) → length B ≤ length (pairs b)
  most-without B x without_m =
      let after = with_meter_inservice h.before m true in
      let y = subst (λ (u : Tables). IsAssignmentAt (case_branches u) (case_meters u) (every_item (case_meters u)) B) h.same x in
      let same : part (other_than m) B ≡ B = filter_all (λ (p : Pair). other_than m p.0) B (λ p i. other_true m p.0 (without_m p i)) in
      let z = assigns_without h.before h.valid m B y in
      let few = h.longest.longest.none_longer (part (other_than m) B) (every-to_live (case_branches h.before) (case_meters h.before) (part (other_than m) B) z) in
      let many = ap (λ (A : List Pair). length A) same in
      let all = all_left (edit.Meter m true) a b l (λ p i k. k) in
      omega (arith, few, many, all)

  pub is_back : StandsOver b (network_of t).graph (case_meters t) → IsBack (network_of t).graph (case_meters t) m b
  is_back stands = record {
    low =
        let row = h.row in
        let s = stands.meters in
        let many = ap (λ (x : Tables). length (case_meters x)) h.same ∙ meters-edited h.before (edit.Meter m true) in
        omega (arith, row, s, many, length-case_meters h.before);
    bare = bare-back (branch_at b m) refl;
    most = most-without;
  }
