-- A meter to which no source leads: without those that lead to it a closed set is closed still.
use Rattle.std.proofs.Common.{◌≡◌, ℕ, suc, ◌<◌, List, [], ◌∷◌, length, refl, sym, ap, ◌∙◌, subst, inl, inr, Bool, true, false, not, ◌||◌, ◌&&◌, Option, arith}
use Rattle.std.proofs.lemmas.Bool.{cases_Bool, cases_eq, or_left, or_right, or_cases, or_parts, and_from, and_parts, not-true}
use Rattle.obs_graph.specs.declared.Ends.{Ends}
use Rattle.obs_graph.specs.Graph.{Graph}
use Rattle.obs_graph.specs.Positions.{AreBranches}
use Rattle.obs_matroid.specs.Lists.{In, IsDistinct, other_than, without}
use Rattle.obs_matroid.specs.Matroid.{Matroid}
use Rattle.obs_matroid.specs.inner.Matroid.{IsMatroid}
use Rattle.obs_matroid.specs.Assignments.{Pair, items, branches, IsAssignment}
use Rattle.obs_matroid.specs.inner.Assignments.{part, others}
use Rattle.obs_matroid.specs.inner.Closed.{Extends, HasFrozen, HoldsSources, IsClosed, IsLeastClosed, every}
use Rattle.obs_matroid.proofs.Closed.{least_not_frozen}
use Rattle.obs_matroid.proofs.Exchange.{length-put_in}
use Rattle.obs_matroid.proofs.Least.{grows_or_closes, spans_cut}
use Rattle.obs_matroid.proofs.Lists.{clash, In_same, In-filter, In-filter_from, IsDistinct-filter, other_ne, other_true}
use Rattle.obs_matroid.proofs.Pairs.{In-branches, In-branches_from, In-items_from, In-items, In-part, In-part_from, IsDistinct-part, independent_part, items_within, more_pairs}
use Rattle.obs_matroid.proofs.Spans.{spans_more}
use Rattle.obs_matroid.proofs.Slots.{slot_from}
use Rattle.obs_meter.specs.declared.Touch.{Touch}
use Rattle.obs_meter.specs.Spanned.{ends_at, graph_matroid, joined_at}
use Rattle.obs_meter.specs.Touches.{is_live, live_items, touch_at}
use Rattle.obs_meter.proofs.Instance.{IsJoining-graph, IsMatroid-graph}
use Rattle.obs_meter.proofs.Live.{live_low}
use Rattle.obs_meter.proofs.Touched.{live-from_In}
use Rattle.obs_assign.specs.Assignment.{Assignment}
use Rattle.obs_assign.specs.inner.Assignment.{IsWhole, StandsOver, branch_at, has_flag, is_frozen, pairs}
use Rattle.obs_assign.specs.inner.Pins.{joins}
use Rattle.obs_assign.proofs.Slotted.{none_some, some_same}
use Rattle.obs_exchange.specs.declared.Sources.TheVariants.{All}
use Rattle.obs_first.specs.inner.Backwards.{HasNoWayTo, IsCutOff, IsOnOneSide}
use Rattle.obs_exchange.specs.inner.Closed.{HoldsSourcesAt, IsClosedAt}
use Rattle.obs_exchange.proofs.AtGraph.{IsAssignment-live}

-- what branches join that don't lead out of a set lies on one side of it
pub sided : (ends : List (Option Ends)) (S : ℕ → Bool) (L : List ℕ) (u v : ℕ) → ((x : ℕ) → In x L → IsOnOneSide ends S x) → joined_at ends L u v ≡ true → S u ≡ S v
sided ends S [] u v h t = ap S ((IsJoining-graph ends).bare u v t)
sided ends S (e ∷ L) u v h t =
    let on : (x y : ℕ) → joined_at ends L x y ≡ true → S x ≡ S y = λ x y j. sided ends S L x y (λ z i. h z (inr i)) j in
    let own : S (ends_at ends e).0 ≡ S (ends_at ends e).1 = h e (inl refl) in
    elim (((IsJoining-graph ends).added e L u v).0 t) [
      | inl j ↦ on u v j
      | inr j ↦ elim j [
        | inl k ↦ on u (ends_at ends e).0 k.0 ∙ (own ∙ on (ends_at ends e).1 v k.1)
        | inr k ↦ on u (ends_at ends e).1 k.0 ∙ (sym own ∙ on (ends_at ends e).0 v k.1)
      ]
    ]

-- where an item is in the least closed set, there is an assignment without it that is as long, with the frozen pairs
module _ (g : Matroid) (laws : IsMatroid g) (touch : ℕ → List ℕ) (M : List ℕ) (d : IsDistinct M) (frozen : ℕ → Bool) (A : List Pair) (a : IsAssignment g touch M A)
    (has : HasFrozen frozen A) (S : ℕ → Bool) (c : IsLeastClosed g touch M frozen every A S) (m : ℕ) (t : S m ≡ true) (i : In m (items A)) where
  thawed : frozen m ≡ false
  thawed = least_not_frozen g laws touch M frozen every A S has c m t

  abbrev rest : List Pair
  rest = part (other_than m) A

  rest_assigns : IsAssignment g touch (without m M) rest
  rest_assigns = record {
    of_items = λ v j. let u = In-part_from (other_than m) A v j in In-filter (other_than m) v.0 M (a.of_items v u.0) u.1;
    touched = λ v j. a.touched v (In-part_from (other_than m) A v j).0;
    different = IsDistinct-part (other_than m) A a.different;
    independent = independent_part g laws (other_than m) A a.independent;
  }

  not_frozen : (x : ℕ) → frozen x ≡ true → x ≡ m → ⊥
  not_frozen x f e = clash f (ap frozen e ∙ thawed)

  rest_frozen : HasFrozen frozen rest
  rest_frozen x f =
      let v = In-items_from A x (has x f) in
      In_same x v.0.0 (items rest) v.2 (In-items rest v.0 (In-part (other_than m) A v.0 v.1 (other_true m v.0.0 (λ e. not_frozen x f (v.2 ∙ e)))))

  -- a closed set of the rest would be a smaller one
  module _ (T : ℕ → Bool) (closed : IsClosed g touch (without m M) frozen rest T) (holds : HoldsSources (without m M) every rest T) where
    abbrev less : ℕ → Bool
    less x = T x && other_than m x

    less_closed : IsClosed g touch M frozen A less
    less_closed = record {
      spanned = λ x f j z v.
          let u = and_parts (T x) (other_than m x) z in
          more_pairs g laws (part (λ y. T y || frozen y) rest) (part (λ y. less y || frozen y) A) f
          (λ w l. let o = In-part_from (λ y. T y || frozen y) rest w l in
          let h = In-part_from (other_than m) A w o.0 in
          In-part (λ y. less y || frozen y) A w h.0 (elim (or_cases (T w.0) (frozen w.0) o.1) [
            | inl b ↦ or_left (less w.0) (frozen w.0) (and_from (T w.0) (other_than m w.0) b h.1)
            | inr b ↦ or_right (less w.0) (frozen w.0) b
          ]))
          (closed.spanned x f (In-filter (other_than m) x M j u.1) u.0 v);
    }

    less_holds : HoldsSources M every A less
    less_holds x j f out =
        let z : other_than m x ≡ true = other_true m x (λ w. out (In_same x m (items A) w i)) in
        and_from (T x) (other_than m x) (holds x (In-filter (other_than m) x M j z) refl (λ l. out (items_within rest A (λ w o. (In-part_from (other_than m) A w o).0) x l))) z

    none_less : ⊥
    none_less = other_ne m m (and_parts (T m) (other_than m m) (c.least less less_closed less_holds m t)).1 refl

  pub kept_without : (B : List Pair) × IsAssignment g touch M B × Extends frozen A B × (length B ≡ length A) × (In m (items B) → ⊥)
  kept_without =
      let e : suc (length rest) ≡ length A = length-put_in (m, 0) A a.different i in
      elim (grows_or_closes g laws touch (without m M) frozen every rest (IsDistinct-filter (other_than m) M d) rest_assigns rest_frozen) [
        | inr s ↦ absurd (none_less s.0 s.1.closed s.1.holds)
        | inl b ↦
            let k = b.2.assigns in
            let l = b.2.longer in (
              b.0,
              record {
                of_items = λ p j. (In-filter_from (other_than m) p.0 M (k.of_items p j)).0;
                touched = k.touched;
                different = k.different;
                independent = k.independent;
              },
              (λ p j f. b.2.extends p (In-part (other_than m) A p j (other_true m p.0 (not_frozen p.0 f))) f),
              omega (arith, e, l),
              (λ j. let v = In-items_from b.0 m j in other_ne m v.0.0 (In-filter_from (other_than m) v.0.0 M (k.of_items v.0 v.1)).1 (sym v.2)),
            )
      ]

module _ (g : Graph) (touches : List Touch) (a : Assignment) (ok : AreBranches g.vertices g.ends) (whole : IsWhole a) (stands : StandsOver a g touches) (loose : List Bool) where
  abbrev matroid : Matroid
  matroid = graph_matroid g.vertices g.ends

  laws : IsMatroid matroid
  laws = IsMatroid-graph g.vertices g.ends ok

  own_pairs : IsAssignment matroid (touch_at g.ends touches) (live_items g.ends touches) (pairs a)
  own_pairs = IsAssignment-live g.vertices a g touches whole stands

  -- what doesn't lead out of the set is joined without the branch that does
  module _ (led : ℕ → Bool) (d : ℕ) (S : ℕ → Bool) (cut : IsCutOff g.ends touches a loose led d S) where
    low : (p : Pair) → In p (pairs a) → p.0 < length touches
    low p i = live_low g.ends touches p.0 (live_from p i)
      where
        live_from : (p : Pair) → In p (pairs a) → is_live g.ends touches p.0 ≡ true
        live_from p i = live-from_In g.ends touches p.0 p.1 (stands.touched p.0 p.1 (slot_from a.slots p i))

    pub still_joined : (e : ℕ) → IsOnOneSide g.ends S e → joins g.ends (branches (pairs a)) e ≡ true → joins g.ends (others (pairs a) d) e ≡ true
    still_joined e on j = elim (cases_Bool (joins g.ends (others (pairs a) d) e)) [
      | inl t ↦ t
      | inr f ↦
          let more : joins g.ends (cut.branch ∷ others (pairs a) d) e ≡ true =
          spans_more matroid laws (branches (pairs a)) (cut.branch ∷ others (pairs a) d) e
          (λ x i. let v = In-branches_from (pairs a) x i in
          elim (cases_eq v.0.0 d) [
            | inl s ↦ inl (v.2 ∙ some_same v.0.1 cut.branch (sym (slot_from a.slots v.0 v.1) ∙ (ap (branch_at a) s ∙ cut.has)))
            | inr n ↦ inr (In_same x v.0.1 (others (pairs a) d) v.2 (In-branches (part (other_than d) (pairs a)) v.0 (In-part (other_than d) (pairs a) v.0 v.1 (other_true d v.0.0 n))))
          ]) j in
          let back : joins g.ends (e ∷ others (pairs a) d) cut.branch ≡ true = laws.swaps (others (pairs a) d) e cut.branch more f in
          absurd (cut.across (sided g.ends S (e ∷ others (pairs a) d) (ends_at g.ends cut.branch).0 (ends_at g.ends cut.branch).1
          (λ x i. elim i [
            | inl s ↦ subst (λ k. IsOnOneSide g.ends S k) (sym s) on
            | inr k ↦
                let v = In-branches_from (part (other_than d) (pairs a)) x k in
                let u = In-part_from (other_than d) (pairs a) v.0 v.1 in
                subst (λ z. IsOnOneSide g.ends S z) (sym v.2) ((cut.others v.0.0 (low v.0 u.0)).pair v.0.1 (slot_from a.slots v.0 u.0) (other_ne d v.0.0 u.1))
          ]) back))
    ]

  module _ (m : ℕ) (way : HasNoWayTo g.ends touches a loose m) (N : ℕ → Bool) (closed : IsClosedAt g.ends touches a N) (holds : HoldsSourcesAt g.ends touches All a N)
      (within : (x : ℕ) → N x ≡ true → (has_flag loose x ≡ true) × (is_frozen a x ≡ false)) where
    abbrev left : ℕ → Bool
    left x = N x && not (way.led x)

    pub left_closed : IsClosedAt g.ends touches a left
    left_closed = record {
      live = λ x t. closed.live x (and_parts (N x) (not (way.led x)) t).0;
      joined = λ x e t i.
          let u = and_parts (N x) (not (way.led x)) t in
          let w = within x u.0 in
          let all : joins g.ends (branches (pairs a)) e ≡ true = more_pairs matroid laws (part (λ y. N y || is_frozen a y) (pairs a)) (pairs a) e
          (λ p j. (In-part_from (λ y. N y || is_frozen a y) (pairs a) p j).0) (closed.joined x e u.0 i) in
          spans_cut matroid laws (pairs a) own_pairs.independent own_pairs.different e all (λ y. left y || is_frozen a y)
          (λ y j f. let o = or_parts (left y) (is_frozen a y) f in elim (cases_Bool (N y)) [
            | inr out ↦ more_pairs matroid laws (part (λ z. N z || is_frozen a z) (pairs a)) (part (other_than y) (pairs a)) e
                (λ p k. let v = In-part_from (λ z. N z || is_frozen a z) (pairs a) p k in
                In-part (other_than y) (pairs a) p v.0 (other_true y p.0 (λ s. clash v.1 (ap (λ z. N z || is_frozen a z) s ∙ (ap (λ b. b || is_frozen a y) out ∙ o.1)))))
                (closed.joined x e u.0 i)
            | inl in_set ↦
                let led : way.led y ≡ true = elim (cases_Bool (way.led y)) [ inl b ↦ b | inr b ↦ clash (and_from (N y) (not (way.led y)) in_set (ap not b)) o.0 ] in
                let l = live_low g.ends touches y (closed.live y in_set) in
                let c = way.cut y l led in
                let mine = (c.1.others x (live_low g.ends touches x (closed.live x u.0))).touched e w.1 w.0 (not-true (way.led x) u.1) i in
                still_joined way.led y c.0 c.1 e mine all
          ]);
    }

    pub left_holds : HoldsSourcesAt g.ends touches All a left
    left_holds x s =
        let free : way.led x ≡ false = elim (cases_Bool (way.led x)) [
          | inr b ↦ b
          | inl b ↦ let c = way.cut x (live_low g.ends touches x s.0) b in absurd (none_some c.1.branch (sym s.1 ∙ c.1.has))
        ] in
        and_from (N x) (not (way.led x)) (holds x s) (ap not free)

    pub own_left : left m ≡ false
    own_left = ap (λ b. N m && not b) way.own ∙ and_false (N m)
      where
        and_false : (b : Bool) → (b && false) ≡ false
        and_false true = refl
        and_false false = refl
