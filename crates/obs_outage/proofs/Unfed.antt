-- What the outage of a row takes from the rank, where a side of it has no source: the pairs whose branch goes.
use Rattle.std.proofs.Common.{◌≡◌, ℕ, suc, ◌+◌, ◌<◌, ◌≤◌, Bool, true, false, not, eqb, ◌⊎◌, inl, inr, Option, Some, None, List, [], ◌∷◌, ◌++◌, length, filter, get_or, refl, sym, ap, ◌∙◌, subst, arith, length-append}
use Rattle.std.specs.Prelude.{IsSome, is_some, slice_index_or}
use Rattle.std.proofs.lemmas.Bool.{and_parts, cases_Bool, eq-eqb, eqb-true, ne_eqb}
use Rattle.obs_graph.specs.declared.Ends.{Ends}
use Rattle.obs_graph.specs.Joined.{Leads, first_joined}
use Rattle.obs_graph.proofs.Chains.{Chain-from_same_first, first_joined-contains}
use Rattle.obs_graph.proofs.Present.{contains_present, some_one}
use Rattle.obs_case.specs.Tables.{IsValid, Tables}
use Rattle.obs_matroid.specs.Lists.{In, IsDistinct, other_than}
use Rattle.obs_matroid.specs.Assignments.{Pair, branches, items}
use Rattle.obs_matroid.specs.inner.Assignments.{part}
use Rattle.obs_matroid.specs.Matroid.{IsIndependent}
use Rattle.obs_matroid.proofs.Exchange.{length-put_in}
use Rattle.obs_matroid.proofs.Lists.{In-append_cases, In-filter_from, IsDistinct-append, cases_In, clash, length-split, other_ne}
use Rattle.obs_matroid.proofs.Order.{independent_within}
use Rattle.obs_matroid.proofs.Pairs.{In-branches, In-branches_from, In-items, In-items_from, In-part_from, IsDistinct-filter_items, IsDistinct-part, same_pair_by_branch}
use Rattle.obs_meter.specs.declared.Touch.{Touch}
use Rattle.obs_meter.specs.declared.Touch.TheVariants.{Nothing}
use Rattle.obs_meter.specs.Assignments.{IsAssignmentAt}
use Rattle.obs_meter.specs.Spanned.{both_ends, common_vertex, ends_at, graph_matroid}
use Rattle.obs_meter.specs.Touches.{every_item, touch_at}
use Rattle.obs_meter.proofs.Assigned.{every-to_live, forest_at-from_independent, from_matroid, live-to_every, to_matroid}
use Rattle.obs_meter.proofs.Instance.{IsMatroid-graph}
use Rattle.obs_meter.proofs.Touched.{touched-vertex, touched-present}
use Rattle.obs_assign.proofs.Slotted.{distinct_branches}
use Rattle.obs_network.specs.Switched.{case_bus_count}
use Rattle.obs_network.specs.Network.{case_branches, case_live, case_meters, case_rows, case_vertex_count}
use Rattle.obs_network.specs.Observable.{case_rank}
use Rattle.obs_network.specs.Parted.{outage_case}
use Rattle.obs_network.specs.inner.Parted.{IsParted}
use Rattle.obs_network.proofs.Bridged.{fed_along, fed_lit, lit_fed, side_loose}
use Rattle.obs_network.proofs.FewLost.{On, goes, stay_assigned}
use Rattle.obs_network.proofs.InComponents.{row_is_live}
use Rattle.obs_network.proofs.NeededCount.{is_fixed, is_lit, live_ends_of}
use Rattle.obs_network.proofs.OfCase.{case_branches-are, length-case_components}
use Rattle.obs_network.proofs.Outed.{present_before, some_of}
use Rattle.obs_network.proofs.PartedNeeds.{Fed, Found, apart, loose, low, row_at}
use Rattle.obs_network.proofs.SideLists.{chain_low}
use Rattle.obs_network.proofs.Spared.{live_elsewhere}
use Rattle.obs_network.proofs.Vertices.{row_or_angle}
use Rattle.obs_outage.specs.inner.Costly.{IsCostly}
use Rattle.obs_outage.proofs.InOutage.{as_many_rows, assigns_before, out_valid, rank_is}
use Rattle.obs_outage.proofs.Restored.{row_gone, row_here}
use Rattle.obs_outage.proofs.SideForests.{Crosses, Has, both_sides, with_bridge}

pub branches-append : (A B : List Pair) → branches (A ++ B) ≡ branches A ++ branches B
branches-append [] B = refl
branches-append (p ∷ A) B = ap (λ (l : List ℕ). p.1 ∷ l) (branches-append A B)

pub items-append : (A B : List Pair) → items (A ++ B) ≡ items A ++ items B
items-append [] B = refl
items-append (p ∷ A) B = ap (λ (l : List ℕ). p.0 ∷ l) (items-append A B)

-- a row that parts its component, one of its ends on a side that has a source, and the other on one that has none
module _ (t : Tables) (v : IsValid t) (e c : ℕ) (side : List ℕ) (p : IsParted t e c side) (f : Found t e c side) (l d : ℕ) (leads : Leads f.ends l d)
    (fed : Fed t v e c side p f l) (dark : Fed t v e c side p f d → ⊥) where
  abbrev out : Tables
  out = outage_case t e

  abbrev n : ℕ
  n = case_bus_count t

  abbrev es : List Ends
  es = live_ends_of out

  abbrev x : Ends
  x = f.ends

  -- whether a vertex is on the side that goes
  abbrev pub on : ℕ → Bool
  on u = eqb (first_joined es d) (first_joined es u)

  pub at : (u : ℕ) → on u ≡ true → first_joined es d ≡ first_joined es u
  at u is = eqb-true (first_joined es d) (first_joined es u) is

  pub is_on : (u : ℕ) → first_joined es d ≡ first_joined es u → on u ≡ true
  is_on u same = eq-eqb (first_joined es d) (first_joined es u) same

  lit_off : (u : ℕ) → Fed t v e c side p f u → on u ≡ false
  lit_off u s = ne_eqb (first_joined es d) (first_joined es u)
      (λ same. dark (fed_along t v e x f.row (loose t v e c side p f) (apart t v e c side p f) u d (sym same) s))

  off_l : on l ≡ false
  off_l = lit_off l fed

  low_d : d < n
  low_d =
      let b = low t v e c side p f in
      elim leads [ inl q ↦ subst (λ z. z < n) q.1 b.1 | inr q ↦ subst (λ z. z < n) q.1 b.0 ]

  pub low_on : (u : ℕ) → on u ≡ true → u < n
  low_on u is = chain_low t v e x f.row (Chain-from_same_first es d u (at u is)) low_d

  on_side : (u : ℕ) → on u ≡ true → On t v e c side p f u
  on_side u is = elim leads [
    | inl q ↦ inr (sym (at u is) ∙ ap (first_joined es) (sym q.1))
    | inr q ↦ inl (sym (at u is) ∙ ap (first_joined es) (sym q.1))
  ]

  -- what is on one of the sides but not on this one has the source
  far : (u : ℕ) → On t v e c side p f u → Fed t v e c side p f u ⊎ (on u ≡ true)
  far u s =
      let live : first_joined es l ≡ first_joined es u → Fed t v e c side p f u =
      λ same. fed_along t v e x f.row (loose t v e c side p f) (apart t v e c side p f) l u same fed in
      elim leads [
        | inl q ↦ elim s [ inl a ↦ inl (live (ap (first_joined es) (sym q.0) ∙ sym a)) | inr b ↦ inr (is_on u (ap (first_joined es) (sym q.1) ∙ sym b)) ]
        | inr q ↦ elim s [ inl a ↦ inr (is_on u (ap (first_joined es) (sym q.1) ∙ sym a)) | inr b ↦ inl (live (ap (first_joined es) (sym q.0) ∙ sym b)) ]
      ]

  -- a branch with an end on a side of the row is a row, since the component isn't absolute
  pub row_of_side : (k : ℕ) (y : Ends) → get_or (case_branches t) k None ≡ Some y → ((y.a < n) × On t v e c side p f y.a) ⊎ (y.b < n) → (k < length t.branches) × (get_or (case_rows t) k None ≡ Some y)
  row_of_side k y is s =
      elim (row_or_angle t v k y is) [
        | inl row ↦ row
        | inr angle ↦ absurd (elim s [
          | inl i ↦
              let takes = and_parts (is_lit t y.a) (is_fixed t y.a) angle.1.takes in
              clash takes.1 (side_loose t v e x f.row (loose t v e c side p f) (apart t v e c side p f) y.a i.0 i.1)
          | inr few ↦ let r = angle.1.reference in omega (arith, few, r, length-case_components t)
        ])
      ]

  -- but for the row, both its ends are on the same
  pub same_side : (k : ℕ) (y : Ends) → (k ≡ e → ⊥) → get_or (case_rows t) k None ≡ Some y → first_joined es y.a ≡ first_joined es y.b
  same_side k y ne row =
      first_joined-contains es y (contains_present (case_live out) k y (live_elsewhere t e k ne ∙ (row_is_live t k y row).0))

  -- a branch but the row with an end on the side has both ends there, and goes
  pub ends_there : (k : ℕ) (y : Ends) → (k ≡ e → ⊥) → get_or (case_branches t) k None ≡ Some y → (on y.a ≡ true) ⊎ (on y.b ≡ true)
      → (on y.a ≡ true) × (on y.b ≡ true) × (IsSome (slice_index_or (case_branches out) k None) → ⊥)
  ends_there k y ne is s =
      let row = row_of_side k y is (elim s [ inl i ↦ inl (low_on y.a i, on_side y.a i) | inr i ↦ inr (low_on y.b i) ]) in
      let same = same_side k y ne row.1 in
      let a : on y.a ≡ true = elim s [ inl i ↦ i | inr i ↦ is_on y.a (at y.b i ∙ sym same) ] in (
        a,
        is_on y.b (at y.a a ∙ same),
        λ some.
            let z = some_of (get_or (case_branches out) k None) some in
            let few : k < length out.branches = omega (arith, row.0, as_many_rows t v e) in
            let now = row_is_live out k z.0 (sym (row_at out k few) ∙ z.1) in
            let live : get_or (case_live out) k None ≡ Some y = live_elsewhere t e k ne ∙ (row_is_live t k y row.1).0 in
            let lit : is_lit out y.a ≡ true = subst (λ (w : Ends). is_lit out w.a ≡ true) (some_one z.0 y (sym now.0 ∙ live)) now.1 in
            clash a (lit_off y.a (lit_fed t v e x f.row (loose t v e c side p f) (apart t v e c side p f) y.a (low_on y.a a) lit)),
      )

  pub row_is : get_or (case_branches t) e None ≡ Some x
  row_is = row_here t e p.row ∙ f.row

  pub row_off : IsSome (slice_index_or (case_branches out) e None) → ⊥
  row_off some =
      let none : get_or (case_branches out) e None ≡ None = row_here out e (let r = p.row in omega (arith, r, as_many_rows t v e)) ∙ row_gone t e in
      cc (subst IsSome none some)

  -- the row leads from the one side to the other
  pub crosses : Crosses (case_vertex_count t) (case_branches t) on e
  crosses =
      let ends : ends_at (case_branches t) e ≡ (x.a, x.b) = ap both_ends row_is in
      let here : on d ≡ true = is_on d refl in
      elim leads [
        | inl q ↦ inr (ap (λ (z : ℕ × ℕ). on z.1) ends ∙ ap on q.1 ∙ here, ap (λ (z : ℕ × ℕ). on z.0) ends ∙ ap on q.0 ∙ off_l)
        | inr q ↦ inl (ap (λ (z : ℕ × ℕ). on z.0) ends ∙ ap on q.1 ∙ here, ap (λ (z : ℕ × ℕ). on z.1) ends ∙ ap on q.0 ∙ off_l)
      ]

  -- a branch that stays has no end on the side
  pub stays_off : (k : ℕ) → IsSome (slice_index_or (case_branches out) k None) → Has (case_vertex_count t) (case_branches t) on false k
  stays_off k some =
      let y = some_of (get_or (case_branches t) k None) (present_before t v e k some) in
      let ne : k ≡ e → ⊥ = λ is. row_off (subst (λ z. IsSome (slice_index_or (case_branches out) z None)) is some) in
      let ends : ends_at (case_branches t) k ≡ (y.0.a, y.0.b) = ap both_ends y.1 in
      let a : on y.0.a ≡ false = elim (cases_Bool (on y.0.a)) [ inl i ↦ absurd ((ends_there k y.0 ne y.1 (inl i)).2 some) | inr o ↦ o ] in
      let b : on y.0.b ≡ false = elim (cases_Bool (on y.0.b)) [ inl i ↦ absurd ((ends_there k y.0 ne y.1 (inr i)).2 some) | inr o ↦ o ] in
      (ap (λ (z : ℕ × ℕ). on z.0) ends ∙ a, ap (λ (z : ℕ × ℕ). on z.1) ends ∙ b)

  -- a branch but the row that goes has both ends there
  pub goes_on : (k : ℕ) → (k ≡ e → ⊥) → IsSome (slice_index_or (case_branches t) k None) → (IsSome (slice_index_or (case_branches out) k None) → ⊥) → Has (case_vertex_count t) (case_branches t) on true k
  goes_on k ne was gone =
      let y = some_of (get_or (case_branches t) k None) was in
      let ends : ends_at (case_branches t) k ≡ (y.0.a, y.0.b) = ap both_ends y.1 in
      elim (goes t v e c side p f k y.0 y.1 gone) [
        | inl is ↦ absurd (ne is.0)
        | inr g ↦
            let here : on y.0.a ≡ true = elim (far y.0.a g.1) [
              | inl live ↦ clash (fed_lit t v e x f.row (loose t v e c side p f) (apart t v e c side p f) y.0.a g.0 live) g.2
              | inr i ↦ i
            ] in
            (ap (λ (z : ℕ × ℕ). on z.0) ends ∙ here, ap (λ (z : ℕ × ℕ). on z.1) ends ∙ is_on y.0.b (at y.0.a here ∙ g.3))
      ]

  -- the pairs whose branch stays, and those whose branch goes
  abbrev pub stays : Pair → Bool
  stays q = is_some (slice_index_or (case_branches out) q.1 None)

  abbrev pub leaves : Pair → Bool
  leaves q = not (stays q)

  pub gone_at : (q : Pair) → leaves q ≡ true → IsSome (slice_index_or (case_branches out) q.1 None) → ⊥
  gone_at q lv s = cc (sym lv ∙ ap not s)

  abbrev ends : List (Option Ends)
  ends = case_branches t

  abbrev touches : List Touch
  touches = case_meters t

  -- the meter that has the row touches no branch that stays, or the row is costly
  abbrev pub IsAlone : List Pair → Type 0
  IsAlone A = ((m j : ℕ) → In (m, e) A → In j (touch_at ends touches m) → IsSome (slice_index_or (case_branches out) j None) → ⊥) ⊎ IsCostly ends touches e

  module _ (A : List Pair) (a : IsAssignmentAt ends touches (every_item touches) A) (confined : IsAlone A) where
    -- a meter whose branch goes, and isn't the row, touches no branch that stays
    touches_none : (q : Pair) → In q A → leaves q ≡ true → (q.1 ≡ e → ⊥) → (j : ℕ) → In j (touch_at ends touches q.0) → IsSome (slice_index_or (case_branches out) j None) → ⊥
    touches_none q i lv ne j h some =
        let touch = slice_index_or touches q.0 Nothing in
        let k = q.1 in
        let here = goes_on k ne (touched-present ends touch k (a.touched q i)) (gone_at q lv) in
        let off = stays_off j some in
        let common = common_vertex ends touch in
        let hub : on common ≡ true = elim (touched-vertex ends touch k (a.touched q i)) [ inl s ↦ ap on (sym s) ∙ here.0 | inr s ↦ ap on (sym s) ∙ here.1 ] in
        let not_hub : on common ≡ false = elim (touched-vertex ends touch j h) [ inl s ↦ ap on (sym s) ∙ off.0 | inr s ↦ ap on (sym s) ∙ off.1 ] in
        clash hub not_hub

    module _ (B : List Pair) (b : IsAssignmentAt (case_branches out) (case_meters out) (every_item (case_meters out)) B) where
      was : IsAssignmentAt ends touches (every_item touches) B
      was = assigns_before t v e B b

      there : (q : Pair) → In q B → IsSome (slice_index_or (case_branches out) q.1 None)
      there q i = touched-present (case_branches out) (slice_index_or (case_meters out) q.0 Nothing) q.1 (b.touched q i)

      abbrev size : ℕ
      size = case_vertex_count t

      -- pairs that go, but for that of the row, together with those of an assignment of the outage case
      module _ (P : List Pair) (from : (q : Pair) → In q P → In q A × (leaves q ≡ true)) (different : IsDistinct (items P)) where
        other_items : ((q : Pair) → In q P → (q.1 ≡ e → ⊥)) → (m : ℕ) → In m (items P) → In m (items B) → ⊥
        other_items none m i h =
            let q = In-items_from P m i in
            let r = In-items_from B m h in
            let u = from q.0 q.1 in
            touches_none q.0 u.0 u.1 (none q.0 q.1) r.0.1 (subst (λ (z : ℕ). In r.0.1 (touch_at ends touches z)) (sym r.2 ∙ q.2) (was.touched r.0 r.1)) (there r.0 r.1)

        free : IsIndependent (graph_matroid size ends) (branches P)
        free =
            let x = to_matroid size ends touches (every_item touches) A a in
            independent_within (graph_matroid size ends) (IsMatroid-graph size ends (case_branches-are t v)) A P x.independent a.different different (λ q i. (from q i).0)

        module _ (none : (q : Pair) → In q P → (q.1 ≡ e → ⊥)) where
          inside : (k : ℕ) → In k (branches P) → Has size ends on true k
          inside k i =
              let q = In-branches_from P k i in
              let u = from q.0 q.1 in
              let h = goes_on q.0.1 (none q.0 q.1) (touched-present ends (slice_index_or touches q.0.0 Nothing) q.0.1 (a.touched q.0 u.0)) (gone_at q.0 u.1) in
              subst (λ (z : ℕ). Has size ends on true z) (sym q.2) h

          outside : (k : ℕ) → In k (branches B) → Has size ends on false k
          outside k i = let q = In-branches_from B k i in subst (λ (z : ℕ). Has size ends on false z) (sym q.2) (stays_off q.0.1 (there q.0 q.1))

          together : IsIndependent (graph_matroid size ends) (branches P ++ branches B)
          together =
              let x = to_matroid size ends touches (every_item touches) B was in
              both_sides size ends on (branches P) (branches B) inside outside free x.independent

          joined_pairs : IsAssignmentAt ends touches (every_item touches) (P ++ B)
          joined_pairs = from_matroid size ends touches (every_item touches) (P ++ B) (record {
            of_items = λ q i. elim (In-append_cases q P B i) [ inl j ↦ a.of_items q (from q j).0 | inr j ↦ was.of_items q j ];
            touched = λ q i. elim (In-append_cases q P B i) [ inl j ↦ a.touched q (from q j).0 | inr j ↦ was.touched q j ];
            different = subst (λ (z : List ℕ). IsDistinct z) (sym (items-append P B)) (IsDistinct-append (items P) (items B) different was.different (other_items none));
            independent = subst (λ (z : List ℕ). IsIndependent (graph_matroid size ends) z) (sym (branches-append P B)) together;
          })

          without_row : In e (branches (P ++ B)) → ⊥
          without_row i =
              let q = In-branches_from (P ++ B) e i in
              elim (In-append_cases q.0 P B q.1) [
                | inl j ↦ none q.0 j (sym q.2)
                | inr j ↦ row_off (subst (λ (k : ℕ). IsSome (slice_index_or (case_branches out) k None)) (sym q.2) (there q.0 j))
              ]

          with_row : ((m j : ℕ) → In (m, e) A → In j (touch_at ends touches m) → IsSome (slice_index_or (case_branches out) j None) → ⊥)
              → (m : ℕ) → In (m, e) A → (In m (items P) → ⊥) → IsAssignmentAt ends touches (every_item touches) ((m, e) ∷ (P ++ B))
          with_row alone m i new =
              let off : In m (items B) → ⊥ = λ h.
              let r = In-items_from B m h in
              alone m r.0.1 i (subst (λ (z : ℕ). In r.0.1 (touch_at ends touches z)) (sym r.2) (was.touched r.0 r.1)) (there r.0 r.1) in
              from_matroid size ends touches (every_item touches) ((m, e) ∷ (P ++ B)) (record {
                of_items = λ q j. elim j [ inl is ↦ subst (λ (z : Pair). In z.0 (every_item touches)) (sym is) (a.of_items (m, e) i) | inr h ↦ joined_pairs.of_items q h ];
                touched = λ q j. elim j [ inl is ↦ subst (λ (z : Pair). In z.1 (touch_at ends touches z.0)) (sym is) (a.touched (m, e) i) | inr h ↦ joined_pairs.touched q h ];
                different = (
                  (λ h. elim (In-append_cases m (items P) (items B) (subst (λ (z : List ℕ). In m z) (items-append P B) h)) [ inl j ↦ new j | inr j ↦ off j ]),
                  joined_pairs.different,
                );
                independent = subst (λ (z : List ℕ). IsIndependent (graph_matroid size ends) (e ∷ z)) (sym (branches-append P B))
                    (with_bridge size ends on e (branches P) (branches B) inside outside crosses together);
              })

      -- so an assignment is as long as both together
      pub both_long : length (filter leaves A) + length B ≤ case_rank t
      both_long =
          let P = filter leaves A in
          let from : (q : Pair) → In q P → In q A × (leaves q ≡ true) = λ q i. In-filter_from leaves q A i in
          let different = IsDistinct-filter_items leaves A a.different in
          let s = rank_is t v in
          elim (cases_In e (branches P)) [
            | inr out_of ↦
                let x = joined_pairs P from different (λ q i is. out_of (subst (λ (z : ℕ). In z (branches P)) is (In-branches P q i))) in
                let le = s.none_longer (P ++ B) (every-to_live ends touches (P ++ B) x) in
                omega (arith, le, length-append P B)
            | inl i ↦
                let q = In-branches_from P e i in
                let m = q.0.0 in
                let is : In (m, e) P = subst (λ (z : ℕ). In (m, z) P) (sym q.2) q.1 in
                let R = part (other_than m) P in
                let less : (r : Pair) → In r R → In r P × (other_than m r.0 ≡ true) = λ r j. In-part_from (other_than m) P r j in
                let one : suc (length R) ≡ length P = length-put_in (m, e) P different (In-items P (m, e) is) in
                let apart_pairs = distinct_branches ends (branches P) (forest_at-from_independent size ends (branches P) (free P from different)) in
                let none : (r : Pair) → In r R → (r.1 ≡ e → ⊥) =
                λ r j same. other_ne m r.0 (less r j).1 (ap (λ (z : Pair). z.0) (same_pair_by_branch P r (m, e) apart_pairs (less r j).0 is same)) in
                let parts = IsDistinct-part (other_than m) P different in
                elim confined [
                  | inl alone ↦
                      let x = with_row R (λ r j. from r (less r j).0) parts none alone m (from (m, e) is).0
                      (λ j. let r = In-items_from R m j in other_ne m r.0.0 (less r.0 r.1).1 (sym r.2)) in
                      let le = s.none_longer ((m, e) ∷ (R ++ B)) (every-to_live ends touches ((m, e) ∷ (R ++ B)) x) in
                      omega (arith, le, one, length-append R B)
                  | inr costly ↦
                      let lt = costly.shorter (case_rank t) s (R ++ B) (joined_pairs R (λ r j. from r (less r j).0) parts none) (without_row R (λ r j. from r (less r j).0) parts none) in
                      omega (arith, lt, one, length-append R B)
                ]
          ]

    -- what the outage takes from the rank
    pub rank_less : length A ≡ case_rank t → case_rank out + length (filter leaves A) ≡ case_rank t
    rank_less all =
        let q = rank_is out (out_valid t v e) in
        let kept = q.none_longer (filter stays A) (every-to_live (case_branches out) (case_meters out) (filter stays A) (stay_assigned t v e c side p f A a)) in
        let split = length-split stays A in
        let most = both_long q.longest (live-to_every (case_branches out) (case_meters out) q.longest q.assigns) in
        let long = q.long in
        omega (arith, all, kept, split, most, long)
