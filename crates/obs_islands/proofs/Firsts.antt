-- The computed first vertex of an island is that of the relation.
use Rattle.std.proofs.Common.{◌≡◌, ◌↔◌, ℕ, ◌<◌, ◌≤◌, List, [], refl, sym, ap, ◌∙◌, inl, inr, Bool, true, false, ◌&&◌, Option, Some, None, subst, eq-eqb, arith}
use Rattle.std.specs.Prelude.{IsSome, filter, slice_index_or, unwrap_or, ◌==◌}
use Rattle.std.proofs.lemmas.Bool.{and_from, and_parts, cases_Bool, eqb-true}
use Rattle.std.specs.Cmp.Derive.{one_truth}
use Rattle.obs_graph.specs.declared.Ends.{Ends}
use Rattle.obs_graph.specs.Joined.{first_joined}
use Rattle.obs_graph.specs.Positions.{AreBranches, branches_at, ends_of, has_end}
use Rattle.obs_graph.proofs.AtVertex.{at_vertex}
use Rattle.obs_graph.proofs.First.{first_joined-first_joined, first_joined-le}
use Rattle.obs_graph.proofs.IsJoined.{same-from_true, true-from_same}
use Rattle.obs_matroid.specs.Lists.{In}
use Rattle.obs_matroid.specs.Assignments.{Pair, branches}
use Rattle.obs_matroid.proofs.Contained.{In-from_Contains}
use Rattle.obs_matroid.proofs.Islands.{IsSettled, island_piece, islands_partition, one_piece, piece, piece_island, piece_spanned, settled_exists}
use Rattle.obs_matroid.proofs.Lists.{In-filter, In_same}
use Rattle.obs_matroid.proofs.Pairs.{In-branches_from, In-items_from}
use Rattle.obs_matroid.proofs.Pieces.{stays_in}
use Rattle.obs_meter.specs.declared.Touch.{Touch}
use Rattle.obs_meter.specs.declared.Touch.TheVariants.{Nothing}
use Rattle.obs_meter.specs.Spanned.{both_ends, ends_at, joined_at, rank_at}
use Rattle.obs_meter.specs.Touches.{live_items, touch_at}
use Rattle.obs_meter.proofs.Assigned.{live_items-distinct}
use Rattle.obs_meter.proofs.Instance.{IsJoining-graph, IsMatroid-graph}
use Rattle.obs_meter.proofs.Touched.{touched-present}
use Rattle.obs_forest.specs.Forest.{has_position}
use Rattle.obs_islands.specs.Firsts.{in_one_island, is_spanned, island_first}
use Rattle.obs_islands.specs.Islands.{IsFirstIn, IsIslandAt, IsOnlyIslandOf, every_vertex}
use Rattle.obs_islands.proofs.Parts.{In-from_has, In-vertices, find_vertex, has-from_In, some_part-from, some_part-of, vertices-distinct}
use Rattle.obs_islands.proofs.Spanning.{ends_low, spanned-from, spanned-to}

-- a branch has no end at a vertex without branches
no_end : (ends : List (Option Ends)) (v : ℕ) → branches_at ends v ≡ [] → (o : Option Ends) (e : ℕ) → slice_index_or ends e None ≡ o → IsSome o
    → (((both_ends o).0 == v) ≡ false) × (((both_ends o).1 == v) ≡ false)
no_end ends v none None e is s = absurd (cc s)
no_end ends v none (Some x) e is s =
    let off : has_end v (Some x) ≡ true → ⊥ = λ t. absurd (subst (λ (xs : List ℕ). In e xs) none (In-from_Contains e (branches_at ends v) (at_vertex ends v e (rw is t)))) in
    elim (cases_Bool (x.a == v)) [
      | inl y ↦ absurd (off (rw y refl))
      | inr f ↦ elim (cases_Bool (x.b == v)) [ inl y ↦ absurd (off (rw (f, y) refl)) | inr k ↦ (f, k) ]
    ]

module _ (n : ℕ) (ends : List (Option Ends)) (touches : List Touch) where
  -- A is a longest assignment of the meters U that were never discarded, and none of these touches a branch between two pieces
  abbrev pub Settled : List ℕ → List Pair → Type 0
  Settled U A = IsSettled (ends_at ends) (joined_at ends) (rank_at n ends) (touch_at ends touches) (every_vertex n) (live_items ends touches) U A

  module _ (ok : AreBranches n ends) where
    some_settled : (U : List ℕ) × (A : List Pair) × Settled U A
    some_settled = settled_exists (ends_at ends) (joined_at ends) (rank_at n ends) (IsJoining-graph ends) (IsMatroid-graph n ends ok) (touch_at ends touches) (every_vertex n) (live_items ends touches)
        (vertices-distinct n) (live_items-distinct ends touches) (λ m e i j. ends_low n ends touches ok m e j)

    pub partition : (v : ℕ) → v < n → (S : ℕ → Bool) × IsOnlyIslandOf n ends touches v S
    partition v l =
        let r = islands_partition (ends_at ends) (joined_at ends) (rank_at n ends) (IsJoining-graph ends) (IsMatroid-graph n ends ok) (touch_at ends touches) (every_vertex n) (live_items ends touches)
        (vertices-distinct n) (live_items-distinct ends touches) (λ m e i j. ends_low n ends touches ok m e j) v (In-vertices n v l) in
        (r.0, record { island = r.1; has = r.2; only = λ T t h u k. r.3 T t h u (In-vertices n u k) })

    module _ (U : List ℕ) (A : List Pair) (st : Settled U A) where
      -- two vertices lie in one island exactly where they lie in one piece
      pub in_one_island-is : (u v : ℕ) → u < n → v < n → in_one_island n ends touches u v ≡ joined_at ends (branches A) u v
      unfolding in_one_island
      in_one_island-is u v lu lv =
          let test : List ℕ → Bool = λ W. is_spanned n ends touches W && has_position W u && has_position W v in
          let vs = every_vertex n in
          one_truth (in_one_island n ends touches u v) (joined_at ends (branches A) u v)
          (λ t. let p = some_part-from test vs t in
          let W = p.0 in
          let a = and_parts (is_spanned n ends touches W && has_position W u) (has_position W v) p.1.passes in
          let b = and_parts (is_spanned n ends touches W) (has_position W u) a.0 in
          let s = spanned-from n ends touches ok W p.1.within (p.1.different (vertices-distinct n)) b.0 u (In-from_has W u b.1) in
          one_piece (ends_at ends) (joined_at ends) (rank_at n ends) (IsJoining-graph ends) (IsMatroid-graph n ends ok) (touch_at ends touches) vs (live_items ends touches)
          (vertices-distinct n) (live_items-distinct ends touches) (λ m e i j. ends_low n ends touches ok m e j) U A (has_position W) st.different st.assigns st.longest s
          (λ x j. let w = In-items_from s.pairs x j in st.holds_inside (has_position W) s x (In_same x w.0.0 (live_items ends touches) w.2 (s.assigns.of_items w.0 w.1)) (s.lie_inside x j))
          u v (In-vertices n u lu) (In-vertices n v lv) b.1 a.1)
          (λ t. let T : ℕ → Bool = piece (joined_at ends) A u in
          let W = filter T vs in
          let s = piece_spanned (ends_at ends) (joined_at ends) (rank_at n ends) (IsJoining-graph ends) (IsMatroid-graph n ends ok) (touch_at ends touches) vs (live_items ends touches)
          (vertices-distinct n) (live_items-distinct ends touches) (λ m e i j. ends_low n ends touches ok m e j) U A st u (In-vertices n u lu) in
          some_part-of T test vs
          (and_from (is_spanned n ends touches W && has_position W u) (has_position W v)
          (and_from (is_spanned n ends touches W) (has_position W u) (spanned-to n ends touches ok T s)
          (has-from_In W u (In-filter T u vs (In-vertices n u lu) (true-from_same (ends_of ends (branches A)) u u refl))))
          (has-from_In W v (In-filter T v vs (In-vertices n v lv) t))))

      -- the first vertex of the piece is that of the island
      pub island_first-is : (v x : ℕ) → v < n → x < n → joined_at ends (branches A) v x ≡ true → ((u : ℕ) → u < n → joined_at ends (branches A) v u ≡ true → x ≤ u)
          → island_first n ends touches v ≡ x
      unfolding island_first
      island_first-is v x lv lx t first =
          ap (λ o. unwrap_or o v) (find_vertex (in_one_island n ends touches v) n x lx (in_one_island-is v x lv lx ∙ t) (λ u l s. first u l (sym (in_one_island-is v u lv l) ∙ s)))

      first_of_piece : (v : ℕ) → v < n → island_first n ends touches v ≡ first_joined (ends_of ends (branches A)) v
      first_of_piece v l =
          let es = ends_of ends (branches A) in
          let low = first_joined-le es v in
          island_first-is v (first_joined es v) l (omega (arith, low, l)) (true-from_same es v (first_joined es v) (sym (first_joined-first_joined es v)))
          (λ u k t. let s = same-from_true es v u t in let m = first_joined-le es u in omega (arith, s, m))

      settled_first : (v : ℕ) → v < n → (S : ℕ → Bool) → IsIslandAt n ends touches S → S v ≡ true → IsFirstIn n S (island_first n ends touches v)
      settled_first v l S h t =
          let es = ends_of ends (branches A) in
          let e = first_of_piece v l in
          let low = first_joined-le es v in
          let is : (u : ℕ) → u < n → S u ≡ joined_at ends (branches A) v u = λ u k.
          island_piece (ends_at ends) (joined_at ends) (rank_at n ends) (IsJoining-graph ends) (IsMatroid-graph n ends ok) (touch_at ends touches) (every_vertex n) (live_items ends touches)
          (vertices-distinct n) (live_items-distinct ends touches) (λ m e i j. ends_low n ends touches ok m e j) U A st v (In-vertices n v l) S h t u (In-vertices n u k) in
          let first : IsFirstIn n S (first_joined es v) = record {
            vertex = omega (arith, low, l);
            has = is (first_joined es v) (omega (arith, low, l)) ∙ true-from_same es v (first_joined es v) (sym (first_joined-first_joined es v));
            first = λ u k y. let s = same-from_true es v u (sym (is u k) ∙ y) in let m = first_joined-le es u in omega (arith, s, m);
          } in
          subst (λ (x : ℕ). IsFirstIn n S x) (sym e) first

      settled_same : (u v : ℕ) → u < n → v < n
          → (island_first n ends touches u ≡ island_first n ends touches v) ↔ ((S : ℕ → Bool) × IsIslandAt n ends touches S × (S u ≡ true) × (S v ≡ true))
      settled_same u v lu lv =
          let es = ends_of ends (branches A) in
          let eu = first_of_piece u lu in
          let ev = first_of_piece v lv in (
            (λ s. (
              piece (joined_at ends) A u,
              piece_island (ends_at ends) (joined_at ends) (rank_at n ends) (IsJoining-graph ends) (IsMatroid-graph n ends ok) (touch_at ends touches) (every_vertex n) (live_items ends touches)
                  (vertices-distinct n) (live_items-distinct ends touches) (λ m e i j. ends_low n ends touches ok m e j) U A st u (In-vertices n u lu),
              true-from_same es u u refl,
              true-from_same es u v (sym eu ∙ (s ∙ ev)),
            )),
            (λ r.
                let is = island_piece (ends_at ends) (joined_at ends) (rank_at n ends) (IsJoining-graph ends) (IsMatroid-graph n ends ok) (touch_at ends touches) (every_vertex n) (live_items ends touches)
                (vertices-distinct n) (live_items-distinct ends touches) (λ m e i j. ends_low n ends touches ok m e j) U A st u (In-vertices n u lu) r.0 r.1 r.2 v (In-vertices n v lv) in
                eu ∙ (same-from_true es u v (sym is ∙ r.3) ∙ sym ev)),
          )

      -- a vertex without branches is joined with itself alone
      lone_piece : (v u : ℕ) → branches_at ends v ≡ [] → joined_at ends (branches A) v u ≡ true → u ≡ v
      lone_piece v u none t =
          let at : ℕ → Bool = λ z. z == v in
          let stays : (e : ℕ) → In e (branches A) → at (ends_at ends e).0 ≡ at (ends_at ends e).1 = λ e i.
          let p = In-branches_from A e i in
          let o = no_end ends v none (slice_index_or ends p.0.1 None) p.0.1 refl (touched-present ends (slice_index_or touches p.0.0 Nothing) p.0.1 (st.assigns.touched p.0 p.1)) in
          rw p.2 (o.0 ∙ sym o.1) in
          let s = (stays_in (ends_at ends) (joined_at ends) (IsJoining-graph ends) at (branches A) stays v u (eq-eqb v v refl) t).1 in
          eqb-true u v s

      settled_lone : (v : ℕ) → v < n → branches_at ends v ≡ [] → island_first n ends touches v ≡ v
      settled_lone v l none =
          island_first-is v v l l (true-from_same (ends_of ends (branches A)) v v refl)
          (λ u k t. let e = lone_piece v u none t in omega (arith, e))

      settled_alone : (v : ℕ) → v < n → branches_at ends v ≡ [] → (S : ℕ → Bool) → IsIslandAt n ends touches S → S v ≡ true → (u : ℕ) → u < n → S u ≡ true → u ≡ v
      settled_alone v l none S h t u k s =
          let is = island_piece (ends_at ends) (joined_at ends) (rank_at n ends) (IsJoining-graph ends) (IsMatroid-graph n ends ok) (touch_at ends touches) (every_vertex n) (live_items ends touches)
          (vertices-distinct n) (live_items-distinct ends touches) (λ m e i j. ends_low n ends touches ok m e j) U A st v (In-vertices n v l) S h t u (In-vertices n u k) in
          lone_piece v u none (sym is ∙ s)

    pub first_in : (v : ℕ) → v < n → (S : ℕ → Bool) → IsIslandAt n ends touches S → S v ≡ true → IsFirstIn n S (island_first n ends touches v)
    first_in = let s = some_settled in settled_first s.0 s.1 s.2

    pub first_lone : (v : ℕ) → v < n → branches_at ends v ≡ [] → island_first n ends touches v ≡ v
    first_lone = let s = some_settled in settled_lone s.0 s.1 s.2

    pub lone_island : (v : ℕ) → v < n → branches_at ends v ≡ [] → (S : ℕ → Bool) → IsIslandAt n ends touches S → S v ≡ true → (u : ℕ) → u < n → S u ≡ true → u ≡ v
    lone_island = let s = some_settled in settled_alone s.0 s.1 s.2

    pub first_same : (u v : ℕ) → u < n → v < n
        → (island_first n ends touches u ≡ island_first n ends touches v) ↔ ((S : ℕ → Bool) × IsIslandAt n ends touches S × (S u ≡ true) × (S v ≡ true))
    first_same = let s = some_settled in settled_same s.0 s.1 s.2
