-- Each vertex lies in exactly one island: a piece of a longest assignment, when no item is left that touches vertices of two pieces.
use Rattle.std.proofs.Common.{◌≡◌, ℕ, zero, suc, ◌+◌, ◌≤◌, ◌<◌, List, [], ◌∷◌, ◌++◌, length, refl, sym, ◌∙◌, inl, inr, Bool, true, false, not, ◌||◌, ◌&&◌, ◌⊎◌, arith}
use Rattle.std.specs.List.{filter, flat_map}
use Rattle.std.proofs.lemmas.Bool.{cases_Bool, cases_eq, not-true, or_cases, or_left, and_parts, and_from}
use Rattle.std.proofs.lemmas.List.{length-append}
use Rattle.obs_matroid.specs.Lists.{In, IsDistinct, other_than}
use Rattle.obs_matroid.specs.Matroid.{Matroid, IsIndependent}
use Rattle.obs_matroid.specs.inner.Matroid.{IsMatroid}
use Rattle.obs_matroid.specs.Assignments.{Pair, items, branches, IsAssignment}
use Rattle.obs_matroid.specs.inner.Assignments.{part, others}
use Rattle.obs_matroid.specs.inner.Closed.{none, every}
use Rattle.obs_matroid.specs.Islands.{LiesInside, IsSpanned, IsIsland}
use Rattle.obs_matroid.specs.Graphic.{graphic}
use Rattle.obs_matroid.specs.inner.Graphic.{IsJoining}
use Rattle.std.specs.Cmp.Derive.{one_truth}
use Rattle.obs_matroid.proofs.Lists.{clash, In_same, In-filter, In-filter_from, In-append_cases, In-flat_map, In-flat_map_from, cases_In, is_in, is_in_from, is_in_at, length-within, IsDistinct-filter, find_in, length-without_lt, other_true}
use Rattle.obs_matroid.proofs.Pairs.{IsDistinct-filter_items, In-items, In-items_from, In-branches, In-branches_from, In-part, In-part_from, IsDistinct-part, branches_within, independent_part, own}
use Rattle.obs_matroid.proofs.Bounds.{length-items, length-branches, length-parts}
use Rattle.obs_matroid.proofs.Least.{grows_or_closes}
use Rattle.obs_matroid.proofs.Critical.{rho_exists}
use Rattle.obs_matroid.proofs.Order.{independent_within}
use Rattle.obs_matroid.proofs.Graphs.{joined_through}
use Rattle.obs_matroid.proofs.Pieces.{forest_joins, forest_count, stays_in}

branches-filter : (keep : ℕ → Bool) (A : List Pair) → branches (filter (λ (p : Pair). keep p.1) A) ≡ filter keep (branches A)
branches-filter keep [] = refl
branches-filter keep (p ∷ A) =
    elim (cases_Bool (keep p.1)) [ inl e ↦ rw (e, branches-filter keep A) | inr e ↦ rw (e, branches-filter keep A) ]

module _ (ends : ℕ → ℕ × ℕ) (g : Matroid) (touch : ℕ → List ℕ) (vs M : List ℕ) where
  -- U holds every item that lies inside a set that is spanned from inside
  abbrev pub HoldsInside : List ℕ → Type 0
  HoldsInside U = (T : ℕ → Bool) → IsSpanned ends g touch vs M T → (m : ℕ) → In m M → LiesInside ends touch T m → In m U

-- the vertices that an item touches: the ends of the branches that it touches
abbrev pub touched_vertices : (ℕ → ℕ × ℕ) → (ℕ → List ℕ) → ℕ → List ℕ
touched_vertices ends touch m = flat_map (λ e. (ends e).0 ∷ (ends e).1 ∷ []) (touch m)

-- the piece of v: what the branches of A join with v
abbrev pub piece : (List ℕ → ℕ → ℕ → Bool) → List Pair → ℕ → ℕ → Bool
piece joined A v u = joined (branches A) v u

module _ (ends : ℕ → ℕ × ℕ) (joined : List ℕ → ℕ → ℕ → Bool) (rank : List ℕ → ℕ) (touch : ℕ → List ℕ) (vs M : List ℕ) where
  -- A is a longest assignment of U, the vertices that an item of U touches lie in one piece, and no item that lies inside a spanned set was discarded
  pub record IsSettled (U : List ℕ) (A : List Pair) : Type 0 where
    pub different : IsDistinct U
    pub of_all : (m : ℕ) → In m U → In m M
    pub assigns : IsAssignment (graphic ends joined rank) touch U A
    pub longest : (B : List Pair) → IsAssignment (graphic ends joined rank) touch U B → length B ≤ length A
    pub holds_inside : HoldsInside ends (graphic ends joined rank) touch vs M U
    pub in_one_piece : (m u v : ℕ) → In m U → In u (touched_vertices ends touch m) → In v (touched_vertices ends touch m) → joined (branches A) u v ≡ true

module _ (ends : ℕ → ℕ × ℕ) (joined : List ℕ → ℕ → ℕ → Bool) (rank : List ℕ → ℕ) (joining : IsJoining ends joined) (laws : IsMatroid (graphic ends joined rank)) (touch : ℕ → List ℕ) (vs M : List ℕ) (dv : IsDistinct vs) (dm : IsDistinct M)
    (ends_in : (m e : ℕ) → In m M → In e (touch m) → In (ends e).0 vs × In (ends e).1 vs) where
  -- the graph's matroid
  abbrev pub g : Matroid
  g = graphic ends joined rank

  In_touch : (m x e : ℕ) → m ≡ x → In e (touch x) → In e (touch m)
  In_touch m x e s i = rw s i

  -- the pairs Q of items outside S, added to what the pairs of S span, are still a forest
  added_forest : (A Q : List Pair) (S : ℕ → Bool) (L : List ℕ) → IsIndependent g (branches A) → IsDistinct (items A) → IsDistinct (items Q)
      → ((p : Pair) → In p Q → In p A × (S p.0 ≡ false)) → IsIndependent g L
      → ((e : ℕ) → In e L → g.spans (branches (part S A)) e ≡ true) → IsIndependent g (branches Q ++ L)
  added_forest A [] S L f d e h fl sp = fl
  added_forest A (p ∷ Q) S L f d e h fl sp =
      let u = h p (inl refl) in (
        elim (cases_Bool (g.spans (branches Q ++ L) p.1)) [
          | inr r ↦ r
          | inl t ↦ clash
              (laws.through (branches Q ++ L) (others A p.0) p.1
              (λ x i. elim (In-append_cases x (branches Q) L i) [
                | inl j ↦ laws.member (others A p.0) x (branches_within Q (part (other_than p.0) A)
                    (λ q k. In-part (other_than p.0) A q (h q (inr k)).0 (other_true p.0 q.0 (λ s. e.0 (In_same p.0 q.0 (items Q) (sym s) (In-items Q q k))))) x j)
                | inr j ↦ laws.through (branches (part S A)) (others A p.0) x
                    (λ y k. laws.member (others A p.0) y (branches_within (part S A) (part (other_than p.0) A)
                    (λ q l. let v = In-part_from S A q l in In-part (other_than p.0) A q v.0 (other_true p.0 q.0 (λ s. clash v.1 (rw s u.1)))) y k))
                    (sp x j)
              ])
              t)
              (own g laws A p f d u.0)
        ],
        added_forest A Q S L f d e.1 (λ q k. h q (inr k)) fl sp,
      )

  -- a set that is spanned from inside by items of U is contained in one piece of a longest assignment of U
  pub one_piece : (U : List ℕ) (A : List Pair) (T : ℕ → Bool) → IsDistinct U → IsAssignment g touch U A
      → ((B : List Pair) → IsAssignment g touch U B → length B ≤ length A)
      → (t : IsSpanned ends g touch vs M T) → ((m : ℕ) → In m (items t.pairs) → In m U)
      → (u v : ℕ) → In u vs → In v vs → T u ≡ true → T v ≡ true → joined (branches A) u v ≡ true
  one_piece U A T d a longest t inU u v iu iv tu tv =
      elim (grows_or_closes g laws touch U none every A d a (λ m y. clash y refl)) [
        | inl b ↦ let k = longest b.0 b.2.assigns in let l = b.2.longer in absurd (omega (arith, k, l))
        | inr s ↦
            let S : ℕ → Bool = λ x. s.0 x || none x in
            let B : List Pair = t.pairs in
            let BS : List Pair = part S B in
            let BN : List Pair = part (λ x. not (S x)) B in
            let N : ℕ → Bool = λ x. not (S x) && is_in (items B) x in
            let AN : List Pair = part N A in
            let L : List ℕ = branches AN ++ branches BS in
            let W : List ℕ = filter T vs in
            let an : (p : Pair) → In p AN → In p A × (S p.0 ≡ false) × In p.0 (items B) = λ p i.
            let y = In-part_from N A p i in
            let z = and_parts (not (S p.0)) (is_in (items B) p.0) y.1 in
            (y.0, not-true (S p.0) z.0, is_in_from (items B) p.0 z.1) in
            let sp : (e : ℕ) → In e (branches BS) → g.spans (branches (part S A)) e ≡ true = λ e i.
            let y = In-branches_from BS e i in
            let z = In-part_from S B y.0 y.1 in
            rw y.2 (s.1.closed.spanned y.0.0 y.0.1 (inU y.0.0 (In-items B y.0 z.0))
            (elim (or_cases (s.0 y.0.0) (none y.0.0) z.1) [ inl w ↦ w | inr w ↦ clash w refl ]) (t.assigns.touched y.0 z.0)) in
            let forest : IsIndependent g L = added_forest A AN S (branches BS) a.independent a.different (IsDistinct-part N A a.different)
            (λ p i. let y = an p i in (y.0, y.1)) (independent_part g laws S B t.assigns.independent) sp in
            let within : (e : ℕ) → In e L → In (ends e).0 W × In (ends e).1 W = λ e i.
            let at : (m : ℕ) → In m (items B) → In e (touch m) → In (ends e).0 W × In (ends e).1 W = λ m j k.
            let y = t.lie_inside m j e k in
            let mm : In m M = (let z = In-items_from B m j in In_same m z.0.0 M z.2 (t.assigns.of_items z.0 z.1)) in
            let z = ends_in m e mm k in
            (In-filter T (ends e).0 vs z.0 y.0, In-filter T (ends e).1 vs z.1 y.1) in
            elim (In-append_cases e (branches AN) (branches BS) i) [
              | inl j ↦ let y = In-branches_from AN e j in let z = an y.0 y.1 in at y.0.0 z.2 (In_same e y.0.1 (touch y.0.0) y.2 (a.touched y.0 z.0))
              | inr j ↦ let y = In-branches_from BS e j in let z = In-part_from S B y.0 y.1 in at y.0.0 (In-items B y.0 z.0) (In_same e y.0.1 (touch y.0.0) y.2 (t.assigns.touched y.0 z.0))
            ] in
            let c1 : length (items BN) ≤ length (items AN) = length-within (items BN) (items AN) (IsDistinct-part (λ x. not (S x)) B t.assigns.different)
            (λ x i. let y = In-items_from BN x i in
            let z = In-part_from (λ w. not (S w)) B y.0 y.1 in
            let inB : In x (items B) = In_same x y.0.0 (items B) y.2 (In-items B y.0 z.0) in
            let nS : S x ≡ false = (let w = not-true (S y.0.0) z.1 in rw y.2 w) in
            elim (cases_In x (items A)) [
              | inl j ↦ let w = In-items_from A x j in
                  let nw : N w.0.0 ≡ true = rw (← w.2) (and_from (not (S x)) (is_in (items B) x) (rw nS refl) (is_in_at (items B) x inB)) in
                  In_same x w.0.0 (items AN) w.2 (In-items AN w.0 (In-part N A w.0 w.1 nw))
              | inr out ↦ clash (or_left (s.0 x) (none x) (s.1.holds x (inU x inB) refl out)) nS
            ]) in
            let c2 : length (items AN) ≤ length (items BN) = length-within (items AN) (items BN) (IsDistinct-part N A a.different)
            (λ x i. let y = In-items_from AN x i in
            let z = an y.0 y.1 in
            let w = In-items_from B y.0.0 z.2 in
            let q : not (S w.0.0) ≡ true = rw (← w.2) (rw z.1 refl) in
            In_same x w.0.0 (items BN) (y.2 ∙ w.2) (In-items BN w.0 (In-part (λ k. not (S k)) B w.0 w.1 q))) in
            let l1 = length-items BN in
            let l2 = length-items AN in
            let l3 = length-parts S B in
            let l4 : length L ≡ length (branches AN) + length (branches BS) = length-append (branches AN) (branches BS) in
            let l5 = length-branches AN in
            let l6 = length-branches BS in
            let en : suc (length B) ≡ length W = t.enough in
            let many : suc (length L) ≡ length W = omega (arith, c1, c2, l1, l2, l3, l4, l5, l6, en) in
            joined_through ends joined joining L (branches A)
            (λ x i. elim (In-append_cases x (branches AN) (branches BS) i) [
              | inl j ↦ laws.member (branches A) x (branches_within AN A (λ p k. (an p k).0) x j)
              | inr j ↦ laws.through (branches (part S A)) (branches A) x
                  (λ y k. laws.member (branches A) y (branches_within (part S A) A (λ p l. (In-part_from S A p l).0) y k)) (sp x j)
            ])
            u v (forest_joins ends joined rank joining W (IsDistinct-filter T vs dv) L forest within many u v (In-filter T u vs iu tu) (In-filter T v vs iv tv))
      ]

  -- the ends of a branch that an item touches are touched by it
  left_touched : (m e : ℕ) → In e (touch m) → In (ends e).0 (touched_vertices ends touch m)
  left_touched m e i = In-flat_map (λ x. (ends x).0 ∷ (ends x).1 ∷ []) e (ends e).0 (touch m) i (inl refl)

  right_touched : (m e : ℕ) → In e (touch m) → In (ends e).1 (touched_vertices ends touch m)
  right_touched m e i = In-flat_map (λ x. (ends x).0 ∷ (ends x).1 ∷ []) e (ends e).1 (touch m) i (inr (inl refl))

  -- a vertex that an item touches lies in each set that it lies inside
  touched_inside : (T : ℕ → Bool) (m u : ℕ) → In m M → LiesInside ends touch T m → In u (touched_vertices ends touch m) → In u vs × (T u ≡ true)
  touched_inside T m u i l j =
      let y = In-flat_map_from (λ x. (ends x).0 ∷ (ends x).1 ∷ []) u (touch m) j in
      let z = ends_in m y.0 i y.1 in
      let t = l y.0 y.1 in
      elim y.2 [
        | inl w ↦ (In_same u (ends y.0).0 vs w z.0, rw w t.0)
        | inr k ↦ elim k [ inl w ↦ (In_same u (ends y.0).1 vs w z.1, rw w t.1) | inr n ↦ absurd n ]
      ]

  -- the vertices that an item inside such a set touches lie in one piece
  pub inside_joined : (U : List ℕ) (A : List Pair) → IsDistinct U → HoldsInside ends g touch vs M U → IsAssignment g touch U A
      → ((B : List Pair) → IsAssignment g touch U B → length B ≤ length A)
      → (T : ℕ → Bool) → IsSpanned ends g touch vs M T → (m u v : ℕ) → In m M → LiesInside ends touch T m
      → In u (touched_vertices ends touch m) → In v (touched_vertices ends touch m) → joined (branches A) u v ≡ true
  inside_joined U A d h a longest T t m u v i l k k' =
      let y = touched_inside T m u i l k in
      let z = touched_inside T m v i l k' in
      one_piece U A T d a longest t
      (λ x j. let w = In-items_from t.pairs x j in h T t x (In_same x w.0.0 M w.2 (t.assigns.of_items w.0 w.1)) (t.lie_inside x j))
      u v y.0 z.0 y.1 z.1

  -- the list of all items holds them
  pub HoldsInside-all : HoldsInside ends g touch vs M M
  HoldsInside-all T t m i j = i

  -- m touches two vertices that the branches of A do not join: they lie in two pieces
  abbrev pub Crosses : List Pair → ℕ → Type 0
  Crosses A m = (u : ℕ) × (v : ℕ) × In u (touched_vertices ends touch m) × In v (touched_vertices ends touch m) × (joined (branches A) u v ≡ false)

  cases_crosses : (A : List Pair) (m : ℕ) → Crosses A m
      ⊎ ((u v : ℕ) → In u (touched_vertices ends touch m) → In v (touched_vertices ends touch m) → joined (branches A) u v ≡ true)
  cases_crosses A m =
      let vertices : List ℕ = touched_vertices ends touch m in
      let P : ℕ → Type 0 = λ u. (v : ℕ) × In v vertices × (joined (branches A) u v ≡ false) in
      let Q : ℕ → Type 0 = λ u. (v : ℕ) → In v vertices → joined (branches A) u v ≡ true in
      elim (find_in P Q vertices (λ u i. find_in (λ v. joined (branches A) u v ≡ false) (λ v. joined (branches A) u v ≡ true) vertices
      (λ v j. elim (cases_Bool (joined (branches A) u v)) [ inl b ↦ inr b | inr b ↦ inl b ]))) [
        | inl b ↦ inl (b.0, b.2.0, b.1, b.2.1, b.2.2)
        | inr q ↦ inr (λ u v i j. q u i v j)
      ]

  -- an item that touches a branch between two pieces touches vertices of two pieces
  pub Crosses-branch : (A : List Pair) (m e : ℕ) → In e (touch m) → g.spans (branches A) e ≡ false → Crosses A m
  Crosses-branch A m e i f = ((ends e).0, (ends e).1, left_touched m e i, right_touched m e i, f)

  joined_end : (L : List ℕ) (a b hub w : ℕ) → joined L a b ≡ true → (a ≡ hub) ⊎ (b ≡ hub) → In w (a ∷ b ∷ []) → joined L hub w ≡ true
  joined_end L a b hub w t (inl h) (inl e) = rw (← h, e) (joining.same L a)
  joined_end L a b hub w t (inl h) (inr (inl e)) = rw (← h, e) t
  joined_end L a b hub w t (inr h) (inl e) = rw (← h, e) (joining.back L a b t)
  joined_end L a b hub w t (inr h) (inr (inl e)) = rw (← h, e) (joining.same L b)
  joined_end L a b hub w t h (inr (inr n)) = absurd n

  -- where the branches that m touches have an end in common, and none lies between two pieces, its vertices lie in one piece
  pub joined_at_hub : (A : List Pair) (m hub : ℕ) → ((e : ℕ) → In e (touch m) → ((ends e).0 ≡ hub) ⊎ ((ends e).1 ≡ hub))
      → ((e : ℕ) → In e (touch m) → g.spans (branches A) e ≡ true)
      → (u v : ℕ) → In u (touched_vertices ends touch m) → In v (touched_vertices ends touch m) → joined (branches A) u v ≡ true
  joined_at_hub A m hub at within u v i j =
      let L : List ℕ = branches A in
      let from_hub : (w : ℕ) → In w (touched_vertices ends touch m) → joined L hub w ≡ true = λ w k.
      let y = In-flat_map_from (λ x. (ends x).0 ∷ (ends x).1 ∷ []) w (touch m) k in
      joined_end L (ends y.0).0 (ends y.0).1 hub w (within y.0 y.1) (at y.0 y.1) y.2 in
      joining.on L u hub v (joining.back L hub u (from_hub u i)) (from_hub v j)

  -- and so does what is left, where only items that touch vertices of two pieces are discarded
  pub HoldsInside-discard : (U : List ℕ) (A : List Pair) → IsDistinct U → HoldsInside ends g touch vs M U → IsAssignment g touch U A
      → ((B : List Pair) → IsAssignment g touch U B → length B ≤ length A)
      → (keep : ℕ → Bool) → ((m : ℕ) → In m U → keep m ≡ false → Crosses A m) → HoldsInside ends g touch vs M (filter keep U)
  HoldsInside-discard U A d h a longest keep crosses T t m i j =
      let k = h T t m i j in
      In-filter keep m U k (elim (cases_Bool (keep m)) [
        | inl y ↦ y
        | inr n ↦ let c = crosses m k n in clash (inside_joined U A d h a longest T t m c.0 c.1 i j c.2 c.3) c.4
      ])

  Crosses-same : (A : List Pair) (m x : ℕ) → m ≡ x → Crosses A x → Crosses A m
  Crosses-same A m x w c = rw w c

  settled_by : (n : ℕ) (U : List ℕ) → length U < n → IsDistinct U → ((m : ℕ) → In m U → In m M) → HoldsInside ends g touch vs M U → (V : List ℕ) × (A : List Pair) × IsSettled ends joined rank touch vs M V A
  settled_by zero U l d s h = absurd (omega (arith, l))
  settled_by (suc n) U l d s h =
      let r = rho_exists g laws touch U d in
      let A : List Pair = r.1.longest in
      let long : (B : List Pair) → IsAssignment g touch U B → length B ≤ length A = λ B b. let k = r.1.none_longer B b in let e = r.1.long in omega (arith, k, e) in
      elim (find_in (Crosses A) (λ m. (u v : ℕ) → In u (touched_vertices ends touch m) → In v (touched_vertices ends touch m) → joined (branches A) u v ≡ true) U
      (λ m i. cases_crosses A m)) [
        | inr q ↦ (U, A, record { different = d; of_all = s; assigns = r.1.assigns; longest = long; holds_inside = h; in_one_piece = λ m u v i. q m i u v })
        | inl b ↦
            let x : ℕ = b.0 in
            settled_by n (filter (other_than x) U) (let k = length-without_lt x U b.1 in omega (arith, k, l)) (IsDistinct-filter (other_than x) U d)
            (λ m i. s m (In-filter_from (other_than x) m U i).0)
            (HoldsInside-discard U A d h r.1.assigns long (other_than x) (λ m i n. elim (cases_eq m x) [
              | inl w ↦ Crosses-same A m x w b.2
              | inr w ↦ clash (other_true x m w) n
            ]))
      ]

  -- discarding comes to an end
  pub settled_exists : (V : List ℕ) × (A : List Pair) × IsSettled ends joined rank touch vs M V A
  settled_exists = settled_by (suc (length M)) M (omega arith) dm (λ m i. i) HoldsInside-all

  -- where the vertices that an item with a pair touches lie in one piece, each piece is spanned from inside
  module _ (A : List Pair) (assigns : IsAssignment g touch M A)
      (in_one_piece : (m u v : ℕ) → In m (items A) → In u (touched_vertices ends touch m) → In v (touched_vertices ends touch m) → joined (branches A) u v ≡ true) where
    piece_ends : (v e : ℕ) → g.spans (branches A) e ≡ true → piece joined A v (ends e).0 ≡ piece joined A v (ends e).1
    piece_ends v e t =
        one_truth (piece joined A v (ends e).0) (piece joined A v (ends e).1)
        (λ x. joining.on (branches A) v (ends e).0 (ends e).1 x t)
        (λ x. joining.on (branches A) v (ends e).1 (ends e).0 x (joining.back (branches A) (ends e).0 (ends e).1 t))

    pub piece_inside : (v : ℕ) → In v vs → IsSpanned ends g touch vs M (piece joined A v)
    piece_inside v iv =
        let keep : ℕ → Bool = λ e. piece joined A v (ends e).0 in
        let AP : List Pair = filter (λ (p : Pair). keep p.1) A in
        let ap' : (p : Pair) → In p AP → In p A × (keep p.1 ≡ true) = λ p i. In-filter_from (λ (q : Pair). keep q.1) p A i in
        let both_in : (p : Pair) → In p AP → (piece joined A v (ends p.1).0 ≡ true) × (piece joined A v (ends p.1).1 ≡ true) = λ p i.
        let y = ap' p i in (y.1, sym (piece_ends v p.1 (laws.member (branches A) p.1 (In-branches A p y.0))) ∙ y.1) in
        let of_M : (p : Pair) → In p AP → In p.0 M = λ p i. assigns.of_items p (ap' p i).0 in
        let asg : IsAssignment g touch M AP = record {
          of_items = of_M;
          touched = λ p i. assigns.touched p (ap' p i).0;
          different = IsDistinct-filter_items (λ (q : Pair). keep q.1) A assigns.different;
          independent = (independent_within g laws A AP assigns.independent assigns.different (IsDistinct-filter_items (λ (q : Pair). keep q.1) A assigns.different) (λ p i. (ap' p i).0));
        } in
        let W : List ℕ = filter (piece joined A v) vs in
        record {
          vertex = v;
          vertex_in = iv;
          holds_vertex = joining.same (branches A) v;
          pairs = AP;
          assigns = asg;
          lie_inside = λ m i e k.
              let y = In-items_from AP m i in
              let x = ap' y.0 y.1 in
              let bi = both_in y.0 y.1 in
              let k' : In e (touch y.0.0) = In_touch y.0.0 m e (sym y.2) k in
              let at : (u : ℕ) → In u (touched_vertices ends touch y.0.0) → piece joined A v u ≡ true = λ u l.
              joining.on (branches A) v (ends y.0.1).0 u bi.0
              (in_one_piece y.0.0 (ends y.0.1).0 u (In-items A y.0 x.0) (left_touched y.0.0 y.0.1 (asg.touched y.0 y.1)) l) in
              (at (ends e).0 (left_touched y.0.0 e k'), at (ends e).1 (right_touched y.0.0 e k'));
          enough =
              let n : suc (length (branches AP)) ≡ length W = forest_count ends joined rank joining W (IsDistinct-filter (piece joined A v) vs dv) (branches AP) asg.independent
              (λ e i. let y = In-branches_from AP e i in
              let bi = both_in y.0 y.1 in
              let z = ends_in y.0.0 y.0.1 (of_M y.0 y.1) (asg.touched y.0 y.1) in
              rw y.2 (In-filter (piece joined A v) (ends y.0.1).0 vs z.0 bi.0, In-filter (piece joined A v) (ends y.0.1).1 vs z.1 bi.1))
              v (In-filter (piece joined A v) v vs iv (joining.same (branches A) v))
              (λ u i. let s = stays_in ends joined joining (piece joined A v) (branches A)
              (λ e j. piece_ends v e (laws.member (branches A) e j)) v u (joining.same (branches A) v) (In-filter_from (piece joined A v) u vs i).1 in
              rw (branches-filter keep A) s.0) in
              let l = length-branches AP in
              omega (arith, n, l);
        }

  module _ (U : List ℕ) (A : List Pair) (st : IsSettled ends joined rank touch vs M U A) where
    -- each piece is spanned from inside
    pub piece_spanned : (v : ℕ) → In v vs → IsSpanned ends g touch vs M (piece joined A v)
    piece_spanned =
        let a = st.assigns in
        let all : IsAssignment g touch M A = record {
          of_items = λ p i. st.of_all p.0 (a.of_items p i);
          touched = a.touched;
          different = a.different;
          independent = a.independent;
        } in
        piece_inside A all (λ m u v i. let y = In-items_from A m i in st.in_one_piece m u v (In_same m y.0.0 U y.2 (a.of_items y.0 y.1)))

    -- a spanned set lies in one piece
    pub contained : (T : ℕ → Bool) → IsSpanned ends g touch vs M T → (u v : ℕ) → In u vs → In v vs → T u ≡ true → T v ≡ true → joined (branches A) u v ≡ true
    contained T t = one_piece U A T st.different st.assigns st.longest t
        (λ x j. let w = In-items_from t.pairs x j in st.holds_inside T t x (In_same x w.0.0 M w.2 (t.assigns.of_items w.0 w.1)) (t.lie_inside x j))

    -- each piece is an island
    pub piece_island : (v : ℕ) → In v vs → IsIsland ends g touch vs M (piece joined A v)
    piece_island v iv = record {
      spanned = piece_spanned v iv;
      largest = λ T t h u iu y. contained T t v u iv iu (h v iv (joining.same (branches A) v)) y;
    }

    -- and the only one that holds its vertices
    pub island_piece : (v : ℕ) → In v vs → (T : ℕ → Bool) → IsIsland ends g touch vs M T → T v ≡ true → (u : ℕ) → In u vs → T u ≡ piece joined A v u
    island_piece v iv T t tv u iu = one_truth (T u) (piece joined A v u)
        (λ y. contained T t.spanned v u iv iu tv y)
        (t.largest (piece joined A v) (piece_spanned v iv) (λ w iw y. contained T t.spanned v w iv iw tv y) u iu)

  -- each vertex lies in exactly one island
  pub islands_partition : (v : ℕ) → In v vs → (S : ℕ → Bool) × IsIsland ends g touch vs M S × (S v ≡ true)
      × ((T : ℕ → Bool) → IsIsland ends g touch vs M T → T v ≡ true → (u : ℕ) → In u vs → T u ≡ S u)
  islands_partition v iv =
      let s = settled_exists in
      (piece joined s.1 v, piece_island s.0 s.1 s.2 v iv, joining.same (branches s.1) v, λ T t tv u iu. island_piece s.0 s.1 s.2 v iv T t tv u iu)
