-- The pieces that a list of branches makes of some vertices.
use Rattle.std.proofs.Common.{◌≡◌, ℕ, suc, ◌+◌, List, [], ◌∷◌, length, refl, sym, ◌∙◌, inl, inr, Bool, true, arith}
use Rattle.std.specs.List.{filter}
use Rattle.std.proofs.lemmas.Bool.{cases_eq}
use Rattle.obs_matroid.specs.Lists.{In, IsDistinct, other_than, without}
use Rattle.obs_matroid.specs.Matroid.{IsIndependent}
use Rattle.obs_matroid.specs.Graphic.{graphic}
use Rattle.obs_matroid.specs.inner.Graphic.{IsJoining}
use Rattle.obs_matroid.proofs.Graphs.{joined_more}
use Rattle.obs_matroid.proofs.Lists.{clash, In-filter, In-filter_from, other_true, other_ne, IsDistinct-filter, length-without}

module _ (ends : ℕ → ℕ × ℕ) (joined : List ℕ → ℕ → ℕ → Bool) (joining : IsJoining ends joined) where
  -- a chain that begins in P stays there, where each branch has both ends in P or none
  pub stays_in : (P : ℕ → Bool) (L : List ℕ) → ((e : ℕ) → In e L → P (ends e).0 ≡ P (ends e).1)
      → (x u : ℕ) → P x ≡ true → joined L x u ≡ true → (joined (filter (λ e. P (ends e).0) L) x u ≡ true) × (P u ≡ true)
  stays_in P [] h x u p t = (t, (let e = joining.bare x u t in rw (← e) p))
  stays_in P (e ∷ L) h x u p t =
      let keep : ℕ → Bool = λ y. P (ends y).0 in
      let a = (ends e).0 in
      let b = (ends e).1 in
      let ih : (x u : ℕ) → P x ≡ true → joined L x u ≡ true → (joined (filter keep L) x u ≡ true) × (P u ≡ true) = stays_in P L (λ y i. h y (inr i)) in
      let up : (x u : ℕ) → joined (filter keep L) x u ≡ true → joined (filter keep (e ∷ L)) x u ≡ true =
      λ x u t. joined_more ends joined joining (filter keep L) (filter keep (e ∷ L)) x u (λ y i. let v = In-filter_from keep y L i in In-filter keep y (e ∷ L) (inr v.0) v.1) t in
      let at : P a ≡ true → (x u : ℕ) → joined (e ∷ filter keep L) x u ≡ true → joined (filter keep (e ∷ L)) x u ≡ true = λ y x u t. rw y t in
      elim ((joining.added e L x u).0 t) [
        | inl s ↦ let r = ih x u p s in (up x u r.0, r.1)
        | inr c ↦ elim c [
          | inl s ↦
              let r = ih x a p s.0 in
              let q = ih b u (sym (h e (inl refl)) ∙ r.1) s.1 in
              (at r.1 x u ((joining.added e (filter keep L) x u).1 (inr (inl (r.0, q.0)))), q.1)
          | inr s ↦
              let r = ih x b p s.0 in
              let y : P a ≡ true = h e (inl refl) ∙ r.1 in
              let q = ih a u y s.1 in
              (at y x u ((joining.added e (filter keep L) x u).1 (inr (inr (r.0, q.0)))), q.1)
        ]
      ]

module _ (ends : ℕ → ℕ × ℕ) (joined : List ℕ → ℕ → ℕ → Bool) (rank : List ℕ → ℕ) (joining : IsJoining ends joined) where
  -- one vertex of W for each piece that L makes of W
  pub record HasFirsts (W L R : List ℕ) : Type 0 where
    pub different : IsDistinct R
    pub within : (r : ℕ) → In r R → In r W
    pub count : length R + length L ≡ length W
    pub covers : (v : ℕ) → In v W → (r : ℕ) × In r R × (joined L v r ≡ true)
    pub apart : (r s : ℕ) → In r R → In s R → joined L r s ≡ true → r ≡ s

  pub firsts : (W : List ℕ) → IsDistinct W → (L : List ℕ) → IsIndependent (graphic ends joined rank) L
      → ((e : ℕ) → In e L → In (ends e).0 W × In (ends e).1 W) → (R : List ℕ) × HasFirsts W L R
  firsts W d [] f h = (W, record { different = d; within = λ r i. i; count = omega arith; covers = λ v i. (v, i, joining.same [] v); apart = λ r s i j t. joining.bare r s t })
  firsts W d (e ∷ L) f h =
      let a = (ends e).0 in
      let b = (ends e).1 in
      let q = firsts W d L f.1 (λ x i. h x (inr i)) in
      let R : List ℕ = q.0 in
      let ra = q.1.covers a (h e (inl refl)).0 in
      let rb = q.1.covers b (h e (inl refl)).1 in
      let na : ra.0 ≡ rb.0 → ⊥ = λ s. clash (joining.on L a ra.0 b ra.2 (joining.back L b ra.0 (rw s rb.2))) f.0 in
      let up : (u v : ℕ) → joined L u v ≡ true → joined (e ∷ L) u v ≡ true = λ u v t. joined_more ends joined joining L (e ∷ L) u v (λ x i. inr i) t in (
        without rb.0 R,
        record {
          different = IsDistinct-filter (other_than rb.0) R q.1.different;
          within = λ r i. q.1.within r (In-filter_from (other_than rb.0) r R i).0;
          count = (let k = length-without rb.0 R q.1.different rb.1 in let c = q.1.count in omega (arith, k, c));
          covers = λ v i. let r = q.1.covers v i in
              elim (cases_eq r.0 rb.0) [
                | inr n ↦ (r.0, In-filter (other_than rb.0) r.0 R r.1 (other_true rb.0 r.0 n), up v r.0 r.2)
                | inl s ↦ (
                  ra.0,
                  In-filter (other_than rb.0) ra.0 R ra.1 (other_true rb.0 ra.0 na),
                  (joining.added e L v ra.0).1 (inr (inr (joining.on L v r.0 b r.2 (joining.back L b r.0 (rw s rb.2)), ra.2))),
                )
              ];
          apart = λ r s i j t.
              let u = In-filter_from (other_than rb.0) r R i in
              let v = In-filter_from (other_than rb.0) s R j in
              elim ((joining.added e L r s).0 t) [
                | inl y ↦ q.1.apart r s u.0 v.0 y
                | inr y ↦ elim y [
                  | inl z ↦ absurd (other_ne rb.0 s v.1 (q.1.apart s rb.0 v.0 rb.1 (joining.on L s b rb.0 (joining.back L b s z.1) rb.2)))
                  | inr z ↦ absurd (other_ne rb.0 r u.1 (q.1.apart r rb.0 u.0 rb.1 (joining.on L r b rb.0 z.0 rb.2)))
                ]
              ];
        },
      )

  one_first : (W L R : List ℕ) → HasFirsts W L R → suc (length L) ≡ length W → (u v : ℕ) → In u W → In v W → joined L u v ≡ true
  one_first W L [] h e u v i j = absurd ((h.covers u i).1)
  one_first W L (r ∷ []) h e u v i j =
      let x = h.covers u i in
      let y = h.covers v j in
      let xr : x.0 ≡ r = elim x.1 [ inl s ↦ s | inr n ↦ absurd n ] in
      let yr : y.0 ≡ r = elim y.1 [ inl s ↦ s | inr n ↦ absurd n ] in
      joining.on L u r v (rw (← xr) x.2) (joining.back L v r (rw (← yr) y.2))
  one_first W L (r ∷ s ∷ R) h e u v i j = let c = h.count in absurd (omega (arith, c, e))

  -- a forest of one branch fewer than there are vertices joins them all
  pub forest_joins : (W : List ℕ) → IsDistinct W → (L : List ℕ) → IsIndependent (graphic ends joined rank) L → ((e : ℕ) → In e L → In (ends e).0 W × In (ends e).1 W)
      → suc (length L) ≡ length W → (u v : ℕ) → In u W → In v W → joined L u v ≡ true
  forest_joins W d L f h e = let q = firsts W d L f h in one_first W L q.0 q.1 e

  count_first : (W L R : List ℕ) → HasFirsts W L R → (v : ℕ) → In v W → ((u : ℕ) → In u W → joined L v u ≡ true) → suc (length L) ≡ length W
  count_first W L [] h v i j = absurd ((h.covers v i).1)
  count_first W L (r ∷ []) h v i j = let c = h.count in omega (arith, c)
  count_first W L (r ∷ s ∷ R) h v i j =
      absurd (h.different.0 (inl (h.apart r s (inl refl) (inr (inl refl))
      (joining.on L r v s (joining.back L v r (j r (h.within r (inl refl)))) (j s (h.within s (inr (inl refl))))))))

  -- a forest that joins all of W has one branch fewer
  pub forest_count : (W : List ℕ) → IsDistinct W → (L : List ℕ) → IsIndependent (graphic ends joined rank) L → ((e : ℕ) → In e L → In (ends e).0 W × In (ends e).1 W)
      → (v : ℕ) → In v W → ((u : ℕ) → In u W → joined L v u ≡ true) → suc (length L) ≡ length W
  forest_count W d L f h v i j = let q = firsts W d L f h in count_first W L q.0 q.1 v i j
