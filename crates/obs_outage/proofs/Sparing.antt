-- Branches that a longest assignment can miss, over any matroid.
use Rattle.std.proofs.Common.{inl, inr, ◌≡◌, ℕ, suc, ◌≤◌, Bool, true, false, not, List, ◌∷◌, sym, arith}
use Rattle.std.specs.Prelude.{flat_map}
use Rattle.std.proofs.lemmas.Bool.{cases_Bool, cases_eq, cases_lt}
use Rattle.obs_matroid.specs.Lists.{In, IsDistinct, other_than, without}
use Rattle.obs_matroid.specs.Matroid.{Matroid}
use Rattle.obs_matroid.specs.inner.Matroid.{IsMatroid}
use Rattle.obs_matroid.specs.Assignments.{IsAssignment, Pair, branches}
use Rattle.obs_matroid.specs.inner.Assignments.{IsRho}
use Rattle.obs_matroid.specs.Bounds.{inside}
use Rattle.obs_matroid.specs.inner.Bounds.{bound}
use Rattle.obs_matroid.specs.inner.Critical.{IsCritical}
use Rattle.obs_matroid.specs.Values.{is_critical}
use Rattle.obs_matroid.proofs.Bounds.{weak_bound}
use Rattle.obs_matroid.proofs.Computed.{noncritical_tight}
use Rattle.obs_matroid.proofs.Critical.{bound-without, rho_exists, rho_same}
use Rattle.obs_matroid.proofs.Lists.{In-filter, In-filter_from, In-flat_map, In-flat_map_from, IsDistinct-filter, clash, find_in, other_ne, other_true}
use Rattle.obs_matroid.proofs.Pairs.{In-branches_from}
use Rattle.obs_matroid.proofs.Ranks.{rank-within}
use Rattle.obs_matroid.proofs.Spans.{spans_more}

-- what items touch but the branch e
abbrev pub sparing : (ℕ → List ℕ) → ℕ → ℕ → List ℕ
sparing touch e m = without e (touch m)

-- what some items touch is the branch e, or something else that they touch
touched_but : (touch : ℕ → List ℕ) (e : ℕ) (K : List ℕ) (x : ℕ) → In x (flat_map touch K) → In x (e ∷ flat_map (sparing touch e) K)
touched_but touch e K x i =
    elim (cases_eq x e) [
      | inl is ↦ inl is
      | inr ne ↦ (
          let v = In-flat_map_from touch x K i in
          inr (In-flat_map (sparing touch e) v.0 x K v.1 (In-filter (other_than e) x (touch v.0) v.2 (other_true e x ne))))
    ]

module _ (g : Matroid) (laws : IsMatroid g) where
  -- one branch more raises the rank by one at the most
  rank_one_more : (L : List ℕ) (e : ℕ) → g.rank (e ∷ L) ≤ suc (g.rank L)
  rank_one_more L e =
      elim (cases_Bool (g.spans L e)) [
        | inl t ↦ (let r = laws.rank_spanned L e t in omega (arith, r))
        | inr f ↦ (let r = laws.rank_new L e f in omega (arith, r))
      ]

  module _ (touch : ℕ → List ℕ) (e : ℕ) where
    module _ (T : ℕ → Bool) (M : List ℕ) where
      -- a bound falls by one at the most
      bound_but : bound g touch T M ≤ suc (bound g (sparing touch e) T M)
      bound_but =
          let K = inside T M in
          let r = rank-within g laws (flat_map touch K) (e ∷ flat_map (sparing touch e) K) (λ x i. laws.member (e ∷ flat_map (sparing touch e) K) x (touched_but touch e K x i)) in
          let s = rank_one_more (flat_map (sparing touch e) K) e in
          omega (arith, r, s)

      -- and not at all where the other branches span e
      bound_stays : g.spans (flat_map (sparing touch e) (inside T M)) e ≡ true → bound g touch T M ≤ bound g (sparing touch e) T M
      bound_stays joins =
          let K = inside T M in
          let r = rank-within g laws (flat_map touch K) (flat_map (sparing touch e) K) (λ x i. elim (touched_but touch e K x i) [
            | inl is ↦ rw is joins
            | inr j ↦ laws.member (flat_map (sparing touch e) K) x j
          ]) in
          omega (arith, r)

    module _ (M : List ℕ) (d : IsDistinct M) (r s : ℕ) (long : IsRho g touch M r) (there : IsRho g (sparing touch e) M s) where
      -- the redundant items without the branch e
      abbrev T : ℕ → Bool
      T m = not (is_critical g (sparing touch e) M m)

      tight : bound g (sparing touch e) T M ≡ s
      tight = rho_same g (sparing touch e) M (bound g (sparing touch e) T M) s (noncritical_tight g laws (sparing touch e) M d) there

      bounded : r ≤ bound g touch T M
      bounded = let w = weak_bound g laws touch M T long.longest long.assigns in let l = long.long in omega (arith, w, l)

      -- an item without which as many pairs are possible, and which isn't in T
      outside_long : (m : ℕ) → In m M → (IsCritical g touch M m → ⊥) → T m ≡ false → r ≤ s
      outside_long m i redundant out =
          let q = rho_exists g laws touch (without m M) (IsDistinct-filter (other_than m) M d) in
          let b = bound-without g laws touch M T m d i out in
          let w = weak_bound g laws touch (without m M) T q.1.longest q.1.assigns in
          let l = q.1.long in
          let f = bound_but T M in
          let t = tight in
          elim (cases_lt q.0 r) [
            | inl low ↦ absurd (redundant (λ a c p k.
                let ea = rho_same g touch M a r p long in
                let ec = rho_same g touch (without m M) c q.0 k q.1 in
                omega (arith, ea, ec, low)))
            | inr high ↦ omega (arith, b, w, l, f, t, high)
          ]

      -- where some redundant items touch branches that span e, but for e, as many pairs are possible without e
      pub spared_long : (R : ℕ → Bool) → ((m : ℕ) → In m M → R m ≡ true → IsCritical g touch M m → ⊥) → g.spans (flat_map (sparing touch e) (inside R M)) e ≡ true → r ≤ s
      spared_long R redundant joins =
          elim (find_in (λ m. (R m ≡ true) × (T m ≡ false)) (λ m. R m ≡ true → T m ≡ true) M (λ m i. elim (cases_Bool (R m)) [
            | inr n ↦ inr (λ y. clash y n)
            | inl y ↦ elim (cases_Bool (T m)) [ inl t ↦ inr (λ z. t) | inr f ↦ inl (y, f) ]
          ])) [
            | inl one ↦ outside_long one.0 one.1 (redundant one.0 one.1 one.2.0) one.2.1
            | inr all ↦ (
                let more : g.spans (flat_map (sparing touch e) (inside T M)) e ≡ true =
                spans_more g laws (flat_map (sparing touch e) (inside R M)) (flat_map (sparing touch e) (inside T M)) e (λ x i.
                let v = In-flat_map_from (sparing touch e) x (inside R M) i in
                let u = In-filter_from R v.0 M v.1 in
                In-flat_map (sparing touch e) v.0 x (inside T M) (In-filter T v.0 M u.0 (all v.0 u.0 u.1)) v.2) joins in
                let b = bound_stays T M more in
                let w = bounded in
                let t = tight in
                omega (arith, b, w, t))
          ]

    -- an assignment without e is one, and has no pair with e
    pub sparing_assigns : (M : List ℕ) (B : List Pair) → IsAssignment g (sparing touch e) M B → IsAssignment g touch M B
    sparing_assigns M B x = record {
      of_items = x.of_items;
      touched = λ p i. (In-filter_from (other_than e) p.1 (touch p.0) (x.touched p i)).0;
      different = x.different;
      independent = x.independent;
    }

    pub sparing_free : (M : List ℕ) (B : List Pair) → IsAssignment g (sparing touch e) M B → In e (branches B) → ⊥
    sparing_free M B x i =
        let q = In-branches_from B e i in
        other_ne e q.0.1 (In-filter_from (other_than e) q.0.1 (touch q.0.0) (x.touched q.0 q.1)).1 (sym q.2)
