-- Critical items of a larger list are critical in a smaller one.
use Rattle.std.proofs.Common.{◌≡◌, refl, ℕ, suc, ◌+◌, ◌≤◌, List, [], ◌∷◌, ◌++◌, length, inl, inr, Bool, false, not, arith, subst}
use Rattle.std.specs.List.{filter, flat_map}
use Rattle.std.proofs.lemmas.Bool.{cases_Bool, cases_lt, not-true}
use Rattle.obs_matroid.specs.Lists.{In, IsDistinct, other_than, without}
use Rattle.obs_matroid.specs.Matroid.{Matroid}
use Rattle.obs_matroid.specs.inner.Matroid.{IsMatroid}
use Rattle.obs_matroid.specs.inner.Assignments.{IsRho}
use Rattle.obs_matroid.specs.Bounds.{inside, outside}
use Rattle.obs_matroid.specs.inner.Bounds.{bound}
use Rattle.obs_matroid.specs.inner.Critical.{IsCritical}
use Rattle.obs_matroid.proofs.Lists.{clash, In-filter, In-filter_from, In-append_left, In-append_right, In-append_cases, cases_In, is_in, is_in_from, is_in_at, other_self, filter_out, IsDistinct-filter, IsDistinct-append}
use Rattle.obs_matroid.proofs.Ranks.{rank-within}
use Rattle.obs_matroid.proofs.Bounds.{weak_bound}
use Rattle.obs_matroid.proofs.Critical.{rho_exists, rho_same, critical_from_tight, least_tight}
use Rattle.obs_matroid.proofs.Placement.{IsRho-same, rho_more}

module _ (g : Matroid) (laws : IsMatroid g) (touch : ℕ → List ℕ) where
  -- an item that is critical with c too is critical without it
  pub critical_with : (M : List ℕ) (c m : ℕ) → IsDistinct (c ∷ M) → In m M → IsCritical g touch (c ∷ M) m → IsCritical g touch M m
  critical_with M c m d i k =
      let p = rho_exists g laws touch M d.1 in
      let q = rho_exists g laws touch (c ∷ M) d in
      let l = rho_more g laws touch M c p.0 q.0 p.1 q.1 in
      let t = least_tight g laws touch (c ∷ M) q.0 d q.1 in
      let J : ℕ → Bool = t.0 in
      let w : p.0 ≤ bound g touch J M = (let x = weak_bound g laws touch M J p.1.longest p.1.assigns in let y = p.1.long in omega (arith, x, y)) in
      let out : J m ≡ false = (t.2 m (inr i)).1 k in
      critical_from_tight g laws touch M J p.0 d.1 p.1
      (elim (cases_Bool (J c)) [
        | inr f ↦
            let b : bound g touch J M + 1 ≡ q.0 = (let z : g.rank (flat_map touch (inside J M)) + suc (length (outside J M)) ≡ q.0 = rw f at t.1 in omega (arith, z)) in
            omega (arith, b, w, l)
        | inl y ↦
            let z : g.rank (touch c ++ flat_map touch (inside J M)) + length (outside J M) ≡ q.0 = rw y at t.1 in
            let u : g.rank (flat_map touch (inside J M)) ≤ g.rank (touch c ++ flat_map touch (inside J M)) =
            rank-within g laws (flat_map touch (inside J M)) (touch c ++ flat_map touch (inside J M))
            (λ x j. laws.member (touch c ++ flat_map touch (inside J M)) x (In-append_right x (touch c) (flat_map touch (inside J M)) j)) in
            let same : q.0 ≤ p.0 = elim (cases_lt p.0 q.0) [
              | inr k ↦ k
              | inl k ↦ absurd (clash y ((t.2 c (inl refl)).1 (λ r' s' p' q'.
                  let a = rho_same g touch (c ∷ M) q.0 r' q.1 p' in
                  let e : filter (other_than c) (c ∷ M) ≡ M = rw (other_self c) (filter_out c M d.0) in
                  let b = rho_same g touch M p.0 s' p.1 (subst (λ (N : List ℕ). IsRho g touch N s') e q') in
                  omega (arith, a, b, k))))
            ] in
            omega (arith, z, u, w, same)
      ])
      m i out

  -- which items a list has decides what is critical in it
  pub IsCritical-same : (M N : List ℕ) (m : ℕ) → ((x : ℕ) → In x M → In x N) → ((x : ℕ) → In x N → In x M) → IsCritical g touch M m → IsCritical g touch N m
  IsCritical-same M N m f h k r s p q =
      let less : (K L : List ℕ) → ((x : ℕ) → In x K → In x L) → (x : ℕ) → In x (without m K) → In x (without m L) =
      λ K L w x i. let u = In-filter_from (other_than m) x K i in In-filter (other_than m) x L (w x u.0) u.1 in
      k r s (IsRho-same g laws touch N M r h f p) (IsRho-same g laws touch (without m N) (without m M) s (less N M h) (less M N f) q)

  critical_without : (R M : List ℕ) (m : ℕ) → IsDistinct (R ++ M) → In m M → IsCritical g touch (R ++ M) m → IsCritical g touch M m
  critical_without [] M m d i k = k
  critical_without (c ∷ R) M m d i k = critical_without R M m d.1 i (critical_with (R ++ M) c m d (In-append_right m R M i) k)

  -- critical items of a larger list are critical in a smaller one
  pub critical_within : (M N : List ℕ) (m : ℕ) → IsDistinct M → IsDistinct N → ((x : ℕ) → In x M → In x N) → In m M → IsCritical g touch N m → IsCritical g touch M m
  critical_within M N m d e h i k =
      let R : List ℕ = filter (λ x. not (is_in M x)) N in
      let out : (x : ℕ) → In x R → In x M → ⊥ = λ x j y. clash (is_in_at M x y) (not-true (is_in M x) (In-filter_from (λ x. not (is_in M x)) x N j).1) in
      critical_without R M m (IsDistinct-append R M (IsDistinct-filter (λ x. not (is_in M x)) N e) d out) i
      (IsCritical-same N (R ++ M) m
      (λ x j. elim (cases_In x M) [
        | inl y ↦ In-append_right x R M y
        | inr n ↦ In-append_left x R M (In-filter (λ x. not (is_in M x)) x N j (let f : is_in M x ≡ false = elim (cases_Bool (is_in M x)) [ inl t ↦ absurd (n (is_in_from M x t)) | inr f ↦ f ] in rw f refl))
      ])
      (λ x j. elim (In-append_cases x R M j) [ inl y ↦ (In-filter_from (λ x. not (is_in M x)) x N y).0 | inr y ↦ h x y ])
      k)
