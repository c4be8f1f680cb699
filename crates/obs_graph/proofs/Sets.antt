-- Sets of vertices that are joined, and sets that no branch leads out of.
use Rattle.std.proofs.Common.{◌≡◌, ℕ, zero, suc, ◌+◌, ◌<◌, ◌≤◌, Bool, true, false, not, eqb, cond, ◌||◌, ◌&&◌, ◌⊎◌, inl, inr, ⊎_elim, List, [], ◌∷◌, refl, sym, ap, ◌∙◌, subst, arith}
use Rattle.std.specs.List.{Contains}
use Rattle.std.proofs.lemmas.Bool.{cases_eq, cases_Bool, eq-eqb, ne_eqb, eqb-true, and_left, or_cases, or_left, or_right, or_from, cond-true, cond-false}
use Rattle.std.proofs.lemmas.List.Elements.{All-contains}
use Rattle.std.specs.Cmp.Derive.{one_truth}
use Rattle.obs_graph.specs.declared.Ends.{Ends}
use Rattle.obs_graph.specs.Joined.{is_joined, first_joined, count_below, some_below, rank}
use Rattle.obs_graph.specs.inner.Joined.{rank_in, IsSeparate, kept_in}
use Rattle.obs_graph.proofs.Counts.{count_below-yes, count_below-no, count_below-agree, count_below-le, count_below-one_more}
use Rattle.obs_graph.proofs.Chains.{Contains-here, Contains-there, Contains-cases, same_from_Chain, Chain-from_same_first, first_joined-contains, same_first-more}
use Rattle.obs_graph.proofs.RankIn.{is_counted, counted, counted-from, low, low-facts, low-le, low-uncounted}

-- two firsts of a set are not counted, so a set with one uncounted vertex at most is joined
module _ (inside : ℕ → Bool) (n : ℕ) (es : List Ends) where
  with_one-more : (p : ℕ → Bool) (m : ℕ) → m < n → p m ≡ false → count_below (λ k. p k || eqb k m) n ≡ suc (count_below p n)
  with_one-more p m l none =
      count_below-one_more p (λ k. p k || eqb k m) m n l none (or_right (p m) (eqb m m) (eq-eqb m m refl))
      (λ k lk ne. sym_or k (ne_eqb k m ne))
    where
      sym_or : (k : ℕ) → eqb k m ≡ false → p k ≡ (p k || eqb k m)
      sym_or k off = by_case (p k) (eqb k m) off
        where
          by_case : (a b : Bool) → b ≡ false → a ≡ (a || b)
          by_case true b e = refl
          by_case false b e = sym e

  pub joined_by_rank_in : count_below inside n ≤ suc (rank_in inside n es) → (u v : ℕ) → u < n → v < n → inside u ≡ true → inside v ≡ true → first_joined es u ≡ first_joined es v
  joined_by_rank_in few u v lu lv in_u in_v =
      ⊎_elim
      (λ (same : low inside es u ≡ low inside es v).
      (low-facts inside es u in_u).1 ∙ (ap (first_joined es) same ∙ sym (low-facts inside es v in_v).1))
      (λ (ne : low inside es u ≡ low inside es v → ⊥).
      let p = is_counted inside es in
      let x = low inside es u in
      let y = low inside es v in
      let fu = low-facts inside es u in_u in
      let fv = low-facts inside es v in_v in
      let q : ℕ → Bool = λ k. p k || eqb k x in
      let one = with_one-more p x (omega (arith, fu.2)) (low-uncounted inside es u in_u) in
      let y_not : q y ≡ false = or_from (p y) (eqb y x) (low-uncounted inside es v in_v) (ne_eqb y x (λ same. ne (sym same))) in
      let two = with_one-more q y (omega (arith, fv.2)) y_not in
      let all : count_below (λ k. q k || eqb k y) n ≤ count_below inside n =
      count_below-le (λ k. q k || eqb k y) inside n (λ k lk e. ⊎_elim
      (λ (at_q : q k ≡ true). ⊎_elim
      (λ (at_p : p k ≡ true). (counted-from inside es k at_p).0)
      (λ (at_x : eqb k x ≡ true). ap inside (eqb-true k x at_x) ∙ fu.0)
      (or_cases (p k) (eqb k x) at_q))
      (λ (at_y : eqb k y ≡ true). ap inside (eqb-true k y at_y) ∙ fv.0)
      (or_cases (q k) (eqb k y) e)) in
      let r : rank_in inside n es ≡ count_below p n = refl in
      absurd (omega arith))
      (cases_eq (low inside es u) (low inside es v))

  -- all but the first vertex of a joined set are counted
  pub rank_in_of_joined : (m : ℕ) → m < n → inside m ≡ true → ((u : ℕ) → u < n → inside u ≡ true → first_joined es u ≡ first_joined es m) → suc (rank_in inside n es) ≡ count_below inside n
  rank_in_of_joined m lm in_m all =
      let p = is_counted inside es in
      let x = low inside es m in
      let f = low-facts inside es m in_m in
      let one = with_one-more p x (omega (arith, f.2)) (low-uncounted inside es m in_m) in
      let same : count_below (λ k. p k || eqb k x) n ≡ count_below inside n =
      count_below-agree (λ k. p k || eqb k x) inside n (λ k lk.
      one_truth (p k || eqb k x) (inside k)
      (λ e. ⊎_elim
      (λ (at_p : p k ≡ true). (counted-from inside es k at_p).0)
      (λ (at_x : eqb k x ≡ true). ap inside (eqb-true k x at_x) ∙ f.0)
      (or_cases (p k) (eqb k x) e))
      (λ in_k.
      let joined : first_joined es m ≡ first_joined es k = sym (all k lk in_k) in
      let le : x ≤ k = low-le inside es m k in_m in_k joined in
      ⊎_elim
      (λ (at : k ≡ x). or_right (p k) (eqb k x) (eq-eqb k x at))
      (λ (ne : k ≡ x → ⊥). or_left (p k) (eqb k x) (counted inside es k x in_k f.0 (lt_from_ne x k le (λ s. ne (sym s))) (sym joined ∙ f.1)))
      (cases_eq k x))) in
      let r : rank_in inside n es ≡ count_below p n = refl in
      omega arith
    where
      lt_from_ne : (a b : ℕ) → a ≤ b → (a ≡ b → ⊥) → a < b
      lt_from_ne a b l ne = grind arith

bit : Bool → ℕ
bit true = 1
bit false = 0

bit_same : (a b : Bool) → bit a ≡ bit b → a ≡ b
unfolding bit
bit_same true true e = refl
bit_same false false e = refl
bit_same true false e = absurd (omega arith)
bit_same false true e = absurd (omega arith)

-- a set that no branch leads out of
module _ (inside : ℕ → Bool) (es : List Ends) (separate : IsSeparate inside es) where
  stays : (u v : ℕ) → first_joined es u ≡ first_joined es v → inside u ≡ inside v
  stays u v same =
      bit_same (inside u) (inside v)
      (same_from_Chain (λ x. bit (inside x)) es (λ e has. ap bit (All-contains (λ e. inside e.a ≡ inside e.b) es e separate has)) (Chain-from_same_first es u v same))

  -- the ranks of the set and of the others add up
  counts_split : (u : ℕ) → ((inside u ≡ true) × (is_counted (λ x. true) es u ≡ is_counted inside es u) × (is_counted (λ x. not (inside x)) es u ≡ false)) ⊎ ((inside u ≡ false) × (is_counted (λ x. true) es u ≡ is_counted (λ x. not (inside x)) es u) × (is_counted inside es u ≡ false))
  counts_split u =
      ⊎_elim
      (λ (in_u : inside u ≡ true). inl (
        in_u,
        one_truth (is_counted (λ x. true) es u) (is_counted inside es u)
            (λ e. let c = counted-from (λ x. true) es u e in counted inside es u c.1 in_u (sym (stays u c.1 c.4) ∙ in_u) c.2 c.4)
            (λ e. let c = counted-from inside es u e in counted (λ x. true) es u c.1 refl refl c.2 c.4),
        and_left (not (inside u)) (some_below (λ v. not (inside v) && is_joined es u v) u) (ap not in_u),
      ))
      (λ (out_u : inside u ≡ false). inr (
        out_u,
        one_truth (is_counted (λ x. true) es u) (is_counted (λ x. not (inside x)) es u)
            (λ e. let c = counted-from (λ x. true) es u e in counted (λ x. not (inside x)) es u c.1 (ap not out_u) (ap not (sym (stays u c.1 c.4) ∙ out_u)) c.2 c.4)
            (λ e. let c = counted-from (λ x. not (inside x)) es u e in counted (λ x. true) es u c.1 refl refl c.2 c.4),
        and_left (inside u) (some_below (λ v. inside v && is_joined es u v) u) out_u,
      ))
      (cases_Bool (inside u))

  pub rank_splits : (n : ℕ) → rank n es ≡ rank_in inside n es + rank_in (λ x. not (inside x)) n es
  rank_splits n = adds n
    where
      adds : (n : ℕ) → count_below (is_counted (λ x. true) es) n ≡ count_below (is_counted inside es) n + count_below (is_counted (λ x. not (inside x)) es) n
      adds zero = refl
      adds (suc n) =
          let rest = adds n in
          ⊎_elim
          (λ here. step (is_counted (λ x. true) es) (is_counted inside es) (is_counted (λ x. not (inside x)) es) n here.1 here.2 rest)
          (λ there. step_right (is_counted (λ x. true) es) (is_counted inside es) (is_counted (λ x. not (inside x)) es) n there.1 there.2 rest)
          (counts_split n)
        where
          step : (p q r : ℕ → Bool) (n : ℕ) → p n ≡ q n → r n ≡ false → count_below p n ≡ count_below q n + count_below r n → count_below p (suc n) ≡ count_below q (suc n) + count_below r (suc n)
          step p q r n same off rest =
              ⊎_elim
              (λ (yes_it : q n ≡ true). omega (arith, count_below-yes p n (same ∙ yes_it), count_below-yes q n yes_it, count_below-no r n off))
              (λ (no_it : q n ≡ false). omega (arith, count_below-no p n (same ∙ no_it), count_below-no q n no_it, count_below-no r n off))
              (cases_Bool (q n))

          step_right : (p q r : ℕ → Bool) (n : ℕ) → p n ≡ r n → q n ≡ false → count_below p n ≡ count_below q n + count_below r n → count_below p (suc n) ≡ count_below q (suc n) + count_below r (suc n)
          step_right p q r n same off rest =
              ⊎_elim
              (λ (yes_it : r n ≡ true). omega (arith, count_below-yes p n (same ∙ yes_it), count_below-yes r n yes_it, count_below-no q n off))
              (λ (no_it : r n ≡ false). omega (arith, count_below-no p n (same ∙ no_it), count_below-no r n no_it, count_below-no q n off))
              (cases_Bool (r n))

  -- inside the set the branches that lie there join what all join
  pub joined_by_kept : (u v : ℕ) → inside u ≡ true → first_joined es u ≡ first_joined es v → first_joined (kept_in inside es) u ≡ first_joined (kept_in inside es) v
  joined_by_kept u v in_u same =
      let k = kept_in inside es in
      let f : ℕ → ℕ = λ x. cond (inside x) (first_joined k x) 0 in
      let each = λ (e : Ends) (has : Contains es e).
      let both = All-contains (λ e. inside e.a ≡ inside e.b) es e separate has in
      ⊎_elim
      (λ (in_a : inside e.a ≡ true).
      cond-true (inside e.a) (first_joined k e.a) 0 in_a ∙ (first_joined-contains k e (contains_kept es e has in_a) ∙ sym (cond-true (inside e.b) (first_joined k e.b) 0 (sym both ∙ in_a))))
      (λ (out_a : inside e.a ≡ false).
      cond-false (inside e.a) (first_joined k e.a) 0 out_a ∙ sym (cond-false (inside e.b) (first_joined k e.b) 0 (sym both ∙ out_a)))
      (cases_Bool (inside e.a)) in
      let along : f u ≡ f v = same_from_Chain f es each (Chain-from_same_first es u v same) in
      sym (cond-true (inside u) (first_joined k u) 0 in_u) ∙ (along ∙ cond-true (inside v) (first_joined k v) 0 (sym (stays u v same) ∙ in_u))
    where
      later : (b : Bool) (x e : Ends) (ks : List Ends) → Contains ks e → Contains (cond b (x ∷ ks) ks) e
      later true x e ks has = Contains-there x e ks has
      later false x e ks has = has

      contains_kept : (es : List Ends) (e : Ends) → Contains es e → inside e.a ≡ true → Contains (kept_in inside es) e
      contains_kept [] e has in_a = absurd (omega (arith, has.1))
      contains_kept (x ∷ es) e has in_a =
          ⊎_elim
          (λ (same : x ≡ e).
          subst (λ t. Contains t e) (sym (cond-true (inside x.a) (x ∷ kept_in inside es) (kept_in inside es) (ap (λ (y : Ends). inside y.a) same ∙ in_a)))
          (subst (λ t. Contains (x ∷ kept_in inside es) t) same (Contains-here x (kept_in inside es))))
          (λ there. later (inside x.a) x e (kept_in inside es) (contains_kept es e there in_a))
          (Contains-cases x e es has)

pub kept_among : (inside : ℕ → Bool) (es : List Ends) (e : Ends) → Contains (kept_in inside es) e → Contains es e
kept_among inside [] e has = has
kept_among inside (x ∷ es) e has = by_test (inside x.a) (kept_in inside es) (λ there. kept_among inside es e there) has
  where
    by_test : (b : Bool) (ks : List Ends) → (Contains ks e → Contains es e) → Contains (cond b (x ∷ ks) ks) e → Contains (x ∷ es) e
    by_test true ks rest has =
        ⊎_elim
        (λ (same : x ≡ e). subst (λ t. Contains (x ∷ es) t) same (Contains-here x es))
        (λ there. Contains-there x e es (rest there))
        (Contains-cases x e ks has)
    by_test false ks rest has = Contains-there x e es (rest has)

-- so their rank in the set is one
pub rank_in_of_kept : (inside : ℕ → Bool) (n : ℕ) (es : List Ends) → IsSeparate inside es → rank_in inside n (kept_in inside es) ≡ rank_in inside n es
rank_in_of_kept inside n es separate =
    count_below-agree (is_counted inside (kept_in inside es)) (is_counted inside es) n (λ u l.
    one_truth (is_counted inside (kept_in inside es) u) (is_counted inside es u)
    (λ e. let c = counted-from inside (kept_in inside es) u e in
    counted inside es u c.1 c.0 c.3 c.2 (same_first-more (kept_in inside es) es (λ d has. first_joined-contains es d (kept_among inside es d has)) u c.1 c.4))
    (λ e. let c = counted-from inside es u e in counted inside (kept_in inside es) u c.1 c.0 c.3 c.2 (joined_by_kept inside es separate u c.1 c.0 c.4)))
