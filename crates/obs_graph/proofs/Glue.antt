-- Two vertices that become one.
use Rattle.std.proofs.Common.{◌≡◌, ℕ, suc, ◌<◌, ◌≤◌, false, cond, eqb, ◌⊎◌, inl, inr, ⊎_elim, List, [], ◌∷◌, refl, sym, ap, ◌∙◌, subst, arith}
use Rattle.std.specs.List.{Contains}
use Rattle.std.proofs.lemmas.Bool.{cases_eq, ne_eqb, eq-eqb, cond-true, cond-false}
use Rattle.obs_graph.specs.declared.Ends.{Ends}
use Rattle.obs_graph.specs.Joined.{first_joined, rank}
use Rattle.obs_graph.specs.inner.Joined.{glue, glued}
use Rattle.obs_graph.proofs.First.{first_joined-ends}
use Rattle.obs_graph.proofs.Chains.{Contains-here, Contains-there, Contains-cases, first_joined-contains, same_from_Chain, Chain-from_same_first}
use Rattle.obs_graph.proofs.Ranks.{rank-le, rank-add_joined, rank-add_new}
use Rattle.obs_graph.proofs.Forests.{SameFirst}

-- a branch with its end t made s
abbrev pub glued_one : ℕ → ℕ → Ends → Ends
glued_one s t e = record { a = glue s t e.a; b = glue s t e.b }

pub glue_cases : (s t u : ℕ) → ((u ≡ t) × (glue s t u ≡ s)) ⊎ ((u ≡ t → ⊥) × (glue s t u ≡ u))
glue_cases s t u =
    ⊎_elim
    (λ (same : u ≡ t). inl (same, cond-true (eqb u t) s u (eq-eqb u t same)))
    (λ (ne : u ≡ t → ⊥). inr (ne, cond-false (eqb u t) s u (ne_eqb u t ne)))
    (cases_eq u t)

-- a function that is the same at s and t does not see the change
pub glue_same : (f : ℕ → ℕ) (s t u : ℕ) → f s ≡ f t → f (glue s t u) ≡ f u
glue_same f s t u same =
    ⊎_elim
    (λ at. ap f at.1 ∙ (same ∙ ap f (sym at.0)))
    (λ other. ap f other.1)
    (glue_cases s t u)

pub Contains-glued : (s t : ℕ) (es : List Ends) (e : Ends) → Contains es e → Contains (glued s t es) (glued_one s t e)
Contains-glued s t [] e (k, l, h) = absurd (omega arith)
Contains-glued s t (x ∷ es) e has =
    ⊎_elim
    (λ (same : x ≡ e). subst (λ y. Contains (glued s t (x ∷ es)) (glued_one s t y)) same (Contains-here (glued_one s t x) (glued s t es)))
    (λ there. Contains-there (glued_one s t x) (glued_one s t e) (glued s t es) (Contains-glued s t es e there))
    (Contains-cases x e es has)

pub glued-contains : (s t : ℕ) (es : List Ends) (d : Ends) → Contains (glued s t es) d → (e : Ends) × Contains es e × (glued_one s t e ≡ d)
glued-contains s t [] d (k, l, h) = absurd (omega arith)
glued-contains s t (x ∷ es) d has =
    ⊎_elim
    (λ (same : glued_one s t x ≡ d). (x, Contains-here x es, same))
    (λ there. let rest = glued-contains s t es d there in (rest.0, Contains-there x rest.0 es rest.1, rest.2))
    (Contains-cases (glued_one s t x) d (glued s t es) has)

module _ (s t : ℕ) (es : List Ends) where
  link : Ends
  link = record { a = s; b = t }

  before_in_after : (e : Ends) → Contains (link ∷ es) e → SameFirst (link ∷ glued s t es) e
  unfolding link
  before_in_after e has =
      let f = first_joined (link ∷ glued s t es) in
      let st : f s ≡ f t = first_joined-ends link (glued s t es) in
      ⊎_elim
      (λ (same : link ≡ e). subst (λ x. SameFirst (link ∷ glued s t es) x) same st)
      (λ there.
      let g = glued_one s t e in
      let both : f (glue s t e.a) ≡ f (glue s t e.b) = first_joined-contains (link ∷ glued s t es) g (Contains-there link g (glued s t es) (Contains-glued s t es e there)) in
      sym (glue_same f s t e.a st) ∙ (both ∙ glue_same f s t e.b st))
      (Contains-cases link e es has)

  after_in_before : (d : Ends) → Contains (link ∷ glued s t es) d → SameFirst (link ∷ es) d
  unfolding link
  after_in_before d has =
      let f = first_joined (link ∷ es) in
      let st : f s ≡ f t = first_joined-ends link es in
      ⊎_elim
      (λ (same : link ≡ d). subst (λ x. SameFirst (link ∷ es) x) same st)
      (λ there.
      let old = glued-contains s t es d there in
      let both : f old.0.a ≡ f old.0.b = first_joined-contains (link ∷ es) old.0 (Contains-there link old.0 es old.1) in
      subst (λ x. SameFirst (link ∷ es) x) old.2 (glue_same f s t old.0.a st ∙ (both ∙ sym (glue_same f s t old.0.b st))))
      (Contains-cases link d (glued s t es) has)

  rank-link : (n : ℕ) → rank n (link ∷ es) ≡ rank n (link ∷ glued s t es)
  rank-link n =
      let le : rank n (link ∷ es) ≤ rank n (link ∷ glued s t es) = rank-le n (link ∷ es) (link ∷ glued s t es) before_in_after in
      let ge : rank n (link ∷ glued s t es) ≤ rank n (link ∷ es) = rank-le n (link ∷ glued s t es) (link ∷ es) after_in_before in
      omega arith

  -- no branch has the end t any more, so nothing joins it
  not_t : (u : ℕ) → (s ≡ t → ⊥) → eqb (glue s t u) t ≡ false
  not_t u ne =
      ne_eqb (glue s t u) t (λ is. ⊎_elim (λ at. ne (sym at.1 ∙ is)) (λ other. other.0 (sym other.1 ∙ is)) (glue_cases s t u))

  apart_after : (s ≡ t → ⊥) → SameFirst (glued s t es) link → ⊥
  unfolding link
  apart_after ne joined =
      let f : ℕ → ℕ = λ u. cond (eqb u t) 1 0 in
      let each = λ (d : Ends) (has : Contains (glued s t es) d).
      let old = glued-contains s t es d has in
      let at_a : f (glue s t old.0.a) ≡ 0 = cond-false (eqb (glue s t old.0.a) t) 1 0 (not_t old.0.a ne) in
      let at_b : f (glue s t old.0.b) ≡ 0 = cond-false (eqb (glue s t old.0.b) t) 1 0 (not_t old.0.b ne) in
      let both : f d.a ≡ f d.b = subst (λ (x : Ends). f x.a ≡ f x.b) old.2 (at_a ∙ sym at_b) in
      both in
      let same : f s ≡ f t = same_from_Chain f (glued s t es) each (Chain-from_same_first (glued s t es) s t joined) in
      let at_s : f s ≡ 0 = cond-false (eqb s t) 1 0 (ne_eqb s t ne) in
      let at_t : f t ≡ 1 = cond-true (eqb t t) 1 0 (eq-eqb t t refl) in
      absurd (omega arith)

  rank-link_glued : (n : ℕ) → s < n → t < n → (s ≡ t → ⊥) → rank n (link ∷ es) ≡ suc (rank n (glued s t es))
  unfolding link
  rank-link_glued n ls lt ne = rank-link n ∙ rank-add_new n link (glued s t es) ls lt (apart_after ne)

  -- where t becomes s, the rank falls by one where the branches join the two
  pub rank-glued_joined : (n : ℕ) → s < n → t < n → (s ≡ t → ⊥) → first_joined es s ≡ first_joined es t → rank n es ≡ suc (rank n (glued s t es))
  unfolding link
  rank-glued_joined n ls lt ne joined = sym (rank-add_joined n link es joined) ∙ rank-link_glued n ls lt ne

  -- and stays where they do not
  pub rank-glued_apart : (n : ℕ) → s < n → t < n → (first_joined es s ≡ first_joined es t → ⊥) → rank n es ≡ rank n (glued s t es)
  unfolding link
  rank-glued_apart n ls lt apart =
      let add : rank n (link ∷ es) ≡ suc (rank n es) = rank-add_new n link es ls lt apart in
      let both : rank n (link ∷ es) ≡ suc (rank n (glued s t es)) = rank-link_glued n ls lt (λ same. apart (ap (first_joined es) same)) in
      omega arith
