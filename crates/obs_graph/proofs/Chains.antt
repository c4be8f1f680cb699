-- A chain leads from u to v exactly where the two have one first vertex.
use Rattle.std.proofs.Common.{◌≡◌, ℕ, zero, suc, min, max, true, ◌⊎◌, inl, inr, ⊎_elim, List, [], ◌∷◌, refl, sym, ap, ◌∙◌, subst, arith}
use Rattle.std.specs.List.{Contains}
use Rattle.std.proofs.lemmas.Bool.{eq-eqb, eqb-true}
use Rattle.obs_graph.specs.declared.Ends.{Ends}
use Rattle.obs_graph.specs.Joined.{Leads, Chain, merged, first_joined, is_joined}
use Rattle.obs_graph.specs.Joined.Chain.{none, step}
use Rattle.obs_graph.proofs.First.{merged_cases, first_joined-ends}

pub Contains-here : (e : Ends) (es : List Ends) → Contains (e ∷ es) e
Contains-here e es = (0, omega arith, refl)

pub Contains-there : (x e : Ends) (es : List Ends) → Contains es e → Contains (x ∷ es) e
Contains-there x e es (k, l, h) = (suc k, omega arith, h)

pub Contains-cases : (x e : Ends) (es : List Ends) → Contains (x ∷ es) e → (x ≡ e) ⊎ Contains es e
Contains-cases x e es (zero, l, h) = inl h
Contains-cases x e es (suc k, l, h) = inr (k, omega arith, h)

-- the ends of each branch of the list have one first vertex
pub first_joined-contains : (es : List Ends) (e : Ends) → Contains es e → first_joined es e.a ≡ first_joined es e.b
first_joined-contains [] e (k, l, h) = absurd (omega arith)
first_joined-contains (x ∷ es) e has =
    ⊎_elim
    (λ (same : x ≡ e). subst (λ (y : Ends). first_joined (x ∷ es) y.a ≡ first_joined (x ∷ es) y.b) same (first_joined-ends x es))
    (λ there. ap (merged (first_joined es x.a) (first_joined es x.b)) (first_joined-contains es e there))
    (Contains-cases x e es has)

pub leads_same : (f : ℕ → ℕ) (e : Ends) (u v : ℕ) → f e.a ≡ f e.b → Leads e u v → f u ≡ f v
leads_same f e u v same (inl (p, q)) = cc
leads_same f e u v same (inr (p, q)) = cc

-- a function that is the same at the ends of each branch is the same along a chain
pub same_from_Chain : (f : ℕ → ℕ) (es : List Ends) → ((e : Ends) → Contains es e → f e.a ≡ f e.b) → {u v : ℕ} → Chain es u v → f u ≡ f v
same_from_Chain f es each none = refl
same_from_Chain f es each (step {e = e} {u = u} {v = v} has leads rest) = leads_same f e u v (each e has) leads ∙ same_from_Chain f es each rest

pub Chain-append : (es : List Ends) {u v w : ℕ} → Chain es u v → Chain es v w → Chain es u w
Chain-append es none c = c
Chain-append es (step has leads rest) c = step has leads (Chain-append es rest c)

pub Leads-back : (e : Ends) (u v : ℕ) → Leads e u v → Leads e v u
Leads-back e u v (inl (p, q)) = inr (q, p)
Leads-back e u v (inr (p, q)) = inl (q, p)

pub Chain-back : (es : List Ends) {u v : ℕ} → Chain es u v → Chain es v u
Chain-back es none = none
Chain-back es (step {e = e} {u = u} {v = v} has leads rest) = Chain-append es (Chain-back es rest) (step has (Leads-back e u v leads) none)

pub Chain-more : (es fs : List Ends) → ((e : Ends) → Contains es e → Contains fs e) → {u v : ℕ} → Chain es u v → Chain fs u v
Chain-more es fs more none = none
Chain-more es fs more (step {e = e} has leads rest) = step (more e has) leads (Chain-more es fs more rest)

-- from the greater of two vertices to the lower, through a branch between them
across : (fs : List Ends) (x y : ℕ) → Chain fs x y → Chain fs (max x y) (min x y)
across fs x y c =
    ⊎_elim
    (λ (o : (max x y ≡ x) × (min x y ≡ y)). subst (λ t. Chain fs t (min x y)) (sym o.0) (subst (λ t. Chain fs x t) (sym o.1) c))
    (λ (o : (max x y ≡ y) × (min x y ≡ x)). subst (λ t. Chain fs t (min x y)) (sym o.0) (subst (λ t. Chain fs y t) (sym o.1) (Chain-back fs c)))
    (order x y)
  where
    order : (x y : ℕ) → ((max x y ≡ x) × (min x y ≡ y)) ⊎ ((max x y ≡ y) × (min x y ≡ x))
    order x y = grind arith

-- a chain leads from each vertex to its first vertex
pub Chain-first : (es : List Ends) (u : ℕ) → Chain es u (first_joined es u)
Chain-first [] u = none
Chain-first (e ∷ es) u =
    let more = λ (x : Ends) (has : Contains es x). Contains-there e x es has in
    let x = first_joined es e.a in
    let y = first_joined es e.b in
    let z = first_joined es u in
    let from_u : Chain (e ∷ es) u z = Chain-more es (e ∷ es) more (Chain-first es u) in
    let to_a : Chain (e ∷ es) x e.a = Chain-back (e ∷ es) (Chain-more es (e ∷ es) more (Chain-first es e.a)) in
    let from_b : Chain (e ∷ es) e.b y = Chain-more es (e ∷ es) more (Chain-first es e.b) in
    let x_to_y : Chain (e ∷ es) x y = Chain-append (e ∷ es) to_a (step (Contains-here e es) (inl (refl, refl)) from_b) in
    ⊎_elim
    (λ (top : (z ≡ max x y) × (merged x y z ≡ min x y)).
    subst (λ t. Chain (e ∷ es) u t) (sym top.1) (Chain-append (e ∷ es) (subst (λ t. Chain (e ∷ es) u t) top.0 from_u) (across (e ∷ es) x y x_to_y)))
    (λ (other : (z ≡ max x y → ⊥) × (merged x y z ≡ z)). subst (λ t. Chain (e ∷ es) u t) (sym other.1) from_u)
    (merged_cases x y z)

pub same_first-from_Chain : (es : List Ends) {u v : ℕ} → Chain es u v → first_joined es u ≡ first_joined es v
same_first-from_Chain es c = same_from_Chain (first_joined es) es (first_joined-contains es) c

pub Chain-from_same_first : (es : List Ends) (u v : ℕ) → first_joined es u ≡ first_joined es v → Chain es u v
Chain-from_same_first es u v same =
    Chain-append es (subst (λ t. Chain es u t) same (Chain-first es u)) (Chain-back es (Chain-first es v))

-- the test tells where a chain leads from u to v
pub is_joined-true : (es : List Ends) (u v : ℕ) → is_joined es u v ≡ true → Chain es u v
is_joined-true es u v e = Chain-from_same_first es u v (eqb-true (first_joined es u) (first_joined es v) e)

pub is_joined-from_Chain : (es : List Ends) (u v : ℕ) → Chain es u v → is_joined es u v ≡ true
is_joined-from_Chain es u v c = eq-eqb (first_joined es u) (first_joined es v) (same_first-from_Chain es c)

-- what the branches of es join, fs joins too, where fs joins the ends of each branch of es
pub same_first-more : (es fs : List Ends) → ((e : Ends) → Contains es e → first_joined fs e.a ≡ first_joined fs e.b) → (u v : ℕ) → first_joined es u ≡ first_joined es v → first_joined fs u ≡ first_joined fs v
same_first-more es fs each u v same = same_from_Chain (first_joined fs) es each (Chain-from_same_first es u v same)
