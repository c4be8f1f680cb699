-- The rank does not depend on the names of the vertices.
use Rattle.std.proofs.Common.{◌≡◌, ℕ, suc, ◌<◌, ◌≤◌, length, eqb, inl, inr, ⊎_elim, List, [], ◌∷◌, refl, sym, ap, ◌∙◌, subst, arith}
use Rattle.std.specs.List.{Contains}
use Rattle.std.proofs.lemmas.Bool.{cases_eq, eq-eqb, ne_eqb}
use Rattle.std.proofs.lemmas.Bool.Decides.{nat_tests}
use Rattle.obs_graph.specs.declared.Ends.{Ends}
use Rattle.obs_graph.specs.Joined.{Leads, Chain, first_joined, is_joined, rank, IsForest}
use Rattle.obs_graph.specs.inner.Joined.{InRange, renamed, renamed_one, glue, glued, Merges, IsMerging}
use Rattle.std.proofs.lemmas.List.Elements.{All-contains}
use Rattle.obs_graph.proofs.First.{first_joined-ends}
use Rattle.obs_graph.proofs.Glue.{glue_cases, glue_same, rank-glued_joined, rank-glued_apart}
use Rattle.obs_graph.specs.Joined.Chain.{none, step}
use Rattle.obs_graph.proofs.Chains.{Contains-here, Contains-there, Contains-cases, first_joined-contains, same_from_Chain, Chain-from_same_first}
use Rattle.obs_graph.proofs.Ranks.{rank-add_joined, rank-add_new}
use Rattle.obs_graph.proofs.Forests.{rank-nil, rank-le-length, in_range_tail, same_first-among}
use Rattle.obs_graph.proofs.Exchange.{rank-from_IsForest}

pub Contains-renamed : (h : ℕ → ℕ) (es : List Ends) (e : Ends) → Contains es e → Contains (renamed h es) (renamed_one h e)
Contains-renamed h [] e (k, l, x) = absurd (omega arith)
Contains-renamed h (y ∷ es) e has =
    ⊎_elim
    (λ (same : y ≡ e). subst (λ t. Contains (renamed h (y ∷ es)) (renamed_one h t)) same (Contains-here (renamed_one h y) (renamed h es)))
    (λ there. Contains-there (renamed_one h y) (renamed_one h e) (renamed h es) (Contains-renamed h es e there))
    (Contains-cases y e es has)

pub renamed-contains : (h : ℕ → ℕ) (es : List Ends) (d : Ends) → Contains (renamed h es) d → (e : Ends) × Contains es e × (renamed_one h e ≡ d)
renamed-contains h [] d (k, l, x) = absurd (omega arith)
renamed-contains h (y ∷ es) d has =
    ⊎_elim
    (λ (same : renamed_one h y ≡ d). (y, Contains-here y es, same))
    (λ there. let r = renamed-contains h es d there in (r.0, Contains-there y r.0 es r.1, r.2))
    (Contains-cases (renamed_one h y) d (renamed h es) has)

pub same_tests : (x y p q : ℕ) → (x ≡ y → p ≡ q) → (p ≡ q → x ≡ y) → eqb x y ≡ eqb p q
same_tests x y p q to from =
    ⊎_elim
    (λ (same : x ≡ y). eq-eqb x y same ∙ sym (eq-eqb p q (to same)))
    (λ (ne : x ≡ y → ⊥). ne_eqb x y ne ∙ sym (ne_eqb p q (λ same. ne (from same))))
    (cases_eq x y)

-- the two names agree on which of the vertices below n are one
abbrev pub SameNames : ℕ → (ℕ → ℕ) → (ℕ → ℕ) → Type 0
SameNames n h k = (u v : ℕ) → u < n → v < n → h u ≡ h v → k u ≡ k v

-- a function of the old names that is the same at the ends of each branch, and at two vertices of one new name
module _ (n : ℕ) (h f : ℕ → ℕ) (es : List Ends) (names : (u v : ℕ) → u < n → v < n → h u ≡ h v → f u ≡ f v) (range : (e : Ends) → Contains es e → (e.a < n) × (e.b < n)) (each : (e : Ends) → Contains es e → f e.a ≡ f e.b) where
  -- a branch that leads from h u
  one_branch : (e : Ends) → Contains es e → (u x z : ℕ) → u < n → x ≡ h u → Leads (renamed_one h e) x z → (w : ℕ) × (w < n) × (z ≡ h w) × (f u ≡ f w)
  one_branch e has u x z lu is (inl (p, q)) =
      (e.b, (range e has).1, sym q, names u e.a lu (range e has).0 (sym is ∙ sym p) ∙ each e has)
  one_branch e has u x z lu is (inr (p, q)) =
      (e.a, (range e has).0, sym q, names u e.b lu (range e has).1 (sym is ∙ sym p) ∙ sym (each e has))

  along : {x y : ℕ} → Chain (renamed h es) x y → (u v : ℕ) → u < n → v < n → x ≡ h u → y ≡ h v → f u ≡ f v
  along none u v lu lv is_x is_y = names u v lu lv (sym is_x ∙ is_y)
  along (step {e = d} {u = x} {v = z} has leads rest) u v lu lv is_x is_y =
      let old = renamed-contains h es d has in
      let next = one_branch old.0 old.1 u x z lu is_x (subst (λ t. Leads t x z) (sym old.2) leads) in
      next.3 ∙ along rest next.0 v next.1 lv next.2 is_y

  pub same_along_names : (u v : ℕ) → u < n → v < n → first_joined (renamed h es) (h u) ≡ first_joined (renamed h es) (h v) → f u ≡ f v
  same_along_names u v lu lv same = along (Chain-from_same_first (renamed h es) (h u) (h v) same) u v lu lv refl refl

-- by new names the ends of each branch are joined
pub ends_by_names : (k : ℕ → ℕ) (es : List Ends) (e : Ends) → Contains es e → first_joined (renamed k es) (k e.a) ≡ first_joined (renamed k es) (k e.b)
ends_by_names k es e has = first_joined-contains (renamed k es) (renamed_one k e) (Contains-renamed k es e has)

pub same_by_names : (n : ℕ) (h k : ℕ → ℕ) (es : List Ends) → SameNames n h k → ((e : Ends) → Contains es e → (e.a < n) × (e.b < n)) → (u v : ℕ) → u < n → v < n → first_joined (renamed h es) (h u) ≡ first_joined (renamed h es) (h v) → first_joined (renamed k es) (k u) ≡ first_joined (renamed k es) (k v)
same_by_names n h k es names range =
    same_along_names n h (λ u. first_joined (renamed k es) (k u)) es (λ u v lu lv same. ap (first_joined (renamed k es)) (names u v lu lv same)) range (ends_by_names k es)

-- two names under which the same vertices are one give one rank
pub rank-renamed : (n a b : ℕ) (h k : ℕ → ℕ) (es : List Ends) → SameNames n h k → SameNames n k h → ((e : Ends) → Contains es e → (e.a < n) × (e.b < n)) → ((u : ℕ) → u < n → h u < a) → ((u : ℕ) → u < n → k u < b) → rank a (renamed h es) ≡ rank b (renamed k es)
rank-renamed n a b h k [] hk kh range ha kb = rank-nil a ∙ sym (rank-nil b)
rank-renamed n a b h k (e ∷ es) hk kh range ha kb =
    let here = range e (Contains-here e es) in
    let rest = λ (x : Ends) (has : Contains es x). range x (Contains-there e x es has) in
    let i : rank a (renamed h es) ≡ rank b (renamed k es) = rank-renamed n a b h k es hk kh rest ha kb in
    ⊎_elim
    (λ (joined : first_joined (renamed h es) (h e.a) ≡ first_joined (renamed h es) (h e.b)).
    let other = same_by_names n h k es hk rest e.a e.b here.0 here.1 joined in
    rank-add_joined a (renamed_one h e) (renamed h es) joined ∙ (i ∙ sym (rank-add_joined b (renamed_one k e) (renamed k es) other)))
    (λ (apart : first_joined (renamed h es) (h e.a) ≡ first_joined (renamed h es) (h e.b) → ⊥).
    let other = λ (joined : first_joined (renamed k es) (k e.a) ≡ first_joined (renamed k es) (k e.b)). apart (same_by_names n k h es kh rest e.a e.b here.0 here.1 joined) in
    rank-add_new a (renamed_one h e) (renamed h es) (ha e.a here.0) (ha e.b here.1) apart ∙ (ap suc i ∙ sym (rank-add_new b (renamed_one k e) (renamed k es) (kb e.a here.0) (kb e.b here.1) other)))
    (cases_eq (first_joined (renamed h es) (h e.a)) (first_joined (renamed h es) (h e.b)))

glue-below : (n s t u : ℕ) → s < n → u < n → glue s t u < n
glue-below n s t u ls lu =
    ⊎_elim (λ at. omega (arith, at.1)) (λ other. omega (arith, other.1)) (glue_cases s t u)

pub range_at : (n : ℕ) (es : List Ends) → InRange n es → (e : Ends) → Contains es e → (e.a < n) × (e.b < n)
range_at n es range e has = All-contains (λ e. (e.a < n) × (e.b < n)) es e range has

pub rank-merged : (n m s t : ℕ) (h : ℕ → ℕ) (es : List Ends) → Merges n s t h → ((u : ℕ) → u < n → h u < m) → InRange n es → s < n → rank m (renamed h es) ≡ rank n (glued s t es)
rank-merged n m s t h es merges low range ls =
    rank-renamed n m n h (glue s t) es (λ u v lu lv same. (merges u v lu lv).0 same) (λ u v lu lv same. (merges u v lu lv).1 same) (range_at n es range) low (λ u lu. glue-below n s t u ls lu)

renamed-same : (es : List Ends) → renamed (λ u. u) es ≡ es
renamed-same [] = refl
renamed-same (e ∷ es) = ap (λ t. e ∷ t) (renamed-same es)

pub rank-injective : (n m : ℕ) (h : ℕ → ℕ) (es : List Ends) → ((u v : ℕ) → u < n → v < n → h u ≡ h v → u ≡ v) → ((u : ℕ) → u < n → h u < m) → InRange n es → rank m (renamed h es) ≡ rank n es
rank-injective n m h es apart low range =
    rank-renamed n m n h (λ u. u) es apart (λ u v lu lv same. ap h same) (range_at n es range) low (λ u lu. lu) ∙ ap (rank n) (renamed-same es)

-- the two that are glued have one name
pub glue_st : (s t : ℕ) → glue s t s ≡ glue s t t
glue_st s t = grind (arith, nat_tests)

-- where s and t become one, the branches join what they joined with one branch more, between s and t
module _ (n s t : ℕ) (h : ℕ → ℕ) (es : List Ends) (merges : Merges n s t h) (ls : s < n) (lt : t < n) (range : InRange n es) where
  abbrev pub link : Ends
  link = record { a = s; b = t }

  -- vertices of one new name are joined by the new branch
  pub named_same : (u v : ℕ) → u < n → v < n → h u ≡ h v → first_joined (link ∷ es) u ≡ first_joined (link ∷ es) v
  named_same u v lu lv same =
      let f = first_joined (link ∷ es) in
      let st : f s ≡ f t = first_joined-ends link es in
      sym (glue_same f s t u st) ∙ (ap f ((merges u v lu lv).0 same) ∙ glue_same f s t v st)

  pub joined_before : (u v : ℕ) → u < n → v < n → first_joined (renamed h es) (h u) ≡ first_joined (renamed h es) (h v) → first_joined (link ∷ es) u ≡ first_joined (link ∷ es) v
  joined_before u v lu lv same =
      same_along_names n h (first_joined (link ∷ es)) es named_same (range_at n es range) (λ e has. first_joined-contains (link ∷ es) e (Contains-there link e es has)) u v lu lv same

  pub joined_after : (u v : ℕ) → first_joined (link ∷ es) u ≡ first_joined (link ∷ es) v → first_joined (renamed h es) (h u) ≡ first_joined (renamed h es) (h v)
  joined_after u v same =
      let f : ℕ → ℕ = λ x. first_joined (renamed h es) (h x) in
      let glued_same : glue s t s ≡ glue s t t = glue_st s t in
      let named : h s ≡ h t = (merges s t ls lt).1 glued_same in
      same_from_Chain f (link ∷ es) (λ e has. ⊎_elim
      (λ (at : link ≡ e). subst (λ (x : Ends). f x.a ≡ f x.b) at (ap (first_joined (renamed h es)) named))
      (λ there. ends_by_names h es e there)
      (Contains-cases link e es has)) (Chain-from_same_first (link ∷ es) u v same)

-- the rank falls by one at most, and never rises
pub rank-merging : (n m s t : ℕ) (h : ℕ → ℕ) → IsMerging n m s t h → (es : List Ends) → InRange n es → (rank n es ≤ suc (rank m (renamed h es))) × (rank m (renamed h es) ≤ rank n es)
rank-merging n m s t h one es range =
    let same = rank-merged n m s t h es one.one one.into range one.s_low in
    ⊎_elim
    (λ (joined : first_joined es s ≡ first_joined es t). let r = rank-glued_joined s t es n one.s_low one.t_low one.apart joined in (omega arith, omega arith))
    (λ (apart : first_joined es s ≡ first_joined es t → ⊥). let r = rank-glued_apart s t es n one.s_low one.t_low apart in (omega arith, omega arith))
    (cases_eq (first_joined es s) (first_joined es t))

-- of a forest at most one branch is lost: what is left joins the ends of one of two alone
pub merging_loses_one : (n m s t : ℕ) (h : ℕ → ℕ) → IsMerging n m s t h → (f g : Ends) (es : List Ends) → InRange n (f ∷ g ∷ es) → IsForest (f ∷ g ∷ es) → first_joined (renamed h es) (h f.a) ≡ first_joined (renamed h es) (h f.b) → first_joined (renamed h es) (h g.a) ≡ first_joined (renamed h es) (h g.b) → ⊥
merging_loses_one n m s t h one f g es range forest joins_f joins_g =
    let new = renamed h es in
    let new_g : rank m (renamed_one h g ∷ new) ≡ rank m new = rank-add_joined m (renamed_one h g) new joins_g in
    let still : first_joined (renamed_one h g ∷ new) (h f.a) ≡ first_joined (renamed_one h g ∷ new) (h f.b) =
    same_first-among new (renamed_one h g ∷ new) (λ e has. Contains-there (renamed_one h g) e new has) (h f.a) (h f.b) joins_f in
    let new_f : rank m (renamed_one h f ∷ renamed_one h g ∷ new) ≡ rank m (renamed_one h g ∷ new) = rank-add_joined m (renamed_one h f) (renamed_one h g ∷ new) still in
    let all : rank n (f ∷ g ∷ es) ≡ suc (suc (length es)) = rank-from_IsForest n (f ∷ g ∷ es) range forest in
    let rest = in_range_tail n g es (in_range_tail n f (g ∷ es) range) in
    let few : rank n es ≤ length es = rank-le-length n es rest in
    let fall = (rank-merging n m s t h one (f ∷ g ∷ es) range).0 in
    let low = (rank-merging n m s t h one es rest).1 in
    omega arith

-- the same of the tests
pub is_joined-renamed : (n : ℕ) (h : ℕ → ℕ) (es : List Ends) → ((u v : ℕ) → u < n → v < n → h u ≡ h v → u ≡ v) → InRange n es → (u v : ℕ) → u < n → v < n → is_joined (renamed h es) (h u) (h v) ≡ is_joined es u v
is_joined-renamed n h es apart range u v lu lv =
    same_tests (first_joined (renamed h es) (h u)) (first_joined (renamed h es) (h v)) (first_joined es u) (first_joined es v)
    (same_along_names n h (first_joined es) es (λ x y lx ly same. ap (first_joined es) (apart x y lx ly same)) (range_at n es range) (first_joined-contains es) u v lu lv)
    (λ same. same_from_Chain (λ x. first_joined (renamed h es) (h x)) es (ends_by_names h es) (Chain-from_same_first es u v same))

pub is_joined-merged : (n s t : ℕ) (h : ℕ → ℕ) (es : List Ends) → Merges n s t h → s < n → t < n → InRange n es → (u v : ℕ) → u < n → v < n → is_joined (renamed h es) (h u) (h v) ≡ is_joined (record { a = s; b = t } ∷ es) u v
is_joined-merged n s t h es merges ls lt range u v lu lv =
    same_tests (first_joined (renamed h es) (h u)) (first_joined (renamed h es) (h v)) (first_joined (record { a = s; b = t } ∷ es) u) (first_joined (record { a = s; b = t } ∷ es) v)
    (joined_before n s t h es merges ls lt range u v lu lv) (joined_after n s t h es merges ls lt range u v)
