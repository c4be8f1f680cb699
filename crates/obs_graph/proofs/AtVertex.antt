-- The positions of the branches at a vertex.
use Rattle.std.proofs.Common.{◌≡◌, ℕ, zero, suc, ◌+◌, ◌<◌, ◌≤◌, Bool, true, false, eqb, cond, Option, Some, None, ◌⊎◌, inl, inr, ⊎_elim, List, [], ◌∷◌, ◌++◌, length, take, get_or, refl, sym, ap, ◌∙◌, subst, arith}
use Rattle.std.specs.List.{Contains}
use Rattle.std.proofs.lemmas.Bool.{eq-eqb, or_left, or_right, or_cases, eqb-true, cond-true, cases_lt, true≢false}
use Rattle.std.proofs.lemmas.List.{get_or_past, get_or_default}
use Rattle.std.specs.Prelude.{AllPairs}
use Rattle.std.proofs.Math.Seq.{take-append_seam}
use Rattle.obs_graph.specs.declared.Ends.{Ends}
use Rattle.obs_graph.specs.Joined.{Leads}
use Rattle.obs_graph.specs.Positions.{AreBranches, has_end, positions_from, branches_at}
use Rattle.obs_graph.specs.inner.Search.{IsPart}

-- each present branch with an end at v stands in v's part
pub positions_from-contains : {X : Type 0} (test : X → Bool) (i : ℕ) (xs : List X) (p : ℕ) (d : X) → p < length xs → test (get_or xs p d) ≡ true → Contains (positions_from test i xs) (i + p)
positions_from-contains test i [] p d l pass = absurd (omega arith)
positions_from-contains test i (x ∷ xs) zero d l pass =
    let is : i + 0 ≡ i = omega arith in
    rw is (subst (λ t. Contains t i) (sym (cond-true (test x) (i ∷ positions_from test (suc i) xs) (positions_from test (suc i) xs) pass)) (contains_here i (positions_from test (suc i) xs)))
  where
    contains_here : (y : ℕ) (ys : List ℕ) → Contains (y ∷ ys) y
    contains_here y ys = (0, omega arith, refl)
positions_from-contains test i (x ∷ xs) (suc p) d l pass =
    let rest : Contains (positions_from test (suc i) xs) (suc i + p) = positions_from-contains test (suc i) xs p d (omega arith) pass in
    let is : i + suc p ≡ suc i + p = omega arith in
    rw is (later (test x) i (suc i + p) (positions_from test (suc i) xs) rest)
  where
    later : (b : Bool) (y z : ℕ) (ys : List ℕ) → Contains ys z → Contains (cond b (y ∷ ys) ys) z
    later true y z ys (k, l, h) = (suc k, omega arith, h)
    later false y z ys has = has

pub has_end-leads : (e : Ends) (v w : ℕ) → Leads e v w → has_end v (Some e) ≡ true
has_end-leads e v w (inl (a, b)) = or_left (eqb e.a v) (eqb e.b v) (eq-eqb e.a v a)
has_end-leads e v w (inr (a, b)) = or_right (eqb e.a v) (eqb e.b v) (eq-eqb e.b v a)

-- what stands in a list of positions passes the test
pub positions_from-pass : {X : Type 0} (test : X → Bool) (i : ℕ) (xs : List X) (k d : ℕ) (z : X) → k < length (positions_from test i xs) → (j : ℕ) × (j < length xs) × (get_or (positions_from test i xs) k d ≡ i + j) × (test (get_or xs j z) ≡ true)
positions_from-pass test i [] k d z l = absurd (omega arith)
positions_from-pass test i (x ∷ xs) k d z l =
    by_test (test x) refl k (positions_from test (suc i) xs) (λ j lj. positions_from-pass test (suc i) xs j d z lj) l
  where
    by_test : (b : Bool) → test x ≡ b → (k : ℕ) (ys : List ℕ) → ((m : ℕ) → m < length ys → (j : ℕ) × (j < length xs) × (get_or ys m d ≡ suc i + j) × (test (get_or xs j z) ≡ true)) → k < length (cond b (i ∷ ys) ys)
        → (j : ℕ) × (j < suc (length xs)) × (get_or (cond b (i ∷ ys) ys) k d ≡ i + j) × (test (get_or (x ∷ xs) j z) ≡ true)
    by_test true is zero ys rest l = (0, omega arith, omega arith, is)
    by_test true is (suc k) ys rest l = let r = rest k (omega arith) in (suc r.0, omega (arith, r.1), omega (arith, r.2), r.3)
    by_test false is k ys rest l = let r = rest k l in (suc r.0, omega (arith, r.1), omega (arith, r.2), r.3)

-- a position of v's part is one of the graph's, and its branch has an end at v
pub branches_at-entry : (bs : List (Option Ends)) (v k : ℕ) → k < length (branches_at bs v) → (get_or (branches_at bs v) k 0 < length bs) × (has_end v (get_or bs (get_or (branches_at bs v) k 0) None) ≡ true)
branches_at-entry bs v k l =
    let r = positions_from-pass (has_end v) 0 bs k 0 None l in
    let is : get_or (branches_at bs v) k 0 ≡ r.0 = r.2 ∙ omega arith in
    (omega (arith, r.1), ap (λ t. has_end v (get_or bs t None)) is ∙ r.3)

pub end_at : (v : ℕ) (e : Ends) → has_end v (Some e) ≡ true → (e.a ≡ v) ⊎ (e.b ≡ v)
end_at v e t =
    ⊎_elim
    (λ a. inl (eqb-true e.a v a))
    (λ b. inr (eqb-true e.b v b))
    (or_cases (eqb e.a v) (eqb e.b v) t)

-- what the entry at k of v's part says
pub entry_facts : (n : ℕ) (hs bs : List (Option Ends)) → IsPart hs bs → AreBranches n bs → length hs ≡ length bs → (v : ℕ) (bl : List ℕ) (k : ℕ) → bl ≡ branches_at bs v → k < length bl → (get_or bl k 0 < length hs) × ((e : Ends) → get_or hs (get_or bl k 0) None ≡ Some e → (e.a ≡ v) ⊎ (e.b ≡ v))
entry_facts n hs bs part branches same v bl k bl_is l =
    let at : (get_or bl k 0 < length bs) × (has_end v (get_or bs (get_or bl k 0) None) ≡ true) =
    subst (λ t. k < length t → (get_or t k 0 < length bs) × (has_end v (get_or bs (get_or t k 0) None) ≡ true)) (sym bl_is) (branches_at-entry bs v k) l in
    (omega (arith, at.0), λ e is. end_at v e (ap (has_end v) (sym (part (get_or bl k 0) e is)) ∙ at.1))

-- a position stands in v's part exactly where its branch has an end at v
pub at_vertex : (bs : List (Option Ends)) (v p : ℕ) → has_end v (get_or bs p None) ≡ true → Contains (branches_at bs v) p
at_vertex bs v p ends =
    ⊎_elim
    (λ (low : p < length bs). let zero_p : 0 + p ≡ p = omega arith in rw zero_p at (positions_from-contains (has_end v) 0 bs p None low ends))
    (λ (past : length bs ≤ p). absurd (true≢false (sym ends ∙ ap (has_end v) (get_or_past bs p None past))))
    (cases_lt p (length bs))

pub has_end-at_vertex : (bs : List (Option Ends)) (v p : ℕ) → Contains (branches_at bs v) p → has_end v (get_or bs p None) ≡ true
has_end-at_vertex bs v p has =
    let at : get_or (branches_at bs v) has.0 0 ≡ p = get_or_default (branches_at bs v) has.0 0 p has.1 ∙ has.2 in
    ap (λ t. has_end v (get_or bs t None)) (sym at) ∙ (branches_at-entry bs v has.0 has.1).1

-- the positions rise
positions_from-from : {X : Type 0} (test : X → Bool) (i : ℕ) (xs : List X) (k d : ℕ) → k < length (positions_from test i xs) → i ≤ get_or (positions_from test i xs) k d
positions_from-from test i [] k d l = absurd (omega arith)
positions_from-from test i (x ∷ xs) k d l = by_test (test x) k (positions_from test (suc i) xs) (λ j lj. positions_from-from test (suc i) xs j d lj) l
  where
    by_test : (b : Bool) (k : ℕ) (ys : List ℕ) → ((j : ℕ) → j < length ys → suc i ≤ get_or ys j d) → k < length (cond b (i ∷ ys) ys) → i ≤ get_or (cond b (i ∷ ys) ys) k d
    by_test true zero ys rest l = omega arith
    by_test true (suc k) ys rest l = omega (arith, rest k (omega arith))
    by_test false k ys rest l = omega (arith, rest k l)

pub positions_from_rise : {X : Type 0} (test : X → Bool) (i : ℕ) (xs : List X) → AllPairs ◌<◌ (positions_from test i xs)
positions_from_rise test i [] = λ j k d l lk. absurd (omega arith)
positions_from_rise test i (x ∷ xs) = by_test (test x) (positions_from test (suc i) xs) (λ k d l. positions_from-from test (suc i) xs k d l) (positions_from_rise test (suc i) xs)
  where
    by_test : (b : Bool) (ys : List ℕ) → ((k d : ℕ) → k < length ys → suc i ≤ get_or ys k d) → AllPairs ◌<◌ ys → AllPairs ◌<◌ (cond b (i ∷ ys) ys)
    by_test true ys low rise j zero d l lk = absurd (omega arith)
    by_test true ys low rise zero (suc k) d l lk = omega (arith, low k d (omega arith))
    by_test true ys low rise (suc j) (suc k) d l lk = rise j k d (omega arith) (omega arith)
    by_test false ys low rise j k d l lk = rise j k d l lk

-- behind the positions in the first list come those in the second
pub positions_from-append : {X : Type 0} (test : X → Bool) (i : ℕ) (xs ys : List X) → positions_from test i (xs ++ ys) ≡ positions_from test i xs ++ positions_from test (i + length xs) ys
positions_from-append test i [] ys =
    let same : i + 0 ≡ i = omega arith in
    rw same refl
positions_from-append test i (x ∷ xs) ys =
    let same : i + suc (length xs) ≡ suc i + length xs = omega arith in
    let rest = positions_from-append test (suc i) xs ys in
    rw same (by_test (test x) (positions_from test (suc i) (xs ++ ys)) (positions_from test (suc i) xs) (positions_from test (suc i + length xs) ys) rest)
  where
    by_test : (b : Bool) (all front back : List ℕ) → all ≡ front ++ back → cond b (i ∷ all) all ≡ cond b (i ∷ front) front ++ back
    by_test true all front back e = ap (λ l. i ∷ l) e
    by_test false all front back e = e

-- where more branches stand behind the others, v's part begins as it was, and goes on with those
pub branches_at-append : (xs ys : List (Option Ends)) (v : ℕ) → branches_at (xs ++ ys) v ≡ branches_at xs v ++ positions_from (has_end v) (length xs) ys
branches_at-append xs ys v =
    let same : 0 + length xs ≡ length xs = omega arith in
    positions_from-append (has_end v) 0 xs ys ∙ ap (λ k. branches_at xs v ++ positions_from (has_end v) k ys) same

-- and so its first entries are those that it had
pub branches_at-front : (xs ys : List (Option Ends)) (v : ℕ) → take (length (branches_at xs v)) (branches_at (xs ++ ys) v) ≡ branches_at xs v
branches_at-front xs ys v =
    ap (λ (l : List ℕ). take (length (branches_at xs v)) l) (branches_at-append xs ys v)
    ∙ take-append_seam (branches_at xs v) (positions_from (has_end v) (length xs) ys)
