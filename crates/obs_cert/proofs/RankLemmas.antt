-- The rank of branches that were put onto one another.
use Rattle.std.proofs.Common.{◌≡◌, ℕ, zero, suc, ◌<◌, ◌≤◌, Bool, false, not, Option, None, ◌⊎◌, inl, inr, List, [], ◌∷◌, length, take, get_or, refl, sym, ap, ◌∙◌, arith}
use Rattle.std.specs.List.{Contains, cons_option}
use Rattle.std.proofs.lemmas.Bool.{cases_lt, eq-eqb}
use Rattle.obs_graph.specs.declared.Ends.{Ends}
use Rattle.obs_graph.specs.Joined.{count_below, first_joined, merged, rank}
use Rattle.obs_graph.specs.inner.Search.{AreBelow}
use Rattle.obs_graph.specs.Positions.{ends_of}
use Rattle.obs_graph.proofs.AtPositions.{ends_of-contains, contains_cons}
use Rattle.obs_graph.proofs.Chains.{Contains-here, Contains-there}
use Rattle.obs_graph.proofs.Counts.{count_below-no}
use Rattle.obs_graph.proofs.First.{first_joined-le, merged-other}
use Rattle.obs_graph.proofs.Forests.{rank-among}
use Rattle.obs_graph.proofs.Ranks.{is_moved, rank_is}
use Rattle.obs_cert.specs.inner.Joins.{AreJoined, onto}
use Rattle.obs_cert.proofs.JoinLemmas.{count_is}
use Rattle.obs_rankcut.proofs.Ranked.{cons_cases, cons_here}

-- what is put onto branches has those and the others
onto_keeps : (ends : List (Option Ends)) (ps : List ℕ) (es : List Ends) (e : Ends) → Contains es e → Contains (onto ends ps es) e
onto_keeps ends [] es e h = h
onto_keeps ends (p ∷ ps) es e h = onto_keeps ends ps (cons_option (get_or ends p None) es) e (contains_cons (get_or ends p None) es e h)

onto_has : (ends : List (Option Ends)) (ps : List ℕ) (es : List Ends) (e : Ends) → Contains (ends_of ends ps) e → Contains (onto ends ps es) e
onto_has ends [] es e (k, l, h) = absurd (omega arith)
onto_has ends (p ∷ ps) es e h = elim (cons_cases (get_or ends p None) (ends_of ends ps) e h) [
  | inl is ↦ onto_keeps ends ps (cons_option (get_or ends p None) es) e (cons_here (get_or ends p None) es e is)
  | inr k ↦ onto_has ends ps (cons_option (get_or ends p None) es) e k
]

onto_only : (ends : List (Option Ends)) (ps : List ℕ) (es : List Ends) (e : Ends) → Contains (onto ends ps es) e → Contains es e ⊎ Contains (ends_of ends ps) e
onto_only ends [] es e h = inl h
onto_only ends (p ∷ ps) es e h = elim (onto_only ends ps (cons_option (get_or ends p None) es) e h) [
  | inl k ↦ elim (cons_cases (get_or ends p None) es e k) [ inl is ↦ inr (cons_here (get_or ends p None) (ends_of ends ps) e is) | inr j ↦ inl j ]
  | inr k ↦ inr (contains_cons (get_or ends p None) (ends_of ends ps) e k)
]

no_branch : (e : Ends) → Contains [] e → ⊥
no_branch e (k, l, h) = omega arith

-- the order doesn't matter
rank_onto : (n : ℕ) (ends : List (Option Ends)) (ps : List ℕ) → rank n (onto ends ps []) ≡ rank n (ends_of ends ps)
rank_onto n ends ps =
    let up = rank-among n (onto ends ps []) (ends_of ends ps) (λ e h. elim (onto_only ends ps [] e h) [ inl k ↦ absurd (no_branch e k) | inr k ↦ k ]) in
    let down = rank-among n (ends_of ends ps) (onto ends ps []) (λ e h. onto_has ends ps [] e h) in
    omega (arith, up, down)

-- vertices past all ends don't count
past : (n : ℕ) (es : List Ends) → ((e : Ends) → Contains es e → (e.a < n) × (e.b < n)) → (u : ℕ) → n ≤ u → first_joined es u ≡ u
past n [] below u l = refl
past n (e ∷ es) below u l =
    let here = below e (Contains-here e es) in
    let same = past n es (λ d h. below d (Contains-there e d es h)) u l in
    ap (merged (first_joined es e.a) (first_joined es e.b)) same
    ∙ merged-other (first_joined es e.a) (first_joined es e.b) u
    (λ top. let x = first_joined-le es e.a in let y = first_joined-le es e.b in let a = here.0 in let b = here.1 in grind (arith, top, x, y, a, b, l))

count_past : (p : ℕ → Bool) (n N : ℕ) → n ≤ N → ((u : ℕ) → n ≤ u → p u ≡ false) → count_below p N ≡ count_below p n
count_past p n zero le none = let e : 0 ≡ n = omega (arith, le) in ap (count_below p) e
count_past p n (suc N) le none = elim (cases_lt n (suc N)) [
  | inl l ↦ count_below-no p N (none N (omega (arith, l))) ∙ count_past p n N (omega (arith, l)) none
  | inr g ↦ (let e : suc N ≡ n = omega (arith, le, g) in ap (count_below p) e)
]

rank_past : (n N : ℕ) (es : List Ends) → n ≤ N → ((e : Ends) → Contains es e → (e.a < n) × (e.b < n)) → rank N es ≡ rank n es
rank_past n N es le below =
    rank_is N es ∙ count_past (is_moved es) n N le (λ u l. ap not (eq-eqb (first_joined es u) u (past n es below u l))) ∙ sym (rank_is n es)

below_ends : (n : ℕ) (ends : List (Option Ends)) (ps : List ℕ) → AreBelow n ends → (e : Ends) → Contains (ends_of ends ps) e → (e.a < n) × (e.b < n)
below_ends n ends ps below e h = let q = ends_of-contains ends ps e h in below q.0 e q.2

-- what is noted is the rank
pub noted_rank : (n : ℕ) (ends : List (Option Ends)) (ps ups moved : List ℕ) (count : ℕ) → AreBelow n ends → n ≤ length ups → count ≤ length moved
    → AreJoined (onto ends ps []) ups (take count moved) → count ≡ rank n (ends_of ends ps)
noted_rank n ends ps ups moved count below le fits j =
    count_is (onto ends ps []) ups moved count fits j ∙ rank_onto (length ups) ends ps ∙ rank_past n (length ups) (ends_of ends ps) le (below_ends n ends ps below)
