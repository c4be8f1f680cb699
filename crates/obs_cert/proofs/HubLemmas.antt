-- Branches whose ends are joined already change nothing.
use Rattle.std.proofs.Common.{◌≡◌, ℕ, zero, suc, ◌<◌, ◌≤◌, Option, None, Some, ◌⊎◌, inl, inr, List, [], ◌∷◌, length, get_or, refl, sym, ap, ◌∙◌, subst, arith}
use Rattle.std.specs.List.{cons_option}
use Rattle.std.proofs.lemmas.Bool.{cases_eq}
use Rattle.obs_case.specs.Tables.{IsValid, Tables}
use Rattle.obs_graph.specs.declared.Ends.{Ends}
use Rattle.obs_graph.specs.Joined.{first_joined, merged}
use Rattle.obs_graph.specs.inner.Search.{AreBelow}
use Rattle.obs_graph.specs.Positions.{branches_at}
use Rattle.obs_graph.proofs.First.{first_joined-ends}
use Rattle.obs_matroid.specs.Lists.{In}
use Rattle.obs_network.specs.Network.{case_branches, case_rows, case_vertex_count}
use Rattle.obs_cert.specs.declared.contraction.Contraction.{Contraction}
use Rattle.obs_cert.specs.inner.Contractions.{IsContraction, contracted_ends}
use Rattle.obs_cert.specs.inner.Hubs.{AreHubs, AreSpanned}
use Rattle.obs_cert.specs.inner.Joins.{AreFirsts, AreJoined, AreLow, onto}
use Rattle.obs_cert.proofs.ContractionLemmas.{case_below}
use Rattle.obs_cert.proofs.JoinLemmas.{joined_already}

-- what is joined stays so with more branches
still_one : (o : Option Ends) (es : List Ends) (a b : ℕ) → first_joined es a ≡ first_joined es b → first_joined (cons_option o es) a ≡ first_joined (cons_option o es) b
still_one None es a b s = s
still_one (Some e) es a b s = ap (merged (first_joined es e.a) (first_joined es e.b)) s

still : (ends : List (Option Ends)) (ps : List ℕ) (es : List Ends) (a b : ℕ) → first_joined es a ≡ first_joined es b → first_joined (onto ends ps es) a ≡ first_joined (onto ends ps es) b
still ends [] es a b s = s
still ends (p ∷ ps) es a b s = still ends ps (cons_option (get_or ends p None) es) a b (still_one (get_or ends p None) es a b s)

pub spanned_still : (ends : List (Option Ends)) (qs ps : List ℕ) (es : List Ends) → AreSpanned ends qs es → AreSpanned ends qs (onto ends ps es)
spanned_still ends qs ps es h q i e is = still ends ps es e.a e.b (h q i e is)

-- what was put on is joined
put_on : (o : Option Ends) (es : List Ends) (e : Ends) → o ≡ Some e → first_joined (cons_option o es) e.a ≡ first_joined (cons_option o es) e.b
put_on o es e is = subst (λ (x : Option Ends). first_joined (cons_option x es) e.a ≡ first_joined (cons_option x es) e.b) (sym is) (first_joined-ends e es)

pub spanned_onto : (ends : List (Option Ends)) (ps : List ℕ) (es : List Ends) → AreSpanned ends ps (onto ends ps es)
spanned_onto ends [] es q i e is = absurd i
spanned_onto ends (p ∷ ps) es q (inl s) e is =
    still ends ps (cons_option (get_or ends p None) es) e.a e.b (put_on (get_or ends p None) es e (ap (λ k. get_or ends k None) (sym s) ∙ is))
spanned_onto ends (p ∷ ps) es q (inr i) e is = spanned_onto ends ps (cons_option (get_or ends p None) es) q i e is

again_one : (o : Option Ends) (es : List Ends) (ups moved : List ℕ) → ((e : Ends) → o ≡ Some e → first_joined es e.a ≡ first_joined es e.b) → AreJoined es ups moved → AreJoined (cons_option o es) ups moved
again_one None es ups moved h j = j
again_one (Some e) es ups moved h j = joined_already es e ups moved (h e refl) j

-- what is joined needs no joining
pub joined_again : (ends : List (Option Ends)) (ps : List ℕ) (es : List Ends) (ups moved : List ℕ) → AreSpanned ends ps es → AreJoined es ups moved → AreJoined (onto ends ps es) ups moved
joined_again ends [] es ups moved h j = j
joined_again ends (p ∷ ps) es ups moved h j =
    joined_again ends ps (cons_option (get_or ends p None) es) ups moved
    (λ q i e is. still_one (get_or ends p None) es e.a e.b (h q (inr i) e is))
    (again_one (get_or ends p None) es ups moved (λ e is. h p (inl refl) e is) j)

-- the ways up say which vertices are joined, whichever branches they are of
firsts_agree : (es fs : List Ends) (ups : List ℕ) → AreLow ups → AreFirsts es ups → AreFirsts fs ups → (k u : ℕ) → u < k → u < length ups → first_joined es u ≡ first_joined fs u
firsts_agree es fs ups low f g zero u l m = absurd (omega (arith, l))
firsts_agree es fs ups low f g (suc k) u l m = elim (cases_eq (get_or ups u 0) u) [
  | inl e ↦ f.top u m e ∙ sym (g.top u m e)
  | inr n ↦
      let b = low u m in
      sym (f.same u m) ∙ (firsts_agree es fs ups low f g k (get_or ups u 0) (omega (arith, b, n, l)) (omega (arith, b, m)) ∙ g.same u m)
]

pub spanned_for : (n : ℕ) (ends : List (Option Ends)) → AreBelow n ends → (ps : List ℕ) (es fs : List Ends) (ups : List ℕ) → n ≤ length ups → AreLow ups → AreFirsts es ups → AreFirsts fs ups
    → AreSpanned ends ps es → AreSpanned ends ps fs
spanned_for n ends ok ps es fs ups long low f g h p i e is =
    let r = ok p e is in
    let a = r.0 in
    let b = r.1 in
    sym (firsts_agree es fs ups low f g (length ups) e.a (omega (arith, a, long)) (omega (arith, a, long)))
    ∙ (h p i e is ∙ firsts_agree es fs ups low f g (length ups) e.b (omega (arith, b, long)) (omega (arith, b, long)))

-- the rows at these vertices are joined after more branches are, those that an item touches, if it touches the rows at another vertex
pub hubs_more : (t : Tables) (c : Contraction) → IsValid t → IsContraction t c → (ps hubs more : List ℕ) (es : List Ends) (before ups moved : List ℕ) → case_vertex_count t ≤ length ups
    → AreHubs t c hubs before → AreFirsts es before → AreJoined (onto (contracted_ends c (case_branches t)) ps es) ups moved
    → ((u : ℕ) → In u more → In u hubs ⊎ (ps ≡ branches_at (case_rows t) u)) → AreHubs t c more ups
hubs_more t c valid of_case ps hubs more es before ups moved long h f j where_from u i fs g =
    let ends = contracted_ends c (case_branches t) in
    let all = onto ends ps es in
    spanned_for (case_vertex_count t) ends (case_below t c valid of_case) (branches_at (case_rows t) u) all fs ups long j.low j.firsts g
    (elim (where_from u i) [
      | inl old ↦ spanned_still ends (branches_at (case_rows t) u) ps es (h u old es f)
      | inr new ↦ subst (λ qs. AreSpanned ends qs all) new (spanned_onto ends ps es)
    ])

-- and where an item touches the rows at one of them, nothing need be joined
pub hubs_same : (t : Tables) (c : Contraction) (ps hubs more : List ℕ) (v : ℕ) (ups : List ℕ) → ps ≡ branches_at (case_rows t) v → In v hubs → AreHubs t c hubs ups
    → ((u : ℕ) → In u more → In u hubs ⊎ (ps ≡ branches_at (case_rows t) u)) → AreHubs t c more ups
hubs_same t c ps hubs more v ups is there h where_from u i fs g =
    elim (where_from u i) [
      | inl old ↦ h u old fs g
      | inr new ↦ subst (λ qs. AreSpanned (contracted_ends c (case_branches t)) qs fs) (sym is ∙ new) (h v there fs g)
    ]
