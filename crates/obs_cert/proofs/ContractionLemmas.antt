-- The rank of branches among which the rows at a vertex are: that of these rows, and that of all in the graph in which they are contracted.
use Rattle.std.proofs.Common.{◌≡◌, ◌∙◌, ℕ, zero, suc, ◌+◌, ◌<◌, ◌≤◌, Option, None, Some, inl, inr, cond, Bool, true, false, List, [], ◌∷◌, ◌++◌, length, get_or, refl, sym, ap, subst, arith}
use Rattle.std.specs.List.{Contains, cons_option, flat_map}
use Rattle.std.specs.Option.{option_map}
use Rattle.std.proofs.lemmas.Bool.{cases_Bool, cases_lt}
use Rattle.std.proofs.lemmas.List.{get_or_past, get_or_append_left}
use Rattle.std.proofs.lemmas.List.Elements.{All-cons, All-nil, Contains-append_cases, Contains-append_right}
use Rattle.obs_case.specs.Tables.{IsValid, Tables}
use Rattle.obs_graph.specs.declared.Ends.{Ends}
use Rattle.obs_graph.specs.Joined.{Leads, first_joined, rank}
use Rattle.obs_graph.specs.inner.Joined.{AreMergedBy, InRange, renamed, renamed_one}
use Rattle.obs_graph.specs.Positions.{AreBranches, branches_at, ends_of, has_end}
use Rattle.obs_graph.proofs.AtPositions.{contains-ends_of, ends_of-contains}
use Rattle.obs_graph.proofs.AtVertex.{at_vertex, end_at, has_end-at_vertex, has_end-leads}
use Rattle.obs_graph.proofs.Chains.{Chain-from_same_first, first_joined-contains, leads_same, same_from_Chain}
use Rattle.obs_graph.proofs.Forests.{rank-among}
use Rattle.obs_graph.proofs.IsJoined.{same-from_true, true-from_same}
use Rattle.obs_graph.proofs.MergedBy.{rank-merged_by}
use Rattle.obs_graph.specs.inner.Search.{AreBelow}
use Rattle.obs_graph.proofs.Present.{AreBelow-part}
use Rattle.obs_matroid.specs.Lists.{In}
use Rattle.obs_matroid.proofs.Contained.{Contains-from_In, In-from_Contains}
use Rattle.obs_matroid.proofs.Lists.{In-flat_map, clash}
use Rattle.obs_meter.specs.Lost.{is_listed}
use Rattle.obs_network.specs.Network.{case_angles, case_branches, case_rows, case_vertex_count}
use Rattle.obs_network.proofs.OfCase.{case_branches-are, case_vertex_count-le, few_nodes, length-case_rows}
use Rattle.obs_cert.specs.declared.contraction.Contraction.{Contraction}
use Rattle.obs_cert.specs.declared.contraction.Contraction.TheVariants.{Nothing, Star}
use Rattle.obs_cert.specs.inner.Contractions.{FitsIn, IsContracted, IsContraction, becomes, contracted, contracted_ends, renamed_ends}
use Rattle.obs_cert.specs.Flaws.{rank_of_items}
use Rattle.obs_cert.specs.inner.Hubs.{AreHubs, AreSpanned}
use Rattle.obs_cert.specs.inner.Links.{AreLinks, link, link_of, links_of}
use Rattle.obs_cert.specs.Scopes.{item_touches}
use Rattle.obs_cert.specs.inner.Stars.{star_rank}
use Rattle.obs_cert.proofs.LinkLemmas.{link_back, link_zero, linked_as, listed_same, row_from, row_listed}

pub branches_below : (n : ℕ) (ends : List (Option Ends)) → AreBranches n ends → AreBelow n ends
branches_below n ends = AreBelow-part n ends ends (λ p e is. is)

-- the ends of a branch by new names
pub renamed_at : (h : ℕ → ℕ) (ends : List (Option Ends)) (p : ℕ) → get_or (renamed_ends h ends) p None ≡ option_map (renamed_one h) (get_or ends p None)
renamed_at h [] p = refl
renamed_at h (o ∷ ends) zero = refl
renamed_at h (o ∷ ends) (suc p) = renamed_at h ends p

some_ends : (d e : Ends) → Some d ≡ Some e → d ≡ e
some_ends d e is = cc is

no_ends : {P : Type 0} (e : Ends) → None ≡ Some e → P
no_ends e is = absurd (cc is)

-- what has an end by new names has one by the old ones
renamed_from : (h : ℕ → ℕ) (o : Option Ends) (e : Ends) → option_map (renamed_one h) o ≡ Some e → (d : Ends) × (o ≡ Some d) × (renamed_one h d ≡ e)
renamed_from h None e is = no_ends e is
renamed_from h (Some d) e is = (d, refl, some_ends (renamed_one h d) e is)

pub renamed_from_at : (h : ℕ → ℕ) (ends : List (Option Ends)) (p : ℕ) (e : Ends) → get_or (renamed_ends h ends) p None ≡ Some e → (d : Ends) × (get_or ends p None ≡ Some d) × (renamed_one h d ≡ e)
renamed_from_at h ends p e is = renamed_from h (get_or ends p None) e (sym (renamed_at h ends p) ∙ is)

cons_renamed : (h : ℕ → ℕ) (o : Option Ends) (xs es : List Ends) → xs ≡ renamed h es → cons_option (option_map (renamed_one h) o) xs ≡ renamed h (cons_option o es)
cons_renamed h None xs es e = e
cons_renamed h (Some d) xs es e = ap (λ zs. renamed_one h d ∷ zs) e

ends_of_renamed : (h : ℕ → ℕ) (ends : List (Option Ends)) (ps : List ℕ) → ends_of (renamed_ends h ends) ps ≡ renamed h (ends_of ends ps)
ends_of_renamed h ends [] = refl
ends_of_renamed h ends (p ∷ ps) =
    ap (λ o. cons_option o (ends_of (renamed_ends h ends) ps)) (renamed_at h ends p) ∙ cons_renamed h (get_or ends p None) (ends_of (renamed_ends h ends) ps) (ends_of ends ps) (ends_of_renamed h ends ps)

-- where nothing is contracted, all is as it was
pub contracted_nothing : (ends : List (Option Ends)) → contracted_ends Nothing ends ≡ ends
contracted_nothing [] = refl
contracted_nothing (None ∷ ends) = ap (λ (os : List (Option Ends)). None ∷ os) (contracted_nothing ends)
contracted_nothing (Some e ∷ ends) = ap (λ (os : List (Option Ends)). Some e ∷ os) (contracted_nothing ends)

-- branches at positions have their ends below n
range_cons : (n : ℕ) (o : Option Ends) (es : List Ends) → ((e : Ends) → o ≡ Some e → (e.a < n) × (e.b < n)) → InRange n es → InRange n (cons_option o es)
range_cons n None es h r = r
range_cons n (Some e) es h r = All-cons (λ (x : Ends). (x.a < n) × (x.b < n)) e es (h e refl) r

range_of : (n : ℕ) (ends : List (Option Ends)) (ps : List ℕ) → AreBelow n ends → InRange n (ends_of ends ps)
range_of n ends [] below = All-nil (λ (x : Ends). (x.a < n) × (x.b < n))
range_of n ends (p ∷ ps) below = range_cons n (get_or ends p None) (ends_of ends ps) (λ e is. below p e is) (range_of n ends ps below)

-- a vertex that is linked becomes the contracted one, and another one stays
pub became : (v : ℕ) (links : List ℕ) (u : ℕ) → is_listed links (link v u) ≡ true → becomes v links u ≡ v
became v links u e = ap (λ (b : Bool). cond b v u) e

stayed : (v : ℕ) (links : List ℕ) (u : ℕ) → is_listed links (link v u) ≡ false → becomes v links u ≡ u
stayed v links u e = ap (λ (b : Bool). cond b v u) e

became_itself : (v : ℕ) (links : List ℕ) → becomes v links v ≡ v
became_itself v links = elim (cases_Bool (is_listed links (link v v))) [ inl e ↦ became v links v e | inr e ↦ stayed v links v e ]

became_below : (n v : ℕ) (links : List ℕ) (u : ℕ) → v < n → u < n → becomes v links u < n
became_below n v links u low l = elim (cases_Bool (is_listed links (link v u))) [
  | inl e ↦ omega (arith, low, became v links u e)
  | inr e ↦ omega (arith, l, stayed v links u e)
]

pub contracted_below : (n : ℕ) (c : Contraction) (u : ℕ) → FitsIn n c → u < n → contracted c u < n
contracted_below n Nothing u fits l = l
contracted_below n (Star v links) u fits l = became_below n v links.now u fits.0 l

pub fits_case : (t : Tables) (c : Contraction) → IsContraction t c → FitsIn (case_vertex_count t) c
fits_case t Nothing of_case = of_case
fits_case t (Star v links) of_case = (of_case.0, of_case.1.rising)

pub fits_room : (t : Tables) (c : Contraction) (room : ℕ) → IsContraction t c → case_vertex_count t ≤ room → FitsIn room c
fits_room t Nothing room of_case le = of_case
fits_room t (Star v links) room of_case le = (let l = of_case.0 in omega (arith, l, le), of_case.1.rising)

pub contracted_in : (n : ℕ) (c : Contraction) (ends : List (Option Ends)) → FitsIn n c → AreBelow n ends → AreBelow n (contracted_ends c ends)
contracted_in n c ends fits below p e is =
    let r = renamed_from_at (contracted c) ends p e is in
    let b = below p r.0 r.1 in
    let f = r.2 in
    (subst (λ (x : Ends). x.a < n) f (contracted_below n c r.0.a fits b.0), subst (λ (x : Ends). x.b < n) f (contracted_below n c r.0.b fits b.1))

pub case_below : (t : Tables) (c : Contraction) → IsValid t → IsContraction t c → AreBelow (case_vertex_count t) (contracted_ends c (case_branches t))
case_below t c valid of_case =
    contracted_in (case_vertex_count t) c (case_branches t) (fits_case t c of_case) (branches_below (case_vertex_count t) (case_branches t) (case_branches-are t valid))

-- the rows stand before the angle branches
pub row_at : (t : Tables) (p : ℕ) → p < length (case_rows t) → get_or (case_branches t) p None ≡ get_or (case_rows t) p None
unfolding case_branches
row_at t p l = get_or_append_left (case_rows t) (case_angles t) None p l

row_within : (t : Tables) (v p : ℕ) → has_end v (get_or (case_rows t) p None) ≡ true → p < length (case_rows t)
row_within t v p has = elim (cases_lt p (length (case_rows t))) [
  | inl l ↦ l
  | inr past ↦ (let none : has_end v (get_or (case_rows t) p None) ≡ false = ap (has_end v) (get_or_past (case_rows t) p None past) in clash has none)
]

few_vertices : (t : Tables) → IsValid t → (u : ℕ) → u < case_vertex_count t → u < 4294967296
few_vertices t valid u l = let a = case_vertex_count-le t in let b = few_nodes t valid in omega (arith, a, b, l)

module _ (t : Tables) (valid : IsValid t) (v : ℕ) (low : v < case_vertex_count t) (links : List ℕ) (are : AreLinks t links) where
  abbrev n : ℕ
  n = case_vertex_count t

  -- the rows at the vertex
  abbrev pub star : List Ends
  star = ends_of (case_branches t) (branches_at (case_rows t) v)

  -- what is linked is joined by them
  linked_by : (p u : ℕ) (o : Option Ends) → p < length t.branches → u < n → get_or (case_branches t) p None ≡ o → link_of o ≡ link v u → first_joined star v ≡ first_joined star u
  linked_by p u None l in_u there e = ap (first_joined star) (link_zero v u e)
  linked_by p u (Some d) l in_u there e =
      let r = branches_below n (case_branches t) (case_branches-are t valid) p d there in
      let leads : Leads d v u =
      linked_as d.a d.b v u (few_vertices t valid d.a r.0) (few_vertices t valid d.b r.1) (few_vertices t valid v low) (few_vertices t valid u in_u) e in
      let in_rows : p < length (case_rows t) = omega (arith, l, length-case_rows t) in
      let has : has_end v (get_or (case_rows t) p None) ≡ true = ap (has_end v) (sym (row_at t p in_rows) ∙ there) ∙ has_end-leads d v u leads in
      let inside = contains-ends_of (case_branches t) (branches_at (case_rows t) v) p d (at_vertex (case_rows t) v p has) there in
      leads_same (first_joined star) d v u (first_joined-contains star d inside) leads

  linked : (u : ℕ) → u < n → is_listed links (link v u) ≡ true → first_joined star v ≡ first_joined star u
  linked u in_u e =
      let w = row_from t (link v u) (listed_same t links (link v u) are ∙ e) in
      linked_by w.0 u (get_or (case_branches t) w.0 None) w.1 in_u refl w.2

  -- and the ends of each of them become the vertex
  pub becomes_one : (q : ℕ) (e : Ends) → has_end v (get_or (case_rows t) q None) ≡ true → get_or (case_branches t) q None ≡ Some e → (becomes v links e.a ≡ v) × (becomes v links e.b ≡ v)
  becomes_one q e has there =
      let in_rows = row_within t v q has in
      let here : is_listed links (link e.a e.b) ≡ true =
      sym (listed_same t links (link e.a e.b) are) ∙ ap (λ (o : Option Ends). is_listed (links_of t) (link_of o)) (sym there) ∙ row_listed t q (omega (arith, in_rows, length-case_rows t)) in
      elim (end_at v e (ap (has_end v) (sym there ∙ row_at t q in_rows) ∙ has)) [
        | inl a ↦ (ap (becomes v links) a ∙ became_itself v links, became v links e.b (ap (λ x. is_listed links (link x e.b)) (sym a) ∙ here))
        | inr b ↦ (
          became v links e.a (ap (is_listed links) (link_back v e.a) ∙ ap (λ x. is_listed links (link e.a x)) (sym b) ∙ here),
          ap (becomes v links) b ∙ became_itself v links,
        )
      ]

  star_becomes : (e : Ends) → Contains star e → becomes v links e.a ≡ becomes v links e.b
  star_becomes e has =
      let w = ends_of-contains (case_branches t) (branches_at (case_rows t) v) e has in
      let one = becomes_one w.0 e (has_end-at_vertex (case_rows t) v w.0 w.1) w.2 in
      one.0 ∙ sym one.1

  still_joined : (u : ℕ) → u < n → first_joined star (becomes v links u) ≡ first_joined star u
  still_joined u in_u = elim (cases_Bool (is_listed links (link v u))) [
    | inl e ↦ ap (first_joined star) (became v links u e) ∙ linked u in_u e
    | inr e ↦ ap (first_joined star) (stayed v links u e)
  ]

  -- the vertices that the rows join become one, and no others
  pub star_merges : AreMergedBy n n star (becomes v links)
  star_merges = record {
    in_range = range_of n (case_branches t) (branches_at (case_rows t) v) (branches_below n (case_branches t) (case_branches-are t valid));
    into = λ u l. became_below n v links u low l;
    one = λ a b la lb. (
      λ same. true-from_same star a b (sym (still_joined a la) ∙ ap (first_joined star) same ∙ still_joined b lb),
      λ joined. same_from_Chain (becomes v links) star star_becomes (Chain-from_same_first star a b (same-from_true star a b joined)),
    );
  }

  -- the rank of the branches that the items of a list touch, where one of them touches these rows
  pub rank_contracted : (list : List ℕ) (m : ℕ) → In m list → item_touches t m ≡ branches_at (case_rows t) v
      → star_rank t v + rank n (ends_of (renamed_ends (becomes v links) (case_branches t)) (flat_map (item_touches t) list)) ≡ rank_of_items t list
  rank_contracted list m inside touches =
      let ends = case_branches t in
      let ps = flat_map (item_touches t) list in
      let all = ends_of ends ps in
      let by = rank-merged_by n n star (becomes v links) star_merges all (range_of n ends ps (branches_below n ends (case_branches-are t valid))) in
      let new : rank n (ends_of (renamed_ends (becomes v links) ends) ps) ≡ rank n (renamed (becomes v links) all) = ap (rank n) (ends_of_renamed (becomes v links) ends ps) in
      let among : (e : Ends) → Contains star e → Contains all e = λ e has.
      let w = ends_of-contains ends (branches_at (case_rows t) v) e has in
      let there : In w.0 ps = In-flat_map (item_touches t) m w.0 list inside (subst (λ (qs : List ℕ). In w.0 qs) (sym touches) (In-from_Contains w.0 (branches_at (case_rows t) v) w.1)) in
      contains-ends_of ends ps w.0 e (Contains-from_In w.0 ps there) w.2 in
      let up = rank-among n (star ++ all) all (λ e has. elim (Contains-append_cases star all e has) [ inl k ↦ among e k | inr k ↦ k ]) in
      let down = rank-among n all (star ++ all) (λ e has. Contains-append_right star all e has) in
      omega (arith, by, new, up, down)

  -- they are joined at once
  pub star_spanned : (es : List Ends) → AreSpanned (renamed_ends (becomes v links) (case_branches t)) (branches_at (case_rows t) v) es
  star_spanned es p i e is =
      let r = renamed_from_at (becomes v links) (case_branches t) p e is in
      let one = becomes_one p r.0 (has_end-at_vertex (case_rows t) v p (Contains-from_In p (branches_at (case_rows t) v) i)) r.1 in
      let f = r.2 in
      ap (first_joined es) (sym (ap (λ (x : Ends). x.a) f) ∙ one.0 ∙ sym one.1 ∙ ap (λ (x : Ends). x.b) f)

-- the rows at the contracted vertex are joined from the first
pub hubs_begun : (t : Tables) (c : Contraction) (hubs ups : List ℕ) → IsValid t → IsContraction t c → ((u : ℕ) → In u hubs → IsContracted c u) → AreHubs t c hubs ups
hubs_begun t Nothing hubs ups valid of_case begun u i es f = absurd (begun u i)
hubs_begun t (Star v links) hubs ups valid of_case begun u i es f =
    subst (λ (w : ℕ). AreSpanned (contracted_ends (Star v links) (case_branches t)) (branches_at (case_rows t) w) es) (sym (begun u i)) (star_spanned t valid v of_case.0 links.now of_case.1 es)
