-- One link more: no buses become one, or two do.
use Rattle.std.proofs.Common.{◌⊎◌, inl, inr, ◌≡◌, ◌↔◌, ℕ, ◌<◌, eqb, ⊎_elim, List, [], ◌∷◌, ◌++◌, map, refl, sym, ap, ◌∙◌, arith}
use Rattle.std.specs.List.{range_with_len}
use Rattle.std.proofs.lemmas.Bool.{cases_eq}
use Rattle.std.proofs.lemmas.Bool.Decides.{nat_tests}
use Rattle.std.proofs.lemmas.List.Elements.{Contains-append_right}
use Rattle.obs_graph.specs.declared.Ends.{Ends}
use Rattle.obs_graph.specs.Joined.{count_below, first_joined, merged}
use Rattle.obs_graph.specs.inner.Joined.{glue, IsMerging}
use Rattle.obs_graph.proofs.Chains.{Contains-here, first_joined-contains}
use Rattle.obs_graph.proofs.Counts.{count_below-agree}
use Rattle.obs_graph.proofs.First.{first_joined-le, first_joined-first_joined, merged-same}
use Rattle.obs_graph.proofs.Forests.{among_front, among_others, same_first-among}
use Rattle.obs_graph.proofs.Shapes.{glue_st}
use Rattle.obs_switch.specs.declared.link.Link.{Link}
use Rattle.obs_switch.specs.Buses.{bus_count, bus_of, buses_of, ends_of_link, ends_of_links, first_node, is_first_node}
use Rattle.obs_switch.specs.inner.Buses.{bus_under}
use Rattle.obs_switch.proofs.FirstNodes.{bus_at, bus_of-below, first_member, same_first-from_same_bus}

-- two numbers are one after a merging where they were, or where they are the two that are merged
abbrev pub OneOf : ℕ → ℕ → ℕ → ℕ → Type 0
OneOf s t c d = (c ≡ d) ⊎ (((c ≡ s) × (d ≡ t)) ⊎ ((c ≡ t) × (d ≡ s)))

two_cases : (s t c d : ℕ) → (c ≡ d → ⊥) → ((c ≡ s → d ≡ t → ⊥) × (c ≡ t → d ≡ s → ⊥) → ⊥) → OneOf s t c d
two_cases s t c d apart some =
    ⊎_elim
    (λ (at_s : c ≡ s). ⊎_elim (λ (at_t : d ≡ t). inr (inl (at_s, at_t))) (λ (off : d ≡ t → ⊥). ⊎_elim
    (λ (c_t : c ≡ t). ⊎_elim (λ (d_s : d ≡ s). inr (inr (c_t, d_s))) (λ (no_s : d ≡ s → ⊥). absurd (some ((λ p q. off q), (λ p q. no_s q)))) (cases_eq d s))
    (λ (c_off : c ≡ t → ⊥). absurd (some ((λ p q. off q), (λ p q. c_off p))))
    (cases_eq c t)) (cases_eq d t))
    (λ (c_off : c ≡ s → ⊥). ⊎_elim
    (λ (c_t : c ≡ t). ⊎_elim (λ (d_s : d ≡ s). inr (inr (c_t, d_s))) (λ (no_s : d ≡ s → ⊥). absurd (some ((λ p q. c_off p), (λ p q. no_s q)))) (cases_eq d s))
    (λ (no_t : c ≡ t → ⊥). absurd (some ((λ p q. c_off p), (λ p q. no_t p))))
    (cases_eq c t))
    (cases_eq c s)

merged_apart : (x y z w : ℕ) → merged x y z ≡ merged x y w → (z ≡ w → ⊥) → ((z ≡ x → w ≡ y → ⊥) × (z ≡ y → w ≡ x → ⊥)) → ⊥
merged_apart x y z w = grind (arith, nat_tests)

glue_apart : (s t c d : ℕ) → glue s t c ≡ glue s t d → (c ≡ d → ⊥) → ((c ≡ s → d ≡ t → ⊥) × (c ≡ t → d ≡ s → ⊥)) → ⊥
glue_apart s t c d = grind (arith, nat_tests)

one-from_merged : (x y z w : ℕ) → merged x y z ≡ merged x y w → OneOf x y z w
one-from_merged x y z w same =
    ⊎_elim (λ (e : z ≡ w). inl e) (λ (ne : z ≡ w → ⊥). two_cases x y z w ne (merged_apart x y z w same ne)) (cases_eq z w)

one-from_glue : (s t c d : ℕ) → glue s t c ≡ glue s t d → OneOf s t c d
one-from_glue s t c d same =
    ⊎_elim (λ (e : c ≡ d). inl e) (λ (ne : c ≡ d → ⊥). two_cases s t c d ne (glue_apart s t c d same ne)) (cases_eq c d)

glue-from_one : (s t c d : ℕ) → OneOf s t c d → glue s t c ≡ glue s t d
glue-from_one s t c d (inl e) = ap (glue s t) e
glue-from_one s t c d (inr (inl (p, q))) = ap (glue s t) p ∙ glue_st s t ∙ sym (ap (glue s t) q)
glue-from_one s t c d (inr (inr (p, q))) = ap (glue s t) p ∙ sym (glue_st s t) ∙ sym (ap (glue s t) q)

map_append : (xs : List Link) (l : Link) (ys : List Link) → ends_of_links (xs ++ l ∷ ys) ≡ ends_of_links xs ++ ends_of_link l ∷ ends_of_links ys
map_append [] l ys = refl
map_append (x ∷ xs) l ys = ap (λ t. ends_of_link x ∷ t) (map_append xs l ys)

map_both : (xs ys : List Link) → ends_of_links (xs ++ ys) ≡ ends_of_links xs ++ ends_of_links ys
map_both [] ys = refl
map_both (x ∷ xs) ys = ap (λ t. ends_of_link x ∷ t) (map_both xs ys)

-- nodes that some branches join, and those that they join with one branch more among them
module _ (xs : List Ends) (e : Ends) (ys : List Ends) where
  more_joined : (u v : ℕ) → first_joined (xs ++ ys) u ≡ first_joined (xs ++ ys) v → first_joined (xs ++ e ∷ ys) u ≡ first_joined (xs ++ e ∷ ys) v
  more_joined = same_first-among (xs ++ ys) (xs ++ e ∷ ys) (among_others xs e ys)

  ends_joined : first_joined (xs ++ e ∷ ys) e.a ≡ first_joined (xs ++ e ∷ ys) e.b
  ends_joined = first_joined-contains (xs ++ e ∷ ys) e (Contains-append_right xs (e ∷ ys) e (Contains-here e ys))

  merged_joined : (u v : ℕ) → first_joined (xs ++ e ∷ ys) u ≡ first_joined (xs ++ e ∷ ys) v → first_joined (e ∷ (xs ++ ys)) u ≡ first_joined (e ∷ (xs ++ ys)) v
  merged_joined = same_first-among (xs ++ e ∷ ys) (e ∷ (xs ++ ys)) (among_front xs e ys)

  -- where the branch's ends are joined already, it changes nothing
  first_same : first_joined (xs ++ ys) e.a ≡ first_joined (xs ++ ys) e.b → (u : ℕ) → first_joined (xs ++ e ∷ ys) u ≡ first_joined (xs ++ ys) u
  first_same joined u =
      let p = first_joined (xs ++ e ∷ ys) u in
      let q = first_joined (xs ++ ys) u in
      let x = first_joined (xs ++ ys) e.b in
      let with_same : (z : ℕ) → first_joined (e ∷ (xs ++ ys)) z ≡ first_joined (xs ++ ys) z =
      λ z. ap (λ w. merged w x (first_joined (xs ++ ys) z)) joined ∙ merged-same x (first_joined (xs ++ ys) z) in
      let up : first_joined (xs ++ ys) p ≡ q = sym (with_same p) ∙ merged_joined p u (first_joined-first_joined (xs ++ e ∷ ys) u) ∙ with_same u in
      let down : first_joined (xs ++ e ∷ ys) q ≡ p = more_joined q u (first_joined-first_joined (xs ++ ys) u) in
      omega (arith, up, down, first_joined-le (xs ++ ys) p, first_joined-le (xs ++ e ∷ ys) q)

module _ (nodes : ℕ) (xs : List Link) (l : Link) (ys : List Link) (from : l.from < nodes) (to : l.to < nodes) where
  abbrev before : List Link
  before = xs ++ ys

  abbrev after : List Link
  after = xs ++ l ∷ ys

  more : (u v : ℕ) → first_node before u ≡ first_node before v → first_node after u ≡ first_node after v
  more u v same =
      let a = map_both xs ys in
      let b = map_append xs l ys in
      rw b (more_joined (ends_of_links xs) (ends_of_link l) (ends_of_links ys) u v (rw a at same))

  ends : first_node after l.from ≡ first_node after l.to
  ends = rw (map_append xs l ys) (ends_joined (ends_of_links xs) (ends_of_link l) (ends_of_links ys))

  fewer : (u v : ℕ) → first_node after u ≡ first_node after v → OneOf (first_node before l.from) (first_node before l.to) (first_node before u) (first_node before v)
  fewer u v same =
      let a = map_both xs ys in
      let b = map_append xs l ys in
      rw a (one-from_merged _ _ _ _ (merged_joined (ends_of_links xs) (ends_of_link l) (ends_of_links ys) u v (rw b at same)))

  same_first : first_node before l.from ≡ first_node before l.to → (u : ℕ) → first_node after u ≡ first_node before u
  same_first joined u =
      let a = map_both xs ys in
      let b = map_append xs l ys in
      rw (a, b) (first_same (ends_of_links xs) (ends_of_link l) (ends_of_links ys) (rw a at joined) u)

  -- the bus after of the first node of a bus before
  abbrev name : ℕ → ℕ
  name b = bus_under nodes before after b

  first_of : (b u : ℕ) → u < nodes → bus_of before u ≡ b → name b ≡ bus_of after u
  first_of b u low is =
      let member : name (bus_of before u) ≡ bus_of after (first_node before u) = ap (bus_of after) (first_member nodes before u low).1 in
      sym (ap name is) ∙ member ∙ ap (count_below (is_first_node after)) (more (first_node before u) u (first_joined-first_joined (ends_of_links before) u))

  pub bus_under-node : (u : ℕ) → u < nodes → bus_of after u ≡ name (bus_of before u)
  bus_under-node u low = sym (first_of (bus_of before u) u low refl)

  bus_same : (u v : ℕ) → first_node before u ≡ first_node before v → bus_of before u ≡ bus_of before v
  bus_same u v same = ap (count_below (is_first_node before)) same

  one_after : (u v : ℕ) → OneOf (bus_of before l.from) (bus_of before l.to) (bus_of before u) (bus_of before v) → first_node after u ≡ first_node after v
  one_after u v (inl e) = more u v (same_first-from_same_bus before u v e)
  one_after u v (inr (inl (p, q))) =
      more u l.from (same_first-from_same_bus before u l.from p) ∙ ends ∙ sym (more v l.to (same_first-from_same_bus before v l.to q))
  one_after u v (inr (inr (p, q))) =
      more u l.to (same_first-from_same_bus before u l.to p) ∙ sym ends ∙ sym (more v l.from (same_first-from_same_bus before v l.from q))

  by_buses : (u v : ℕ) → OneOf (first_node before l.from) (first_node before l.to) (first_node before u) (first_node before v) → OneOf (bus_of before l.from) (bus_of before l.to) (bus_of before u) (bus_of before v)
  by_buses u v (inl e) = inl (bus_same u v e)
  by_buses u v (inr (inl (p, q))) = inr (inl (bus_same u l.from p, bus_same v l.to q))
  by_buses u v (inr (inr (p, q))) = inr (inr (bus_same u l.to p, bus_same v l.from q))

  -- two buses become one, where the ends of the link lie on two
  pub merges-one_more : (first_node before l.from ≡ first_node before l.to → ⊥) → IsMerging (bus_count nodes before) (bus_count nodes after) (bus_of before l.from) (bus_of before l.to) name
  merges-one_more apart =
      record {
        s_low = bus_of-below nodes before l.from from;
        t_low = bus_of-below nodes before l.to to;
        apart = λ same. apart (same_first-from_same_bus before l.from l.to same);
        into = λ b low. let u = bus_at nodes before b low in rw (first_of b u.0 u.1 u.2) (bus_of-below nodes after u.0 u.1);
        one = λ b c low_b low_c.
            let u = bus_at nodes before b low_b in
            let v = bus_at nodes before c low_c in
            one u.0 v.0 b c u.1 v.1 u.2 v.2;
      }
    where
      one : (u v b c : ℕ) → u < nodes → v < nodes → bus_of before u ≡ b → bus_of before v ≡ c → (name b ≡ name c) ↔ (glue (bus_of before l.from) (bus_of before l.to) b ≡ glue (bus_of before l.from) (bus_of before l.to) c)
      one u v b c low_u low_v is_b is_c = (
        (λ same.
            let buses : bus_of after u ≡ bus_of after v = sym (first_of b u low_u is_b) ∙ same ∙ first_of c v low_v is_c in
            let some = by_buses u v (fewer u v (same_first-from_same_bus after u v buses)) in
            let g = glue (bus_of before l.from) (bus_of before l.to) in
            sym (ap g is_b) ∙ glue-from_one (bus_of before l.from) (bus_of before l.to) (bus_of before u) (bus_of before v) some ∙ ap g is_c),
        (λ same.
            let g = glue (bus_of before l.from) (bus_of before l.to) in
            let some = one-from_glue (bus_of before l.from) (bus_of before l.to) (bus_of before u) (bus_of before v) (ap g is_b ∙ same ∙ sym (ap g is_c)) in
            first_of b u low_u is_b ∙ ap (count_below (is_first_node after)) (one_after u v some) ∙ sym (first_of c v low_v is_c)),
      )

  -- no bus changes, where the ends of the link lie on one
  test_same : first_node before l.from ≡ first_node before l.to → (u : ℕ) → is_first_node after u ≡ is_first_node before u
  test_same joined u = ap (λ n. eqb n u) (same_first joined u)

  pub bus_of-one_more : first_node before l.from ≡ first_node before l.to → (u : ℕ) → bus_of after u ≡ bus_of before u
  bus_of-one_more joined u =
      ap (count_below (is_first_node after)) (same_first joined u)
      ∙ count_below-agree (is_first_node after) (is_first_node before) (first_node before u) (λ k low. test_same joined k)

  pub bus_count-one_more : first_node before l.from ≡ first_node before l.to → bus_count nodes after ≡ bus_count nodes before
  bus_count-one_more joined = count_below-agree (is_first_node after) (is_first_node before) nodes (λ k low. test_same joined k)

  pub buses_of-one_more : first_node before l.from ≡ first_node before l.to → buses_of nodes after ≡ buses_of nodes before
  buses_of-one_more joined = map_same (range_with_len 0 nodes)
    where
      map_same : (us : List ℕ) → map (bus_of after) us ≡ map (bus_of before) us
      map_same [] = refl
      map_same (u ∷ us) = rw (bus_of-one_more joined u, map_same us) refl
