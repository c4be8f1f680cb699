-- Vertices that become one as the pairs of a list join them.
use Rattle.std.proofs.Common.{◌⊎◌, inl, inr, ◌≡◌, ◌≢◌, ◌↔◌, ℕ, suc, ◌+◌, ◌-◌, ◌<◌, ◌≤◌, eqb, ⊎_elim, List, [], ◌∷◌, ◌++◌, sym, ap, ◌∙◌, subst, arith}
use Rattle.std.specs.Prelude.{IsTrue, nat_lt}
use Rattle.std.specs.List.{Contains}
use Rattle.std.proofs.lemmas.List.{append-nil}
use Rattle.std.proofs.lemmas.List.Elements.{Contains-append_left, Contains-append_right, Contains-append_cases, All-append, All-nil, All-cons}
use Rattle.std.proofs.lemmas.Bool.{cases_eq, cases_lt, cond-true, cond-false, eq-eqb, eqb-true, lt-ltb, le-ltb}
use Rattle.obs_graph.specs.declared.Ends.{Ends}
use Rattle.obs_graph.specs.Joined.{first_joined, is_joined, rank}
use Rattle.obs_graph.specs.inner.Joined.{InRange, renamed, renamed_one, shifted, beside, glue, IsMerging, AreMergedBy}
use Rattle.obs_graph.proofs.Chains.{Contains-here, Contains-there, Contains-cases, first_joined-contains, same_from_Chain, Chain-from_same_first}
use Rattle.obs_graph.proofs.First.{first_joined-le}
use Rattle.obs_graph.proofs.IsJoined.{same-from_true, true-from_same}
use Rattle.obs_graph.proofs.Ranks.{rank-add_joined, rank-add_new}
use Rattle.obs_graph.proofs.Forests.{same_first-among, rank-among, rank-add-le, rank-nil, in_range_head, in_range_tail, among_front, among_back}
use Rattle.obs_graph.proofs.Shapes.{Contains-renamed, renamed-contains, same_along_names, ends_by_names, same_tests, range_at, is_joined-merged}

-- new names raise no rank
pub rank-renamed_le : (n m : ℕ) (h : ℕ → ℕ) → ((u : ℕ) → u < n → h u < m) → (es : List Ends) → InRange n es → rank m (renamed h es) ≤ rank n es
rank-renamed_le n m h low [] range = omega (arith, rank-nil m)
rank-renamed_le n m h low (e ∷ es) range =
    let here = in_range_head n e es range in
    let i : rank m (renamed h es) ≤ rank n es = rank-renamed_le n m h low es (in_range_tail n e es range) in
    let d = renamed_one h e in
    ⊎_elim
    (λ (joined : first_joined es e.a ≡ first_joined es e.b).
    let named : first_joined (renamed h es) (h e.a) ≡ first_joined (renamed h es) (h e.b) =
    same_from_Chain (λ x. first_joined (renamed h es) (h x)) es (ends_by_names h es) (Chain-from_same_first es e.a e.b joined) in
    let new : rank m (d ∷ renamed h es) ≡ rank m (renamed h es) = rank-add_joined m d (renamed h es) named in
    let old : rank n (e ∷ es) ≡ rank n es = rank-add_joined n e es joined in
    omega arith)
    (λ (apart : first_joined es e.a ≡ first_joined es e.b → ⊥).
    let new : rank m (d ∷ renamed h es) ≤ suc (rank m (renamed h es)) = rank-add-le m d (renamed h es) (low e.a here.0) (low e.b here.1) in
    let old : rank n (e ∷ es) ≡ suc (rank n es) = rank-add_new n e es here.0 here.1 apart in
    omega arith)
    (cases_eq (first_joined es e.a) (first_joined es e.b))

module _ (n m : ℕ) (merges : List Ends) (h : ℕ → ℕ) (by_list : AreMergedBy n m merges h) where
  -- vertices of one new name are joined by the list
  named_same : (es : List Ends) (u v : ℕ) → u < n → v < n → h u ≡ h v → first_joined (merges ++ es) u ≡ first_joined (merges ++ es) v
  named_same es u v lu lv same =
      same_first-among merges (merges ++ es) (λ e has. Contains-append_left merges es e has) u v (same-from_true merges u v ((by_list.one u v lu lv).0 same))

  pub joined_before : (es : List Ends) → InRange n es → (u v : ℕ) → u < n → v < n → first_joined (renamed h es) (h u) ≡ first_joined (renamed h es) (h v) → first_joined (merges ++ es) u ≡ first_joined (merges ++ es) v
  joined_before es range =
      same_along_names n h (first_joined (merges ++ es)) es (named_same es) (range_at n es range) (λ e has. first_joined-contains (merges ++ es) e (Contains-append_right merges es e has))

  pub joined_after : (es : List Ends) (u v : ℕ) → first_joined (merges ++ es) u ≡ first_joined (merges ++ es) v → first_joined (renamed h es) (h u) ≡ first_joined (renamed h es) (h v)
  joined_after es u v same =
      let f : ℕ → ℕ = λ x. first_joined (renamed h es) (h x) in
      let merged_ends = λ (e : Ends) (has : Contains merges e).
      let low = range_at n merges by_list.in_range e has in
      let named : h e.a ≡ h e.b = (by_list.one e.a e.b low.0 low.1).1 (true-from_same merges e.a e.b (first_joined-contains merges e has)) in
      ap (first_joined (renamed h es)) named in
      same_from_Chain f (merges ++ es) (λ e has. ⊎_elim
      (λ there. merged_ends e there)
      (λ there. ends_by_names h es e there)
      (Contains-append_cases merges es e has)) (Chain-from_same_first (merges ++ es) u v same)

  pub is_joined-merged_by : (es : List Ends) → InRange n es → (u v : ℕ) → u < n → v < n → is_joined (renamed h es) (h u) (h v) ≡ is_joined (merges ++ es) u v
  is_joined-merged_by es range u v lu lv =
      same_tests (first_joined (renamed h es) (h u)) (first_joined (renamed h es) (h v)) (first_joined (merges ++ es) u) (first_joined (merges ++ es) v)
      (joined_before es range u v lu lv) (joined_after es u v)

  pub rank-merged_by : (es : List Ends) → InRange n es → rank n (merges ++ es) ≡ rank m (renamed h es) + rank n merges
  rank-merged_by [] range =
      let all : rank n (merges ++ []) ≡ rank n merges = ap (rank n) (append-nil merges) in
      omega (arith, rank-nil m)
  rank-merged_by (e ∷ es) range =
      let here = in_range_head n e es range in
      let rest = in_range_tail n e es range in
      let i : rank n (merges ++ es) ≡ rank m (renamed h es) + rank n merges = rank-merged_by es rest in
      let le : rank n (merges ++ e ∷ es) ≤ rank n (e ∷ (merges ++ es)) = rank-among n (merges ++ e ∷ es) (e ∷ (merges ++ es)) (among_front merges e es) in
      let ge : rank n (e ∷ (merges ++ es)) ≤ rank n (merges ++ e ∷ es) = rank-among n (e ∷ (merges ++ es)) (merges ++ e ∷ es) (among_back merges e es) in
      let d = renamed_one h e in
      ⊎_elim
      (λ (joined : first_joined (renamed h es) (h e.a) ≡ first_joined (renamed h es) (h e.b)).
      let old : rank n (e ∷ (merges ++ es)) ≡ rank n (merges ++ es) = rank-add_joined n e (merges ++ es) (joined_before es rest e.a e.b here.0 here.1 joined) in
      let new : rank m (d ∷ renamed h es) ≡ rank m (renamed h es) = rank-add_joined m d (renamed h es) joined in
      omega arith)
      (λ (apart : first_joined (renamed h es) (h e.a) ≡ first_joined (renamed h es) (h e.b) → ⊥).
      let old : rank n (e ∷ (merges ++ es)) ≡ suc (rank n (merges ++ es)) = rank-add_new n e (merges ++ es) here.0 here.1 (λ same. apart (joined_after es e.a e.b same)) in
      let new : rank m (d ∷ renamed h es) ≡ suc (rank m (renamed h es)) = rank-add_new m d (renamed h es) (by_list.into e.a here.0) (by_list.into e.b here.1) apart in
      omega arith)
      (cases_eq (first_joined (renamed h es) (h e.a)) (first_joined (renamed h es) (h e.b)))

  -- the rank falls at most by the rank of the list, and so by its length
  pub rank-merges : (es : List Ends) → InRange n es → rank n es ≤ rank m (renamed h es) + rank n merges
  rank-merges es range =
      let more : rank n es ≤ rank n (merges ++ es) = rank-among n es (merges ++ es) (λ e has. Contains-append_right merges es e has) in
      let all = rank-merged_by es range in
      omega (arith, all, more)

-- a list of one pair joins what one merge makes one
glue_by_pair : (n s t : ℕ) → s < n → t < n → (u v : ℕ) → u < n → v < n → eqb (glue s t u) (glue s t v) ≡ is_joined (record { a = s; b = t } ∷ []) u v
glue_by_pair n s t ls lt u v lu lv =
    is_joined-merged n s t (glue s t) [] (λ x y lx ly. (λ same. same, λ same. same)) ls lt (All-nil (λ e. (e.a < n) × (e.b < n))) u v lu lv

-- where no pairs are listed, each vertex stays
pub merged_by-nothing : (n : ℕ) → AreMergedBy n n [] (λ v. v)
merged_by-nothing n = record {
  in_range = All-nil (λ e. (e.a < n) × (e.b < n));
  into = λ u l. l;
  one = λ u v lu lv. (λ same. eq-eqb u v same, λ joined. eqb-true u v joined);
}

pub merged_by-one : (n m s t : ℕ) (h : ℕ → ℕ) → IsMerging n m s t h → AreMergedBy n m (record { a = s; b = t } ∷ []) h
merged_by-one n m s t h one =
    record {
      in_range = All-cons (λ (e : Ends). (e.a < n) × (e.b < n)) (record { a = s; b = t }) [] (one.s_low, one.t_low) (All-nil (λ e. (e.a < n) × (e.b < n)));
      into = one.into;
      one = λ u v lu lv.
          let test = glue_by_pair n s t one.s_low one.t_low u v lu lv in
          let names = one.one u v lu lv in
          (λ same. sym test ∙ eq-eqb (glue s t u) (glue s t v) (names.0 same), λ joined. names.1 (eqb-true (glue s t u) (glue s t v) (test ∙ joined)));
    }

pub merged_by-from_one : (n m s t : ℕ) (h : ℕ → ℕ) → s ≢ t → AreMergedBy n m (record { a = s; b = t } ∷ []) h → IsMerging n m s t h
merged_by-from_one n m s t h ne by_list =
    let low = in_range_head n (record { a = s; b = t }) [] by_list.in_range in
    record {
      s_low = low.0;
      t_low = low.1;
      apart = ne;
      into = by_list.into;
      one = λ u v lu lv.
          let test = glue_by_pair n s t low.0 low.1 u v lu lv in
          let names = by_list.one u v lu lv in
          (λ same. eqb-true (glue s t u) (glue s t v) (test ∙ names.0 same), λ same. names.1 (sym test ∙ eq-eqb (glue s t u) (glue s t v) same));
    }

-- where branches don't join the first pair of a list, their rank falls by one less than the rank of the list at most
pub rank-merges_apart : (n m : ℕ) (e : Ends) (ms : List Ends) (h : ℕ → ℕ) → AreMergedBy n m (e ∷ ms) h → (es : List Ends) → InRange n es → (first_joined es e.a ≡ first_joined es e.b → ⊥)
    → suc (rank n es) ≤ rank m (renamed h es) + rank n (e ∷ ms)
rank-merges_apart n m e ms h by_list es range apart =
    let here = in_range_head n e ms by_list.in_range in
    let new : rank n (e ∷ es) ≡ suc (rank n es) = rank-add_new n e es here.0 here.1 apart in
    let more : rank n (e ∷ es) ≤ rank n ((e ∷ ms) ++ es) = rank-among n (e ∷ es) ((e ∷ ms) ++ es) (λ d has. ⊎_elim
    (λ (same : e ≡ d). subst (λ x. Contains (e ∷ ms ++ es) x) same (Contains-here e (ms ++ es)))
    (λ there. Contains-there e d (ms ++ es) (Contains-append_right ms es d there))
    (Contains-cases e d es has)) in
    let all = rank-merged_by n m (e ∷ ms) h by_list es range in
    omega (arith, new, more, all)

pub beside-low : (n m : ℕ) (h g : ℕ → ℕ) (v : ℕ) → v < n → beside n m h g v ≡ h v
beside-low n m h g v l = cond-true (nat_lt v n) (h v) (m + g (v - n)) (lt-ltb v n l)

pub beside-high : (n m : ℕ) (h g : ℕ → ℕ) (v : ℕ) → n ≤ v → beside n m h g v ≡ m + g (v - n)
beside-high n m h g v l = cond-false (nat_lt v n) (h v) (m + g (v - n)) (le-ltb v n l)

pub beside-shifted : (n m : ℕ) (h g : ℕ → ℕ) (v : ℕ) → beside n m h g (n + v) ≡ m + g v
beside-shifted n m h g v =
    let back : (n + v) - n ≡ v = omega arith in
    beside-high n m h g (n + v) (omega arith) ∙ ap (λ x. m + g x) back

-- vertices side by side: what joins vertices of the one set, and what joins those of the other
module _ (n m a b : ℕ) (ms ns : List Ends) (h g : ℕ → ℕ) (left : AreMergedBy n m ms h) (right : AreMergedBy a b ns g) where
  abbrev all : List Ends
  all = ms ++ shifted n ns

  abbrev name : ℕ → ℕ
  name = beside n m h g

  -- the first vertex that the list joins with one
  abbrev first : ℕ → ℕ
  first = beside n n (first_joined ms) (first_joined ns)

  first_same : (u v : ℕ) → first_joined all u ≡ first_joined all v → first u ≡ first v
  first_same u v same =
      same_from_Chain first all (λ e has. ⊎_elim
      (λ there.
      let low = range_at n ms left.in_range e there in
      beside-low n n (first_joined ms) (first_joined ns) e.a low.0 ∙ first_joined-contains ms e there ∙ sym (beside-low n n (first_joined ms) (first_joined ns) e.b low.1))
      (λ there.
      let d = renamed-contains (λ v. n + v) ns e there in
      subst (λ (x : Ends). first x.a ≡ first x.b) d.2
      (beside-shifted n n (first_joined ms) (first_joined ns) d.0.a ∙ ap (λ x. n + x) (first_joined-contains ns d.0 d.1) ∙ sym (beside-shifted n n (first_joined ms) (first_joined ns) d.0.b)))
      (Contains-append_cases ms (shifted n ns) e has)) (Chain-from_same_first all u v same)

  left_joined : (u v : ℕ) → first_joined ms u ≡ first_joined ms v → first_joined all u ≡ first_joined all v
  left_joined = same_first-among ms all (λ e has. Contains-append_left ms (shifted n ns) e has)

  right_joined : (u v : ℕ) → first_joined ns u ≡ first_joined ns v → first_joined all (n + u) ≡ first_joined all (n + v)
  right_joined u v same =
      same_from_Chain (λ x. first_joined all (n + x)) ns
      (λ e has. first_joined-contains all (renamed_one (λ v. n + v) e) (Contains-append_right ms (shifted n ns) (renamed_one (λ v. n + v) e) (Contains-renamed (λ v. n + v) ns e has)))
      (Chain-from_same_first ns u v same)

  -- two vertices have one name exactly where the list joins them
  abbrev IsOne : ℕ → ℕ → Type 0
  IsOne u v = (name u ≡ name v) ↔ IsTrue (is_joined all u v)

  -- of two vertices of the one set
  both_low : (u v : ℕ) → u < n → v < n → IsOne u v
  both_low u v lu lv =
      let names = left.one u v lu lv in
      let f = first_joined ms in
      let k = first_joined ns in (
        (λ same.
            let old : h u ≡ h v = sym (beside-low n m h g u lu) ∙ same ∙ beside-low n m h g v lv in
            true-from_same all u v (left_joined u v (same-from_true ms u v (names.0 old)))),
        (λ joined.
            let firsts : f u ≡ f v = sym (beside-low n n f k u lu) ∙ first_same u v (same-from_true all u v joined) ∙ beside-low n n f k v lv in
            beside-low n m h g u lu ∙ names.1 (true-from_same ms u v firsts) ∙ sym (beside-low n m h g v lv)),
      )

  -- and of the other
  both_high : (u v : ℕ) → u < a → v < a → IsOne (n + u) (n + v)
  both_high u v lu lv =
      let names = right.one u v lu lv in
      let f = first_joined ms in
      let k = first_joined ns in (
        (λ same.
            let old : m + g u ≡ m + g v = sym (beside-shifted n m h g u) ∙ same ∙ beside-shifted n m h g v in
            true-from_same all (n + u) (n + v) (right_joined u v (same-from_true ns u v (names.0 (omega (arith, old)))))),
        (λ joined.
            let firsts : n + k u ≡ n + k v = sym (beside-shifted n n f k u) ∙ first_same (n + u) (n + v) (same-from_true all (n + u) (n + v) joined) ∙ beside-shifted n n f k v in
            beside-shifted n m h g u ∙ ap (λ x. m + x) (names.1 (true-from_same ns u v (omega (arith, firsts)))) ∙ sym (beside-shifted n m h g v)),
      )

  -- one of the one set and one of the other have different names, and are never joined
  names_differ : (u v : ℕ) → u < n → v < a → name u ≡ name (n + v) → ⊥
  names_differ u v lu lv same =
      let is : h u ≡ m + g v = sym (beside-low n m h g u lu) ∙ same ∙ beside-shifted n m h g v in
      absurd (omega (arith, is, left.into u lu))

  never_joined : (u v : ℕ) → u < n → v < a → first_joined all u ≡ first_joined all (n + v) → ⊥
  never_joined u v lu lv joined =
      let f = first_joined ms in
      let k = first_joined ns in
      let firsts : f u ≡ n + k v = sym (beside-low n n f k u lu) ∙ first_same u (n + v) joined ∙ beside-shifted n n f k v in
      absurd (omega (arith, firsts, first_joined-le ms u, lu))

  low_high : (u v : ℕ) → u < n → v < a → IsOne u (n + v)
  low_high u v lu lv = (
    (λ same. absurd (names_differ u v lu lv same)),
    (λ joined. absurd (never_joined u v lu lv (same-from_true all u (n + v) joined))),
  )

  high_low : (u v : ℕ) → u < a → v < n → IsOne (n + u) v
  high_low u v lu lv = (
    (λ same. absurd (names_differ v u lv lu (sym same))),
    (λ joined. absurd (never_joined v u lv lu (sym (same-from_true all (n + u) v joined)))),
  )

  -- each vertex is of one of the two sets
  of_one : (u : ℕ) → u < n + a → (u < n) ⊎ ((w : ℕ) × (w < a) × (u ≡ n + w))
  of_one u l = elim (cases_lt u n) [ inl low ↦ inl low | inr high ↦ inr (u - n, omega (arith, l, high), omega (arith, high)) ]

  one_beside : (u v : ℕ) → u < n + a → v < n + a → IsOne u v
  one_beside u v lu lv =
      elim (of_one u lu) [
        | inl low ↦ elim (of_one v lv) [
          | inl below ↦ both_low u v low below
          | inr y ↦ subst (λ x. IsOne u x) (sym y.2) (low_high u y.0 low y.1)
        ]
        | inr w ↦ subst (λ x. IsOne x v) (sym w.2) (elim (of_one v lv) [
          | inl below ↦ high_low w.0 v w.1 below
          | inr y ↦ subst (λ x. IsOne (n + w.0) x) (sym y.2) (both_high w.0 y.0 w.1 y.1)
        ])
      ]

  into_beside : (u : ℕ) → u < n + a → name u < m + b
  into_beside u l =
      elim (of_one u l) [
        | inl low ↦ omega (arith, beside-low n m h g u low, left.into u low)
        | inr w ↦ omega (arith, ap name w.2, beside-shifted n m h g w.0, right.into w.0 w.1)
      ]

  range_beside : InRange (n + a) all
  range_beside =
      All-append (λ (e : Ends). (e.a < n + a) × (e.b < n + a)) ms (shifted n ns)
      (λ k d l. let at = left.in_range k d l in (omega (arith, at.0), omega (arith, at.1)))
      (higher ns right.in_range)
    where
      higher : (es : List Ends) → InRange a es → InRange (n + a) (shifted n es)
      higher [] range = All-nil (λ (e : Ends). (e.a < n + a) × (e.b < n + a))
      higher (e ∷ es) range =
          let here = in_range_head a e es range in
          All-cons (λ (e : Ends). (e.a < n + a) × (e.b < n + a)) (renamed_one (λ v. n + v) e) (shifted n es) (omega (arith, here.0), omega (arith, here.1)) (higher es (in_range_tail a e es range))

  -- two lists of merges side by side
  pub merged_beside : AreMergedBy (n + a) (m + b) (ms ++ shifted n ns) (beside n m h g)
  merged_beside = record { in_range = range_beside; into = into_beside; one = one_beside }
