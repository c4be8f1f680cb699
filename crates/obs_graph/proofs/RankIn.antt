-- The rank of a list of branches in a set of vertices.
use Rattle.std.proofs.Common.{◌≡◌, ℕ, zero, suc, ◌<◌, ◌≤◌, max, Bool, true, false, cond, ◌||◌, ◌&&◌, ◌⊎◌, inl, inr, ⊎_elim, List, [], ◌∷◌, length, refl, sym, ap, ◌∙◌, subst, arith}
use Rattle.std.specs.List.{Contains}
use Rattle.std.proofs.lemmas.Bool.{cases_eq, cases_lt, cases_Bool, and_from, and_parts, or_cases, cond-true, cond-false, true≢false}
use Rattle.std.proofs.lemmas.List.Elements.{All-head, All-tail}
use Rattle.std.specs.Cmp.Derive.{one_truth}
use Rattle.obs_graph.specs.declared.Ends.{Ends}
use Rattle.obs_graph.specs.Joined.{is_joined, first_joined, some_below, IsForest}
use Rattle.obs_graph.specs.inner.Joined.{joined_by, rank_in, InRange, LiesIn}
use Rattle.obs_graph.proofs.Counts.{count_below-agree, count_below-le, count_below-one_more, count_below-none, some_below-true, some_below-from_true}
use Rattle.obs_graph.proofs.First.{first_joined-ends}
use Rattle.obs_graph.proofs.Chains.{Contains-there, same_first-more}
use Rattle.obs_graph.proofs.Ranks.{first_joined-add_joined}
use Rattle.obs_graph.proofs.IsJoined.{same-from_true, true-from_same}
use Rattle.obs_graph.proofs.Forests.{same_first-among, Grows, Grows-from_IsForest, IsForest-from_Grows, SameFirst, in_range_head, in_range_tail}
use Rattle.obs_graph.proofs.Exchange.{joined_by-is_joined}

-- the least of the numbers below n that pass, where one does
abbrev pub least : (ℕ → Bool) → ℕ → ℕ
least p zero = 0
least p (suc n) = cond (some_below p n) (least p n) n

least-pass : (p : ℕ → Bool) (n : ℕ) → some_below p n ≡ true → (p (least p n) ≡ true) × (least p n < n)
least-pass p zero e = absurd cc
least-pass p (suc n) e =
    ⊎_elim
    (λ (low : some_below p n ≡ true).
    let r = least-pass p n low in
    let is : least p (suc n) ≡ least p n = cond-true (some_below p n) (least p n) n low in
    (ap p is ∙ r.0, omega (arith, r.1)))
    (λ (none : some_below p n ≡ false).
    let is : least p (suc n) ≡ n = cond-false (some_below p n) (least p n) n none in
    let here : p n ≡ true = ⊎_elim (λ h. h) (λ low. absurd (true≢false (sym low ∙ none))) (or_cases (p n) (some_below p n) e) in
    (ap p is ∙ here, omega arith))
    (cases_Bool (some_below p n))

least-le : (p : ℕ → Bool) (n k : ℕ) → k < n → p k ≡ true → least p n ≤ k
least-le p zero k l e = absurd (omega arith)
least-le p (suc n) k l e =
    ⊎_elim
    (λ (low : some_below p n ≡ true).
    let is : least p (suc n) ≡ least p n = cond-true (some_below p n) (least p n) n low in
    ⊎_elim
    (λ (less : k < n). omega (arith, least-le p n k less e))
    (λ (same : n ≤ k). omega (arith, (least-pass p n low).1))
    (cases_lt k n))
    (λ (none : some_below p n ≡ false).
    let is : least p (suc n) ≡ n = cond-false (some_below p n) (least p n) n none in
    ⊎_elim
    (λ (less : k < n). absurd (true≢false (sym (some_below-true p n k less e) ∙ none)))
    (λ (same : n ≤ k). omega arith)
    (cases_lt k n))
    (cases_Bool (some_below p n))

-- whether u is counted: it is joined with a lower one of the set
abbrev pub is_counted : (ℕ → Bool) → List Ends → ℕ → Bool
is_counted inside es u = inside u && some_below (λ v. inside v && is_joined es u v) u

module _ (inside : ℕ → Bool) (es : List Ends) where
  pub counted : (u v : ℕ) → inside u ≡ true → inside v ≡ true → v < u → first_joined es u ≡ first_joined es v → is_counted inside es u ≡ true
  counted u v in_u in_v l same =
      and_from (inside u) (some_below (λ w. inside w && is_joined es u w) u) in_u
      (some_below-true (λ w. inside w && is_joined es u w) u v l (and_from (inside v) (is_joined es u v) in_v (true-from_same es u v same)))

  pub counted-from : (u : ℕ) → is_counted inside es u ≡ true → (inside u ≡ true) × (v : ℕ) × (v < u) × (inside v ≡ true) × (first_joined es u ≡ first_joined es v)
  counted-from u e =
      let some = some_below-from_true (λ w. inside w && is_joined es u w) u (and_parts (inside u) (some_below (λ w. inside w && is_joined es u w) u) e).1 in
      let v = some.0 in (
        (and_parts (inside u) (some_below (λ w. inside w && is_joined es u w) u) e).0,
        v,
        some.1,
        (and_parts (inside v) (is_joined es u v) some.2).0,
        same-from_true es u v (and_parts (inside v) (is_joined es u v) some.2).1,
      )

  -- the first of the set's vertices that are joined with u
  abbrev pub low : ℕ → ℕ
  low u = least (λ v. inside v && is_joined es u v) (suc u)

  pub low-facts : (u : ℕ) → inside u ≡ true → (inside (low u) ≡ true) × (first_joined es u ≡ first_joined es (low u)) × (low u ≤ u)
  low-facts u in_u =
      let p : ℕ → Bool = λ v. inside v && is_joined es u v in
      let some : some_below p (suc u) ≡ true = some_below-true p (suc u) u (omega arith) (and_from (inside u) (is_joined es u u) in_u (true-from_same es u u refl)) in
      let r = least-pass p (suc u) some in
      let l : low u < suc u = r.1 in
      ((and_parts (inside (low u)) (is_joined es u (low u)) r.0).0, same-from_true es u (low u) (and_parts (inside (low u)) (is_joined es u (low u)) r.0).1, omega arith)

  pub low-le : (u v : ℕ) → inside u ≡ true → inside v ≡ true → first_joined es u ≡ first_joined es v → low u ≤ v
  low-le u v in_u in_v same =
      ⊎_elim
      (λ (l : v < suc u). least-le (λ w. inside w && is_joined es u w) (suc u) v l (and_from (inside v) (is_joined es u v) in_v (true-from_same es u v same)))
      (λ (l : suc u ≤ v). let f = (low-facts u in_u).2 in omega arith)
      (cases_lt v (suc u))

  -- the first is not counted
  pub low-uncounted : (u : ℕ) → inside u ≡ true → is_counted inside es (low u) ≡ false
  low-uncounted u in_u =
      ⊎_elim
      (λ (yes_it : is_counted inside es (low u) ≡ true).
      let c = counted-from (low u) yes_it in
      let v = c.1 in
      let le = low-le u v in_u c.3 ((low-facts u in_u).1 ∙ c.4) in
      let less : v < low u = c.2 in
      absurd (omega arith))
      (λ no_it. no_it)
      (cases_Bool (is_counted inside es (low u)))

-- what joins more counts more
pub is_counted-more : (inside : ℕ → Bool) (es fs : List Ends) → ((u v : ℕ) → first_joined es u ≡ first_joined es v → first_joined fs u ≡ first_joined fs v) → (u : ℕ) → is_counted inside es u ≡ true → is_counted inside fs u ≡ true
is_counted-more inside es fs more u e =
    let c = counted-from inside es u e in
    counted inside fs u c.1 c.0 c.3 c.2 (more u c.1 c.4)

pub rank_in-le : (inside : ℕ → Bool) (n : ℕ) (es fs : List Ends) → ((e : Ends) → Contains es e → first_joined fs e.a ≡ first_joined fs e.b) → rank_in inside n es ≤ rank_in inside n fs
rank_in-le inside n es fs each =
    count_below-le (is_counted inside es) (is_counted inside fs) n (λ k l e. is_counted-more inside es fs (same_first-more es fs each) k e)

max_cases : (x y : ℕ) → (max x y ≡ x) ⊎ (max x y ≡ y)
max_cases x y = grind arith

-- one more branch between two of the set's vertices
module _ (inside : ℕ → Bool) (e : Ends) (es : List Ends) (in_a : inside e.a ≡ true) (in_b : inside e.b ≡ true) where
  keeps : (u v : ℕ) → first_joined es u ≡ first_joined es v → first_joined (e ∷ es) u ≡ first_joined (e ∷ es) v
  keeps u v same = same_first-among es (e ∷ es) (λ d has. Contains-there e d es has) u v same

  through : (u v : ℕ) → first_joined (e ∷ es) u ≡ first_joined (e ∷ es) v → (first_joined es u ≡ first_joined es v) ⊎ (((first_joined es u ≡ first_joined es e.a) × (first_joined es e.b ≡ first_joined es v)) ⊎ ((first_joined es u ≡ first_joined es e.b) × (first_joined es e.a ≡ first_joined es v)))
  through u v same =
      let t : joined_by (e ∷ es) u v ≡ true = joined_by-is_joined (e ∷ es) u v ∙ true-from_same (e ∷ es) u v same in
      ⊎_elim
      (λ first. ⊎_elim
      (λ old. inl (by_test u v old))
      (λ one. let b = and_parts (joined_by es u e.a) (joined_by es e.b v) one in inr (inl (by_test u e.a b.0, by_test e.b v b.1)))
      (or_cases (joined_by es u v) (joined_by es u e.a && joined_by es e.b v) first))
      (λ other. let b = and_parts (joined_by es u e.b) (joined_by es e.a v) other in inr (inr (by_test u e.b b.0, by_test e.a v b.1)))
      (or_cases (joined_by es u v || (joined_by es u e.a && joined_by es e.b v)) (joined_by es u e.b && joined_by es e.a v) t)
    where
      by_test : (x y : ℕ) → joined_by es x y ≡ true → first_joined es x ≡ first_joined es y
      by_test x y t = same-from_true es x y (sym (joined_by-is_joined es x y) ∙ t)

  -- a vertex whose first is the greater of the two firsts is counted now, and the others as before
  module _ (x y : ℕ) (x_is : x ≡ low inside es e.a) (y_is : y ≡ low inside es e.b) (new : SameFirst es e → ⊥) where
    facts_a : (inside x ≡ true) × (first_joined es e.a ≡ first_joined es x)
    facts_a = let f = low-facts inside es e.a in_a in (ap inside x_is ∙ f.0, f.1 ∙ ap (first_joined es) (sym x_is))

    facts_b : (inside y ≡ true) × (first_joined es e.b ≡ first_joined es y)
    facts_b = let f = low-facts inside es e.b in_b in (ap inside y_is ∙ f.0, f.1 ∙ ap (first_joined es) (sym y_is))

    firsts_differ : x ≡ y → ⊥
    firsts_differ same = new (facts_a.1 ∙ (ap (first_joined es) same ∙ sym facts_b.1))

    ends_joined : first_joined (e ∷ es) x ≡ first_joined (e ∷ es) y
    ends_joined = sym (keeps e.a x facts_a.1) ∙ (first_joined-ends e es ∙ keeps e.b y facts_b.1)

    low_of_a : (u : ℕ) → inside u ≡ true → first_joined es u ≡ first_joined es e.a → x ≤ u
    low_of_a u in_u same = let l : low inside es e.a ≤ u = low-le inside es e.a u in_a in_u (sym same) in omega arith

    low_of_b : (u : ℕ) → inside u ≡ true → first_joined es u ≡ first_joined es e.b → y ≤ u
    low_of_b u in_u same = let l : low inside es e.b ≤ u = low-le inside es e.b u in_b in_u (sym same) in omega arith

    -- u hangs on one end and v, which is lower, on the other; u is not the greater first
    hangs : (u v p q : ℕ) → inside u ≡ true → v < u → inside p ≡ true → first_joined es u ≡ first_joined es p → p ≤ u → q ≤ v → (u ≡ max p q → ⊥) → is_counted inside es u ≡ true
    hangs u v p q in_u l in_p same pu qv ne =
        ⊎_elim
        (λ (less : p < u). counted inside es u p in_u in_p less same)
        (λ (at : u ≤ p). absurd (ne (top u v p q l pu qv at)))
        (cases_lt p u)
      where
        top : (u v p q : ℕ) → v < u → p ≤ u → q ≤ v → u ≤ p → u ≡ max p q
        top u v p q l pu qv at = grind arith

    others_same : (u : ℕ) → (u ≡ max x y → ⊥) → is_counted inside es u ≡ is_counted inside (e ∷ es) u
    others_same u ne =
        one_truth (is_counted inside es u) (is_counted inside (e ∷ es) u) (is_counted-more inside es (e ∷ es) keeps u) (λ now.
        let c = counted-from inside (e ∷ es) u now in
        ⊎_elim
        (λ old. counted inside es u c.1 c.0 c.3 c.2 old)
        (λ hung. ⊎_elim
        (λ at_a. hangs u c.1 x y c.0 c.2 facts_a.0 (at_a.0 ∙ facts_a.1) (low_of_a u c.0 at_a.0) (low_of_b c.1 c.3 (sym at_a.1)) ne)
        (λ at_b. hangs u c.1 y x c.0 c.2 facts_b.0 (at_b.0 ∙ facts_b.1) (low_of_b u c.0 at_b.0) (low_of_a c.1 c.3 (sym at_b.1)) (λ same. ne (same ∙ max_swap y x)))
        hung)
        (through u c.1 c.4))
      where
        max_swap : (p q : ℕ) → max p q ≡ max q p
        max_swap p q = grind arith

    top_was : is_counted inside es (max x y) ≡ false
    top_was =
        ⊎_elim
        (λ (is : max x y ≡ x). ap (is_counted inside es) (is ∙ x_is) ∙ low-uncounted inside es e.a in_a)
        (λ (is : max x y ≡ y). ap (is_counted inside es) (is ∙ y_is) ∙ low-uncounted inside es e.b in_b)
        (max_cases x y)

    top_is : is_counted inside (e ∷ es) (max x y) ≡ true
    top_is =
        ⊎_elim
        (λ (less : x < y). subst (λ t. is_counted inside (e ∷ es) t ≡ true) (top_of x y less) (counted inside (e ∷ es) y x facts_b.0 facts_a.0 less (sym ends_joined)))
        (λ (more : y ≤ x). subst (λ t. is_counted inside (e ∷ es) t ≡ true) (top_of_other x y more) (counted inside (e ∷ es) x y facts_a.0 facts_b.0 (lower more) ends_joined))
        (cases_lt x y)
      where
        top_of : (x y : ℕ) → x < y → y ≡ max x y
        top_of x y l = grind arith

        top_of_other : (x y : ℕ) → y ≤ x → x ≡ max x y
        top_of_other x y l = grind arith

        lower : y ≤ x → y < x
        lower l = ⊎_elim (λ (less : y < x). less) (λ (at : x ≤ y). absurd (firsts_differ (omega arith))) (cases_lt y x)

    rank_in-raised : (n : ℕ) → e.a < n → e.b < n → rank_in inside n (e ∷ es) ≡ suc (rank_in inside n es)
    rank_in-raised n la lb =
        let fa = (low-facts inside es e.a in_a).2 in
        let fb = (low-facts inside es e.b in_b).2 in
        let l : max x y < n = ⊎_elim (λ (is : max x y ≡ x). omega arith) (λ (is : max x y ≡ y). omega arith) (max_cases x y) in
        count_below-one_more (is_counted inside es) (is_counted inside (e ∷ es)) (max x y) n l top_was top_is (λ k lk ne. others_same k ne)

  pub rank_in-add_new : (n : ℕ) → e.a < n → e.b < n → (SameFirst es e → ⊥) → rank_in inside n (e ∷ es) ≡ suc (rank_in inside n es)
  rank_in-add_new n la lb new = rank_in-raised (low inside es e.a) (low inside es e.b) refl refl new n la lb

pub rank_in-add_joined : (inside : ℕ → Bool) (n : ℕ) (e : Ends) (es : List Ends) → SameFirst es e → rank_in inside n (e ∷ es) ≡ rank_in inside n es
rank_in-add_joined inside n e es same =
    count_below-agree (is_counted inside (e ∷ es)) (is_counted inside es) n (λ k l.
    one_truth (is_counted inside (e ∷ es) k) (is_counted inside es k)
    (is_counted-more inside (e ∷ es) es (λ u v joined. sym (first_joined-add_joined e es same u) ∙ (joined ∙ first_joined-add_joined e es same v)) k)
    (is_counted-more inside es (e ∷ es) (λ u v joined. first_joined-add_joined e es same u ∙ (joined ∙ sym (first_joined-add_joined e es same v))) k))

pub rank_in-nil : (inside : ℕ → Bool) (n : ℕ) → rank_in inside n [] ≡ 0
rank_in-nil inside n =
    count_below-none (is_counted inside []) n (λ u l. ⊎_elim
    (λ (yes_it : is_counted inside [] u ≡ true). let c = counted-from inside [] u yes_it in let lower : c.1 < u = c.2 in absurd (omega (arith, c.4)))
    (λ no_it. no_it)
    (cases_Bool (is_counted inside [] u)))

-- both ends of each branch lie in the set
in_head : (inside : ℕ → Bool) (e : Ends) (es : List Ends) → LiesIn inside (e ∷ es) → (inside e.a ≡ true) × (inside e.b ≡ true)
in_head inside e es lies = All-head (λ e. (inside e.a ≡ true) × (inside e.b ≡ true)) e es lies

in_tail : (inside : ℕ → Bool) (e : Ends) (es : List Ends) → LiesIn inside (e ∷ es) → LiesIn inside es
in_tail inside e es lies = All-tail (λ e. (inside e.a ≡ true) × (inside e.b ≡ true)) e es lies

pub rank_in-from_Grows : (inside : ℕ → Bool) (n : ℕ) (es : List Ends) → InRange n es → LiesIn inside es → Grows es → rank_in inside n es ≡ length es
rank_in-from_Grows inside n [] range lies grows = rank_in-nil inside n
rank_in-from_Grows inside n (e ∷ es) range lies grows =
    let here = in_range_head n e es range in
    let both = in_head inside e es lies in
    rank_in-add_new inside e es both.0 both.1 n here.0 here.1 grows.0 ∙ ap suc (rank_in-from_Grows inside n es (in_range_tail n e es range) (in_tail inside e es lies) grows.1)

pub rank_in-add-le : (inside : ℕ → Bool) (n : ℕ) (e : Ends) (es : List Ends) → e.a < n → e.b < n → inside e.a ≡ true → inside e.b ≡ true → rank_in inside n (e ∷ es) ≤ suc (rank_in inside n es)
rank_in-add-le inside n e es la lb in_a in_b =
    ⊎_elim
    (λ joined. omega (arith, rank_in-add_joined inside n e es joined))
    (λ new. omega (arith, rank_in-add_new inside e es in_a in_b n la lb new))
    (cases_eq (first_joined es e.a) (first_joined es e.b))

pub rank_in-le-length : (inside : ℕ → Bool) (n : ℕ) (es : List Ends) → InRange n es → LiesIn inside es → rank_in inside n es ≤ length es
rank_in-le-length inside n [] range lies = omega (arith, rank_in-nil inside n)
rank_in-le-length inside n (e ∷ es) range lies =
    let here = in_range_head n e es range in
    let both = in_head inside e es lies in
    omega (arith, rank_in-add-le inside n e es here.0 here.1 both.0 both.1, rank_in-le-length inside n es (in_range_tail n e es range) (in_tail inside e es lies))

pub Grows-from_rank_in : (inside : ℕ → Bool) (n : ℕ) (es : List Ends) → InRange n es → LiesIn inside es → rank_in inside n es ≡ length es → Grows es
Grows-from_rank_in inside n [] range lies full = tt
Grows-from_rank_in inside n (e ∷ es) range lies full =
    let here = in_range_head n e es range in
    let both = in_head inside e es lies in
    let rest = in_range_tail n e es range in
    let lies_rest = in_tail inside e es lies in
    let few = rank_in-le-length inside n es rest lies_rest in
    ⊎_elim
    (λ (joined : SameFirst es e). absurd (omega (arith, rank_in-add_joined inside n e es joined)))
    (λ (new : SameFirst es e → ⊥). (new, Grows-from_rank_in inside n es rest lies_rest (omega (arith, rank_in-add_new inside e es both.0 both.1 n here.0 here.1 new))))
    (cases_eq (first_joined es e.a) (first_joined es e.b))

pub forest_by_rank_in : (inside : ℕ → Bool) (n : ℕ) (es : List Ends) → InRange n es → LiesIn inside es → (IsForest es → rank_in inside n es ≡ length es) × (rank_in inside n es ≡ length es → IsForest es)
forest_by_rank_in inside n es range lies = (
  (λ forest. rank_in-from_Grows inside n es range lies (Grows-from_IsForest es forest)),
  (λ full. IsForest-from_Grows es (Grows-from_rank_in inside n es range lies full)),
)
