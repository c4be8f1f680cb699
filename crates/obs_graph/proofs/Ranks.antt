-- The rank of a list of branches.
use Rattle.std.proofs.Common.{◌≡◌, ℕ, suc, ◌<◌, ◌≤◌, max, Bool, true, false, not, eqb, ◌⊎◌, ⊎_elim, List, ◌∷◌, sym, ap, ◌∙◌, arith}
use Rattle.std.specs.List.{Contains}
use Rattle.std.proofs.lemmas.Bool.{eq-eqb, ne_eqb, true≢false}
use Rattle.std.proofs.lemmas.Bool.Decides.{nat_tests}
use Rattle.obs_graph.specs.declared.Ends.{Ends}
use Rattle.obs_graph.specs.Joined.{merged, first_joined, is_joined, count_below, some_below, rank}
use Rattle.obs_graph.proofs.Counts.{count_below-agree, count_below-but_first, count_below-one_more, count_below-le, count_below-le-n}
use Rattle.obs_graph.proofs.First.{merged_cases, merged-same, first_joined-le, first_joined-first_joined, some_below-is_joined}
use Rattle.obs_graph.proofs.Chains.{same_first-more}

-- whether a vertex has a lower one as its first
abbrev pub is_moved : List Ends → ℕ → Bool
is_moved es u = not (eqb (first_joined es u) u)

pub rank_is : (n : ℕ) (es : List Ends) → rank n es ≡ count_below (is_moved es) n
rank_is n es = count_below-agree (λ u. some_below (λ v. is_joined es u v) u) (is_moved es) n (λ u l. some_below-is_joined es u)

pub rank-le-n : (n : ℕ) (es : List Ends) → rank n es ≤ n
rank-le-n n es = omega (arith, rank_is n es, count_below-le-n (is_moved es) n)

pub rank-agree : (n : ℕ) (es fs : List Ends) → ((u : ℕ) → u < n → first_joined es u ≡ first_joined fs u) → rank n es ≡ rank n fs
rank-agree n es fs same =
    rank_is n es ∙ (count_below-agree (is_moved es) (is_moved fs) n (λ u l. ap (λ t. not (eqb t u)) (same u l)) ∙ sym (rank_is n fs))

-- a branch whose ends are joined leaves the first vertices
pub first_joined-add_joined : (e : Ends) (es : List Ends) → first_joined es e.a ≡ first_joined es e.b → (u : ℕ) → first_joined (e ∷ es) u ≡ first_joined es u
first_joined-add_joined e es same u =
    ap (λ t. merged (first_joined es e.a) t (first_joined es u)) (sym same) ∙ merged-same (first_joined es e.a) (first_joined es u)

-- adding a branch whose ends are joined leaves the rank
pub rank-add_joined : (n : ℕ) (e : Ends) (es : List Ends) → first_joined es e.a ≡ first_joined es e.b → rank n (e ∷ es) ≡ rank n es
rank-add_joined n e es same = rank-agree n (e ∷ es) es (λ u l. first_joined-add_joined e es same u)

max_fixed : (r : ℕ → ℕ) (x y : ℕ) → r x ≡ x → r y ≡ y → r (max x y) ≡ max x y
max_fixed r x y ex ey =
    ⊎_elim
    (λ (is : max x y ≡ x). ap r is ∙ (ex ∙ sym is))
    (λ (is : max x y ≡ y). ap r is ∙ (ey ∙ sym is))
    (max_cases x y)
  where
    max_cases : (x y : ℕ) → (max x y ≡ x) ⊎ (max x y ≡ y)
    max_cases x y = grind arith

-- only the greater of the two first vertices moves
moved_same : (x y z k : ℕ) → z ≤ k → (k ≡ max x y → ⊥) → not (eqb z k) ≡ not (eqb (merged x y z) k)
moved_same x y z k l ne = grind (arith, nat_tests, merged_cases x y z)

top_moves : (x y : ℕ) → (x ≡ y → ⊥) → not (eqb (merged x y (max x y)) (max x y)) ≡ true
top_moves x y ne = ap not (ne_eqb (merged x y (max x y)) (max x y) (λ same. grind (arith, merged_cases x y (max x y))))

-- adding a branch whose ends are not joined raises the rank by one
pub rank-add_new : (n : ℕ) (e : Ends) (es : List Ends) → e.a < n → e.b < n → (first_joined es e.a ≡ first_joined es e.b → ⊥) → rank n (e ∷ es) ≡ suc (rank n es)
rank-add_new n e es la lb new =
    let x = first_joined es e.a in
    let y = first_joined es e.b in
    let m = max x y in
    let fixed : first_joined es m ≡ m = max_fixed (first_joined es) x y (first_joined-first_joined es e.a) (first_joined-first_joined es e.b) in
    let low : m < n = omega (arith, first_joined-le es e.a, first_joined-le es e.b) in
    let stays : is_moved es m ≡ false = ap not (eq-eqb (first_joined es m) m fixed) in
    let moves : is_moved (e ∷ es) m ≡ true = ap (λ t. not (eqb (merged x y t) m)) fixed ∙ top_moves x y new in
    rank_is n (e ∷ es)
    ∙ (count_below-one_more (is_moved es) (is_moved (e ∷ es)) m n low stays moves (λ k l ne. moved_same x y (first_joined es k) k (first_joined-le es k) ne)
    ∙ ap suc (sym (rank_is n es)))

-- where fs joins the ends of each branch of es, its rank is no lower
pub rank-le : (n : ℕ) (es fs : List Ends) → ((e : Ends) → Contains es e → first_joined fs e.a ≡ first_joined fs e.b) → rank n es ≤ rank n fs
rank-le n es fs each =
    let moves = λ (u : ℕ) (l : u < n) (moved : is_moved es u ≡ true).
    let same : first_joined fs u ≡ first_joined fs (first_joined es u) = same_first-more es fs each u (first_joined es u) (sym (first_joined-first_joined es u)) in
    let ne : first_joined fs u ≡ u → ⊥ = (λ back. moved_ne es u moved (first_joined-le es u) (first_joined fs (first_joined es u)) (first_joined-le fs (first_joined es u)) (sym same ∙ back)) in
    ap not (ne_eqb (first_joined fs u) u ne) in
    let counted : count_below (is_moved es) n ≤ count_below (is_moved fs) n = count_below-le (is_moved es) (is_moved fs) n moves in
    omega (arith, rank_is n es, rank_is n fs)
  where
    moved_ne : (es : List Ends) (u : ℕ) → is_moved es u ≡ true → first_joined es u ≤ u → (t : ℕ) → t ≤ first_joined es u → t ≡ u → ⊥
    moved_ne es u moved l t l2 back = true≢false (sym moved ∙ ap not (eq-eqb (first_joined es u) u (omega arith)))

-- the rank is below the number of vertices, where there are any
pub rank-below : (n : ℕ) (es : List Ends) → rank (suc n) es ≤ n
rank-below n es =
    let e = rank_is (suc n) es in
    let first : is_moved es 0 ≡ false = ap not (eq-eqb (first_joined es 0) 0 (omega (arith, first_joined-le es 0))) in
    let few = count_below-but_first (is_moved es) n first in
    omega (arith, e, few)
