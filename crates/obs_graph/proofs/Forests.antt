-- Forests: the ends of no branch are joined by the others.
use Rattle.std.proofs.Common.{◌≡◌, ℕ, suc, ◌+◌, ◌<◌, ◌≤◌, not, ⊎_elim, List, [], ◌∷◌, ◌++◌, length, get_or, refl, sym, ap, ◌∙◌, subst, arith, length-append}
use Rattle.std.specs.List.{Contains}
use Rattle.std.proofs.lemmas.Bool.{cases_eq, ne_eqb, eqb-false, eq-eqb}
use Rattle.std.proofs.lemmas.List.Elements.{All-head, All-tail, All-cons, Contains-append_left, Contains-append_right, Contains-append_cases, Contains-get_or, All-contains}
use Rattle.obs_graph.specs.declared.Ends.{Ends}
use Rattle.obs_graph.specs.Joined.{merged, first_joined, rank, IsForest}
use Rattle.obs_graph.specs.inner.Joined.{InRange}
use Rattle.obs_graph.proofs.Chains.{Contains-here, Contains-there, Contains-cases, first_joined-contains, same_first-more}
use Rattle.obs_graph.proofs.Ranks.{is_moved, rank_is, rank-le, rank-add_joined, rank-add_new}
use Rattle.obs_graph.proofs.Counts.{count_below-none}

-- the branches of the one list are among those of the other
abbrev pub AreAmong : List Ends → List Ends → Type 0
AreAmong es fs = (e : Ends) → Contains es e → Contains fs e

-- the branches join the ends of e
abbrev pub SameFirst : List Ends → Ends → Type 0
SameFirst es e = first_joined es e.a ≡ first_joined es e.b

pub same_first-among : (es fs : List Ends) → AreAmong es fs → (u v : ℕ) → first_joined es u ≡ first_joined es v → first_joined fs u ≡ first_joined fs v
same_first-among es fs among u v same = same_first-more es fs (λ e has. first_joined-contains fs e (among e has)) u v same

pub rank-among : (n : ℕ) (es fs : List Ends) → AreAmong es fs → rank n es ≤ rank n fs
rank-among n es fs among = rank-le n es fs (λ e has. first_joined-contains fs e (among e has))

pub rank-add-le : (n : ℕ) (e : Ends) (es : List Ends) → e.a < n → e.b < n → rank n (e ∷ es) ≤ suc (rank n es)
rank-add-le n e es la lb =
    ⊎_elim
    (λ joined. omega (arith, rank-add_joined n e es joined))
    (λ new. omega (arith, rank-add_new n e es la lb new))
    (cases_eq (first_joined es e.a) (first_joined es e.b))

pub rank-nil : (n : ℕ) → rank n [] ≡ 0
rank-nil n = rank_is n [] ∙ count_below-none (is_moved []) n (λ u l. ap not (eq-eqb u u refl))

pub in_range_head : (n : ℕ) (e : Ends) (es : List Ends) → InRange n (e ∷ es) → (e.a < n) × (e.b < n)
in_range_head n e es range = All-head (λ e. (e.a < n) × (e.b < n)) e es range

pub in_range_tail : (n : ℕ) (e : Ends) (es : List Ends) → InRange n (e ∷ es) → InRange n es
in_range_tail n e es range = All-tail (λ e. (e.a < n) × (e.b < n)) e es range

pub rank-le-length : (n : ℕ) (es : List Ends) → InRange n es → rank n es ≤ length es
rank-le-length n [] range = omega (arith, rank-nil n)
rank-le-length n (e ∷ es) range =
    let here = in_range_head n e es range in
    omega (arith, rank-add-le n e es here.0 here.1, rank-le-length n es (in_range_tail n e es range))

-- each branch joins two vertices that the branches behind it do not join
abbrev pub Grows : List Ends → Type 0
Grows [] = Unit {0}
Grows (e ∷ es) = (SameFirst es e → ⊥) × Grows es

pub rank-from_Grows : (n : ℕ) (es : List Ends) → InRange n es → Grows es → rank n es ≡ length es
rank-from_Grows n [] range grows = rank-nil n
rank-from_Grows n (e ∷ es) range grows =
    let here = in_range_head n e es range in
    rank-add_new n e es here.0 here.1 grows.0 ∙ ap suc (rank-from_Grows n es (in_range_tail n e es range) grows.1)

pub Grows-from_rank : (n : ℕ) (es : List Ends) → InRange n es → rank n es ≡ length es → Grows es
Grows-from_rank n [] range full = tt
Grows-from_rank n (e ∷ es) range full =
    let here = in_range_head n e es range in
    let rest = in_range_tail n e es range in
    let few = rank-le-length n es rest in
    ⊎_elim
    (λ (joined : SameFirst es e). absurd (omega (arith, rank-add_joined n e es joined)))
    (λ (new : SameFirst es e → ⊥). (new, Grows-from_rank n es rest (omega (arith, rank-add_new n e es here.0 here.1 new))))
    (cases_eq (first_joined es e.a) (first_joined es e.b))

-- a number above all ends of a list
pub top : List Ends → ℕ
top [] = 0
top (e ∷ es) = suc (e.a + e.b + top es)

in_range_more : (m n : ℕ) (es : List Ends) → m ≤ n → InRange m es → InRange n es
in_range_more m n es l range = λ k d below. let at = range k d below in (omega (arith, at.0), omega (arith, at.1))

pub in_range_top : (es : List Ends) → InRange (top es) es
unfolding top
in_range_top [] = λ k d l. absurd (omega arith)
in_range_top (e ∷ es) =
    All-cons (λ x. (x.a < suc (e.a + e.b + top es)) × (x.b < suc (e.a + e.b + top es))) e es (omega arith, omega arith)
    (in_range_more (top es) (suc (e.a + e.b + top es)) es (omega arith) (in_range_top es))

-- moving one branch to the front keeps the branches
pub among_front : (xs : List Ends) (e : Ends) (ys : List Ends) → AreAmong (xs ++ e ∷ ys) (e ∷ (xs ++ ys))
among_front xs e ys f has =
    ⊎_elim
    (λ left. Contains-there e f (xs ++ ys) (Contains-append_left xs ys f left))
    (λ right. ⊎_elim
    (λ (same : e ≡ f). subst (λ t. Contains (e ∷ (xs ++ ys)) t) same (Contains-here e (xs ++ ys)))
    (λ there. Contains-there e f (xs ++ ys) (Contains-append_right xs ys f there))
    (Contains-cases e f ys right))
    (Contains-append_cases xs (e ∷ ys) f has)

pub among_others : (xs : List Ends) (e : Ends) (ys : List Ends) → AreAmong (xs ++ ys) (xs ++ e ∷ ys)
among_others xs e ys f has =
    ⊎_elim
    (λ left. Contains-append_left xs (e ∷ ys) f left)
    (λ right. Contains-append_right xs (e ∷ ys) f (Contains-there e f ys right))
    (Contains-append_cases xs ys f has)

pub among_back : (xs : List Ends) (e : Ends) (ys : List Ends) → AreAmong (e ∷ (xs ++ ys)) (xs ++ e ∷ ys)
among_back xs e ys f has =
    ⊎_elim
    (λ (same : e ≡ f). subst (λ t. Contains (xs ++ e ∷ ys) t) same (Contains-append_right xs (e ∷ ys) e (Contains-here e ys)))
    (among_others xs e ys f)
    (Contains-cases e f (xs ++ ys) has)

pub InRange-among : (n : ℕ) (es fs : List Ends) → AreAmong es fs → InRange n fs → InRange n es
InRange-among n es fs among range =
    λ k d l. All-contains (λ e. (e.a < n) × (e.b < n)) fs (get_or es k d) range (among (get_or es k d) (Contains-get_or es k d l))

pub IsForest-from_Grows : (es : List Ends) → Grows es → IsForest es
IsForest-from_Grows es grows xs e ys is =
    let n = top es in
    let full : rank n es ≡ length es = rank-from_Grows n es (in_range_top es) grows in
    let range : InRange n (xs ++ e ∷ ys) = subst (λ t. InRange n t) is (in_range_top es) in
    let few : rank n (xs ++ ys) ≤ length (xs ++ ys) = rank-le-length n (xs ++ ys) (InRange-among n (xs ++ ys) (xs ++ e ∷ ys) (among_others xs e ys) range) in
    let all : rank n es ≤ rank n (e ∷ (xs ++ ys)) = subst (λ t. rank n t ≤ rank n (e ∷ (xs ++ ys))) (sym is) (rank-among n (xs ++ e ∷ ys) (e ∷ (xs ++ ys)) (among_front xs e ys)) in
    ne_eqb (first_joined (xs ++ ys) e.a) (first_joined (xs ++ ys) e.b) (λ joined.
    omega (arith, rank-add_joined n e (xs ++ ys) joined, ap length is, length-append xs (e ∷ ys), length-append xs ys))

pub Grows-from_IsForest : (es : List Ends) → IsForest es → Grows es
Grows-from_IsForest [] forest = tt
Grows-from_IsForest (e ∷ es) forest = (
  eqb-false (first_joined es e.a) (first_joined es e.b) (forest [] e es refl),
  Grows-from_IsForest es (λ xs f ys is.
      let apart = eqb-false (first_joined (e ∷ (xs ++ ys)) f.a) (first_joined (e ∷ (xs ++ ys)) f.b) (forest (e ∷ xs) f ys (ap (λ t. e ∷ t) is)) in
      ne_eqb (first_joined (xs ++ ys) f.a) (first_joined (xs ++ ys) f.b) (λ joined.
      apart (ap (merged (first_joined (xs ++ ys) e.a) (first_joined (xs ++ ys) e.b)) joined))),
)
