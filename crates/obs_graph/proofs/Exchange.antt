-- Exchanges in forests, and two vertices that become one.
use Rattle.std.proofs.Common.{◌⊎◌, inl, inr, ◌≡◌, ℕ, suc, ◌+◌, ◌<◌, ◌≤◌, eqb, ◌||◌, ◌&&◌, ⊎_elim, List, [], ◌∷◌, ◌++◌, length, refl, sym, ap, subst, arith, length-append}
use Rattle.std.specs.List.{Contains}
use Rattle.std.proofs.lemmas.Bool.{cases_eq, ne_eqb, eqb-false}
use Rattle.std.proofs.lemmas.Bool.Decides.{nat_tests}
use Rattle.std.proofs.lemmas.List.Elements.{Contains-append_right, All-contains}
use Rattle.obs_graph.specs.declared.Ends.{Ends}
use Rattle.obs_graph.specs.Joined.{merged, first_joined, is_joined, rank, IsForest}
use Rattle.obs_graph.specs.inner.Joined.{joined_by, InRange, AreDifferent}
use Rattle.obs_graph.proofs.Chains.{Contains-here, Contains-there, Contains-cases, first_joined-contains, same_first-more}
use Rattle.obs_graph.proofs.Ranks.{rank-le, rank-add_joined, rank-add_new}
use Rattle.obs_graph.proofs.Forests.{AreAmong, SameFirst, same_first-among, rank-among, rank-add-le, rank-le-length, rank-from_Grows, Grows-from_rank, top, in_range_top, among_front, among_others, InRange-among, IsForest-from_Grows, Grows-from_IsForest}

pub rank-from_IsForest : (n : ℕ) (es : List Ends) → InRange n es → IsForest es → rank n es ≡ length es
rank-from_IsForest n es range forest = rank-from_Grows n es range (Grows-from_IsForest es forest)

pub IsForest-from_rank : (n : ℕ) (es : List Ends) → InRange n es → rank n es ≡ length es → IsForest es
IsForest-from_rank n es range full = IsForest-from_Grows es (Grows-from_rank n es range full)

-- a forest without one of its branches is a forest
pub IsForest-others : (xs : List Ends) (f : Ends) (ys : List Ends) → IsForest (xs ++ f ∷ ys) → IsForest (xs ++ ys)
IsForest-others xs f ys forest =
    let n = top (xs ++ f ∷ ys) in
    let range : InRange n (xs ++ f ∷ ys) = in_range_top (xs ++ f ∷ ys) in
    let full : rank n (xs ++ f ∷ ys) ≡ length (xs ++ f ∷ ys) = rank-from_IsForest n (xs ++ f ∷ ys) range forest in
    let rest : InRange n (xs ++ ys) = InRange-among n (xs ++ ys) (xs ++ f ∷ ys) (among_others xs f ys) range in
    let at = All-contains (λ e. (e.a < n) × (e.b < n)) (xs ++ f ∷ ys) f range (Contains-append_right xs (f ∷ ys) f (Contains-here f ys)) in
    let le : rank n (xs ++ f ∷ ys) ≤ rank n (f ∷ (xs ++ ys)) = rank-among n (xs ++ f ∷ ys) (f ∷ (xs ++ ys)) (among_front xs f ys) in
    let add : rank n (f ∷ (xs ++ ys)) ≤ suc (rank n (xs ++ ys)) = rank-add-le n f (xs ++ ys) at.0 at.1 in
    let few : rank n (xs ++ ys) ≤ length (xs ++ ys) = rank-le-length n (xs ++ ys) rest in
    IsForest-from_rank n (xs ++ ys) rest (omega (arith, length-append xs (f ∷ ys), length-append xs ys))

-- a branch whose ends a forest does not join may be added
pub IsForest-add : (e : Ends) (es : List Ends) → IsForest es → (SameFirst es e → ⊥) → IsForest (e ∷ es)
IsForest-add e es forest new = IsForest-from_Grows (e ∷ es) (new, Grows-from_IsForest es forest)

-- a branch may be exchanged for one whose ends the others do not join
pub IsForest-exchange : (xs : List Ends) (f : Ends) (ys : List Ends) (e : Ends) → IsForest (xs ++ f ∷ ys) → (SameFirst (xs ++ ys) e → ⊥) → IsForest (e ∷ (xs ++ ys))
IsForest-exchange xs f ys e forest new = IsForest-add e (xs ++ ys) (IsForest-others xs f ys forest) new

among_swap : (x e : Ends) (es : List Ends) → AreAmong (e ∷ x ∷ es) (x ∷ e ∷ es)
among_swap x e es = among_front (e ∷ []) x es

-- where e is what joins the ends of x, x joins the ends of e
pub joined_swap : (x e : Ends) (es : List Ends) → (SameFirst es x → ⊥) → SameFirst (e ∷ es) x → SameFirst (x ∷ es) e
joined_swap x e es apart with_e =
    let n = suc (x.a + x.b + e.a + e.b) in
    ⊎_elim
    (λ (joined : SameFirst (x ∷ es) e). joined)
    (λ (new : SameFirst (x ∷ es) e → ⊥).
    let r0 : rank n (x ∷ es) ≡ suc (rank n es) = rank-add_new n x es (omega arith) (omega arith) apart in
    let r1 : rank n (e ∷ x ∷ es) ≡ suc (rank n (x ∷ es)) = rank-add_new n e (x ∷ es) (omega arith) (omega arith) new in
    let r2 : rank n (x ∷ e ∷ es) ≡ rank n (e ∷ es) = rank-add_joined n x (e ∷ es) with_e in
    let r3 : rank n (e ∷ es) ≤ suc (rank n es) = rank-add-le n e es (omega arith) (omega arith) in
    let r4 : rank n (e ∷ x ∷ es) ≤ rank n (x ∷ e ∷ es) = rank-among n (e ∷ x ∷ es) (x ∷ e ∷ es) (among_swap x e es) in
    absurd (omega arith))
    (cases_eq (first_joined (x ∷ es) e.a) (first_joined (x ∷ es) e.b))

-- where f is what joins the ends of x, and the list does not join the ends of e, e in the place of f does not join the ends of x
pub apart-exchange : (xs : List Ends) (f : Ends) (ys : List Ends) (x e : Ends) → SameFirst (xs ++ f ∷ ys) x → (SameFirst (xs ++ ys) x → ⊥) → (SameFirst (xs ++ f ∷ ys) e → ⊥) → SameFirst (e ∷ (xs ++ ys)) x → ⊥
apart-exchange xs f ys x e joined apart new again =
    let all = xs ++ f ∷ ys in
    let swapped : SameFirst (x ∷ (xs ++ ys)) e = joined_swap x e (xs ++ ys) apart again in
    new (same_first-more (x ∷ (xs ++ ys)) all (λ d has.
    ⊎_elim
    (λ (same : x ≡ d). subst (λ t. SameFirst all t) same joined)
    (λ there. first_joined-contains all d (among_others xs f ys d there))
    (Contains-cases x d (xs ++ ys) has)) e.a e.b swapped)

pub Contains-split : (es : List Ends) (e : Ends) → Contains es e → (xs : List Ends) × (ys : List Ends) × (es ≡ xs ++ e ∷ ys)
Contains-split [] e (k, l, h) = absurd (omega arith)
Contains-split (x ∷ es) e has =
    ⊎_elim
    (λ (same : x ≡ e). ([], es, ap (λ t. t ∷ es) same))
    (λ there. let rest = Contains-split es e there in (x ∷ rest.0, rest.1, ap (λ t. x ∷ t) rest.2))
    (Contains-cases x e es has)

pub AreDifferent-from_IsForest : (es : List Ends) → IsForest es → AreDifferent es
AreDifferent-from_IsForest es forest xs e ys is has =
    eqb-false (first_joined (xs ++ ys) e.a) (first_joined (xs ++ ys) e.b) (forest xs e ys is) (first_joined-contains (xs ++ ys) e has)

-- different branches of a forest are a forest
pub IsForest-among : (es fs : List Ends) → AreAmong es fs → AreDifferent es → IsForest fs → IsForest es
IsForest-among es fs among different forest xs e ys is =
    let in_es : AreAmong (xs ++ e ∷ ys) es = subst (λ t. AreAmong t es) is (λ f has. has) in
    let parts = Contains-split fs e (among e (in_es e (Contains-append_right xs (e ∷ ys) e (Contains-here e ys)))) in
    let others = parts.0 ++ parts.1 in
    let inside : AreAmong (xs ++ ys) others = λ f has.
    ⊎_elim
    (λ (same : e ≡ f). absurd (different xs e ys is (subst (λ t. Contains (xs ++ ys) t) (sym same) has)))
    (λ there. there)
    (Contains-cases e f others (among_front parts.0 e parts.1 f (subst (λ t. Contains t f) parts.2 (among f (in_es f (among_others xs e ys f has)))))) in
    ne_eqb (first_joined (xs ++ ys) e.a) (first_joined (xs ++ ys) e.b) (λ joined.
    eqb-false (first_joined others e.a) (first_joined others e.b) (forest parts.0 e parts.1 parts.2)
    (same_first-among (xs ++ ys) others inside e.a e.b joined))

-- the two tests are one
merged-eqb : (x y p q : ℕ) → eqb (merged x y p) (merged x y q) ≡ (eqb p q || (eqb p x && eqb y q) || (eqb p y && eqb x q))
merged-eqb x y p q = grind (arith, nat_tests)

pub joined_by-is_joined : (es : List Ends) (u v : ℕ) → joined_by es u v ≡ is_joined es u v
joined_by-is_joined [] u v = refl
joined_by-is_joined (e ∷ es) u v =
    let i0 = joined_by-is_joined es u v in
    let i1 = joined_by-is_joined es u e.a in
    let i2 = joined_by-is_joined es e.b v in
    let i3 = joined_by-is_joined es u e.b in
    let i4 = joined_by-is_joined es e.a v in
    let m = merged-eqb (first_joined es e.a) (first_joined es e.b) (first_joined es u) (first_joined es v) in
    rw (i0, i1, i2, i3, i4) (sym m)

-- either all branches of the list have joined ends, or one has not
pub all_or_one : (es ks : List Ends) → ((e : Ends) → Contains ks e → SameFirst es e) ⊎ ((e : Ends) × Contains ks e × (SameFirst es e → ⊥))
all_or_one es [] = inl (λ e has. absurd (omega (arith, has.1)))
all_or_one es (k ∷ ks) =
    ⊎_elim
    (λ (joined : SameFirst es k).
    ⊎_elim
    (λ all. inl (λ e has. ⊎_elim (λ (same : k ≡ e). subst (λ t. SameFirst es t) same joined) (λ there. all e there) (Contains-cases k e ks has)))
    (λ one. inr (one.0, Contains-there k one.0 ks one.1, one.2))
    (all_or_one es ks))
    (λ (new : SameFirst es k → ⊥). inr (k, Contains-here k ks, new))
    (cases_eq (first_joined es k.a) (first_joined es k.b))

-- where a list has a greater rank than a forest has branches, one of its branches may be added
pub IsForest-grows : (n : ℕ) (es ks : List Ends) → InRange n es → IsForest es → length es < rank n ks → (e : Ends) × Contains ks e × IsForest (e ∷ es)
IsForest-grows n es ks range forest more =
    ⊎_elim
    (λ all. absurd (omega (arith, rank-le n ks es all, rank-from_IsForest n es range forest)))
    (λ one. (one.0, one.1, IsForest-add one.0 es forest one.2))
    (all_or_one es ks)
