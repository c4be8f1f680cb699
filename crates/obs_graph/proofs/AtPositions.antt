-- Forests as lists of positions.
use Rattle.std.proofs.Common.{◌≡◌, ◌≢◌, ℕ, zero, suc, false, Option, Some, None, ⊎_elim, List, [], ◌∷◌, ◌++◌, length, get_or, refl, sym, ap, ◌∙◌, subst, arith}
use Rattle.std.specs.List.{Contains, cons_option}
use Rattle.std.specs.Prelude.{All, AllPairs, IsSome, is_some, slice_index_or}
use Rattle.std.proofs.lemmas.List.{get_or_default}
use Rattle.std.proofs.lemmas.List.Elements.{All-tail, All-head, All-contains, Contains-get_or, All-cons, Contains-append_left, Contains-append_right, Contains-append_cases}
use Rattle.obs_graph.specs.declared.Ends.{Ends}
use Rattle.obs_graph.specs.Joined.{is_joined, rank, IsForest}
use Rattle.obs_graph.specs.inner.Joined.{InRange}
use Rattle.obs_graph.specs.Positions.{ends_of, IsForestAt}
use Rattle.obs_graph.proofs.Chains.{Contains-here, Contains-there, Contains-cases, first_joined-contains}
use Rattle.obs_graph.proofs.Forests.{AreAmong, SameFirst, same_first-among, Grows, IsForest-from_Grows, Grows-from_IsForest}
use Rattle.obs_graph.proofs.Exchange.{IsForest-exchange, rank-from_IsForest, IsForest-from_rank}
use Rattle.obs_graph.proofs.IsJoined.{apart-from_false}

-- what is among ends stays so where one may be put before them
pub contains_cons : (o : Option Ends) (es : List Ends) (x : Ends) → Contains es x → Contains (cons_option o es) x
contains_cons None es x has = has
contains_cons (Some d) es x has = Contains-there d x es has

-- what stands at a position of the list is among the ends
pub contains-ends_of : (bs : List (Option Ends)) (ps : List ℕ) (q : ℕ) (e : Ends) → Contains ps q → get_or bs q None ≡ Some e → Contains (ends_of bs ps) e
contains-ends_of bs [] q e (k, l, h) is = absurd (omega arith)
contains-ends_of bs (p ∷ ps) q e (zero, l, h) is =
    let here : get_or bs p None ≡ Some e = ap (λ t. get_or bs t None) h ∙ is in
    subst (λ o. Contains (cons_option o (ends_of bs ps)) e) (sym here) (Contains-here e (ends_of bs ps))
contains-ends_of bs (p ∷ ps) q e (suc k, l, h) is =
    contains_cons (get_or bs p None) (ends_of bs ps) e (contains-ends_of bs ps q e (k, omega arith, h) is)

pub ends_of-contains : (bs : List (Option Ends)) (ps : List ℕ) (e : Ends) → Contains (ends_of bs ps) e → (q : ℕ) × Contains ps q × (get_or bs q None ≡ Some e)
ends_of-contains bs [] e (k, l, h) = absurd (omega arith)
ends_of-contains bs (p ∷ ps) e has = by_option (get_or bs p None) refl (λ rest. ends_of-contains bs ps e rest) has
  where
    later : ((q : ℕ) × Contains ps q × (get_or bs q None ≡ Some e)) → (q : ℕ) × Contains (p ∷ ps) q × (get_or bs q None ≡ Some e)
    later r = (r.0, (suc r.1.0, omega (arith, r.1.1), r.1.2), r.2)

    by_option : (o : Option Ends) → get_or bs p None ≡ o → (Contains (ends_of bs ps) e → (q : ℕ) × Contains ps q × (get_or bs q None ≡ Some e)) → Contains (cons_option o (ends_of bs ps)) e → (q : ℕ) × Contains (p ∷ ps) q × (get_or bs q None ≡ Some e)
    by_option None is rest has = later (rest has)
    by_option (Some d) is rest has =
        ⊎_elim
        (λ (same : d ≡ e). (p, (0, omega arith, refl), is ∙ ap Some same))
        (λ there. later (rest there))
        (Contains-cases d e (ends_of bs ps) has)

-- each position adds a branch where all are present
pub length-ends_of : (bs : List (Option Ends)) (ps : List ℕ) → All (λ p. IsSome (slice_index_or bs p None)) ps → length (ends_of bs ps) ≡ length ps
length-ends_of bs [] present = refl
length-ends_of bs (p ∷ ps) present =
    cons_some (get_or bs p None) (ends_of bs ps) (present 0 p (omega arith)) ∙ ap suc (length-ends_of bs ps (All-tail (λ p. IsSome (slice_index_or bs p None)) p ps present))
  where
    cons_some : (o : Option Ends) (es : List Ends) → IsSome o → length (cons_option o es) ≡ suc (length es)
    cons_some None es is = absurd cc
    cons_some (Some d) es is = refl

pub ends_of-append : (bs : List (Option Ends)) (xs ys : List ℕ) → ends_of bs (xs ++ ys) ≡ ends_of bs xs ++ ends_of bs ys
ends_of-append bs [] ys = refl
ends_of-append bs (x ∷ xs) ys = ap (cons_option (get_or bs x None)) (ends_of-append bs xs ys) ∙ cons_append (get_or bs x None) (ends_of bs xs) (ends_of bs ys)
  where
    cons_append : (o : Option Ends) (es fs : List Ends) → cons_option o (es ++ fs) ≡ cons_option o es ++ fs
    cons_append None es fs = refl
    cons_append (Some e) es fs = refl

-- the branch that is there
pub some_of : (o : Option Ends) → IsSome o → (e : Ends) × (o ≡ Some e)
some_of None is = absurd cc
some_of (Some e) is = (e, refl)

pub there_at : (bs : List (Option Ends)) (ps : List ℕ) → All (λ p. IsSome (slice_index_or bs p None)) ps → (p : ℕ) → Contains ps p → (e : Ends) × (get_or bs p None ≡ Some e)
there_at bs ps all p has = some_of (get_or bs p None) (All-contains (λ p. IsSome (slice_index_or bs p None)) ps p all has)

-- different positions, by recursion
abbrev pub NoneTwice : List ℕ → Type 0
NoneTwice [] = Unit {0}
NoneTwice (p ∷ ps) = (Contains ps p → ⊥) × NoneTwice ps

pub AllPairs-from_NoneTwice : (ps : List ℕ) → NoneTwice ps → AllPairs ◌≢◌ ps
AllPairs-from_NoneTwice [] alone i j d l lj = absurd (omega arith)
AllPairs-from_NoneTwice (p ∷ ps) alone i zero d l lj = absurd (omega arith)
AllPairs-from_NoneTwice (p ∷ ps) alone zero (suc j) d l lj = λ same. alone.0 (j, omega arith, get_or_default ps j p d (omega arith) ∙ sym same)
AllPairs-from_NoneTwice (p ∷ ps) alone (suc i) (suc j) d l lj = AllPairs-from_NoneTwice ps alone.1 i j d (omega arith) (omega arith)

pub NoneTwice-from_AllPairs : (ps : List ℕ) → AllPairs ◌≢◌ ps → NoneTwice ps
NoneTwice-from_AllPairs [] pairs = tt
NoneTwice-from_AllPairs (p ∷ ps) pairs = (
  (λ has. pairs 0 (suc has.0) p (omega arith) (omega (arith, has.1)) (sym has.2)),
  NoneTwice-from_AllPairs ps (λ i j d l lj. pairs (suc i) (suc j) d (omega arith) (omega arith)),
)

pub contains_split : (ps : List ℕ) (q : ℕ) → Contains ps q → (xs : List ℕ) × (ys : List ℕ) × (ps ≡ xs ++ q ∷ ys)
contains_split [] q (k, l, h) = absurd (omega arith)
contains_split (p ∷ ps) q (zero, l, h) = ([], ps, ap (λ t. t ∷ ps) h)
contains_split (p ∷ ps) q (suc k, l, h) = let r = contains_split ps q (k, omega arith, h) in (p ∷ r.0, r.1, ap (λ t. p ∷ t) r.2)

-- another position stands among the others
pub other_contained : (xs : List ℕ) (q : ℕ) (ys : List ℕ) (p : ℕ) → (p ≡ q → ⊥) → Contains (xs ++ q ∷ ys) p → Contains (xs ++ ys) p
other_contained xs q ys p ne has =
    ⊎_elim
    (λ left. Contains-append_left xs ys p left)
    (λ right. Contains-append_right xs ys p (behind right))
    (Contains-append_cases xs (q ∷ ys) p has)
  where
    behind : Contains (q ∷ ys) p → Contains ys p
    behind (zero, l, h) = absurd (ne (sym h))
    behind (suc k, l, h) = (k, omega arith, h)

-- the other branches of a forest do not join the ends of one
pub apart_from_others : (bs : List (Option Ends)) (xs : List ℕ) (q : ℕ) (ys : List ℕ) (e : Ends) → IsForest (ends_of bs (xs ++ q ∷ ys)) → get_or bs q None ≡ Some e → SameFirst (ends_of bs (xs ++ ys)) e → ⊥
apart_from_others bs xs q ys e forest is joined =
    let split : ends_of bs (xs ++ q ∷ ys) ≡ ends_of bs xs ++ e ∷ ends_of bs ys = ends_of-append bs xs (q ∷ ys) ∙ ap (λ o. ends_of bs xs ++ cons_option o (ends_of bs ys)) is in
    apart-from_false (ends_of bs xs ++ ends_of bs ys) e.a e.b (forest (ends_of bs xs) e (ends_of bs ys) split) (subst (λ t. SameFirst t e) (ends_of-append bs xs ys) joined)

-- different positions of a forest are a forest
grows_among : (bs : List (Option Ends)) (ps : List ℕ) → IsForestAt bs ps → (qs : List ℕ) → ((q : ℕ) → Contains qs q → Contains ps q) → NoneTwice qs → Grows (ends_of bs qs)
grows_among bs ps forest [] among alone = tt
grows_among bs ps forest (q ∷ qs) among alone =
    let rest = λ (x : ℕ) (has : Contains qs x). among x (suc has.0, omega (arith, has.1), has.2) in
    let mine = among q (0, omega arith, refl) in
    let e = there_at bs ps forest.present q mine in
    let s = contains_split ps q mine in
    let inside : AreAmong (ends_of bs qs) (ends_of bs (s.0 ++ s.1)) = λ d has.
    let at = ends_of-contains bs qs d has in
    let ne : at.0 ≡ q → ⊥ = λ same. alone.0 (subst (λ t. Contains qs t) same at.1) in
    contains-ends_of bs (s.0 ++ s.1) at.0 d (other_contained s.0 q s.1 at.0 ne (subst (λ t. Contains t at.0) s.2 (rest at.0 at.1))) at.2 in
    let new : SameFirst (ends_of bs qs) e.0 → ⊥ = λ joined.
    apart_from_others bs s.0 q s.1 e.0 (subst (λ t. IsForest (ends_of bs t)) s.2 forest.forest) e.1 (same_first-among (ends_of bs qs) (ends_of bs (s.0 ++ s.1)) inside e.0.a e.0.b joined) in
    subst (λ o. Grows (cons_option o (ends_of bs qs))) (sym e.1) (new, grows_among bs ps forest qs rest alone.1)

pub IsForestAt-among : (bs : List (Option Ends)) (ps qs : List ℕ) → IsForestAt bs ps → ((q : ℕ) → Contains qs q → Contains ps q) → AllPairs ◌≢◌ qs → IsForestAt bs qs
IsForestAt-among bs ps qs forest among pairs =
    record {
      present = λ k d l. let e = there_at bs ps forest.present (get_or qs k d) (among (get_or qs k d) (Contains-get_or qs k d l)) in ap is_some e.1;
      forest = IsForest-from_Grows (ends_of bs qs) (grows_among bs ps forest qs among (NoneTwice-from_AllPairs qs pairs));
    }

-- the positions of a forest are different
pub NoneTwice-forest : (bs : List (Option Ends)) (ps : List ℕ) → All (λ p. IsSome (slice_index_or bs p None)) ps → Grows (ends_of bs ps) → NoneTwice ps
NoneTwice-forest bs [] present grows = tt
NoneTwice-forest bs (p ∷ ps) present grows =
    let e = some_of (get_or bs p None) (present 0 p (omega arith)) in
    let g : Grows (e.0 ∷ ends_of bs ps) = subst (λ o. Grows (cons_option o (ends_of bs ps))) e.1 grows in (
      (λ has. g.0 (first_joined-contains (ends_of bs ps) e.0 (contains-ends_of bs ps p e.0 has e.1))),
      NoneTwice-forest bs ps (All-tail (λ p. IsSome (slice_index_or bs p None)) p ps present) g.1,
    )

pub AllPairs-from_IsForestAt : (bs : List (Option Ends)) (ps : List ℕ) → IsForestAt bs ps → AllPairs ◌≢◌ ps
AllPairs-from_IsForestAt bs ps forest = AllPairs-from_NoneTwice ps (NoneTwice-forest bs ps forest.present (Grows-from_IsForest (ends_of bs ps) forest.forest))

-- the rank decides
pub IsForestAt-by_rank : (n : ℕ) (bs : List (Option Ends)) (ps : List ℕ) → InRange n (ends_of bs ps) → All (λ p. IsSome (slice_index_or bs p None)) ps → rank n (ends_of bs ps) ≡ length ps → IsForestAt bs ps
IsForestAt-by_rank n bs ps range present full =
    record { present = present; forest = IsForest-from_rank n (ends_of bs ps) range (full ∙ sym (length-ends_of bs ps present)) }

pub rank-from_IsForestAt : (n : ℕ) (bs : List (Option Ends)) (ps : List ℕ) → InRange n (ends_of bs ps) → IsForestAt bs ps → rank n (ends_of bs ps) ≡ length ps
rank-from_IsForestAt n bs ps range forest = rank-from_IsForest n (ends_of bs ps) range forest.forest ∙ length-ends_of bs ps forest.present

-- a branch of a forest may be exchanged for one whose ends the others do not join
pub IsForestAt-exchange : (bs : List (Option Ends)) (xs : List ℕ) (f : ℕ) (ys : List ℕ) (p : ℕ) (e : Ends) → IsForestAt bs (xs ++ f ∷ ys) → get_or bs p None ≡ Some e → is_joined (ends_of bs (xs ++ ys)) e.a e.b ≡ false → IsForestAt bs (p ∷ (xs ++ ys))
IsForestAt-exchange bs xs f ys p e forest there apart =
    let d = there_at bs (xs ++ f ∷ ys) forest.present f (Contains-append_right xs (f ∷ ys) f (0, omega arith, refl)) in
    let split : ends_of bs (xs ++ f ∷ ys) ≡ ends_of bs xs ++ d.0 ∷ ends_of bs ys = ends_of-append bs xs (f ∷ ys) ∙ ap (λ o. ends_of bs xs ++ cons_option o (ends_of bs ys)) d.1 in
    let others : ends_of bs (xs ++ ys) ≡ ends_of bs xs ++ ends_of bs ys = ends_of-append bs xs ys in
    let old : IsForest (ends_of bs xs ++ d.0 ∷ ends_of bs ys) = subst (λ t. IsForest t) split forest.forest in
    let new = IsForest-exchange (ends_of bs xs) d.0 (ends_of bs ys) e old (apart-from_false (ends_of bs xs ++ ends_of bs ys) e.a e.b (subst (λ t. is_joined t e.a e.b ≡ false) others apart)) in
    record {
      present = All-cons (λ p. IsSome (slice_index_or bs p None)) p (xs ++ ys) (ap is_some there) (All_others (λ p. IsSome (slice_index_or bs p None)) xs f ys forest.present);
      forest = subst (λ o. IsForest (cons_option o (ends_of bs (xs ++ ys)))) (sym there) (subst (λ t. IsForest (e ∷ t)) (sym others) new);
    }
  where
    All_others : (P : ℕ → Type 0) (xs : List ℕ) (f : ℕ) (ys : List ℕ) → All P (xs ++ f ∷ ys) → All P (xs ++ ys)
    All_others P [] f ys all = All-tail P f ys all
    All_others P (x ∷ xs) f ys all = All-cons P x (xs ++ ys) (All-head P x (xs ++ f ∷ ys) all) (All_others P xs f ys (All-tail P x (xs ++ f ∷ ys) all))
