-- What touched branches have in common.
use Rattle.std.proofs.Common.{◌≡◌, ℕ, zero, suc, ◌<◌, ◌≤◌, ◌⊎◌, eqb, inl, inr, Option, Some, None, List, [], ◌∷◌, length, get_or, refl, sym, ap, ◌∙◌, subst, true, arith}
use Rattle.std.specs.Prelude.{All, AllPairs, IsSome, slice_index_or, nat_lt, take}
use Rattle.std.specs.Cmp.Derive.{one_truth}
use Rattle.std.specs.List.{Contains, list_any}
use Rattle.std.proofs.Math.Seq.{take-length}
use Rattle.std.proofs.lemmas.Bool.{cases_lt, eq-eqb, eqb-true, or_cases, or_left, or_right}
use Rattle.std.proofs.lemmas.Bool.Decides.{nat_tests}
use Rattle.std.proofs.lemmas.List.{get_or_default, get_or-take, length-take}
use Rattle.obs_graph.specs.declared.Ends.{Ends}
use Rattle.obs_graph.specs.Positions.{branches_at, has_end}
use Rattle.obs_graph.specs.Graph.{Graph, itself_of}
use Rattle.obs_graph.proofs.AtVertex.{at_vertex, end_at, has_end-at_vertex, positions_from_rise}
use Rattle.obs_graph.proofs.Present.{present_low}
use Rattle.obs_matroid.specs.Lists.{In, IsRising}
use Rattle.obs_matroid.proofs.Contained.{All-from_In, Contains-from_In, In-from_Contains}
use Rattle.obs_meter.specs.declared.Hub.{Hub}
use Rattle.obs_meter.specs.declared.Touch.{Touch}
use Rattle.obs_meter.specs.declared.Touch.TheVariants.{Nothing, Edge, Star, Front}
use Rattle.obs_meter.specs.Touches.{touched, touch_at, is_live}
use Rattle.obs_meter.specs.inner.Touches.{IsInRange, hub_of}
use Rattle.obs_meter.specs.Spanned.{both_ends, ends_at, common_vertex}

itself_rising : (o : Option Ends) (e : ℕ) → AllPairs ◌<◌ (itself_of o e)
itself_rising None e = λ i j d l m. absurd (omega (arith, m))
itself_rising (Some x) e = λ i j d l m. absurd (omega (arith, m))

-- what is among the first so many is in the list
pub In-take : (count : ℕ) (xs : List ℕ) (e : ℕ) → In e (take count xs) → In e xs
In-take zero xs e i = absurd i
In-take (suc count) [] e i = absurd i
In-take (suc count) (x ∷ xs) e (inl i) = inl i
In-take (suc count) (x ∷ xs) e (inr i) = inr (In-take count xs e i)

-- and among more of the first
pub In-take_more : (few many : ℕ) (xs : List ℕ) (e : ℕ) → few ≤ many → In e (take few xs) → In e (take many xs)
In-take_more zero many xs e l i = absurd i
In-take_more (suc few) zero xs e l i = absurd (omega (arith, l))
In-take_more (suc few) (suc many) [] e l i = absurd i
In-take_more (suc few) (suc many) (x ∷ xs) e l (inl s) = inl s
In-take_more (suc few) (suc many) (x ∷ xs) e l (inr i) = inr (In-take_more few many xs e (omega (arith, l)) i)

taken_low : (count : ℕ) (xs : List ℕ) → (length (take count xs) ≤ count) × (length (take count xs) ≤ length xs)
taken_low count xs = (omega (arith, length-take count xs), omega (arith, length-take count xs))

rising_take : (count : ℕ) (xs : List ℕ) → AllPairs ◌<◌ xs → AllPairs ◌<◌ (take count xs)
rising_take count xs h = λ i j d l m.
    let low = taken_low count xs in
    let one : get_or (take count xs) i d ≡ get_or xs i d = get_or-take count xs i d (omega (arith, l, m, low.0)) in
    let two : get_or (take count xs) j d ≡ get_or xs j d = get_or-take count xs j d (omega (arith, m, low.0)) in
    let before : get_or xs i d < get_or xs j d = h i j d l (omega (arith, m, low.1)) in
    omega (arith, one, two, before)

-- touched branches rise
pub touched-rising : (ends : List (Option Ends)) (t : Touch) → AllPairs ◌<◌ (touched ends t)
touched-rising ends Nothing = λ i j d l m. absurd (omega (arith, m))
touched-rising ends (Edge e) = itself_rising (slice_index_or ends e None) e
touched-rising ends (Star v) = positions_from_rise (has_end v) 0 ends
touched-rising ends (Front v count) = rising_take count (branches_at ends v) (positions_from_rise (has_end v) 0 ends)

some_with_end : (v : ℕ) (o : Option Ends) → has_end v o ≡ true → IsSome o
some_with_end v None t = absurd (cc t)
some_with_end v (Some x) t = refl

-- a branch alone is itself, and is there where it is present
pub itself_from : (o : Option Ends) (e p : ℕ) → In p (itself_of o e) → (p ≡ e) × IsSome o
itself_from None e p i = absurd i
itself_from (Some x) e p (inl i) = (i, refl)
itself_from (Some x) e p (inr i) = absurd i

pub itself_in : (o : Option Ends) (e : ℕ) → IsSome o → In e (itself_of o e)
itself_in None e s = absurd (cc s)
itself_in (Some x) e s = inl refl

present_there : (ends : List (Option Ends)) (v e : ℕ) → In e (branches_at ends v) → IsSome (slice_index_or ends e None)
present_there ends v e i = some_with_end v (slice_index_or ends e None) (has_end-at_vertex ends v e (Contains-from_In e (branches_at ends v) i))

-- a touched branch is present
pub touched-present : (ends : List (Option Ends)) (t : Touch) (e : ℕ) → In e (touched ends t) → IsSome (slice_index_or ends e None)
touched-present ends Nothing e i = absurd i
touched-present ends (Edge p) e i = let h = itself_from (slice_index_or ends p None) p e i in rw h.0 h.1
touched-present ends (Star v) e i = present_there ends v e i
touched-present ends (Front v count) e i = present_there ends v e (In-take count (branches_at ends v) e i)

end_there : (v : ℕ) (o : Option Ends) → has_end v o ≡ true → ((both_ends o).0 ≡ v) ⊎ ((both_ends o).1 ≡ v)
end_there v None t = absurd (cc t)
end_there v (Some x) t = end_at v x t

ends_there : (ends : List (Option Ends)) (v e : ℕ) → In e (branches_at ends v) → ((ends_at ends e).0 ≡ v) ⊎ ((ends_at ends e).1 ≡ v)
ends_there ends v e i = end_there v (slice_index_or ends e None) (has_end-at_vertex ends v e (Contains-from_In e (branches_at ends v) i))

-- a touched branch has an end at the hub
pub touched-vertex : (ends : List (Option Ends)) (t : Touch) (e : ℕ) → In e (touched ends t) → ((ends_at ends e).0 ≡ common_vertex ends t) ⊎ ((ends_at ends e).1 ≡ common_vertex ends t)
touched-vertex ends Nothing e i = absurd i
touched-vertex ends (Edge p) e i = let h = itself_from (slice_index_or ends p None) p e i in inl (ap (λ x. (ends_at ends x).0) h.0)
touched-vertex ends (Star v) e i = ends_there ends v e i
touched-vertex ends (Front v count) e i = ends_there ends v e (In-take count (branches_at ends v) e i)

some_hub : (x h : Hub) → Some x ≡ Some h → x ≡ h
some_hub x h is = cc is

-- an item with a hub touches the first so many branches there
pub touched-hub : (ends : List (Option Ends)) (t : Touch) (h : Hub) → hub_of ends t ≡ Some h → touched ends t ≡ take h.count (branches_at ends h.vertex)
touched-hub ends Nothing h is = absurd (cc is)
touched-hub ends (Edge e) h is = absurd (cc is)
touched-hub ends (Star v) h is =
    let same : record { vertex = v; count = length (branches_at ends v) } ≡ h = some_hub _ h is in
    sym (take-length (branches_at ends v)) ∙ ap (λ (x : Hub). take x.count (branches_at ends x.vertex)) same
touched-hub ends (Front v count) h is =
    let same : record { vertex = v; count = count } ≡ h = some_hub _ h is in
    ap (λ (x : Hub). take x.count (branches_at ends x.vertex)) same

-- and its vertex is one of the graph's
pub hub_low : (g : Graph) (t : Touch) (h : Hub) → IsInRange g t → hub_of g.ends t ≡ Some h → h.vertex < g.vertices
hub_low g Nothing h r is = absurd (cc is)
hub_low g (Edge e) h r is = absurd (cc is)
hub_low g (Star v) h r is = subst (λ (x : Hub). x.vertex < g.vertices) (some_hub _ h is) r
hub_low g (Front v count) h r is = subst (λ (x : Hub). x.vertex < g.vertices) (some_hub _ h is) r.0

pub touched-below : (ends : List (Option Ends)) (t : Touch) → All (λ e. e < length ends) (touched ends t)
touched-below ends t = All-from_In (λ e. e < length ends) (touched ends t) (λ e i. present_low ends e (touched-present ends t e i))

-- an item with a branch is live
pub live-from_In : (ends : List (Option Ends)) (touches : List Touch) (m e : ℕ) → In e (touch_at ends touches m) → is_live ends touches m ≡ true
live-from_In ends touches m e i = some_in (touch_at ends touches m) i
  where
    some_in : (xs : List ℕ) → In e xs → nat_lt 0 (length xs) ≡ true
    some_in [] i = absurd i
    some_in (x ∷ xs) i = grind (arith, nat_tests)

-- a number is in a list exactly where the test finds it
pub In-from_any : (xs : List ℕ) (e : ℕ) → list_any (λ p. eqb p e) xs ≡ true → In e xs
In-from_any [] e t = absurd (cc t)
In-from_any (x ∷ xs) e t = elim (or_cases (eqb x e) (list_any (λ p. eqb p e) xs) t) [ inl y ↦ inl (sym (eqb-true x e y)) | inr y ↦ inr (In-from_any xs e y) ]

pub any-from_In : (xs : List ℕ) (e : ℕ) → In e xs → list_any (λ p. eqb p e) xs ≡ true
any-from_In [] e i = absurd i
any-from_In (x ∷ xs) e (inl i) = or_left (eqb x e) (list_any (λ p. eqb p e) xs) (eq-eqb x e (sym i))
any-from_In (x ∷ xs) e (inr i) = or_right (eqb x e) (list_any (λ p. eqb p e) xs) (any-from_In xs e i)

-- the branches at v are those with an end there
pub star_touched : (ends : List (Option Ends)) (v e : ℕ) → has_end v (slice_index_or ends e None) ≡ list_any (λ p. eqb p e) (branches_at ends v)
star_touched ends v e = one_truth (has_end v (slice_index_or ends e None)) (list_any (λ p. eqb p e) (branches_at ends v))
    (λ t. any-from_In (branches_at ends v) e (In-from_Contains e (branches_at ends v) (at_vertex ends v e t)))
    (λ t. has_end-at_vertex ends v e (Contains-from_In e (branches_at ends v) (In-from_any (branches_at ends v) e t)))

not_behind : (xs : List ℕ) (count k e : ℕ) → AllPairs ◌<◌ xs → k < length xs → get_or xs k 0 ≡ e → count ≤ k → e < get_or xs count 0 → ⊥
not_behind xs count k e rises low is behind before =
    elim (cases_lt count k) [
      | inl l ↦ let r : get_or xs count 0 < get_or xs k 0 = rises count k 0 l low in absurd (omega (arith, r, is, before))
      | inr l ↦ let same : count ≡ k = omega arith in absurd (omega (arith, ap (λ j. get_or xs j 0) same, is, before))
    ]

-- an entry of a rising list is among the first so many exactly where it stands before the one behind these
pub among-before : (xs : List ℕ) (count e : ℕ) → AllPairs ◌<◌ xs → Contains xs e → count < length xs
    → nat_lt e (get_or xs count 0) ≡ list_any (λ p. eqb p e) (take count xs)
among-before xs count e rises (k, low, is) l =
    let there : get_or xs k 0 ≡ e = get_or_default xs k 0 e low ∙ is in
    one_truth (nat_lt e (get_or xs count 0)) (list_any (λ p. eqb p e) (take count xs))
    (λ t.
    let before : e < get_or xs count 0 = below_from e (get_or xs count 0) t in
    elim (cases_lt k count) [
      | inl first ↦ any-from_In (take count xs) e (In-from_Contains e (take count xs) (k, omega (arith, length-take count xs, first, low), get_or-take count xs k e first ∙ is))
      | inr behind ↦ absurd (not_behind xs count k e rises low there behind before)
    ])
    (λ t.
    let c = Contains-from_In e (take count xs) (In-from_any (take count xs) e t) in
    let c_low = c.1 in
    let lt : c.0 < count = omega (arith, length-take count xs, c_low) in
    let c_in : c.0 < length xs = omega (arith, lt, l) in
    let at : get_or xs c.0 0 ≡ e = get_or_default xs c.0 0 e c_in ∙ (sym (get_or-take count xs c.0 e lt) ∙ c.2) in
    let before : get_or xs c.0 0 < get_or xs count 0 = rises c.0 count 0 lt l in
    test_from e (get_or xs count 0) (omega (arith, at, before)))
  where
    below_from : (x y : ℕ) → nat_lt x y ≡ true → x < y
    below_from x y t = grind (arith, nat_tests)

    test_from : (x y : ℕ) → x < y → nat_lt x y ≡ true
    test_from x y l = grind (arith, nat_tests)

rising_from_pairs : (xs : List ℕ) → AllPairs ◌<◌ xs → IsRising xs
rising_from_pairs [] h = tt
rising_from_pairs (x ∷ xs) h = (
  (λ y i. let c = Contains-from_In y xs i in let l = c.1 in let e = c.2 in let k = h 0 (suc c.0) y (omega arith) (omega (arith, l)) in rw e at k),
  rising_from_pairs xs (λ i j d l m. h (suc i) (suc j) d (omega (arith, l)) (omega (arith, m))),
)

-- an item's branches rise
pub touch-rising : (ends : List (Option Ends)) (touches : List Touch) (m : ℕ) → IsRising (touch_at ends touches m)
touch-rising ends touches m = rising_from_pairs (touch_at ends touches m) (touched-rising ends (slice_index_or touches m Nothing))
