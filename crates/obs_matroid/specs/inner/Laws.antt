-- What is proved. In all of it g is a matroid, `touch m` are the branches that the item m touches, M is a list of items,
-- A and B are assignments, and J, S and T are sets of items, as tests (in IslandsPartition S and T are sets of vertices). Where items
-- may be added at a price, E or es are the candidates and xs the answer.
use Rattle.std.specs.Prelude.{◌≡◌, ℕ, ◌+◌, ◌≤◌, ◌<◌, Bool, true, false, ◌⊎◌, ◌↔◌, ◌||◌, List, [], ◌∷◌, ◌++◌, length, filter, sum_by}
use Rattle.obs_matroid.specs.Lists.{In, IsDistinct, IsRising, without}
use Rattle.obs_matroid.specs.Matroid.{Matroid, IsIndependent}
use Rattle.obs_matroid.specs.inner.Matroid.{IsMatroid}
use Rattle.obs_matroid.specs.Assignments.{Pair, items, branches, IsAssignment}
use Rattle.obs_matroid.specs.inner.Assignments.{part, IsRho}
use Rattle.obs_matroid.specs.inner.Bounds.{bound, IsTight}
use Rattle.obs_matroid.specs.inner.Critical.{IsCritical}
use Rattle.obs_matroid.specs.inner.Closed.{none, every, HasFrozen, Extends, IsClosed, HoldsSources, IsLeastClosed, IsGrown, IsRegrown}
use Rattle.obs_matroid.specs.inner.Exchange.{put_all, source, IsExchangePath, IsLonger, IsPinned}
use Rattle.obs_matroid.specs.inner.First.{IsFirst}
use Rattle.obs_matroid.specs.Values.{first_of, rho_of, is_critical}
use Rattle.obs_matroid.specs.Partners.{class_of, is_partner}
use Rattle.obs_matroid.specs.inner.Partners.{ArePartners}
use Rattle.obs_matroid.specs.Placement.{below, Layer, RunOn, layers_sum, IsShown}
use Rattle.obs_matroid.specs.inner.Placement.{IsByPrice, IsApart, IsAnswer, answer_of, RunsThrough, own_list, own_layers}
use Rattle.obs_matroid.specs.Graphic.{graphic}
use Rattle.obs_matroid.specs.inner.Graphic.{IsJoining}
use Rattle.obs_matroid.specs.inner.Components.{IsSumOfKinds, is_of}
use Rattle.obs_matroid.specs.Islands.{IsIsland}

-- branches are independent exactly where their rank is their number
abbrev pub IndependentByRank : Type 0
IndependentByRank = (g : Matroid) → IsMatroid g → (L : List ℕ) → IsIndependent g L ↔ (g.rank L ≡ length L)

-- branches are independent exactly where they are different and none is spanned by the others: their order does not matter
abbrev pub IndependentInAnyOrder : Type 0
IndependentInAnyOrder = (g : Matroid) → IsMatroid g → (L : List ℕ)
    → IsIndependent g L ↔ (IsDistinct L × ((e : ℕ) → In e L → g.spans (without e L) e ≡ false))

-- the rank of a list is the greatest length of independent branches of it
abbrev pub RankIsGreatest : Type 0
RankIsGreatest = (g : Matroid) → IsMatroid g → (L : List ℕ)
    → ((I : List ℕ) → IsIndependent g I → ((e : ℕ) → In e I → In e L) → length I ≤ g.rank L)
    × (I : List ℕ) × IsIndependent g I × ((e : ℕ) → In e I → In e L) × (length I ≡ g.rank L)

-- a graph's closure and rank are a matroid, where the rank grows by one for each branch whose ends are not joined yet
abbrev pub GraphIsMatroid : Type 0
GraphIsMatroid = (ends : ℕ → ℕ × ℕ) (joined : List ℕ → ℕ → ℕ → Bool) (rank : List ℕ → ℕ) → IsJoining ends joined → rank [] ≡ 0
    → ((L : List ℕ) (e : ℕ) → joined L (ends e).0 (ends e).1 ≡ true → rank (e ∷ L) ≡ rank L)
    → ((L : List ℕ) (e : ℕ) → joined L (ends e).0 (ends e).1 ≡ false → rank (e ∷ L) ≡ rank L + 1)
    → IsMatroid (graphic ends joined rank)

-- no assignment is longer than any bound
abbrev pub WeakBound : Type 0
WeakBound = (g : Matroid) → IsMatroid g → (touch : ℕ → List ℕ) (M : List ℕ) (J : ℕ → Bool) (A : List Pair)
    → IsAssignment g touch M A → length A ≤ bound g touch J M

-- each list of different items has a greatest length of an assignment: the computed one
abbrev pub RhoComputed : Type 0
RhoComputed = (g : Matroid) → IsMatroid g → (touch : ℕ → List ℕ) (M : List ℕ) → IsDistinct M → IsRho g touch M (rho_of g touch M)

-- a list of items has one greatest length alone
abbrev pub RhoUnique : Type 0
RhoUnique = (g : Matroid) (touch : ℕ → List ℕ) (M : List ℕ) (r s : ℕ) → IsRho g touch M r → IsRho g touch M s → r ≡ s

-- an item is critical exactly where the test says so
abbrev pub CriticalComputed : Type 0
CriticalComputed = (g : Matroid) → IsMatroid g → (touch : ℕ → List ℕ) (M : List ℕ) → IsDistinct M
    → (m : ℕ) → (is_critical g touch M m ≡ true) ↔ IsCritical g touch M m

-- a set that marks just the items that are not critical is tight: its bound is the greatest length
abbrev pub NonCriticalIsTight : Type 0
NonCriticalIsTight = (g : Matroid) → IsMatroid g → (touch : ℕ → List ℕ) (M : List ℕ) → IsDistinct M
    → (S : ℕ → Bool) → ((m : ℕ) → In m M → (S m ≡ false) ↔ IsCritical g touch M m) → IsTight g touch M S

-- each item that a tight set does not mark is critical: the items that are not critical are the least tight set
abbrev pub OutsideTightIsCritical : Type 0
OutsideTightIsCritical = (g : Matroid) → IsMatroid g → (touch : ℕ → List ℕ) (M : List ℕ) → IsDistinct M
    → (J : ℕ → Bool) → IsTight g touch M J → (m : ℕ) → In m M → J m ≡ false → IsCritical g touch M m

-- where nothing is frozen and every item is a source, the least closed set holds just the items that are not critical
abbrev pub LeastClosedIsNonCritical : Type 0
LeastClosedIsNonCritical = (g : Matroid) → IsMatroid g → (touch : ℕ → List ℕ) (M : List ℕ) → IsDistinct M
    → (A : List Pair) (S : ℕ → Bool) → IsAssignment g touch M A → IsLeastClosed g touch M none every A S
    → (m : ℕ) → In m M → (S m ≡ false) ↔ IsCritical g touch M m

-- what is critical in a list is critical in each smaller list that holds it
abbrev pub CriticalInSmaller : Type 0
CriticalInSmaller = (g : Matroid) → IsMatroid g → (touch : ℕ → List ℕ) (M N : List ℕ) → IsDistinct M → IsDistinct N
    → ((x : ℕ) → In x M → In x N) → (m : ℕ) → In m M → IsCritical g touch N m → IsCritical g touch M m

-- an assignment grows by a source, or it has a least closed set that holds the sources
abbrev pub GrowsOrCloses : Type 0
GrowsOrCloses = (g : Matroid) → IsMatroid g → (touch : ℕ → List ℕ) (M : List ℕ) → IsDistinct M
    → (frozen from : ℕ → Bool) (A : List Pair) → IsAssignment g touch M A → HasFrozen frozen A
    → ((B : List Pair) × (s : ℕ) × IsGrown g touch M frozen from A B s) ⊎ ((S : ℕ → Bool) × IsLeastClosed g touch M frozen from A S)

-- where S is closed, no assignment that has the frozen pairs, and a pair for each item that has one in A, has a pair for a further item of S
abbrev pub ClosedAddsNone : Type 0
ClosedAddsNone = (g : Matroid) → IsMatroid g → (touch : ℕ → List ℕ) (M : List ℕ) (frozen : ℕ → Bool) (A B : List Pair) (S : ℕ → Bool)
    → IsAssignment g touch M A → IsAssignment g touch M B → HasFrozen frozen A → Extends frozen A B → IsClosed g touch M frozen A S
    → ((x : ℕ) → In x (items A) → In x (items B)) → (s : ℕ) → S s ≡ true → (In s (items A) → ⊥) → In s (items B) → ⊥

-- where S is closed, no assignment that has the frozen pairs has more pairs of items that are in S or frozen
abbrev pub ClosedCounts : Type 0
ClosedCounts = (g : Matroid) → IsMatroid g → (touch : ℕ → List ℕ) (M : List ℕ) (frozen : ℕ → Bool) (A B : List Pair) (S : ℕ → Bool)
    → IsAssignment g touch M A → IsAssignment g touch M B → HasFrozen frozen A → Extends frozen A B → IsClosed g touch M frozen A S
    → length (part (λ x. S x || frozen x) B) ≤ length (part (λ x. S x || frozen x) A)

-- where S is closed and holds each item of M without a pair, no assignment that has the frozen pairs is longer
abbrev pub ClosedIsLongest : Type 0
ClosedIsLongest = (g : Matroid) → IsMatroid g → (touch : ℕ → List ℕ) (M : List ℕ) (frozen : ℕ → Bool) (A B : List Pair) (S : ℕ → Bool)
    → IsAssignment g touch M A → IsAssignment g touch M B → HasFrozen frozen A → Extends frozen A B → IsClosed g touch M frozen A S
    → HoldsSources M every A S → length B ≤ length A

-- with nothing frozen, the bound of a closed set that holds each item of M without a pair is the number of pairs: by WeakBound, the set is tight
abbrev pub ClosedIsTight : Type 0
ClosedIsTight = (g : Matroid) → IsMatroid g → (touch : ℕ → List ℕ) (M : List ℕ) → IsDistinct M → (A : List Pair) (S : ℕ → Bool)
    → IsAssignment g touch M A → IsClosed g touch M none A S → HoldsSources M every A S → bound g touch S M ≡ length A

-- the least closed set holds no frozen item
abbrev pub LeastClosedHasNoFrozen : Type 0
LeastClosedHasNoFrozen = (g : Matroid) → IsMatroid g → (touch : ℕ → List ℕ) (M : List ℕ) (frozen from : ℕ → Bool) (A : List Pair) (S : ℕ → Bool)
    → HasFrozen frozen A → IsLeastClosed g touch M frozen from A S → (m : ℕ) → S m ≡ true → frozen m ≡ false

-- the union of two closed sets is closed
abbrev pub ClosedTogether : Type 0
ClosedTogether = (g : Matroid) → IsMatroid g → (touch : ℕ → List ℕ) (M : List ℕ) (frozen : ℕ → Bool) (A : List Pair) (S T : ℕ → Bool)
    → IsClosed g touch M frozen A S → IsClosed g touch M frozen A T → IsClosed g touch M frozen A (λ x. S x || T x)

-- the moves of an exchange path without shortcuts (an augmenting path) give an assignment of one more pair
abbrev pub ExchangePathGrows : Type 0
ExchangePathGrows = (g : Matroid) → IsMatroid g → (touch : ℕ → List ℕ) (M : List ℕ) (A : List Pair) (last : Pair) (back : List Pair)
    → IsAssignment g touch M A → IsExchangePath g touch M A last back → IsLonger g touch M A (put_all (last ∷ back) A) (source last.0 back)

-- m and e can be made a pair at the price of at most one further pair, which is not frozen, where m is not frozen and the frozen branches do not span e
abbrev pub PinGivesUpOne : Type 0
PinGivesUpOne = (g : Matroid) → IsMatroid g → (touch : ℕ → List ℕ) (M : List ℕ) (frozen : ℕ → Bool) (A : List Pair) (m e : ℕ)
    → IsAssignment g touch M A → In m M → In e (touch m) → frozen m ≡ false → g.spans (branches (part frozen A)) e ≡ false
    → (x : ℕ) × IsPinned g touch M frozen A m e x

-- where the frozen branches span e and m is not frozen, no assignment that has the frozen pairs has the pair of m and e
abbrev pub PinIsImpossible : Type 0
PinIsImpossible = (g : Matroid) → IsMatroid g → (touch : ℕ → List ℕ) (M : List ℕ) (frozen : ℕ → Bool) (A B : List Pair) (m e : ℕ)
    → IsAssignment g touch M B → Extends frozen A B → frozen m ≡ false → g.spans (branches (part frozen A)) e ≡ true → In (m, e) B → ⊥

-- an assignment can be regrown until none that has the frozen pairs is longer, and no item loses its pair
abbrev pub Regrows : Type 0
Regrows = (g : Matroid) → IsMatroid g → (touch : ℕ → List ℕ) (M : List ℕ) → IsDistinct M → (frozen : ℕ → Bool) (A : List Pair)
    → IsAssignment g touch M A → HasFrozen frozen A → (C : List Pair) × IsRegrown g touch M frozen A C

-- where each item's branches rise, there is a first assignment: the computed one
abbrev pub FirstComputed : Type 0
FirstComputed = (g : Matroid) → IsMatroid g → (touch : ℕ → List ℕ) (M : List ℕ) → IsDistinct M → ((m : ℕ) → IsRising (touch m))
    → IsFirst g touch M (first_of g touch M)

-- there is one first assignment alone, but for the order of its pairs
abbrev pub FirstUnique : Type 0
FirstUnique = (g : Matroid) (touch : ℕ → List ℕ) (M : List ℕ) (A B : List Pair) → IsFirst g touch M A → IsFirst g touch M B
    → (p : Pair) → In p A ↔ In p B

-- where the matroid is the sum of its kinds and each item touches branches of one kind, the bound of a closed set that holds each item
-- without a pair, over the items of a component K, is the number of A's pairs there, and no assignment has more pairs there
abbrev pub ComponentBound : Type 0
ComponentBound = (g : Matroid) → IsMatroid g → (touch : ℕ → List ℕ) (kind of : ℕ → ℕ) → IsSumOfKinds g kind
    → ((m e : ℕ) → In e (touch m) → kind e ≡ of m) → (M : List ℕ) → IsDistinct M → (A : List Pair) (S : ℕ → Bool)
    → IsAssignment g touch M A → IsClosed g touch M none A S → HoldsSources M every A S → (K : ℕ)
    → (bound g touch S (filter (is_of of K) M) ≡ length (part (is_of of K) A))
    × ((B : List Pair) → IsAssignment g touch M B → length (part (is_of of K) B) ≤ length (part (is_of of K) A))

-- each vertex lies in exactly one island
abbrev pub IslandsPartition : Type 0
IslandsPartition = (ends : ℕ → ℕ × ℕ) (joined : List ℕ → ℕ → ℕ → Bool) (rank : List ℕ → ℕ) → IsJoining ends joined
    → IsMatroid (graphic ends joined rank)
    → (touch : ℕ → List ℕ) (vs M : List ℕ) → IsDistinct vs → IsDistinct M
    → ((m e : ℕ) → In m M → In e (touch m) → In (ends e).0 vs × In (ends e).1 vs)
    → (v : ℕ) → In v vs → (S : ℕ → Bool) × IsIsland ends (graphic ends joined rank) touch vs M S × (S v ≡ true)
    × ((T : ℕ → Bool) → IsIsland ends (graphic ends joined rank) touch vs M T → T v ≡ true → (u : ℕ) → In u vs → T u ≡ S u)

-- the branches have an end in common
abbrev pub HasHub : (ℕ → ℕ × ℕ) → List ℕ → Type 0
HasHub ends es = (v : ℕ) × ((e : ℕ) → In e es → ((ends e).0 ≡ v) ⊎ ((ends e).1 ≡ v))

-- the branch lies between two islands: no island has both its ends
abbrev pub LiesBetween : (ℕ → ℕ × ℕ) → Matroid → (ℕ → List ℕ) → List ℕ → List ℕ → ℕ → Type 0
LiesBetween ends g touch vs M e =
    (S : ℕ → Bool) → IsIsland ends g touch vs M S → In (ends e).0 vs → In (ends e).1 vs → S (ends e).0 ≡ true → S (ends e).1 ≡ true → ⊥

-- where the branches that each item of M touches have an end in common, an item x more raises the greatest length by one exactly where
-- it touches a branch between two islands
abbrev pub BetweenIslandsRaises : Type 0
BetweenIslandsRaises = (ends : ℕ → ℕ × ℕ) (joined : List ℕ → ℕ → ℕ → Bool) (rank : List ℕ → ℕ) → IsJoining ends joined
    → IsMatroid (graphic ends joined rank)
    → (touch : ℕ → List ℕ) (vs M : List ℕ) (x : ℕ) → IsDistinct vs → IsDistinct (x ∷ M)
    → ((m e : ℕ) → In m (x ∷ M) → In e (touch m) → In (ends e).0 vs × In (ends e).1 vs) → ((m : ℕ) → In m M → HasHub ends (touch m))
    → (r : ℕ) → IsRho (graphic ends joined rank) touch M r
    → IsRho (graphic ends joined rank) touch (x ∷ M) (r + 1) ↔ ((e : ℕ) × In e (touch x) × LiesBetween ends (graphic ends joined rank) touch vs M e)

-- each set of candidates that brings the greatest length to exactly the needed one costs at least what the layers show, for layers that run on from 0
abbrev pub LayerBound : Type 0
LayerBound = (g : Matroid) → IsMatroid g → (touch : ℕ → List ℕ) (price : ℕ → ℕ) (M E X : List ℕ) (needed : ℕ) (ls : List Layer) → RunOn 0 ls
    → ((l : Layer) → In l ls → IsShown g touch price M E l) → ((c : ℕ) → In c X → In c E) → IsRho g touch (M ++ X) needed
    → layers_sum needed ls ≤ sum_by price X

-- there is an answer: the computed one
abbrev pub AnswerComputed : Type 0
AnswerComputed = (g : Matroid) → IsMatroid g → (touch : ℕ → List ℕ) (M es : List ℕ) → IsApart M es
    → IsAnswer g touch M es (answer_of g touch M es)

-- there is one answer alone
abbrev pub AnswerUnique : Type 0
AnswerUnique = (g : Matroid) (touch : ℕ → List ℕ) (M es xs ys : List ℕ) → IsAnswer g touch M es xs → IsAnswer g touch M es ys → xs ≡ ys

-- the answer does as much as all candidates, and each of its members adds one
abbrev pub AnswerCompletes : Type 0
AnswerCompletes = (g : Matroid) → IsMatroid g → (touch : ℕ → List ℕ) (M es xs : List ℕ) (r : ℕ) → IsAnswer g touch M es xs → IsApart M es
    → IsRho g touch M r
    → IsRho g touch (M ++ es) (r + length xs) × IsRho g touch (M ++ xs) (r + length xs)

-- the candidates below a price add as much as there are members of the answer below it
abbrev pub AnswerCounts : Type 0
AnswerCounts = (g : Matroid) → IsMatroid g → (touch : ℕ → List ℕ) (price : ℕ → ℕ) (t : ℕ) (M es xs : List ℕ) (r : ℕ)
    → IsAnswer g touch M es xs → IsApart M es
    → IsByPrice price es → IsRho g touch M r → IsRho g touch (M ++ below price t es) (r + length (below price t xs))

-- the candidates below the price of a member of the answer do not do as much as all
abbrev pub AnswerLacks : Type 0
AnswerLacks = (g : Matroid) → IsMatroid g → (touch : ℕ → List ℕ) (price : ℕ → ℕ) (t : ℕ) (M es xs : List ℕ) (r s c : ℕ)
    → IsAnswer g touch M es xs → IsApart M es → IsByPrice price es → IsRho g touch M r → In c xs → t ≤ price c
    → IsRho g touch (M ++ below price t es) s → s < r + length xs

-- layers whose lists are tight, and which no price of the answer cuts or exceeds, show its whole cost
abbrev pub AnswerCost : Type 0
AnswerCost = (g : Matroid) → IsMatroid g → (touch : ℕ → List ℕ) (price : ℕ → ℕ) (M es xs : List ℕ) (r : ℕ) (ls : List Layer)
    → IsAnswer g touch M es xs
    → IsApart M es → IsByPrice price es → IsRho g touch M r → RunOn 0 ls → RunsThrough price 0 ls xs
    → ((l : Layer) → In l ls → IsRho g touch (M ++ below price l.to es) (l.rank + l.outside))
    → layers_sum (r + length xs) ls ≡ sum_by price xs

-- no set of candidates that does as much costs less than the answer
abbrev pub AnswerIsCheapest : Type 0
AnswerIsCheapest = (g : Matroid) → IsMatroid g → (touch : ℕ → List ℕ) (price : ℕ → ℕ) (M es xs X : List ℕ) (r : ℕ)
    → IsAnswer g touch M es xs
    → IsApart M es → IsByPrice price es → IsRho g touch M r → ((c : ℕ) → In c X → In c es) → IsRho g touch (M ++ X) (r + length xs)
    → sum_by price xs ≤ sum_by price X

-- the own layers of the answer run on from 0, each ends at the price of a member, and no price of a member lies inside a layer or above the last
abbrev pub OwnLayersRun : Type 0
OwnLayersRun = (g : Matroid) (touch : ℕ → List ℕ) (price : ℕ → ℕ) (M es xs : List ℕ) → IsAnswer g touch M es xs → IsByPrice price es
    → let ls : List Layer = own_layers g touch price M es 0 xs in
    RunOn 0 ls × RunsThrough price 0 ls xs × ((l : Layer) → In l ls → (c : ℕ) × In c xs × (price c ≡ l.to))

-- the own layers of the answer show its whole cost, and each lacks something: its bound is below the needed number
abbrev pub OwnLayersShow : Type 0
OwnLayersShow = (g : Matroid) → IsMatroid g → (touch : ℕ → List ℕ) (price : ℕ → ℕ) (M es xs : List ℕ) (r : ℕ)
    → IsAnswer g touch M es xs → IsApart M es → IsByPrice price es → IsRho g touch M r
    → let ls : List Layer = own_layers g touch price M es 0 xs in
    (layers_sum (r + length xs) ls ≡ sum_by price xs)
    × ((l : Layer) → In l ls → IsShown g touch price M es l × (l.rank + l.outside < r + length xs))

-- the own list of a layer holds those of the layers before it
abbrev pub OwnListsGrow : Type 0
OwnListsGrow = (g : Matroid) → IsMatroid g → (touch : ℕ → List ℕ) (price : ℕ → ℕ) (M es : List ℕ) → IsApart M es → (t u : ℕ) → t ≤ u
    → (m : ℕ) → In m (own_list g touch price M es t) → In m (own_list g touch price M es u)

-- two items are partners exactly where the test says so, and then they are different items of the list
abbrev pub PartnersComputed : Type 0
PartnersComputed = (g : Matroid) → IsMatroid g → (touch : ℕ → List ℕ) (M : List ℕ) → IsDistinct M → (m k : ℕ)
    → ((is_partner g touch M m k ≡ true) ↔ ArePartners g touch M m k)
    × (ArePartners g touch M m k → (m ≡ k → ⊥) × In m M × In k M)

-- what is critical without a redundant item, and wasn't before, are exactly its partners
abbrev pub PartnersAreNewlyCritical : Type 0
PartnersAreNewlyCritical = (g : Matroid) → IsMatroid g → (touch : ℕ → List ℕ) (M : List ℕ) → IsDistinct M
    → (m : ℕ) → (IsCritical g touch M m → ⊥) → (k : ℕ)
    → (IsCritical g touch (without m M) k × (IsCritical g touch M k → ⊥)) ↔ ArePartners g touch M m k

-- a partner is one both ways, and different partners of one item are partners of each other
abbrev pub PartnersTogether : Type 0
PartnersTogether = (g : Matroid) → IsMatroid g → (touch : ℕ → List ℕ) (M : List ℕ) → IsDistinct M
    → ((m k : ℕ) → ArePartners g touch M m k → ArePartners g touch M k m)
    × ((m a b : ℕ) → ArePartners g touch M m a → ArePartners g touch M m b → (a ≡ b → ⊥) → ArePartners g touch M a b)

-- so classes are a partition: two items have one class exactly where they are equal or partners
abbrev pub ClassesPartition : Type 0
ClassesPartition = (g : Matroid) → IsMatroid g → (touch : ℕ → List ℕ) (M : List ℕ) → IsDistinct M → (m k : ℕ)
    → (class_of g touch M m ≡ class_of g touch M k) ↔ ((m ≡ k) ⊎ ArePartners g touch M m k)

-- the partners of an item u without a pair in a longest assignment are the redundant items that the other items without a pair don't
-- reach: those of the least closed set of M that isn't in that of M without u
abbrev pub PartnersOfUnpaired : Type 0
PartnersOfUnpaired = (g : Matroid) → IsMatroid g → (touch : ℕ → List ℕ) (M : List ℕ) → IsDistinct M
    → (u : ℕ) → In u M → (A : List Pair) → IsAssignment g touch M A → (In u (items A) → ⊥) → (S T : ℕ → Bool)
    → IsLeastClosed g touch M none every A S → IsLeastClosed g touch (without u M) none every A T
    → (k : ℕ) → In k M → (k ≡ u → ⊥) → ArePartners g touch M u k ↔ ((S k ≡ true) × (T k ≡ false))

-- what two sets of sources reach together is what the one reaches or the other
abbrev pub SourcesTogether : Type 0
SourcesTogether = (g : Matroid) → IsMatroid g → (touch : ℕ → List ℕ) (M : List ℕ) (frozen p q : ℕ → Bool) (A : List Pair) (S T U : ℕ → Bool)
    → IsLeastClosed g touch M frozen p A S → IsLeastClosed g touch M frozen q A T → IsLeastClosed g touch M frozen (λ x. p x || q x) A U
    → (m : ℕ) → U m ≡ (S m || T m)
