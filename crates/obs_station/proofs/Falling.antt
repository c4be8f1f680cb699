-- What the loss of meters costs where some cost nothing together: one for each that is critical without these.
use Rattle.std.proofs.Common.{◌≡◌, ◌↔◌, ℕ, suc, ◌+◌, ◌≤◌, Bool, true, false, not, ◌&&◌, ◌||◌, eqb, Option, None, List, [], ◌∷◌, length, refl, sym, ap, ◌∙◌, subst, inl, inr, arith}
use Rattle.std.specs.Prelude.{filter}
use Rattle.std.proofs.lemmas.Bool.{cases_Bool, cases_lt, eq-eqb, eqb-true, ne_eqb, not-true}
use Rattle.obs_graph.specs.declared.Ends.{Ends}
use Rattle.obs_graph.specs.Graph.{Graph}
use Rattle.obs_graph.specs.Positions.{AreBranches}
use Rattle.obs_matroid.specs.Assignments.{IsAssignment}
use Rattle.obs_matroid.specs.inner.Assignments.{IsRho}
use Rattle.obs_matroid.specs.inner.Closed.{HoldsSources, IsClosed, every, none}
use Rattle.obs_matroid.specs.Lists.{In, IsDistinct, other_than, without}
use Rattle.obs_matroid.proofs.Closed.{IsClosed-union}
use Rattle.obs_matroid.proofs.Comparing.{cases_Option}
use Rattle.obs_matroid.proofs.Computed.{rho_of_is}
use Rattle.obs_matroid.proofs.Critical.{closed_tight, critical_from_tight, longest_from_closed}
use Rattle.obs_matroid.proofs.Heredity.{critical_within}
use Rattle.obs_matroid.proofs.Lists.{In-filter, In-filter_from, IsDistinct-filter, clash, filter_all, filter_same, length-split}
use Rattle.obs_matroid.proofs.Pairs.{In-items}
use Rattle.obs_matroid.proofs.Partners.{rho_less}
use Rattle.obs_meter.specs.declared.Touch.{Touch}
use Rattle.obs_meter.specs.Assignments.{rho_at}
use Rattle.obs_meter.specs.Lost.{is_listed}
use Rattle.obs_meter.specs.inner.Lost.{left_of}
use Rattle.obs_meter.specs.Spanned.{graph_matroid}
use Rattle.obs_meter.specs.Touches.{is_live, live_items, touch_at}
use Rattle.obs_meter.proofs.Assigned.{live_items-distinct, rho-from_matroid, rho_at-is, rho_at-unique}
use Rattle.obs_meter.proofs.Instance.{IsMatroid-graph}
use Rattle.obs_meter.proofs.Live.{In-live, live-from_live_items}
use Rattle.obs_meter.proofs.Touched.{any-from_In, live-from_In}
use Rattle.obs_assign.specs.Assignment.{Assignment}
use Rattle.obs_assign.specs.inner.Assignment.{branch_at, is_frozen, pairs}
use Rattle.obs_exchange.specs.declared.Sources.TheVariants.{All}
use Rattle.obs_exchange.specs.inner.Closed.{IsClosedAt, IsLeastClosedAt, IsSource}
use Rattle.obs_exchange.specs.Critical.{IsCriticalAt, critical_at}
use Rattle.obs_exchange.specs.inner.Longest.{IsLongest}
use Rattle.obs_exchange.proofs.AtGraph.{IsAssignment-live, IsClosed-to_matroid, bare-from_out, out-from_bare}
use Rattle.obs_exchange.proofs.Lawful.{IsCritical-from_matroid, IsCritical-to_matroid, closed_noncritical, critical_at-exactly}
use Rattle.obs_station.specs.inner.Rounds.{is_bare, lacks}
use Rattle.obs_station.proofs.Grouped.{both_filters}

-- a meter without a pair
bare-is : (a : Assignment) (m : ℕ) → is_bare a m ≡ true → branch_at a m ≡ None
bare-is a m t = elim (cases_Option (branch_at a m)) [ inl n ↦ n | inr x ↦ clash t (ap lacks x.1) ]

not_listed : (list : List ℕ) (x : ℕ) → (In x list → ⊥) → is_listed list x ≡ false
not_listed [] x out = refl
not_listed (y ∷ list) x out = rw (ne_eqb y x (λ e. out (inl (sym e)))) (not_listed list x (λ i. out (inr i)))

-- one more is taken out
left_more : (x : ℕ) (list M : List ℕ) → left_of (is_listed (x ∷ list)) M ≡ without x (left_of (is_listed list) M)
left_more x list [] = refl
left_more x list (m ∷ M) = elim (cases_Bool (eqb x m)) [
  | inl e ↦
      let back : eqb m x ≡ true = eq-eqb m x (sym (eqb-true x m e)) in
      elim (cases_Bool (is_listed list m)) [ inl t ↦ rw (e, t) (left_more x list M) | inr f ↦ rw (e, f) (rw back (left_more x list M)) ]
  | inr n ↦
      let apart : eqb m x ≡ false = ne_eqb m x (λ e. clash (eq-eqb x m (sym e)) n) in
      elim (cases_Bool (is_listed list m)) [ inl t ↦ rw (n, t) (left_more x list M) | inr f ↦ rw (n, f) (rw apart (ap (λ ys. m ∷ ys) (left_more x list M))) ]
]

-- what is listed stands in one part of the list or the other
listed_parts : (S : ℕ → Bool) (list : List ℕ) (x : ℕ) → is_listed list x ≡ (is_listed (filter S list) x || is_listed (filter (λ m. not (S m)) list) x)
listed_parts S [] x = refl
listed_parts S (y ∷ list) x =
    let n = is_listed (filter S list) x in
    let r = is_listed (filter (λ m. not (S m)) list) x in
    let all = ap (λ b. eqb y x || b) (listed_parts S list x) in
    elim (cases_Bool (S y)) [ inl t ↦ rw t (all ∙ first (eqb y x) n r) | inr f ↦ rw f (all ∙ second (eqb y x) n r) ]
  where
    first : (e n r : Bool) → (e || (n || r)) ≡ ((e || n) || r)
    first true n r = refl
    first false n r = refl

    second : (e n r : Bool) → (e || (n || r)) ≡ (n || (e || r))
    second false n r = refl
    second true true r = refl
    second true false r = refl

-- what is left is left by one part after the other
left_parts : (S : ℕ → Bool) (list M : List ℕ) → left_of (is_listed list) M ≡ left_of (is_listed (filter (λ m. not (S m)) list)) (left_of (is_listed (filter S list)) M)
left_parts S list M =
    let N = filter S list in
    let R = filter (λ m. not (S m)) list in
    filter_same (λ x. not (is_listed list x)) (λ x. not (is_listed N x) && not (is_listed R x)) M (λ x i. ap not (listed_parts S list x) ∙ neither (is_listed N x) (is_listed R x))
    ∙ sym (both_filters (λ x. not (is_listed N x)) (λ x. not (is_listed R x)) M)
  where
    neither : (a b : Bool) → not (a || b) ≡ (not a && not b)
    neither true b = refl
    neither false b = refl

module _ (n : ℕ) (ends : List (Option Ends)) (touches : List Touch) (ok : AreBranches n ends) where
  abbrev rank : List ℕ → ℕ
  rank M = rho_at n ends touches M

  -- one item less takes at most one pair
  less : (M : List ℕ) (m : ℕ) → IsDistinct M → (rank (without m M) ≤ rank M) × (rank M ≤ suc (rank (without m M)))
  less M m d =
      rho_less (graph_matroid n ends) (IsMatroid-graph n ends ok) (touch_at ends touches) M m (rank M) (rank (without m M)) d
      (rho_of_is (graph_matroid n ends) (IsMatroid-graph n ends ok) (touch_at ends touches) M d)
      (rho_of_is (graph_matroid n ends) (IsMatroid-graph n ends ok) (touch_at ends touches) (without m M) (IsDistinct-filter (other_than m) M d))

  -- a critical item is critical in what is left with it
  still : (M L : List ℕ) (m : ℕ) → IsDistinct M → IsDistinct L → ((x : ℕ) → In x L → In x M) → In m L → IsCriticalAt ends touches M m → IsCriticalAt ends touches L m
  still M L m d e h i k =
      IsCritical-from_matroid n ends touches L m i
      (critical_within (graph_matroid n ends) (IsMatroid-graph n ends ok) (touch_at ends touches) L M m e d h i (IsCritical-to_matroid n ends touches M m k))

  -- and costs one there
  falls : (M L : List ℕ) (m : ℕ) → IsDistinct M → IsDistinct L → ((x : ℕ) → In x L → In x M) → In m L → IsCriticalAt ends touches M m → rank L ≡ suc (rank (without m L))
  falls M L m d e h i k =
      let c = still M L m d e h i k in
      let l = c.falls (rank L) (rank (without m L)) (rho_at-is n ends touches L ok e) (rho_at-is n ends touches (without m L) ok (IsDistinct-filter (other_than m) L e)) in
      let w = (less L m e).1 in
      omega (arith, l, w)

  -- what is left of M
  left-in : (list M : List ℕ) (x : ℕ) → In x (left_of (is_listed list) M) → In x M
  left-in list M x i = (In-filter_from (λ m. not (is_listed list m)) x M i).0

  left-distinct : (list M : List ℕ) → IsDistinct M → IsDistinct (left_of (is_listed list) M)
  left-distinct list M d = IsDistinct-filter (λ m. not (is_listed list m)) M d

  -- one critical item more
  one_more : (x : ℕ) (list M : List ℕ) → (In x list → ⊥) → IsDistinct M → IsCriticalAt ends touches M x
      → rank (left_of (is_listed list) M) ≡ suc (rank (left_of (is_listed (x ∷ list)) M))
  one_more x list M out d k =
      let i = In-filter (λ m. not (is_listed list m)) x M k.item (ap not (not_listed list x out)) in
      let one = falls M (left_of (is_listed list) M) x d (left-distinct list M d) (left-in list M) i k in
      let same = ap rank (left_more x list M) in
      omega (arith, one, same)

  none_more : (M : List ℕ) → rank (left_of (is_listed []) M) ≡ rank M
  none_more M = ap rank (filter_all (λ m. not (is_listed [] m)) M (λ x i. refl))

  -- critical items cost one each
  all_fall : (list M : List ℕ) → IsDistinct list → IsDistinct M → ((m : ℕ) → In m list → IsCriticalAt ends touches M m) → rank (left_of (is_listed list) M) + length list ≡ rank M
  all_fall [] M dl d h = let e = none_more M in omega (arith, e)
  all_fall (x ∷ list) M dl d h =
      let rest = all_fall list M dl.1 d (λ m i. h m (inr i)) in
      let one = one_more x list M dl.0 d (h x (inl refl)) in
      omega (arith, rest, one)

  -- where some of the listed items cost nothing together, and the others are critical without these, those cost one each
  spared : (S : ℕ → Bool) (list M : List ℕ) → IsDistinct list → IsDistinct M → rank (left_of (is_listed (filter S list)) M) ≡ rank M
      → ((m : ℕ) → In m list → S m ≡ false → IsCriticalAt ends touches (left_of (is_listed (filter S list)) M) m)
      → rank (left_of (is_listed list) M) + length list ≡ rank M + length (filter S list)
  spared S list M dl d same critical =
      let fall =
      all_fall (filter (λ m. not (S m)) list) (left_of (is_listed (filter S list)) M) (IsDistinct-filter (λ m. not (S m)) list dl) (left-distinct (filter S list) M d)
      (λ m i. let u = In-filter_from (λ m. not (S m)) m list i in critical m u.0 (not-true (S m) u.1)) in
      let parts = ap rank (left_parts S list M) in
      let split = length-split S list in
      omega (arith, fall, parts, split, same)

  -- one item at most that isn't critical costs nothing
  few_same : (M xs : List ℕ) → IsDistinct M → length xs ≤ 1 → ((m : ℕ) → In m xs → rank M ≤ rank (without m M)) → rank (left_of (is_listed xs) M) ≡ rank M
  few_same M [] d l h = none_more M
  few_same M (x ∷ []) d l h =
      let more = ap rank (left_more x [] M ∙ ap (without x) (filter_all (λ m. not (is_listed [] m)) M (λ y i. refl))) in
      let kept = h x (inl refl) in
      let lower = (less M x d).0 in
      omega (arith, more, kept, lower)
  few_same M (x ∷ y ∷ xs) d l h = absurd (omega (arith, l))

  at_most_one : (S : ℕ → Bool) (list M : List ℕ) → IsDistinct list → IsDistinct M
      → ((m : ℕ) → In m list → S m ≡ false → IsCriticalAt ends touches M m) → ((m : ℕ) → In m list → S m ≡ true → rank M ≤ rank (without m M))
      → length (filter S list) ≤ 1 → rank (left_of (is_listed list) M) + length list ≡ rank M + length (filter S list)
  at_most_one S list M dl d h r few =
      let N = filter S list in
      spared S list M dl d (few_same M N d few (λ m i. let u = In-filter_from S m list i in r m u.0 u.1))
      (λ m i f. let k = h m i f in
      still M (left_of (is_listed N) M) m d (left-distinct N M d) (left-in N M)
      (In-filter (λ m. not (is_listed N m)) m M k.item (ap not (not_listed N m (λ j. clash (In-filter_from S m list j).1 f)))) k)

-- a set that is closed and holds each source marks just the redundant meters, where it is the least such set
module _ (g : Graph) (touches : List Touch) (ok : AreBranches g.vertices g.ends) (a : Assignment) (h : IsLongest g touches a) where
  abbrev M : List ℕ
  M = live_items g.ends touches

  abbrev rank_of : List ℕ → ℕ
  rank_of N = rho_at g.vertices g.ends touches N

  -- the pairs are as many as all live meters can have
  long : length (pairs a) ≡ rank_of M
  long = rho_at-unique g.ends touches M (length (pairs a)) (rank_of M) h.longest (rho_at-is g.vertices g.ends touches M ok (live_items-distinct g.ends touches))

  module _ (S : ℕ → Bool) (least : IsLeastClosedAt g.ends touches All a S) where
    marked : (m : ℕ) → (S m ≡ true) ↔ ((is_live g.ends touches m ≡ true) × (critical_at g.vertices g.ends touches m ≡ false))
    marked m = closed_noncritical a g touches S (record { branches = ok; whole = h.whole; stands = h.stands; least = least }) h.thawed m

    -- what isn't marked is critical
    unmarked_critical : (m : ℕ) → is_live g.ends touches m ≡ true → S m ≡ false → IsCriticalAt g.ends touches M m
    unmarked_critical m live f = elim (cases_Bool (critical_at g.vertices g.ends touches m)) [
      | inl t ↦ ((critical_at-exactly g.vertices g.ends touches ok m).0 t).1
      | inr n ↦ clash ((marked m).1 (live, n)) f
    ]

    -- and what is marked may be taken out
    marked_spared : (m : ℕ) → S m ≡ true → rank_of M ≤ rank_of (without m M)
    marked_spared m t =
        let k = (marked m).0 t in
        elim (cases_lt (rank_of (without m M)) (rank_of M)) [
          | inr l ↦ l
          | inl l ↦ clash ((critical_at-exactly g.vertices g.ends touches ok m).1 (
            k.0,
            record {
              item = In-live g.ends touches m k.0;
              falls = λ r s p q.
                  let a = rho_at-unique g.ends touches M r (rank_of M) p (rho_at-is g.vertices g.ends touches M ok (live_items-distinct g.ends touches)) in
                  let b =
                  rho_at-unique g.ends touches (without m M) s (rank_of (without m M)) q
                  (rho_at-is g.vertices g.ends touches (without m M) ok (IsDistinct-filter (other_than m) M (live_items-distinct g.ends touches))) in
                  omega (arith, a, b, l);
            },
          )) k.1
        ]

    -- so the rank without meters of which at most one is marked is the rank less one for each other
    pub few_settled : (list : List ℕ) → IsDistinct list → ((m : ℕ) → In m list → is_live g.ends touches m ≡ true) → length (filter S list) ≤ 1
        → rank_of (left_of (is_listed list) M) + length list ≡ length (pairs a) + length (filter S list)
    few_settled list d live few =
        let fall =
        at_most_one g.vertices g.ends touches ok S list M d (live_items-distinct g.ends touches) (λ m i f. unmarked_critical m (live m i) f) (λ m i t. marked_spared m t) few in
        omega (arith, long, fall)

  -- two closed sets hold between them each source that isn't listed, and lack the listed meters that have a pair
  module _ (list : List ℕ) (d : IsDistinct list) (S T : ℕ → Bool) (s : IsClosedAt g.ends touches a S) (t : IsClosedAt g.ends touches a T)
      (holds : (m : ℕ) → IsSource g.ends touches All a m → (In m list → ⊥) → (S m || T m) ≡ true)
      (out : (m : ℕ) → In m list → is_bare a m ≡ false → (S m || T m) ≡ false) where
    abbrev N : List ℕ
    N = left_of (is_listed (filter (is_bare a) list)) M

    distinct : IsDistinct N
    distinct = IsDistinct-filter (λ m. not (is_listed (filter (is_bare a) list) m)) M (live_items-distinct g.ends touches)

    -- without the listed meters that have no pair the pairs are an assignment still
    assigns : IsAssignment (graph_matroid g.vertices g.ends) (touch_at g.ends touches) N (pairs a)
    assigns =
        let all = IsAssignment-live g.vertices a g touches h.whole h.stands in
        record {
          of_items = λ p i. In-filter (λ m. not (is_listed (filter (is_bare a) list) m)) p.0 M (all.of_items p i)
              (ap not (not_listed (filter (is_bare a) list) p.0 (λ j. out-from_bare a p.0 (bare-is a p.0 (In-filter_from (is_bare a) p.0 list j).1) (In-items (pairs a) p i))));
          touched = all.touched;
          different = all.different;
          independent = all.independent;
        }

    closed_in : (U : ℕ → Bool) → IsClosedAt g.ends touches a U → IsClosed (graph_matroid g.vertices g.ends) (touch_at g.ends touches) N none (pairs a) U
    closed_in U c =
        let same : is_frozen a ≡ none = λ i m. h.thawed m i in
        subst (λ (f : ℕ → Bool). IsClosed (graph_matroid g.vertices g.ends) (touch_at g.ends touches) N f (pairs a) U) same (IsClosed-to_matroid g.vertices a g touches h.stands N U c)

    closed : IsClosed (graph_matroid g.vertices g.ends) (touch_at g.ends touches) N none (pairs a) (λ x. S x || T x)
    closed = IsClosed-union (graph_matroid g.vertices g.ends) (IsMatroid-graph g.vertices g.ends ok) (touch_at g.ends touches) none (pairs a) N S T (closed_in S s) (closed_in T t)

    sources : HoldsSources N every (pairs a) (λ x. S x || T x)
    sources m i f bare =
        let u = In-filter_from (λ m. not (is_listed (filter (is_bare a) list) m)) m M i in
        let none = bare-from_out a m bare in
        holds m (live-from_live_items g.ends touches m u.0, none)
        (λ j. clash (any-from_In (filter (is_bare a) list) m (In-filter (is_bare a) m list j (ap lacks none))) (not-true (is_listed (filter (is_bare a) list) m) u.1))

    rho : IsRho (graph_matroid g.vertices g.ends) (touch_at g.ends touches) N (length (pairs a))
    rho = record {
      longest = pairs a;
      assigns = assigns;
      long = refl;
      none_longer = longest_from_closed (graph_matroid g.vertices g.ends) (IsMatroid-graph g.vertices g.ends ok) (touch_at g.ends touches) N (pairs a) (λ x. S x || T x) assigns closed sources;
    }

    -- so those that have a pair cost one each, and the others nothing
    pub own_settled : rank_of (left_of (is_listed list) M) + length list ≡ length (pairs a) + length (filter (is_bare a) list)
    own_settled =
        let laws = IsMatroid-graph g.vertices g.ends ok in
        let matroid = graph_matroid g.vertices g.ends in
        let touch = touch_at g.ends touches in
        let same =
        rho_at-unique g.ends touches N (length (pairs a)) (rank_of N) (rho-from_matroid g.vertices g.ends touches N (length (pairs a)) rho) (rho_at-is g.vertices g.ends touches N ok distinct) in
        let fall =
        spared g.vertices g.ends touches ok (is_bare a) list M d (live_items-distinct g.ends touches) (sym same ∙ long)
        (λ m i f.
        let there : In m N = In-filter (λ m. not (is_listed (filter (is_bare a) list) m)) m M (In-live g.ends touches m (paired_live m f)) (ap not (not_listed (filter (is_bare a) list) m (λ j. clash (In-filter_from (is_bare a) m list j).1 f))) in
        IsCritical-from_matroid g.vertices g.ends touches N m there
        (critical_from_tight matroid laws touch N (λ x. S x || T x) (length (pairs a)) distinct rho (closed_tight matroid laws touch N (pairs a) (λ x. S x || T x) distinct assigns closed sources) m there (out m i f))) in
        omega (arith, long, fall)
      where
        paired_live : (m : ℕ) → is_bare a m ≡ false → is_live g.ends touches m ≡ true
        paired_live m f = elim (cases_Option (branch_at a m)) [ inl n ↦ clash (ap lacks n) f | inr x ↦ live-from_In g.ends touches m x.0 (h.stands.touched m x.0 x.1) ]
