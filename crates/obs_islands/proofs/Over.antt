-- Items that are left where others were discarded, over a longest assignment: the pairs that they have are longest among them.
-- The pairs have a closed set, and no discarded item is in it.
use Rattle.std.proofs.Common.{◌≡◌, ℕ, ◌≤◌, List, length, get_or, refl, inl, inr, Bool, true, false, ◌||◌, Some, None, arith}
use Rattle.std.proofs.lemmas.Bool.{cases_Bool, or_cases}
use Rattle.obs_graph.specs.declared.Ends.{Ends}
use Rattle.obs_graph.specs.Positions.{AreBranches}
use Rattle.obs_graph.specs.Graph.{Graph}
use Rattle.obs_graph.proofs.Present.{branch_at, some_is_in}
use Rattle.obs_matroid.specs.Lists.{In, IsDistinct, other_than, without}
use Rattle.obs_matroid.specs.Matroid.{Matroid}
use Rattle.obs_matroid.specs.inner.Matroid.{IsMatroid}
use Rattle.obs_matroid.specs.Assignments.{Pair, branches, items, IsAssignment}
use Rattle.obs_matroid.specs.inner.Assignments.{part}
use Rattle.obs_matroid.specs.inner.Closed.{IsLeastClosed, every, none}
use Rattle.obs_matroid.proofs.Critical.{longest_from_closed}
use Rattle.obs_matroid.proofs.Islands.{HoldsInside, one_piece}
use Rattle.obs_matroid.proofs.Least.{grows_or_closes}
use Rattle.obs_matroid.proofs.Lists.{clash, In-filter, In-filter_from, In_same, IsDistinct-filter, other_true}
use Rattle.obs_matroid.proofs.Pairs.{In-items, In-items_from, In-part, In-part_from, IsDistinct-part, independent_part, less_pairs, more_pairs}
use Rattle.obs_meter.specs.declared.Touch.{Touch}
use Rattle.obs_meter.specs.Spanned.{ends_at, graph_matroid, joined_at, rank_at}
use Rattle.obs_meter.specs.Touches.{live_items, touch_at}
use Rattle.obs_meter.proofs.Assigned.{from_matroid, live_items-distinct}
use Rattle.obs_meter.proofs.Instance.{IsJoining-graph, IsMatroid-graph}
use Rattle.obs_assign.specs.Assignment.{Assignment}
use Rattle.obs_assign.specs.inner.Assignment.{pairs}
use Rattle.obs_assign.specs.inner.Pins.{joins}
use Rattle.obs_exchange.specs.inner.Longest.{IsLongest}
use Rattle.obs_exchange.proofs.AtGraph.{IsAssignment-live}
use Rattle.obs_islands.specs.Islands.{every_vertex}
use Rattle.obs_islands.proofs.Parts.{In-vertices, vertices-distinct}
use Rattle.obs_islands.proofs.Spanning.{IsSpannedAt, ends_low}

-- S is closed over the pairs and has the live items without a pair
abbrev pub IsClosedOver : Graph → List Touch → Assignment → (ℕ → Bool) → Type 0
IsClosedOver g ts a S = IsLeastClosed (graph_matroid g.vertices g.ends) (touch_at g.ends ts) (live_items g.ends ts) none every (pairs a) S

module _ (g : Graph) (ts : List Touch) (a : Assignment) (ok : AreBranches g.vertices g.ends) (h : IsLongest g ts a) where
  abbrev pub mat : Matroid
  mat = graph_matroid g.vertices g.ends

  pub laws : IsMatroid (graph_matroid g.vertices g.ends)
  laws = IsMatroid-graph g.vertices g.ends ok

  pub all_pairs : IsAssignment (graph_matroid g.vertices g.ends) (touch_at g.ends ts) (live_items g.ends ts) (pairs a)
  all_pairs = IsAssignment-live g.vertices a g ts h.whole h.stands

  -- there is such a set
  pub closed_exists : (S : ℕ → Bool) × IsClosedOver g ts a S
  closed_exists = elim (grows_or_closes (graph_matroid g.vertices g.ends) laws (touch_at g.ends ts) (live_items g.ends ts) none every (pairs a) (live_items-distinct g.ends ts) all_pairs (λ m t. clash t refl)) [
    | inr s ↦ s
    | inl b ↦
        let few = h.longest.none_longer b.0 (from_matroid g.vertices g.ends ts (live_items g.ends ts) b.0 b.2.assigns) in
        let l = b.2.longer in
        absurd (omega (arith, few, l))
  ]

  module _ (S : ℕ → Bool) (c : IsClosedOver g ts a S) where
    -- the pairs of the set's own items
    abbrev pub own_pairs : List Pair
    own_pairs = part (λ y. S y || none y) (pairs a)

    pub own_from : (p : Pair) → In p own_pairs → In p (pairs a) × (S p.0 ≡ true)
    own_from p i =
        let o = In-part_from (λ y. S y || none y) (pairs a) p i in
        (o.0, elim (or_cases (S p.0) (none p.0) o.1) [ inl y ↦ y | inr n ↦ clash n refl ])

    -- A are the pairs of U: U has all items that lie inside a set that is spanned from inside, and A the closed set's own pairs;
    -- items of U without a pair are in the closed set
    pub record IsOver (U : List ℕ) (A : List Pair) : Type 0 where
      pub different : IsDistinct U
      pub of_all : (m : ℕ) → In m U → In m (live_items g.ends ts)
      pub holds : HoldsInside (ends_at g.ends) (graph_matroid g.vertices g.ends) (touch_at g.ends ts) (every_vertex g.vertices) (live_items g.ends ts) U
      pub assigns : IsAssignment (graph_matroid g.vertices g.ends) (touch_at g.ends ts) U A
      pub own : (p : Pair) → In p (pairs a) → S p.0 ≡ true → In p A
      pub sources : (x : ℕ) → In x U → (In x (items A) → ⊥) → S x ≡ true

    -- no set that is spanned from inside has both ends of the branch, and the closed set's own branches don't join them
    pub record IsApart (e : ℕ) : Type 0 where
      pub outside : (T : ℕ → Bool) → IsSpannedAt g.vertices g.ends ts T → T (ends_at g.ends e).0 ≡ true → T (ends_at g.ends e).1 ≡ true → ⊥
      pub unjoined : joins g.ends (branches own_pairs) e ≡ false

    module _ (U : List ℕ) (A : List Pair) (o : IsOver U A) where
      -- the closed set is closed over them too, so no assignment of U is longer
      pub longest_over : (B : List Pair) → IsAssignment (graph_matroid g.vertices g.ends) (touch_at g.ends ts) U B → length B ≤ length A
      longest_over B b =
          longest_from_closed (graph_matroid g.vertices g.ends) laws (touch_at g.ends ts) U A S o.assigns
          (record {
            spanned = λ x f i t j.
                more_pairs (graph_matroid g.vertices g.ends) laws own_pairs (part (λ y. S y || none y) A) f
                (λ p k. let w = own_from p k in In-part (λ y. S y || none y) A p (o.own p w.0 w.1) (In-part_from (λ y. S y || none y) (pairs a) p k).1)
                (c.closed.spanned x f (o.of_all x i) t j);
          })
          (λ x i f out. o.sources x i out)
          B b

      -- a branch that they don't join is apart
      pub apart_from : (e : ℕ) (x : Ends) → get_or g.ends e None ≡ Some x → joins g.ends (branches A) e ≡ false → IsApart e
      apart_from e x is apart =
          let n = g.vertices in
          let ends = g.ends in
          let low = branch_at n ends e x ok (some_is_in ends e x is) is in
          record {
            outside = λ T t left right.
                clash
                (one_piece (ends_at ends) (joined_at ends) (rank_at n ends) (IsJoining-graph ends) laws (touch_at ends ts) (every_vertex n) (live_items ends ts)
                (vertices-distinct n) (live_items-distinct ends ts) (λ m f i j. ends_low n ends ts ok m f j)
                U A T o.different o.assigns longest_over t
                (λ m j. let p = In-items_from t.pairs m j in
                o.holds T t m (In_same m p.0.0 (live_items ends ts) p.2 (t.assigns.of_items p.0 p.1)) (t.lie_inside m j))
                (ends_at ends e).0 (ends_at ends e).1 (rw is (In-vertices n x.a low.0)) (rw is (In-vertices n x.b low.1)) left right)
                apart;
            unjoined = less_pairs (graph_matroid n ends) laws own_pairs A e (λ p i. let w = own_from p i in o.own p w.0 w.1) apart;
          }

    module _ (m e : ℕ) (live : In m (live_items g.ends ts)) (touches : In e (touch_at g.ends ts m)) (apart : IsApart e) where
      -- an item that touches such a branch isn't in the closed set
      pub not_marked : S m ≡ false
      not_marked = elim (cases_Bool (S m)) [
        | inr n ↦ n
        | inl y ↦ clash (c.closed.spanned m e live y touches) apart.unjoined
      ]

      -- it lies inside no set that is spanned from inside
      pub lies_outside : (T : ℕ → Bool) → IsSpannedAt g.vertices g.ends ts T
          → ((f : ℕ) → In f (touch_at g.ends ts m) → (T (ends_at g.ends f).0 ≡ true) × (T (ends_at g.ends f).1 ≡ true)) → ⊥
      lies_outside T t inside = let both = inside e touches in apart.outside T t both.0 both.1

      -- so it can be discarded
      pub over_others : (U : List ℕ) (A : List Pair) → IsOver U A → IsOver (without m U) (part (other_than m) A)
      over_others U A o = record {
        different = IsDistinct-filter (other_than m) U o.different;
        of_all = λ x i. o.of_all x (In-filter_from (other_than m) x U i).0;
        holds = λ T t y k j. In-filter (other_than m) y U (o.holds T t y k j) (other_true m y (λ s. lies_outside T t (λ d l. j d (rw s l))));
        assigns = record {
          of_items = λ p i. let u = In-part_from (other_than m) A p i in In-filter (other_than m) p.0 U (o.assigns.of_items p u.0) u.1;
          touched = λ p i. o.assigns.touched p (In-part_from (other_than m) A p i).0;
          different = IsDistinct-part (other_than m) A o.assigns.different;
          independent = independent_part (graph_matroid g.vertices g.ends) laws (other_than m) A o.assigns.independent;
        };
        own = λ p i t. In-part (other_than m) A p (o.own p i t) (other_true m p.0 (λ s. clash t (rw s not_marked)));
        sources = λ x i out.
            let u = In-filter_from (other_than m) x U i in
            o.sources x u.0 (λ k.
            let p = In-items_from A x k in
            out (In_same x p.0.0 (items (part (other_than m) A)) p.2 (In-items (part (other_than m) A) p.0 (In-part (other_than m) A p.0 p.1 (rw p.2 at u.1)))));
      }
