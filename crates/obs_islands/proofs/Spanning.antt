-- The test whether vertices are spanned from inside.
use Rattle.std.proofs.Common.{◌≡◌, ℕ, ◌+◌, ◌<◌, ◌≤◌, List, [], ◌∷◌, length, refl, inl, inr, Bool, true, ◌&&◌, Option, Some, None, eq-eqb, arith}
use Rattle.std.specs.Prelude.{IsSome, filter, slice_index_or}
use Rattle.std.specs.List.{list_all}
use Rattle.std.proofs.lemmas.Bool.{and_from, and_parts, eqb-true}
use Rattle.obs_graph.specs.declared.Ends.{Ends}
use Rattle.obs_graph.specs.Positions.{AreBranches}
use Rattle.obs_graph.proofs.Present.{branch_at, some_is_in}
use Rattle.obs_matroid.specs.Lists.{In, IsDistinct}
use Rattle.obs_matroid.specs.Assignments.{Pair, items, branches}
use Rattle.obs_matroid.specs.Islands.{IsSpanned, LiesInside}
use Rattle.obs_matroid.proofs.Bounds.{length-branches}
use Rattle.obs_matroid.proofs.Lists.{In-filter, In-filter_from, In_same, IsDistinct-filter}
use Rattle.obs_matroid.proofs.Pairs.{In-branches_from, In-items, In-items_from}
use Rattle.obs_matroid.proofs.Pieces.{HasFirsts, firsts}
use Rattle.obs_meter.specs.declared.Touch.{Touch}
use Rattle.obs_meter.specs.declared.Touch.TheVariants.{Nothing}
use Rattle.obs_meter.specs.Assignments.{rho_at}
use Rattle.obs_meter.specs.Spanned.{both_ends, ends_at, graph_matroid, joined_at, rank_at}
use Rattle.obs_meter.specs.Touches.{live_items, touch_at}
use Rattle.obs_meter.proofs.Assigned.{from_matroid, live_items-distinct, rho_at-is, to_matroid}
use Rattle.obs_meter.proofs.Instance.{IsJoining-graph}
use Rattle.obs_meter.proofs.Touched.{touched-present}
use Rattle.obs_forest.specs.Forest.{has_position}
use Rattle.obs_islands.specs.Firsts.{is_spanned, lies_inside}
use Rattle.obs_islands.specs.Islands.{every_vertex}
use Rattle.obs_islands.proofs.Parts.{In-from_has, In-vertices, has-from_In, length-part, vertices-distinct}

-- S is spanned from inside: it isn't empty, and the live meters that lie inside it have an assignment of one pair fewer than
-- S has vertices
abbrev pub IsSpannedAt : ℕ → List (Option Ends) → List Touch → (ℕ → Bool) → Type 0
IsSpannedAt n ends touches S =
    IsSpanned (ends_at ends) (graph_matroid n ends) (touch_at ends touches) (every_vertex n) (live_items ends touches) S

all_from : (p : ℕ → Bool) (xs : List ℕ) → ((x : ℕ) → In x xs → p x ≡ true) → list_all p xs ≡ true
all_from p [] h = refl
all_from p (x ∷ xs) h = and_from (p x) (list_all p xs) (h x (inl refl)) (all_from p xs (λ y i. h y (inr i)))

from_all : (p : ℕ → Bool) (xs : List ℕ) → list_all p xs ≡ true → (x : ℕ) → In x xs → p x ≡ true
from_all p [] t x i = absurd i
from_all p (y ∷ ys) t x (inl e) = let u = and_parts (p y) (list_all p ys) t in rw e u.0
from_all p (y ∷ ys) t x (inr i) = let u = and_parts (p y) (list_all p ys) t in from_all p ys u.1 x i

pub some_in : (x : ℕ) (xs : List ℕ) → In x xs → 0 < length xs
some_in x [] i = absurd i
some_in x (y ∷ ys) i = omega arith

module _ (n : ℕ) (ends : List (Option Ends)) (touches : List Touch) where
  -- the test whether a meter lies inside
  lies_from : (W : List ℕ) (m : ℕ) → LiesInside (ends_at ends) (touch_at ends touches) (has_position W) m → lies_inside ends touches W m ≡ true
  lies_from W m l = all_from (λ e. has_position W (ends_at ends e).0 && has_position W (ends_at ends e).1) (touch_at ends touches m)
      (λ e i. let p = l e i in and_from (has_position W (ends_at ends e).0) (has_position W (ends_at ends e).1) p.0 p.1)

  from_lies : (W : List ℕ) (m : ℕ) → lies_inside ends touches W m ≡ true → LiesInside (ends_at ends) (touch_at ends touches) (has_position W) m
  from_lies W m t = λ e i. and_parts (has_position W (ends_at ends e).0) (has_position W (ends_at ends e).1)
      (from_all (λ e. has_position W (ends_at ends e).0 && has_position W (ends_at ends e).1) (touch_at ends touches m) t e i)

  module _ (ok : AreBranches n ends) where
    -- touched branches have vertices as their ends
    pub ends_low : (m e : ℕ) → In e (touch_at ends touches m) → In (ends_at ends e).0 (every_vertex n) × In (ends_at ends e).1 (every_vertex n)
    ends_low m e i = there (slice_index_or ends e None) refl (touched-present ends (slice_index_or touches m Nothing) e i)
      where
        there : (o : Option Ends) → slice_index_or ends e None ≡ o → IsSome o → In (both_ends o).0 (every_vertex n) × In (both_ends o).1 (every_vertex n)
        there None is s = absurd (cc s)
        there (Some x) is s = let b = branch_at n ends e x ok (some_is_in ends e x is) is in (In-vertices n x.a b.0, In-vertices n x.b b.1)

    -- vertices that pass the test are spanned from inside
    pub spanned-from : (W : List ℕ) → ((x : ℕ) → In x W → In x (every_vertex n)) → IsDistinct W → is_spanned n ends touches W ≡ true
        → (u : ℕ) → In u W → IsSpannedAt n ends touches (has_position W)
    unfolding is_spanned
    spanned-from W within d t u i =
        let M = live_items ends touches in
        let N = filter (lies_inside ends touches W) M in
        let r = rho_at-is n ends touches N ok (IsDistinct-filter (lies_inside ends touches W) M (live_items-distinct ends touches)) in
        let inside : (p : Pair) → In p r.longest → In p.0 M × (lies_inside ends touches W p.0 ≡ true) = λ p j. In-filter_from (lies_inside ends touches W) p.0 M (r.assigns.of_items p j) in
        let a = to_matroid n ends touches N r.longest r.assigns in
        record {
          vertex = u;
          vertex_in = within u i;
          holds_vertex = has-from_In W u i;
          pairs = r.longest;
          assigns = record { of_items = λ p j. (inside p j).0; touched = a.touched; different = a.different; independent = a.independent };
          lie_inside = λ m j. let p = In-items_from r.longest m j in
              from_lies W m (rw p.2 (inside p.0 p.1).1);
          enough =
              let e = eqb-true (length W) (rho_at n ends touches N + 1) t in
              let l = r.long in
              let k = length-part (every_vertex n) W (vertices-distinct n) d within in
              omega (arith, e, l, k);
        }

    -- a set that is spanned from inside passes it
    pub spanned-to : (T : ℕ → Bool) → IsSpannedAt n ends touches T → is_spanned n ends touches (filter T (every_vertex n)) ≡ true
    unfolding is_spanned
    spanned-to T s =
        let vs = every_vertex n in
        let M = live_items ends touches in
        let W = filter T vs in
        let N = filter (lies_inside ends touches W) M in
        let r = rho_at-is n ends touches N ok (IsDistinct-filter (lies_inside ends touches W) M (live_items-distinct ends touches)) in
        let of_M : (m : ℕ) → In m (items s.pairs) → In m M = λ m i. let p = In-items_from s.pairs m i in In_same m p.0.0 M p.2 (s.assigns.of_items p.0 p.1) in
        let lies : (m : ℕ) → In m (items s.pairs) → lies_inside ends touches W m ≡ true = λ m i. lies_from W m (λ e j.
        let in_set = s.lie_inside m i e j in
        let low = ends_low m e j in
        (has-from_In W (ends_at ends e).0 (In-filter T (ends_at ends e).0 vs low.0 in_set.0), has-from_In W (ends_at ends e).1 (In-filter T (ends_at ends e).1 vs low.1 in_set.1))) in
        let most : length s.pairs ≤ rho_at n ends touches N = r.none_longer s.pairs (from_matroid n ends touches N s.pairs
        (record {
          of_items = λ p i. In-filter (lies_inside ends touches W) p.0 M (s.assigns.of_items p i) (lies p.0 (In-items s.pairs p i));
          touched = s.assigns.touched;
          different = s.assigns.different;
          independent = s.assigns.independent;
        })) in
        let a = to_matroid n ends touches N r.longest r.assigns in
        let f : (R : List ℕ) × HasFirsts (ends_at ends) (joined_at ends) (rank_at n ends) (IsJoining-graph ends) W (branches r.longest) R =
        firsts (ends_at ends) (joined_at ends) (rank_at n ends) (IsJoining-graph ends) W (IsDistinct-filter T vs (vertices-distinct n)) (branches r.longest) a.independent
        (λ e i. let p = In-branches_from r.longest e i in
        let t = (In-filter_from (lies_inside ends touches W) p.0.0 M (a.of_items p.0 p.1)).1 in
        let b = from_lies W p.0.0 t p.0.1 (a.touched p.0 p.1) in
        rw p.2 (In-from_has W (ends_at ends p.0.1).0 b.0, In-from_has W (ends_at ends p.0.1).1 b.1)) in
        let k0 = f.1.covers s.vertex (In-filter T s.vertex vs s.vertex_in s.holds_vertex) in
        let some = some_in k0.0 f.0 k0.1 in
        let c = f.1.count in
        let l = length-branches r.longest in
        let g = r.long in
        let k = s.enough in
        eq-eqb (length W) (rho_at n ends touches N + 1) (omega (arith, most, some, c, l, g, k))
