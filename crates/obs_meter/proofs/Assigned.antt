-- Assignments over a graph are those of its matroid.
use Rattle.std.proofs.Common.{◌≡◌, ℕ, Option, Some, None, List, [], ◌∷◌, length, refl, false, arith}
use Rattle.std.specs.Prelude.{All, IsSome, slice_index_or}
use Rattle.std.proofs.lemmas.List.Elements.{All-cons, All-head, All-tail}
use Rattle.obs_graph.specs.declared.Ends.{Ends}
use Rattle.obs_graph.specs.Joined.{is_joined}
use Rattle.obs_graph.specs.Positions.{AreBranches, IsForestAt, ends_of}
use Rattle.obs_graph.proofs.IsJoined.{apart-from_false, false-from_apart}
use Rattle.obs_graph.proofs.Forests.{Grows, IsForest-from_Grows, Grows-from_IsForest}
use Rattle.obs_matroid.specs.Lists.{IsDistinct}
use Rattle.obs_matroid.specs.Matroid.{IsIndependent}
use Rattle.obs_matroid.specs.Assignments.{Pair, branches, IsAssignment}
use Rattle.obs_matroid.specs.inner.Assignments.{IsRho}
use Rattle.obs_matroid.proofs.Lists.{In-filter, In-filter_from, IsDistinct-filter}
use Rattle.obs_matroid.proofs.Computed.{rho_of_is}
use Rattle.obs_matroid.proofs.Critical.{rho_same}
use Rattle.obs_matroid.proofs.Ranges.{range_distinct}
use Rattle.obs_meter.specs.declared.Touch.{Touch}
use Rattle.obs_meter.specs.Touches.{touch_at, is_live, every_item, live_items}
use Rattle.obs_meter.specs.Spanned.{both_ends, graph_matroid}
use Rattle.obs_meter.specs.Assignments.{IsAssignmentAt, IsRhoAt, rho_at}
use Rattle.obs_meter.proofs.Instance.{IsMatroid-graph}
use Rattle.obs_meter.proofs.Touched.{live-from_In}

-- positions whose branches are present, and of which none is joined by those behind it
Builds : List (Option Ends) → List ℕ → Type 0
Builds ends L = All (λ p. IsSome (slice_index_or ends p None)) L × Grows (ends_of ends L)

builds_more : (ends : List (Option Ends)) (e : ℕ) (L : List ℕ) (o : Option Ends) → slice_index_or ends e None ≡ o
    → is_joined (ends_of ends L) (both_ends o).0 (both_ends o).1 ≡ false → Builds ends L → Builds ends (e ∷ L)
unfolding Builds
builds_more ends e L None is f b = absurd (apart-from_false (ends_of ends L) 0 0 f refl)
builds_more ends e L (Some x) is f b = (
  All-cons (λ p. IsSome (slice_index_or ends p None)) e L (rw is refl) b.0,
  rw is (apart-from_false (ends_of ends L) x.a x.b f, b.1),
)

spans_less : (ends : List (Option Ends)) (e : ℕ) (L : List ℕ) (o : Option Ends) → slice_index_or ends e None ≡ o → Builds ends (e ∷ L)
    → (is_joined (ends_of ends L) (both_ends o).0 (both_ends o).1 ≡ false) × Builds ends L
unfolding Builds
spans_less ends e L None is b = let h = All-head (λ p. IsSome (slice_index_or ends p None)) e L b.0 in absurd (cc (rw is at h))
spans_less ends e L (Some x) is b =
    let g = b.1 in let h = rw is at g in (false-from_apart (ends_of ends L) x.a x.b h.0, (All-tail (λ p. IsSome (slice_index_or ends p None)) e L b.0, h.1))

builds : (n : ℕ) (ends : List (Option Ends)) (L : List ℕ) → IsIndependent (graph_matroid n ends) L → Builds ends L
unfolding Builds
builds n ends [] i = ((λ k d l. absurd (omega (arith, l))), tt)
builds n ends (e ∷ L) i = builds_more ends e L (slice_index_or ends e None) refl i.0 (builds n ends L i.1)

independent : (n : ℕ) (ends : List (Option Ends)) (L : List ℕ) → Builds ends L → IsIndependent (graph_matroid n ends) L
independent n ends [] b = tt
independent n ends (e ∷ L) b = let h = spans_less ends e L (slice_index_or ends e None) refl b in (h.0, independent n ends L h.1)

-- positions are a forest exactly where they are independent
pub forest_at-from_independent : (n : ℕ) (ends : List (Option Ends)) (L : List ℕ) → IsIndependent (graph_matroid n ends) L → IsForestAt ends L
unfolding Builds
forest_at-from_independent n ends L i = let b = builds n ends L i in record { present = b.0; forest = IsForest-from_Grows (ends_of ends L) b.1 }

pub independent-from_forest_at : (n : ℕ) (ends : List (Option Ends)) (L : List ℕ) → IsForestAt ends L → IsIndependent (graph_matroid n ends) L
unfolding Builds
independent-from_forest_at n ends L f = independent n ends L (f.present, Grows-from_IsForest (ends_of ends L) f.forest)

pub to_matroid : (n : ℕ) (ends : List (Option Ends)) (touches : List Touch) (M : List ℕ) (A : List Pair)
    → IsAssignmentAt ends touches M A → IsAssignment (graph_matroid n ends) (touch_at ends touches) M A
to_matroid n ends touches M A a =
    record { of_items = a.of_items; touched = a.touched; different = a.different; independent = independent-from_forest_at n ends (branches A) a.forest }

pub from_matroid : (n : ℕ) (ends : List (Option Ends)) (touches : List Touch) (M : List ℕ) (A : List Pair)
    → IsAssignment (graph_matroid n ends) (touch_at ends touches) M A → IsAssignmentAt ends touches M A
from_matroid n ends touches M A a =
    record { of_items = a.of_items; touched = a.touched; different = a.different; forest = forest_at-from_independent n ends (branches A) a.independent }

pub rho-to_matroid : (n : ℕ) (ends : List (Option Ends)) (touches : List Touch) (M : List ℕ) (r : ℕ)
    → IsRhoAt ends touches M r → IsRho (graph_matroid n ends) (touch_at ends touches) M r
rho-to_matroid n ends touches M r h = record {
  longest = h.longest;
  assigns = to_matroid n ends touches M h.longest h.assigns;
  long = h.long;
  none_longer = λ B b. h.none_longer B (from_matroid n ends touches M B b);
}

pub rho-from_matroid : (n : ℕ) (ends : List (Option Ends)) (touches : List Touch) (M : List ℕ) (r : ℕ)
    → IsRho (graph_matroid n ends) (touch_at ends touches) M r → IsRhoAt ends touches M r
rho-from_matroid n ends touches M r h = record {
  longest = h.longest;
  assigns = from_matroid n ends touches M h.longest h.assigns;
  long = h.long;
  none_longer = λ B b. h.none_longer B (to_matroid n ends touches M B b);
}

pub rho_at-is : (n : ℕ) (ends : List (Option Ends)) (touches : List Touch) (M : List ℕ) → AreBranches n ends → IsDistinct M → IsRhoAt ends touches M (rho_at n ends touches M)
rho_at-is n ends touches M a d =
    rho-from_matroid n ends touches M (rho_at n ends touches M) (rho_of_is (graph_matroid n ends) (IsMatroid-graph n ends a) (touch_at ends touches) M d)

pub rho_at-unique : (ends : List (Option Ends)) (touches : List Touch) (M : List ℕ) (r s : ℕ) → IsRhoAt ends touches M r → IsRhoAt ends touches M s → r ≡ s
rho_at-unique ends touches M r s h k =
    rho_same (graph_matroid 0 ends) (touch_at ends touches) M r s (rho-to_matroid 0 ends touches M r h) (rho-to_matroid 0 ends touches M s k)

pub every_item-distinct : (touches : List Touch) → IsDistinct (every_item touches)
every_item-distinct touches = range_distinct 0 (length touches)

pub live_items-distinct : (ends : List (Option Ends)) (touches : List Touch) → IsDistinct (live_items ends touches)
live_items-distinct ends touches = IsDistinct-filter (is_live ends touches) (every_item touches) (every_item-distinct touches)

pub live-to_every : (ends : List (Option Ends)) (touches : List Touch) (A : List Pair) → IsAssignmentAt ends touches (live_items ends touches) A → IsAssignmentAt ends touches (every_item touches) A
live-to_every ends touches A a = record {
  of_items = λ p i. (In-filter_from (is_live ends touches) p.0 (every_item touches) (a.of_items p i)).0;
  touched = a.touched;
  different = a.different;
  forest = a.forest;
}

pub every-to_live : (ends : List (Option Ends)) (touches : List Touch) (A : List Pair) → IsAssignmentAt ends touches (every_item touches) A → IsAssignmentAt ends touches (live_items ends touches) A
every-to_live ends touches A a = record {
  of_items = λ p i. In-filter (is_live ends touches) p.0 (every_item touches) (a.of_items p i) (live-from_In ends touches p.0 p.1 (a.touched p i));
  touched = a.touched;
  different = a.different;
  forest = a.forest;
}

pub rho-live-to_every : (ends : List (Option Ends)) (touches : List Touch) (r : ℕ) → IsRhoAt ends touches (live_items ends touches) r → IsRhoAt ends touches (every_item touches) r
rho-live-to_every ends touches r h =
    record { longest = h.longest; assigns = live-to_every ends touches h.longest h.assigns; long = h.long; none_longer = λ B b. h.none_longer B (every-to_live ends touches B b) }

pub rho-every-to_live : (ends : List (Option Ends)) (touches : List Touch) (r : ℕ) → IsRhoAt ends touches (every_item touches) r → IsRhoAt ends touches (live_items ends touches) r
rho-every-to_live ends touches r h =
    record { longest = h.longest; assigns = every-to_live ends touches h.longest h.assigns; long = h.long; none_longer = λ B b. h.none_longer B (live-to_every ends touches B b) }
