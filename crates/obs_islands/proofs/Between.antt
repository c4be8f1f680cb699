-- A meter more raises the rank exactly where it touches a branch between two islands.
use Rattle.std.proofs.Common.{◌≡◌, ℕ, ◌+◌, ◌<◌, ◌≤◌, List, ◌∷◌, ◌++◌, length, sym, ap, ◌⊎◌, Option, arith}
use Rattle.std.proofs.lemmas.List.{get_or_append_left}
use Rattle.std.specs.Prelude.{slice_index_or}
use Rattle.obs_graph.specs.declared.Ends.{Ends}
use Rattle.obs_graph.specs.Positions.{AreBranches}
use Rattle.obs_matroid.specs.inner.Laws.{LiesBetween}
use Rattle.obs_matroid.specs.Lists.{In, IsDistinct}
use Rattle.obs_matroid.proofs.Agreeing.{IsIsland-agree, IsRho-agree}
use Rattle.obs_matroid.proofs.Lists.{In-filter_from}
use Rattle.obs_matroid.proofs.Ranges.{below_from}
use Rattle.obs_matroid.proofs.Raising.{BetweenIslandsRaises-holds}
use Rattle.obs_meter.specs.declared.Touch.{Touch}
use Rattle.obs_meter.specs.declared.Touch.TheVariants.{Nothing}
use Rattle.obs_meter.specs.Spanned.{common_vertex, ends_at, graph_matroid, joined_at, rank_at}
use Rattle.obs_meter.specs.Touches.{every_item, is_live, live_items, touch_at, touched}
use Rattle.obs_meter.proofs.Assigned.{live_items-distinct, rho-from_matroid, rho-to_matroid}
use Rattle.obs_meter.proofs.Instance.{IsJoining-graph, IsMatroid-graph}
use Rattle.obs_meter.proofs.Live.{live_low}
use Rattle.obs_meter.proofs.Touched.{touched-vertex}
use Rattle.obs_islands.specs.inner.Firsts.{BetweenIslandsRaise, LiesBetweenAt}
use Rattle.obs_islands.specs.Islands.{every_vertex}
use Rattle.obs_islands.proofs.Firsts.{first_same}
use Rattle.obs_islands.proofs.Parts.{In-vertices, vertices-distinct}
use Rattle.obs_islands.proofs.Spanning.{ends_low}

module _ (n : ℕ) (ends : List (Option Ends)) (touches more : List Touch) (x : ℕ) (ok : AreBranches n ends) (behind : length touches ≤ x) where
  abbrev all : List Touch
  all = touches ++ more

  abbrev M : List ℕ
  M = live_items ends touches

  low : (m : ℕ) → In m M → m < length touches
  low m i = live_low ends touches m (In-filter_from (is_live ends touches) m (every_item touches) i).1

  same : (m : ℕ) → In m M → touch_at ends touches m ≡ touch_at ends all m
  same m i = ap (touched ends) (sym (get_or_append_left touches more Nothing m (low m i)))

  distinct : IsDistinct (x ∷ M)
  distinct = ((λ i. let l = low x i in omega (arith, l, behind)), live_items-distinct ends touches)

  hubs : (m : ℕ) → In m M → (v : ℕ) × ((e : ℕ) → In e (touch_at ends all m) → ((ends_at ends e).0 ≡ v) ⊎ ((ends_at ends e).1 ≡ v))
  hubs m i = (common_vertex ends (slice_index_or all m Nothing), λ e k. touched-vertex ends (slice_index_or all m Nothing) e k)

  -- the ends of what is touched are vertices
  pub ends_are : (e : ℕ) → In e (touch_at ends all x) → ((ends_at ends e).0 < n) × ((ends_at ends e).1 < n)
  ends_are e i =
      let w = ends_low n ends all ok x e i in
      (below_from n (ends_at ends e).0 w.0, below_from n (ends_at ends e).1 w.1)

  -- no island has both ends of a branch exactly where these name different ones
  between-to : (e : ℕ) → In e (touch_at ends all x) → LiesBetweenAt n ends touches e → LiesBetween (ends_at ends) (graph_matroid n ends) (touch_at ends all) (every_vertex n) M e
  between-to e i apart S island iu iv u v =
      let l = ends_are e i in
      apart ((first_same n ends touches ok (ends_at ends e).0 (ends_at ends e).1 l.0 l.1).1
      (S, IsIsland-agree (graph_matroid n ends) (touch_at ends all) (touch_at ends touches) M (λ m k. sym (same m k)) (ends_at ends) (every_vertex n) S island, u, v))

  between-from : (e : ℕ) → In e (touch_at ends all x) → LiesBetween (ends_at ends) (graph_matroid n ends) (touch_at ends all) (every_vertex n) M e → LiesBetweenAt n ends touches e
  between-from e i between alike =
      let l = ends_are e i in
      let s = (first_same n ends touches ok (ends_at ends e).0 (ends_at ends e).1 l.0 l.1).0 alike in
      between s.0 (IsIsland-agree (graph_matroid n ends) (touch_at ends touches) (touch_at ends all) M same (ends_at ends) (every_vertex n) s.0 s.1)
      (In-vertices n (ends_at ends e).0 l.0) (In-vertices n (ends_at ends e).1 l.1) s.2 s.3

pub between_islands_raise : BetweenIslandsRaise
between_islands_raise n ends touches more x r ok behind h =
    let list = live_items ends touches in
    let all = touches ++ more in
    let g = graph_matroid n ends in
    let law = BetweenIslandsRaises-holds (ends_at ends) (joined_at ends) (rank_at n ends) (IsJoining-graph ends) (IsMatroid-graph n ends ok) (touch_at ends all) (every_vertex n) list x
    (vertices-distinct n) (distinct n ends touches more x ok behind) (λ m e i k. ends_low n ends all ok m e k) (hubs n ends touches more x ok behind) r
    (IsRho-agree g (touch_at ends touches) (touch_at ends all) list (same n ends touches more x ok behind) r (rho-to_matroid n ends touches list r h)) in (
      λ q. let b = law.0 (rho-to_matroid n ends all (x ∷ list) (r + 1) q) in (b.0, b.1, between-from n ends touches more x ok behind b.0 b.1 b.2),
      λ b. rho-from_matroid n ends all (x ∷ list) (r + 1) (law.1 (b.0, b.1, between-to n ends touches more x ok behind b.0 b.1 b.2)),
    )
