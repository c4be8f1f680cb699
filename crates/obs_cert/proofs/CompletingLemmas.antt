-- A cost claim that holds chooses a cheapest set of candidates, and where a shortfall claim holds none complete.
use Rattle.std.proofs.Common.{◌≡◌, ℕ, ◌+◌, ◌<◌, ◌≤◌, ◌||◌, ◌&&◌, Bool, true, false, not, nat_lt, None, List, [], ◌∷◌, ◌++◌, length, map, filter, refl, sym, ap, ◌∙◌, subst, inl, inr, arith}
use Rattle.std.specs.Prelude.{◌==◌}
use Rattle.std.specs.List.{flat_map, list_any, sum_by}
use Rattle.std.specs.Str.{bytes_eq}
use Rattle.std.proofs.lemmas.Bool.{and_from, and_parts, cases_Bool, eqb-true, le-ltb, ltb-false, ltb-true, not-true, or_cases, or_left, or_right, not-false, or_parts}
use Rattle.std.proofs.lemmas.List.{length-map}
use Rattle.std.proofs.lemmas.List.Sums.{sum_by-cons}
use Rattle.obs_case.specs.Tables.{IsValid, Tables, candidate_names, has_name, place_of, prices_of}
use Rattle.obs_case.proofs.NameLemmas.{place-there}
use Rattle.obs_matroid.specs.Lists.{In, IsDistinct}
use Rattle.obs_matroid.specs.Matroid.{Matroid}
use Rattle.obs_matroid.specs.Placement.{IsShown, Layer as BareLayer, RunOn, below, layers_sum}
use Rattle.obs_matroid.proofs.Lists.{In-append_cases, In-append_left, In-append_right, In-filter, In-filter_from, In-flat_map, In-flat_map_from, In-map_from, IsDistinct-append, IsDistinct-filter, clash, length-within}
use Rattle.obs_matroid.proofs.Placement.{IsAssignment-items}
use Rattle.obs_matroid.proofs.Ranks.{rank-within}
use Rattle.obs_meter.specs.Spanned.{graph_matroid}
use Rattle.obs_meter.specs.Touches.{every_item, is_live, live_items, touch_at}
use Rattle.obs_meter.proofs.Assigned.{live_items-distinct, rho-to_matroid}
use Rattle.obs_meter.proofs.Live.{In-live, live-from_live_items}
use Rattle.obs_network.specs.Network.{case_branches, case_needed, case_offered, case_vertex_count, is_meter}
use Rattle.obs_network.proofs.Observed.{most_pairs}
use Rattle.obs_network.proofs.OfCase.{case_branches-are}
use Rattle.obs_meter.specs.Costs.{live_candidates, live_meters, price_of}
use Rattle.obs_rankcut.proofs.Costs.{layers_bound_completing}
use Rattle.obs_cert.specs.declared.flaw.FlawCode.TheVariants.{Cycle, NotBelow, NotInside, NotTouched, Twice, UnknownName, WrongCost, WrongLayers, WrongLength, WrongOutside, WrongRank}
use Rattle.obs_cert.specs.Claims.{Item, Layer, candidate}
use Rattle.obs_network.specs.Completing.{CompletesCase, price_together}
use Rattle.obs_cert.specs.Completing.{ChosenAreCheapest, ShortfallsRefute, chosen_by}
use Rattle.obs_cert.specs.Flaws.{Listed, all_inside, cycle, first_true, layers_clauses, list_clauses, listed_from, listed_layers, not_below, not_inside, not_touched, outside_of, outside_of_plan, paired_twice, rank_of_items, runs_on, shows, twice, twice_in_plan, unknown_in_plan, unknown_item, unknown_pair, wrong_cost, wrong_length, wrong_outside, wrong_rank}
use Rattle.obs_cert.specs.Numbered.{candidate_items, is_known, item_of, items_of, paired_items, pairs_of}
use Rattle.obs_meter.specs.Lost.{is_listed}
use Rattle.obs_cert.specs.Scopes.{is_below, is_live_item, is_of_plan, item_touches, price_at, scope_of}
use Rattle.obs_cert.proofs.CountingLemmas.{distinct, each_passes}
use Rattle.obs_cert.proofs.OutsideLemmas.{scope_distinct}
use Rattle.obs_meter.proofs.Touched.{In-from_any, any-from_In}
use Rattle.obs_cert.proofs.TruthLemmas.{bound_below, each_false, laws, none_true, pairs_assign, rank_within}

-- a layer as the laws of layers speak of it
abbrev pub bare : Layer → BareLayer
bare l = record { from = l.from; to = l.to; rank = l.rank; outside = l.outside }

run_on : (f : ℕ) (layers : List Layer) → runs_on f layers ≡ true → RunOn f (map bare layers)
run_on f [] e = tt
run_on f (l ∷ layers) e =
    let one = and_parts (l.from == f) (nat_lt l.from l.to && runs_on l.to layers) e in
    let two = and_parts (nat_lt l.from l.to) (runs_on l.to layers) one.1 in
    let from = eqb-true l.from f one.0 in
    let below = ltb-true l.from l.to two.0 in
    (from, omega (arith, from, below), run_on l.to layers two.1)

pub sum_is : (needed : ℕ) (layers : List Layer) → sum_by (shows needed) layers ≡ layers_sum needed (map bare layers)
sum_is needed [] = refl
sum_is needed (l ∷ layers) = sum_by-cons (shows needed) l layers ∙ ap (λ (k : ℕ). shows needed l + k) (sum_is needed layers)

-- each layer has its list
with_list : (t : Tables) (before : List ℕ) (layers : List Layer) (l : BareLayer) → In l (map bare layers) → (r : Listed) × In r (listed_from t before layers) × (l ≡ bare r.layer)
with_list t before [] l i = absurd i
with_list t before (x ∷ layers) l (inl e) = (record { layer = x; list = before ++ items_of t x.inside }, inl refl, e)
with_list t before (x ∷ layers) l (inr i) = let w = with_list t (before ++ items_of t x.inside) layers l i in (w.0, inr w.1, w.2)

-- sums of what is the same for each
pub same_sum : (f g : ℕ → ℕ) (xs : List ℕ) → ((x : ℕ) → In x xs → f x ≡ g x) → sum_by f xs ≡ sum_by g xs
same_sum f g [] same = refl
same_sum f g (x ∷ xs) same =
    let a = sum_by-cons f x xs in
    let b = sum_by-cons g x xs in
    let here = same x (inl refl) in
    let later = same_sum f g xs (λ y i. same y (inr i)) in
    omega (arith, a, b, here, later)

module _ (t : Tables) where
  abbrev price : ℕ → ℕ
  price = price_of (length t.meters) (prices_of t.candidates)

  abbrev live : List ℕ
  live = live_items (case_branches t) (case_offered t)

  abbrev metered : List ℕ
  metered = live_meters (case_branches t) (case_offered t) (length t.meters)

  abbrev candidates : List ℕ
  candidates = live_candidates (case_branches t) (case_offered t) (length t.meters)

  price_is : (c : ℕ) → length t.meters ≤ c → price c ≡ price_at t c
  price_is c l = rw (le-ltb c (length t.meters) l) refl

  is_metered : (m : ℕ) → is_live_item t m ≡ true → is_meter t m ≡ true → In m metered
  is_metered m alive meter = In-filter (λ x. nat_lt x (length t.meters)) m live (In-live (case_branches t) (case_offered t) m alive) meter

  -- the scope of a layer is the live meters and the live candidates below its price
  abbrev parts : ℕ → List ℕ
  parts to = metered ++ below price to candidates

  in_parts : (to m : ℕ) → is_below t to m ≡ true → In m (parts to)
  in_parts to m e =
      let two = and_parts (is_live_item t m) (is_meter t m || nat_lt (price_at t m) to) e in
      elim (cases_Bool (is_meter t m)) [
        | inl meter ↦ In-append_left m metered (below price to candidates) (is_metered m two.0 meter)
        | inr other ↦
            let cheap : nat_lt (price_at t m) to ≡ true = rw other at two.1 in
            let p = price_is m (ltb-false m (length t.meters) other) in
            In-append_right m metered (below price to candidates)
            (In-filter (λ c. nat_lt (price c) to) m candidates
            (In-filter (λ x. not (nat_lt x (length t.meters))) m live (In-live (case_branches t) (case_offered t) m two.0) (ap not other))
            (ap (λ (k : ℕ). nat_lt k to) p ∙ cheap))
      ]

  from_parts : (to m : ℕ) → In m (parts to) → is_below t to m ≡ true
  from_parts to m i = elim (In-append_cases m metered (below price to candidates) i) [
    | inl j ↦
        let u = In-filter_from (λ x. nat_lt x (length t.meters)) m live j in
        and_from (is_live_item t m) (is_meter t m || nat_lt (price_at t m) to) (live-from_live_items (case_branches t) (case_offered t) m u.0) (or_left (is_meter t m) (nat_lt (price_at t m) to) u.1)
    | inr j ↦
        let w = In-filter_from (λ c. nat_lt (price c) to) m candidates j in
        let u = In-filter_from (λ x. not (nat_lt x (length t.meters))) m live w.0 in
        let p = price_is m (ltb-false m (length t.meters) (not-true (nat_lt m (length t.meters)) u.1)) in
        and_from (is_live_item t m) (is_meter t m || nat_lt (price_at t m) to) (live-from_live_items (case_branches t) (case_offered t) m u.0)
        (or_right (is_meter t m) (nat_lt (price_at t m) to) (ap (λ (k : ℕ). nat_lt k to) (sym p) ∙ w.1))
  ]

  parts_distinct : (to : ℕ) → IsDistinct (parts to)
  parts_distinct to =
      let d = live_items-distinct (case_branches t) (case_offered t) in
      IsDistinct-append metered (below price to candidates) (IsDistinct-filter (λ x. nat_lt x (length t.meters)) live d)
      (IsDistinct-filter (λ c. nat_lt (price c) to) candidates (IsDistinct-filter (λ x. not (nat_lt x (length t.meters))) live d))
      (λ x i j.
      let low = (In-filter_from (λ y. nat_lt y (length t.meters)) x live i).1 in
      let high = (In-filter_from (λ y. not (nat_lt y (length t.meters))) x live (In-filter_from (λ c. nat_lt (price c) to) x candidates j).0).1 in
      clash low (not-true (nat_lt x (length t.meters)) high))

  scope_from : (to m : ℕ) → In m (scope_of t (is_below t to)) → In m (parts to)
  scope_from to m i = in_parts to m (In-filter_from (is_below t to) m (every_item (case_offered t)) i).1

  scope_at : (to m : ℕ) → In m (parts to) → In m (scope_of t (is_below t to))
  scope_at to m i =
      let e = from_parts to m i in
      let two = and_parts (is_live_item t m) (is_meter t m || nat_lt (price_at t m) to) e in
      In-filter (is_below t to) m (every_item (case_offered t)) (In-filter_from (is_live_item t) m (every_item (case_offered t)) (In-live (case_branches t) (case_offered t) m two.0)).0 e

  -- as many are outside a list
  outside_same : (to : ℕ) (list : List ℕ) → length (filter (λ m. not (is_listed list m)) (parts to)) ≡ outside_of t (is_below t to) list
  outside_same to list =
      let other : ℕ → Bool = λ m. not (is_listed list m) in
      let S = scope_of t (is_below t to) in
      let up = length-within (filter other (parts to)) (filter other S) (IsDistinct-filter other (parts to) (parts_distinct to))
      (λ m i. let u = In-filter_from other m (parts to) i in In-filter other m S (scope_at to m u.0) u.1) in
      let down = length-within (filter other S) (filter other (parts to)) (IsDistinct-filter other S (scope_distinct t (is_below t to)))
      (λ m i. let u = In-filter_from other m S i in In-filter other m (parts to) (scope_from to m u.0) u.1) in
      omega (arith, up, down)

module _ (t : Tables) (v : IsValid t) where
  abbrev g : Matroid
  g = graph_matroid (case_vertex_count t) (case_branches t)

  -- and the listed ones touch as much, where none is listed from elsewhere
  rank_same : (to : ℕ) (list : List ℕ) → not_inside (is_below t to) list ≡ false → g.rank (flat_map (item_touches t) (filter (is_listed list) (parts t to))) ≡ rank_of_items t list
  rank_same to list inside =
      let up = rank_within t v (parts t to) list in
      let down = rank-within g (laws t v) (flat_map (item_touches t) list) (flat_map (item_touches t) (filter (is_listed list) (parts t to)))
      (λ e i.
      let w = In-flat_map_from (item_touches t) e list i in
      let there = In-filter (is_listed list) w.0 (parts t to) (in_parts t to w.0 (each_passes (is_below t to) list inside w.0 w.1)) (any-from_In list w.0 w.1) in
      (laws t v).member (flat_map (item_touches t) (filter (is_listed list) (parts t to))) e (In-flat_map (item_touches t) w.0 e (filter (is_listed list) (parts t to)) there w.2)) in
      omega (arith, up, down)

  shown : (layer : Layer) (list : List ℕ) → not_inside (is_below t layer.to) list ≡ false → wrong_rank t list layer.rank ≡ false → wrong_outside t (is_below t layer.to) list layer.outside ≡ false
      → IsShown (graph_matroid (case_vertex_count t) (case_branches t)) (touch_at (case_branches t) (case_offered t)) (price t) (metered t) (candidates t) (bare layer)
  shown layer list inside ranked counted = record {
    marks = is_listed list;
    rank_is = rank_same layer.to list inside ∙ eqb-true (rank_of_items t list) layer.rank (not-false (rank_of_items t list == layer.rank) ranked);
    outside_is = outside_same t layer.to list ∙ eqb-true (outside_of t (is_below t layer.to) list) layer.outside (not-false (outside_of t (is_below t layer.to) list == layer.outside) counted);
  }

  -- a chosen candidate is one of the case
  chosen_each : (names : List (List ℕ)) → unknown_item t (candidate_items names) ≡ false → (m : ℕ) → In m (items_of t (candidate_items names)) → (length t.meters ≤ m) × (m < length t.meters + length t.candidates)
  chosen_each names known m i =
      let a = In-map_from (item_of t) m (candidate_items names) i in
      let b = In-map_from candidate a.0 names a.1 in
      let name = b.0 in
      let there : has_name (candidate_names t) name ≡ true = subst (λ (x : Item). is_known t x ≡ true) b.2 (each_passes (is_known t) (candidate_items names) known a.0 a.1) in
      let low = place-there (bytes_eq name) (candidate_names t) there in
      let e : m ≡ length t.meters + place_of (candidate_names t) name = a.2 ∙ ap (item_of t) b.2 in
      (omega (arith, e), omega (arith, e, low, length-map t.candidates (λ row. row.name)))

pub chosen_are_cheapest : ChosenAreCheapest
chosen_are_cheapest t c v h =
    let X = chosen_by t c in
    let A = pairs_of t c.pairs in
    let paired = items_of t (paired_items c.pairs) in
    let listed = listed_layers t c.layers in
    let known = none_true (unknown_in_plan t c) UnknownName _ h in
    let inside = none_true (outside_of_plan t c) NotInside _ known.1 in
    let touched = none_true (not_touched t A) NotTouched _ inside.1 in
    let once = none_true (twice_in_plan t c) Twice _ touched.1 in
    let forest = none_true (cycle t A) Cycle _ once.1 in
    let long = none_true (wrong_length A (case_needed t)) WrongLength (first_true (layers_clauses t c)) forest.1 in
    let rank = none_true (list_any (λ (l : Listed). wrong_rank t l.list l.layer.rank) listed) WrongRank _ long.1 in
    let outside = none_true (list_any (λ (l : Listed). wrong_outside t (is_below t l.layer.to) l.list l.layer.outside) listed) WrongOutside _ rank.1 in
    let below = none_true (list_any (λ (l : Layer). not_below l.rank l.outside (case_needed t)) c.layers) NotBelow _ outside.1 in
    let runs = none_true (not (runs_on 0 c.layers)) WrongLayers _ below.1 in
    let costs = none_true (wrong_cost t X c.layers c.number) WrongCost None runs.1 in
    let names = or_parts (unknown_item t (candidate_items c.chosen)) (unknown_pair t c.pairs || unknown_item t (all_inside c.layers)) known.0 in
    let lists = or_parts (not_inside (is_of_plan t (is_listed X)) paired) (list_any (λ (l : Listed). not_inside (is_below t l.layer.to) l.list) listed) inside.0 in
    let two = or_parts (twice X) (paired_twice t c.pairs || twice (items_of t (all_inside c.layers))) once.0 in
    let pairs = or_parts (paired_twice t c.pairs) (twice (items_of t (all_inside c.layers))) two.1 in
    let sums = or_parts (not (sum_by (price_at t) X == c.number)) (not (sum_by (shows (case_needed t)) c.layers == c.number)) costs.0 in
    let of_candidates = chosen_each t v c.chosen names.0 in
    let alive = filter (is_live (case_branches t) (case_offered t)) X in
    let M = live_meters (case_branches t) (case_offered t) (length t.meters) ++ alive in
    let of_plan = each_passes (is_of_plan t (is_listed X)) paired lists.0 in
    let within : (m : ℕ) → In m paired → In m M = λ m i.
    let both = and_parts (is_live_item t m) (is_meter t m || is_listed X m) (of_plan m i) in
    elim (or_cases (is_meter t m) (is_listed X m) both.1) [
      | inl meter ↦ In-append_left m (metered t) alive (is_metered t m both.0 meter)
      | inr chosen ↦ In-append_right m (metered t) alive (In-filter (is_live (case_branches t) (case_offered t)) m X (In-from_any X m chosen) both.0)
    ] in
    let a = pairs_assign t v M c.pairs touched.0 pairs.0 forest.0 within in
    let completes : CompletesCase t X = record {
      candidates = λ m i. (of_candidates m i).0;
      reached = record {
        longest = A;
        assigns = a;
        long = eqb-true (length A) (case_needed t) (not-false (length A == case_needed t) long.0);
        none_longer = λ B b. most_pairs t v (case_offered t) M B b;
      };
    } in
    let stated = eqb-true (sum_by (price_at t) X) c.number (not-false (sum_by (price_at t) X == c.number) sums.0) in
    let cost : price_together t X ≡ c.number = same_sum (price t) (price_at t) X (λ m i. price_is t m (of_candidates m i).0) ∙ stated in
    let total = eqb-true (sum_by (shows (case_needed t)) c.layers) c.number (not-false (sum_by (shows (case_needed t)) c.layers == c.number) sums.1) in
    let shows_it = sum_is (case_needed t) c.layers in (
      record {
        different = distinct X two.0;
        offered = λ m i. (of_candidates m i).1;
        completes = completes;
        least = λ Y y.
            let least = layers_bound_completing (case_vertex_count t) (case_branches t) (case_offered t) (length t.meters) (case_needed t) (prices_of t.candidates) Y (map bare c.layers) (case_branches-are t v)
            (run_on 0 c.layers (not-false (runs_on 0 c.layers) runs.0))
            (λ l i.
            let r = with_list t [] c.layers l i in
            subst (λ (x : BareLayer). IsShown (graph_matroid (case_vertex_count t) (case_branches t)) (touch_at (case_branches t) (case_offered t)) (price t) (metered t) (candidates t) x) (sym r.2)
            (shown t v r.0.layer r.0.list
            (each_false (λ (x : Listed). not_inside (is_below t x.layer.to) x.list) listed lists.1 r.0 r.1)
            (each_false (λ (x : Listed). wrong_rank t x.list x.layer.rank) listed rank.0 r.0 r.1)
            (each_false (λ (x : Listed). wrong_outside t (is_below t x.layer.to) x.list x.layer.outside) listed outside.0 r.0 r.1)))
            y in
            omega (arith, cost, total, shows_it, least);
      },
      cost,
    )

pub shortfalls_refute : ShortfallsRefute
shortfalls_refute t c v h X completes =
    let list = items_of t c.inside in
    let known = none_true (unknown_item t c.inside) UnknownName _ h in
    let inside = none_true (not_inside (is_live_item t) list) NotInside (first_true (list_clauses t (is_live_item t) list c.rank c.outside (case_needed t))) known.1 in
    let alive = filter (is_live (case_branches t) (case_offered t)) X in
    let N = live_meters (case_branches t) (case_offered t) (length t.meters) ++ alive in
    let r = rho-to_matroid (case_vertex_count t) (case_branches t) (case_offered t) N (case_needed t) completes.reached in
    let a = IsAssignment-items (graph_matroid (case_vertex_count t) (case_branches t)) (laws t v) (touch_at (case_branches t) (case_offered t)) N (scope_of t (is_live_item t)) r.longest r.assigns
    (λ p i. elim (In-append_cases p.0 (metered t) alive (r.assigns.of_items p i)) [
      | inl j ↦ (In-filter_from (λ m. nat_lt m (length t.meters)) p.0 (live t) j).0
      | inr j ↦ In-live (case_branches t) (case_offered t) p.0 (In-filter_from (is_live (case_branches t) (case_offered t)) p.0 X j).1
    ]) in
    let short = bound_below t v (is_live_item t) list c.rank c.outside (case_needed t) inside.1 r.longest a in
    let e = r.long in
    omega (arith, short, e)
