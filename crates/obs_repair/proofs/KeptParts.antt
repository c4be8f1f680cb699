-- Parts that bound the pairs, and what an edit of a meter or of a branch alone makes of their bound.
use Rattle.std.proofs.Common.{◌⊎◌, inl, inr, ◌≡◌, ◌≢◌, ℕ, ◌+◌, ◌-◌, ◌<◌, ◌≤◌, Bool, true, false, Option, Some, None, List, [], ◌∷◌, length, get_or, refl, sym, ap, ◌∙◌, subst, arith, eqb, get_or-set_other}
use Rattle.std.specs.Prelude.{IfSome, filter, not, slice_index, slice_index_or}
use Rattle.std.specs.List.{list_all, list_any, range_with_len}
use Rattle.std.proofs.lemmas.Bool.{and_cases, and_parts, cases_eq, eq-eqb}
use Rattle.obs_graph.specs.declared.Ends.{Ends}
use Rattle.obs_graph.specs.Graph.{Graph}
use Rattle.obs_graph.specs.Joined.{first_joined, is_joined}
use Rattle.obs_graph.specs.Positions.{AreBranches}
use Rattle.obs_case.specs.Flags.{with_meter_inservice}
use Rattle.obs_case.specs.Tables.{IsValid, Tables}
use Rattle.obs_matroid.specs.Lists.{In}
use Rattle.obs_matroid.proofs.Lists.{In-filter, In-filter_from, IsDistinct-filter, clash, length-filter_le, length-within}
use Rattle.obs_meter.specs.declared.Touch.{Touch}
use Rattle.obs_meter.specs.Spanned.{both_ends}
use Rattle.obs_meter.specs.Touches.{every_item, touch_at}
use Rattle.obs_meter.proofs.Assigned.{every_item-distinct}
use Rattle.obs_meter.proofs.Instance.{in_range}
use Rattle.obs_meter.proofs.Touched.{live-from_In}
use Rattle.obs_meter.proofs.Live.{In-every, live_low}
use Rattle.obs_network.specs.inner.Edited.{AreSameBut}
use Rattle.obs_network.specs.Network.{Network, case_branches, case_meters, case_vertex_count, network_of}
use Rattle.obs_network.proofs.Edited.{branches-with_meter}
use Rattle.obs_network.proofs.OfCase.{case_branches-are}
use Rattle.obs_repair.specs.inner.Parts.{AreBounding, BoundsNetwork, is_between, is_inside, is_within}
use Rattle.obs_repair.proofs.Bounding.{between-by, between-from, is_joined_at}
use Rattle.obs_repair.proofs.Metered.{none_touched, same_count, same_graph, same_touch}

-- an absent branch leads nowhere
pub inside-absent : (first : List ℕ) (ends : List (Option Ends)) (e : ℕ) → slice_index_or ends e None ≡ None → is_inside first ends e ≡ true
inside-absent first ends e is =
    ap (λ (o : Option Ends). eqb (slice_index first (both_ends o).0) (slice_index first (both_ends o).1)) is ∙ eq-eqb (slice_index first 0) (slice_index first 0) refl

-- a branch lies inside of a part exactly where J joins its ends
inside_option : (n : ℕ) (first : List ℕ) (J : List Ends) → ((v : ℕ) → v < n → slice_index first v ≡ first_joined J v) → (o : Option Ends)
    → IfSome o (λ e. (e.a < n) × (e.b < n) × (e.a ≢ e.b)) → eqb (slice_index first (both_ends o).0) (slice_index first (both_ends o).1) ≡ is_joined J (both_ends o).0 (both_ends o).1
inside_option n first J parts None r = eq-eqb (slice_index first 0) (slice_index first 0) refl ∙ sym (eq-eqb (first_joined J 0) (first_joined J 0) refl)
inside_option n first J parts (Some x) r =
    ap (λ k. eqb k (slice_index first x.b)) (parts x.a r.0) ∙ ap (λ k. eqb (first_joined J x.a) k) (parts x.b r.1)

pub inside-is : (n : ℕ) (ends : List (Option Ends)) → AreBranches n ends → (first : List ℕ) (J : List Ends) → ((v : ℕ) → v < n → slice_index first v ≡ first_joined J v)
    → (e : ℕ) → is_inside first ends e ≡ is_joined_at J ends e
inside-is n ends ok first J parts e = inside_option n first J parts (slice_index_or ends e None) (in_range n ends e ok)

-- an element that fails where not all pass, and what passes where all do
fails_in : (p : ℕ → Bool) (xs : List ℕ) → list_all p xs ≡ false → (x : ℕ) × In x xs × (p x ≡ false)
fails_in p [] f = absurd (cc f)
fails_in p (x ∷ xs) f = elim (and_cases (p x) (list_all p xs) f) [
  | inl y ↦ (x, inl refl, y)
  | inr y ↦ let r = fails_in p xs y in (r.0, inr r.1, r.2)
]

passes_in : (p : ℕ → Bool) (xs : List ℕ) → list_all p xs ≡ true → (x : ℕ) → In x xs → p x ≡ true
passes_in p [] t x i = absurd i
passes_in p (y ∷ ys) t x (inl e) = ap p e ∙ (and_parts (p y) (list_all p ys) t).0
passes_in p (y ∷ ys) t x (inr i) = passes_in p ys (and_parts (p y) (list_all p ys) t).1 x i

-- how many items are between parts, before and after an edit
abbrev between_count : List Ends → List (Option Ends) → List Touch → ℕ
between_count J ends touches = length (filter (is_between J ends touches) (every_item touches))

module _ (J : List Ends) (ends after : List (Option Ends)) (touches touches_after : List Touch) (as_many : length touches_after ≡ length touches) where
  abbrev was : ℕ → Bool
  was = is_between J ends touches

  abbrev is : ℕ → Bool
  is = is_between J after touches_after

  over : (k : ℕ) → length (filter is (every_item touches)) ≤ k → between_count J after touches_after ≤ k
  over k few = subst (λ l. length (filter is (range_with_len 0 l)) ≤ k) (sym as_many) few

  none_more : ((m : ℕ) → is m ≡ true → was m ≡ true) → between_count J after touches_after ≤ between_count J ends touches
  none_more h = over (between_count J ends touches) (length-filter_le is was (every_item touches) (λ m i t. h m t))

  one_more : (at : ℕ) → ((m : ℕ) → is m ≡ true → (m ≡ at) ⊎ (was m ≡ true)) → between_count J after touches_after ≤ between_count J ends touches + 1
  one_more at h =
      let items = every_item touches in
      let l = length-within (filter is items) (at ∷ filter was items) (IsDistinct-filter is items (every_item-distinct touches)) there in
      over (between_count J ends touches + 1) (omega (arith, l))
    where
      there : (m : ℕ) → In m (filter is (every_item touches)) → In m (at ∷ filter was (every_item touches))
      there m i =
          let f = In-filter_from is m (every_item touches) i in
          elim (h m f.1) [ inl e ↦ inl e | inr t ↦ inr (In-filter was m (every_item touches) f.0 t) ]

  one_fewer : (at : ℕ) → at < length touches → was at ≡ true → ((m : ℕ) → is m ≡ true → (m ≢ at) × (was m ≡ true)) → between_count J after touches_after + 1 ≤ between_count J ends touches
  one_fewer at low t h =
      let items = every_item touches in
      let l = length-within (at ∷ filter is items) (filter was items) ((λ i. (h at (In-filter_from is at items i).1).0 refl), IsDistinct-filter is items (every_item-distinct touches)) there in
      let k = over (length (filter is items)) (omega arith) in
      omega (arith, l, k)
    where
      there : (m : ℕ) → In m (at ∷ filter is (every_item touches)) → In m (filter was (every_item touches))
      there m (inl e) = subst (λ x. In x (filter was (every_item touches))) (sym e) (In-filter was at (every_item touches) (In-every touches at low) t)
      there m (inr i) = let f = In-filter_from is m (every_item touches) i in In-filter was m (every_item touches) f.0 (h m f.1).1

-- an edit of a meter
module _ (t : Tables) (at : ℕ) (inservice : Bool) (first : List ℕ) where
  abbrev after : Tables
  after = with_meter_inservice t at inservice

  abbrev between : List Ends → List Touch → ℕ → Bool
  between J touches m = is_between J (case_branches t) touches m

  abbrev outside_of : List Ends → ℕ → Bool
  outside_of J e = not (is_joined_at J (case_branches t) e)

  -- another meter is between parts where it was
  same_between : (J : List Ends) (m : ℕ) → m ≢ at → between J (case_meters after) m ≡ between J (case_meters t) m
  same_between J m ne = ap (λ (es : List ℕ). list_any (outside_of J) es) (same_touch t at inservice m ne)

  -- what bounds over the branches of before bounds over the network
  over_network : (most : ℕ) → AreBounding (case_vertex_count t) (case_branches t) (case_meters after) first most → BoundsNetwork (network_of after) first most
  over_network most b = subst (λ (g : Graph). AreBounding g.vertices g.ends (case_meters after) first most) (sym (same_graph t at inservice)) b

-- a meter that goes is between parts no more
gone_between : (t : Tables) (at : ℕ) (J : List Ends) (m : ℕ) → is_between J (case_branches t) (case_meters (with_meter_inservice t at false)) m ≡ true
    → (m ≢ at) × (is_between J (case_branches t) (case_meters t) m ≡ true)
gone_between t at J m y =
    elim (cases_eq m at) [
      | inl s ↦ clash y (ap (λ (es : List ℕ). list_any (outside_of t at false [] J) es) (ap (λ k. touch_at (case_branches t) (case_meters (with_meter_inservice t at false)) k) s ∙ none_touched t at))
      | inr ne ↦ (ne, sym (same_between t at false [] J m ne) ∙ y)
    ]

pub bounds-lost : (t : Tables) (at : ℕ) (first : List ℕ) (most : ℕ) → BoundsNetwork (network_of t) first most → BoundsNetwork (network_of (with_meter_inservice t at false)) first most
bounds-lost t at first most b =
    let few = none_more b.joins (case_branches t) (case_branches t) (case_meters t) (case_meters (with_meter_inservice t at false)) (same_count t at false) (λ m y. (gone_between t at b.joins m y).1) in
    over_network t at false first most (record { joins = b.joins; parts = b.parts; bound = let bound = b.bound in omega (arith, few, bound) })

-- where it touched a branch between parts there is one such item less
pub bounds-lost_between : (t : Tables) → IsValid t → (at : ℕ) (first : List ℕ) (most : ℕ) → is_within first (network_of t).graph.ends (network_of t).meters.touches at ≡ false
    → BoundsNetwork (network_of t) first most → (1 ≤ most) × BoundsNetwork (network_of (with_meter_inservice t at false)) first (most - 1)
bounds-lost_between t v at first most out b =
    let bs = case_branches t in
    let e = fails_in (is_inside first bs) (touch_at bs (case_meters t) at) out in
    let apart : is_joined_at b.joins bs e.0 ≡ false = sym (inside-is (case_vertex_count t) bs (case_branches-are t v) first b.joins b.parts e.0) ∙ e.2 in
    let low = live_low bs (case_meters t) at (live-from_In bs (case_meters t) at e.0 e.1) in
    let few = one_fewer b.joins bs bs (case_meters t) (case_meters (with_meter_inservice t at false)) (same_count t at false) at low (between-by b.joins bs (case_meters t) at e.0 e.1 apart) (gone_between t at b.joins) in
    let bound = b.bound in (
      omega (arith, few, bound),
      over_network t at false first (most - 1) (record { joins = b.joins; parts = b.parts; bound = omega (arith, few, bound) }),
    )

-- a meter that comes back is one such item more at the most
pub bounds-regained : (t : Tables) (at : ℕ) (first : List ℕ) (most : ℕ) → BoundsNetwork (network_of t) first most → BoundsNetwork (network_of (with_meter_inservice t at true)) first (most + 1)
bounds-regained t at first most b =
    let few = one_more b.joins (case_branches t) (case_branches t) (case_meters t) (case_meters (with_meter_inservice t at true)) (same_count t at true) at there in
    over_network t at true first (most + 1) (record { joins = b.joins; parts = b.parts; bound = let bound = b.bound in omega (arith, few, bound) })
  where
    there : (m : ℕ) → is_between b.joins (case_branches t) (case_meters (with_meter_inservice t at true)) m ≡ true → (m ≡ at) ⊎ (is_between b.joins (case_branches t) (case_meters t) m ≡ true)
    there m y = elim (cases_eq m at) [ inl s ↦ inl s | inr ne ↦ inr (sym (same_between t at true first b.joins m ne) ∙ y) ]

-- and none where it touches branches inside of parts alone
pub bounds-regained_within : (t : Tables) → IsValid t → (at : ℕ) (first : List ℕ) (most : ℕ)
    → is_within first (network_of (with_meter_inservice t at true)).graph.ends (network_of (with_meter_inservice t at true)).meters.touches at ≡ true
    → BoundsNetwork (network_of t) first most → BoundsNetwork (network_of (with_meter_inservice t at true)) first most
bounds-regained_within t v at first most all b =
    let few = none_more b.joins (case_branches t) (case_branches t) (case_meters t) (case_meters (with_meter_inservice t at true)) (same_count t at true) there in
    over_network t at true first most (record { joins = b.joins; parts = b.parts; bound = let bound = b.bound in omega (arith, few, bound) })
  where
    within : is_within first (case_branches t) (case_meters (with_meter_inservice t at true)) at ≡ true
    within = subst (λ bs. is_within first bs (case_meters (with_meter_inservice t at true)) at ≡ true) (branches-with_meter t at true) all

    there : (m : ℕ) → is_between b.joins (case_branches t) (case_meters (with_meter_inservice t at true)) m ≡ true → is_between b.joins (case_branches t) (case_meters t) m ≡ true
    there m y =
        elim (cases_eq m at) [
          | inl s ↦
              let T = case_meters (with_meter_inservice t at true) in
              let e = between-from b.joins (case_branches t) T at (subst (λ k. is_between b.joins (case_branches t) T k ≡ true) s y) in
              let inside = passes_in (is_inside first (case_branches t)) (touch_at (case_branches t) T at) within e.0 e.1 in
              clash (sym (inside-is (case_vertex_count t) (case_branches t) (case_branches-are t v) first b.joins b.parts e.0) ∙ inside) e.2
          | inr ne ↦ sym (same_between t at true first b.joins m ne) ∙ y
        ]

-- an edit of a branch alone, which is absent now or lies inside of a part
pub bounds-but : (at : ℕ) (one other : Network) → AreSameBut at one other → length other.meters.touches ≡ length one.meters.touches → AreBranches other.graph.vertices other.graph.ends
    → (first : List ℕ) (most : ℕ) → is_inside first other.graph.ends at ≡ true → BoundsNetwork one first most → BoundsNetwork other first most
bounds-but at one other same as_many ok first most inside b =
    let few = none_more b.joins one.graph.ends other.graph.ends one.meters.touches other.meters.touches as_many there in
    subst (λ n. AreBounding n other.graph.ends other.meters.touches first most) (sym same.vertices)
    (record { joins = b.joins; parts = b.parts; bound = let bound = b.bound in omega (arith, few, bound) })
  where
    below : AreBranches one.graph.vertices other.graph.ends
    below = subst (λ n. AreBranches n other.graph.ends) same.vertices ok

    same_ends : (e : ℕ) → e ≢ at → slice_index_or other.graph.ends e None ≡ slice_index_or one.graph.ends e None
    same_ends e ne =
        ap (λ (xs : List (Option Ends)). get_or xs e None) same.ends
        ∙ get_or-set_other one.graph.ends at e (slice_index_or other.graph.ends at None) None ne

    there : (m : ℕ) → is_between b.joins other.graph.ends other.meters.touches m ≡ true → is_between b.joins one.graph.ends one.meters.touches m ≡ true
    there m y =
        let e = between-from b.joins other.graph.ends other.meters.touches m y in
        elim (cases_eq e.0 at) [
          | inl s ↦
              clash (sym (inside-is one.graph.vertices other.graph.ends below first b.joins b.parts at) ∙ inside)
              (subst (λ k. is_joined_at b.joins other.graph.ends k ≡ false) s e.2)
          | inr ne ↦
              between-by b.joins one.graph.ends one.meters.touches m e.0 ((same.touched m e.0 ne).1 e.1)
              (subst (λ (o : Option Ends). is_joined b.joins (both_ends o).0 (both_ends o).1 ≡ false) (same_ends e.0 ne) e.2)
        ]
