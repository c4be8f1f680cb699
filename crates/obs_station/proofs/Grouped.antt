-- The keys of meters, and the loss list by them.
use Rattle.std.proofs.Common.{◌≡◌, ℕ, zero, suc, ◌+◌, ◌<◌, Bool, true, false, not, ◌&&◌, List, [], ◌∷◌, length, map, get_or, refl, sym, ap, ◌∙◌, inl, inr, arith}
use Rattle.std.specs.Prelude.{◌==◌, if◌then◌else◌, filter, nat_lt, slice_index}
use Rattle.std.specs.List.{range_with_len}
use Rattle.std.proofs.lemmas.Bool.{cases_Bool, ne_eqb}
use Rattle.std.proofs.lemmas.List.{same_lists}
use Rattle.std.proofs.lemmas.List.FromFn.{get_or-map-range_with_len, length-map-range_with_len}
use Rattle.obs_graph.specs.Positions.{positions_from}
use Rattle.obs_graph.specs.Graph.{Graph}
use Rattle.obs_case.specs.Tables.{Tables}
use Rattle.obs_matroid.specs.Lists.{In}
use Rattle.obs_matroid.proofs.Lists.{In-filter, In-filter_from, clash, filter_same}
use Rattle.obs_matroid.proofs.Ranges.{below_from}
use Rattle.obs_meter.specs.declared.Touch.{Touch}
use Rattle.obs_meter.specs.Assignments.{rho_at}
use Rattle.obs_meter.specs.Lost.{is_listed}
use Rattle.obs_meter.specs.inner.Lost.{left_of}
use Rattle.obs_meter.specs.Touches.{is_live, live_items}
use Rattle.obs_meter.proofs.Touched.{In-from_any, any-from_In}
use Rattle.obs_switch.specs.Buses.{members_of}
use Rattle.obs_switch.specs.Groups.{items_with}
use Rattle.obs_network.specs.Network.{case_branches, case_meters, network_of}
use Rattle.obs_network.specs.Observable.{case_live_meters, rank_of_meters}
use Rattle.obs_network.proofs.OfCase.{length-case_meters}
use Rattle.obs_station.specs.declared.losses.Loss.{Loss}
use Rattle.obs_station.specs.inner.Held.{Stations, has_any, station_key, station_keys, loss_in, losses_in}
use Rattle.obs_station.specs.Stations.{case_station_count, case_stations, has_live, is_at, loss_of, loss_stations, losses_of, meter_stations, other_meters, station_meters, station_node}

-- a filter after another is one of both tests
pub both_filters : (p q : ℕ → Bool) (xs : List ℕ) → filter q (filter p xs) ≡ filter (λ x. p x && q x) xs
both_filters p q [] = refl
both_filters p q (x ∷ xs) = elim (cases_Bool (p x)) [
  | inl t ↦ elim (cases_Bool (q x)) [ inl s ↦ rw (t, s) (ap (λ ys. x ∷ ys) (both_filters p q xs)) | inr s ↦ rw (t, s) (both_filters p q xs) ]
  | inr e ↦ rw e (both_filters p q xs)
]

-- where each number has a key, those with one key are filtered
items-filtered : (f : ℕ → ℕ) (c n i : ℕ) → positions_from (λ k. k == c) i (map f (range_with_len i n)) ≡ filter (λ m. f m == c) (range_with_len i n)
items-filtered f c zero i = refl
items-filtered f c (suc n) i =
    let next : i + 1 ≡ suc i = omega arith in
    let rest : positions_from (λ k. k == c) (suc i) (map f (range_with_len (i + 1) n)) ≡ filter (λ m. f m == c) (range_with_len (i + 1) n) =
    ap (λ (j : ℕ). positions_from (λ k. k == c) j (map f (range_with_len (i + 1) n))) (sym next) ∙ items-filtered f c n (i + 1) in
    elim (cases_Bool (f i == c)) [ inl t ↦ rw t (ap (λ (l : List ℕ). i ∷ l) rest) | inr e ↦ rw e rest ]

-- a live meter has the key of its station, and an idle one that of none
one_key : (count c home : ℕ) (live : Bool) → c < count → ((if live then home else count) == c) ≡ (live && (home == c))
one_key count c home true l = refl
one_key count c home false l = ne_eqb count c (λ e. absurd (omega (arith, e, l)))

-- keys that are right at each meter
pub keys-are : (t : Tables) (keys : List ℕ) → length keys ≡ length t.meters → ((m : ℕ) → m < length keys → get_or keys m 0 ≡ station_key t m) → keys ≡ station_keys t
keys-are t keys len at =
    let n = length t.meters in
    same_lists keys (station_keys t) (len ∙ sym (length-map-range_with_len (station_key t) 0 n)) (λ k d l.
    numbered keys k d l ∙ (at k l ∙ sym (get_or-map-range_with_len (station_key t) 0 n k k d (omega (arith, len, l)) (omega arith))))
  where
    numbered : (xs : List ℕ) (k d : ℕ) → k < length xs → get_or xs k d ≡ get_or xs k 0
    numbered [] k d l = absurd (omega (arith, l))
    numbered (x ∷ xs) zero d l = refl
    numbered (x ∷ xs) (suc k) d l = numbered xs k d (omega (arith, l))

-- an entry that is made of its parts
pub loss_made : (g : Graph) (touches : List Touch) (s : Stations) (c node lost rank : ℕ) (list : List ℕ) → list ≡ items_with s.keys c → node ≡ slice_index (members_of s.buses.buses c) 0 → lost ≡ length list
    → rank ≡ rho_at g.vertices g.ends touches (left_of (is_listed list) (live_items g.ends touches))
    → record { node = node; lost = lost; rank = rank } ≡ loss_in g touches s c
loss_made g touches s c node lost rank list is_list is_node is_lost is_rank =
    let of_rank : record { node = node; lost = lost; rank = rank } ≡ entry node lost (ranked list) = ap (λ (r : ℕ). entry node lost r) is_rank in
    of_rank
    ∙ (ap (λ (n : ℕ). entry node n (ranked list)) is_lost
    ∙ (ap (λ (n : ℕ). entry n (length list) (ranked list)) is_node
    ∙ ap (λ (M : List ℕ). entry (slice_index (members_of s.buses.buses c) 0) (length M) (ranked M)) is_list))
  where
    entry : ℕ → ℕ → ℕ → Loss
    entry node lost rank = record { node = node; lost = lost; rank = rank }

    ranked : List ℕ → ℕ
    ranked M = rho_at g.vertices g.ends touches (left_of (is_listed M) (live_items g.ends touches))

module _ (t : Tables) where
  abbrev live : ℕ → Bool
  live = is_live (case_branches t) (case_meters t)

  -- the meters with the key of a station are its live meters
  pub meters-with : (c : ℕ) → c < case_station_count t → items_with (station_keys t) c ≡ station_meters t c
  meters-with c l =
      items-filtered (station_key t) c (length t.meters) 0
      ∙ (filter_same (λ m. station_key t m == c) (λ m. live m && is_at t c m) (range_with_len 0 (length t.meters)) (λ m i. one_key (case_station_count t) c (slice_index (meter_stations t) m) (live m) l)
      ∙ (sym (both_filters live (is_at t c) (range_with_len 0 (length t.meters)))
      ∙ ap (λ (n : ℕ). filter (is_at t c) (filter live (range_with_len 0 n))) (sym (length-case_meters t))))

  listed-filter : (p : ℕ → Bool) (xs : List ℕ) (m : ℕ) → In m xs → is_listed (filter p xs) m ≡ p m
  listed-filter p xs m i = elim (cases_Bool (p m)) [
    | inl s ↦ any-from_In (filter p xs) m (In-filter p m xs i s) ∙ sym s
    | inr f ↦ elim (cases_Bool (is_listed (filter p xs) m)) [
      | inl s ↦ clash (In-filter_from p m xs (In-from_any (filter p xs) m s)).1 f
      | inr e ↦ e ∙ sym f
    ]
  ]

  -- what isn't lost with a station
  pub others-left : (c : ℕ) → left_of (is_listed (station_meters t c)) (case_live_meters t) ≡ other_meters t c
  others-left c =
      filter_same (λ m. not (is_listed (station_meters t c) m)) (λ m. not (is_at t c m)) (case_live_meters t) (λ m i. ap not (listed-filter (is_at t c) (case_live_meters t) m i))

  -- stations that are those of the case
  module _ (s : Stations) (buses : s.buses.buses ≡ case_stations t) (keys : s.keys ≡ station_keys t) where
    listed : (c : ℕ) → c < case_station_count t → items_with s.keys c ≡ station_meters t c
    listed c l = ap (λ (k : List ℕ). items_with k c) keys ∙ meters-with c l

    one_loss : (c : ℕ) → c < case_station_count t → loss_in (network_of t).graph (case_meters t) s c ≡ loss_of t c
    one_loss c l =
        ap (λ (b : List ℕ). entry (slice_index (members_of b c) 0) (length (items_with s.keys c)) (rank_of_meters t (left_of (is_listed (items_with s.keys c)) (case_live_meters t)))) buses
        ∙ (ap (λ (M : List ℕ). entry (station_node t c) (length M) (rank_of_meters t (left_of (is_listed M) (case_live_meters t)))) (listed c l)
        ∙ ap (λ (M : List ℕ). entry (station_node t c) (length (station_meters t c)) (rank_of_meters t M)) (others-left c))
      where
        entry : ℕ → ℕ → ℕ → Loss
        entry node lost rank = record { node = node; lost = lost; rank = rank }

    same_entries : (f g : ℕ → Loss) (xs : List ℕ) → ((x : ℕ) → In x xs → f x ≡ g x) → map f xs ≡ map g xs
    same_entries f g [] h = refl
    same_entries f g (x ∷ xs) h = ap (λ (y : Loss). y ∷ map f xs) (h x (inl refl)) ∙ ap (λ (ys : List Loss). g x ∷ ys) (same_entries f g xs (λ y i. h y (inr i)))

    pub losses-are : losses_in (network_of t).graph (case_meters t) s (range_with_len 0 (case_station_count t)) ≡ losses_of t
    unfolding losses_of loss_stations
    losses-are =
        let all = range_with_len 0 (case_station_count t) in
        ap (λ (xs : List ℕ). map (loss_in (network_of t).graph (case_meters t) s) xs)
        (filter_same (has_any s) (has_live t) all (λ c i. ap (λ (M : List ℕ). nat_lt 0 (length M)) (listed c (below_from (case_station_count t) c i))))
        ∙ same_entries (loss_in (network_of t).graph (case_meters t) s) (loss_of t) (filter (has_live t) all)
        (λ c i. one_loss c (below_from (case_station_count t) c (In-filter_from (has_live t) c all i).0))
