-- What the places from which meters are reached say of the loss of a station.
use Rattle.std.proofs.Common.{◌≡◌, ℕ, zero, suc, ◌+◌, ◌-◌, ◌<◌, ◌≤◌, Bool, true, false, ◌||◌, List, [], ◌∷◌, length, get_or, take, refl, sym, ap, ◌∙◌, subst, inl, inr, arith}
use Rattle.std.specs.Prelude.{filter, nat_lt}
use Rattle.std.proofs.lemmas.Bool.{cases_eq, cases_lt, le-ltb, or_left, or_right}
use Rattle.obs_graph.specs.Graph.{Graph}
use Rattle.obs_matroid.specs.Lists.{In}
use Rattle.obs_matroid.proofs.Lists.{clash, filter_same, length-split}
use Rattle.obs_switch.specs.Groups.{items_with}
use Rattle.obs_switch.specs.inner.Groups.{group_start}
use Rattle.obs_meter.specs.declared.Touch.{Touch}
use Rattle.obs_meter.proofs.Live.{live_low}
use Rattle.obs_meter.proofs.Touched.{any-from_In}
use Rattle.obs_assign.specs.Assignment.{Assignment}
use Rattle.obs_assign.specs.inner.Assignment.{branch_at, pairs}
use Rattle.obs_exchange.specs.declared.Sources.TheVariants.{All}
use Rattle.obs_exchange.specs.inner.Closed.{IsLeastClosedAt, IsSource}
use Rattle.obs_exchange.specs.inner.Ordered.{reached_before}
use Rattle.obs_station.specs.declared.grouping.Grouping.{Grouping}
use Rattle.obs_station.specs.inner.Held.{Stations}
use Rattle.obs_station.specs.inner.Rounds.{AreGrouped, HasLongest, AreReached, IsByStation, CostNothing, is_bare, lacks, rank_left}
use Rattle.obs_station.proofs.Falling.{few_settled, own_settled}
use Rattle.obs_station.proofs.Members.{member-at, members-distinct, members-live}
use Rattle.obs_station.proofs.Ordering.{starts_rise}

-- what stands in a list stands in a front that is long enough
listed_front : (xs : List ℕ) (k p m : ℕ) → p < k → p < length xs → get_or xs p 0 ≡ m → In m (take k xs)
listed_front [] k p m l n e = absurd (omega (arith, n))
listed_front (x ∷ xs) zero p m l n e = absurd (omega (arith, l))
listed_front (x ∷ xs) (suc k) zero m l n e = inl (sym e)
listed_front (x ∷ xs) (suc k) (suc p) m l n e = inr (listed_front xs k p m (omega (arith, l)) (omega (arith, n)) e)

-- what stands in a list has a place
in_place : (xs : List ℕ) (m : ℕ) → In m xs → (k : ℕ) × (k < length xs) × (get_or xs k 0 ≡ m)
in_place [] m i = absurd i
in_place (x ∷ xs) m i = elim i [
  | inl e ↦ (0, omega arith, sym e)
  | inr j ↦ let v = in_place xs m j in let l = v.1 in (suc v.0, omega (arith, l), v.2)
]

-- below its length a list has the same items whatever stands for those behind
pub same_item : (xs : List ℕ) (m d : ℕ) → m < length xs → get_or xs m d ≡ get_or xs m 0
same_item [] m d l = absurd (omega (arith, l))
same_item (x ∷ xs) zero d l = refl
same_item (x ∷ xs) (suc m) d l = same_item xs m d (omega (arith, l))

-- and behind it what stands for those
behind : (xs : List ℕ) (m d : ℕ) → length xs ≤ m → get_or xs m d ≡ d
behind [] m d l = refl
behind (x ∷ xs) zero d l = absurd (omega (arith, l))
behind (x ∷ xs) (suc m) d l = behind xs m d (omega (arith, l))

module _ (y : Grouping) (a : Assignment) (paired : HasLongest y a) (firsts lasts : List ℕ) (both : Bool) (r : AreReached y a firsts lasts both) where
  abbrev g : Graph
  g = y.graph.now

  abbrev touches : List Touch
  touches = y.meters.now.touches

  abbrev s : Stations
  s = y.stations.now

  abbrev keys : List ℕ
  keys = s.keys

  abbrev grouped : AreGrouped y
  grouped = paired.grouped

  some : length firsts ≡ length touches
  some = r.up.2.meters

  abbrev start : ℕ → ℕ
  start c = group_start keys c

  abbrev all : ℕ
  all = group_start keys s.buses.count

  -- a source has the key of a station
  low : (m : ℕ) → IsSource g.ends touches All a m → m < length keys
  low m source = let l = live_low g.ends touches m source.0 in let k = grouped.keys in omega (arith, l, k)

  own : (m : ℕ) → IsSource g.ends touches All a m → get_or keys m 0 < s.buses.count
  own m source = (grouped.stationed m (low m source)).1 source.0

  -- a source of a station below the front is reached
  up_holds : (c m : ℕ) → c ≤ s.buses.count → IsSource g.ends touches All a m → get_or keys m 0 < c → reached_before firsts (start c) m ≡ true
  up_holds c m l source below =
      let order = r.up.0 in
      let by = r.up.1 in
      let p = by.placed m (low m source) (own m source) in
      let key = get_or keys m 0 in
      let next = starts_rise keys (suc key) c (omega (arith, below)) in
      let end = starts_rise keys c s.buses.count l in
      let size = by.all in
      let high = p.3 in
      (r.up.2.fronts (start c) (omega (arith, end, size))).holds m
      (any-from_In (take (start c) order) m (listed_front order (start c) p.0 m (omega (arith, high, next)) (omega (arith, high, next, end, size)) p.1)) source

  -- and one of a station behind it, the other way round
  down_holds : (t : both ≡ true) (c m : ℕ) → IsSource g.ends touches All a m → c < get_or keys m 0 → reached_before lasts (all - start (suc c)) m ≡ true
  down_holds t c m source above =
      let d = r.down t in
      let order = d.0 in
      let list = d.1 in
      let by = d.2 in
      let back = d.3 in
      let p = by.placed m (low m source) (own m source) in
      let key = get_or keys m 0 in
      let next = starts_rise keys (suc c) key (omega (arith, above)) in
      let key_low = own m source in
      let end = starts_rise keys (suc key) s.buses.count (omega (arith, key_low)) in
      let size = by.all in
      let from = p.2 in
      let high = p.3 in
      let length_same = back.same in
      let k = all - suc p.0 in
      let at : get_or list k 0 ≡ m = back.back p.0 k (omega (arith, size, high, end)) ∙ p.1 in
      (d.4.fronts (all - start (suc c)) (omega (arith, length_same, size))).holds m
      (any-from_In (take (all - start (suc c)) list) m
      (listed_front list (all - start (suc c)) k m (omega (arith, from, next, high, end)) (omega (arith, high, end, length_same, size)) at)) source

  -- a meter that has a later place isn't reached
  beyond : (places : List ℕ) (k m : ℕ) → m < length places → k ≤ get_or places m 0 → reached_before places k m ≡ false
  beyond places k m l far = let e = same_item places m k l in le-ltb (get_or places m k) k (omega (arith, e, far))

  -- all places together mark what all sources reach
  least : IsLeastClosedAt g.ends touches All a (reached_before firsts all)
  least =
      let size = r.up.1.all in
      let front = r.up.2.fronts all (omega (arith, size)) in
      record {
        closed = front.closed;
        holds = λ m source. up_holds s.buses.count m (omega arith) source (own m source);
        least = λ T closed holds m t. front.least T closed (λ x listed source. holds x source) m t;
      }

  module _ (c : ℕ) (station : c < s.buses.count) where
    abbrev list : List ℕ
    list = items_with keys c

    member_low : (m : ℕ) → In m list → m < length touches
    member_low m i = live_low g.ends touches m (members-live g touches s c grouped.stationed station m i)

    -- what the loss costs where it shows
    pub spared_rank : (k : ℕ) → CostNothing s a firsts lasts both c k → rank_left y c + length list ≡ length (pairs a) + k
    spared_rank k shown = elim shown.shown [
      | inl few ↦
          let same : filter (reached_before firsts all) list ≡ filter (λ m. nat_lt (get_or firsts m 0) all) list =
          filter_same (reached_before firsts all) (λ m. nat_lt (get_or firsts m 0) all) list
          (λ m i. let l = member_low m i in ap (λ (x : ℕ). nat_lt x all) (same_item firsts m all (omega (arith, l, some)))) in
          let count = ap (λ (xs : List ℕ). length xs) same in
          let one = few.0 in
          let is = few.1 in
          let fall =
          few_settled g touches grouped.branches a paired.longest (reached_before firsts all) least list (members-distinct keys c) (members-live g touches s c grouped.stationed station) (omega (arith, count, one, is)) in
          omega (arith, fall, count, is)
      | inr alone ↦
          let is = alone.1 in
          let down = r.down alone.0 in
          let before = starts_rise keys c s.buses.count (omega (arith, station)) in
          let size = r.up.1.all in
          let size_down = down.2.all in
          let size_back = down.3.same in
          let fall =
          own_settled g touches grouped.branches a paired.longest list (members-distinct keys c) (reached_before firsts (start c)) (reached_before lasts (all - start (suc c)))
          (r.up.2.fronts (start c) (omega (arith, before, size))).closed (down.4.fronts (all - start (suc c)) (omega (arith, size_down, size_back))).closed
          (λ m source other_one.
          elim (cases_lt (get_or keys m 0) c) [
            | inl below ↦ or_left (reached_before firsts (start c) m) (reached_before lasts (all - start (suc c)) m) (up_holds c m (omega (arith, station)) source below)
            | inr above ↦ elim (cases_eq c (get_or keys m 0)) [
              | inl e ↦ absurd (other_one (subst (λ (x : ℕ). In m (items_with keys x)) (sym e) (member-at keys m (low m source))))
              | inr n ↦ or_right (reached_before firsts (start c) m) (reached_before lasts (all - start (suc c)) m) (down_holds alone.0 c m source (omega (arith, above, n)))
            ]
          ])
          (λ m i paired.
          let at = in_place list m i in
          let own = alone.2 at.0 at.1 (λ n. clash (ap lacks (sym (ap (branch_at a) at.2) ∙ n)) paired) in
          let far : (start c ≤ get_or firsts m 0) × (all - start (suc c) ≤ get_or lasts m 0) =
          subst (λ x. (start c ≤ get_or firsts x 0) × (all - start (suc c) ≤ get_or lasts x 0)) at.2 own in
          let l = member_low m i in
          neither (reached_before firsts (start c) m) (reached_before lasts (all - start (suc c)) m) (beyond firsts (start c) m (omega (arith, l, some)) far.0)
          (beyond lasts (all - start (suc c)) m (omega (arith, l, r.last_meters)) far.1)) in
          omega (arith, fall, is)
    ]
      where
        neither : (p q : Bool) → p ≡ false → q ≡ false → (p || q) ≡ false
        neither p q e f = rw (e, f) refl

-- what costs nothing is of the station
pub spared_few : (s : Stations) (a : Assignment) (firsts lasts : List ℕ) (both : Bool) (c k : ℕ) → CostNothing s a firsts lasts both c k → k ≤ length (items_with s.keys c)
spared_few s a firsts lasts both c k h =
    elim h.shown [
      | inl few ↦ let split = length-split (λ m. nat_lt (get_or firsts m 0) (group_start s.keys s.buses.count)) (items_with s.keys c) in let is = few.1 in omega (arith, split, is)
      | inr alone ↦ let split = length-split (is_bare a) (items_with s.keys c) in let is = alone.1 in omega (arith, split, is)
    ]

-- where no live meter lacks a pair, none is reached from any place
pub reached_none : {y : Grouping} {a : Assignment} {order firsts lasts : List ℕ} → IsByStation y.stations.now.keys y.stations.now.buses.count order → length firsts ≡ length y.meters.now.touches
    → length lasts ≡ length firsts → ((m : ℕ) → m < length firsts → get_or firsts m 0 ≡ length order) → ((m : ℕ) → IsSource y.graph.now.ends y.meters.now.touches All a m → ⊥)
    → AreReached y a firsts lasts false
reached_none {order = order} {firsts = firsts} by some same places none = record {
  up = (
    order,
    by,
    record {
      meters = some;
      low = λ m l. let e = places m (omega (arith, l, some)) in omega (arith, e);
      fronts = λ k l. record {
        closed = record { live = λ m t. clash t (out k l m); joined = λ m e t i. clash t (out k l m) };
        holds = λ m listed source. absurd (none m source);
        least = λ T closed holds m t. clash t (out k l m);
      };
    },
  );
  down = λ t. clash t refl;
  last_meters = same ∙ some;
}
  where
    out : (k : ℕ) → k ≤ length order → (m : ℕ) → reached_before firsts k m ≡ false
    out k l m = elim (cases_lt m (length firsts)) [
      | inl low ↦ let e = places m low in let same = same_item firsts m k low in le-ltb (get_or firsts m k) k (omega (arith, e, same, l))
      | inr high ↦ let e = behind firsts m k high in le-ltb (get_or firsts m k) k (omega (arith, e))
    ]
