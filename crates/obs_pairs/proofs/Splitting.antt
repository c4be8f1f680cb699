-- The classes of meters without a pair are settled by the first and the last of them that reach a meter.
use Rattle.std.proofs.Common.{◌≡◌, ℕ, suc, ◌+◌, ◌-◌, ◌<◌, ◌≤◌, Bool, true, false, not, ◌&&◌, ◌||◌, eqb, None, List, length, get_or, take, refl, sym, ap, ◌∙◌, subst, inl, inr, arith}
use Rattle.std.specs.Prelude.{nat_lt}
use Rattle.std.proofs.lemmas.Bool.{and_from, and_parts, cases_Bool, cases_lt, eq-eqb, eqb-true, le-ltb, lt-ltb, ltb-true, ne_eqb, not-true, or_left, or_right}
use Rattle.std.proofs.lemmas.List.{get_or-take, get_or_default, length-take-le}
use Rattle.obs_graph.specs.Graph.{Graph}
use Rattle.obs_graph.specs.Positions.{AreBranches}
use Rattle.obs_matroid.specs.inner.Closed.{every}
use Rattle.obs_matroid.proofs.Comparing.{cases_Option}
use Rattle.obs_matroid.proofs.Contained.{Contains-from_In, In-get_or}
use Rattle.obs_matroid.proofs.Lists.{clash}
use Rattle.obs_matroid.specs.Lists.{In}
use Rattle.obs_meter.specs.declared.Touch.{Touch}
use Rattle.obs_meter.specs.Lost.{is_listed, losing}
use Rattle.obs_meter.specs.Touches.{is_live}
use Rattle.obs_meter.proofs.Live.{live_low}
use Rattle.obs_meter.proofs.Touched.{In-from_any, any-from_In}
use Rattle.obs_assign.specs.Assignment.{Assignment}
use Rattle.obs_assign.specs.inner.Assignment.{branch_at, has_flag}
use Rattle.obs_exchange.specs.Critical.{critical_at}
use Rattle.obs_exchange.specs.inner.Longest.{IsLongest}
use Rattle.obs_exchange.specs.inner.Ordered.{AreReachedInOrder, IsLeastClosedFrom, IsOrder, reached_before}
use Rattle.obs_exchange.proofs.Placing.{front-left}
use Rattle.obs_pairs.specs.Partners.{class_at}
use Rattle.obs_pairs.specs.inner.Settled.{AreSettled, redundant_at}
use Rattle.obs_pairs.specs.inner.Split.{AreInOrder, is_bare, is_same, number_at}
use Rattle.obs_pairs.proofs.Avoided.{IsAvoided, apart_lost, avoided_all, avoided_both, avoided_front, avoided_less, class_of_avoided, longest_left}
use Rattle.obs_pairs.proofs.Unreached.{least_redundant}

-- the number at a place is one of a meter
pub number_low : (falls : Bool) (n k : ℕ) → k < n → number_at falls n k < n
number_low true n k l = omega (arith, l)
number_low false n k l = l

-- an order of all meters is one that a search may take
pub IsOrder-numbers : (falls : Bool) (n : ℕ) (order : List ℕ) → AreInOrder falls n order → IsOrder n order
IsOrder-numbers falls n order o = record {
  few = let c = o.count in omega (arith, c);
  low = λ k l. let c = o.count in let low : k < n = omega (arith, c, l) in let e = o.numbers k low in let b = number_low falls n k low in omega (arith, e, b);
}

-- the meters of a front
module _ (falls : Bool) (n : ℕ) (order : List ℕ) (o : AreInOrder falls n order) (i : ℕ) (few : i ≤ n) where
  front_len : length (take i order) ≡ i
  front_len = length-take-le i order (let c = o.count in omega (arith, c, few))

  front_at : (k : ℕ) → k < i → get_or (take i order) k 0 ≡ number_at falls n k
  front_at k l = get_or-take i order k 0 l ∙ o.numbers k (omega (arith, l, few))

  pub in_front : (k : ℕ) → k < i → is_listed (take i order) (number_at falls n k) ≡ true
  in_front k l =
      any-from_In (take i order) (number_at falls n k)
      (subst (λ (x : ℕ). In x (take i order)) (front_at k l) (In-get_or (take i order) k 0 (let e = front_len in omega (arith, e, l))))

  pub from_front : (m : ℕ) → is_listed (take i order) m ≡ true → (k : ℕ) × (k < i) × (number_at falls n k ≡ m)
  from_front m t =
      let c = Contains-from_In m (take i order) (In-from_any (take i order) m t) in
      let e = front_len in
      let b = c.1 in
      let l : c.0 < i = omega (arith, e, b) in
      (c.0, l, sym (front_at c.0 l) ∙ (get_or_default (take i order) c.0 0 m c.1 ∙ c.2))

-- where the numbers rise, and where they fall
pub in_rising : (n : ℕ) (order : List ℕ) → AreInOrder false n order → (i m : ℕ) → i ≤ n → m < i → is_listed (take i order) m ≡ true
in_rising n order o i m few l = in_front false n order o i few m l

pub from_rising : (n : ℕ) (order : List ℕ) → AreInOrder false n order → (i m : ℕ) → i ≤ n → is_listed (take i order) m ≡ true → m < i
from_rising n order o i m few t = let w = from_front false n order o i few m t in let l = w.1 in let e = w.2 in omega (arith, l, e)

pub in_falling : (n : ℕ) (order : List ℕ) → AreInOrder true n order → (i m : ℕ) → i ≤ n → m < n → n ≤ m + i → is_listed (take i order) m ≡ true
in_falling n order o i m few low l =
    let same : n - suc (n - suc m) ≡ m = omega (arith, low) in
    subst (λ (x : ℕ). is_listed (take i order) x ≡ true) same (in_front true n order o i few (n - suc m) (omega (arith, low, l)))

pub from_falling : (n : ℕ) (order : List ℕ) → AreInOrder true n order → (i m : ℕ) → i ≤ n → is_listed (take i order) m ≡ true → n ≤ m + i
from_falling n order o i m few t = let w = from_front true n order o i few m t in let l = w.1 in let e = w.2 in omega (arith, few, l, e)

-- the place at which a meter is reached first where the numbers rise, and that where they fall: where both are of one meter, it
-- alone reaches this one; and a meter without a pair of its class is at both
pub record IsReachedBetween (g : Graph) (touches : List Touch) (a : Assignment) (k first last : ℕ) : Type 0 where
  pub alone : first + last + 1 ≡ length touches → IsAvoided g touches a (λ v. not (eqb v first)) k
  pub own : (u : ℕ) → is_live g.ends touches u ≡ true → branch_at a u ≡ None → class_at g.vertices g.ends touches k ≡ class_at g.vertices g.ends touches u
      → (first ≡ u) × (u + last + 1 ≡ length touches)

module _ (g : Graph) (touches : List Touch) (a : Assignment) (ok : AreBranches g.vertices g.ends) (h : IsLongest g touches a) where
  -- the sources that a test doesn't ask for
  unasked : (ℕ → Bool) → ℕ → Bool
  unasked from m = is_bare (branch_at a m) && not (from m)

  unasked_bare : (from : ℕ → Bool) (m : ℕ) → unasked from m ≡ true → branch_at a m ≡ None
  unfolding unasked
  unasked_bare from m t = elim (cases_Option (branch_at a m)) [
    | inl n ↦ n
    | inr s ↦ clash (and_parts (is_bare (branch_at a m)) (not (from m)) t).0 (ap is_bare s.1)
  ]

  unasked_is : (from : ℕ → Bool) (m : ℕ) → branch_at a m ≡ None → unasked from m ≡ not (from m)
  unfolding unasked
  unasked_is from m bare = ap (λ b. is_bare b && not (from m)) bare

  -- what sources reach that a test asks for has another class than one that it doesn't ask for
  reached_apart : (from S : ℕ → Bool) → IsLeastClosedFrom g.ends touches from a S → (k u : ℕ) → S k ≡ true → is_live g.ends touches u ≡ true → branch_at a u ≡ None → from u ≡ false
      → class_at g.vertices g.ends touches k ≡ class_at g.vertices g.ends touches u → ⊥
  reached_apart from S c k u t live bare out e =
      let lost = unasked from in
      let least = front-left lost g touches a from S (unasked_bare from) (λ m f source. unasked_is from m source.1 ∙ ap not f)
      (λ m source f. asked (from m) (sym (unasked_is from m source.1) ∙ f)) c in
      apart_lost g touches a ok h u live bare lost k (unasked_is from u bare ∙ ap not out)
      (sym (least_redundant g (losing lost touches) a S ok (longest_left g touches a ok h lost (unasked_bare from)) least k) ∙ t) e
    where
      asked : (b : Bool) → not b ≡ false → b ≡ true
      asked true f = refl
      asked false f = absurd (cc f)

  module _ (up down firsts lasts : List ℕ) (o : AreInOrder false (length touches) up) (q : AreInOrder true (length touches) down)
      (rising : AreReachedInOrder g.ends touches a up firsts) (falling : AreReachedInOrder g.ends touches a down lasts)
      (k : ℕ) (red : redundant_at g.vertices g.ends touches k ≡ true) where
    low : k < length touches
    low = live_low g.ends touches k (and_parts (is_live g.ends touches k) (not (critical_at g.vertices g.ends touches k)) red).0

    abbrev first : ℕ
    first = get_or firsts k 0

    abbrev last : ℕ
    last = get_or lasts k 0

    -- what isn't reached before a place
    before_first : (i : ℕ) → i ≤ length touches → i ≤ first → IsAvoided g touches a (λ m. nat_lt m i) k
    before_first i few l =
        let c = o.count in
        let d = get_or_default firsts k i 0 (let e = rising.meters in omega (arith, e, low)) in
        avoided_less g touches a ok (is_listed (take i up)) (λ m. nat_lt m i) k (λ m live bare t. in_rising (length touches) up o i m few (ltb-true m i t))
        (avoided_front g touches a ok h (is_listed (take i up)) (reached_before firsts i) (rising.fronts i (omega (arith, c, few))) k (le-ltb (get_or firsts k i) i (omega (arith, d, l))))

    before_last : (i : ℕ) → i ≤ length touches → i ≤ last → IsAvoided g touches a (λ m. not (nat_lt (m + i) (length touches))) k
    before_last i few l =
        let c = q.count in
        let d = get_or_default lasts k i 0 (let e = falling.meters in omega (arith, e, low)) in
        avoided_less g touches a ok (is_listed (take i down)) (λ m. not (nat_lt (m + i) (length touches))) k
        (λ m live bare t. in_falling (length touches) down q i m few (live_low g.ends touches m live) (not_below (m + i) (length touches) t))
        (avoided_front g touches a ok h (is_listed (take i down)) (reached_before lasts i) (falling.fronts i (omega (arith, c, few))) k (le-ltb (get_or lasts k i) i (omega (arith, d, l))))
      where
        not_below : (x y : ℕ) → not (nat_lt x y) ≡ true → y ≤ x
        not_below x y t = elim (cases_lt x y) [ inl l ↦ clash (lt-ltb x y l) (not-true (nat_lt x y) t) | inr l ↦ l ]

    -- one of the sources reaches it
    covered : (i j : ℕ) → i ≤ length touches → j ≤ length touches → length touches ≤ i + j → i ≤ first → j ≤ last → ⊥
    covered i j few less all l m = avoided_all g touches a ok h k red
        (avoided_less g touches a ok (λ v. nat_lt v i || not (nat_lt (v + j) (length touches))) every k
        (λ v live bare t. elim (cases_lt v i) [
          | inl b ↦ or_left (nat_lt v i) (not (nat_lt (v + j) (length touches))) (lt-ltb v i b)
          | inr b ↦ or_right (nat_lt v i) (not (nat_lt (v + j) (length touches))) (ap not (le-ltb (v + j) (length touches) (omega (arith, b, all))))
        ])
        (avoided_both g touches a ok (λ v. nat_lt v i) (λ v. not (nat_lt (v + j) (length touches))) k (before_first i few l) (before_last j less m)))

    alone : first + last + 1 ≡ length touches → IsAvoided g touches a (λ v. not (eqb v first)) k
    alone e = avoided_less g touches a ok (λ v. nat_lt v first || not (nat_lt (v + last) (length touches))) (λ v. not (eqb v first)) k
        (λ v live bare t. elim (cases_lt v first) [
          | inl b ↦ or_left (nat_lt v first) (not (nat_lt (v + last) (length touches))) (lt-ltb v first b)
          | inr b ↦
              let n : (v ≡ first) → ⊥ = λ s. clash (eq-eqb v first s) (not-true (eqb v first) t) in
              or_right (nat_lt v first) (not (nat_lt (v + last) (length touches))) (ap not (le-ltb (v + last) (length touches) (omega (arith, b, n, e))))
        ])
        (avoided_both g touches a ok (λ v. nat_lt v first) (λ v. not (nat_lt (v + last) (length touches))) k (before_first first (omega (arith, e)) (omega arith))
        (before_last last (omega (arith, e)) (omega arith)))

    module _ (u : ℕ) (live : is_live g.ends touches u ≡ true) (bare : branch_at a u ≡ None) (e : class_at g.vertices g.ends touches k ≡ class_at g.vertices g.ends touches u) where
      below : u < length touches
      below = live_low g.ends touches u live

      -- no other source reaches it
      not_before : u ≤ first
      not_before = elim (cases_lt first u) [
        | inr l ↦ l
        | inl l ↦
            let c = o.count in
            let b = below in
            let d = get_or_default firsts k u 0 (let s = rising.meters in omega (arith, s, low)) in
            absurd (reached_apart (is_listed (take u up)) (reached_before firsts u) (rising.fronts u (omega (arith, c, b))) k u (lt-ltb (get_or firsts k u) u (omega (arith, d, l))) live bare
            (unlisted (is_listed (take u up) u) (λ t. let w = from_rising (length touches) up o u u (omega (arith, b)) t in omega (arith, w))) e)
      ]
        where
          unlisted : (b : Bool) → ((b ≡ true) → ⊥) → b ≡ false
          unlisted true n = absurd (n refl)
          unlisted false n = refl

      not_behind : length touches ≤ u + last + 1
      not_behind = elim (cases_lt (u + last + 1) (length touches)) [
        | inr l ↦ l
        | inl l ↦
            let c = q.count in
            let b = below in
            let i : ℕ = length touches - suc u in
            let d = get_or_default lasts k i 0 (let s = falling.meters in omega (arith, s, low)) in
            absurd (reached_apart (is_listed (take i down)) (reached_before lasts i) (falling.fronts i (omega (arith, c, b))) k u (lt-ltb (get_or lasts k i) i (omega (arith, d, l))) live bare
            (unlisted (is_listed (take i down) u) (λ t. let w = from_falling (length touches) down q i u (omega arith) t in omega (arith, w, b))) e)
      ]
        where
          unlisted : (b : Bool) → ((b ≡ true) → ⊥) → b ≡ false
          unlisted true n = absurd (n refl)
          unlisted false n = refl

      own : (first ≡ u) × (u + last + 1 ≡ length touches)
      own =
          let b = below in
          let p = not_before in
          let r = not_behind in
          let x : first ≤ u = elim (cases_lt u first) [ inr l ↦ l | inl l ↦ absurd (covered (suc u) (length touches - suc u) (omega (arith, b)) (omega arith) (omega (arith, b)) (omega (arith, l)) (omega (arith, r))) ] in
          let y : u + last < length touches = elim (cases_lt (u + last) (length touches)) [
            | inl l ↦ l
            | inr l ↦ absurd (covered u (length touches - u) (omega (arith, b)) (omega arith) (omega (arith, b)) p (omega (arith, l)))
          ] in
          (omega (arith, p, x), omega (arith, r, y))

    pub Between-orders : IsReachedBetween g touches a k first last
    Between-orders = record { alone = alone; own = λ u live bare e. own u live bare e }

  -- what two searches say of the open meters
  module _ (flags after : List Bool) (before list lasts : List ℕ) (b : AreSettled g.vertices g.ends touches flags before 0)
      (places : length list ≡ length before) (between : (k : ℕ) → has_flag flags k ≡ true → IsReachedBetween g touches a k (get_or list k 0) (get_or lasts k 0))
      (rest : (k : ℕ) → has_flag flags k ≡ false → get_or list k 0 ≡ get_or before k 0) (len : length after ≡ length flags)
      (opens : (k : ℕ) → has_flag after k ≡ (has_flag flags k && not (is_same (length list) (get_or list k 0) (get_or lasts k 0)))) where
    abbrev is_one : ℕ → Bool
    is_one k = is_same (length list) (get_or list k 0) (get_or lasts k 0)

    count : length list ≡ length touches
    count = places ∙ b.places

    -- a meter that is closed now is reached from one source alone
    is_alone : (k : ℕ) → has_flag flags k ≡ true → has_flag after k ≡ false → get_or list k 0 + get_or lasts k 0 + 1 ≡ length touches
    is_alone k o f = elim (cases_Bool (is_one k)) [
      | inl t ↦ eqb-true (get_or list k 0 + get_or lasts k 0 + 1) (length list) t ∙ count
      | inr n ↦ clash (opens k ∙ and_from (has_flag flags k) (not (is_one k)) o (ap not n)) f
    ]

    source : (k : ℕ) → has_flag flags k ≡ true → get_or list k 0 + get_or lasts k 0 + 1 ≡ length touches
        → (is_live g.ends touches (get_or list k 0) ≡ true) × (branch_at a (get_or list k 0) ≡ None)
    source k t l =
        let c = get_or list k 0 in
        let none_of = λ (out : (v : ℕ) → is_live g.ends touches v ≡ true → branch_at a v ≡ None → v ≡ c → ⊥). avoided_all g touches a ok h k (b.opened k t)
        (avoided_less g touches a ok (λ v. not (eqb v c)) every k (λ v live bare y. ap not (ne_eqb v c (out v live bare))) ((between k t).alone l)) in
        elim (cases_Bool (is_live g.ends touches c)) [
          | inr f ↦ absurd (none_of (λ v live bare e. clash live (ap (is_live g.ends touches) e ∙ f)))
          | inl live ↦ elim (cases_Option (branch_at a c)) [
            | inl bare ↦ (live, bare)
            | inr x ↦ absurd (none_of (λ v _ bare e. clash (ap is_bare bare) (ap is_bare (ap (branch_at a) e ∙ x.1))))
          ]
        ]

    source_class : (k : ℕ) → has_flag flags k ≡ true → get_or list k 0 + get_or lasts k 0 + 1 ≡ length touches
        → class_at g.vertices g.ends touches (get_or list k 0) ≡ class_at g.vertices g.ends touches k
    source_class k t l = let u = source k t l in sym (class_of_avoided g touches a ok h (get_or list k 0) u.0 u.1 k (b.opened k t) ((between k t).alone l))

    -- a meter of the class of one that is settled is reached from the same one
    source_same : (j k : ℕ) → has_flag flags j ≡ true → has_flag flags k ≡ true → get_or list k 0 + get_or lasts k 0 + 1 ≡ length touches
        → class_at g.vertices g.ends touches j ≡ class_at g.vertices g.ends touches k → (get_or list j 0 ≡ get_or list k 0) × (get_or list k 0 + get_or lasts j 0 + 1 ≡ length touches)
    source_same j k t y l e = let u = source k y l in (between j t).own (get_or list k 0) u.0 u.1 (e ∙ sym (source_class k y l))

    both : (k : ℕ) → has_flag after k ≡ true → (has_flag flags k ≡ true) × (not (is_one k) ≡ true)
    both k t = and_parts (has_flag flags k) (not (is_one k)) (sym (opens k) ∙ t)

    pub Settled-split : AreSettled g.vertices g.ends touches after list 0
    Settled-split = record {
      flags = len ∙ b.flags;
      places = count;
      opened = λ k t. b.opened k (both k t).0;
      whole = λ j k t e.
          let u = both j t in
          let was = b.whole j k u.0 e in
          elim (cases_Bool (has_flag after k)) [
            | inl y ↦ y
            | inr f ↦
                let s = source_same j k u.0 was (is_alone k was f) (sym e) in
                let x = s.0 in
                let y = s.1 in
                let z = count in
                clash (eq-eqb (get_or list j 0 + get_or lasts j 0 + 1) (length list) (omega (arith, x, y, z))) (not-true (is_one j) u.1)
          ];
      passed = λ k l. absurd (omega (arith, l));
      keyed = λ k l f. elim (cases_Bool (has_flag flags k)) [
        | inr o ↦ let e = rest k o in let u = b.keyed k l o in (omega (arith, e, u.0), ap (class_at g.vertices g.ends touches) e ∙ u.1)
        | inl o ↦ let m = is_alone k o f in (omega (arith, m), source_class k o m)
      ];
      same = λ j k l m f n e. elim (cases_Bool (has_flag flags j)) [
        | inr o ↦ elim (cases_Bool (has_flag flags k)) [
          | inr q ↦ rest j o ∙ (b.same j k l m o q e ∙ sym (rest k q))
          | inl q ↦ clash (b.whole k j q e) o
        ]
        | inl o ↦ elim (cases_Bool (has_flag flags k)) [
          | inr q ↦ clash (b.whole j k o (sym e)) q
          | inl q ↦ (source_same j k o q (is_alone k q n) e).0
        ]
      ];
    }
