-- The chosen candidates are listed, and what they cost is added up.
use Rattle.std.proofs.Common.{◌≡◌, ℕ, ◌+◌, ◌-◌, ◌*◌, ◌<◌, ◌≤◌, Bool, true, false, List, ◌++◌, length, get_or, set, take, sym, ap, ◌∙◌, arith, All, inl, inr, subst, replicate}
use Rattle.std.specs.Prelude.{filter}
use Rattle.std.specs.List.{range_with_len}
use Rattle.std.proofs.lemmas.Bool.{and_parts, cases_lt, le-ltb, lt-ltb}
use Rattle.std.proofs.Math.Seq.{take-append_seam}
use Rattle.std.proofs.lemmas.List.Sums.{sum_by-cons}
use Rattle.std.proofs.lemmas.List.{get_or-replicate, get_or_past, length-replicate}
use Rattle.obs_graph.specs.Graph.{Graph}
use Rattle.obs_graph.specs.Positions.{AreBranches}
use Rattle.obs_matroid.specs.Placement.{is_raising}
use Rattle.obs_matroid.specs.Values.{rho_of}
use Rattle.obs_matroid.proofs.Computed.{rho_of_is}
use Rattle.obs_matroid.proofs.Critical.{rho_same}
use Rattle.obs_matroid.proofs.Lists.{In-filter, clash, filter_same}
use Rattle.obs_matroid.proofs.Ranges.{below_from, later, later_listed, later_over, listed_more, range_in}
use Rattle.obs_meter.specs.declared.Touch.{Touch}
use Rattle.obs_meter.specs.Assignments.{rho_at}
use Rattle.obs_meter.specs.Spanned.{graph_matroid}
use Rattle.obs_meter.specs.Touches.{is_live, live_items, touch_at}
use Rattle.obs_meter.proofs.Assigned.{live_items-distinct}
use Rattle.obs_meter.proofs.Instance.{IsMatroid-graph}
use Rattle.obs_meter.proofs.Live.{live_low}
use Rattle.obs_meter.specs.Costs.{price_of}
use Rattle.obs_assign.specs.Assignment.{Assignment}
use Rattle.obs_assign.specs.inner.Assignment.{has_flag, pairs}
use Rattle.obs_assign.proofs.Keeping.{flags_clear}
use Rattle.obs_placement.specs.Answer.{chosen_of, cost_of, earlier_items, is_chosen}
use Rattle.obs_placement.specs.inner.Choosing.{HavePairsOnly}
use Rattle.obs_placement.specs.inner.Holding.{thawed}
use Rattle.obs_placement.specs.inner.Limits.{most_price}
use Rattle.obs_placement.specs.inner.Taking.{AreTaken, IsStanding, StandsWithKnown, is_known, is_raised, never, since_at}
use Rattle.obs_placement.proofs.Taken.{IsTaken-rho}

module _ (passes : ℕ → Bool) (prices : List ℕ) where
  -- of the candidates before i those that pass are listed, with their cost
  pub record AreListed (list : List ℕ) (count cost i : ℕ) : Type 0 where
    pub bound : count ≤ i
    pub lists : take count list ++ filter passes (later (length prices) i) ≡ filter passes (range_with_len 0 (length prices))
    pub costs : cost + cost_of prices (filter passes (later (length prices) i)) ≡ cost_of prices (filter passes (range_with_len 0 (length prices)))
    pub cheap : cost ≤ i * most_price

  module _ (list : List ℕ) (count cost i : ℕ) (h : AreListed list count cost i) where
    pub AreListed-over : i < length prices → passes i ≡ false → AreListed list count cost (i + 1)
    AreListed-over low f =
        let rest = later_over passes (length prices) i low f in
        record {
          bound = let b = h.bound in omega arith;
          lists = rw (← rest) h.lists;
          costs = rw (← rest) h.costs;
          cheap = let b = h.cheap in omega (arith, b);
        }

    pub AreListed-more : i < length prices → length prices ≤ length list → passes i ≡ true → get_or prices i 0 ≤ most_price
        → AreListed (set list count i) (count + 1) (cost + get_or prices i 0) (i + 1)
    AreListed-more low long t dear =
        let b = h.bound in
        let rest = later_listed passes (length prices) i low t in
        let k : cost_of prices (filter passes (later (length prices) i)) ≡ get_or prices i 0 + cost_of prices (filter passes (later (length prices) (i + 1))) = ap (cost_of prices) rest ∙ sum_by-cons (λ k. get_or prices k 0) i (filter passes (later (length prices) (i + 1))) in
        let s = h.costs in
        let m = h.cheap in
        record {
          bound = omega arith;
          lists = listed_more list count i (filter passes (later (length prices) (i + 1))) (filter passes (range_with_len 0 (length prices))) (omega arith) (ap (λ xs. take count list ++ xs) (sym rest) ∙ h.lists);
          costs = omega (arith, k, s);
          cheap = omega (arith, m, dear);
        }

-- each price is below the one that says that an item isn't known
pub cheap_price : (meters : ℕ) (prices : List ℕ) → All (λ p. p ≤ most_price) prices → (m : ℕ) → price_of meters prices m < never
cheap_price meters prices h m = elim (cases_lt m meters) [
  | inl l ↦ rw (lt-ltb m meters l) (omega arith)
  | inr l ↦ rw (le-ltb m meters l) (elim (cases_lt (m - meters) (length prices)) [
    | inl u ↦ let b = h (m - meters) 0 u in omega (arith, b)
    | inr u ↦ let e = get_or_past prices (m - meters) 0 u in omega (arith, e)
  ])
]

-- the front of a list that was made of two
pub front : {X : Type 0} (n : ℕ) (xs ys : List X) → length xs ≡ n → take n (xs ++ ys) ≡ xs
front n xs ys e = subst (λ (k : ℕ). take k (xs ++ ys) ≡ xs) e (take-append_seam xs ys)

-- the pairs stand on where all are thawed
pub thawed_standing : (g : Graph) (touches : List Touch) (a : Assignment) (since : List ℕ) → StandsWithKnown g touches a since → IsStanding g touches (thawed a)
thawed_standing g touches a since s =
    let n = length a.frozen in
    let w = s.whole in
    record {
      stands = record { forest = s.stands.forest; meters = s.stands.meters; touched = s.stands.touched };
      whole = record {
        paired = record { flags = length-replicate n false ∙ w.paired.flags; holds = w.paired.holds; frozen_have = λ m y. clash y (flags_clear n m) };
        meters = w.meters;
        vertices = w.vertices;
        positions = w.positions;
      };
      thawed = λ m. flags_clear n m;
    }

pub replicated : (n m : ℕ) → since_at (replicate n never) m ≡ never
replicated n m = elim (cases_lt m n) [
  | inl l ↦ get_or-replicate n m never never l
  | inr l ↦ get_or_past (replicate n never) m never (let k = length-replicate n never in omega (arith, k, l))
]

module _ (g : Graph) (touches : List Touch) (meters : ℕ) (prices : List ℕ) (a : Assignment) (since : List ℕ) (raised : List Bool) (ok : AreBranches g.vertices g.ends)
    (t : AreTaken g touches (price_of meters prices) a since raised) (count : length touches ≡ meters + length prices) where
  pub chosen_list : filter (is_raised raised meters) (range_with_len 0 (length prices)) ≡ chosen_of g.vertices g.ends touches meters prices
  chosen_list = filter_same (is_raised raised meters) (λ k. is_chosen g.vertices g.ends touches (price_of meters prices) (meters + k)) (range_with_len 0 (length prices))
      (λ k i. t.chosen (meters + k) (let l = below_from (length prices) k i in omega (arith, l, count)))

  pub only_chosen : HavePairsOnly meters (chosen_of g.vertices g.ends touches meters prices) a
  only_chosen m i = elim (cases_lt m meters) [
    | inl l ↦ inl l
    | inr l ↦
        let y = t.held m i in
        let low = live_low g.ends touches m (and_parts (is_live g.ends touches m) (is_raising (graph_matroid g.vertices g.ends) (touch_at g.ends touches) (earlier_items g.ends touches (price_of meters prices) m) m) y).0 in
        let e : meters + (m - meters) ≡ m = omega (arith, l) in
        inr (In-filter (λ k. is_chosen g.vertices g.ends touches (price_of meters prices) (meters + k)) (m - meters) (range_with_len 0 (length prices))
        (range_in 0 (length prices) (m - meters) (omega arith) (omega (arith, l, low, count))) (subst (λ (x : ℕ). is_chosen g.vertices g.ends touches (price_of meters prices) x ≡ true) (sym e) y))
  ]

  pub rank_of_all : length (pairs a) ≡ rho_at g.vertices g.ends touches (live_items g.ends touches)
  rank_of_all =
      let mat = graph_matroid g.vertices g.ends in
      let laws = IsMatroid-graph g.vertices g.ends ok in
      let M = live_items g.ends touches in
      rho_same mat (touch_at g.ends touches) M (length (pairs a)) (rho_of mat (touch_at g.ends touches) M)
      (IsTaken-rho mat laws (touch_at g.ends touches) M (pairs a) (is_known since) t.taken) (rho_of_is mat laws (touch_at g.ends touches) M (live_items-distinct g.ends touches))

pub unset_at : (n : ℕ) (xs : List Bool) → xs ≡ replicate n false → (m : ℕ) → has_flag xs m ≡ false
unset_at n xs e m = rw e (flags_clear n m)
