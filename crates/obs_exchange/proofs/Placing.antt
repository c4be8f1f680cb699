-- Searches from one meter after another.
use Rattle.std.proofs.Common.{◌≡◌, ◌⊎◌, ℕ, suc, ◌+◌, ◌-◌, ◌<◌, ◌≤◌, Bool, true, false, not, cond, eqb, ◌&&◌, ◌||◌, Option, Some, None, List, [], length, get_or, set, take, drop, refl, sym, ap, ◌∙◌, subst, inl, inr, arith}
use Rattle.std.specs.Prelude.{MatchOption, nat_lt}
use Rattle.std.proofs.lemmas.Bool.{and_from, and_parts, cases_Bool, cases_eq, cases_lt, eq-eqb, eqb-true, le-ltb, lt-ltb, ne_eqb, not-true, or_cases, or_left, or_right}
use Rattle.std.proofs.lemmas.List.{get_or-drop, get_or-set_other, get_or-set_same, get_or_default, get_or_past, length-drop, length-set}
use Rattle.std.proofs.lemmas.List.Folds.{list_any_more}
use Rattle.obs_matroid.specs.Lists.{In}
use Rattle.obs_matroid.specs.Assignments.{IsAssignment, Pair, branches}
use Rattle.obs_matroid.specs.inner.Assignments.{part}
use Rattle.obs_matroid.proofs.Contained.{Contains-from_In, In-get_or}
use Rattle.obs_matroid.proofs.Lists.{clash, filter_same}
use Rattle.obs_matroid.proofs.Queue.{queue_grows}
use Rattle.obs_matroid.proofs.Slots.{slot_from}
use Rattle.obs_graph.specs.Graph.{Graph}
use Rattle.obs_meter.specs.declared.Touch.{Touch}
use Rattle.obs_meter.specs.Lost.{is_listed, losing}
use Rattle.obs_meter.specs.Touches.{every_item, is_live}
use Rattle.obs_meter.proofs.Assigned.{every-to_live, from_matroid}
use Rattle.obs_meter.proofs.Lost.{live-losing, touch-left, touch-lost}
use Rattle.obs_meter.proofs.Touched.{In-from_any, any-from_In}
use Rattle.obs_assign.specs.declared.Move.{Move}
use Rattle.obs_assign.specs.Assignment.{Assignment}
use Rattle.obs_assign.specs.inner.Assignment.{branch_at, has_flag, is_frozen, pairs}
use Rattle.obs_assign.specs.inner.Pins.{joins}
use Rattle.obs_assign.proofs.Slotted.{none_some}
use Rattle.obs_exchange.specs.declared.progress.Progress.{Progress}
use Rattle.obs_exchange.specs.declared.Sources.{Sources}
use Rattle.obs_exchange.specs.declared.Sources.TheVariants.{All}
use Rattle.obs_exchange.specs.inner.Closed.{IsClosedAt, IsLeastClosedAt, IsSource}
use Rattle.obs_exchange.specs.inner.Longest.{IsLongest}
use Rattle.obs_exchange.specs.inner.Ordered.{AreReachedInOrder, HoldsTestedAt, IsLeastClosedFrom, IsPlacing, reached_before}
use Rattle.obs_exchange.specs.inner.Searching.{IsDone, IsEnd, IsResting, IsSearching, place_of}
use Rattle.obs_exchange.specs.inner.Setting.{IsSourceIn, Setting, touched_in}
use Rattle.obs_exchange.specs.inner.Trail.{AreLedBut, Follows, IsRoot, Trail}
use Rattle.obs_exchange.proofs.AtGraph.{bare-from_out}
use Rattle.obs_exchange.proofs.Closing.{IsQueue-search, entry_at, least_from, marked_closed, marked_live, matroid_in, matroid_laws, own_pairs, pair_at, passes_in, queue_len, root_at, to_closed}

-- where the pairs are as many as there can be, no meter that is reached may take a free branch
pub End-never : (over : Setting) (trail : Trail) (x : Move) → IsLongest over.graph over.touches over.assignment → IsEnd over trail x → ⊥
End-never over trail x h e =
    let sound = e.searching.sound in
    let a = over.assignment in
    let grown = queue_grows (matroid_in over) (touched_in over) (every_item over.touches) (is_frozen a) (passes_in over) (pairs a) (has_flag trail.marks) (root_at trail) (pair_at trail) (place_of trail)
    (IsQueue-search over trail e.searching) (matroid_laws over sound) (own_pairs over sound) sound.whole.paired.frozen_have x.meter x.branch e.marked e.free.touched e.free.apart in
    too_long _ grown.assigns grown.longer
  where
    too_long : (B : List Pair) → IsAssignment (matroid_in over) (touched_in over) (every_item over.touches) B → length B ≡ suc (length (pairs over.assignment)) → ⊥
    too_long B b longer =
        let few = h.longest.none_longer B (every-to_live over.graph.ends over.touches B (from_matroid over.graph.vertices over.graph.ends over.touches (every_item over.touches) B b)) in
        absurd (omega (arith, few, longer))

-- so a search comes to its end
pub done_without_end : (over : Setting) (trail : Trail) (o : Option Move) → IsLongest over.graph over.touches over.assignment → MatchOption o (IsDone trail) (λ x. IsEnd over trail x) → IsDone trail
done_without_end over trail None h d = d
done_without_end over trail (Some x) h e = absurd (End-never over trail x h e)

-- what is marked at the end of a search is the least closed set of the sources that a test passes, where all pass it to which no other led
pub LeastFrom-search : (over : Setting) (trail : Trail) (from : ℕ → Bool) → IsSearching over trail → IsDone trail → ((x : ℕ) → IsRoot trail x → from x ≡ true)
    → HoldsTestedAt over.graph.ends over.touches from over.assignment (has_flag trail.marks)
    → IsLeastClosedFrom over.graph.ends over.touches from over.assignment (has_flag trail.marks)
LeastFrom-search over trail from s done roots held =
    let live : ℕ → Bool = λ m. is_live over.graph.ends over.touches m in
    let l = least_from over trail s done (λ m. from m && is_live over.graph.ends over.touches m)
    (λ x r. and_from (from x) (live x) (roots x r) (marked_live over trail s x r.marked))
    (λ m i f out. let w = and_parts (from m) (live m) f in held m w.0 (w.1, bare-from_out over.assignment m out)) in
    record {
      closed = marked_closed over trail s done l.closed;
      holds = held;
      least = λ T c h m t. l.least T (to_closed over s.sound T c)
          (λ k i f out. let w = and_parts (from k) (live k) f in h k w.0 (w.1, bare-from_out over.assignment k out)) m t;
    }

-- what came into the queue meanwhile
abbrev pub new_part : Trail → Trail → List ℕ
new_part before after = drop before.tail (take after.tail after.queue)

module _ (over : Setting) (trail next : Trail) (s : IsSearching over trail) (t : IsSearching over next) (f : Follows trail next) where
  new_entry : (m : ℕ) → In m (new_part trail next) → (k : ℕ) × (trail.tail ≤ k) × (k < next.tail) × (get_or next.queue k 0 ≡ m)
  new_entry m i =
      let c = Contains-from_In m (new_part trail next) i in
      let l = c.1 in
      let len = length-drop trail.tail (take next.tail next.queue) in
      let all = queue_len over next t in
      let low : trail.tail + c.0 < next.tail = omega (arith, l, len, all) in (
        trail.tail + c.0,
        omega arith,
        low,
        sym (entry_at over next t (trail.tail + c.0) m (omega (arith, all, low))) ∙ (sym (get_or-drop trail.tail (take next.tail next.queue) c.0 m) ∙ c.2),
      )

  -- it is marked, and wasn't before
  pub new_marked : (m : ℕ) → is_listed (new_part trail next) m ≡ true → has_flag next.marks m ≡ true
  new_marked m i =
      let e = new_entry m (In-from_any (new_part trail next) m i) in
      subst (λ (x : ℕ). has_flag next.marks x ≡ true) e.3 (t.entries e.0 e.2).0

  pub new_unmarked : (m : ℕ) → is_listed (new_part trail next) m ≡ true → has_flag trail.marks m ≡ false
  new_unmarked m i = elim (cases_Bool (has_flag trail.marks m)) [
    | inr n ↦ n
    | inl y ↦
        let e = new_entry m (In-from_any (new_part trail next) m i) in
        let p = s.placed m y in
        let q = f.tail in
        let low = p.0 in
        let high = e.1 in
        let one : place_of next m ≡ place_of trail m =
        subst (λ (x : ℕ). place_of next x ≡ place_of trail m) (f.queue (place_of trail m) p.0 ∙ p.1) (t.entries (place_of trail m) (omega (arith, low, q))).1 in
        let two : place_of next m ≡ e.0 = subst (λ (x : ℕ). place_of next x ≡ e.0) e.3 (t.entries e.0 e.2).1 in
        absurd (omega (arith, one, two, low, high))
  ]

  -- what is marked was so before, or came in meanwhile
  pub marked_or_new : (m : ℕ) → has_flag next.marks m ≡ true → (has_flag trail.marks m ≡ true) ⊎ (is_listed (new_part trail next) m ≡ true)
  marked_or_new m y =
      let p = t.placed m y in
      let low = p.0 in
      elim (cases_lt (place_of next m) trail.tail) [
        | inl l ↦ inl (subst (λ (x : ℕ). has_flag trail.marks x ≡ true) (sym (f.queue (place_of next m) l) ∙ p.1) (s.entries (place_of next m) l).0)
        | inr h ↦
            let len = length-drop trail.tail (take next.tail next.queue) in
            let all = queue_len over next t in
            let k : ℕ = place_of next m - trail.tail in
            let there : trail.tail + k ≡ place_of next m = omega (arith, h) in
            let at : get_or (new_part trail next) k 0 ≡ m =
            get_or-drop trail.tail (take next.tail next.queue) k 0
            ∙ (ap (λ (j : ℕ). get_or (take next.tail next.queue) j 0) there ∙ (entry_at over next t (place_of next m) 0 (omega (arith, all, low)) ∙ p.1)) in
            inr (any-from_In (new_part trail next) m (subst (λ (x : ℕ). In x (new_part trail next)) at (In-get_or (new_part trail next) k 0 (omega (arith, len, all, low, h)))))
      ]

-- the entries that came in are meters
pub new_low : (over : Setting) (trail next : Trail) → IsSearching over trail → IsSearching over next → Follows trail next → (m : ℕ) → is_listed (new_part trail next) m ≡ true → m < length over.touches
new_low over trail next s t f m i = t.low m (new_marked over trail next s t f m i)

-- the first i of the list have this place, and all others what they had
pub record AreWritten (list : List ℕ) (place : ℕ) (before after : List ℕ) (i : ℕ) : Type 0 where
  pub same_length : length after ≡ length before
  pub written : (m : ℕ) → get_or after m 0 ≡ cond (is_listed (take i list) m) place (get_or before m 0)

pub Written-none : (list : List ℕ) (place : ℕ) (before : List ℕ) → AreWritten list place before before 0
Written-none list place before = record { same_length = refl; written = λ m. refl }

pub Written-more : (list : List ℕ) (place : ℕ) (before after : List ℕ) (i x : ℕ) → AreWritten list place before after i → i < length list → get_or list i 0 ≡ x → x < length before
    → AreWritten list place before (set after x place) (i + 1)
Written-more list place before after i x w l at low = record {
  same_length = length-set after x place ∙ w.same_length;
  written = λ m.
      let here : cond (is_listed (take i list) m || eqb x m) place (get_or before m 0) ≡ cond (is_listed (take (i + 1) list) m) place (get_or before m 0) =
      ap (λ (b : Bool). cond b place (get_or before m 0))
      (subst (λ (y : ℕ). (is_listed (take i list) m || eqb y m) ≡ is_listed (take (i + 1) list) m) at (sym (list_any_more (λ z. eqb z m) list i 0 l))) in
      elim (cases_eq m x) [
        | inl e ↦
            let there : get_or (set after x place) m 0 ≡ place = ap (λ (k : ℕ). get_or (set after x place) k 0) e ∙ get_or-set_same after x place 0 (let s = w.same_length in omega (arith, s, low)) in
            there ∙ (sym (ap (λ (b : Bool). cond b place (get_or before m 0)) (or_right (is_listed (take i list) m) (eqb x m) (eq-eqb x m (sym e)))) ∙ here)
        | inr n ↦
            get_or-set_other after x m place 0 n
            ∙ (w.written m ∙ (ap (λ (b : Bool). cond b place (get_or before m 0)) (still (is_listed (take i list) m) (eqb x m) (ne_eqb x m (λ e. n (sym e)))) ∙ here))
      ];
}
  where
    still : (b c : Bool) → c ≡ false → b ≡ (b || c)
    still true c f = refl
    still false c f = sym f

-- nothing is reached yet
pub Placing-none : (over : Setting) (order : List ℕ) (search : Progress) (places : List ℕ) → IsResting over search → ((m : ℕ) → has_flag search.trail.marks m ≡ true → ⊥)
    → length places ≡ length over.touches → ((m : ℕ) → m < length places → get_or places m 0 ≡ length order) → IsPlacing over order search places 0
Placing-none over order search places resting none len behind =
    let trail = search.trail in
    let bare : (m : ℕ) → has_flag trail.marks m ≡ reached_before places 0 m = λ m. elim (cases_Bool (has_flag trail.marks m)) [
      | inl t ↦ absurd (none m t)
      | inr f ↦ f ∙ sym (le-ltb (get_or places m 0) 0 (omega arith))
    ] in
    let same : has_flag trail.marks ≡ reached_before places 0 = λ j m. bare m j in
    let held : HoldsTestedAt over.graph.ends over.touches (is_listed []) over.assignment (has_flag trail.marks) = λ m t source. clash t refl in
    record {
      resting = resting;
      roots = λ x r. absurd (none x r.marked);
      held = held;
      meters = len;
      placed = λ m t. absurd (none m t);
      unplaced = λ m l t. behind m (omega (arith, l, len));
      fronts = λ k l.
          let z : 0 ≡ k = omega (arith, l) in
          subst (λ (n : ℕ). IsLeastClosedFrom over.graph.ends over.touches (is_listed (take n order)) over.assignment (reached_before places n)) z
          (subst (λ (S : ℕ → Bool). IsLeastClosedFrom over.graph.ends over.touches (is_listed []) over.assignment S) same
          (LeastFrom-search over trail (is_listed []) resting.running.searching resting.done (λ x r. absurd (none x r.marked)) held));
    }

-- one more of the order was searched from, and what it reached has this place
module _ (over : Setting) (order : List ℕ) (search after : Progress) (places written : List ℕ) (i : ℕ)
    (l : i < length order) (p : IsPlacing over order search places i) (resting : IsResting over after)
    (follows : Follows search.trail after.trail) (led : AreLedBut (get_or order i 0) search.trail after.trail) (own : IsSourceIn over (get_or order i 0) → has_flag after.trail.marks (get_or order i 0) ≡ true)
    (sources : over.sources ≡ All) (len : length written ≡ length places)
    (write : (m : ℕ) → get_or written m 0 ≡ cond (is_listed (new_part search.trail after.trail) m) i (get_or places m 0)) where
  abbrev trail : Trail
  trail = search.trail

  abbrev next : Trail
  next = after.trail

  one_more : (m : ℕ) → is_listed (take (i + 1) order) m ≡ (is_listed (take i order) m || eqb (get_or order i 0) m)
  one_more m = list_any_more (λ z. eqb z m) order i 0 l

  in_new : (m : ℕ) → is_listed (new_part trail next) m ≡ true → get_or written m 0 ≡ i
  in_new m y = write m ∙ ap (λ (b : Bool). cond b i (get_or places m 0)) y

  not_new : (m : ℕ) → is_listed (new_part trail next) m ≡ false → get_or written m 0 ≡ get_or places m 0
  not_new m n = write m ∙ ap (λ (b : Bool). cond b i (get_or places m 0)) n

  s : IsSearching over trail
  s = p.resting.running.searching

  t : IsSearching over next
  t = resting.running.searching

  -- what was marked before isn't new
  old_not_new : (m : ℕ) → has_flag trail.marks m ≡ true → is_listed (new_part trail next) m ≡ false
  old_not_new m y = elim (cases_Bool (is_listed (new_part trail next) m)) [ inr n ↦ n | inl z ↦ clash y (new_unmarked over trail next s t follows m z) ]

  place_default : (m k : ℕ) → m < length over.touches → get_or written m k ≡ get_or written m 0
  place_default m k low = get_or_default written m k 0 (let e = p.meters in omega (arith, low, len, e))

  -- shorter fronts stay
  kept : (k : ℕ) → k ≤ i → (m : ℕ) → reached_before places k m ≡ reached_before written k m
  kept k le m = elim (cases_lt m (length over.touches)) [
    | inr h ↦ ap (λ (x : ℕ). nat_lt x k) (get_or_past places m k (let e = p.meters in omega (arith, h, e)) ∙ sym (get_or_past written m k (let e = p.meters in omega (arith, h, e, len))))
    | inl low ↦
        let before : get_or places m k ≡ get_or places m 0 = get_or_default places m k 0 (let e = p.meters in omega (arith, low, e)) in
        elim (cases_Bool (is_listed (new_part trail next) m)) [
          | inr n ↦ ap (λ (x : ℕ). nat_lt x k) (before ∙ (sym (not_new m n) ∙ sym (place_default m k low)))
          | inl y ↦
              let was = before ∙ p.unplaced m low (new_unmarked over trail next s t follows m y) in
              let is = place_default m k low ∙ in_new m y in
              le-ltb (get_or places m k) k (omega (arith, was, l, le)) ∙ sym (le-ltb (get_or written m k) k (omega (arith, is, le)))
        ]
  ]

  placed : (m : ℕ) → has_flag next.marks m ≡ true → get_or written m 0 < i + 1
  placed m y = elim (marked_or_new over trail next s t follows m y) [
    | inl z ↦ let a = p.placed m z in let e = not_new m (old_not_new m z) in omega (arith, a, e)
    | inr z ↦ let e = in_new m z in omega (arith, e)
  ]

  unplaced : (m : ℕ) → m < length over.touches → has_flag next.marks m ≡ false → get_or written m 0 ≡ length order
  unplaced m low n =
      let old : has_flag trail.marks m ≡ false = elim (cases_Bool (has_flag trail.marks m)) [ inr f ↦ f | inl y ↦ clash (follows.marks m y) n ] in
      let apart : is_listed (new_part trail next) m ≡ false =
      elim (cases_Bool (is_listed (new_part trail next) m)) [ inr f ↦ f | inl y ↦ clash (new_marked over trail next s t follows m y) n ] in
      not_new m apart ∙ p.unplaced m low old

  -- the marked meters are those with a place up to this one
  marked_now : (m : ℕ) → has_flag next.marks m ≡ reached_before written (i + 1) m
  marked_now m = elim (cases_Bool (has_flag next.marks m)) [
    | inl y ↦
        let d = place_default m (i + 1) (t.low m y) in
        let b = placed m y in
        y ∙ sym (lt-ltb (get_or written m (i + 1)) (i + 1) (omega (arith, d, b)))
    | inr n ↦ elim (cases_lt m (length over.touches)) [
      | inl low ↦
          let d = place_default m (i + 1) low in
          let b = unplaced m low n in
          n ∙ sym (le-ltb (get_or written m (i + 1)) (i + 1) (omega (arith, d, b, l)))
      | inr h ↦
          let d = get_or_past written m (i + 1) (let e = p.meters in omega (arith, h, e, len)) in
          n ∙ sym (le-ltb (get_or written m (i + 1)) (i + 1) (omega (arith, d)))
    ]
  ]

  roots : (x : ℕ) → IsRoot next x → is_listed (take (i + 1) order) x ≡ true
  roots x r = one_more x ∙ elim (led x r) [
    | inl old ↦ or_left (is_listed (take i order) x) (eqb (get_or order i 0) x) (p.roots x old)
    | inr e ↦ or_right (is_listed (take i order) x) (eqb (get_or order i 0) x) (eq-eqb (get_or order i 0) x (sym e))
  ]

  held : HoldsTestedAt over.graph.ends over.touches (is_listed (take (i + 1) order)) over.assignment (has_flag next.marks)
  held m y source = elim (or_cases (is_listed (take i order) m) (eqb (get_or order i 0) m) (sym (one_more m) ∙ y)) [
    | inl z ↦ follows.marks m (p.held m z source)
    | inr z ↦
        let e = eqb-true (get_or order i 0) m z in
        subst (λ (x : ℕ). has_flag next.marks x ≡ true) e
        (own (subst (λ (x : ℕ). IsSourceIn over x) (sym e) (subst (λ (from : Sources). IsSource over.graph.ends over.touches from over.assignment m) (sym sources) source)))
  ]

  pub Placing-more : IsPlacing over order after written (i + 1)
  Placing-more = record {
    resting = resting;
    roots = roots;
    held = held;
    meters = len ∙ p.meters;
    placed = placed;
    unplaced = unplaced;
    fronts = λ k le. elim (cases_lt i k) [
      | inr low ↦
          let same : reached_before places k ≡ reached_before written k = λ j m. kept k low m j in
          subst (λ (S : ℕ → Bool). IsLeastClosedFrom over.graph.ends over.touches (is_listed (take k order)) over.assignment S) same (p.fronts k low)
      | inl high ↦
          let z : i + 1 ≡ k = omega (arith, high, le) in
          let same : has_flag next.marks ≡ reached_before written (i + 1) = λ j m. marked_now m j in
          subst (λ (n : ℕ). IsLeastClosedFrom over.graph.ends over.touches (is_listed (take n order)) over.assignment (reached_before written n)) z
          (subst (λ (S : ℕ → Bool). IsLeastClosedFrom over.graph.ends over.touches (is_listed (take (i + 1) order)) over.assignment S) same
          (LeastFrom-search over next (is_listed (take (i + 1) order)) t resting.done roots held))
    ];
  }

-- all of the order were searched from
pub Placing-all : (over : Setting) (order : List ℕ) (search : Progress) (places : List ℕ) (i : ℕ) → IsPlacing over order search places i → i ≡ length order
    → AreReachedInOrder over.graph.ends over.touches over.assignment order places
Placing-all over order search places i p e = record {
  meters = p.meters;
  low = λ m l. elim (cases_Bool (has_flag search.trail.marks m)) [
    | inl t ↦ let b = p.placed m t in omega (arith, b, e)
    | inr f ↦ let b = p.unplaced m l f in omega (arith, b)
  ];
  fronts = λ k le. p.fronts k (omega (arith, le, e));
}

-- where meters without a pair are lost, and all other sources pass the test and none of the lost ones does, the set is the least
-- closed one over what is left
module _ (lost : ℕ → Bool) (g : Graph) (touches : List Touch) (a : Assignment) (from S : ℕ → Bool) (bare : (m : ℕ) → lost m ≡ true → branch_at a m ≡ None)
    (apart : (m : ℕ) → from m ≡ true → IsSource g.ends touches All a m → lost m ≡ false) (others : (m : ℕ) → IsSource g.ends touches All a m → lost m ≡ false → from m ≡ true)
    (c : IsLeastClosedFrom g.ends touches from a S) where
  -- the lost ones have no pair, so the set is closed without them
  without_lost : IsClosedAt g.ends touches a (λ m. S m && not (lost m))
  without_lost =
      let same : part (λ m. S m || is_frozen a m) (pairs a) ≡ part (λ m. (S m && not (lost m)) || is_frozen a m) (pairs a) =
      filter_same (λ (p : Pair). S p.0 || is_frozen a p.0) (λ (p : Pair). (S p.0 && not (lost p.0)) || is_frozen a p.0) (pairs a)
      (λ p i. ap (λ b. b || is_frozen a p.0) (with_false (S p.0) (lost p.0) (kept p i))) in
      record {
        live = λ m t. c.closed.live m (and_parts (S m) (not (lost m)) t).0;
        joined = λ m e t i. subst (λ (A : List Pair). joins g.ends (branches A) e ≡ true) same (c.closed.joined m e (and_parts (S m) (not (lost m)) t).0 i);
      }
    where
      with_false : (x y : Bool) → y ≡ false → x ≡ (x && not y)
      with_false true y f = rw f refl
      with_false false y f = refl

      kept : (p : Pair) → In p (pairs a) → lost p.0 ≡ false
      kept p i = elim (cases_Bool (lost p.0)) [ inr f ↦ f | inl t ↦ absurd (none_some p.1 (sym (bare p.0 t) ∙ slot_from a.slots p i)) ]

  not_lost : (m : ℕ) → S m ≡ true → lost m ≡ false
  not_lost m t =
      let w = c.least (λ k. S k && not (lost k)) without_lost (λ k f source. and_from (S k) (not (lost k)) (c.holds k f source) (ap not (apart k f source))) m t in
      not-true (lost m) (and_parts (S m) (not (lost m)) w).1

  live_left : (m : ℕ) → is_live g.ends touches m ≡ true → lost m ≡ false → is_live g.ends (losing lost touches) m ≡ true
  live_left m l f = live-losing lost touches g.ends m ∙ and_from (is_live g.ends touches m) (not (lost m)) l (ap not f)

  live_parts : (m : ℕ) → is_live g.ends (losing lost touches) m ≡ true → (is_live g.ends touches m ≡ true) × (lost m ≡ false)
  live_parts m l = let w = and_parts (is_live g.ends touches m) (not (lost m)) (sym (live-losing lost touches g.ends m) ∙ l) in (w.0, not-true (lost m) w.1)

  pub front-left : IsLeastClosedAt g.ends (losing lost touches) All a S
  front-left = record {
    closed = record {
      live = λ m t. live_left m (c.closed.live m t) (not_lost m t);
      joined = λ m e t i. c.closed.joined m e t (touch-lost lost touches g.ends m e i).1;
    };
    holds = λ m source. let w = live_parts m source.0 in c.holds m (others m (w.0, source.1) w.1) (w.0, source.1);
    least = λ T closed holds m t.
        c.least T
        (record {
          live = λ k u. (live_parts k (closed.live k u)).0;
          joined = λ k e u i. closed.joined k e u (touch-left lost touches g.ends k e (live_parts k (closed.live k u)).1 i);
        })
        (λ k f source. holds k (live_left k source.0 (apart k f source), source.1)) m t;
  }
