-- The moves that lead back from a free branch to a source, by the parents.
use Rattle.std.proofs.Common.{◌≡◌, ◌≢◌, ℕ, zero, suc, ◌+◌, ◌<◌, ◌≤◌, true, false, Some, None, List, [], ◌∷◌, length, get_or, set, drop, map, refl, sym, ap, ◌∙◌, subst, inl, inr, ◌⊎◌, arith, add-one, length-set}
use Rattle.std.specs.Prelude.{AllPairs}
use Rattle.std.proofs.lemmas.List.{drop-set, drop_all}
use Rattle.obs_matroid.specs.Lists.{In, IsDistinct, other_than}
use Rattle.obs_matroid.specs.Assignments.{Pair, items}
use Rattle.obs_matroid.specs.inner.Exchange.{put, put_all}
use Rattle.obs_matroid.specs.inner.Slots.{pairs_of}
use Rattle.obs_matroid.proofs.Contained.{All-from_In, In-get_or}
use Rattle.obs_matroid.proofs.Exchange.{put_all_stays}
use Rattle.obs_matroid.proofs.Lists.{other_ne}
use Rattle.obs_matroid.proofs.Order.{IsAssignment-within}
use Rattle.obs_matroid.proofs.Pairs.{In-items, In-part_from}
use Rattle.obs_matroid.proofs.Queue.{queue_grows, walk}
use Rattle.obs_matroid.proofs.Slots.{IsDistinct-slots}
use Rattle.obs_meter.specs.Assignments.{IsAssignmentAt}
use Rattle.obs_meter.specs.Touches.{every_item}
use Rattle.obs_meter.proofs.Assigned.{from_matroid}
use Rattle.obs_assign.specs.declared.Move.{Move}
use Rattle.obs_assign.specs.inner.Assignment.{branch_at, has_flag, is_frozen, pairs}
use Rattle.obs_assign.specs.inner.Moves.{IsPath, moved}
use Rattle.obs_assign.proofs.Moving.{moved_pairs, pair_of}
use Rattle.obs_assign.proofs.Slotted.{item_slot, none_some}
use Rattle.obs_exchange.specs.inner.Searching.{IsEnd, IsParent, IsReady, parent_of, place_of}
use Rattle.obs_exchange.specs.inner.Setting.{IsSourceIn, Setting, touched_in}
use Rattle.obs_exchange.specs.inner.Trail.{Trail}
use Rattle.obs_exchange.proofs.Closing.{IsQueue-search, matroid_in, matroid_laws, origin_parent, origin_source, own_pairs, pair_at, pair_some, passes_in, root_at, root_none, root_some, source_in, tail_low}
use Rattle.obs_exchange.proofs.Queued.{has_pair}

-- the pairs of the moves in reverse, before what is given
pub onto : List Move → List Pair → List Pair
onto [] w = w
onto (x ∷ path) w = onto path (pair_of x ∷ w)

In-onto_right : (path : List Move) (w : List Pair) (p : Pair) → In p w → In p (onto path w)
unfolding onto
In-onto_right [] w p i = i
In-onto_right (x ∷ path) w p i = In-onto_right path (pair_of x ∷ w) p (inr i)

In-onto : (path : List Move) (w : List Pair) (p : Pair) → In p (map pair_of path) → In p (onto path w)
unfolding onto
In-onto [] w p i = absurd i
In-onto (x ∷ path) w p (inl e) = In-onto_right path (pair_of x ∷ w) p (inl e)
In-onto (x ∷ path) w p (inr i) = In-onto path (pair_of x ∷ w) p i

In-onto_from : (path : List Move) (w : List Pair) (p : Pair) → In p (onto path w) → In p (map pair_of path) ⊎ In p w
unfolding onto
In-onto_from [] w p i = inr i
In-onto_from (x ∷ path) w p i = elim (In-onto_from path (pair_of x ∷ w) p i) [
  | inl j ↦ inl (inr j)
  | inr j ↦ elim j [ inl e ↦ inl (inl e) | inr k ↦ inr k ]
]

distinct_onto : (path : List Move) (w : List Pair) → IsDistinct (items (map pair_of path)) → IsDistinct (items w)
    → ((m : ℕ) → In m (items (map pair_of path)) → In m (items w) → ⊥) → IsDistinct (items (onto path w))
unfolding onto
distinct_onto [] w d c h = c
distinct_onto (x ∷ path) w d c h = distinct_onto path (pair_of x ∷ w) d.1 (h x.meter (inl refl), c)
    (λ m i j. elim j [ inl e ↦ d.0 (subst (λ k. In k (items (map pair_of path))) e i) | inr k ↦ h m (inr i) k ])

-- what the pairs are after moves of different items
moved_from : (P : List Pair) (A : List Pair) (q : Pair) → In q (put_all P A) → In q P ⊎ (In q A × ((r : Pair) → In r P → q.0 ≡ r.0 → ⊥))
moved_from [] A q i = inr (i, λ r j. absurd j)
moved_from (p ∷ P) A q i = elim (moved_from P (put p A) q i) [
  | inl j ↦ inl (inr j)
  | inr s ↦ elim s.0 [
    | inl e ↦ inl (inl e)
    | inr k ↦
        let v = In-part_from (other_than p.0) A q k in
        inr (v.0, λ r j e. elim j [ inl t ↦ other_ne p.0 q.0 v.1 (e ∙ ap (λ (z : Pair). z.0) t) | inr l ↦ s.1 r l e ])
  ]
]

moved_at : (P : List Pair) (A : List Pair) (q : Pair) → IsDistinct (items P) → In q P → In q (put_all P A)
moved_at [] A q d i = absurd i
moved_at (p ∷ P) A q d (inl e) = put_all_stays P (put p A) q (inl e) (λ r j s. d.0 (subst (λ k. In k (items P)) (sym s ∙ ap (λ (z : Pair). z.0) e) (In-items P r j)))
moved_at (p ∷ P) A q d (inr i) = moved_at P (put p A) q d.1 i

-- the same moves in reverse
reversed : (path : List Move) (A : List Pair) (q : Pair) → IsDistinct (items (map pair_of path)) → In q (put_all (map pair_of path) A) → In q (put_all (onto path []) A)
reversed path A q d i = elim (moved_from (map pair_of path) A q i) [
  | inl j ↦ moved_at (onto path []) A q (distinct_onto path [] d tt (λ m k l. l)) (In-onto path [] q j)
  | inr s ↦ put_all_stays (onto path []) A q s.0 (λ r j. elim (In-onto_from path [] r j) [ inl k ↦ s.1 r k | inr k ↦ absurd k ])
]

-- the places of the moves' meters rise
pub Rises : (ℕ → ℕ) → List Move → Type 0
Rises place [] = Unit {0}
Rises place (x ∷ path) = ((y : Move) → In y path → place x.meter < place y.meter) × Rises place path

rising_distinct : (place : ℕ → ℕ) (path : List Move) → Rises place path → IsDistinct (items (map pair_of path))
unfolding Rises
rising_distinct place [] r = tt
rising_distinct place (x ∷ path) r = ((λ i. let y = from_item path x.meter i in let l = r.0 y.0 y.1 in let e = ap place y.2 in omega (arith, l, e)), rising_distinct place path r.1)
  where
    from_item : (path : List Move) (m : ℕ) → In m (items (map pair_of path)) → (y : Move) × In y path × (m ≡ y.meter)
    from_item [] m i = absurd i
    from_item (y ∷ path) m (inl e) = (y, inl refl, e)
    from_item (y ∷ path) m (inr i) = let z = from_item path m i in (z.0, inr z.1, z.2)

rising_apart : (place : ℕ → ℕ) (path : List Move) → Rises place path → AllPairs (λ (x y : Move). x.meter ≢ y.meter) path
unfolding Rises
rising_apart place [] r = λ i j d l m. absurd (omega arith)
rising_apart place (x ∷ path) r = pairs_at x path (λ y i e. let l = r.0 y i in let f = ap place e in omega (arith, l, f)) (rising_apart place path r.1)
  where
    pairs_at : (x : Move) (path : List Move) → ((y : Move) → In y path → x.meter ≡ y.meter → ⊥) → AllPairs (λ (x y : Move). x.meter ≢ y.meter) path → AllPairs (λ (x y : Move). x.meter ≢ y.meter) (x ∷ path)
    pairs_at x path h k i zero d l m = absurd (omega (arith, l))
    pairs_at x path h k zero (suc j) d l m = λ e. h (get_or path j d) (In-get_or path j d (omega (arith, m))) e
    pairs_at x path h k (suc i) (suc j) d l m = k i j d (omega (arith, l)) (omega (arith, m))

-- a path of one move
pub drop_last : (path : List Move) (k : ℕ) (x : Move) → suc k ≡ length path → drop k (set path k x) ≡ x ∷ []
drop_last path k x l = drop-set path k x (omega (arith, l)) ∙ ap (λ xs. x ∷ xs) (drop_all (k + 1) path (omega (arith, l)))

module _ (over : Setting) (trail : Trail) (last : Move) where
  -- the moves back from x, by the parents
  pub way : ℕ → ℕ → List Pair
  way n x = walk (matroid_in over) (touched_in over) (every_item over.touches) (is_frozen over.assignment)
      (passes_in over) (pairs over.assignment) (has_flag trail.marks) (root_at trail) (pair_at trail) (place_of trail) n x

  way_root : (n x : ℕ) → parent_of trail x ≡ None → way (suc n) x ≡ []
  unfolding way walk
  way_root n x e = rw (root_none trail x e) refl

  way_led : (n x : ℕ) (p : Move) → parent_of trail x ≡ Some p → way (suc n) x ≡ pair_of p ∷ way n p.meter
  unfolding way walk
  way_led n x p e = rw (root_some trail x p e, pair_some trail x p e) refl

  -- the path from its start on: the moves from x's to the last one
  pub record IsTracing (path : List Move) (start x : ℕ) : Type 0 where
    pub below : start < length path
    pub marked : has_flag trail.marks x ≡ true
    pub first : Move
    pub rest : List Move
    pub is : drop start path ≡ first ∷ rest
    pub at : first.meter ≡ x
    pub room : length path + place_of trail x ≤ start + place_of trail last.meter + 1
    pub rises : Rises (place_of trail) (first ∷ rest)
    pub marked_all : (y : Move) → In y (first ∷ rest) → has_flag trail.marks y.meter ≡ true
    pub led : (y : Move) → In y rest → (p : Move) × (parent_of trail y.meter ≡ Some p)
    pub fuel : ℕ
    pub enough : place_of trail x < suc fuel
    pub back : onto (first ∷ rest) (way (suc fuel) x) ≡ pair_of last ∷ way (suc (place_of trail last.meter)) last.meter

  module _ (e : IsEnd over trail last) where
    pub Tracing-begin : (path : List Move) (k : ℕ) → suc k ≡ length path → IsTracing (set path k last) k last.meter
    unfolding onto Rises
    Tracing-begin path k len = let n = length-set path k last in record {
      below = omega arith;
      marked = e.marked;
      first = last;
      rest = [];
      is = drop_last path k last len;
      at = refl;
      room = omega arith;
      rises = ((λ y i. absurd i), tt);
      marked_all = λ y i. elim i [ inl s ↦ rw s e.marked | inr j ↦ absurd j ];
      led = λ y i. absurd i;
      fuel = place_of trail last.meter;
      enough = omega arith;
      back = refl;
    }

    module _ (path : List Move) (start x : ℕ) (t : IsTracing path start x) where
      parent : (p : Move) → parent_of trail x ≡ Some p → IsParent over trail x p
      parent p s = origin_parent over trail e.searching x p t.marked s

      longer : (p : Move) → parent_of trail x ≡ Some p → (f : ℕ) → place_of trail x < suc f
          → onto (t.first ∷ t.rest) (way (suc f) x) ≡ pair_of last ∷ way (suc (place_of trail last.meter)) last.meter
          → (n : ℕ) × (place_of trail p.meter < suc n) × (onto (p ∷ t.first ∷ t.rest) (way (suc n) p.meter) ≡ pair_of last ∷ way (suc (place_of trail last.meter)) last.meter)
      unfolding onto
      longer p s zero l h = let b = (parent p s).before in absurd (omega (arith, b, l))
      longer p s (suc n) l h = let b = (parent p s).before in (n, omega (arith, b, l), sym (ap (onto (t.first ∷ t.rest)) (way_led (suc n) x p s)) ∙ h)

      -- there is room for another move
      pub Tracing-room : length trail.marks ≤ length path → (p : Move) → parent_of trail x ≡ Some p → 0 < start
      Tracing-room l p s =
          let b = (parent p s).before in
          let low = tail_low over trail e.searching in
          let pl = (e.searching.placed last.meter e.marked).0 in
          let r = t.room in
          let k = e.searching.marks_len in
          omega (arith, b, low, pl, r, l, k)

      pub Tracing-more : (p : Move) → parent_of trail x ≡ Some p → (k : ℕ) → suc k ≡ start → IsTracing (set path k p) k p.meter
      unfolding onto Rises
      Tracing-more p s k is =
          let b = (parent p s).before in
          let n = length-set path k p in
          let below = t.below in
          let r = t.room in
          let enough = t.enough in
          let same : drop (k + 1) path ≡ t.first ∷ t.rest = ap (λ n. drop n path) (add-one k ∙ is) ∙ t.is in
          let f = longer p s t.fuel t.enough t.back in
          record {
            below = omega arith;
            marked = (parent p s).marked;
            first = p;
            rest = t.first ∷ t.rest;
            is = drop-set path k p (omega arith) ∙ ap (λ xs. p ∷ xs) same;
            at = refl;
            room = omega (arith, b, r, n, is);
            rises = (
              (λ y i. elim i [
                | inl q ↦ let f : place_of trail y.meter ≡ place_of trail x = ap (place_of trail) (ap (λ (z : Move). z.meter) q ∙ t.at) in omega (arith, f, b)
                | inr j ↦ let f : place_of trail t.first.meter ≡ place_of trail x = ap (place_of trail) t.at in let l = t.rises.0 y j in omega (arith, f, b, l)
              ]),
              t.rises,
            );
            marked_all = λ y i. elim i [ inl q ↦ rw q (parent p s).marked | inr j ↦ t.marked_all y j ];
            led = λ y i. elim i [ inl q ↦ (p, ap (parent_of trail) (ap (λ (z : Move). z.meter) q ∙ t.at) ∙ s) | inr j ↦ t.led y j ];
            fuel = f.0;
            enough = f.1;
            back = f.2;
          }

      module _ (root : parent_of trail x ≡ None) where
        all_back : onto (t.first ∷ t.rest) [] ≡ pair_of last ∷ way (suc (place_of trail last.meter)) last.meter
        all_back = sym (ap (onto (t.first ∷ t.rest)) (way_root t.fuel x root)) ∙ t.back

        source : IsSourceIn over t.first.meter
        source = rw t.at (origin_source over trail e.searching x t.marked root)

        low_all : (y : Move) → In y (t.first ∷ t.rest) → y.meter < length over.assignment.slots
        low_all y i = let l = e.searching.low y.meter (t.marked_all y i) in let s = e.searching.sound.stands.meters in omega (arith, l, s)

        paired : (y : Move) → In y t.rest → branch_at over.assignment y.meter ≡ None → ⊥
        paired y i b =
            let p = t.led y i in
            let k = (origin_parent over trail e.searching y.meter p.0 (t.marked_all y (inr i)) p.1).needed in
            let h = item_slot over.assignment.slots y.meter (has_pair over.graph.ends (pairs over.assignment) y.meter p.0.branch k.joined k.apart) in
            none_some h.0 (sym b ∙ h.1)

        is_path : IsPath over.assignment t.first t.rest
        is_path = record {
          low = All-from_In (λ (y : Move). y.meter < length over.assignment.slots) (t.first ∷ t.rest) low_all;
          bare = (source_in over t.first.meter source).2;
          paired = All-from_In (λ (y : Move). branch_at over.assignment y.meter ≢ None) t.rest paired;
          thawed = All-from_In (λ (y : Move). is_frozen over.assignment y.meter ≡ false) t.rest (λ y i. e.searching.thawed y.meter (t.marked_all y (inr i)));
          different = rising_apart (place_of trail) (t.first ∷ t.rest) t.rises;
        }

        assigns : IsAssignmentAt over.graph.ends over.touches (every_item over.touches) (pairs_of (moved (t.first ∷ t.rest) over.assignment.slots))
        unfolding way
        assigns =
            let sound = e.searching.sound in
            let a = over.assignment in
            let M = every_item over.touches in
            let grown = queue_grows (matroid_in over) (touched_in over) M (is_frozen a) (passes_in over) (pairs a) (has_flag trail.marks) (root_at trail) (pair_at trail) (place_of trail)
            (IsQueue-search over trail e.searching) (matroid_laws over sound) (own_pairs over sound) sound.whole.paired.frozen_have last.meter last.branch e.marked e.free.touched e.free.apart in
            from_matroid over.graph.vertices over.graph.ends over.touches M (pairs_of (moved (t.first ∷ t.rest) a.slots))
            (IsAssignment-within (matroid_in over) (matroid_laws over sound) (touched_in over) M (put_all (pair_of last ∷ way (suc (place_of trail last.meter)) last.meter) (pairs a))
            (pairs_of (moved (t.first ∷ t.rest) a.slots)) grown.assigns (IsDistinct-slots (moved (t.first ∷ t.rest) a.slots))
            (λ q i. subst (λ P. In q (put_all P (pairs a))) all_back
            (reversed (t.first ∷ t.rest) (pairs a) q (rising_distinct (place_of trail) (t.first ∷ t.rest) t.rises) ((moved_pairs (t.first ∷ t.rest) a.slots low_all q).0 i))))

        pub Tracing-end : IsReady over (drop start path)
        Tracing-end = subst (IsReady over) (sym t.is) (record { can = record { are_path = is_path; assigns = assigns }; begins = source })
