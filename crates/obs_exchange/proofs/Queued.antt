-- One meter more in the queue.
use Rattle.std.proofs.Common.{◌≡◌, ℕ, zero, suc, ◌<◌, ◌≤◌, Bool, true, false, cond, ◌==◌, Option, Some, None, List, length, get_or, set, refl, sym, ap, ◌∙◌, subst, inl, inr, ◌⊎◌, add-one, arith, length-set, eq-eqb}
use Rattle.std.specs.Prelude.{MatchOption}
use Rattle.std.proofs.lemmas.Bool.{cases_eq, cases_Bool, eqb-true}
use Rattle.std.proofs.lemmas.List.{get_or-set_same, get_or-set_other}
use Rattle.obs_graph.specs.declared.Ends.{Ends}
use Rattle.obs_graph.proofs.Counts.{count_below-one_more, count_below-le-n}
use Rattle.obs_matroid.specs.Lists.{In}
use Rattle.obs_matroid.specs.Assignments.{Pair, branches, items}
use Rattle.obs_matroid.specs.inner.Assignments.{others}
use Rattle.obs_matroid.proofs.Lists.{clash, cases_In}
use Rattle.obs_matroid.proofs.Exchange.{part_out}
use Rattle.obs_assign.specs.declared.Move.{Move}
use Rattle.obs_assign.specs.inner.Assignment.{has_flag, is_frozen, pairs}
use Rattle.obs_assign.specs.inner.Pins.{joins}
use Rattle.obs_exchange.specs.inner.Searching.{HasOrigin, IsNeededOf, IsParent, IsSearching, IsVisiting, parent_of, place_in, place_of}
use Rattle.obs_exchange.specs.inner.Setting.{IsSourceIn, Setting, touched_in}
use Rattle.obs_exchange.specs.inner.Trail.{Keeps, Trail, pushed}

-- flags after one was set
pub flag-set : (flags : List Bool) (x : ℕ) → x < length flags → has_flag (set flags x true) x ≡ true
flag-set flags x l = get_or-set_same flags x true false l

pub flag-other : (flags : List Bool) (x y : ℕ) → (y ≡ x → ⊥) → has_flag (set flags x true) y ≡ has_flag flags y
flag-other flags x y n = get_or-set_other flags x y true false n

pub flag-kept : (flags : List Bool) (x : ℕ) → x < length flags → Keeps flags (set flags x true)
flag-kept flags x l k t = elim (cases_eq k x) [ inl e ↦ rw e (flag-set flags x l) | inr n ↦ flag-other flags x k n ∙ t ]

pub flag-from : (flags : List Bool) (x k : ℕ) → has_flag (set flags x true) k ≡ true → (k ≡ x) ⊎ ((k ≡ x → ⊥) × (has_flag flags k ≡ true))
flag-from flags x k t = elim (cases_eq k x) [ inl e ↦ inl e | inr n ↦ inr (n, sym (flag-other flags x k n) ∙ t) ]

-- places after one more entry
place_in-set : (queue : List ℕ) (t x k y : ℕ) → k ≤ t → place_in (set queue t x) k y ≡ place_in queue k y
place_in-set queue t x zero y l = refl
place_in-set queue t x (suc k) y l =
    ap (λ v. cond (v == y) k (place_in (set queue t x) k y)) (get_or-set_other queue t k x 0 (λ e. omega (arith, e, l)))
    ∙ ap (λ v. cond (get_or queue k 0 == y) k v) (place_in-set queue t x k y (omega arith))

pub place-new : (queue : List ℕ) (t x : ℕ) → t < length queue → place_in (set queue t x) (suc t) x ≡ t
place-new queue t x l =
    ap (λ v. cond (v == x) t (place_in (set queue t x) t x)) (get_or-set_same queue t x 0 l) ∙ ap (λ b. cond b t (place_in (set queue t x) t x)) (eq-eqb x x refl)

pub eqb_false : (x y : ℕ) → (y ≡ x → ⊥) → (x == y) ≡ false
eqb_false x y n = elim (cases_Bool (x == y)) [ inl t ↦ absurd (n (sym (eqb-true x y t))) | inr f ↦ f ]

pub place-old : (queue : List ℕ) (t x y : ℕ) → t < length queue → (y ≡ x → ⊥) → place_in (set queue t x) (suc t) y ≡ place_in queue t y
place-old queue t x y l n =
    ap (λ v. cond (v == y) t (place_in (set queue t x) t y)) (get_or-set_same queue t x 0 l)
    ∙ (ap (λ b. cond b t (place_in (set queue t x) t y)) (eqb_false x y n) ∙ place_in-set queue t x t y (omega arith))

-- a meter whose pair a branch needs has one
pub has_pair : (ends : List (Option Ends)) (A : List Pair) (x e : ℕ) → joins ends (branches A) e ≡ true → joins ends (others A x) e ≡ false → In x (items A)
has_pair ends A x e t f = elim (cases_In x (items A)) [
  | inl i ↦ i
  | inr out ↦ clash t (subst (λ (B : List Pair). joins ends (branches B) e ≡ false) (part_out x A out) f)
]

module _ (over : Setting) (trail : Trail) (s : IsSearching over trail) where
  -- what is needed of a branch of the meter at the head, for it to lead to x
  pub record IsLink (x : ℕ) (p : Move) : Type 0 where
    pub below : trail.head < trail.tail
    pub at_head : p.meter ≡ get_or trail.queue trail.head 0
    pub touched : In p.branch (touched_in over p.meter)
    pub needed : IsNeededOf over x p.branch

  module _ (x : ℕ) (low : x < length over.touches) (bare : has_flag trail.marks x ≡ false) where
    -- where a meter isn't marked, the queue has room
    pub room : trail.tail < length over.touches
    room =
        let test = has_flag (set trail.marks x true) in
        let len = s.marks_len in
        let more = count_below-one_more (has_flag trail.marks) test x (length over.touches) low bare (flag-set trail.marks x (omega arith)) (λ k l n. sym (flag-other trail.marks x k n)) in
        let most = count_below-le-n test (length over.touches) in
        let few = s.few in
        omega (arith, more, most, few)

    module _ (thawed : is_frozen over.assignment x ≡ false) (o : Option Move) (origin : MatchOption o (IsSourceIn over x) (IsLink x)) where
      abbrev next : Trail
      next = record trail { marks = set trail.marks x true; parents = set trail.parents x o; queue = set trail.queue trail.tail x; tail = suc trail.tail }

      old : (y : ℕ) → has_flag trail.marks y ≡ true → y ≡ x → ⊥
      old y t e = clash t (ap (has_flag trail.marks) e ∙ bare)

      in_queue : trail.tail < length trail.queue
      in_queue = let r = room in let l = s.queue_len in omega arith

      marks_low : x < length trail.marks
      marks_low = let l = s.marks_len in omega arith

      parents_low : x < length trail.parents
      parents_low = let l = s.parents_len in omega arith

      kept : (y : ℕ) → has_flag trail.marks y ≡ true → has_flag (set trail.marks x true) y ≡ true
      kept = flag-kept trail.marks x marks_low

      same_place : (y : ℕ) → has_flag trail.marks y ≡ true → place_of next y ≡ place_of trail y
      same_place y t = place-old trail.queue trail.tail x y in_queue (old y t)

      new_place : place_of next x ≡ trail.tail
      new_place = place-new trail.queue trail.tail x in_queue

      same_parent : (y : ℕ) → has_flag trail.marks y ≡ true → parent_of next y ≡ parent_of trail y
      same_parent y t = get_or-set_other trail.parents x y o None (old y t)

      new_parent : parent_of next x ≡ o
      new_parent = get_or-set_same trail.parents x o None parents_low

      cases : (y : ℕ) → has_flag (set trail.marks x true) y ≡ true → (y ≡ x) ⊎ (has_flag trail.marks y ≡ true)
      cases y t = elim (flag-from trail.marks x y t) [ inl e ↦ inl e | inr f ↦ inr f.1 ]

      -- a parent of an old meter is one still, and x has its own
      old_parent : (y : ℕ) (p : Move) → has_flag trail.marks y ≡ true → IsParent over trail y p
          → IsParent over next y p
      old_parent y p t k = record {
        marked = kept p.meter k.marked;
        before = let e = same_place p.meter k.marked in let f = same_place y t in let b = k.before in omega (arith, e, f, b);
        near = let e = same_place p.meter k.marked in let b = k.near in omega (arith, e, b);
        touched = k.touched;
        needed = k.needed;
      }

      head_entry : trail.head < trail.tail → has_flag trail.marks (get_or trail.queue trail.head 0) ≡ true
      head_entry l = (s.entries trail.head l).0

      link_marked : (p : Move) → IsLink x p → has_flag trail.marks p.meter ≡ true
      link_marked p k = rw k.at_head (head_entry k.below)

      link_place : (p : Move) → IsLink x p → place_of trail p.meter ≡ trail.head
      link_place p k = rw k.at_head (s.entries trail.head k.below).1

      own_parent : (p : Move) → IsLink x p → IsParent over next x p
      own_parent p k =
          let e = same_place p.meter (link_marked p k) in
          let f = link_place p k in
          let n = new_place in
          let b = k.below in
          record { marked = kept p.meter (link_marked p k); before = omega (arith, e, f, n, b); near = omega (arith, e, f); touched = k.touched; needed = k.needed }

      old_origin : (y : ℕ) (r : Option Move) → has_flag trail.marks y ≡ true → HasOrigin over trail y r → HasOrigin over next y r
      old_origin y None t h = h
      old_origin y (Some p) t h = old_parent y p t h

      own_origin : (r : Option Move) → MatchOption r (IsSourceIn over x) (IsLink x) → HasOrigin over next x r
      own_origin None h = h
      own_origin (Some p) h = own_parent p h

      link_at : (p : Move) → o ≡ Some p → IsLink x p
      link_at p e = subst (λ r. MatchOption r (IsSourceIn over x) (IsLink x)) e origin

      parent_of_new : (p : Move) → parent_of next x ≡ Some p → IsLink x p
      parent_of_new p e = link_at p (sym new_parent ∙ e)

      -- the place of an old meter's parent
      parent_marked : (y : ℕ) (q : Move) → has_flag trail.marks y ≡ true → parent_of trail y ≡ Some q → IsParent over trail y q
      parent_marked y q t e = subst (HasOrigin over trail y) e (s.origins y t)

      in_order : (y z : ℕ) (p q : Move) → has_flag (set trail.marks x true) y ≡ true → parent_of next y ≡ Some p → has_flag (set trail.marks x true) z ≡ true → parent_of next z ≡ Some q
          → joins over.graph.ends (others (pairs over.assignment) y) q.branch ≡ false → place_of next p.meter ≤ place_of next q.meter
      in_order y z p q ty ey tz ez apart =
          elim (cases y ty) [
            | inl is ↦
                let k : IsLink x p = parent_of_new p (rw is at ey) in
                let pp = same_place p.meter (link_marked p k) in
                let ph = link_place p k in
                elim (cases z tz) [
                  | inl at ↦
                      let m : IsLink x q = parent_of_new q (rw at at ez) in
                      let qp = same_place q.meter (link_marked q m) in
                      let qh = link_place q m in
                      omega (arith, pp, ph, qp, qh)
                  | inr old_z ↦
                      let eq : parent_of trail z ≡ Some q = sym (same_parent z old_z) ∙ ez in
                      let m = parent_marked z q old_z eq in
                      let qp = same_place q.meter m.marked in
                      elim (s.finished z q old_z eq) [
                        | inr qh ↦ omega (arith, pp, ph, qp, qh)
                        | inl w ↦
                            let v = s.walks q.branch w in
                            clash (v.marked x (has_pair over.graph.ends (pairs over.assignment) x q.branch v.joined (rw (← is) apart)) (rw (← is) apart) thawed) bare
                      ]
                ]
            | inr old_y ↦
                let ep : parent_of trail y ≡ Some p = sym (same_parent y old_y) ∙ ey in
                let m = parent_marked y p old_y ep in
                let pp = same_place p.meter m.marked in
                elim (cases z tz) [
                  | inl at ↦
                      let k : IsLink x q = parent_of_new q (rw at at ez) in
                      let qp = same_place q.meter (link_marked q k) in
                      let qh = link_place q k in
                      let near = m.near in
                      omega (arith, pp, near, qp, qh)
                  | inr old_z ↦
                      let eq : parent_of trail z ≡ Some q = sym (same_parent z old_z) ∙ ez in
                      let n = parent_marked z q old_z eq in
                      let qp = same_place q.meter n.marked in
                      let h = s.in_order y z p q old_y ep old_z eq apart in
                      omega (arith, pp, qp, h)
                ]
          ]

      origins : (y : ℕ) → has_flag (set trail.marks x true) y ≡ true → HasOrigin over next y (parent_of next y)
      origins y t = elim (cases y t) [
        | inl e ↦ rw e (subst (HasOrigin over next x) (sym new_parent) (own_origin o origin))
        | inr h ↦ subst (HasOrigin over next y) (sym (same_parent y h)) (old_origin y (parent_of trail y) h (s.origins y h))
      ]

      IsSearching-suc : IsSearching over next
      IsSearching-suc = record {
        sound = s.sound;
        walked_len = s.walked_len;
        marks_len = let l = s.marks_len in let e = length-set trail.marks x true in omega arith;
        parents_len = let l = s.parents_len in let e = length-set trail.parents x o in omega arith;
        queue_len = let l = s.queue_len in let e = length-set trail.queue trail.tail x in omega arith;
        low = λ y t. elim (cases y t) [ inl e ↦ rw e low | inr h ↦ s.low y h ];
        thawed = λ y t. elim (cases y t) [ inl e ↦ rw e thawed | inr h ↦ s.thawed y h ];
        few =
            let more = count_below-one_more (has_flag trail.marks) (has_flag (set trail.marks x true)) x (length over.touches) low bare (flag-set trail.marks x marks_low) (λ k l n. sym (flag-other trail.marks x k n)) in
            let f = s.few in omega (arith, more, f);
        head_le = let l = s.head_le in omega arith;
        placed = λ y t. elim (cases y t) [
          | inl e ↦ rw e (let n = new_place in (omega (arith, n), ap (λ k. get_or (set trail.queue trail.tail x) k 0) n ∙ get_or-set_same trail.queue trail.tail x 0 in_queue))
          | inr h ↦
              let n = same_place y h in
              let b = (s.placed y h).0 in
              let c = (s.placed y h).1 in
              (omega (arith, n, b), ap (λ k. get_or (set trail.queue trail.tail x) k 0) n ∙ (get_or-set_other trail.queue trail.tail (place_of trail y) x 0 (λ e. omega (arith, e, b)) ∙ c))
        ];
        entries = λ k l. elim (cases_eq k trail.tail) [
          | inl e ↦ let is : get_or (set trail.queue trail.tail x) k 0 ≡ x = ap (λ i. get_or (set trail.queue trail.tail x) i 0) e ∙ get_or-set_same trail.queue trail.tail x 0 in_queue in
              (ap (has_flag (set trail.marks x true)) is ∙ flag-set trail.marks x marks_low, ap (place_of next) is ∙ (new_place ∙ sym e))
          | inr n ↦ let is : get_or (set trail.queue trail.tail x) k 0 ≡ get_or trail.queue k 0 = get_or-set_other trail.queue trail.tail k x 0 n in
              let h = s.entries k (omega arith) in
              (ap (has_flag (set trail.marks x true)) is ∙ kept (get_or trail.queue k 0) h.0, ap (place_of next) is ∙ (same_place (get_or trail.queue k 0) h.0 ∙ h.1))
        ];
        origins = origins;
        in_order = in_order;
        finished = λ y q t e. elim (cases y t) [
          | inl is ↦
              let k : IsLink x q = parent_of_new q (rw is at e) in
              inr (same_place q.meter (link_marked q k) ∙ link_place q k)
          | inr h ↦
              let eq : parent_of trail y ≡ Some q = sym (same_parent y h) ∙ e in
              let m = parent_marked y q h eq in
              elim (s.finished y q h eq) [ inl w ↦ inl w | inr p ↦ inr (same_place q.meter m.marked ∙ p) ]
        ];
        walks = λ e w. let v = s.walks e w in record { joined = v.joined; marked = λ y i n f. kept y (v.marked y i n f) };
        looked = λ k e l i. s.looked k e l (subst (λ y. In e (touched_in over y)) (get_or-set_other trail.queue trail.tail k x 0 (λ z. let h = s.head_le in omega (arith, z, h, l))) i);
      }

      -- the search goes on
      pub IsSearching-push : IsSearching over (pushed trail x o)
      IsSearching-push =
          subst (λ (k : ℕ). IsSearching over (record next { tail = k })) (sym (add-one trail.tail)) IsSearching-suc

module _ (over : Setting) (trail : Trail) (x : ℕ) where
  -- a meter that the visited one leads to
  module _ (p : Move) (v : IsVisiting over trail p.meter) where
    pub visiting_room : x < length over.touches → has_flag trail.marks x ≡ false → trail.tail < length trail.marks
    visiting_room low bare =
        let r = room over trail v.searching x low bare in
        let l = v.searching.marks_len in
        omega arith

    pub IsVisiting-push : x < length over.touches → has_flag trail.marks x ≡ false → is_frozen over.assignment x ≡ false
        → In p.branch (touched_in over p.meter) → IsNeededOf over x p.branch → IsVisiting over (pushed trail x (Some p)) p.meter
    IsVisiting-push low bare thawed touched needed =
        let b = v.below in
        record {
          searching = IsSearching-push over trail v.searching x low bare thawed (Some p)
              (record { below = v.below; at_head = sym v.at_head; touched = touched; needed = needed });
          below = omega arith;
          at_head = get_or-set_other trail.queue trail.tail trail.head x 0 (λ e. omega (arith, e, b)) ∙ v.at_head;
        }

  -- a source
  module _ (s : IsSearching over trail) where
    pub source_room : x < length over.touches → has_flag trail.marks x ≡ false → trail.tail < length trail.marks
    source_room low bare =
        let r = room over trail s x low bare in
        let l = s.marks_len in
        omega arith

    pub IsSearching-source : x < length over.touches → has_flag trail.marks x ≡ false → is_frozen over.assignment x ≡ false
        → IsSourceIn over x → IsSearching over (pushed trail x None)
    IsSearching-source low bare thawed source = IsSearching-push over trail s x low bare thawed None source
