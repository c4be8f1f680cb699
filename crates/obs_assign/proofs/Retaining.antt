-- The branches that lead up after a search: a forest that joins what all held branches join.
use Rattle.std.proofs.Common.{◌≡◌, ℕ, zero, suc, ◌<◌, ◌≤◌, Bool, true, false, cond, not, Option, Some, None, List, [], length, get_or, refl, sym, ap, ◌∙◌, subst, inl, inr, ◌⊎◌, arith, eq-eqb}
use Rattle.std.specs.Prelude.{IsSome, is_some, All, slice_index_or}
use Rattle.std.specs.List.{cons_option}
use Rattle.std.proofs.lemmas.Bool.{cases_eq, ne_eqb}
use Rattle.std.proofs.lemmas.List.Elements.{Contains-get_or}
use Rattle.obs_graph.specs.declared.Ends.{Ends}
use Rattle.obs_graph.specs.declared.search.Up.{Up}
use Rattle.obs_graph.specs.Joined.{Leads, count_below, first_joined}
use Rattle.obs_graph.specs.inner.Joined.{InRange}
use Rattle.obs_graph.specs.Positions.{AreBranches, IsForestAt, ends_of, present}
use Rattle.obs_graph.specs.inner.Search.{AreWaysUp, IsPart, IsWayUp, Reaches}
use Rattle.obs_graph.proofs.AtPositions.{IsForestAt-among, IsForestAt-by_rank, contains-ends_of, ends_of-contains, length-ends_of, some_of}
use Rattle.obs_graph.proofs.Chains.{first_joined-contains}
use Rattle.obs_graph.proofs.Forests.{rank-le-length}
use Rattle.obs_graph.proofs.Present.{AreBelow-part, branch_at, contains_present, present_contains, some_is_in}
use Rattle.obs_graph.proofs.Ranks.{is_moved, rank-le, rank_is}
use Rattle.obs_matroid.specs.Lists.{In}
use Rattle.obs_matroid.specs.Assignments.{branches}
use Rattle.obs_matroid.specs.inner.Slots.{pairs_of}
use Rattle.obs_matroid.proofs.Contained.{All-from_In, Contains-from_In, In-from_Contains, pairs_from_IsDistinct}
use Rattle.obs_matroid.proofs.Lists.{In-filter, In-filter_from}
use Rattle.obs_matroid.proofs.Slots.{slot_at, slot_from}
use Rattle.obs_graph.proofs.IsJoined.{true-from_same}
use Rattle.obs_meter.specs.declared.Touch.{Touch}
use Rattle.obs_meter.specs.declared.Touch.TheVariants.{Nothing}
use Rattle.obs_meter.specs.Touches.{touch_at}
use Rattle.obs_meter.specs.Spanned.{joined_at}
use Rattle.obs_meter.proofs.Touched.{In-from_any, touched-present}
use Rattle.obs_forest.specs.inner.Forest.{taken}
use Rattle.obs_forest.proofs.Held.{part-taken, taken-at, taken-some}
use Rattle.obs_assign.specs.inner.Kept.{SlotsApart}
use Rattle.obs_assign.specs.inner.Retain.{AreChosen, touched_slot}
use Rattle.obs_assign.specs.inner.Still.{AreRetained, is_still}
use Rattle.obs_assign.proofs.Slotted.{branch_slot, distinct-from_apart, none_some, slot_branch, some_same}
use Rattle.obs_assign.proofs.Paths.{joined-more, joins-from}
use Rattle.obs_assign.proofs.Choosing.{up_low}

up_branch : Option Up → Option ℕ
up_branch None = None
up_branch (Some x) = Some x.branch

-- the branches on the ways up of the vertices below n
pub up_branches : List (Option Up) → ℕ → List ℕ
up_branches ups zero = []
up_branches ups (suc n) = cons_option (up_branch (get_or ups n None)) (up_branches ups n)

In-option : (o : Option Up) (L : List ℕ) (p : ℕ) → In p (cons_option (up_branch o) L) → ((x : Up) × (o ≡ Some x) × (x.branch ≡ p)) ⊎ In p L
unfolding up_branch
In-option None L p i = inr i
In-option (Some x) L p (inl e) = inl (x, refl, sym e)
In-option (Some x) L p (inr i) = inr i

In-tail : (o : Option Up) (L : List ℕ) (p : ℕ) → In p L → In p (cons_option (up_branch o) L)
unfolding up_branch
In-tail None L p i = i
In-tail (Some x) L p i = inr i

pub up_from : (ups : List (Option Up)) (n p : ℕ) → In p (up_branches ups n) → (v : ℕ) × (x : Up) × (v < n) × (get_or ups v None ≡ Some x) × (x.branch ≡ p)
unfolding up_branches
up_from ups zero p i = absurd i
up_from ups (suc n) p i = elim (In-option (get_or ups n None) (up_branches ups n) p i) [
  | inl h ↦ (n, h.0, omega arith, h.1, h.2)
  | inr j ↦ let h = up_from ups n p j in (h.0, h.1, (let l = h.2 in omega arith), h.3, h.4)
]

up_head : (o : Option Up) (L : List ℕ) (x : Up) → o ≡ Some x → In x.branch (cons_option (up_branch o) L)
unfolding up_branch
up_head None L x e = absurd cc
up_head (Some y) L x e = inl (let s : y ≡ x = cc in sym (ap (λ (u : Up). u.branch) s))

pub up_in : (ups : List (Option Up)) (n v : ℕ) (x : Up) → v < n → get_or ups v None ≡ Some x → In x.branch (up_branches ups n)
unfolding up_branches
up_in ups zero v x l h = absurd (omega arith)
up_in ups (suc n) v x l h = elim (cases_eq v n) [
  | inl y ↦ up_head (get_or ups n None) (up_branches ups n) x (ap (λ k. get_or ups k None) (sym y) ∙ h)
  | inr d ↦ In-tail (get_or ups n None) (up_branches ups n) x.branch (up_in ups n v x (omega (arith, l, d)) h)
]

length-option : (o : Option Up) (L : List ℕ) (b : Bool) (k : ℕ) → length L ≡ k → (o ≡ None → b ≡ false) → ((x : Up) → o ≡ Some x → b ≡ true) → length (cons_option (up_branch o) L) ≡ cond b (suc k) k
unfolding up_branch
length-option None L b k e none some = e ∙ sym (ap (λ t. cond t (suc k) k) (none refl))
length-option (Some x) L b k e none some = ap suc e ∙ sym (ap (λ t. cond t (suc k) k) (some x refl))

leads : (f : ℕ → ℕ) (e : Ends) (v w : ℕ) → Leads e v w → f e.a ≡ f e.b → f v ≡ f w
leads f e v w (inl s) h = sym (ap f s.0) ∙ (h ∙ ap f s.1)
leads f e v w (inr s) h = sym (ap f s.0) ∙ (sym h ∙ ap f s.1)

module _ (n : ℕ) (ends held : List (Option Ends)) (ups : List (Option Up)) (depths : List ℕ) (branches : AreBranches n ends) (part : IsPart held ends) (ways : AreWaysUp n held ups depths) where
  -- the first vertex of the piece of v: no way leads up from it, and the chosen branches join it with v
  record Root (v : ℕ) : Type 0 where
    pub root : ℕ
    pub low : root < n
    pub flat : get_or depths root 0 ≡ 0
    pub first : first_joined (present held) v ≡ root
    pub joined : first_joined (ends_of ends (up_branches ups n)) v ≡ first_joined (ends_of ends (up_branches ups n)) root

  up_joined : (v : ℕ) (x : Up) → v < n → get_or ups v None ≡ Some x → Reaches held v x.vertex x.branch
      → (first_joined (present held) v ≡ first_joined (present held) x.vertex) × (first_joined (ends_of ends (up_branches ups n)) v ≡ first_joined (ends_of ends (up_branches ups n)) x.vertex)
  up_joined v x l is r = (
    leads (first_joined (present held)) r.0 v x.vertex r.2 (first_joined-contains (present held) r.0 (contains_present held x.branch r.0 r.1)),
    leads (first_joined (ends_of ends (up_branches ups n))) r.0 v x.vertex r.2
        (first_joined-contains (ends_of ends (up_branches ups n)) r.0 (contains-ends_of ends (up_branches ups n) x.branch r.0 (Contains-from_In x.branch (up_branches ups n) (up_in ups n v x l is)) (part x.branch r.0 r.1))),
  )

  root_by : (d v : ℕ) → get_or depths v 0 < d → v < n → (o : Option Up) → get_or ups v None ≡ o → IsWayUp n held depths v o → Root v
  root_by zero v f l o is w = absurd (omega arith)
  root_by (suc d) v f l None is w = record { root = v; low = l; flat = w.1; first = w.0; joined = refl }
  root_by (suc d) v f l (Some x) is w =
      let j = up_joined v x l is w.1 in
      let deep = w.2 in
      let r = root_by d x.vertex (omega (arith, f, deep)) w.0 (get_or ups x.vertex None) refl (ways x.vertex w.0) in
      record { root = r.root; low = r.low; flat = r.flat; first = j.0 ∙ r.first; joined = j.1 ∙ r.joined }

  root_of : (v : ℕ) → v < n → Root v
  root_of v l = root_by (suc (get_or depths v 0)) v (omega arith) l (get_or ups v None) refl (ways v l)

  -- what all held branches join, the chosen ones do
  pub chosen_join : (u v : ℕ) → u < n → v < n → first_joined (present held) u ≡ first_joined (present held) v → first_joined (ends_of ends (up_branches ups n)) u ≡ first_joined (ends_of ends (up_branches ups n)) v
  chosen_join u v lu lv s =
      let a = root_of u lu in
      let b = root_of v lv in
      a.joined ∙ (ap (first_joined (ends_of ends (up_branches ups n))) (sym a.first ∙ (s ∙ b.first)) ∙ sym b.joined)

  moved_none : (v : ℕ) (o : Option Up) → IsWayUp n held depths v o → o ≡ None → is_moved (present held) v ≡ false
  moved_none v None w e = ap not (eq-eqb (first_joined (present held) v) v w.0)
  moved_none v (Some x) w e = absurd cc

  moved_some : (v : ℕ) → v < n → (o : Option Up) (x : Up) → IsWayUp n held depths v o → o ≡ Some x → is_moved (present held) v ≡ true
  moved_some v l None x w e = absurd cc
  moved_some v l (Some y) x w e = ap not (ne_eqb (first_joined (present held) v) v (λ s.
      let r = root_of v l in
      let same : r.root ≡ v = sym r.first ∙ s in
      let flat = r.flat in
      let deep = w.2 in
      let at : get_or depths v 0 ≡ get_or depths r.root 0 = ap (λ k. get_or depths k 0) (sym same) in
      absurd (omega (arith, flat, deep, at))))

  length-chosen_below : (k : ℕ) → k ≤ n → length (up_branches ups k) ≡ count_below (is_moved (present held)) k
  unfolding up_branches
  length-chosen_below zero l = refl
  length-chosen_below (suc k) l = length-option (get_or ups k None) (up_branches ups k) (is_moved (present held) k) (count_below (is_moved (present held)) k) (length-chosen_below k (omega arith))
      (moved_none k (get_or ups k None) (ways k (omega arith))) (λ x. moved_some k (omega arith) (get_or ups k None) x (ways k (omega arith)))

  pub chosen_at : (p : ℕ) → In p (up_branches ups n) → (e : Ends) × (get_or held p None ≡ Some e)
  chosen_at p i =
      let u = up_from ups n p i in
      let r = reaches u.0 (get_or ups u.0 None) u.1 (ways u.0 u.2) u.3 in
      (r.0, ap (λ k. get_or held k None) (sym u.4) ∙ r.1)
    where
      reaches : (v : ℕ) (o : Option Up) (x : Up) → IsWayUp n held depths v o → o ≡ Some x → Reaches held v x.vertex x.branch
      reaches v None x w e = absurd cc
      reaches v (Some y) x w e = let s : y ≡ x = cc in subst (λ (u : Up). Reaches held v u.vertex u.branch) s w.1

  in_range : InRange n (ends_of ends (up_branches ups n))
  in_range = λ k d l.
      let r = ends_of-contains ends (up_branches ups n) (get_or (ends_of ends (up_branches ups n)) k d) (Contains-get_or (ends_of ends (up_branches ups n)) k d l) in
      let b = branch_at n ends r.0 (get_or (ends_of ends (up_branches ups n)) k d) branches (some_is_in ends r.0 (get_or (ends_of ends (up_branches ups n)) k d) r.2) r.2 in (b.0, b.1)

  -- the chosen branches are a forest
  pub IsForestAt-chosen : IsForestAt ends (up_branches ups n)
  IsForestAt-chosen =
      let there : All (λ p. IsSome (get_or ends p None)) (up_branches ups n) = All-from_In (λ p. IsSome (get_or ends p None)) (up_branches ups n) (λ p i. let e = chosen_at p i in ap is_some (part p e.0 e.1)) in
      let below = AreBelow-part n held ends part branches in
      let count = length-chosen_below n (omega arith) in
      let up = rank-le n (present held) (ends_of ends (up_branches ups n)) (λ e c. let a = present_contains held e c in let b = below a.0 e a.1 in chosen_join e.a e.b b.0 b.1 (first_joined-contains (present held) e c)) in
      let few = rank-le-length n (ends_of ends (up_branches ups n)) in_range in
      let len = length-ends_of ends (up_branches ups n) there in
      IsForestAt-by_rank n ends (up_branches ups n) in_range there (omega (arith, count, rank_is n (present held), up, few, len))

-- the slots whose branch is touched
touched_by : (b : Bool) (f e : ℕ) → cond b (Some f) None ≡ Some e → (f ≡ e) × (b ≡ true)
touched_by true f e h = (some_same f e h, refl)
touched_by false f e h = absurd (none_some e h)

pub touched_from : (ends : List (Option Ends)) (touches : List Touch) (m e : ℕ) (o : Option ℕ) → touched_slot ends touches m o ≡ Some e → (o ≡ Some e) × (is_still ends touches (m, e) ≡ true)
touched_from ends touches m e None h = absurd (none_some e h)
touched_from ends touches m e (Some f) h =
    let r = touched_by (is_still ends touches (m, f)) f e h in
    (ap Some r.0, ap (λ (k : ℕ). is_still ends touches (m, k)) (sym r.0) ∙ r.1)

touched_to : (ends : List (Option Ends)) (touches : List Touch) (m e : ℕ) → is_still ends touches (m, e) ≡ true → touched_slot ends touches m (Some e) ≡ Some e
touched_to ends touches m e t = ap (λ b. cond b (Some e) None) t

module _ (n : ℕ) (ends : List (Option Ends)) (touches : List Touch) (before kept new : List (Option ℕ)) (ups : List (Option Up)) (depths : List ℕ) (branches_ok : AreBranches n ends) (few : length ups ≤ n)
    (kept_is : (m : ℕ) → get_or kept m None ≡ touched_slot ends touches m (get_or before m None)) (apart : SlotsApart before)
    (ways : AreWaysUp n (taken ends (branches (pairs_of kept))) ups depths) (chosen_are : AreChosen ups kept new) where
  kept_from : (m e : ℕ) → get_or kept m None ≡ Some e → (get_or before m None ≡ Some e) × (is_still ends touches (m, e) ≡ true)
  kept_from m e h = touched_from ends touches m e (get_or before m None) (sym (kept_is m) ∙ h)

  new_apart : SlotsApart new
  new_apart m k e h j = apart m k e (kept_from m e ((chosen_are m e).0 h).0).0 (kept_from k e ((chosen_are k e).0 j).0).0

  new_up : (e : ℕ) → In e (branches (pairs_of new)) → In e (up_branches ups n)
  new_up e i =
      let s = branch_slot new e i in
      let u = ((chosen_are s.0 e).0 s.1).1 in
      let low = up_low ups u.0 u.1 u.2 in
      subst (λ (k : ℕ). In k (up_branches ups n)) u.3 (up_in ups n u.0 u.1 (omega arith) u.2)

  up_new : (e : ℕ) → In e (up_branches ups n) → In e (branches (pairs_of new))
  up_new e i =
      let u = up_from ups n e i in
      let h = chosen_at n ends (taken ends (branches (pairs_of kept))) ups depths branches_ok (part-taken ends (branches (pairs_of kept))) ways e i in
      let k = (taken-some ends (branches (pairs_of kept)) e h.0 h.1).1 in
      let s = branch_slot kept e (In-from_Contains e (branches (pairs_of kept)) k) in
      slot_branch new s.0 e ((chosen_are s.0 e).1 (s.1, (u.0, u.1, u.3, u.4)))

  pub IsForestAt-retained : IsForestAt ends (branches (pairs_of new))
  IsForestAt-retained = IsForestAt-among ends (up_branches ups n) (branches (pairs_of new))
      (IsForestAt-chosen n ends (taken ends (branches (pairs_of kept))) ups depths branches_ok (part-taken ends (branches (pairs_of kept))) ways)
      (λ q c. Contains-from_In q (up_branches ups n) (new_up q (In-from_Contains q (branches (pairs_of new)) c)))
      (pairs_from_IsDistinct (branches (pairs_of new)) (distinct-from_apart new new_apart))

  pub AreRetained-made : AreRetained ends touches (pairs_of before) (pairs_of new)
  AreRetained-made = record {
    standing = λ p i.
        let k = kept_from p.0 p.1 ((chosen_are p.0 p.1).0 (slot_from new p i)).0 in
        In-filter (is_still ends touches) p (pairs_of before) (slot_at before p.0 p.1 k.0) k.1;
    joined = λ p i.
        let f = In-filter_from (is_still ends touches) p (pairs_of before) i in
        let k : get_or kept p.0 None ≡ Some p.1 = kept_is p.0 ∙ (ap (touched_slot ends touches p.0) (slot_from before p f.0) ∙ touched_to ends touches p.0 p.1 f.1) in
        let t = In-from_any (touch_at ends touches p.0) p.1 f.1 in
        let x = some_of (get_or ends p.1 None) (touched-present ends (slice_index_or touches p.0 Nothing) p.1 t) in
        let held : get_or (taken ends (branches (pairs_of kept))) p.1 None ≡ Some x.0 = taken-at ends (branches (pairs_of kept)) p.1 (Contains-from_In p.1 (branches (pairs_of kept)) (slot_branch kept p.0 p.1 k)) ∙ x.1 in
        let low = branch_at n ends p.1 x.0 branches_ok (some_is_in ends p.1 x.0 x.1) x.1 in
        let same = chosen_join n ends (taken ends (branches (pairs_of kept))) ups depths branches_ok (part-taken ends (branches (pairs_of kept))) ways x.0.a x.0.b low.0 low.1
        (first_joined-contains (present (taken ends (branches (pairs_of kept)))) x.0 (contains_present (taken ends (branches (pairs_of kept))) p.1 x.0 held)) in
        let up : joined_at ends (up_branches ups n) x.0.a x.0.b ≡ true = true-from_same (ends_of ends (up_branches ups n)) x.0.a x.0.b same in
        joins-from ends (branches (pairs_of new)) p.1 x.0 x.1 (joined-more ends (up_branches ups n) (branches (pairs_of new)) x.0.a x.0.b up_new up);
  }
