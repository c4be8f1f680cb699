-- The pair that an edit takes away, and the pairs that are left.
use Rattle.std.proofs.Common.{inl, inr, ◌≡◌, ◌≢◌, ℕ, ◌<◌, Bool, true, false, Option, Some, None, List, length, get_or, set, refl, sym, ap, ◌∙◌, subst, arith, get_or-set_other}
use Rattle.std.specs.Prelude.{IfNone, IfSome, IsSome, IsTrue, slice_index_or}
use Rattle.std.proofs.lemmas.Bool.{true≢false}
use Rattle.std.proofs.lemmas.List.{length-map}
use Rattle.obs_graph.specs.declared.Ends.{Ends}
use Rattle.obs_case.specs.Flags.{with_branch_inservice, with_meter_inservice}
use Rattle.obs_case.specs.Tables.{IsValid, Tables}
use Rattle.obs_matroid.specs.Lists.{In}
use Rattle.obs_matroid.specs.Assignments.{Pair, branches, items}
use Rattle.obs_matroid.proofs.Lists.{length-within}
use Rattle.obs_matroid.proofs.Pairs.{items_within, same_pair, same_pair_by_branch}
use Rattle.obs_matroid.proofs.Slots.{IsDistinct-slots, slot_at, slot_from}
use Rattle.obs_meter.specs.declared.Touch.{Touch}
use Rattle.obs_meter.specs.declared.Touch.TheVariants.{Nothing}
use Rattle.obs_meter.specs.Touches.{touch_at}
use Rattle.obs_meter.proofs.Touched.{touched-present}
use Rattle.obs_assign.specs.Assignment.{Assignment}
use Rattle.obs_assign.specs.inner.Assignment.{IsWhole, StandsOver, branch_at, pairs}
use Rattle.obs_assign.proofs.Keeping.{slot_without}
use Rattle.obs_assign.proofs.Slotted.{distinct_branches}
use Rattle.obs_assign.proofs.Standing.{still_at, still_from}
use Rattle.obs_network.specs.inner.Edited.{AreSameBut}
use Rattle.obs_network.specs.Network.{Network, case_branches, case_meters, network_of}
use Rattle.obs_network.proofs.Edited.{branch_is, branches-with_meter}
use Rattle.obs_network.proofs.OfCase.{length-case_branches, length-case_meters}
use Rattle.obs_repair.specs.declared.edit.Edit.{Edit}
use Rattle.obs_repair.specs.declared.edit.Edit.TheVariants as edit
use Rattle.obs_repair.specs.Edits.{edited}
use Rattle.obs_repair.specs.inner.Edits.{HasRow, standing}
use Rattle.obs_repair.specs.inner.Repairing.{AreKept, AreLeft, HasPlace, IsBefore, IsMeterTaken, IsSaidAlone, IsTaken}
use Rattle.obs_repair.proofs.Absent.{absent-out}
use Rattle.obs_repair.proofs.Flagged.{meters-edited}
use Rattle.obs_repair.proofs.Metered.{stands-lost, stands-regained, touched_before}
use Rattle.obs_repair.proofs.Repaired.{AreKept-by, apart-standing}
use Rattle.obs_repair.proofs.SameBut.{stands-but}

-- the meter or the branch of an edit is one of those of the pairs
pub has-place : (t : Tables) (e : Edit) (n : Network) (a : Assignment) → IsBefore t e n a → HasPlace e a
has-place t (edit.Switch at closed) n a h = tt
has-place t (edit.Branch at inservice) n a h =
    let low = h.row in
    let many = h.longest.stands.forest.positions in
    omega (arith, low, many, length-case_branches h.before)
has-place t (edit.Meter at inservice) n a h =
    let low = h.row in
    let many = h.longest.stands.meters in
    omega (arith, low, many, length-case_meters h.before)

-- the meter that has a branch is the one whose pair goes with it
pub owner-taken : (a : Assignment) → IsWhole a → (at : ℕ) (o : Option ℕ) → IfSome o (λ m. branch_at a m ≡ Some at) → IfNone o ((m : ℕ) → branch_at a m ≢ Some at) → IfSome o (λ m. m < length a.slots)
    → IsMeterTaken (edit.Branch at false) a o
owner-taken a whole at None some none low = λ p i k. none p.0 (slot_from a.slots p i ∙ ap Some k)
owner-taken a whole at (Some m) some none low =
    let own = slot_at a.slots m at some in
    let apart = distinct_branches a.forest.held (branches (pairs a)) whole.paired.holds.forest in (
      low,
      λ p i. (
        λ k. ap (λ (q : Pair). q.0) (same_pair_by_branch (pairs a) p (m, at) apart i own k),
        λ k. ap (λ (q : Pair). q.1) (same_pair (pairs a) p (m, at) (IsDistinct-slots a.slots) i own k),
      ),
    )

-- the pairs without that of one meter
module _ (a b : Assignment) (m : ℕ) (dropped : b.slots ≡ set a.slots m None) where
  left_slot : (p : Pair) → In p (pairs b) → (p.0 ≡ m → ⊥) × (get_or a.slots p.0 None ≡ Some p.1)
  left_slot p i = slot_without a.slots m p.0 p.1 (ap (λ (s : List (Option ℕ)). get_or s p.0 None) (sym dropped) ∙ slot_from b.slots p i)

  other_left : (p : Pair) → In p (pairs a) → (p.0 ≡ m → ⊥) → In p (pairs b)
  other_left p i ne =
      slot_at b.slots p.0 p.1 (ap (λ (s : List (Option ℕ)). get_or s p.0 None) dropped ∙ (get_or-set_other a.slots m p.0 None None ne ∙ slot_from a.slots p i))

  pub left-dropped : (e : Edit) → ((p : Pair) → In p (pairs a) → (IsTaken e p → p.0 ≡ m) × (p.0 ≡ m → IsTaken e p)) → (p : Pair)
      → (In p (pairs b) → In p (pairs a) × (IsTaken e p → ⊥)) × (In p (pairs a) × (IsTaken e p → ⊥) → In p (pairs b))
  left-dropped e taken p = (
    λ i. let s = left_slot p i in let there = slot_at a.slots p.0 p.1 s.1 in (there, λ k. s.0 ((taken p there).0 k)),
    λ w. other_left p w.0 (λ k. w.1 ((taken p w.0).1 k)),
  )

-- no branch at the position of a row that comes into service
absent-before : (t before : Tables) (at : ℕ) → t ≡ with_branch_inservice before at true → t ≢ before → at < length before.branches → get_or (case_branches before) at None ≡ None
absent-before t before at same changed low =
    elim (branch_is before at) [
      | inl is ↦ subst (λ (x : Tables). get_or (case_branches x) at None ≡ None) (sym is) (absent-out before at low)
      | inr is ↦ absurd (changed (same ∙ sym is))
    ]

not_present : (ends : List (Option Ends)) (touches : List Touch) (m e : ℕ) → get_or ends e None ≡ None → In e (touch_at ends touches m) → ⊥
not_present ends touches m e gone touched = true≢false (sym (subst IsSome gone (touched-present ends (slice_index_or touches m Nothing) e touched)))

-- what an edit takes away doesn't stand after it
pub falls : (e : Edit) (t before : Tables) → t ≡ edited before e → HasRow before e → (p : Pair) → IsTaken e p → In p.1 (touch_at (case_branches t) (case_meters t) p.0) → ⊥
falls (edit.Switch at closed) t before same row p taken touched = taken
falls (edit.Branch at true) t before same row p taken touched = taken
falls (edit.Meter at true) t before same row p taken touched = taken
falls (edit.Branch at false) t before same row p taken touched =
    not_present (case_branches t) (case_meters t) p.0 p.1
    (ap (λ (x : Tables). get_or (case_branches x) p.1 None) same ∙ (ap (λ (k : ℕ). get_or (case_branches (with_branch_inservice before at false)) k None) taken ∙ absent-out before at row)) touched
falls (edit.Meter at false) t before same row p taken touched =
    let here = subst (λ (x : Tables). In p.1 (touch_at (case_branches x) (case_meters x) p.0)) same touched in
    (touched_before before at p.0 p.1 (subst (λ bs. In p.1 (touch_at bs (case_meters (with_meter_inservice before at false)) p.0)) (branches-with_meter before at false) here)).0 taken

-- the networks before and after an edit
module _ (t : Tables) (e : Edit) (n : Network) (a : Assignment) (h : IsBefore t e n a) where
  pub as_many : length (case_meters t) ≡ length (case_meters h.before)
  as_many = ap (λ (x : Tables). length (case_meters x)) h.same ∙ meters-edited h.before e

  pub unchanged : (after : Network) → after ≡ network_of t → after ≡ n → network_of h.before ≡ network_of t
  unchanged after net is = sym h.network ∙ (sym is ∙ net)

  pub same_but : (after : Network) → after ≡ network_of t → (at : ℕ) → AreSameBut at n after → AreSameBut at (network_of h.before) (network_of t)
  same_but after net at s = subst (λ (x : Network). AreSameBut at x (network_of t)) h.network (subst (λ (x : Network). AreSameBut at n x) net s)

-- the pairs before an edit, and those that are left of them
module _ (t : Tables) (e : Edit) (n : Network) (a : Assignment) (h : IsBefore t e n a) (b : Assignment) (l : AreLeft e a b) where
  -- of the standing pairs none is given up
  standing_left : (p : Pair) → In p (standing t a) → In p (standing t b)
  standing_left p i =
      let s = still_from (case_branches t) (case_meters t) (pairs a) p i in
      still_at (case_branches t) (case_meters t) (pairs b) p ((l.left p).1 (s.0, λ k. falls e t h.before h.same h.row p k s.1)) s.1

  standing_had : (p : Pair) → In p (standing t b) → In p (standing t a)
  standing_had p i =
      let s = still_from (case_branches t) (case_meters t) (pairs b) p i in
      still_at (case_branches t) (case_meters t) (pairs a) p ((l.left p).0 s.0).0 s.1

  -- so what is kept of those that are left is kept of all
  pub kept-left : (c : Assignment) → AreKept t b c → AreKept t a c
  kept-left c k =
      let many = length-within (items (standing t a)) (items (standing t b)) (apart-standing t a) (items_within (standing t a) (standing t b) standing_left) in
      let but_one = k.all_but_one in
      AreKept-by t a c (k.turns ∙ l.turns) (λ p i. standing_had p (k.within p i))
      (omega (arith, many, but_one, length-map (standing t a) (λ (p : Pair). p.0), length-map (standing t b) (λ (p : Pair). p.0)))

  -- where nothing changed but the meter or the branch, they stand
  module _ (v : IsValid t) (whole : IsWhole b) (stands : StandsOver b (network_of h.before).graph (case_meters h.before)) (alone : Bool) (after : Network) (net : after ≡ network_of t) (said : IsSaidAlone e alone n after) where
    pub stands-alone : IsTrue alone → StandsOver b (network_of t).graph (case_meters t)
    stands-alone surely = by e refl said
      where
        by : (x : Edit) → e ≡ x → IsSaidAlone x alone n after → StandsOver b (network_of t).graph (case_meters t)
        by (edit.Switch at closed) is s =
            subst (λ (x : Network). StandsOver b x.graph x.meters.touches) (unchanged t e n a h after net (s surely)) stands
        by (edit.Branch at inservice) is s = stands-but at (network_of h.before) (network_of t) (same_but t e n a h after net at (s surely)) (as_many t e n a h) b whole stands (bare inservice is)
          where
            bare : (on : Bool) → e ≡ edit.Branch at on → (m : ℕ) → branch_at b m ≢ Some at
            bare false is m there =
                ((l.left (m, at)).0 (slot_at b.slots m at there)).1 (subst (λ (x : Edit). IsTaken x (m, at)) (sym is) refl)
            bare true is m there =
                not_present (case_branches h.before) (case_meters h.before) m at
                (absent-before t h.before at (h.same ∙ ap (edited h.before) is) h.changed (subst (λ (x : Edit). HasRow h.before x) is h.row)) (stands.touched m at there)
        by (edit.Meter at false) is s =
            subst (λ (x : Tables). StandsOver b (network_of x).graph (case_meters x)) (sym (h.same ∙ ap (edited h.before) is)) (stands-lost h.before at b (bare (branch_at b at) refl) stands)
          where
            bare : (o : Option ℕ) → branch_at b at ≡ o → branch_at b at ≡ None
            bare None there = there
            bare (Some k) there = absurd (((l.left (at, k)).0 (slot_at b.slots at k there)).1 (subst (λ (x : Edit). IsTaken x (at, k)) (sym is) refl))
        by (edit.Meter at true) is s =
            subst (λ (x : Tables). StandsOver b (network_of x).graph (case_meters x)) (sym (h.same ∙ ap (edited h.before) is)) (stands-regained h.before at b stands)
