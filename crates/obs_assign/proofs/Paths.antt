-- Which meter may give up its pair for a branch e: what the held branches join, and the path between the ends of e.
use Rattle.std.proofs.Common.{◌≡◌, ℕ, ◌<◌, Bool, true, false, Option, Some, None, List, length, get_or, refl, sym, ap, ◌∙◌, subst, inl, inr}
use Rattle.std.specs.Prelude.{MatchOption, IfSome, IsSome, is_some}
use Rattle.std.specs.List.{Contains}
use Rattle.std.proofs.lemmas.Bool.{cases_eq, cases_Bool}
use Rattle.obs_graph.specs.declared.Ends.{Ends}
use Rattle.obs_graph.specs.Joined.{first_joined}
use Rattle.obs_graph.specs.Positions.{AreBranches, ends_of, present}
use Rattle.obs_graph.specs.inner.Search.{IsPart}
use Rattle.obs_graph.proofs.AtPositions.{contains-ends_of, ends_of-contains, some_of}
use Rattle.obs_graph.proofs.Forests.{AreAmong, same_first-among}
use Rattle.obs_graph.proofs.IsJoined.{same-from_true, true-from_same, apart-from_false, false-from_apart}
use Rattle.obs_graph.proofs.Present.{contains_present, present_contains, present_low}
use Rattle.obs_matroid.specs.Lists.{In, other_than}
use Rattle.obs_matroid.specs.Assignments.{branches}
use Rattle.obs_matroid.specs.inner.Assignments.{others, part}
use Rattle.obs_matroid.specs.inner.Slots.{pairs_of}
use Rattle.obs_matroid.proofs.Lists.{clash, other_true, other_ne}
use Rattle.obs_matroid.proofs.Pairs.{In-branches, In-branches_from, In-part, In-part_from, own}
use Rattle.obs_matroid.proofs.Contained.{Contains-from_In, In-from_Contains, In-from_All}
use Rattle.obs_matroid.proofs.Graphs.{joined_member}
use Rattle.obs_matroid.proofs.Slots.{slot_from, slot_at, IsDistinct-slots}
use Rattle.obs_meter.specs.Spanned.{both_ends, ends_at, graph_matroid, joined_at}
use Rattle.obs_meter.proofs.Instance.{IsJoining-graph, IsMatroid-graph}
use Rattle.obs_meter.proofs.Assigned.{independent-from_forest_at}
use Rattle.obs_forest.specs.inner.Cycle.{IsCycle, without}
use Rattle.obs_forest.proofs.Without.{other_present}
use Rattle.obs_assign.specs.Assignment.{Assignment}
use Rattle.obs_assign.specs.inner.Assignment.{ArePaired, HoldsPairs, frozen_branches, has_flag, is_frozen}
use Rattle.obs_assign.specs.inner.Kept.{IsInverse}
use Rattle.obs_assign.specs.inner.Pins.{MayPin, joins}
use Rattle.obs_assign.specs.inner.Spare.{IsSpare, IsSpareOf}
use Rattle.obs_assign.proofs.Slotted.{IsForestAt-over, branch_slot, slot_branch, slot_low, slots_apart}

-- more branches join more
pub joined-more : (ends : List (Option Ends)) (L K : List ℕ) (u v : ℕ) → ((p : ℕ) → In p L → In p K) → joined_at ends L u v ≡ true → joined_at ends K u v ≡ true
joined-more ends L K u v h t = true-from_same (ends_of ends K) u v (same_first-among (ends_of ends L) (ends_of ends K)
    (λ e c. let r = ends_of-contains ends L e c in contains-ends_of ends K r.0 e (Contains-from_In r.0 K (h r.0 (In-from_Contains r.0 L r.1))) r.2)
    u v (same-from_true (ends_of ends L) u v t))

pub joined-less : (ends : List (Option Ends)) (L K : List ℕ) (u v : ℕ) → ((p : ℕ) → In p L → In p K) → joined_at ends K u v ≡ false → joined_at ends L u v ≡ false
joined-less ends L K u v h f = elim (cases_Bool (joined_at ends L u v)) [ inl t ↦ clash (joined-more ends L K u v h t) f | inr n ↦ n ]

-- a list joins the ends of its own branches
pub joins-own : (ends : List (Option Ends)) (L : List ℕ) (e : ℕ) → In e L → joins ends L e ≡ true
joins-own ends L e i = joined_member (ends_at ends) (joined_at ends) (IsJoining-graph ends) L e i

module _ (ends : List (Option Ends)) (slots : List (Option ℕ)) (held : List (Option Ends)) (part_of : IsPart held ends) (h : HoldsPairs slots held) where
  -- a branch of a pair is held with its ends in the graph
  pub held_at : (p : ℕ) → In p (branches (pairs_of slots)) → (e : Ends) × (get_or held p None ≡ Some e) × (get_or ends p None ≡ Some e)
  held_at p i = let s = some_of (get_or held p None) ((h.exactly p).1 i) in (s.0, s.1, part_of p s.0 s.1)

  pub among_pairs : AreAmong (present held) (ends_of ends (branches (pairs_of slots)))
  among_pairs e c =
      let r = present_contains held e c in
      contains-ends_of ends (branches (pairs_of slots)) r.0 e (Contains-from_In r.0 (branches (pairs_of slots)) ((h.exactly r.0).0 (ap is_some r.1))) (part_of r.0 e r.1)

  -- what the held branches join, the branches of the pairs do
  pub joined-pairs : (u v : ℕ) → first_joined (present held) u ≡ first_joined (present held) v → joined_at ends (branches (pairs_of slots)) u v ≡ true
  joined-pairs u v s = true-from_same (ends_of ends (branches (pairs_of slots))) u v (same_first-among (present held) (ends_of ends (branches (pairs_of slots))) among_pairs u v s)

  pub apart-pairs : (u v : ℕ) → (first_joined (present held) u ≡ first_joined (present held) v → ⊥) → joined_at ends (branches (pairs_of slots)) u v ≡ false
  apart-pairs u v n = false-from_apart (ends_of ends (branches (pairs_of slots))) u v (λ s. n (same_first-among (ends_of ends (branches (pairs_of slots))) (present held)
      (λ e c. let r = ends_of-contains ends (branches (pairs_of slots)) e c in
      let a = held_at r.0 (In-from_Contains r.0 (branches (pairs_of slots)) r.1) in
      contains_present held r.0 e (a.1 ∙ (sym a.2 ∙ r.2)))
      u v s))

module _ (ends : List (Option Ends)) (slots : List (Option ℕ)) (frozen : List Bool) (held : List (Option Ends)) (m e : ℕ)
    (part_of : IsPart held ends) (paired : ArePaired slots frozen held) (thawed : has_flag frozen m ≡ false) where
  others_in : (x p : ℕ) → In p (others (part (other_than m) (pairs_of slots)) x) → (y : ℕ) × (get_or slots y None ≡ Some p) × (y ≡ m → ⊥) × (y ≡ x → ⊥)
  others_in x p i =
      let q = In-branches_from (part (other_than x) (part (other_than m) (pairs_of slots))) p i in
      let a = In-part_from (other_than x) (part (other_than m) (pairs_of slots)) q.0 q.1 in
      let b = In-part_from (other_than m) (pairs_of slots) q.0 a.0 in
      (q.0.0, slot_from slots q.0 b.0 ∙ ap Some (sym q.2), other_ne m q.0.0 b.1, other_ne x q.0.0 a.1)

  in_others : (k y p : ℕ) → get_or slots y None ≡ Some p → (y ≡ k → ⊥) → In p (others (pairs_of slots) k)
  in_others k y p s n = In-branches (part (other_than k) (pairs_of slots)) (y, p) (In-part (other_than k) (pairs_of slots) (y, p) (slot_at slots y p s) (other_true k y n))

  in_frozen : (y p : ℕ) → get_or slots y None ≡ Some p → has_flag frozen y ≡ true → In p (branches (part (has_flag frozen) (pairs_of slots)))
  in_frozen y p s f = In-branches (part (has_flag frozen) (pairs_of slots)) (y, p) (In-part (has_flag frozen) (pairs_of slots) (y, p) (slot_at slots y p s) f)

  -- the meter x has the branch e itself
  pub owner_frozen : (x : ℕ) → get_or slots x None ≡ Some e → has_flag frozen x ≡ true → joins ends (branches (part (has_flag frozen) (pairs_of slots))) e ≡ true
  owner_frozen x s f = joins-own ends (branches (part (has_flag frozen) (pairs_of slots))) e (in_frozen x e s f)

  pub owner_spare : (n : ℕ) → AreBranches n ends → (x : ℕ) → get_or slots x None ≡ Some e → has_flag frozen x ≡ false → IsSpare ends slots frozen m e x
  owner_spare n b x s f = record {
    low = slot_low slots x e s;
    thawed = f;
    apart = joined-less ends (others (part (other_than m) (pairs_of slots)) x) (others (pairs_of slots) x) (ends_at ends e).0 (ends_at ends e).1
        (λ p i. let o = others_in x p i in in_others x o.0 p o.1 o.3)
        (own (graph_matroid n ends) (IsMatroid-graph n ends b) (pairs_of slots) (x, e)
        (independent-from_forest_at n ends (branches (pairs_of slots)) (IsForestAt-over held ends (branches (pairs_of slots)) part_of paired.holds.forest)) (IsDistinct-slots slots) (slot_at slots x e s));
    needed = elim (cases_eq x m) [
      | inl y ↦ inl y
      | inr n ↦ inr (joins-own ends (others (pairs_of slots) m) e (in_others m x e s n))
    ];
  }

  -- nothing joins the ends of e
  pub apart_spare : joins ends (branches (pairs_of slots)) e ≡ false → m < length slots → IsSpare ends slots frozen m e m
  apart_spare f l = record {
    low = l;
    thawed = thawed;
    apart = joined-less ends (others (part (other_than m) (pairs_of slots)) m) (branches (pairs_of slots)) (ends_at ends e).0 (ends_at ends e).1
        (λ p i. let o = others_in m p i in slot_branch slots o.0 p o.1) f;
    needed = inl refl;
  }

  module _ (x : Ends) (is : ends_at ends e ≡ (x.a, x.b)) (path : List ℕ) (cycle : IsCycle held x path) (owners : List (Option ℕ)) (inverse : IsInverse slots owners) where
    -- the branches of the path join the ends of e
    path_joins : (L : List ℕ) → ((p : ℕ) → Contains path p → In p L) → joins ends L e ≡ true
    path_joins L h =
        let joined : joined_at ends L x.a x.b ≡ true = true-from_same (ends_of ends L) x.a x.b (same_first-among (ends_of held path) (ends_of ends L)
        (λ d c. let r = ends_of-contains held path d c in contains-ends_of ends L r.0 d (Contains-from_In r.0 L (h r.0 r.1)) (part_of r.0 d r.2))
        x.a x.b (same-from_true (ends_of held path) x.a x.b cycle.joined)) in
        rw is joined

    path_held : (p : ℕ) → Contains path p → (y : ℕ) × (get_or slots y None ≡ Some p)
    path_held p c = branch_slot slots p ((paired.holds.exactly p).0 (In-from_All (λ q. IsSome (get_or held q None)) path cycle.held_all p (In-from_Contains p path c)))

    pub path_frozen : ((p y : ℕ) → Contains path p → get_or owners p None ≡ Some y → has_flag frozen y ≡ true) → joins ends (branches (part (has_flag frozen) (pairs_of slots))) e ≡ true
    path_frozen all = path_joins (branches (part (has_flag frozen) (pairs_of slots))) (λ p c. let y = path_held p c in in_frozen y.0 p y.1 (all p y.0 c ((inverse y.0 p).0 y.1)))

    pub path_spare : (y : ℕ) → IsSpareOf path owners frozen m y → IsSpare ends slots frozen m e y
    path_spare y s =
        let has = (inverse y s.branch).1 s.has in
        let off = ((cycle.needed s.branch).0 s.listed).1 in
        let apart : joined_at ends (others (part (other_than m) (pairs_of slots)) y) x.a x.b ≡ false =
        false-from_apart (ends_of ends (others (part (other_than m) (pairs_of slots)) y)) x.a x.b (λ same.
        apart-from_false (present (without held s.branch)) x.a x.b off
        (same_first-among (ends_of ends (others (part (other_than m) (pairs_of slots)) y)) (present (without held s.branch))
        (λ d c. let r = ends_of-contains ends (others (part (other_than m) (pairs_of slots)) y) d c in
        let o = others_in y r.0 (In-from_Contains r.0 (others (part (other_than m) (pairs_of slots)) y) r.1) in
        let a = held_at ends slots held part_of paired.holds r.0 (slot_branch slots o.0 r.0 o.1) in
        other_present held s.branch r.0 d (λ t. o.3 (slots_apart held slots paired.holds.forest o.0 y s.branch (o.1 ∙ ap Some t) has)) (a.1 ∙ (sym a.2 ∙ r.2)))
        x.a x.b same)) in
        record {
          low = slot_low slots y s.branch has;
          thawed = s.thawed;
          apart = rw is apart;
          needed = elim s.needed [
            | inl t ↦ inl t
            | inr none ↦ inr (path_joins (others (pairs_of slots) m) (λ p c. let z = path_held p c in
                in_others m z.0 p z.1 (λ t. none p c ((inverse m p).0 (ap (λ k. get_or slots k None) (sym t) ∙ z.1)))))
          ];
        }

-- the path of a branch that is present
pub cycle_at : (ends held : List (Option Ends)) (e : ℕ) (u : Ends) (path : List ℕ) → get_or ends e None ≡ Some u → IfSome (get_or ends e None) (λ x. IsCycle held x path) → IsCycle held u path
cycle_at ends held e u path is h = subst (λ o. IfSome o (λ x. IsCycle held x path)) is h

pub ends_are : (ends : List (Option Ends)) (e : ℕ) (u : Ends) → get_or ends e None ≡ Some u → ends_at ends e ≡ (u.a, u.b)
ends_are ends e u is = ap both_ends is

pub apart_ends : (ends : List (Option Ends)) (L : List ℕ) (e : ℕ) (u : Ends) → get_or ends e None ≡ Some u → joined_at ends L u.a u.b ≡ false → joins ends L e ≡ false
apart_ends ends L e u is f = rw (ends_are ends e u is) f

pub joins-from : (ends : List (Option Ends)) (L : List ℕ) (e : ℕ) (u : Ends) → get_or ends e None ≡ Some u → joined_at ends L u.a u.b ≡ true → joins ends L e ≡ true
joins-from ends L e u is t = rw (ends_are ends e u is) t

pub owned_low : (slots owners : List (Option ℕ)) → IsInverse slots owners → (p x : ℕ) → get_or owners p None ≡ Some x → x < length slots
owned_low slots owners inverse p x h = slot_low slots x p ((inverse x p).1 h)

module _ (slots owners : List (Option ℕ)) (held : List (Option Ends)) (u : Ends) (path : List ℕ) (cycle : IsCycle held u path) where
  pub path_low : (k d : ℕ) → k < length path → get_or path k d < length held
  path_low k d l = present_low held (get_or path k d) (cycle.held_all k d l)

  pub path_owned : HoldsPairs slots held → IsInverse slots owners → (k d : ℕ) → k < length path → IsSome (get_or owners (get_or path k d) None)
  path_owned h inverse k d l =
      let s = branch_slot slots (get_or path k d) ((h.exactly (get_or path k d)).0 (cycle.held_all k d l)) in
      ap is_some ((inverse s.0 (get_or path k d)).0 s.1)

-- what is found on a path says which meter gives up its pair
pub spare_found : (ends : List (Option Ends)) (slots : List (Option ℕ)) (frozen : List Bool) (held : List (Option Ends)) (m e : ℕ) (part_of : IsPart held ends)
    (paired : ArePaired slots frozen held) (thawed : has_flag frozen m ≡ false) (x : Ends) (is : ends_at ends e ≡ (x.a, x.b)) (path : List ℕ) (cycle : IsCycle held x path)
    (owners : List (Option ℕ)) (inverse : IsInverse slots owners) (spare : Option ℕ)
    → MatchOption spare ((p y : ℕ) → Contains path p → get_or owners p None ≡ Some y → has_flag frozen y ≡ true) (λ y. IsSpareOf path owners frozen m y)
    → MatchOption spare (joins ends (branches (part (has_flag frozen) (pairs_of slots))) e ≡ true) (λ y. IsSpare ends slots frozen m e y)
spare_found ends slots frozen held m e part_of paired thawed x is path cycle owners inverse None h = path_frozen ends slots frozen held m e part_of paired thawed x is path cycle owners inverse h
spare_found ends slots frozen held m e part_of paired thawed x is path cycle owners inverse (Some y) h = path_spare ends slots frozen held m e part_of paired thawed x is path cycle owners inverse y h

-- whether a pin may be made, by what gives up its pair
module _ (ends : List (Option Ends)) (slots : List (Option ℕ)) (frozen : List Bool) (m e : ℕ) where
  frozen_others : (x : ℕ) → has_flag frozen m ≡ false → has_flag frozen x ≡ false → (p : ℕ) → In p (branches (part (has_flag frozen) (pairs_of slots))) → In p (others (part (other_than m) (pairs_of slots)) x)
  frozen_others x fm fx p i =
      let q = In-branches_from (part (has_flag frozen) (pairs_of slots)) p i in
      let r = In-part_from (has_flag frozen) (pairs_of slots) q.0 q.1 in
      rw q.2 (In-branches (part (other_than x) (part (other_than m) (pairs_of slots))) q.0
      (In-part (other_than x) (part (other_than m) (pairs_of slots)) q.0
      (In-part (other_than m) (pairs_of slots) q.0 r.0 (other_true m q.0.0 (λ s. clash r.1 (ap (has_flag frozen) s ∙ fm))))
      (other_true x q.0.0 (λ s. clash r.1 (ap (has_flag frozen) s ∙ fx)))))

  pub spare_apart : (x : ℕ) → has_flag frozen m ≡ false → IsSpare ends slots frozen m e x → joins ends (branches (part (has_flag frozen) (pairs_of slots))) e ≡ false
  spare_apart x fm s = joined-less ends (branches (part (has_flag frozen) (pairs_of slots))) (others (part (other_than m) (pairs_of slots)) x) (ends_at ends e).0 (ends_at ends e).1 (frozen_others x fm s.thawed) s.apart

  pub no_owner : joins ends (branches (part (has_flag frozen) (pairs_of slots))) e ≡ false → (y : ℕ) → has_flag frozen y ≡ true → get_or slots y None ≡ Some e → ⊥
  no_owner f y t h = clash (joins-own ends (branches (part (has_flag frozen) (pairs_of slots))) e
      (In-branches (part (has_flag frozen) (pairs_of slots)) (y, e) (In-part (has_flag frozen) (pairs_of slots) (y, e) (slot_at slots y e h) t))) f

spare_core : (a : Assignment) (ends : List (Option Ends)) (m e : ℕ) (spare : Option ℕ) → is_frozen a m ≡ false
    → MatchOption spare (joins ends (frozen_branches a) e ≡ true) (λ x. IsSpare ends a.slots a.frozen m e x)
    → IfSome spare (λ x. IsSpare ends a.slots a.frozen m e x) × ((IsSome spare → MayPin a ends m e) × (MayPin a ends m e → IsSome spare))
spare_core a ends m e None fm h = (tt, ((λ s. absurd cc), (λ p. clash h p.apart)))
spare_core a ends m e (Some x) fm h =
    let off = spare_apart ends a.slots a.frozen m e x fm h in
    (h, ((λ s. record { thawed = fm; free = no_owner ends a.slots a.frozen m e off; apart = off }), (λ p. refl)))

-- what is found says whether a pin may be made, and which meter gives up its pair
pub spare_from : (a now : Assignment) (ends : List (Option Ends)) (m e : ℕ) (spare : Option ℕ) → a ≡ now → is_frozen a m ≡ false
    → MatchOption spare (joins ends (frozen_branches a) e ≡ true) (λ x. IsSpare ends a.slots a.frozen m e x)
    → IfSome spare (λ x. IsSpare ends now.slots now.frozen m e x) × ((IsSome spare → MayPin now ends m e) × (MayPin now ends m e → IsSome spare))
spare_from a now ends m e spare is fm h =
    subst (λ (b : Assignment). IfSome spare (λ x. IsSpare ends b.slots b.frozen m e x) × ((IsSome spare → MayPin b ends m e) × (MayPin b ends m e → IsSome spare))) is (spare_core a ends m e spare fm h)
