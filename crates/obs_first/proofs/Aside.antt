-- A meter that is set aside: it has no pair, and the others can have no more.
use Rattle.std.proofs.Common.{◌≡◌, ℕ, ◌+◌, ◌<◌, ◌≤◌, ◌⊎◌, leb, Bool, true, false, Option, None, Some, List, length, get_or, set, refl, sym, ap, ◌∙◌, subst, inl, inr, arith}
use Rattle.std.specs.Prelude.{MatchBool}
use Rattle.std.proofs.lemmas.Bool.{cases_Bool, cases_eq, cases_lt, le-leb, leb-true}
use Rattle.std.proofs.lemmas.List.{get_or-set_other}
use Rattle.obs_graph.specs.declared.Ends.{Ends}
use Rattle.obs_graph.specs.Positions.{AreBranches}
use Rattle.obs_graph.specs.Graph.{Graph}
use Rattle.obs_matroid.specs.Lists.{In}
use Rattle.obs_matroid.specs.Assignments.{items}
use Rattle.obs_matroid.proofs.Lists.{cases_In, clash}
use Rattle.obs_matroid.proofs.Slots.{slot_at}
use Rattle.obs_meter.specs.declared.Touch.{Touch}
use Rattle.obs_meter.specs.declared.Touch.TheVariants.{Nothing}
use Rattle.obs_meter.specs.Touches.{touch_at}
use Rattle.obs_assign.specs.Assignment.{Assignment}
use Rattle.obs_assign.specs.inner.Assignment.{IsWhole, StandsOver, branch_at, is_frozen, pairs}
use Rattle.obs_assign.specs.inner.Pins.{IsPinnedAt}
use Rattle.obs_assign.specs.inner.Spare.{IsSpare}
use Rattle.obs_assign.proofs.Pinned.{length-left, length-pinned_bare, spare_owner}
use Rattle.obs_assign.proofs.Pinning.{nothing}
use Rattle.obs_assign.proofs.Slotted.{item_slot}
use Rattle.obs_exchange.specs.declared.Sources.TheVariants.{All}
use Rattle.obs_exchange.specs.inner.Closed.{IsLeastClosedAt}
use Rattle.obs_exchange.proofs.Changing.{IsAssignmentAt-without, StandsOver-changed, longest_by}
use Rattle.obs_exchange.proofs.Lawful.{frozen_longest}
use Rattle.obs_first.specs.inner.Deciding.{AreEnoughFor, HasRefused, IsAside, IsUnderWay, IsOutOfReach, KeepsFrozen}
use Rattle.obs_first.proofs.Frozen.{HasFrozenOf-kept, HasFrozenOf-pairs}
use Rattle.obs_first.proofs.Deciding.{AreRefused}

-- of the others none is won, so the pairs are enough, or m is aside
pub enough_or_aside : (ends : List (Option Ends)) (touches : List Touch) (a : Assignment) (m long n : ℕ) → n ≡ length (pairs a) → branch_at a m ≡ None → long ≤ length (pairs a) + 1
    → (S : ℕ → Bool) → IsLeastClosedAt ends (set touches m Nothing) All a S → MatchBool (leb long n) (long ≤ length (pairs a)) (IsAside ends touches a m long)
enough_or_aside ends touches a m long n is bare near S least = elim (cases_Bool (leb long n)) [
  | inl t ↦ rw t (let l = leb-true long n t in omega (arith, l, is))
  | inr f ↦ rw f (record { bare = bare; short = elim (cases_lt n long) [ inl l ↦ omega (arith, l, is) | inr l ↦ clash (le-leb long n l) f ]; near = near; closed = S; least = least })
]

-- what is refused after the frozen pairs were kept was refused before
pub HasRefused-kept : (ends : List (Option Ends)) (touches : List Touch) (a b : Assignment) (m e long : ℕ) → b.frozen ≡ a.frozen → KeepsFrozen a b → HasRefused ends touches b b m e long → HasRefused ends touches a b m e long
HasRefused-kept ends touches a b m e long same keeps r = record { frozen = same; none = λ B h i. r.none B (HasFrozenOf-kept ends touches a b B same keeps h) i }

module _ (g : Graph) (touches : List Touch) (a : Assignment) (m long : ℕ) (low : m < length touches) where
  -- set aside, m can't have a branch from which nothing is won
  pub HasRefused-aside : AreBranches g.vertices g.ends → IsWhole a → StandsOver a g touches → IsAside g.ends touches a m long → (e : ℕ) → In e (touch_at g.ends touches m)
      → IsOutOfReach g.ends touches a m e → HasRefused g.ends touches a a m e long
  HasRefused-aside ok whole stands h e i r = record {
    frozen = refl;
    none = λ B x j.
        let l = longest_by a g touches ok whole stands m e low i h.bare h.closed r.0 h.least r.1 B x.assigns x.extends j in
        let s = h.short in
        omega (arith, l, s);
  }

  -- what was so long before had m a pair, with a branch that isn't refused
  pub enough_at_last : AreBranches g.vertices g.ends → IsWhole a → StandsOver a g touches → (was : Assignment) → IsWhole was → StandsOver was g touches → length (pairs was) ≡ long
      → a.frozen ≡ was.frozen → KeepsFrozen was a → AreRefused g touches was m long (touch_at g.ends touches m) → IsUnderWay g.ends touches a m long → long ≤ length (pairs a)
  enough_at_last ok whole stands was whole_was stands_was is same keeps refused (inl l) = l
  enough_at_last ok whole stands was whole_was stands_was is same keeps refused (inr h) =
      let own = HasFrozenOf-pairs was was g touches whole_was stands_was (λ x f. refl) in
      elim (cases_In m (items (pairs was))) [
        | inl i ↦
            let s = item_slot was.slots m i in
            let n = refused s.0 (stands_was.touched m s.0 s.1) (pairs was) own (slot_at was.slots m s.0 s.1) in
            absurd (omega (arith, n, is))
        | inr out ↦
            let over = StandsOver-changed g touches m Nothing a h.bare stands in
            let x = HasFrozenOf-kept g.ends touches was a (pairs was) same keeps own in
            let n = frozen_longest a g (set touches m Nothing) h.closed (record { branches = ok; whole = whole; stands = over; least = h.least })
            (pairs was) (IsAssignmentAt-without g.ends touches m low (pairs was) own.assigns out) x.extends in
            omega (arith, n, is)
      ]

-- a search from m alone found a pair, or the branch is refused
module _ (g : Graph) (touches : List Touch) (ok : AreBranches g.vertices g.ends) (a b c : Assignment) (m e long : ℕ) (low : m < length touches) (touched : In e (touch_at g.ends touches m))
    (whole : IsWhole b) (stands : StandsOver b g touches) (aside : IsAside g.ends touches b m long) (frozen : b.frozen ≡ a.frozen) (keeps : KeepsFrozen a b) where
  pub way_or_refused : (found : Bool) → (found ≡ false → c ≡ b) → MatchBool found (AreEnoughFor c m e (length (pairs b) + 1)) (IsOutOfReach g.ends touches c m e)
      → MatchBool found (AreEnoughFor c m e long) (HasRefused g.ends touches a c m e long × IsUnderWay g.ends touches c m long)
  way_or_refused true same h = let n = h.enough in let l = aside.near in record { enough = omega (arith, n, l); has = h.has }
  way_or_refused false same h =
      let is = same refl in
      subst (λ (d : Assignment). HasRefused g.ends touches a d m e long × IsUnderWay g.ends touches d m long) (sym is) (
        HasRefused-kept g.ends touches a b m e long frozen keeps
            (HasRefused-aside g touches b m long low ok whole stands aside e touched (subst (λ (d : Assignment). IsOutOfReach g.ends touches d m e) is h)),
        inr aside,
      )

-- after a pin the pairs are as many as before, where the pinned meter had its branch or none
module _ (g : Graph) (touches : List Touch) (a b : Assignment) (ok : AreBranches g.vertices g.ends) (whole : IsWhole a) (stands : StandsOver a g touches) (m e x long : ℕ)
    (low : m < length a.slots) (touched : In e (touch_at g.ends touches m)) (thawed : is_frozen a m ≡ false) (spare : IsSpare g.ends a.slots a.frozen m e x) where
  bare_then : (branch_at a m ≡ None) ⊎ (branch_at a m ≡ Some e) → get_or (set a.slots x None) m None ≡ None
  bare_then (inl n) = elim (cases_eq m x) [
    | inl y ↦ ap (λ k. get_or (set a.slots x None) k None) y ∙ nothing a.slots x
    | inr d ↦ get_or-set_other a.slots x m None None d ∙ n
  ]
  bare_then (inr h) = ap (λ k. get_or (set a.slots x None) k None) (spare_owner g.vertices g touches a ok whole stands m e x low touched thawed spare m h) ∙ nothing a.slots x

  pub pinned_long : AreEnoughFor a m e long → IsPinnedAt a g.ends m e b.slots x → long ≤ length (pairs b)
  pinned_long h p =
      let l = length-pinned_bare a.slots m e x low (bare_then h.has) in
      let n = h.enough in
      rw p.pairs_are (omega (arith, l, n))

-- a pair was dropped
module _ (a b : Assignment) (m : ℕ) (slots : b.slots ≡ set a.slots m None) where
  pub dropped_bare : branch_at b m ≡ None
  dropped_bare = ap (λ (s : List (Option ℕ)). get_or s m None) slots ∙ nothing a.slots m

  pub length-dropped : length (pairs a) ≤ length (pairs b) + 1
  length-dropped = rw slots (length-left a.slots m)
