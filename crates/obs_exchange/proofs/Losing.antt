-- Pairs and greatest lengths where some meters are lost.
use Rattle.std.proofs.Common.{◌≡◌, ℕ, ◌+◌, ◌<◌, ◌≤◌, Bool, true, false, not, ◌&&◌, ◌||◌, eqb, cond, Option, Some, None, List, [], ◌∷◌, length, get_or, set, take, refl, sym, ap, ◌∙◌, subst, inl, inr, arith}
use Rattle.std.specs.Prelude.{filter}
use Rattle.std.specs.List.{range_with_len}
use Rattle.std.proofs.lemmas.Bool.{cases_Bool, cases_eq, eq-eqb, ne_eqb}
use Rattle.std.proofs.lemmas.List.{get_or-set_other, get_or-set_same, length-set, set-get_or, set-set}
use Rattle.std.proofs.lemmas.List.Folds.{list_any_more}
use Rattle.obs_graph.specs.declared.Ends.{Ends}
use Rattle.obs_graph.specs.Graph.{Graph}
use Rattle.obs_matroid.specs.Lists.{In}
use Rattle.obs_matroid.specs.Assignments.{Pair}
use Rattle.obs_matroid.specs.inner.Slots.{pairs_of}
use Rattle.obs_matroid.proofs.Comparing.{cases_Option}
use Rattle.obs_matroid.proofs.Lists.{In-filter_from, clash}
use Rattle.obs_meter.specs.declared.Touch.{Touch}
use Rattle.obs_meter.specs.declared.Touch.TheVariants.{Nothing}
use Rattle.obs_meter.specs.Assignments.{IsAssignmentAt, IsRhoAt}
use Rattle.obs_meter.specs.Held.{Meters}
use Rattle.obs_meter.specs.Lost.{is_listed, losing}
use Rattle.obs_meter.specs.inner.Lost.{left_of}
use Rattle.obs_meter.specs.Touches.{every_item, live_items}
use Rattle.obs_meter.proofs.Assigned.{every-to_live}
use Rattle.obs_meter.proofs.Lost.{assignment-lost, length-losing, live_items-losing, losing-again, losing-but, losing-none, losing-same, rho-lost, touch-left, touch-lost}
use Rattle.obs_assign.specs.Assignment.{Assignment}
use Rattle.obs_assign.specs.inner.Assignment.{HasRoomOf, IsWhole, StandsOver, branch_at, pairs}
use Rattle.obs_assign.proofs.Moving.{length-put_bare}
use Rattle.obs_assign.proofs.Slotted.{none_some}
use Rattle.obs_exchange.specs.inner.Laws.{IsThawed}
use Rattle.obs_exchange.specs.inner.Longest.{IsLongest, IsMost}
use Rattle.obs_exchange.proofs.Lengthening.{rooms}

-- pairs stand over what is left exactly where they stand, and no lost meter has one
module _ (lost : ℕ → Bool) (g : Graph) (touches : List Touch) (a : Assignment) where
  pub stands-left : StandsOver a g touches → ((m : ℕ) → lost m ≡ true → branch_at a m ≡ None) → StandsOver a g (losing lost touches)
  stands-left s bare = record {
    forest = s.forest;
    meters = length-losing lost touches ∙ s.meters;
    touched = λ m e h. elim (cases_Bool (lost m)) [
      | inl t ↦ absurd (none_some e (sym (bare m t) ∙ h))
      | inr f ↦ touch-left lost touches g.ends m e f (s.touched m e h)
    ];
  }

  pub stands-all : StandsOver a g (losing lost touches) → StandsOver a g touches
  stands-all s = record {
    forest = s.forest;
    meters = sym (length-losing lost touches) ∙ s.meters;
    touched = λ m e h. (touch-lost lost touches g.ends m e (s.touched m e h)).1;
  }

  pub bare-lost : StandsOver a g (losing lost touches) → (m : ℕ) → lost m ≡ true → branch_at a m ≡ None
  bare-lost s m t = elim (cases_Option (branch_at a m)) [
    | inl n ↦ n
    | inr x ↦ clash t (touch-lost lost touches g.ends m x.0 (s.touched m x.0 x.1)).0
  ]

-- an assignment of what is left is one of all
pub assignment-all : (lost : ℕ → Bool) (ends : List (Option Ends)) (touches : List Touch) (B : List Pair)
    → IsAssignmentAt ends (losing lost touches) (every_item (losing lost touches)) B → IsAssignmentAt ends touches (every_item touches) B
assignment-all lost ends touches B b =
    let c = assignment-lost lost touches ends (every_item (losing lost touches)) B b in
    let same : every_item (losing lost touches) ≡ every_item touches = ap (λ n. every_of n) (length-losing lost touches) in
    record {
      of_items = λ p i. subst (λ (M : List ℕ). In p.0 M) same (In-filter_from (λ m. not (lost m)) p.0 (every_item (losing lost touches)) (c.of_items p i)).0;
      touched = c.touched;
      different = c.different;
      forest = c.forest;
    }
  where
    every_of : ℕ → List ℕ
    every_of n = range_with_len 0 n

-- no more pairs than of all
pub most-left : (lost : ℕ → Bool) (ends : List (Option Ends)) (touches : List Touch) (most : ℕ) → IsMost ends touches most → IsMost ends (losing lost touches) most
most-left lost ends touches most h B b = h B (assignment-all lost ends touches B b)

-- a longest assignment has as many pairs as there can be
pub most-longest : (g : Graph) (touches : List Touch) (a : Assignment) → IsLongest g touches a → IsMost g.ends touches (length (pairs a))
most-longest g touches a h B b = h.longest.none_longer B (every-to_live g.ends touches B b)

-- the greatest length of the live items that are left is that of the live items that aren't lost
pub rho-live_left : (lost : ℕ → Bool) (ends : List (Option Ends)) (touches : List Touch) (r : ℕ)
    → IsRhoAt ends (losing lost touches) (live_items ends (losing lost touches)) r → IsRhoAt ends touches (left_of lost (live_items ends touches)) r
rho-live_left lost ends touches r h =
    subst (λ (M : List ℕ). IsRhoAt ends touches M r) (ap (left_of lost) (live_items-losing lost touches ends) ∙ filter_twice (λ m. not (lost m)) (live_items ends touches))
    (rho-lost lost touches ends (live_items ends (losing lost touches)) r h)
  where
    filter_twice : (p : ℕ → Bool) (xs : List ℕ) → filter p (filter p xs) ≡ filter p xs
    filter_twice p [] = refl
    filter_twice p (x ∷ xs) = elim (cases_Bool (p x)) [ inl t ↦ rw t (rw t (ap (λ ys. x ∷ ys) (filter_twice p xs))) | inr f ↦ rw f (filter_twice p xs) ]

-- one pair less at most
pub length-dropped : (slots : List (Option ℕ)) (m : ℕ) → m < length slots → length (pairs_of slots) ≤ length (pairs_of (set slots m None)) + 1
length-dropped slots m l = elim (cases_Option (get_or slots m None)) [
  | inl n ↦
      let same : set slots m None ≡ slots = ap (λ o. set slots m o) (sym n) ∙ set-get_or slots m None in
      let e = ap (λ (s : List (Option ℕ)). length (pairs_of s)) same in
      omega (arith, e)
  | inr s ↦
      let back : set (set slots m None) m (Some s.0) ≡ slots = set-set slots m None (Some s.0) ∙ (ap (λ o. set slots m o) (sym s.1) ∙ set-get_or slots m None) in
      let more = length-put_bare (set slots m None) m s.0 (omega (arith, l, length-set slots m None)) (get_or-set_same slots m None None l) in
      let e = ap (λ (x : List (Option ℕ)). length (pairs_of x)) back in
      omega (arith, e, more)
]

-- one more of a list
listed_more : (list : List ℕ) (i : ℕ) → i < length list → (λ m. is_listed (take i list) m || eqb (get_or list i 0) m) ≡ is_listed (take (i + 1) list)
listed_more list i l = λ j m. sym (list_any_more (λ x. eqb x m) list i 0 l) j

-- while the listed meters are lost, from what is left and the assignment a on
pub record AreLost (g : Graph) (list : List ℕ) (before after : Meters) (a b : Assignment) (i : ℕ) : Type 0 where
  pub left : after ≡ record before { touches = losing (is_listed (take i list)) before.touches }
  pub slots : (m : ℕ) → branch_at b m ≡ cond (is_listed (take i list) m) None (branch_at a m)
  pub few : length (pairs a) ≤ length (pairs b) + i
  pub stands : StandsOver b g after.touches
  pub thawed : IsThawed b
  pub turns : b.turns ≡ a.turns
  pub whole : IsWhole b
  pub same_room : HasRoomOf a b

module _ (g : Graph) (list : List ℕ) (before : Meters) (a : Assignment) where
  pub AreLost-none : StandsOver a g before.touches → IsThawed a → IsWhole a → AreLost g list before before a a 0
  AreLost-none stands thawed whole = record {
    left = ap (λ (t : List Touch). record before { touches = t }) (sym (losing-none (is_listed []) before.touches (λ m l. refl)));
    slots = λ m. refl;
    few = omega arith;
    stands = stands;
    thawed = thawed;
    turns = refl;
    whole = whole;
    same_room = record { meters = refl; vertices = refl; branches = refl };
  }

  -- a further one is lost
  pub AreLost-more : (after next : Meters) (b c : Assignment) (i x : ℕ) → AreLost g list before after a b i → i < length list → get_or list i 0 ≡ x → x < length after.touches
      → next ≡ record after { touches = losing (λ k. eqb x k) after.touches } → c.slots ≡ set b.slots x None → StandsOver c g next.touches → IsThawed c → c.turns ≡ b.turns → IsWhole c → HasRoomOf b c
      → AreLost g list before next a c (i + 1)
  AreLost-more after next b c i x h l at low is slots stands thawed turns whole room =
      let len : length after.touches ≡ length b.slots = h.stands.meters in
      let test : (λ m. is_listed (take i list) m || eqb x m) ≡ is_listed (take (i + 1) list) =
      subst (λ (y : ℕ). (λ m. is_listed (take i list) m || eqb y m) ≡ is_listed (take (i + 1) list)) at (listed_more list i l) in
      record {
        left = is
            ∙ (ap (λ (y : Meters). record y { touches = losing (λ k. eqb x k) y.touches }) h.left
            ∙ ap (λ (t : List Touch). record before { touches = t })
            (losing-again (is_listed (take i list)) (λ k. eqb x k) before.touches ∙ ap (λ (p : ℕ → Bool). losing p before.touches) test));
        slots = λ m.
            let there : get_or (set b.slots x None) m None ≡ cond (is_listed (take i list) m || eqb x m) None (branch_at a m) =
            elim (cases_eq m x) [
              | inl e ↦ rw (e, eq-eqb x x refl) (get_or-set_same b.slots x None None (omega (arith, len, low)) ∙ sym (gone (is_listed (take i list) x) (branch_at a x)))
              | inr n ↦ get_or-set_other b.slots x m None None n ∙ (h.slots m ∙ still (is_listed (take i list) m) (eqb x m) (branch_at a m) (ne_eqb x m (λ e. n (sym e))))
            ] in
            ap (λ (s : List (Option ℕ)). get_or s m None) slots ∙ (there ∙ ap (λ (p : ℕ → Bool). cond (p m) None (branch_at a m)) test);
        few =
            let one = length-dropped b.slots x (omega (arith, len, low)) in
            let same = ap (λ (s : List (Option ℕ)). length (pairs_of s)) slots in
            let few = h.few in
            omega (arith, one, same, few);
        stands = stands;
        thawed = thawed;
        turns = turns ∙ h.turns;
        whole = whole;
        same_room = rooms a b c h.same_room room;
      }
    where
      gone : (b : Bool) (o : Option ℕ) → cond (b || true) None o ≡ None
      gone true o = refl
      gone false o = refl

      still : (b c : Bool) (o : Option ℕ) → c ≡ false → cond b None o ≡ cond (b || c) None o
      still true c o f = refl
      still false c o f = rw f refl

  pub AreLost-same : (after : Meters) (b : Assignment) (i : ℕ) → AreLost g list before after a b i → length after.touches ≡ length before.touches
  AreLost-same after b i h = ap (λ (y : Meters). length y.touches) h.left ∙ length-losing (is_listed (take i list)) before.touches

-- while the listed meters get back what they touched
pub record AreRegained (touches : List Touch) (list : List ℕ) (before after : Meters) (i : ℕ) : Type 0 where
  pub same : length after.touches ≡ length touches
  pub left : (lost : ℕ → Bool) → before.touches ≡ losing lost touches → after ≡ record before { touches = losing (λ m. lost m && not (is_listed (take i list) m)) touches }

pub AreRegained-none : (touches : List Touch) (list : List ℕ) (before : Meters) → length before.touches ≡ length touches → AreRegained touches list before before 0
AreRegained-none touches list before same = record {
  same = same;
  left = λ lost e. ap (λ (t : List Touch). record before { touches = t }) (e ∙ losing-same lost (λ m. lost m && not false) touches (λ m l. whole (lost m)));
}
  where
    whole : (b : Bool) → b ≡ (b && not false)
    whole true = refl
    whole false = refl

pub AreRegained-more : (touches : List Touch) (list : List ℕ) (before after next : Meters) (i x : ℕ) (t : Touch) → AreRegained touches list before after i → i < length list → get_or list i 0 ≡ x
    → t ≡ get_or touches x Nothing → next ≡ record after { touches = set after.touches x t } → AreRegained touches list before next (i + 1)
AreRegained-more touches list before after next i x t h l at is set_to = record {
  same = ap (λ (y : Meters). length y.touches) set_to ∙ (length-set after.touches x t ∙ h.same);
  left = λ lost e.
      let there : next ≡ record after { touches = set after.touches x (get_or touches x Nothing) } = set_to ∙ ap (λ (y : Touch). record after { touches = set after.touches x y }) is in
      let tested : (λ m. (lost m && not (is_listed (take i list) m)) && not (eqb x m)) ≡ (λ m. lost m && not (is_listed (take (i + 1) list) m)) = λ j m.
      (both (lost m) (is_listed (take i list) m) (eqb x m)
      ∙ ap (λ (b : Bool). lost m && not b) (ap (λ (y : ℕ). is_listed (take i list) m || eqb y m) (sym at) ∙ sym (list_any_more (λ y. eqb y m) list i 0 l))) j in
      there
      ∙ (ap (λ (y : Meters). record y { touches = set y.touches x (get_or touches x Nothing) }) (h.left lost e)
      ∙ ap (λ (u : List Touch). record before { touches = u })
      (losing-but (λ m. lost m && not (is_listed (take i list) m)) touches x ∙ ap (λ (p : ℕ → Bool). losing p touches) tested));
}
  where
    both : (a b c : Bool) → ((a && not b) && not c) ≡ (a && not (b || c))
    both false b c = refl
    both true true c = refl
    both true false c = refl
