-- Searches, one after the other, until there are pairs enough or a closed set.
use Rattle.std.proofs.Common.{◌≡◌, ◌≢◌, ℕ, zero, suc, ◌+◌, ◌-◌, ◌<◌, ◌≤◌, Bool, true, false, None, List, [], length, refl, sym, ap, ◌∙◌, subst, inl, inr, arith}
use Rattle.std.proofs.lemmas.Bool.{cases_Bool}
use Rattle.std.specs.Prelude.{MatchBool}
use Rattle.obs_graph.specs.Positions.{AreBranches, ends_of}
use Rattle.obs_graph.specs.Graph.{Graph}
use Rattle.obs_graph.specs.Joined.{rank}
use Rattle.obs_graph.specs.declared.Ends.{Ends}
use Rattle.obs_graph.proofs.Ranks.{rank-below, rank-le-n}
use Rattle.obs_matroid.specs.Lists.{In}
use Rattle.obs_matroid.specs.Assignments.{Pair, branches, items}
use Rattle.obs_matroid.proofs.Bounds.{length-branches}
use Rattle.obs_matroid.proofs.Ranks.{rank-independent}
use Rattle.obs_meter.specs.Spanned.{graph_matroid}
use Rattle.obs_meter.proofs.Instance.{IsMatroid-graph}
use Rattle.obs_meter.specs.declared.Touch.{Touch}
use Rattle.obs_meter.specs.inner.Sizes.{HasRoomFor, Sizes}
use Rattle.obs_assign.specs.Assignment.{Assignment}
use Rattle.obs_assign.specs.inner.Assignment.{HasRoomOf, IsWhole, StandsOver, branch_at, has_flag, is_frozen, pairs}
use Rattle.obs_exchange.specs.declared.Sources.TheVariants.{All}
use Rattle.obs_exchange.specs.inner.Found.{HasClosed, HasGrown}
use Rattle.obs_exchange.specs.inner.Laws.{HasClosedSet, IsThawed}
use Rattle.obs_exchange.specs.inner.Lengthened.{HasLengthened}
use Rattle.obs_exchange.proofs.AtGraph.{IsAssignment-live}

-- the same room twice over
pub rooms : (a b c : Assignment) → HasRoomOf a b → HasRoomOf b c → HasRoomOf a c
rooms a b c h k = record { meters = k.meters ∙ h.meters; vertices = k.vertices ∙ h.vertices; branches = k.branches ∙ h.branches }

-- there is still room where the sizes are the same
pub room_again : (g : Graph) (touches : List Touch) (s t : Sizes) → t ≡ s → HasRoomFor s g touches → HasRoomFor t g touches
room_again g touches s t e r = subst (λ (x : Sizes). HasRoomFor x g touches) (sym e) r

-- between two searches, which began with the assignment a: each one found a pair
pub record IsLengthening (g : Graph) (touches : List Touch) (a b : Assignment) (searches : ℕ) : Type 0 where
  pub stands : StandsOver b g touches
  pub keeps : (m : ℕ) → branch_at a m ≢ None → branch_at b m ≢ None
  pub frozen : b.frozen ≡ a.frozen
  pub frozen_pairs : (m : ℕ) → is_frozen a m ≡ true → branch_at b m ≡ branch_at a m
  pub longer : length (pairs b) ≡ length (pairs a) + searches
  pub turns_rise : a.turns ≤ b.turns
  pub turns_found : b.turns ≤ a.turns + searches
  pub none : searches ≡ 0 → b ≡ a
  pub same_room : HasRoomOf a b

-- no search yet
pub IsLengthening-none : (g : Graph) (touches : List Touch) (a : Assignment) → StandsOver a g touches → IsLengthening g touches a a 0
IsLengthening-none g touches a stands = record {
  stands = stands;
  keeps = λ m h. h;
  frozen = refl;
  frozen_pairs = λ m t. refl;
  longer = omega arith;
  turns_rise = omega arith;
  turns_found = omega arith;
  none = λ e. refl;
  same_room = record { meters = refl; vertices = refl; branches = refl };
}

module _ (g : Graph) (touches : List Touch) (a b c : Assignment) (n : ℕ) (l : IsLengthening g touches a b n) where
  -- one search more, which found a pair
  pub IsLengthening-grown : (m : ℕ) → b.turns < 18446744073709551616 → HasGrown g.ends touches All b c m → StandsOver c g touches → HasRoomOf b c → IsLengthening g touches a c (n + 1)
  IsLengthening-grown m low h stands room = record {
    stands = stands;
    keeps = λ k p. h.keeps k (l.keeps k p);
    frozen = h.frozen ∙ l.frozen;
    frozen_pairs = λ k t. h.frozen_pairs k (ap (λ (f : List Bool). has_flag f k) l.frozen ∙ t) ∙ l.frozen_pairs k t;
    longer = omega (arith, h.longer, l.longer);
    turns_rise = omega (arith, h.turns, l.turns_rise, low);
    turns_found = omega (arith, h.turns, l.turns_found);
    none = λ e. absurd (omega (arith, e));
    same_room = rooms a b c l.same_room room;
  }

  -- one search more, which found none
  pub HasLengthened-closed : (flags : List Bool) → HasClosed g.ends touches All b c flags → HasLengthened a c (n + 1)
  HasLengthened-closed flags k = subst (λ (d : Assignment). HasLengthened a d (n + 1)) (sym k.same) (record {
    keeps = l.keeps;
    frozen = l.frozen;
    frozen_pairs = l.frozen_pairs;
    grown = omega (arith, l.longer);
    all_but_one = omega (arith, l.longer);
    turns_rise = l.turns_rise;
    turns_found = omega (arith, l.turns_found, l.longer);
    none = λ e. absurd (omega (arith, e));
  })

  -- pairs enough
  pub HasLengthened-enough : HasLengthened a b n
  HasLengthened-enough = record {
    keeps = l.keeps;
    frozen = l.frozen;
    frozen_pairs = l.frozen_pairs;
    grown = omega (arith, l.longer);
    all_but_one = omega (arith, l.longer);
    turns_rise = l.turns_rise;
    turns_found = omega (arith, l.turns_found, l.longer);
    none = l.none;
  }

-- a search that changed nothing left a closed set of what is there
pub Closed-again : (g : Graph) (touches : List Touch) (b c : Assignment) (flags : List Bool) → HasClosed g.ends touches All b c flags → HasClosed g.ends touches All c c flags
Closed-again g touches b c flags k = subst (λ (d : Assignment). HasClosed g.ends touches All d c flags) (sym k.same) k

-- what is frozen afterwards was frozen before
pub thawed-lengthened : (a b : Assignment) (searches : ℕ) → HasLengthened a b searches → IsThawed a → IsThawed b
thawed-lengthened a b searches h thawed m = ap (λ (f : List Bool). has_flag f m) h.frozen ∙ thawed m

-- without a pair nothing is frozen
pub bare-thawed : (a : Assignment) → IsWhole a → pairs a ≡ [] → IsThawed a
bare-thawed a whole none m =
    elim (cases_Bool (is_frozen a m)) [
      | inr f ↦ f
      | inl t ↦ absurd (subst (λ (A : List Pair). In m (items A)) none (whole.paired.frozen_have m t))
    ]

-- the closed set with what is true of the pairs
pub closed_set : (g : Graph) (touches : List Touch) (a : Assignment) (flags : List Bool) → AreBranches g.vertices g.ends → IsWhole a → StandsOver a g touches
    → HasClosed g.ends touches All a a flags → HasClosedSet a g touches (has_flag flags)
closed_set g touches a flags ok whole stands k = record { branches = ok; whole = whole; stands = stands; least = k.least }

-- fewer pairs than vertices, where there are any
pub pairs-below_vertices : (g : Graph) (touches : List Touch) (a : Assignment) → AreBranches g.vertices g.ends → IsWhole a → StandsOver a g touches → length (pairs a) ≤ g.vertices - 1
pairs-below_vertices g touches a ok whole stands =
    let n = g.vertices in
    let mat = graph_matroid n g.ends in
    let A = IsAssignment-live n a g touches whole stands in
    let e = rank-independent mat (IsMatroid-graph n g.ends ok) (branches (pairs a)) A.independent in
    let l = length-branches (pairs a) in
    let few = rank-few n (ends_of g.ends (branches (pairs a))) in
    omega (arith, e, l, few)
  where
    rank-few : (n : ℕ) (es : List Ends) → rank n es ≤ n - 1
    rank-few zero es = omega (arith, rank-le-n 0 es)
    rank-few (suc n) es = omega (arith, rank-below n es)

-- no network has 4294967295 pairs: asked for so many, the searches end with a closed set
pub closed_at_last : (g : Graph) (touches : List Touch) (a : Assignment) (flags : List Bool) (closed : Bool) → AreBranches g.vertices g.ends → IsWhole a → StandsOver a g touches → g.vertices ≤ 4294967295
    → MatchBool closed (HasClosed g.ends touches All a a flags) (4294967295 ≤ length (pairs a)) → HasClosed g.ends touches All a a flags
closed_at_last g touches a flags true ok whole stands low k = k
closed_at_last g touches a flags false ok whole stands low k = let few = pairs-below_vertices g touches a ok whole stands in absurd (omega (arith, few, low, k))
