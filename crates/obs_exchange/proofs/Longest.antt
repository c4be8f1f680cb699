-- Searches end with a longest assignment.
use Rattle.std.proofs.Common.{ℕ, ◌≤◌, Bool, true, false, ◌≡◌, List, [], length, refl, arith}
use Rattle.std.specs.Prelude.{MatchBool}
use Rattle.obs_graph.specs.Positions.{AreBranches}
use Rattle.obs_graph.specs.Graph.{Graph}
use Rattle.obs_meter.specs.declared.Touch.{Touch}
use Rattle.obs_meter.proofs.Assigned.{every-to_live, live-to_every}
use Rattle.obs_assign.specs.Assignment.{Assignment}
use Rattle.obs_assign.specs.inner.Assignment.{IsWhole, StandsOver, has_flag, pairs}
use Rattle.obs_assign.proofs.Standing.{IsAssignmentAt-standing}
use Rattle.obs_exchange.specs.declared.Sources.TheVariants.{All}
use Rattle.obs_exchange.specs.inner.Found.{HasClosed, HasGrown}
use Rattle.obs_exchange.specs.inner.Laws.{IsThawed}
use Rattle.obs_exchange.specs.inner.Lengthened.{HasLengthened}
use Rattle.obs_exchange.proofs.Lawful.{closed_rho}
use Rattle.obs_exchange.proofs.Lengthening.{bare-thawed, closed_set, thawed-lengthened}
use Rattle.obs_exchange.specs.inner.Longest.{IsLongest, IsMost}

-- the searches ended with a closed set, or with as many pairs as there can be
pub IsLongest-ended : (g : Graph) (touches : List Touch) (a : Assignment) (flags : List Bool) (most : ℕ) (closed : Bool) → AreBranches g.vertices g.ends
    → StandsOver a g touches → IsWhole a → IsThawed a → IsMost g.ends touches most
    → MatchBool closed (HasClosed g.ends touches All a a flags) (most ≤ length (pairs a)) → IsLongest g touches a
IsLongest-ended g touches a flags most true ok stands whole thawed bound k = record {
  stands = stands;
  whole = whole;
  thawed = thawed;
  longest = closed_rho a g touches (has_flag flags) (closed_set g touches a flags ok whole stands k) thawed;
}
IsLongest-ended g touches a flags most false ok stands whole thawed bound full = record {
  stands = stands;
  whole = whole;
  thawed = thawed;
  longest = record {
    longest = pairs a;
    assigns = every-to_live g.ends touches (pairs a) (IsAssignmentAt-standing a g touches whole stands);
    long = refl;
    none_longer = λ B x. let few = bound B (live-to_every g.ends touches B x) in omega (arith, few, full);
  };
}

-- searches that began without a pair end with a longest assignment
pub IsLongest-filled : (g : Graph) (touches : List Touch) (a b : Assignment) (searches : ℕ) (flags : List Bool) (most : ℕ) (closed : Bool) → AreBranches g.vertices g.ends
    → IsWhole a → pairs a ≡ [] → HasLengthened a b searches → StandsOver b g touches → IsWhole b → IsMost g.ends touches most
    → MatchBool closed (HasClosed g.ends touches All b b flags) (most ≤ length (pairs b)) → IsLongest g touches b
IsLongest-filled g touches a b searches flags most closed ok whole none grown stands whole_after bound k =
    IsLongest-ended g touches b flags most closed ok stands whole_after (thawed-lengthened a b searches grown (bare-thawed a whole none)) bound k

-- a longest assignment doesn't grow
pub Grown-never : (g : Graph) (touches : List Touch) (a b : Assignment) (m : ℕ) → IsLongest g touches a → IsWhole b → StandsOver b g touches → HasGrown g.ends touches All a b m → ⊥
Grown-never g touches a b m h whole stands k =
    let few = h.longest.none_longer (pairs b) (every-to_live g.ends touches (pairs b) (IsAssignmentAt-standing b g touches whole stands)) in
    let l = k.longer in
    absurd (omega (arith, few, l))
