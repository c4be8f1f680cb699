-- Branches without which there is a pair less, and the outage of one of them.
use Rattle.std.proofs.Common.{◌≡◌, ℕ, Bool, true, false, Option, Some, None, List, get_or, sym, ◌∙◌, subst, inl, inr, arith}
use Rattle.std.proofs.lemmas.Bool.{cases_Bool}
use Rattle.obs_graph.specs.declared.Ends.{Ends}
use Rattle.obs_graph.specs.Graph.{Graph}
use Rattle.obs_graph.specs.Positions.{AreBranches}
use Rattle.obs_matroid.specs.Lists.{In, other_than, without}
use Rattle.obs_matroid.specs.Assignments.{branches}
use Rattle.obs_matroid.proofs.Lists.{In-filter, IsDistinct-filter, clash, other_true}
use Rattle.obs_matroid.proofs.Pairs.{In-branches}
use Rattle.obs_meter.specs.declared.Touch.{Touch}
use Rattle.obs_meter.specs.declared.Touch.TheVariants.{Edge, Nothing}
use Rattle.obs_meter.specs.Assignments.{rho_at}
use Rattle.obs_meter.specs.Held.{Meters}
use Rattle.obs_meter.specs.Touches.{live_items, touch_at, touched}
use Rattle.obs_meter.proofs.Assigned.{every-to_live, live_items-distinct, rho_at-is}
use Rattle.obs_meter.proofs.Touched.{itself_from, live-from_In}
use Rattle.obs_assign.specs.Assignment.{Assignment}
use Rattle.obs_assign.specs.inner.Assignment.{branch_at, has_flag}
use Rattle.obs_exchange.specs.declared.Sources.TheVariants.{All}
use Rattle.obs_exchange.specs.Critical.{critical_at}
use Rattle.obs_exchange.specs.inner.Found.{HasClosed}
use Rattle.obs_exchange.specs.inner.Laws.{HasClosedSet}
use Rattle.obs_exchange.specs.inner.Longest.{IsLongest}
use Rattle.obs_exchange.proofs.Lawful.{closed_noncritical, critical_at-exactly}
use Rattle.obs_network.specs.Network.{Network}
use Rattle.obs_kept.specs.inner.Kept.{AreLongestOver}
use Rattle.obs_outage.specs.inner.Costly.{AreCostly, IsCostly}

-- a meter that touches one branch by its position touches no other
edge_alone : (ends : List (Option Ends)) (touches : List Touch) (m f p q : ℕ) → get_or touches m Nothing ≡ Edge f → In p (touch_at ends touches m) → In q (touch_at ends touches m) → p ≡ q
edge_alone ends touches m f p q is i j =
    let at : (k : ℕ) → In k (touch_at ends touches m) → k ≡ f = λ k l. (itself_from (get_or ends f None) f k (subst (λ t. In k (touched ends t)) is l)).0 in
    at p i ∙ sym (at q j)

module _ (g : Graph) (touches : List Touch) (a : Assignment) (h : IsLongest g touches a) (marks : List Bool) (c : HasClosedSet a g touches (has_flag marks)) where
  -- the branch of a critical flow is costly
  pub costly_flow : (m e f : ℕ) → branch_at a m ≡ Some e → get_or touches m Nothing ≡ Edge f → has_flag marks m ≡ false → IsCostly g.ends touches e
  costly_flow m e f has edge out = record {
    shorter = λ r rho B b free.
        let n = g.vertices in
        let M = live_items g.ends touches in
        let touch : In e (touch_at g.ends touches m) = h.stands.touched m e has in
        let live = live-from_In g.ends touches m e touch in
        let critical : critical_at n g.ends touches m ≡ true =
        elim (cases_Bool (critical_at n g.ends touches m)) [
          | inl y ↦ y
          | inr k ↦ clash ((closed_noncritical a g touches (has_flag marks) c h.thawed m).1 (live, k)) out
        ] in
        let is = ((critical_at-exactly n g.ends touches c.branches m).0 critical).1 in
        let left = rho_at n g.ends touches (without m M) in
        let has_left = rho_at-is n g.ends touches (without m M) c.branches (IsDistinct-filter (other_than m) M (live_items-distinct g.ends touches)) in
        let falls = is.falls r left rho has_left in
        let at_most = has_left.none_longer B
        (record {
          of_items = λ p i. In-filter (other_than m) p.0 M ((every-to_live g.ends touches B b).of_items p i)
              (other_true m p.0 (λ same. free (subst (λ k. In k (branches B))
              (edge_alone g.ends touches m f p.1 e edge (subst (λ k. In p.1 (touch_at g.ends touches k)) same (b.touched p i)) touch)
              (In-branches B p i))));
          touched = b.touched;
          different = b.different;
          forest = b.forest;
        }) in
        omega (arith, falls, at_most);
  }

-- longest pairs over a network are longest over its graph and its meters
over_parts : (n : Network) (g : Graph) (ms : Meters) → g ≡ n.graph → ms ≡ n.meters → (a b : Assignment) → b ≡ a → AreLongestOver n a → IsLongest g ms.touches b
over_parts n g ms gg mm a b same h =
    subst (λ (x : Assignment). IsLongest g ms.touches x) (sym same)
    (subst (λ (x : Graph). IsLongest x ms.touches a) (sym gg) (subst (λ (x : Meters). IsLongest n.graph x.touches a) (sym mm) h))

-- what a closing search over a network leaves
module _ (n : Network) (g : Graph) (ms : Meters) (gg : g ≡ n.graph) (mm : ms ≡ n.meters) (ok : AreBranches g.vertices g.ends) (a b : Assignment) (same : b ≡ a) (h : AreLongestOver n a) where
  pub longest_there : IsLongest g ms.touches b
  longest_there = over_parts n g ms gg mm a b same h

  pub closed_there : (reached : List Bool) → HasClosed g.ends ms.touches All b b reached → HasClosedSet b g ms.touches (has_flag reached)
  closed_there reached c = record { branches = ok; whole = longest_there.whole; stands = longest_there.stands; least = c.least }

  pub costly_network : (flags : List Bool) → ((e : ℕ) → has_flag flags e ≡ true → IsCostly g.ends ms.touches e) → AreCostly n flags
  costly_network flags f e t = subst (λ (x : Meters). IsCostly n.graph.ends x.touches e) mm (subst (λ (x : Graph). IsCostly x.ends ms.touches e) gg (f e t))
