-- Assignments of a case and of its outage cases.
use Rattle.std.proofs.Common.{inl, inr, ◌≡◌, ℕ, ◌≤◌, true, false, List, length, get_or, sym, ap, ◌∙◌, subst, arith}
use Rattle.std.specs.List.{range_with_len}
use Rattle.obs_graph.specs.Positions.{IsForestAt}
use Rattle.obs_case.specs.declared.rows.Branch.{Branch}
use Rattle.obs_case.specs.Tables.{IsValid, Tables}
use Rattle.obs_case.proofs.RowLemmas.{length-changed}
use Rattle.obs_case.proofs.ValidLemmas.{valid-with_branch_inservice}
use Rattle.obs_matroid.specs.Lists.{In}
use Rattle.obs_matroid.specs.Assignments.{Pair, branches}
use Rattle.obs_meter.specs.Assignments.{IsAssignmentAt}
use Rattle.obs_meter.specs.Touches.{every_item, touch_at}
use Rattle.obs_meter.proofs.Assigned.{every-to_live, live-to_every, live_items-distinct, rho_at-is, rho_at-unique}
use Rattle.obs_assign.specs.Assignment.{Assignment}
use Rattle.obs_assign.specs.inner.Assignment.{pairs}
use Rattle.obs_assign.specs.inner.Still.{still}
use Rattle.obs_assign.proofs.Standing.{IsAssignmentAt-standing, still_from}
use Rattle.obs_exchange.specs.inner.Longest.{IsMost}
use Rattle.obs_network.specs.inner.Edited.{ArePresent}
use Rattle.obs_network.specs.Network.{case_branches, case_meters, case_vertex_count, network_of, rows_of}
use Rattle.obs_network.specs.Observable.{IsRankOf, case_live_meters, case_rank}
use Rattle.obs_network.proofs.KeptForests.{forest_with_branch}
use Rattle.obs_network.proofs.OfCase.{case_branches-are, length-case_branches, length-case_meters}
use Rattle.obs_network.proofs.Outed.{present_before, touched_before}
use Rattle.obs_kept.specs.inner.Kept.{AreLongest}
use Rattle.obs_kept.proofs.StandingStill.{present-touched, still_all}
use Rattle.obs_network.specs.Parted.{outage_case}
use Rattle.obs_outage.specs.inner.Outages.{AllStand}
use Rattle.obs_outage.proofs.Restored.{out_or_back}

-- a longest assignment has the rank of its case
pub rank_longest : (t : Tables) → IsValid t → (a : Assignment) → AreLongest t a → length (pairs a) ≡ case_rank t
unfolding case_rank
rank_longest t v a h =
    rho_at-unique (case_branches t) (case_meters t) (case_live_meters t) (length (pairs a)) (case_rank t) h.longest
    (rho_at-is (case_vertex_count t) (case_branches t) (case_meters t) (case_live_meters t) (case_branches-are t v) (live_items-distinct (case_branches t) (case_meters t)))

pub rank_is : (t : Tables) → IsValid t → IsRankOf t (case_rank t)
unfolding case_rank
rank_is t v = rho_at-is (case_vertex_count t) (case_branches t) (case_meters t) (case_live_meters t) (case_branches-are t v) (live_items-distinct (case_branches t) (case_meters t))

-- no assignment is longer
pub most_here : (t : Tables) (a : Assignment) → AreLongest t a → IsMost (case_branches t) (case_meters t) (length (pairs a))
most_here t a h = λ B x. h.longest.none_longer B (every-to_live (case_branches t) (case_meters t) B x)

module _ (t : Tables) (v : IsValid t) (e : ℕ) where
  abbrev out : Tables
  out = outage_case t e

  pub out_valid : IsValid out
  out_valid = valid-with_branch_inservice t v e false

  pub as_many_rows : length out.branches ≡ length t.branches
  as_many_rows = length-changed (λ (row : Branch). record row { inservice = false }) t.branches e

  pub same_rows : rows_of out ≡ rows_of t
  same_rows = ap (λ (n : ℕ). record (rows_of t) { branches = n }) as_many_rows

  pub as_many_meters : length (case_meters out) ≡ length (case_meters t)
  as_many_meters = length-case_meters out ∙ sym (length-case_meters t)

  pub as_many_positions : length (case_branches out) ≡ length (case_branches t)
  as_many_positions = omega (arith, length-case_branches out, length-case_branches t, as_many_rows)

  forest_before : (L : List ℕ) → IsForestAt (case_branches out) L → ArePresent (case_branches t) L → IsForestAt (case_branches t) L
  forest_before L f here =
      elim (out_or_back t e) [
        | inl is ↦ subst (λ (x : Tables). IsForestAt (case_branches x) L) is f
        | inr is ↦
            subst (λ (x : Tables). IsForestAt (case_branches x) L) is
            (forest_with_branch out out_valid e true L f (subst (λ (x : Tables). ArePresent (case_branches x) L) (sym is) here))
      ]

  -- an assignment of an outage case is one of the case
  pub assigns_before : (B : List Pair) → IsAssignmentAt (case_branches out) (case_meters out) (every_item (case_meters out)) B
      → IsAssignmentAt (case_branches t) (case_meters t) (every_item (case_meters t)) B
  assigns_before B x = record {
    of_items = λ p i. subst (λ n. In p.0 (range_with_len 0 n)) as_many_meters (x.of_items p i);
    touched = λ p i. touched_before t v e p.0 p.1 (x.touched p i);
    different = x.different;
    forest = forest_before (branches B) x.forest (λ k d l. present_before t v e (get_or (branches B) k d) (x.forest.present k d l));
  }

  -- so no assignment of the outage case is longer than a longest one of the case
  pub most_out : (a : Assignment) → AreLongest t a → IsMost (case_branches out) (case_meters out) (length (pairs a))
  most_out a h = λ B x. most_here t a h B (assigns_before B x)

  -- pairs of the case that all stand in the outage case
  module _ (a : Assignment) (h : AreLongest t a) (all : AllStand t a e) where
    touched_out : (p : Pair) → In p (pairs a) → In p.1 (touch_at (case_branches out) (case_meters out) p.0)
    touched_out p i = (still_from (case_branches out) (case_meters out) (pairs a) p (subst (λ (l : List Pair). In p l) (sym all) i)).1

    assigned : IsAssignmentAt (case_branches t) (case_meters t) (every_item (case_meters t)) (pairs a)
    assigned = IsAssignmentAt-standing a (network_of t).graph (case_meters t) h.whole h.stands

    forest_out : IsForestAt (case_branches out) (branches (pairs a))
    forest_out = forest_with_branch t v e false (branches (pairs a)) assigned.forest (present-touched (case_branches out) (case_meters out) (pairs a) touched_out)

    -- are a forest there
    pub all_forest : IsForestAt (case_branches out) (branches (still (case_branches out) (case_meters out) (pairs a)))
    all_forest = subst (λ (l : List Pair). IsForestAt (case_branches out) (branches l)) (sym all) forest_out

    pub all_long : length (pairs a) ≤ length (still (case_branches out) (case_meters out) (pairs a))
    all_long = let e = ap (λ (l : List Pair). length l) all in omega (arith, e)

    -- and no longer than a longest assignment there
    pub all_most : (b : Assignment) → AreLongest out b → length (pairs a) ≤ length (pairs b)
    all_most b k = k.longest.none_longer (pairs a) (every-to_live (case_branches out) (case_meters out) (pairs a) (record {
      of_items = λ p i. subst (λ n. In p.0 (range_with_len 0 n)) (sym as_many_meters) (assigned.of_items p i);
      touched = touched_out;
      different = assigned.different;
      forest = forest_out;
    }))

  -- pairs of the outage case all stand in the case
  module _ (b : Assignment) (k : AreLongest out b) where
    assigned_out : IsAssignmentAt (case_branches out) (case_meters out) (every_item (case_meters out)) (pairs b)
    assigned_out = IsAssignmentAt-standing b (network_of out).graph (case_meters out) k.whole k.stands

    still_back : still (case_branches t) (case_meters t) (pairs b) ≡ pairs b
    still_back = still_all (case_branches t) (case_meters t) (pairs b) (assigns_before (pairs b) assigned_out).touched

    pub back_forest : IsForestAt (case_branches t) (branches (still (case_branches t) (case_meters t) (pairs b)))
    back_forest = subst (λ (l : List Pair). IsForestAt (case_branches t) (branches l)) (sym still_back) (assigns_before (pairs b) assigned_out).forest

    pub back_long : length (still (case_branches t) (case_meters t) (pairs b)) ≡ length (pairs b)
    back_long = ap (λ (l : List Pair). length l) still_back

  -- no outage raises the rank
  pub rank_falls : case_rank out ≤ case_rank t
  rank_falls =
      let r = rank_is out out_valid in
      let s = rank_is t v in
      let x = assigns_before r.longest (live-to_every (case_branches out) (case_meters out) r.longest r.assigns) in
      let few = s.none_longer r.longest (every-to_live (case_branches t) (case_meters t) r.longest x) in
      let long = r.long in
      omega (arith, few, long)
