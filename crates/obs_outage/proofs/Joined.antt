-- The outage of a row whose ends the other rows join.
use Rattle.std.proofs.Common.{◌≡◌, ◌≢◌, ℕ, suc, ◌+◌, ◌-◌, ◌<◌, ◌≤◌, inl, inr, true, false, Some, None, List, Option, length, get_or, take, sym, ap, ◌∙◌, subst, arith}
use Rattle.std.specs.Prelude.{IsSome, is_some}
use Rattle.std.specs.List.{range_with_len}
use Rattle.std.proofs.lemmas.Bool.{true≢false}
use Rattle.std.proofs.Math.Seq.{take-append_seam}
use Rattle.obs_graph.specs.declared.Ends.{Ends}
use Rattle.obs_case.specs.Tables.{IsValid, Tables}
use Rattle.obs_matroid.specs.Lists.{In, other_than}
use Rattle.obs_matroid.specs.Assignments.{Pair, branches}
use Rattle.obs_matroid.specs.inner.Assignments.{part}
use Rattle.obs_matroid.proofs.Exchange.{length-put_in}
use Rattle.obs_matroid.proofs.Lists.{cases_In, other_ne}
use Rattle.obs_matroid.proofs.Pairs.{In-branches, In-branches_from, In-items, In-part_from, IsDistinct-part, independent_part, same_pair_by_branch}
use Rattle.obs_meter.specs.declared.Touch.TheVariants.{Nothing}
use Rattle.obs_meter.specs.Assignments.{IsAssignmentAt}
use Rattle.obs_meter.specs.Touches.{every_item, touch_at}
use Rattle.obs_meter.specs.Spanned.{graph_matroid}
use Rattle.obs_meter.proofs.Assigned.{every-to_live, from_matroid, independent-from_forest_at, live-to_every}
use Rattle.obs_meter.proofs.Instance.{IsMatroid-graph}
use Rattle.obs_meter.proofs.Touched.{touched-present}
use Rattle.obs_assign.specs.Assignment.{Assignment}
use Rattle.obs_assign.specs.inner.Assignment.{branch_at, pairs}
use Rattle.obs_assign.proofs.Slotted.{branch_slot, distinct_branches}
use Rattle.obs_assign.proofs.Standing.{IsAssignmentAt-standing}
use Rattle.obs_network.specs.Network.{Network, case_angles, case_branches, case_meters, case_needed, case_rows, case_vertex_count, network_of}
use Rattle.obs_network.specs.Observable.{case_rank}
use Rattle.obs_network.proofs.KeptForests.{forest_with_branch}
use Rattle.obs_network.proofs.OfCase.{case_branches-are, length-case_rows}
use Rattle.obs_kept.specs.inner.Kept.{AreLongest, AreLongestOver}
use Rattle.obs_kept.proofs.StandingStill.{present-touched}
use Rattle.obs_outage.specs.declared.outages.Outage.{Outage}
use Rattle.obs_outage.specs.Outages.{outage_of, outage_rows}
use Rattle.obs_outage.specs.inner.Costly.{IsCostly}
use Rattle.obs_outage.specs.inner.Settled.{IsRankWithout}
use Rattle.obs_outage.specs.inner.Spared.{IsSpared}
use Rattle.obs_network.specs.inner.Edited.{AreSameBut}
use Rattle.obs_network.specs.Parted.{outage_case}
use Rattle.obs_network.specs.inner.Parted.{AreJoinedWithout}
use Rattle.obs_outage.proofs.InOutage.{as_many_meters, as_many_rows, assigns_before, out_valid, rank_falls, rank_is, rank_longest}
use Rattle.obs_outage.proofs.Restored.{row_gone, row_here, row_low, row_present}
use Rattle.obs_network.proofs.Spared.{joined_by_rows}
use Rattle.obs_network.proofs.SparedItems.{same_but_one}

-- a branch that no pair of a longest assignment has is spared
pub spared_over : (n : Network) (a : Assignment) → AreLongestOver n a → (e : ℕ) → ((m : ℕ) → branch_at a m ≢ Some e) → IsSpared n.graph.ends n.meters.touches e
spared_over n a h e out = record {
  pairs = pairs a;
  assigns = IsAssignmentAt-standing a n.graph n.meters.touches h.whole h.stands;
  longest = λ B x. h.longest.none_longer B (every-to_live n.graph.ends n.meters.touches B x);
  free = λ i. let s = branch_slot a.slots e i in out s.0 s.1;
}

-- an entry, by its parts
pub entry_by : (t : Tables) (e : ℕ) (o : Outage) → o.branch ≡ e → o.rank ≡ case_rank (outage_case t e) → o.needed ≡ case_needed (outage_case t e) → o ≡ outage_of t e
entry_by t e o is rank needed =
    let of : ℕ → ℕ → ℕ → Outage = λ x y z. record { branch = x; rank = y; needed = z } in
    ap (λ x. of x o.rank o.needed) is ∙ ap (λ y. of e y o.needed) rank ∙ ap (λ z. of e (case_rank (outage_case t e)) z) needed

-- the rows are the first branches
pub rows_first : (t : Tables) → take (length t.branches) (case_branches t) ≡ case_rows t
unfolding case_branches
rows_first t = subst (λ k. take k (case_branches t) ≡ case_rows t) (length-case_rows t) (take-append_seam (case_rows t) (case_angles t))

module _ (t : Tables) (v : IsValid t) (e : ℕ) where
  abbrev out : Tables
  out = outage_case t e

  -- where the walk finds the ends joined, nothing but the branch changes
  pub same_by_walk : (i : In e (outage_rows t)) (rows : ℕ) → rows ≡ length t.branches → AreJoinedWithout (take rows (case_branches t)) e → AreSameBut e (network_of t) (network_of out)
  same_by_walk i rows many joined =
      let low = row_low t e i in
      let rs : take rows (case_branches t) ≡ case_rows t = ap (λ k. take k (case_branches t)) many ∙ rows_first t in
      let present : IsSome (get_or (case_rows t) e None) = ap (λ o. is_some o) (sym (row_here t e low)) ∙ row_present t e i in
      same_but_one t v e low (joined_by_rows t v e present (subst (λ (xs : List (Option Ends)). AreJoinedWithout xs e) rs joined))

  -- where nothing but the branch goes
  module _ (alone : (m k : ℕ) → k ≢ e → In k (touch_at (case_branches t) (case_meters t) m) → In k (touch_at (case_branches out) (case_meters out) m)) where
    -- an assignment without the branch is one of the outage case
    assigns_out : (B : List Pair) → IsAssignmentAt (case_branches t) (case_meters t) (every_item (case_meters t)) B → (In e (branches B) → ⊥)
        → IsAssignmentAt (case_branches out) (case_meters out) (every_item (case_meters out)) B
    assigns_out B x free =
        let touched : (p : Pair) → In p B → In p.1 (touch_at (case_branches out) (case_meters out) p.0) =
        λ p i. alone p.0 p.1 (λ is. free (subst (λ k. In k (branches B)) is (In-branches B p i))) (x.touched p i) in
        record {
          of_items = λ p i. subst (λ n. In p.0 (range_with_len 0 n)) (sym (as_many_meters t v e)) (x.of_items p i);
          touched = touched;
          different = x.different;
          forest = forest_with_branch t v e false (branches B) x.forest (present-touched (case_branches out) (case_meters out) B touched);
        }

    -- so a spared branch can be missed
    pub spared_rank : IsSpared (case_branches t) (case_meters t) e → case_rank out ≡ case_rank t
    spared_rank s =
        let r = rank_is t v in
        let q = rank_is out (out_valid t v e) in
        let few = q.none_longer s.pairs (every-to_live (case_branches out) (case_meters out) s.pairs (assigns_out s.pairs s.assigns s.free)) in
        let most = s.longest r.longest (live-to_every (case_branches t) (case_meters t) r.longest r.assigns) in
        let long = r.long in
        let falls = rank_falls t v e in
        omega (arith, few, most, long, falls)

    -- all pairs but that of the branch are an assignment of the outage case
    others_out : (a : Assignment) → AreLongest t a → (m : ℕ) → In (m, e) (pairs a) → length (pairs a) ≤ case_rank out + 1
    others_out a h m i =
        let n = case_vertex_count t in
        let ends = case_branches t in
        let touches = case_meters t in
        let M = every_item touches in
        let C = part (other_than m) (pairs a) in
        let A = IsAssignmentAt-standing a (network_of t).graph touches h.whole h.stands in
        let independent = independent-from_forest_at n ends (branches (pairs a)) A.forest in
        let x = from_matroid n ends touches M C
        (record {
          of_items = λ p j. A.of_items p (In-part_from (other_than m) (pairs a) p j).0;
          touched = λ p j. A.touched p (In-part_from (other_than m) (pairs a) p j).0;
          different = IsDistinct-part (other_than m) (pairs a) A.different;
          independent = independent_part (graph_matroid n ends) (IsMatroid-graph n ends (case_branches-are t v)) (other_than m) (pairs a) independent;
        }) in
        let free : In e (branches C) → ⊥ = λ j.
        let p = In-branches_from C e j in
        let u = In-part_from (other_than m) (pairs a) p.0 p.1 in
        other_ne m p.0.0 u.1 (ap (λ (k : Pair). k.0) (same_pair_by_branch (pairs a) p.0 (m, e) (distinct_branches ends (branches (pairs a)) A.forest) u.0 i (sym p.2))) in
        let one : suc (length C) ≡ length (pairs a) = length-put_in (m, e) (pairs a) A.different (In-items (pairs a) (m, e) i) in
        let q = rank_is out (out_valid t v e) in
        let le = q.none_longer C (every-to_live (case_branches out) (case_meters out) C (assigns_out C x free)) in
        omega (arith, one, le)

    -- so a costly branch costs one pair
    pub costly_rank : IsCostly (case_branches t) (case_meters t) e → e < length t.branches → (a : Assignment) → AreLongest t a → case_rank out ≡ length (pairs a) - 1
    costly_rank s low a h =
        let q = rank_is out (out_valid t v e) in
        let many = as_many_rows t v e in
        let gone : get_or (case_branches out) e None ≡ None = row_here out e (omega (arith, low, many)) ∙ row_gone t e in
        let free : In e (branches q.longest) → ⊥ = λ i.
        let p = In-branches_from q.longest e i in
        let here = touched-present (case_branches out) (get_or (case_meters out) p.0.0 Nothing) p.0.1 (q.assigns.touched p.0 p.1) in
        true≢false (sym (subst (λ k. is_some (get_or (case_branches out) k None) ≡ true) (sym p.2) here) ∙ ap (λ (o : Option Ends). is_some o) gone) in
        let less = s.shorter (length (pairs a)) h.longest q.longest (assigns_before t v e q.longest (live-to_every (case_branches out) (case_meters out) q.longest q.assigns)) free in
        let long = q.long in
        elim (cases_In e (branches (pairs a))) [
          | inl i ↦
              let p = In-branches_from (pairs a) e i in
              let least = others_out a h p.0.0 (subst (λ k. In (p.0.0, k) (pairs a)) (sym p.2) p.1) in
              omega (arith, less, long, least)
          | inr o ↦
              let l = s.shorter (length (pairs a)) h.longest (pairs a) (IsAssignmentAt-standing a (network_of t).graph (case_meters t) h.whole h.stands) o in
              absurd (omega (arith, l))
        ]

    -- so what is known of the branch gives the rank
    pub rank_alone : e < length t.branches → (a : Assignment) → AreLongest t a → (n : Network) → n ≡ network_of t → (r : ℕ) → IsRankWithout n a e r → r ≡ case_rank out
    rank_alone low a h n net r told = elim told [
      | inl all ↦ all.0 ∙ rank_longest t v a h ∙ sym (spared_rank (subst (λ (x : Network). IsSpared x.graph.ends x.meters.touches e) net all.1))
      | inr less ↦ less.0 ∙ sym (costly_rank (subst (λ (x : Network). IsCostly x.graph.ends x.meters.touches e) net less.1) low a h)
    ]
