-- Meters that are printed in one class.
use Rattle.std.proofs.Common.{◌≡◌, ◌∙◌, inl, inr, ℕ, ◌<◌, length, sym, arith}
use Rattle.std.specs.Prelude.{slice_index}
use Rattle.std.proofs.lemmas.List.FromFn.{get_or-map-range_with_len}
use Rattle.obs_case.specs.Tables.{Tables}
use Rattle.obs_matroid.specs.Lists.{In, other_than, without}
use Rattle.obs_matroid.proofs.Lists.{IsDistinct-filter}
use Rattle.obs_meter.specs.Assignments.{IsRhoAt}
use Rattle.obs_meter.specs.Touches.{is_live}
use Rattle.obs_meter.proofs.Assigned.{live_items-distinct, rho_at-is, rho_at-unique}
use Rattle.obs_network.specs.Network.{case_branches, case_meters, case_vertex_count}
use Rattle.obs_network.specs.Observable.{case_live_meters, case_rank, rank_of_meters}
use Rattle.obs_network.proofs.Marked.{filtered_below}
use Rattle.obs_network.proofs.OfCase.{case_branches-are}
use Rattle.obs_pairs.specs.Partners.{class_at}
use Rattle.obs_pairs.proofs.Partnered.{classes_at}
use Rattle.obs_engine.specs.Laws.{PairsFailTogether}
use Rattle.obs_engine.specs.PairReply.{case_classes}

live_at : (t : Tables) (m : ℕ) → In m (case_live_meters t) → m < length (case_meters t)
live_at t m i = let low = filtered_below (is_live (case_branches t) (case_meters t)) 0 (length (case_meters t)) m i in omega (arith, low)

class_here : (t : Tables) (m : ℕ) → In m (case_live_meters t) → slice_index (case_classes t) m ≡ class_at (case_vertex_count t) (case_branches t) (case_meters t) m
class_here t m i = get_or-map-range_with_len (class_at (case_vertex_count t) (case_branches t) (case_meters t)) 0 (length (case_meters t)) m m 0 (live_at t m i) (omega arith)

pub fail_together : PairsFailTogether
unfolding case_rank
fail_together t v m k apart i j red other =
    let n = case_vertex_count t in
    let ends = case_branches t in
    let touches = case_meters t in
    let live = case_live_meters t in
    let ok = case_branches-are t v in
    let distinct = live_items-distinct ends touches in
    let both = classes_at n ends touches ok m k in
    let here = class_here t m i in
    let there = class_here t k j in
    let rest = without k (without m live) in
    let whole : IsRhoAt ends touches live (rank_of_meters t live) = rho_at-is n ends touches live ok distinct in
    let left : IsRhoAt ends touches rest (rank_of_meters t rest) = rho_at-is n ends touches rest ok (IsDistinct-filter (other_than k) (without m live) (IsDistinct-filter (other_than m) live distinct)) in (
      (λ e. elim (both.0 (sym here ∙ (e ∙ there))) [
        | inl same ↦ absurd (apart same)
        | inr p ↦ p.falls (rank_of_meters t live) (rank_of_meters t rest) whole left
      ]),
      (λ l. here ∙ (both.1 (inr (record {
        one = i;
        other = j;
        different = apart;
        one_noncritical = red;
        other_noncritical = other;
        falls = λ r s x y.
            let a = rho_at-unique ends touches live r (rank_of_meters t live) x whole in
            let b = rho_at-unique ends touches rest s (rank_of_meters t rest) y left in
            omega (arith, a, b, l);
      })) ∙ sym there)),
    )
