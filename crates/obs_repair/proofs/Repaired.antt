-- The pairs that are kept after an edit, and the searches after them.
use Rattle.std.proofs.Common.{◌≡◌, ℕ, ◌+◌, ◌≤◌, true, false, List, length, refl, sym, ap, ◌∙◌, subst, arith}
use Rattle.std.proofs.lemmas.List.{length-map}
use Rattle.obs_case.specs.Flags.{with_branch_inservice, with_closed, with_meter_inservice}
use Rattle.obs_case.specs.Tables.{IsValid, Tables}
use Rattle.obs_graph.specs.Positions.{IsForestAt}
use Rattle.obs_graph.specs.Graph.{Graph}
use Rattle.obs_matroid.specs.Lists.{In, IsDistinct}
use Rattle.obs_matroid.specs.Assignments.{Pair, branches, items}
use Rattle.obs_matroid.proofs.Lists.{length-within}
use Rattle.obs_matroid.proofs.Pairs.{IsDistinct-filter_items, items_within}
use Rattle.obs_matroid.proofs.Slots.{IsDistinct-slots, slot_from}
use Rattle.obs_meter.specs.Held.{Meters}
use Rattle.obs_meter.specs.Assignments.{IsAssignmentAt}
use Rattle.obs_meter.specs.Spanned.{rank_at}
use Rattle.obs_meter.specs.Touches.{every_item}
use Rattle.obs_assign.specs.Assignment.{Assignment}
use Rattle.obs_assign.specs.inner.Assignment.{IsWhole, StandsOver, pairs}
use Rattle.obs_assign.specs.inner.Still.{AreRetained, is_still, still}
use Rattle.obs_assign.proofs.Standing.{IsAssignmentAt-standing, length-retained, still_at, still_from}
use Rattle.obs_assign.proofs.Slotted.{none_some}
use Rattle.obs_exchange.specs.inner.Lengthened.{HasLengthened}
use Rattle.obs_network.specs.Network.{case_branches, case_meters, case_vertex_count, case_vertex_room, network_of}
use Rattle.obs_network.specs.inner.Network.{case_position_count}
use Rattle.obs_network.specs.inner.Edited.{ArePresent}
use Rattle.obs_network.proofs.KeptForests.{forest_closed, forest_opened, forest_rank, forest_with_branch, forest_with_meter}
use Rattle.obs_network.proofs.OfCase.{case_branches-are, case_vertex_count-le, length-case_branches}
use Rattle.obs_repair.specs.declared.edit.Edit.{Edit}
use Rattle.obs_repair.specs.declared.edit.Edit.TheVariants as edit
use Rattle.obs_repair.specs.Edits.{edited}
use Rattle.obs_repair.specs.inner.Edits.{IsRepaired, standing}
use Rattle.obs_repair.specs.inner.Repairing.{AreKept, StoodBefore}
use Rattle.obs_repair.proofs.Flagged.{meters-edited, positions-edited}
use Rattle.obs_repair.proofs.Retained.{few, forest-still, lost_one, present-still}

-- of a forest whose branches stay present all count after an edit, but perhaps one
pub ranked-edited : (t : Tables) (e : Edit) → IsValid t → IsValid (edited t e) → (L : List ℕ) → IsForestAt (case_branches t) L → ArePresent (case_branches (edited t e)) L
    → length L ≤ rank_at (case_vertex_count (edited t e)) (case_branches (edited t e)) L + 1
ranked-edited t (edit.Switch at true) v after L f here = forest_closed t v at L f here
ranked-edited t (edit.Switch at false) v after L f here =
    let r = forest_rank (with_closed t at false) after L (forest_opened t v at L f here) in
    omega (arith, r)
ranked-edited t (edit.Branch at inservice) v after L f here =
    let r = forest_rank (with_branch_inservice t at inservice) after L (forest_with_branch t v at inservice L f here) in
    omega (arith, r)
ranked-edited t (edit.Meter at inservice) v after L f here =
    let r = forest_rank (with_meter_inservice t at inservice) after L (forest_with_meter t v at inservice L f here) in
    omega (arith, r)

-- the standing pairs have different meters
pub apart-standing : (t : Tables) (a : Assignment) → IsDistinct (items (standing t a))
apart-standing t a = IsDistinct-filter_items (is_still (case_branches t) (case_meters t)) (pairs a) (IsDistinct-slots a.slots)

pub few_standing : (t : Tables) (a : Assignment) → length (standing t a) ≤ length (pairs a) + 1
few_standing t a =
    let l = length-within (items (standing t a)) (items (pairs a)) (apart-standing t a) (items_within (standing t a) (pairs a) (λ p i. (still_from (case_branches t) (case_meters t) (pairs a) p i).0)) in
    omega (arith, l, length-map (standing t a) (λ (p : Pair). p.0), length-map (pairs a) (λ (p : Pair). p.0))

-- what is kept, from the pairs that stand and their numbers
pub AreKept-by : (t : Tables) (a b : Assignment) → b.turns ≡ a.turns → ((p : Pair) → In p (pairs b) → In p (standing t a)) → length (standing t a) ≤ length (pairs b) + 1 → AreKept t a b
AreKept-by t a b turns within all_but_one =
    let one = lost_one (standing t a) (pairs b) (apart-standing t a) (IsDistinct-slots b.slots) within all_but_one in
    record {
      turns = turns;
      within = within;
      few = few (standing t a) (pairs b) (apart-standing t a) (IsDistinct-slots b.slots) within;
      all_but_one = all_but_one;
      lost = one.0;
      kept = one.1;
    }

-- pairs that stand are all kept
pub kept-same : (t : Tables) (a : Assignment) → StandsOver a (network_of t).graph (case_meters t) → AreKept t a a
kept-same t a stands = AreKept-by t a a refl (λ p i. still_at (case_branches t) (case_meters t) (pairs a) p i (stands.touched p.0 p.1 (slot_from a.slots p i))) (few_standing t a)

-- the pairs that are retained in the network after an edit
module _ (t : Tables) (e : Edit) (a : Assignment) (v : IsValid t) (b : StoodBefore t e a) (g : Graph) (graph_now : g ≡ (network_of t).graph) (ms : Meters) (meters_now : ms ≡ (network_of t).meters) where
  pub as_many_meters : length ms.touches ≡ length a.slots
  as_many_meters =
      ap (λ (i : Meters). length i.touches) meters_now
      ∙ (ap (λ (x : Tables). length (case_meters x)) b.same ∙ (meters-edited b.before e ∙ b.stands.meters))

  pub as_many_positions : length g.ends ≡ length a.forest.held
  as_many_positions =
      ap (λ (s : Graph). length s.ends) graph_now
      ∙ (length-case_branches t ∙ (ap case_position_count b.same ∙ (positions-edited b.before e ∙ (sym (length-case_branches b.before) ∙ b.stands.forest.positions))))

  pub fits_vertices : case_vertex_room t ≤ a.forest.most_vertices → g.vertices ≤ a.forest.most_vertices
  fits_vertices room = let same = ap (λ (x : Graph). x.vertices) graph_now in omega (arith, room, same, case_vertex_count-le t)

  old_assignment : IsAssignmentAt (case_branches b.before) (case_meters b.before) (every_item (case_meters b.before)) (pairs a)
  old_assignment = IsAssignmentAt-standing a (network_of b.before).graph (case_meters b.before) b.whole b.stands

  pub kept-retained : (c : Assignment) → AreRetained g.ends ms.touches (pairs a) (pairs c) → c.turns ≡ a.turns → StandsOver c g ms.touches → IsWhole c → AreKept t a c
  kept-retained c retained turns stands whole =
      let ends = case_branches t in
      let touches = case_meters t in
      let same : AreRetained ends touches (pairs a) (pairs c) =
      subst (λ (s : Graph). AreRetained s.ends touches (pairs a) (pairs c)) graph_now (subst (λ (i : Meters). AreRetained g.ends i.touches (pairs a) (pairs c)) meters_now retained) in
      let standing_now : StandsOver c (network_of t).graph touches =
      subst (λ (s : Graph). StandsOver c s touches) graph_now (subst (λ (i : Meters). StandsOver c g i.touches) meters_now stands) in
      let forest_now = (IsAssignmentAt-standing c (network_of t).graph touches whole standing_now).forest in
      let rank = length-retained (case_vertex_count t) ends touches (pairs a) (pairs c) (case_branches-are t v) forest_now same in
      let L = branches (still ends touches (pairs a)) in
      let was = forest-still (case_vertex_count b.before) (case_branches b.before) (case_meters b.before) (case_branches-are b.before b.valid) (every_item (case_meters b.before)) (pairs a) old_assignment ends touches in
      let here = present-still ends touches (pairs a) in
      let most = subst (λ (x : Tables). length L ≤ rank_at (case_vertex_count x) (case_branches x) L + 1) (sym b.same)
      (ranked-edited b.before e b.valid (subst IsValid b.same v) L was (subst (λ (x : Tables). ArePresent (case_branches x) L) b.same here)) in
      let count = length-map (still ends touches (pairs a)) (λ (p : Pair). p.1) in
      AreKept-by t a c turns same.standing (omega (arith, most, rank, count))

-- the pairs that are kept, and the searches after them
pub IsRepaired-by : (t : Tables) (a b c : Assignment) (searches : ℕ) → AreKept t a b → HasLengthened b c searches → IsRepaired t a c (length (pairs c)) searches
IsRepaired-by t a b c searches k h =
    let few_kept = k.few in
    let but_one = k.all_but_one in
    let turned = k.turns in
    let grown = h.grown in
    let ended = h.all_but_one in
    let rise = h.turns_rise in
    let found = h.turns_found in
    record {
      most = omega (arith, but_one, ended);
      least = omega (arith, few_kept, grown);
      turns_rise = omega (arith, turned, rise);
      turns_most = omega (arith, turned, found, but_one);
      turns_searched = omega (arith, turned, found, grown);
      lost = k.lost;
      all_but_one = λ p i ne. h.keeps p.0 (λ none. none_some p.1 (sym none ∙ slot_from b.slots p (k.kept p i ne)));
      unsearched = λ none p i. k.within p (subst (λ (x : Assignment). In p (pairs x)) (h.none none) i);
    }
