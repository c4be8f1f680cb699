-- A forest after an edit: it stays one, or loses one branch.
use Rattle.std.proofs.Common.{inl, inr, ◌≡◌, ◌≢◌, ℕ, suc, ◌+◌, ◌<◌, ◌≤◌, ⊎_elim, Bool, true, false, Option, Some, None, List, [], ◌∷◌, length, get_or, refl, sym, ap, ◌∙◌, subst, arith}
use Rattle.std.specs.Prelude.{IfSome, IsSome, slice_index, slice_index_or}
use Rattle.std.specs.List.{cons_option}
use Rattle.std.proofs.lemmas.Bool.{cases_eq, cases_lt}
use Rattle.std.proofs.lemmas.List.Elements.{All-cons, All-tail}
use Rattle.obs_graph.specs.declared.Ends.{Ends}
use Rattle.obs_graph.specs.Joined.{IsForest, first_joined, rank}
use Rattle.obs_graph.specs.inner.Joined.{AreMergedBy, InRange, renamed, renamed_one}
use Rattle.obs_graph.specs.Positions.{AreBranches, IsForestAt, ends_of}
use Rattle.obs_graph.proofs.AtPositions.{IsForestAt-by_rank, ends_of-contains, length-ends_of, rank-from_IsForestAt, there_at}
use Rattle.obs_graph.proofs.Chains.{Chain-from_same_first, same_from_Chain}
use Rattle.obs_graph.proofs.Forests.{in_range_head, rank-add-le, rank-le-length, rank-nil}
use Rattle.obs_graph.proofs.MergedBy.{rank-merges, rank-merges_apart, rank-renamed_le}
use Rattle.obs_graph.proofs.Ranks.{rank-add_joined}
use Rattle.obs_case.specs.Flags.{with_branch_inservice, with_closed, with_meter_inservice}
use Rattle.obs_case.specs.Tables.{Tables, IsValid}
use Rattle.obs_case.proofs.ValidLemmas.{valid-with_branch_inservice, valid-with_closed}
use Rattle.obs_meter.specs.Spanned.{both_ends, ends_at, rank_at}
use Rattle.obs_meter.proofs.Instance.{in_range}
use Rattle.obs_network.specs.Angles.{reference_of}
use Rattle.obs_network.specs.Network.{case_branches, case_components, case_vertex_component, case_vertex_count}
use Rattle.obs_network.specs.inner.Edited.{AreKept, AreMerged, ArePresent, AreRenamed, IsOneMerge, IsReferenceMerge, reference_vertex, references}
use Rattle.obs_network.proofs.InComponents.{ends_component}
use Rattle.obs_network.proofs.OfCase.{case_branches-are}
use Rattle.obs_network.proofs.Vertices.{case_vertex_component-bus, vertex_component-reference}
use Rattle.obs_network.proofs.Edited.{as_it_is, branch_is, branches-with_meter, merged_with_branch, no_branch, switched}

-- the branches at positions that are present before and after
renamed_at : (name : ℕ → ℕ) (before after : List (Option Ends)) → AreRenamed name before after → (L : List ℕ) → ArePresent before L → ArePresent after L → ends_of after L ≡ renamed name (ends_of before L)
renamed_at name before after renames [] old new = refl
renamed_at name before after renames (p ∷ L) old new =
    let x = there_at before (p ∷ L) old p (0, omega arith, refl) in
    let y = there_at after (p ∷ L) new p (0, omega arith, refl) in
    let rest = renamed_at name before after renames L (All-tail (λ q. IsSome (slice_index_or before q None)) p L old) (All-tail (λ q. IsSome (slice_index_or after q None)) p L new) in
    let here : y.0 ≡ renamed_one name x.0 = renames p x.0 y.0 x.1 y.1 in
    ap (λ o. cons_option o (ends_of after L)) y.1
    ∙ ap (λ e. e ∷ ends_of after L) here
    ∙ ap (λ es. renamed_one name x.0 ∷ es) rest
    ∙ sym (ap (λ o. renamed name (cons_option o (ends_of before L))) x.1)

renamed_itself : (before after : List (Option Ends)) → AreRenamed (λ b. b) before after → (L : List ℕ) → ArePresent before L → ArePresent after L → ends_of after L ≡ ends_of before L
renamed_itself before after renames L old new = renamed_at (λ b. b) before after renames L old new ∙ itself (ends_of before L)
  where
    itself : (es : List Ends) → renamed (λ b. b) es ≡ es
    itself [] = refl
    itself (e ∷ es) = ap (λ l. e ∷ l) (itself es)

cons_range : (n : ℕ) (o : Option Ends) (es : List Ends) → IfSome o (λ e. (e.a < n) × (e.b < n) × (e.a ≢ e.b)) → InRange n es → InRange n (cons_option o es)
cons_range n None es r rest = rest
cons_range n (Some e) es r rest = All-cons (λ (x : Ends). (x.a < n) × (x.b < n)) e es (r.0, r.1) rest

pub InRange-ends_of : (n : ℕ) (branches : List (Option Ends)) → AreBranches n branches → (L : List ℕ) → InRange n (ends_of branches L)
InRange-ends_of n branches a [] = λ k d l. absurd (omega (arith, l))
InRange-ends_of n branches a (p ∷ L) = cons_range n (get_or branches p None) (ends_of branches L) (in_range n branches p a) (InRange-ends_of n branches a L)

-- the rank of a forest is its length
pub forest_rank : (t : Tables) → IsValid t → (L : List ℕ) → IsForestAt (case_branches t) L → rank_at (case_vertex_count t) (case_branches t) L ≡ length L
forest_rank t v L forest = rank-from_IsForestAt (case_vertex_count t) (case_branches t) L (InRange-ends_of (case_vertex_count t) (case_branches t) (case_branches-are t v) L) forest

-- where the buses stay, a forest stays one
pub forest_kept : (t after : Tables) → AreKept t after → (L : List ℕ) → IsForestAt (case_branches t) L → ArePresent (case_branches after) L → IsForestAt (case_branches after) L
forest_kept t after kept L forest new = record {
  present = new;
  forest = subst IsForest (sym (renamed_itself (case_branches t) (case_branches after) kept.ends L forest.present new)) forest.forest;
}

-- a forest joins no vertices of two components
one_component : (t : Tables) → IsValid t → (L : List ℕ) (u w : ℕ) → first_joined (ends_of (case_branches t) L) u ≡ first_joined (ends_of (case_branches t) L) w
    → case_vertex_component t u ≡ case_vertex_component t w
one_component t v L u w same =
    let ends = case_branches t in
    same_from_Chain (case_vertex_component t) (ends_of ends L) (λ e has.
    let at = ends_of-contains ends L e has in
    let is : ends_at ends at.0 ≡ (e.a, e.b) = ap both_ends at.2 in
    sym (ap (λ (x : ℕ × ℕ). case_vertex_component t x.0) is) ∙ ends_component t v at.0 ∙ ap (λ (x : ℕ × ℕ). case_vertex_component t x.1) is) (Chain-from_same_first (ends_of ends L) u w same)

-- a bus and its reference vertex are of its component
component-reference : (t : Tables) (b : ℕ) → case_vertex_component t (reference_vertex t b) ≡ slice_index (case_components t) b
component-reference t b = vertex_component-reference (case_components t) (slice_index (case_components t) b)

-- where the two reference vertices are one, the pair has no rank
rank-reference_loop : (t : Tables) (n one other : ℕ) → slice_index (case_components t) one ≡ slice_index (case_components t) other → rank n (references t one other ∷ []) ≡ 0
rank-reference_loop t n one other same =
    rank-add_joined n (references t one other) [] (ap (λ c. reference_of (case_components t) c) same) ∙ rank-nil n

-- vertices become one as the pairs of a list join them
module _ (t after : Tables) (v : IsValid t) (merges : List Ends) (merged : AreMerged t after merges) (L : List ℕ) (forest : IsForestAt (case_branches t) L) (new : ArePresent (case_branches after) L) where
  abbrev es : List Ends
  es = ends_of (case_branches t) L

  range : InRange (case_vertex_count t) es
  range = InRange-ends_of (case_vertex_count t) (case_branches t) (case_branches-are t v) L

  rank_after : rank_at (case_vertex_count after) (case_branches after) L ≡ rank (case_vertex_count after) (renamed merged.name es)
  rank_after = ap (rank (case_vertex_count after)) (renamed_at merged.name (case_branches t) (case_branches after) merged.ends L forest.present new)

  -- the rank falls by the rank of the list at most
  forest_merged : length L ≤ rank_at (case_vertex_count after) (case_branches after) L + rank (case_vertex_count t) merges
  forest_merged =
      let falls = rank-merges (case_vertex_count t) (case_vertex_count after) merges merged.name merged.merged es range in
      omega (arith, falls, rank_after, forest_rank t v L forest)

  -- and by one less, where the forest doesn't join the first pair
  forest_merged_apart : (e : Ends) (ms : List Ends) → merges ≡ e ∷ ms → (first_joined es e.a ≡ first_joined es e.b → ⊥)
      → suc (length L) ≤ rank_at (case_vertex_count after) (case_branches after) L + rank (case_vertex_count t) merges
  forest_merged_apart e ms is apart =
      let n = case_vertex_count t in
      let m = case_vertex_count after in
      let by_list = subst (λ x. AreMergedBy n m x merged.name) is merged.merged in
      let falls = rank-merges_apart n m e ms merged.name by_list es range apart in
      omega (arith, falls, ap (rank n) is, rank_after, forest_rank t v L forest)

-- where the reference vertices of two components become one, a forest stays one
pub forest_referred : (t after : Tables) → IsValid t → IsValid after → IsReferenceMerge t after → (L : List ℕ) → IsForestAt (case_branches t) L → ArePresent (case_branches after) L
    → IsForestAt (case_branches after) L
forest_referred t after v w once L forest new =
    let n = case_vertex_count t in
    let m = case_vertex_count after in
    let pair = references t once.one once.other in
    let merges : List Ends = pair ∷ [] in
    let few : rank n merges ≤ length merges = rank-le-length n merges once.merged.merged.in_range in
    let full : length L ≤ rank_at m (case_branches after) L =
    elim (cases_eq (slice_index (case_components t) once.one) (slice_index (case_components t) once.other)) [
      | inl same ↦ omega (arith, forest_merged t after v merges once.merged L forest new, rank-reference_loop t n once.one once.other same)
      | inr ne ↦
          let apart : first_joined (ends_of (case_branches t) L) pair.a ≡ first_joined (ends_of (case_branches t) L) pair.b → ⊥ =
          λ same. ne (sym (component-reference t once.one) ∙ one_component t v L pair.a pair.b same ∙ component-reference t once.other) in
          omega (arith, few, forest_merged_apart t after v merges once.merged L forest new pair [] refl apart)
    ] in
    let es = ends_of (case_branches after) L in
    let range = InRange-ends_of m (case_branches after) (case_branches-are after w) L in
    let most : rank m es ≤ length es = rank-le-length m es range in
    IsForestAt-by_rank m (case_branches after) L range new (omega (arith, full, most, length-ends_of (case_branches after) L new))

-- where two buses become one, and with them their components, a forest loses one branch at most
pub forest_merged_once : (t after : Tables) → IsValid t → IsOneMerge t after → (L : List ℕ) → IsForestAt (case_branches t) L → ArePresent (case_branches after) L
    → length L ≤ rank_at (case_vertex_count after) (case_branches after) L + 1
forest_merged_once t after v once L forest new =
    let n = case_vertex_count t in
    let pair : Ends = record { a = once.one; b = once.other } in
    let behind : List Ends = references t once.one once.other ∷ [] in
    let merges : List Ends = pair ∷ behind in
    let range = once.merged.merged.in_range in
    elim (cases_eq (slice_index (case_components t) once.one) (slice_index (case_components t) once.other)) [
      | inl same ↦
          let low = in_range_head n pair behind range in
          let few : rank n merges ≤ suc (rank n behind) = rank-add-le n pair behind low.0 low.1 in
          omega (arith, few, forest_merged t after v merges once.merged L forest new, rank-reference_loop t n once.one once.other same)
      | inr ne ↦
          let few : rank n merges ≤ length merges = rank-le-length n merges range in
          let apart : first_joined (ends_of (case_branches t) L) pair.a ≡ first_joined (ends_of (case_branches t) L) pair.b → ⊥ =
          λ same. ne (sym (case_vertex_component-bus t once.one once.one_low) ∙ one_component t v L pair.a pair.b same ∙ case_vertex_component-bus t once.other once.other_low) in
          omega (arith, few, forest_merged_apart t after v merges once.merged L forest new pair behind refl apart)
    ]

-- where vertices part again, a forest stays one
pub forest_parted : (t after : Tables) (merges : List Ends) → IsValid t → IsValid after → AreMerged after t merges → (L : List ℕ) → IsForestAt (case_branches t) L → ArePresent (case_branches after) L
    → IsForestAt (case_branches after) L
forest_parted t after merges v w merged L forest new =
    let n = case_vertex_count after in
    let m = case_vertex_count t in
    let es = ends_of (case_branches after) L in
    let range = InRange-ends_of n (case_branches after) (case_branches-are after w) L in
    let falls : rank m (renamed merged.name es) ≤ rank n es = rank-renamed_le n m merged.name merged.merged.into es range in
    let same : rank m (ends_of (case_branches t) L) ≡ rank m (renamed merged.name es) = ap (rank m) (renamed_at merged.name (case_branches after) (case_branches t) merged.ends L new forest.present) in
    let few : rank n es ≤ length es = rank-le-length n es range in
    let long : length es ≡ length L = length-ends_of (case_branches after) L new in
    IsForestAt-by_rank n (case_branches after) L range new (omega (arith, falls, same, few, long, forest_rank t v L forest))

-- a branch comes in
forest_put : (t : Tables) → IsValid t → (at : ℕ) → at < length t.branches → (L : List ℕ) → IsForestAt (case_branches (with_branch_inservice t at false)) L → ArePresent (case_branches (with_branch_inservice t at true)) L
    → IsForestAt (case_branches (with_branch_inservice t at true)) L
forest_put t v at l L =
    forest_referred (with_branch_inservice t at false) (with_branch_inservice t at true) (valid-with_branch_inservice t v at false) (valid-with_branch_inservice t v at true) (merged_with_branch t v at l) L

-- or goes out
forest_out : (t : Tables) → IsValid t → (at : ℕ) → at < length t.branches → (L : List ℕ) → IsForestAt (case_branches (with_branch_inservice t at true)) L → ArePresent (case_branches (with_branch_inservice t at false)) L
    → IsForestAt (case_branches (with_branch_inservice t at false)) L
forest_out t v at l L =
    let out = with_branch_inservice t at false in
    let put = with_branch_inservice t at true in
    let once = merged_with_branch t v at l in
    forest_parted put out (references out once.one once.other ∷ []) (valid-with_branch_inservice t v at true) (valid-with_branch_inservice t v at false) once.merged L

pub forest_with_branch : (t : Tables) → IsValid t → (at : ℕ) (inservice : Bool) (L : List ℕ) → IsForestAt (case_branches t) L → ArePresent (case_branches (with_branch_inservice t at inservice)) L → IsForestAt (case_branches (with_branch_inservice t at inservice)) L
forest_with_branch t v at inservice L forest new =
    let stays : t ≡ with_branch_inservice t at inservice → IsForestAt (case_branches (with_branch_inservice t at inservice)) L = λ is. subst (λ u. IsForestAt (case_branches u) L) is forest in
    elim (cases_lt at (length t.branches)) [
      | inl l ↦ elim (branch_is t at) [
        | inl is ↦ was_out l is inservice new stays
        | inr is ↦ was_put l is inservice new stays
      ]
      | inr past ↦ stays (sym (no_branch t at inservice past))
    ]
  where
    was_out : at < length t.branches → t ≡ with_branch_inservice t at false → (on : Bool) → ArePresent (case_branches (with_branch_inservice t at on)) L
        → (t ≡ with_branch_inservice t at on → IsForestAt (case_branches (with_branch_inservice t at on)) L) → IsForestAt (case_branches (with_branch_inservice t at on)) L
    was_out l is false here stays = stays is
    was_out l is true here stays = forest_put t v at l L (subst (λ u. IsForestAt (case_branches u) L) is forest) here

    was_put : at < length t.branches → t ≡ with_branch_inservice t at true → (on : Bool) → ArePresent (case_branches (with_branch_inservice t at on)) L
        → (t ≡ with_branch_inservice t at on → IsForestAt (case_branches (with_branch_inservice t at on)) L) → IsForestAt (case_branches (with_branch_inservice t at on)) L
    was_put l is true here stays = stays is
    was_put l is false here stays = forest_out t v at l L (subst (λ u. IsForestAt (case_branches u) L) is forest) here

pub forest_with_meter : (t : Tables) → IsValid t → (at : ℕ) (inservice : Bool) (L : List ℕ) → IsForestAt (case_branches t) L → ArePresent (case_branches (with_meter_inservice t at inservice)) L → IsForestAt (case_branches (with_meter_inservice t at inservice)) L
forest_with_meter t v at inservice L forest new = subst (λ bs. IsForestAt bs L) (sym (branches-with_meter t at inservice)) forest

pub forest_opened : (t : Tables) → IsValid t → (at : ℕ) (L : List ℕ) → IsForestAt (case_branches t) L → ArePresent (case_branches (with_closed t at false)) L → IsForestAt (case_branches (with_closed t at false)) L
forest_opened t v at L forest new =
    let opened = with_closed t at false in
    let closed = with_closed t at true in
    let parted : (merges : List Ends) → AreMerged opened closed merges → IsForestAt (case_branches closed) L → IsForestAt (case_branches opened) L =
    λ merges merged at_closed. forest_parted closed opened merges (valid-with_closed t v at true) (valid-with_closed t v at false) merged L at_closed new in
    ⊎_elim
    (λ (is : t ≡ opened). subst (λ u. IsForestAt (case_branches u) L) is forest)
    (λ (is : t ≡ closed).
    let at_closed : IsForestAt (case_branches closed) L = subst (λ u. IsForestAt (case_branches u) L) is forest in
    ⊎_elim
    (λ (kept : AreKept opened closed × AreMerged opened closed []). parted [] kept.1 at_closed)
    (λ (once : IsOneMerge opened closed). parted (record { a = once.one; b = once.other } ∷ references opened once.one once.other ∷ []) once.merged at_closed)
    (switched t v at))
    (as_it_is t at)

pub forest_closed : (t : Tables) → IsValid t → (at : ℕ) (L : List ℕ) → IsForestAt (case_branches t) L → ArePresent (case_branches (with_closed t at true)) L
    → length L ≤ rank_at (case_vertex_count (with_closed t at true)) (case_branches (with_closed t at true)) L + 1
forest_closed t v at L forest new =
    let opened = with_closed t at false in
    let closed = with_closed t at true in
    let w = valid-with_closed t v at true in
    let by_forest : IsForestAt (case_branches closed) L → length L ≤ rank_at (case_vertex_count closed) (case_branches closed) L + 1 = λ f. omega (arith, forest_rank closed w L f) in
    ⊎_elim
    (λ (is : t ≡ opened).
    let at_opened : IsForestAt (case_branches opened) L = subst (λ u. IsForestAt (case_branches u) L) is forest in
    ⊎_elim
    (λ (kept : AreKept opened closed × AreMerged opened closed []). by_forest (forest_kept opened closed kept.0 L at_opened new))
    (λ (once : IsOneMerge opened closed). forest_merged_once opened closed (valid-with_closed t v at false) once L at_opened new)
    (switched t v at))
    (λ (is : t ≡ closed). by_forest (subst (λ u. IsForestAt (case_branches u) L) is forest))
    (as_it_is t at)
