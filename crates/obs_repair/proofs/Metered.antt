-- An edit of a meter: no branch changes, and no other meter's touch.
use Rattle.std.proofs.Common.{◌⊎◌, inl, inr, ◌≡◌, ℕ, zero, suc, ◌+◌, ◌≤◌, Bool, true, false, Option, None, List, [], ◌∷◌, length, get_or, refl, sym, ap, ◌∙◌, subst, arith}
use Rattle.std.specs.Prelude.{if◌then◌else◌}
use Rattle.std.specs.List.{range_with_len}
use Rattle.std.proofs.lemmas.Bool.{cases_Bool, cases_eq}
use Rattle.std.proofs.lemmas.List.{length-map}
use Rattle.obs_case.specs.declared.rows.Meter.{Meter}
use Rattle.obs_case.specs.Flags.{changed_at, with_meter_inservice}
use Rattle.obs_case.specs.Tables.{IsValid, Tables}
use Rattle.obs_case.proofs.RowLemmas.{length-changed}
use Rattle.obs_graph.specs.declared.Ends.{Ends}
use Rattle.obs_graph.specs.Positions.{IsForestAt}
use Rattle.obs_graph.specs.Graph.{Graph}
use Rattle.obs_matroid.specs.Lists.{In, IsDistinct, other_than}
use Rattle.obs_matroid.specs.Assignments.{Pair, branches, items}
use Rattle.obs_matroid.specs.inner.Assignments.{part}
use Rattle.obs_matroid.proofs.Lists.{length-within, other_ne, other_true}
use Rattle.obs_matroid.proofs.Pairs.{In-items, In-items_from, In-part, In-part_from, IsDistinct-part}
use Rattle.obs_meter.specs.declared.Touch.{Touch}
use Rattle.obs_meter.specs.declared.Touch.TheVariants.{Nothing}
use Rattle.obs_meter.specs.Assignments.{IsAssignmentAt}
use Rattle.obs_meter.specs.Touches.{every_item, touch_at, touched}
use Rattle.obs_network.specs.Switched.{case_buses}
use Rattle.obs_network.specs.Network.{case_branches, case_component_count, case_components, case_energised, case_live, case_meters, case_rows, case_vertex_count, case_vertex_room, network_of}
use Rattle.obs_network.specs.Touching.{meter_touches, touch_of}
use Rattle.obs_network.proofs.Edited.{branches-with_meter}
use Rattle.obs_network.proofs.OfCase.{case_branches-are, length-case_meters}
use Rattle.obs_assign.specs.Assignment.{Assignment}
use Rattle.obs_assign.specs.inner.Assignment.{StandsOver, branch_at}
use Rattle.obs_assign.proofs.Slotted.{none_some}
use Rattle.obs_exchange.specs.inner.Longest.{IsMost}
use Rattle.obs_repair.proofs.Retained.{assigns-within}

abbrev flagged : Bool → Meter → Meter
flagged inservice row = record row { inservice = inservice }

-- what stands in a list of which one row changed
module _ (branches : List (Option Ends)) (buses : List ℕ) where
  -- what each meter touches, where one flag is set
  abbrev touches : Bool → ℕ → ℕ → List Meter → List Touch
  touches inservice k at rows = meter_touches branches buses k (changed_at (flagged inservice) at rows)

  other_touch : (inservice : Bool) (k : ℕ) (rows : List Meter) (at m : ℕ) → (m ≡ at → ⊥) → get_or (touches inservice k at rows) m Nothing ≡ get_or (meter_touches branches buses k rows) m Nothing
  unfolding changed_at
  other_touch inservice k [] at m ne = refl
  other_touch inservice k (row ∷ rows) zero zero ne = absurd (ne refl)
  other_touch inservice k (row ∷ rows) zero (suc m) ne = refl
  other_touch inservice k (row ∷ rows) (suc at) zero ne = refl
  other_touch inservice k (row ∷ rows) (suc at) (suc m) ne = other_touch inservice (suc k) rows at m (λ e. ne (ap suc e))

  touch_gone : (k : ℕ) (rows : List Meter) (at : ℕ) → get_or (touches false k at rows) at Nothing ≡ Nothing
  unfolding changed_at
  touch_gone k [] at = refl
  touch_gone k (row ∷ rows) zero = refl
  touch_gone k (row ∷ rows) (suc at) = touch_gone (suc k) rows at

  touch_back : (k : ℕ) (rows : List Meter) (at : ℕ)
      → (get_or (meter_touches branches buses k rows) at Nothing ≡ Nothing) ⊎ (get_or (touches true k at rows) at Nothing ≡ get_or (meter_touches branches buses k rows) at Nothing)
  unfolding changed_at
  touch_back k [] at = inl refl
  touch_back k (row ∷ rows) zero =
      elim (cases_Bool row.inservice) [
        | inl e ↦ inr (sym (ap (λ (b : Bool). if b then touch_of branches buses k row.kind row.at else Nothing) e))
        | inr e ↦ inl (ap (λ (b : Bool). if b then touch_of branches buses k row.kind row.at else Nothing) e)
      ]
  touch_back k (row ∷ rows) (suc at) = touch_back (suc k) rows at

module _ (t : Tables) (at : ℕ) (inservice : Bool) where
  pub same_graph : (network_of (with_meter_inservice t at inservice)).graph ≡ (network_of t).graph
  unfolding case_component_count case_live
  same_graph =
      let of : List (Option Ends) → ℕ → Graph = λ ends meters. record {
        vertices = case_vertex_count t;
        ends = ends;
        most_vertices = case_vertex_room t;
        most_branches = length t.branches + (meters + length t.candidates);
      } in
      ap (λ ends. of ends (length (with_meter_inservice t at inservice).meters)) (branches-with_meter t at inservice)
      ∙ ap (of (case_branches t)) (length-changed (flagged inservice) t.meters at)

  pub same_count : length (case_meters (with_meter_inservice t at inservice)) ≡ length (case_meters t)
  same_count = length-case_meters (with_meter_inservice t at inservice) ∙ (length-changed (flagged inservice) t.meters at ∙ sym (length-case_meters t))

  pub same_touch : (m : ℕ) → (m ≡ at → ⊥) → touch_at (case_branches t) (case_meters (with_meter_inservice t at inservice)) m ≡ touch_at (case_branches t) (case_meters t) m
  unfolding case_meters case_rows case_components case_component_count case_energised case_live
  same_touch m ne = ap (λ (x : Touch). touched (case_branches t) x) (other_touch (case_rows t) (case_buses t) inservice 0 t.meters at m ne)

-- a meter that goes touches nothing, so what is touched was touched before
pub none_touched : (t : Tables) (at : ℕ) → touch_at (case_branches t) (case_meters (with_meter_inservice t at false)) at ≡ []
unfolding case_meters case_rows case_components case_component_count case_energised case_live
none_touched t at = ap (λ (x : Touch). touched (case_branches t) x) (touch_gone (case_rows t) (case_buses t) 0 t.meters at)

pub touched_before : (t : Tables) (at m e : ℕ) → In e (touch_at (case_branches t) (case_meters (with_meter_inservice t at false)) m) → (m ≡ at → ⊥) × In e (touch_at (case_branches t) (case_meters t) m)
touched_before t at m e i =
    elim (cases_eq m at) [
      | inl s ↦ absurd (subst (λ xs. In e xs) (ap (touch_at (case_branches t) (case_meters (with_meter_inservice t at false))) s ∙ none_touched t at) i)
      | inr n ↦ (n, subst (λ xs. In e xs) (same_touch t at false m n) i)
    ]

-- what was touched is so where a meter comes back
pub touched_after : (t : Tables) (at m e : ℕ) → In e (touch_at (case_branches t) (case_meters t) m) → In e (touch_at (case_branches t) (case_meters (with_meter_inservice t at true)) m)
unfolding case_meters case_rows case_components case_component_count case_energised case_live
touched_after t at m e i =
    elim (cases_eq m at) [
      | inl s ↦ subst (λ k. In e (touch_at (case_branches t) (case_meters (with_meter_inservice t at true)) k)) (sym s)
          (here (subst (λ k. In e (touch_at (case_branches t) (case_meters t) k)) s i))
      | inr n ↦ subst (λ xs. In e xs) (sym (same_touch t at true m n)) i
    ]
  where
    here : In e (touch_at (case_branches t) (case_meters t) at) → In e (touch_at (case_branches t) (case_meters (with_meter_inservice t at true)) at)
    here j = elim (touch_back (case_rows t) (case_buses t) 0 t.meters at) [
      | inl nothing ↦ absurd (subst (λ (x : Touch). In e (touched (case_branches t) x)) nothing j)
      | inr same ↦ subst (λ (x : Touch). In e (touched (case_branches t) x)) (sym same) j
    ]

-- the items of the meters are those of before
same_items : (t : Tables) (at : ℕ) (inservice : Bool) → every_item (case_meters (with_meter_inservice t at inservice)) ≡ every_item (case_meters t)
same_items t at inservice = ap (λ n. range_with_len 0 n) (same_count t at inservice)

-- an assignment of the meters without one that went is one of the meters before
pub assigns_before : (t : Tables) (at : ℕ) (B : List Pair)
    → IsAssignmentAt (case_branches (with_meter_inservice t at false)) (case_meters (with_meter_inservice t at false)) (every_item (case_meters (with_meter_inservice t at false))) B
    → IsAssignmentAt (case_branches t) (case_meters t) (every_item (case_meters t)) B
assigns_before t at B b =
    let branches_same = branches-with_meter t at false in
    record {
      of_items = λ p i. subst (λ xs. In p.0 xs) (same_items t at false) (b.of_items p i);
      touched = λ p i. (touched_before t at p.0 p.1 (subst (λ bs. In p.1 (touch_at bs (case_meters (with_meter_inservice t at false)) p.0)) branches_same (b.touched p i))).1;
      different = b.different;
      forest = subst (λ bs. IsForestAt bs (branches B)) branches_same b.forest;
    }

-- there can be no more pairs where a meter went
pub most-lost : (t : Tables) (at most : ℕ) → IsMost (case_branches t) (case_meters t) most
    → IsMost (case_branches (with_meter_inservice t at false)) (case_meters (with_meter_inservice t at false)) most
most-lost t at most bound B b = bound B (assigns_before t at B b)

-- the pairs but that of one meter are at most one fewer
pub without_one : (m : ℕ) (B : List Pair) → IsDistinct (items B) → length B ≤ length (part (other_than m) B) + 1
without_one m B apart =
    let l = length-within (items B) (m ∷ items (part (other_than m) B)) apart there in
    omega (arith, l, length-map B (λ (p : Pair). p.0), length-map (part (other_than m) B) (λ (p : Pair). p.0))
  where
    there : (x : ℕ) → In x (items B) → In x (m ∷ items (part (other_than m) B))
    there x i = elim (cases_eq x m) [
      | inl s ↦ inl s
      | inr n ↦
          let q = In-items_from B x i in
          inr (subst (λ y. In y (items (part (other_than m) B))) (sym q.2) (In-items (part (other_than m) B) q.0 (In-part (other_than m) B q.0 q.1 (other_true m q.0.0 (λ s. n (q.2 ∙ s))))))
    ]

-- an assignment of the meters with one that came back, without the pair of that one, is one of the meters before
pub assigns_without : (t : Tables) → IsValid t → (at : ℕ) (B : List Pair)
    → IsAssignmentAt (case_branches (with_meter_inservice t at true)) (case_meters (with_meter_inservice t at true)) (every_item (case_meters (with_meter_inservice t at true))) B
    → IsAssignmentAt (case_branches t) (case_meters t) (every_item (case_meters t)) (part (other_than at) B)
assigns_without t v at B b =
    let branches_same = branches-with_meter t at true in
    let T = case_meters (with_meter_inservice t at true) in
    let over : IsAssignmentAt (case_branches t) T (every_item T) B = subst (λ bs. IsAssignmentAt bs T (every_item T) B) branches_same b in
    let A = part (other_than at) B in
    let some = assigns-within (case_vertex_count t) (case_branches t) T (case_branches-are t v) (every_item T) B over A (IsDistinct-part (other_than at) B b.different) (λ p i. (In-part_from (other_than at) B p i).0) in
    record {
      of_items = λ p i. subst (λ xs. In p.0 xs) (same_items t at true) (some.of_items p i);
      touched = λ p i. subst (λ xs. In p.1 xs) (same_touch t at true p.0 (other_ne at p.0 (In-part_from (other_than at) B p i).1)) (some.touched p i);
      different = some.different;
      forest = some.forest;
    }

-- there can be one more pair where a meter came back
pub most-regained : (t : Tables) → IsValid t → (at most : ℕ) → IsMost (case_branches t) (case_meters t) most
    → IsMost (case_branches (with_meter_inservice t at true)) (case_meters (with_meter_inservice t at true)) (most + 1)
most-regained t v at most bound B b =
    let few = bound (part (other_than at) B) (assigns_without t v at B b) in
    let one = without_one at B b.different in
    omega (arith, few, one)

-- pairs stand where a meter went that has none
pub stands-lost : (t : Tables) (at : ℕ) (a : Assignment) → branch_at a at ≡ None → StandsOver a (network_of t).graph (case_meters t)
    → StandsOver a (network_of (with_meter_inservice t at false)).graph (case_meters (with_meter_inservice t at false))
stands-lost t at a bare s =
    let T = case_meters (with_meter_inservice t at false) in
    subst (λ (g : Graph). StandsOver a g T) (sym (same_graph t at false)) (record {
      forest = s.forest;
      meters = same_count t at false ∙ s.meters;
      touched = λ m e is. subst (λ xs. In e xs) (sym (same_touch t at false m (λ k. none_some e (sym bare ∙ (ap (λ x. branch_at a x) (sym k) ∙ is))))) (s.touched m e is);
    })

-- pairs stand where a meter came back
pub stands-regained : (t : Tables) (at : ℕ) (a : Assignment) → StandsOver a (network_of t).graph (case_meters t)
    → StandsOver a (network_of (with_meter_inservice t at true)).graph (case_meters (with_meter_inservice t at true))
stands-regained t at a s =
    let T = case_meters (with_meter_inservice t at true) in
    subst (λ (g : Graph). StandsOver a g T) (sym (same_graph t at true)) (record {
      forest = s.forest;
      meters = same_count t at true ∙ s.meters;
      touched = λ m e is. touched_after t at m e (s.touched m e is);
    })
