-- Where each node's bus has a new name and the components follow, so do the ends of branches.
use Rattle.std.proofs.Common.{◌≡◌, ℕ, zero, suc, ◌-◌, ◌<◌, Bool, false, Option, Some, None, List, [], ◌∷◌, length, map, get_or, sym, ap, ◌∙◌, inl, inr, arith}
use Rattle.std.specs.Prelude.{All, slice_index, slice_index_or}
use Rattle.std.proofs.lemmas.Bool.{cases_Bool, cond-true, cond-false}
use Rattle.std.proofs.lemmas.List.{length-map}
use Rattle.std.proofs.lemmas.List.Elements.{All-head, All-tail}
use Rattle.obs_graph.specs.declared.Ends.{Ends}
use Rattle.obs_graph.specs.inner.Joined.{renamed_one}
use Rattle.obs_graph.proofs.Present.{some_one, none_some}
use Rattle.obs_case.specs.declared.rows.Branch.{Branch}
use Rattle.obs_case.specs.Tables.{Tables, IsValid}
use Rattle.obs_network.specs.Switched.{case_buses}
use Rattle.obs_network.specs.Live.{is_live_branch, live_ends}
use Rattle.obs_network.specs.Components.{if_energised}
use Rattle.obs_network.specs.Network.{case_branches, case_components, case_energised, case_live, case_rows}
use Rattle.obs_network.specs.inner.Edited.{AreRenamed, reference_vertex}
use Rattle.obs_network.proofs.Vertices.{IsAngleBranch, item_sites, row_or_angle}

-- the two buses of a row
abbrev pub ends_of_row : List ℕ → Branch → Ends
ends_of_row buses row = record { a = get_or buses row.from 0; b = get_or buses row.to 0 }

pub live_is : (buses : List ℕ) (row : Branch) (x : Ends) → live_ends buses row ≡ Some x → ends_of_row buses row ≡ x
live_is buses row x is =
    let ends : Ends = record { a = get_or buses row.from 0; b = get_or buses row.to 0 } in
    elim (cases_Bool (is_live_branch buses row)) [
      | inl e ↦ some_one ends x (sym (cond-true (is_live_branch buses row) (Some ends) None e) ∙ is)
      | inr e ↦ absurd (none_some x (sym (cond-false (is_live_branch buses row) (Some ends) None e) ∙ is))
    ]

kept_is : (components : List ℕ) (energised : List Bool) (o : Option Ends) (x : Ends) → if_energised components energised o ≡ Some x → o ≡ Some x
kept_is components energised None x is = absurd (none_some x is)
kept_is components energised (Some e) x is =
    let on = slice_index_or energised (slice_index components e.a) false in
    elim (cases_Bool on) [
      | inl t ↦ sym (cond-true on (Some e) None t) ∙ is
      | inr f ↦ absurd (none_some x (sym (cond-false on (Some e) None f) ∙ is))
    ]

-- the ends of a present branch are the buses of its row's nodes
row_is : (components : List ℕ) (energised : List Bool) (buses : List ℕ) (rows : List Branch) (e : ℕ) (x : Ends)
    → get_or (map (if_energised components energised) (map (live_ends buses) rows)) e None ≡ Some x
    → (e < length rows) × (get_or buses (get_or (map (λ (row : Branch). row.from) rows) e 0) 0 ≡ x.a) × (get_or buses (get_or (map (λ (row : Branch). row.to) rows) e 0) 0 ≡ x.b)
row_is components energised buses [] e x is = absurd (none_some x is)
row_is components energised buses (row ∷ rows) zero x is =
    let same = live_is buses row x (kept_is components energised (live_ends buses row) x is) in
    (omega arith, ap (λ (y : Ends). y.a) same, ap (λ (y : Ends). y.b) same)
row_is components energised buses (row ∷ rows) (suc e) x is =
    let rest = row_is components energised buses rows e x is in
    (omega (arith, rest.0), rest.1, rest.2)

abbrev pub froms : Tables → List ℕ
froms t = map (λ (row : Branch). row.from) t.branches

abbrev pub tos : Tables → List ℕ
tos t = map (λ (row : Branch). row.to) t.branches

present_row : (t : Tables) (e : ℕ) (x : Ends) → get_or (case_rows t) e None ≡ Some x
    → (e < length t.branches) × (get_or (case_buses t) (get_or (froms t) e 0) 0 ≡ x.a) × (get_or (case_buses t) (get_or (tos t) e 0) 0 ≡ x.b)
unfolding case_rows case_live
present_row t e x is = row_is (case_components t) (case_energised t) (case_buses t) t.branches e x is

pub two_ends : (x y : Ends) → x.a ≡ y.a → x.b ≡ y.b → x ≡ y
two_ends x y e f =
    let of : ℕ → ℕ → Ends = λ a b. record { a = a; b = b } in
    ap (λ a. of a x.b) e ∙ ap (λ b. of y.a b) f

-- the nodes of a row are in range
pub node_below : (t : Tables) → IsValid t → (e : ℕ) → e < length t.branches → (get_or (froms t) e 0 < length t.nodes) × (get_or (tos t) e 0 < length t.nodes)
node_below t v e l = below t.branches e v.branch_ends l
  where
    below : (rows : List Branch) (e : ℕ) → All (λ row. (row.from < length t.nodes) × (row.to < length t.nodes)) rows → e < length rows
        → (get_or (map (λ (row : Branch). row.from) rows) e 0 < length t.nodes) × (get_or (map (λ (row : Branch). row.to) rows) e 0 < length t.nodes)
    below [] e all l = absurd (omega arith)
    below (row ∷ rows) zero all l = All-head (λ (row : Branch). (row.from < length t.nodes) × (row.to < length t.nodes)) row rows all
    below (row ∷ rows) (suc e) all l = below rows e (All-tail (λ (row : Branch). (row.from < length t.nodes) × (row.to < length t.nodes)) row rows all) (omega (arith, l))

-- where the rows keep their nodes, their branches go by the new names of buses
rows_renamed : (t after : Tables) (name : ℕ → ℕ) → IsValid t → froms after ≡ froms t → tos after ≡ tos t
    → ((u : ℕ) → u < length t.nodes → get_or (case_buses after) u 0 ≡ name (get_or (case_buses t) u 0)) → AreRenamed name (case_rows t) (case_rows after)
rows_renamed t after name v from to nodes e x y is_x is_y =
    let old = present_row t e x is_x in
    let new = present_row after e y is_y in
    let u = get_or (froms t) e 0 in
    let w = get_or (tos t) e 0 in
    let low = node_below t v e old.0 in
    let at_u : get_or (case_buses after) u 0 ≡ y.a = ap (λ l. get_or (case_buses after) (get_or l e 0) 0) (sym from) ∙ new.1 in
    let at_w : get_or (case_buses after) w 0 ≡ y.b = ap (λ l. get_or (case_buses after) (get_or l e 0) 0) (sym to) ∙ new.2 in
    two_ends y (renamed_one name x) (sym at_u ∙ nodes u low.0 ∙ ap name old.1) (sym at_w ∙ nodes w low.1 ∙ ap name old.2)

-- the ends of the angle branch at a node
abbrev pub angle_ends : Tables → ℕ → Ends
angle_ends t u = record { a = slice_index (case_buses t) u; b = reference_vertex t (slice_index (case_buses t) u) }

angle_is : (t : Tables) (m : ℕ) (x : Ends) → IsAngleBranch t m x → x ≡ angle_ends t (slice_index (item_sites t) m)
angle_is t m x a = two_ends x (angle_ends t (slice_index (item_sites t) m)) a.bus (a.reference ∙ ap (reference_vertex t) a.bus)

-- the rows of the branch table and the angle branches
module _ (t after : Tables) (name : ℕ → ℕ) (v : IsValid t) (w : IsValid after) (from : froms after ≡ froms t) (to : tos after ≡ tos t) (sites : item_sites after ≡ item_sites t)
    (nodes : (u : ℕ) → u < length t.nodes → angle_ends after u ≡ renamed_one name (angle_ends t u)) where
  as_many : length after.branches ≡ length t.branches
  as_many = sym (length-map after.branches (λ (row : Branch). row.from)) ∙ ap (λ (l : List ℕ). length l) from ∙ length-map t.branches (λ (row : Branch). row.from)

  angle_renamed : (m k : ℕ) (x y : Ends) → k ≡ m → IsAngleBranch t m x → IsAngleBranch after k y → y ≡ renamed_one name x
  angle_renamed m k x y same old new =
      let u = slice_index (item_sites t) m in
      let site : slice_index (item_sites after) k ≡ u = ap (slice_index (item_sites after)) same ∙ ap (λ l. slice_index l m) sites in
      angle_is after k y new ∙ ap (angle_ends after) site ∙ nodes u old.node ∙ ap (renamed_one name) (sym (angle_is t m x old))

  pub ends_renamed : AreRenamed name (case_branches t) (case_branches after)
  ends_renamed e x y is_x is_y =
      elim (row_or_angle t v e x is_x) [
        | inl old ↦ elim (row_or_angle after w e y is_y) [
          | inl new ↦ rows_renamed t after name v from to (λ u l. ap (λ (z : Ends). z.a) (nodes u l)) e x y old.1 new.1
          | inr new ↦ absurd (omega (arith, old.0, new.0, as_many))
        ]
        | inr old ↦ elim (row_or_angle after w e y is_y) [
          | inl new ↦ absurd (omega (arith, old.0, new.0, as_many))
          | inr new ↦ angle_renamed (e - length t.branches) (e - length after.branches) x y (ap (λ n. e - n) as_many) old.1 new.1
        ]
      ]
