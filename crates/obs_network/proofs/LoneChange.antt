-- A branch that comes or goes alone: the network after is that before with this branch changed.
use Rattle.std.proofs.Common.{◌≡◌, ℕ, ◌<◌, ◌≤◌, Bool, true, false, Option, Some, None, List, length, get_or, set, refl, sym, ap, ◌∙◌, subst, arith, inl, inr}
use Rattle.std.specs.Prelude.{IfSome, slice_index, slice_index_or, take}
use Rattle.std.proofs.lemmas.Bool.{cond-true}
use Rattle.std.proofs.lemmas.List.{get_or_append_left, length-set, set-get_or, set-set}
use Rattle.std.proofs.lemmas.List.Elements.{All-get_or}
use Rattle.obs_graph.specs.declared.Ends.{Ends}
use Rattle.obs_graph.specs.Graph.{Graph}
use Rattle.obs_graph.proofs.Present.{none_some, some_one}
use Rattle.obs_case.specs.declared.rows.Branch.{Branch}
use Rattle.obs_case.specs.Flags.{with_branch_inservice}
use Rattle.obs_case.specs.Tables.{IsValid, Tables}
use Rattle.obs_case.proofs.RowLemmas.{length-changed}
use Rattle.obs_case.proofs.ValidLemmas.{valid-with_branch_inservice}
use Rattle.obs_network.specs.Switched.{case_bus_count}
use Rattle.obs_network.specs.Components.{if_energised}
use Rattle.obs_network.specs.Network.{Network, Rows, case_angles, case_branches, case_components, case_energised, case_live, case_rows, case_vertex_count, network_of, rows_of}
use Rattle.obs_network.specs.inner.Edited.{AreSameBut, ChangesAlone, IsBeforeBranch}
use Rattle.obs_network.specs.Parted.{outage_case}
use Rattle.obs_network.specs.inner.Parted.{StaysJoined}
use Rattle.obs_network.proofs.Edited.{branch_is}
use Rattle.obs_network.proofs.Fronts.{rows_are_first}
use Rattle.obs_network.proofs.OfCase.{IsBranch, case_live-branches, case_vertex_count-le, length-case_branches, length-case_live, length-case_rows}
use Rattle.obs_network.proofs.OfLaws.{changed_at-twice, rows-with_branch}
use Rattle.obs_network.proofs.Outed.{at_map, some_of}
use Rattle.obs_network.proofs.Spared.{branches_but_one, case_live-without, components_stay, energised_stay, joined_by_rows, row_is_live, set_none}
use Rattle.obs_network.proofs.SparedItems.{same_but_one}

-- a flag that is set twice is set once
pub set_twice : (t : Tables) (at : ℕ) (b c : Bool) → with_branch_inservice (with_branch_inservice t at b) at c ≡ with_branch_inservice t at c
set_twice t at b c =
    ap (λ (rows : List Branch). record t { branches = rows })
    (changed_at-twice (λ (row : Branch). record row { inservice = b }) (λ (row : Branch). record row { inservice = c }) (λ row. refl) at t.branches)

-- the tables before were valid
pub valid_before : (t : Tables) (at : ℕ) (b : Bool) → IsValid (with_branch_inservice t at b) → IsValid t
valid_before t at b v =
    elim (branch_is t at) [
      | inl e ↦ subst IsValid (set_twice t at b false ∙ sym e) (valid-with_branch_inservice (with_branch_inservice t at b) v at false)
      | inr e ↦ subst IsValid (set_twice t at b true ∙ sym e) (valid-with_branch_inservice (with_branch_inservice t at b) v at true)
    ]

pub same_back : (at : ℕ) (one other : Network) → AreSameBut at one other → AreSameBut at other one
same_back at one other s = record {
  vertices = sym s.vertices;
  components = sym s.components;
  needed = sym s.needed;
  ends = sym (ap (λ l. set l at (get_or one.graph.ends at None)) s.ends ∙ set-set one.graph.ends at (get_or other.graph.ends at None) (get_or one.graph.ends at None) ∙ set-get_or one.graph.ends at None);
  touched = λ m e ne. let t = s.touched m e ne in (t.1, t.0);
}

pub same_itself : (at : ℕ) (n : Network) → AreSameBut at n n
same_itself at n = record { vertices = refl; components = refl; needed = refl; ends = sym (set-get_or n.graph.ends at None); touched = λ m e ne. (λ i. i, λ i. i) }

-- what the flag of a branch leaves
pub record IsLeft (n : Network) (after : Tables) : Type 0 where
  pub rows : n.rows ≡ rows_of after
  pub buses : n.buses ≡ (network_of after).buses
  pub positions : length after.branches ≤ length n.graph.ends
  pub room : n.graph.vertices ≤ n.graph.most_vertices

pub branch_edited : (n : Network) (at : ℕ) (after : Tables) → IsBeforeBranch n at after → IsLeft n after
branch_edited n at after before =
    let t = before.tables in
    let b = before.inservice in
    let put = with_branch_inservice t at b in
    let same = rows-with_branch t at b in
    let base : IsLeft (network_of t) put = record {
      rows = sym same;
      buses = refl;
      positions = omega (arith, ap (λ (r : Rows). r.branches) same, length-case_branches t);
      room = case_vertex_count-le t;
    } in
    subst (λ (u : Tables). IsLeft n u) (sym before.edited) (subst (λ (m : Network). IsLeft m put) (sym before.network) base)

-- the ends of a live branch are two different buses
pub live_is_branch : (t : Tables) → IsValid t → (at : ℕ) → at < length t.branches → (o : Option Ends) → o ≡ slice_index_or (case_live t) at None → IsBranch (case_bus_count t) o
live_is_branch t v at low o is =
    subst (IsBranch (case_bus_count t)) (sym is) (All-get_or (IsBranch (case_bus_count t)) (case_live t) at None (omega (arith, low, length-case_live t)) (case_live-branches t v))

pub live_in_range : (t : Tables) → IsValid t → (at count : ℕ) → at < length t.branches → count ≡ case_bus_count t → (o : Option Ends) → o ≡ slice_index_or (case_live t) at None
    → IfSome o (λ x. (x.a < count) × (x.b < count))
live_in_range t v at count low same o is = two o (live_is_branch t v at low o is)
  where
    two : (o : Option Ends) → IsBranch (case_bus_count t) o → IfSome o (λ x. (x.a < count) × (x.b < count))
    two None b = tt
    two (Some x) b = (omega (arith, b.0, same), omega (arith, b.1, same))

-- the network after is that before, with this branch changed
pub record IsAlone (n : Network) (at : ℕ) (after : Tables) : Type 0 where
  pub low : at < length n.graph.ends
  pub ends : set n.graph.ends at (slice_index_or (case_live after) at None) ≡ case_branches after
  pub same : AreSameBut at n (network_of after)

in_branches : (t : Tables) (at : ℕ) → at < length t.branches → at < length (case_branches t)
in_branches t at low = omega (arith, low, length-case_branches t)

-- a live branch of an energised component is in the graph
lit : (t : Tables) (at : ℕ) (x : Ends) → at < length t.branches → slice_index_or (case_live t) at None ≡ Some x → slice_index_or (case_energised t) (slice_index (case_components t) x.a) false ≡ true
    → slice_index_or (case_branches t) at None ≡ Some x
unfolding case_branches case_rows
lit t at x low is on =
    get_or_append_left (case_rows t) (case_angles t) None at (omega (arith, low, length-case_rows t))
    ∙ at_map (if_energised (case_components t) (case_energised t)) refl (case_live t) at
    ∙ ap (if_energised (case_components t) (case_energised t)) is
    ∙ cond-true (slice_index_or (case_energised t) (slice_index (case_components t) x.a) false) (Some x) None on

-- a branch that stays in service
stayed : (t : Tables) (at : ℕ) (x : Ends) → at < length t.branches → slice_index_or (case_live t) at None ≡ Some x → slice_index_or (case_energised t) (slice_index (case_components t) x.a) false ≡ true
    → IsAlone (network_of t) at t
stayed t at x low is on = record {
  low = in_branches t at low;
  ends = ap (set (case_branches t) at) (is ∙ sym (lit t at x low is on)) ∙ set-get_or (case_branches t) at None;
  same = same_itself at (network_of t);
}

-- a branch that went
went : (t : Tables) → IsValid t → (at : ℕ) → at < length t.branches → StaysJoined t at → slice_index_or (case_live (outage_case t at)) at None ≡ None → IsAlone (network_of t) at (outage_case t at)
went t v at low stays none = record {
  low = in_branches t at low;
  ends = ap (set (case_branches t) at) none ∙ sym (branches_but_one t v at stays low);
  same = same_but_one t v at low stays;
}

-- a branch that came
came : (t : Tables) → IsValid t → (at : ℕ) (x : Ends) → at < length t.branches → slice_index_or (case_live t) at None ≡ Some x → ChangesAlone (network_of (outage_case t at)).components (case_rows (outage_case t at)) at (Some x)
    → IsAlone (network_of (outage_case t at)) at t
came t v at x low is alone =
    let stays : StaysJoined t at = λ y is_y. subst (λ (z : Ends). slice_index (case_components (outage_case t at)) z.a ≡ slice_index (case_components (outage_case t at)) z.b) (some_one x y (sym is ∙ is_y)) alone.0 in
    let on : slice_index_or (case_energised t) (slice_index (case_components t) x.a) false ≡ true =
    ap (λ l. slice_index_or l (slice_index (case_components t) x.a) false) (sym (energised_stay t v at stays))
    ∙ ap (λ l. slice_index_or (case_energised (outage_case t at)) (slice_index l x.a) false) (sym (components_stay t v at stays))
    ∙ alone.1 in
    let gone = branches_but_one t v at stays low in
    let same = same_but_one t v at low stays in
    record {
      low = subst (λ (l : List (Option Ends)). at < length l) (sym gone) (omega (arith, in_branches t at low, length-set (case_branches t) at None));
      ends = ap (λ l. set l at (slice_index_or (case_live t) at None)) gone
          ∙ set-set (case_branches t) at None (slice_index_or (case_live t) at None)
          ∙ ap (set (case_branches t) at) (is ∙ sym (lit t at x low is on))
          ∙ set-get_or (case_branches t) at None;
      same = same_back at (network_of t) (network_of (outage_case t at)) same;
    }

-- no branch is live out of service
dark : (t : Tables) (at : ℕ) (x : Ends) → slice_index_or (case_live (outage_case t at)) at None ≡ Some x → ⊥
dark t at x is = (set_none (case_live t) at at x (ap (λ l. get_or l at None) (sym (case_live-without t at)) ∙ is)).0 refl

-- a branch that comes or goes alone, whichever it was before
lone_by : (t : Tables) → IsValid t → (at : ℕ) (b : Bool) → at < length t.branches → at < length (with_branch_inservice t at b).branches → IsValid (with_branch_inservice t at b)
    → (o : Option Ends) → slice_index_or (case_live (with_branch_inservice t at b)) at None ≡ o
    → ChangesAlone (network_of t).components (case_rows t) at o → IsAlone (network_of t) at (with_branch_inservice t at b)
lone_by t v at false low low_after w (Some x) is alone = absurd (dark t at x is)
lone_by t v at true low low_after w (Some x) is alone =
    let put = with_branch_inservice t at true in
    elim (branch_is t at) [
      | inl e ↦
          let out : outage_case put at ≡ t = set_twice t at true false ∙ sym e in
          subst (λ (u : Tables). IsAlone (network_of u) at put) out
          (came put w at x low_after is (subst (λ (u : Tables). ChangesAlone (network_of u).components (case_rows u) at (Some x)) (sym out) alone))
      | inr e ↦ subst (λ (u : Tables). IsAlone (network_of t) at u) e (stayed t at x low (ap (λ (u : Tables). slice_index_or (case_live u) at None) e ∙ is) alone.1)
    ]
lone_by t v at false low low_after w None is alone = went t v at low (joined_by_rows t v at alone.0 alone.1) is
lone_by t v at true low low_after w None is alone =
    let row = some_of (slice_index_or (case_rows t) at None) alone.0 in
    let live = row_is_live t at row.0 row.1 in
    elim (branch_is t at) [
      | inl e ↦ absurd (dark t at row.0 (ap (λ (u : Tables). slice_index_or (case_live u) at None) (sym e) ∙ live))
      | inr e ↦ absurd (none_some row.0 (sym is ∙ ap (λ (u : Tables). slice_index_or (case_live u) at None) (sym e) ∙ live))
    ]

pub lone : (n : Network) (at : ℕ) (after : Tables) → IsValid after → at < length after.branches → IsBeforeBranch n at after
    → ChangesAlone n.components (take (length after.branches) n.graph.ends) at (slice_index_or (case_live after) at None) → IsAlone n at after
lone n at after v low before alone =
    let t = before.tables in
    let put = with_branch_inservice t at before.inservice in
    let w : IsValid put = subst IsValid before.edited v in
    let low_put : at < length put.branches = subst (λ (u : Tables). at < length u.branches) before.edited low in
    let len : length put.branches ≡ length t.branches = length-changed (λ (row : Branch). record row { inservice = before.inservice }) t.branches at in
    let of_put = subst (λ (u : Tables). ChangesAlone n.components (take (length u.branches) n.graph.ends) at (slice_index_or (case_live u) at None)) before.edited alone in
    let of_t = subst (λ (m : Network). ChangesAlone m.components (take (length put.branches) m.graph.ends) at (slice_index_or (case_live put) at None)) before.network of_put in
    let rows = rows_are_first t (case_branches t) (length put.branches) refl len in
    let base = lone_by t (valid_before t at before.inservice w) at before.inservice (omega (arith, low_put, len)) low_put w (slice_index_or (case_live put) at None) refl
    (subst (λ (l : List (Option Ends)). ChangesAlone (network_of t).components l at (slice_index_or (case_live put) at None)) rows of_t) in
    subst (λ (u : Tables). IsAlone n at u) (sym before.edited) (subst (λ (m : Network). IsAlone m at put) (sym before.network) base)

pub ends_after : (s n : Network) (at : ℕ) (after : Tables) (o : Option Ends) → s ≡ n → IsAlone n at after → o ≡ slice_index_or (case_live after) at None → set s.graph.ends at o ≡ case_branches after
ends_after s n at after o is alone is_o = ap (λ (x : Network). set x.graph.ends at o) is ∙ ap (set n.graph.ends at) is_o ∙ alone.ends

-- the graph with this branch changed is that after
pub graph_after : (s n : Network) (at : ℕ) (after : Tables) (o : Option Ends) → s ≡ n → IsAlone n at after → o ≡ slice_index_or (case_live after) at None → (g : Graph) → g ≡ record s.graph { ends = set s.graph.ends at o }
    → (g.vertices ≡ case_vertex_count after) × (g.ends ≡ case_branches after)
graph_after s n at after o is alone is_o g is_g = (
  ap (λ (x : Graph). x.vertices) is_g ∙ ap (λ (x : Network). x.graph.vertices) is ∙ sym alone.same.vertices,
  ap (λ (x : Graph). x.ends) is_g ∙ ends_after s n at after o is alone is_o,
)
