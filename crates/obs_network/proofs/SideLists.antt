-- The two sides of a row as lists of buses: what the other live branches join with its ends.
use Rattle.std.proofs.Common.{◌≡◌, ℕ, ◌<◌, Bool, true, eqb, inl, inr, Option, Some, None, List, length, filter, get_or, set, sym, ap, ◌∙◌, subst, arith}
use Rattle.std.specs.List.{Contains, range_with_len}
use Rattle.std.proofs.lemmas.Bool.{cond-true, eq-eqb, eqb-true}
use Rattle.std.proofs.lemmas.List.{get_or-set_other}
use Rattle.obs_graph.specs.declared.Ends.{Ends}
use Rattle.obs_graph.specs.Joined.{Chain, Leads, count_below, first_joined}
use Rattle.obs_graph.specs.Joined.Chain.{none, step}
use Rattle.obs_graph.specs.Positions.{present}
use Rattle.obs_graph.proofs.Chains.{Chain-from_same_first, Chain-more, leads_same, same_first-from_Chain}
use Rattle.obs_graph.proofs.Present.{contains_present, present_contains}
use Rattle.obs_case.specs.Tables.{IsValid, Tables}
use Rattle.obs_matroid.specs.Lists.{In, IsDistinct}
use Rattle.obs_matroid.proofs.Lists.{In-filter, In-filter_from, IsDistinct-filter, length-within}
use Rattle.obs_matroid.proofs.Ranges.{below_from, below_in, range_distinct}
use Rattle.obs_network.specs.Switched.{case_bus_count}
use Rattle.obs_network.specs.Components.{if_energised}
use Rattle.obs_network.specs.Network.{case_components, case_energised, case_live, case_rows}
use Rattle.obs_network.specs.Observable.{is_energised_component}
use Rattle.obs_network.specs.Parted.{outage_case}
use Rattle.obs_network.specs.inner.Parted.{IsSideOf}
use Rattle.obs_network.proofs.InComponents.{get_or-energised, live_ends-same, row_is_live}
use Rattle.obs_network.proofs.Marked.{length-passing}
use Rattle.obs_network.proofs.NeededCount.{live_ends_of}
use Rattle.obs_network.proofs.Spared.{case_live-without, live_elsewhere, set_none}

-- different numbers that are those below n that pass a test
pub length-of_passing : (p : ℕ → Bool) (n : ℕ) (xs : List ℕ) → IsDistinct xs → ((u : ℕ) → In u xs → (u < n) × (p u ≡ true)) → ((u : ℕ) → u < n → p u ≡ true → In u xs) → length xs ≡ count_below p n
length-of_passing p n xs different from to =
    let all = filter p (range_with_len 0 n) in
    let few = length-within xs all different (λ u i. let f = from u i in In-filter p u (range_with_len 0 n) (below_in n u f.0) f.1) in
    let many = length-within all xs (IsDistinct-filter p (range_with_len 0 n) (range_distinct 0 n))
    (λ u i. let f = In-filter_from p u (range_with_len 0 n) i in to u (below_from n u f.0) f.1) in
    omega (arith, few, many, length-passing p n)

module _ (t : Tables) (v : IsValid t) (e : ℕ) (x : Ends) (row : get_or (case_rows t) e None ≡ Some x) where
  abbrev out : Tables
  out = outage_case t e

  abbrev n : ℕ
  n = case_bus_count t

  abbrev es : List Ends
  es = live_ends_of out

  -- the other rows
  abbrev others : List (Option Ends)
  others = set (case_rows t) e None

  live_row : (get_or (case_live t) e None ≡ Some x) × (is_energised_component t (get_or (case_components t) x.a 0) ≡ true)
  live_row = row_is_live t e x row

  row_ends : (x.a < n) × (x.b < n) × (get_or (case_components t) x.a 0 ≡ get_or (case_components t) x.b 0)
  row_ends = live_ends-same t v e x live_row.0

  -- they are live
  others_live : (d : Ends) → Contains (present others) d → Contains es d
  others_live d has =
      let k = present_contains others d has in
      let there = set_none (case_rows t) e k.0 d k.1 in
      contains_present (case_live out) k.0 d (live_elsewhere t e k.0 there.0 ∙ (row_is_live t k.0 d there.1).0)

  -- a live branch but this one, as one of the case
  before : (d : Ends) → Contains es d → (k : ℕ) × (k ≡ e → ⊥) × (get_or (case_live t) k None ≡ Some d)
  before d has =
      let k = present_contains (case_live out) d has in
      let there = set_none (case_live t) e k.0 d (ap (λ l. get_or l k.0 None) (sym (case_live-without t e)) ∙ k.1) in
      (k.0, there.0, there.1)

  -- where its component is energised it is a row
  live_others : (d : Ends) → Contains es d → is_energised_component t (get_or (case_components t) d.a 0) ≡ true → Contains (present others) d
  live_others d has lit =
      let k = before d has in
      contains_present others k.0 d
      (get_or-set_other (case_rows t) e k.0 None None k.1
      ∙ get_or-energised t k.0 ∙ ap (if_energised (case_components t) (case_energised t)) k.2
      ∙ cond-true (is_energised_component t (get_or (case_components t) d.a 0)) (Some d) None lit)

  -- both ends of a live branch lie in one component
  along : (d : Ends) → Contains es d → (d.a < n) × (d.b < n) × (get_or (case_components t) d.a 0 ≡ get_or (case_components t) d.b 0)
  along d has = let k = before d has in live_ends-same t v k.0 d k.2

  -- a chain of live branches that begins in an energised component is one of rows, and stays in the component
  chain_of_rows : {u w : ℕ} → Chain es u w → is_energised_component t (get_or (case_components t) u 0) ≡ true → Chain (present others) u w
  chain_of_rows none lit = none
  chain_of_rows (step {e = d} {u = u} {v = w} has leads rest) lit =
      let ends = along d has in
      let comp : ℕ → ℕ = λ z. get_or (case_components t) z 0 in
      let same : comp u ≡ comp w = leads_same comp d u w ends.2 leads in
      let first : comp d.a ≡ comp u = elim leads [ inl p ↦ ap comp p.0 | inr p ↦ ends.2 ∙ ap comp p.0 ] in
      step (live_others d has (ap (is_energised_component t) first ∙ lit)) leads (chain_of_rows rest (ap (is_energised_component t) (sym same) ∙ lit))

  -- and it stays among the buses
  pub chain_low : {u w : ℕ} → Chain es u w → u < n → w < n
  chain_low none l = l
  chain_low (step {e = d} {u = u} {v = w} has leads rest) l =
      let ends = along d has in
      chain_low rest (elim leads [ inl p ↦ subst (λ z. z < n) p.1 ends.1 | inr p ↦ subst (λ z. z < n) p.1 ends.0 ])

  -- the side of one of the row's ends, as a list
  module _ (one other : ℕ) (leads : Leads x one other) (side : List ℕ) (of : IsSideOf (case_rows t) e one side) where
    abbrev pub on_side : ℕ → Bool
    on_side u = eqb (first_joined es one) (first_joined es u)

    end_low : one < n
    end_low = elim leads [ inl p ↦ subst (λ z. z < n) p.0 row_ends.0 | inr p ↦ subst (λ z. z < n) p.0 row_ends.1 ]

    end_lit : is_energised_component t (get_or (case_components t) one 0) ≡ true
    end_lit =
        let comp : ℕ → ℕ = λ z. get_or (case_components t) z 0 in
        let first : comp x.a ≡ comp one = elim leads [ inl p ↦ ap comp p.0 | inr p ↦ row_ends.2 ∙ ap comp p.0 ] in
        ap (is_energised_component t) (sym first) ∙ live_row.1

    pub in_side : (u : ℕ) → In u side → first_joined es one ≡ first_joined es u
    in_side u i = same_first-from_Chain es (Chain-more (present others) es others_live ((of.joined u).0 i))

    pub side_in : (u : ℕ) → first_joined es one ≡ first_joined es u → In u side
    side_in u same = (of.joined u).1 (chain_of_rows (Chain-from_same_first es one u same) end_lit)

    pub side_apart : first_joined es one ≡ first_joined es other → ⊥
    side_apart same = of.apart x other row leads (side_in other same)

    pub side_low : (u : ℕ) → In u side → u < n
    side_low u i = chain_low (Chain-more (present others) es others_live ((of.joined u).0 i)) end_low

    pub side_count : length side ≡ count_below on_side n
    side_count =
        length-of_passing on_side n side of.different
        (λ u i. (side_low u i, eq-eqb (first_joined es one) (first_joined es u) (in_side u i)))
        (λ u l t. side_in u (eqb-true (first_joined es one) (first_joined es u) t))
