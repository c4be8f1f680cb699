-- What the outage of a row takes from the needed number, where the other rows don't join its ends and its component isn't absolute.
use Rattle.std.proofs.Common.{◌≡◌, ℕ, suc, max, ◌+◌, ◌<◌, Bool, true, false, eqb, ◌⊎◌, inl, inr, Some, None, List, [], ◌∷◌, length, get_or, refl, sym, ap, ◌∙◌, subst, arith}
use Rattle.std.specs.Cmp.Derive.{one_truth}
use Rattle.std.specs.Prelude.{slice_index, ◌==◌}
use Rattle.std.specs.List.{Contains, list_any}
use Rattle.std.proofs.lemmas.Bool.{cases_eq, eq-eqb, eqb-true, ne_eqb, or_cases, or_left, or_right, true≢false}
use Rattle.obs_graph.specs.declared.Ends.{Ends}
use Rattle.obs_graph.specs.Joined.{Leads, count_below, first_joined, merged}
use Rattle.obs_graph.proofs.Chains.{Chain-from_same_first, Contains-cases, Contains-here, Contains-there, same_first-from_Chain}
use Rattle.obs_graph.proofs.First.{first_joined-first_joined}
use Rattle.obs_graph.proofs.Forests.{AreAmong}
use Rattle.obs_graph.proofs.Present.{contains_present, present_contains, some_one}
use Rattle.obs_case.specs.declared.rows.Node.{Node}
use Rattle.obs_case.specs.Tables.{IsValid, Tables}
use Rattle.obs_case.proofs.ValidLemmas.{valid-with_branch_inservice}
use Rattle.obs_matroid.specs.Lists.{In}
use Rattle.obs_network.specs.Switched.{case_bus_count, case_buses}
use Rattle.obs_network.specs.Components.{is_absolute_node, is_marked, is_source, marked_nodes}
use Rattle.obs_network.specs.inner.Components.{source_nodes}
use Rattle.obs_network.specs.Network.{case_components, case_live, case_needed, case_rows}
use Rattle.obs_network.specs.Observable.{is_absolute_component, is_energised_component}
use Rattle.obs_network.specs.Parted.{outage_case}
use Rattle.obs_network.proofs.InComponents.{live_ends-same, row_is_live}
use Rattle.obs_network.proofs.NeededCount.{is_fixed, is_lit, live_ends_of, needed_by_buses}
use Rattle.obs_network.proofs.OfCase.{case_bus-below, case_component-below}
use Rattle.obs_network.proofs.OfLaws.{one_case_component}
use Rattle.obs_network.proofs.Outed.{absolute_at, absolute_before, energised_at, energised_before, marked_low}
use Rattle.obs_network.proofs.SideCount.{falls_by_one, falls_by_side, firsts_are, merged_one, top, top-low}
use Rattle.obs_network.proofs.Spared.{case_live-without, live_elsewhere, set_none}

-- a test that passes at one of some numbers
pub passes_at : (p : ℕ → Bool) (us : List ℕ) → list_any p us ≡ true → (u : ℕ) × In u us × (p u ≡ true)
passes_at p [] any = absurd (true≢false (sym any))
passes_at p (u ∷ us) any =
    elim (or_cases (p u) (list_any p us) any) [
      | inl here ↦ (u, inl refl, here)
      | inr there ↦ let rest = passes_at p us there in (rest.0, inr rest.1, rest.2)
    ]

pub passes_in : (p : ℕ → Bool) (us : List ℕ) (u : ℕ) → In u us → p u ≡ true → list_any p us ≡ true
passes_in p [] u i t = absurd i
passes_in p (x ∷ us) u (inl same) t = or_left (p x) (list_any p us) (ap p (sym same) ∙ t)
passes_in p (x ∷ us) u (inr i) t = or_right (p x) (list_any p us) (passes_in p us u i t)

-- whether the component of a bus is marked
abbrev pub marks : Tables → (Node → Bool) → ℕ → Bool
marks t flag b = is_marked flag (case_components t) (case_buses t) t.nodes (slice_index (case_components t) b)

-- a marked node whose bus the live branches join with this one
abbrev pub MarkedBy : Tables → (Node → Bool) → ℕ → Type 0
MarkedBy t flag b = (u : ℕ) × In u (marked_nodes flag t.nodes) × (first_joined (live_ends_of t) (slice_index (case_buses t) u) ≡ first_joined (live_ends_of t) b)

module _ (t : Tables) (v : IsValid t) (flag : Node → Bool) where
  node_low : (u : ℕ) → In u (marked_nodes flag t.nodes) → u < length t.nodes
  node_low u i = let m = marked_low flag 0 t.nodes u i in omega (arith, m)

  pub marked_by : (b : ℕ) → b < case_bus_count t → marks t flag b ≡ true → MarkedBy t flag b
  marked_by b l e =
      let at = passes_at (λ u. slice_index (case_components t) (slice_index (case_buses t) u) == slice_index (case_components t) b) (marked_nodes flag t.nodes) e in
      let bus = slice_index (case_buses t) at.0 in (
        at.0,
        at.1,
        same_first-from_Chain (live_ends_of t)
            ((one_case_component t bus b (case_bus-below t at.0 (node_low at.0 at.1)) l).0 (eqb-true (slice_index (case_components t) bus) (slice_index (case_components t) b) at.2)),
      )

  pub marked_from : (b : ℕ) → b < case_bus_count t → MarkedBy t flag b → marks t flag b ≡ true
  marked_from b l m =
      let bus = slice_index (case_buses t) m.0 in
      passes_in (λ u. slice_index (case_components t) (slice_index (case_buses t) u) == slice_index (case_components t) b) (marked_nodes flag t.nodes) m.0 m.1
      (eq-eqb (slice_index (case_components t) bus) (slice_index (case_components t) b)
      ((one_case_component t bus b (case_bus-below t m.0 (node_low m.0 m.1)) l).1 (Chain-from_same_first (live_ends_of t) bus b m.2)))

pub lit_is : (t : Tables) (b : ℕ) → b < case_bus_count t → is_lit t b ≡ marks t is_source b
lit_is t b l = energised_at t (slice_index (case_components t) b) (case_component-below t b l)

pub fixed_is : (t : Tables) (b : ℕ) → b < case_bus_count t → is_fixed t b ≡ marks t is_absolute_node b
fixed_is t b l = absolute_at t (slice_index (case_components t) b) (case_component-below t b l)

-- an energised component has a source's bus
pub lit_source : (t : Tables) → IsValid t → (b : ℕ) → b < case_bus_count t → is_lit t b ≡ true
    → (u : ℕ) × In u (source_nodes t.nodes) × (slice_index (case_components t) (slice_index (case_buses t) u) ≡ slice_index (case_components t) b)
lit_source t v b l is =
    let at = passes_at (λ u. slice_index (case_components t) (slice_index (case_buses t) u) == slice_index (case_components t) b) (marked_nodes is_source t.nodes) (sym (lit_is t b l) ∙ is) in
    (at.0, at.1, eqb-true (slice_index (case_components t) (slice_index (case_buses t) at.0)) (slice_index (case_components t) b) at.2)

-- a present row whose ends the other live branches don't join, of a component that isn't absolute
module _ (t : Tables) (v : IsValid t) (e : ℕ) (x : Ends) (row : get_or (case_rows t) e None ≡ Some x) (loose : is_fixed t x.a ≡ false)
    (apart : first_joined (live_ends_of (outage_case t e)) x.a ≡ first_joined (live_ends_of (outage_case t e)) x.b → ⊥) where
  abbrev out : Tables
  out = outage_case t e

  abbrev n : ℕ
  n = case_bus_count t

  abbrev es : List Ends
  es = live_ends_of out

  abbrev fs : List Ends
  fs = live_ends_of t

  out_valid : IsValid out
  out_valid = valid-with_branch_inservice t v e false

  live : (get_or (case_live t) e None ≡ Some x) × (is_lit t x.a ≡ true)
  live = row_is_live t e x row

  low : (x.a < n) × (x.b < n) × (get_or (case_components t) x.a 0 ≡ get_or (case_components t) x.b 0)
  low = live_ends-same t v e x live.0

  more : AreAmong fs (x ∷ es)
  more d has =
      let k = present_contains (case_live t) d has in
      elim (cases_eq k.0 e) [
        | inl same ↦
            let is : x ≡ d = some_one x d (sym live.0 ∙ ap (λ i. get_or (case_live t) i None) (sym same) ∙ k.1) in
            subst (λ (z : Ends). Contains (x ∷ es) z) is (Contains-here x es)
        | inr ne ↦ Contains-there x d es (contains_present (case_live out) k.0 d (live_elsewhere t e k.0 ne ∙ k.1))
      ]

  less : AreAmong (x ∷ es) fs
  less d has =
      elim (Contains-cases x d es has) [
        | inl is ↦ subst (λ (z : Ends). Contains fs z) is (contains_present (case_live t) e x live.0)
        | inr there ↦
            let k = present_contains (case_live out) d there in
            contains_present (case_live t) k.0 d (set_none (case_live t) e k.0 d (ap (λ l. get_or l k.0 None) (sym (case_live-without t e)) ∙ k.1)).1
      ]

  abbrev one : ℕ
  one = first_joined es x.a

  abbrev other : ℕ
  other = first_joined es x.b

  pub first_is : (u : ℕ) → first_joined fs u ≡ merged one other (first_joined es u)
  first_is = firsts_are n es fs x low.0 low.1 more less apart

  -- the buses of both sides are of the row's component
  of_a : (u : ℕ) → u < n → first_joined es u ≡ one → slice_index (case_components t) u ≡ slice_index (case_components t) x.a
  of_a u l is =
      (one_case_component t u x.a l low.0).1 (Chain-from_same_first fs u x.a (first_is u ∙ ap (merged one other) is ∙ sym (first_is x.a)))

  of_b : (u : ℕ) → u < n → first_joined es u ≡ other → slice_index (case_components t) u ≡ slice_index (case_components t) x.a
  of_b u l is =
      (one_case_component t u x.b l low.1).1 (Chain-from_same_first fs u x.b (first_is u ∙ ap (merged one other) is ∙ sym (first_is x.b))) ∙ sym low.2

  abbrev pub OnSide : ℕ → Type 0
  OnSide u = (first_joined es u ≡ one) ⊎ (first_joined es u ≡ other)

  pub of_side : (u : ℕ) → u < n → OnSide u → slice_index (case_components t) u ≡ slice_index (case_components t) x.a
  of_side u l (inl is) = of_a u l is
  of_side u l (inr is) = of_b u l is

  side_lit : (u : ℕ) → u < n → OnSide u → is_lit t u ≡ true
  side_lit u l s = ap (is_energised_component t) (of_side u l s) ∙ live.1

  pub side_loose : (u : ℕ) → u < n → OnSide u → is_fixed t u ≡ false
  side_loose u l s = ap (is_absolute_component t) (of_side u l s) ∙ loose

  -- a marked component is marked after, but for the sides
  marked_after : (flag : Node → Bool) (b : ℕ) → b < n → marks t flag b ≡ true → (marks out flag b ≡ true) ⊎ OnSide b
  marked_after flag b l e =
      let m = marked_by t v flag b l e in
      let bus = slice_index (case_buses t) m.0 in
      elim (merged_one one other (first_joined es bus) (first_joined es b) (sym (first_is bus) ∙ m.2 ∙ first_is b)) [
        | inl same ↦ inl (marked_from out out_valid flag b l (m.0, m.1, same))
        | inr two ↦ elim two [ inl s ↦ inr (inr s.1) | inr s ↦ inr (inl s.1) ]
      ]

  pub lit_after : (b : ℕ) → b < n → is_lit t b ≡ true → (is_lit out b ≡ true) ⊎ OnSide b
  lit_after b l e = elim (marked_after is_source b l (sym (lit_is t b l) ∙ e)) [ inl m ↦ inl (lit_is out b l ∙ m) | inr s ↦ inr s ]

  pub fixed_same : (b : ℕ) → b < n → is_fixed t b ≡ is_fixed out b
  fixed_same b l =
      one_truth (is_fixed t b) (is_fixed out b)
      (λ t_is. elim (marked_after is_absolute_node b l (sym (fixed_is t b l) ∙ t_is)) [
        | inl m ↦ fixed_is out b l ∙ m
        | inr s ↦ absurd (cc (sym t_is ∙ side_loose b l s))
      ])
      (λ o_is. absolute_before t v e b l o_is)

  top_side : OnSide (max one other)
  top_side = elim (one_of one other) [
    | inl s ↦ inl (ap (first_joined es) s ∙ first_joined-first_joined es x.a)
    | inr s ↦ inr (ap (first_joined es) s ∙ first_joined-first_joined es x.b)
  ]
    where
      one_of : (x y : ℕ) → (max x y ≡ x) ⊎ (max x y ≡ y)
      one_of x y = grind arith

  lit_top : is_lit t (top n es fs x low.0 low.1 more less apart) ≡ true
  lit_top = side_lit (top n es fs x low.0 low.1 more less apart) (top-low n es fs x low.0 low.1 more less apart) top_side

  loose_top : is_fixed t (top n es fs x low.0 low.1 more less apart) ≡ false
  loose_top = side_loose (top n es fs x low.0 low.1 more less apart) (top-low n es fs x low.0 low.1 more less apart) top_side

  -- a source whose bus the other live branches join with this one
  abbrev pub IsFed : ℕ → Type 0
  IsFed b = MarkedBy out is_source b

  pub fed_lit : (b : ℕ) → b < n → IsFed b → is_lit out b ≡ true
  fed_lit b l m = lit_is out b l ∙ marked_from out out_valid is_source b l m

  pub lit_fed : (b : ℕ) → b < n → is_lit out b ≡ true → IsFed b
  lit_fed b l t = marked_by out out_valid is_source b l (sym (lit_is out b l) ∙ t)

  pub fed_along : (b c : ℕ) → first_joined es b ≡ first_joined es c → IsFed b → IsFed c
  fed_along b c same m = (m.0, m.1, m.2 ∙ same)

  -- where both sides have a source, it falls by one
  pub falls_one : IsFed x.a → IsFed x.b → case_needed t ≡ suc (case_needed out)
  falls_one fed_a fed_b =
      needed_by_buses t
      ∙ falls_by_one n es fs x low.0 low.1 more less apart (is_lit t) (is_lit out) (is_fixed t) (is_fixed out) (λ u. false)
      (λ u l is. (energised_before t v e u l is, (fixed_same u l, refl)))
      (λ u l is. inl (elim (lit_after u l is) [
        | inl y ↦ y
        | inr s ↦ elim s [ inl a ↦ fed_lit u l (fed_along x.a u (sym a) fed_a) | inr b ↦ fed_lit u l (fed_along x.b u (sym b) fed_b) ]
      ]))
      (λ u l is. absurd (true≢false (sym is)))
      lit_top loose_top (λ u l. refl)
      ∙ ap suc (sym (needed_by_buses out))

  -- where the side of d has none, it falls by the number of its buses
  pub falls_side : (l d : ℕ) → Leads x l d → IsFed l → (IsFed d → ⊥) → case_needed t ≡ case_needed out + count_below (λ u. eqb (first_joined es d) (first_joined es u)) n
  falls_side y d ends fed none =
      let dead : ℕ → Bool = λ u. eqb (first_joined es d) (first_joined es u) in
      let at : (u : ℕ) → dead u ≡ true → first_joined es d ≡ first_joined es u = λ u is. eqb-true (first_joined es d) (first_joined es u) is in
      let side : (u : ℕ) → dead u ≡ true → OnSide u = λ u is. elim ends [
        | inl s ↦ inr (sym (at u is) ∙ ap (first_joined es) (sym s.1))
        | inr s ↦ inl (sym (at u is) ∙ ap (first_joined es) (sym s.1))
      ] in
      needed_by_buses t
      ∙ falls_by_side n es fs x low.0 low.1 more less apart (is_lit t) (is_lit out) (is_fixed t) (is_fixed out) dead
      (λ u l is. (
        energised_before t v e u l is,
        (
          fixed_same u l,
          ne_eqb (first_joined es d) (first_joined es u) (λ same. none (fed_along u d (sym same) (lit_fed u l is))),
        ),
      ))
      (λ u l is. elim (lit_after u l is) [
        | inl t ↦ inl t
        | inr s ↦ elim (far u s) [
          | inl same ↦ inl (fed_lit u l (fed_along y u same fed))
          | inr same ↦ inr (eq-eqb (first_joined es d) (first_joined es u) same)
        ]
      ])
      (λ u l is. (side_lit u l (side u is), side_loose u l (side u is)))
      lit_top loose_top d low_d (λ u l. refl)
      ∙ ap (λ m. m + count_below dead n) (sym (needed_by_buses out))
    where
      far : (u : ℕ) → OnSide u → (first_joined es y ≡ first_joined es u) ⊎ (first_joined es d ≡ first_joined es u)
      far u s = elim ends [
        | inl p ↦ elim s [ inl a ↦ inl (ap (first_joined es) (sym p.0) ∙ sym a) | inr b ↦ inr (ap (first_joined es) (sym p.1) ∙ sym b) ]
        | inr p ↦ elim s [ inl a ↦ inr (ap (first_joined es) (sym p.1) ∙ sym a) | inr b ↦ inl (ap (first_joined es) (sym p.0) ∙ sym b) ]
      ]

      low_d : d < n
      low_d = elim ends [ inl p ↦ subst (λ z. z < n) p.1 low.1 | inr p ↦ subst (λ z. z < n) p.1 low.0 ]
