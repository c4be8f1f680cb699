-- What the outage of a row that parts a component takes from the needed number, by the list of one side.
use Rattle.std.proofs.Common.{◌≡◌, ℕ, suc, ◌+◌, ◌-◌, ◌<◌, ◌≤◌, Bool, false, eqb, ◌⊎◌, inl, inr, Option, Some, None, List, length, get_or, refl, sym, ap, ◌∙◌, subst, arith}
use Rattle.std.specs.Prelude.{slice_index}
use Rattle.std.proofs.lemmas.Bool.{cases_eq, eq-eqb, ne_eqb}
use Rattle.std.proofs.lemmas.List.{get_or_append_left}
use Rattle.obs_graph.specs.declared.Ends.{Ends}
use Rattle.obs_graph.specs.Joined.{Leads, count_below, first_joined, merged}
use Rattle.obs_graph.proofs.Chains.{Leads-back, same_first-from_Chain}
use Rattle.obs_case.specs.Tables.{IsValid, Tables}
use Rattle.obs_matroid.specs.Lists.{In}
use Rattle.obs_network.specs.Switched.{case_bus_count, case_buses}
use Rattle.obs_network.specs.Components.{is_source}
use Rattle.obs_network.specs.inner.Components.{source_nodes}
use Rattle.obs_network.specs.inner.Located.{ends_component}
use Rattle.obs_network.specs.Network.{case_angles, case_branches, case_component_count, case_components, case_needed, case_rows, case_sizes}
use Rattle.obs_network.specs.Observable.{is_absolute_component}
use Rattle.obs_network.specs.Parted.{outage_case}
use Rattle.obs_network.specs.inner.Parted.{HasSource, HasSourceBeside, IsParted, IsSideOf}
use Rattle.obs_network.proofs.Bridged.{IsFed, falls_one, falls_side, first_is, lit_source, of_side}
use Rattle.obs_network.proofs.InComponents.{row_is_live, live_ends-same}
use Rattle.obs_network.proofs.NeededCount.{is_fixed, live_ends_of, of_component, size_is}
use Rattle.obs_network.proofs.OfCase.{case_bus-below, case_component-below, length-case_components, length-case_rows}
use Rattle.obs_network.proofs.OfLaws.{one_case_component}
use Rattle.obs_network.proofs.Outed.{marked_low}
use Rattle.obs_network.proofs.SideCount.{count_below-either, merged_one}
use Rattle.obs_network.proofs.SideLists.{in_side, side_apart, side_count, side_in, side_low}
use Rattle.obs_network.proofs.Vertices.{vertex_component-bus}

-- a row of the table is a branch of the graph
pub row_at : (t : Tables) (e : ℕ) → e < length t.branches → get_or (case_branches t) e None ≡ get_or (case_rows t) e None
unfolding case_branches
row_at t e l = get_or_append_left (case_rows t) (case_angles t) None e (omega (arith, l, length-case_rows t))

some_component : (components : List ℕ) (o : Option Ends) (c : ℕ) → ends_component components o ≡ Some c → (x : Ends) × (o ≡ Some x) × (ends_component components (Some x) ≡ Some c)
some_component components None c is = absurd (cc is)
some_component components (Some x) c is = (x, refl, is)

one_number : (a b : ℕ) → Some a ≡ Some b → a ≡ b
one_number a b is = cc

-- the row, one of its ends and the side of this one
pub record Found (t : Tables) (e c : ℕ) (side : List ℕ) : Type 0 where
  pub ends : Ends
  pub row : get_or (case_rows t) e None ≡ Some ends
  pub component : slice_index (case_components t) ends.a ≡ c
  pub one : ℕ
  pub other : ℕ
  pub leads : Leads ends one other
  pub of : IsSideOf (case_rows t) e one side

pub found : (t : Tables) → IsValid t → (e c : ℕ) (side : List ℕ) → IsParted t e c side → Found t e c side
found t v e c side p =
    let s = some_component (case_components t) (get_or (case_branches t) e None) c p.component in
    let x = s.0 in
    let row : get_or (case_rows t) e None ≡ Some x = sym (row_at t e p.row) ∙ s.1 in
    let low = live_ends-same t v e x (row_is_live t e x row).0 in
    let component : slice_index (case_components t) x.a ≡ c =
    sym (vertex_component-bus (case_components t) x.a (let l = low.0 in omega (arith, l, length-case_components t))) ∙ one_number _ c s.2 in
    elim (p.sides x row) [
      | inl a ↦ record { ends = x; row = row; component = component; one = x.a; other = x.b; leads = inl (refl, refl); of = a }
      | inr b ↦ record { ends = x; row = row; component = component; one = x.b; other = x.a; leads = inr (refl, refl); of = b }
    ]

module _ (t : Tables) (v : IsValid t) (e c : ℕ) (side : List ℕ) (p : IsParted t e c side) (f : Found t e c side) where
  abbrev out : Tables
  out = outage_case t e

  abbrev n : ℕ
  n = case_bus_count t

  abbrev es : List Ends
  es = live_ends_of out

  abbrev x : Ends
  x = f.ends

  pub low : (x.a < n) × (x.b < n) × (get_or (case_components t) x.a 0 ≡ get_or (case_components t) x.b 0)
  low = live_ends-same t v e x (row_is_live t e x f.row).0

  pub loose : is_fixed t x.a ≡ false
  loose = ap (is_absolute_component t) f.component ∙ p.loose

  pub ends_apart : first_joined es f.one ≡ first_joined es f.other → ⊥
  ends_apart = side_apart t v e x f.row f.one f.other f.leads side f.of

  pub apart : first_joined es x.a ≡ first_joined es x.b → ⊥
  apart same = elim f.leads [
    | inl l ↦ ends_apart (ap (first_joined es) (sym l.0) ∙ same ∙ ap (first_joined es) l.1)
    | inr l ↦ ends_apart (ap (first_joined es) (sym l.0) ∙ sym same ∙ ap (first_joined es) l.1)
  ]

  -- what is on the side of an end of the row is on the one side or on the other
  pub by_ends : (u : ℕ) → (first_joined es u ≡ first_joined es x.a) ⊎ (first_joined es u ≡ first_joined es x.b) → (first_joined es f.one ≡ first_joined es u) ⊎ (first_joined es f.other ≡ first_joined es u)
  by_ends u s = elim f.leads [
    | inl l ↦ elim s [ inl a ↦ inl (ap (first_joined es) (sym l.0) ∙ sym a) | inr b ↦ inr (ap (first_joined es) (sym l.1) ∙ sym b) ]
    | inr l ↦ elim s [ inl a ↦ inr (ap (first_joined es) (sym l.1) ∙ sym a) | inr b ↦ inl (ap (first_joined es) (sym l.0) ∙ sym b) ]
  ]

  -- a bus of the component is
  pub sides_are : (u : ℕ) → u < n → slice_index (case_components t) u ≡ c → (first_joined es f.one ≡ first_joined es u) ⊎ (first_joined es f.other ≡ first_joined es u)
  sides_are u l is =
      let fs = live_ends_of t in
      let first : (w : ℕ) → first_joined fs w ≡ merged (first_joined es x.a) (first_joined es x.b) (first_joined es w) = first_is t v e x f.row loose apart in
      let same : first_joined fs u ≡ first_joined fs x.a = same_first-from_Chain fs ((one_case_component t u x.a l low.0).0 (is ∙ sym f.component)) in
      by_ends u (elim (merged_one (first_joined es x.a) (first_joined es x.b) (first_joined es u) (first_joined es x.a) (sym (first u) ∙ same ∙ first x.a)) [
        | inl y ↦ inl y
        | inr y ↦ elim y [ inl z ↦ inl z.0 | inr z ↦ inr z.0 ]
      ])

  -- and what is on a side is of the component
  pub of_sides : (u : ℕ) → u < n → (first_joined es f.one ≡ first_joined es u) ⊎ (first_joined es f.other ≡ first_joined es u) → slice_index (case_components t) u ≡ c
  of_sides u l s = of_side t v e x f.row loose apart u l (to_ends s) ∙ f.component
    where
      to_ends : (first_joined es f.one ≡ first_joined es u) ⊎ (first_joined es f.other ≡ first_joined es u) → (first_joined es u ≡ first_joined es x.a) ⊎ (first_joined es u ≡ first_joined es x.b)
      to_ends s = elim f.leads [
        | inl l ↦ elim s [ inl a ↦ inl (sym a ∙ ap (first_joined es) (sym l.0)) | inr b ↦ inr (sym b ∙ ap (first_joined es) (sym l.1)) ]
        | inr l ↦ elim s [ inl a ↦ inr (sym a ∙ ap (first_joined es) (sym l.0)) | inr b ↦ inl (sym b ∙ ap (first_joined es) (sym l.1)) ]
      ]

  pub in_component : (u : ℕ) → In u side → slice_index (case_components t) u ≡ c
  in_component u i =
      of_sides u (side_low t v e x f.row f.one f.other f.leads side f.of u i) (inl (in_side t v e x f.row f.one f.other f.leads side f.of u i))

  abbrev pub Fed : ℕ → Type 0
  Fed b = IsFed t v e x f.row loose apart b

  source_low : (u : ℕ) → In u (source_nodes t.nodes) → slice_index (case_buses t) u < n
  source_low u i = case_bus-below t u (let m = marked_low is_source 0 t.nodes u i in omega (arith, m))

  -- a side has a source exactly where its list holds a source's bus
  pub fed_one : HasSource t side → Fed f.one
  fed_one s = (s.0, s.1, sym (in_side t v e x f.row f.one f.other f.leads side f.of (slice_index (case_buses t) s.0) s.2))

  pub one_fed : Fed f.one → HasSource t side
  one_fed s = (s.0, s.1, side_in t v e x f.row f.one f.other f.leads side f.of (slice_index (case_buses t) s.0) (sym s.2))

  pub fed_other : HasSourceBeside t c side → Fed f.other
  fed_other s =
      let bus = slice_index (case_buses t) s.0 in (
        s.0,
        s.1,
        elim (sides_are bus (source_low s.0 s.1) s.2) [
          | inl here ↦ absurd (s.3 (side_in t v e x f.row f.one f.other f.leads side f.of bus here))
          | inr there ↦ sym there
        ],
      )

  pub other_fed : Fed f.other → HasSourceBeside t c side
  other_fed s =
      let bus = slice_index (case_buses t) s.0 in (
        s.0,
        s.1,
        of_sides bus (source_low s.0 s.1) (inr (sym s.2)),
        λ i. ends_apart (in_side t v e x f.row f.one f.other f.leads side f.of bus i ∙ s.2),
      )

  pub both_live : HasSource t side → HasSourceBeside t c side → suc (case_needed out) ≡ case_needed t
  both_live a b =
      let one = fed_one a in
      let other = fed_other b in
      sym (elim f.leads [
        | inl l ↦ falls_one t v e x f.row loose apart (subst Fed (sym l.0) one) (subst Fed (sym l.1) other)
        | inr l ↦ falls_one t v e x f.row loose apart (subst Fed (sym l.1) other) (subst Fed (sym l.0) one)
      ])

  -- each bus of the component is on one of the sides
  pub size_by_sides : slice_index (case_sizes t) c ≡ length side + count_below (λ u. eqb (first_joined es f.other) (first_joined es u)) n
  size_by_sides =
      let at_one : ℕ → Bool = λ u. eqb (first_joined es f.one) (first_joined es u) in
      let at_other : ℕ → Bool = λ u. eqb (first_joined es f.other) (first_joined es u) in
      let few : c < case_component_count t = let l = low.0 in omega (arith, case_component-below t x.a l, f.component) in
      let both = count_below-either (of_component t c) at_one at_other n (λ u l. elim (cases_eq (slice_index (case_components t) u) c) [
        | inl is ↦ elim (sides_are u l is) [
          | inl a ↦ inl (
            eq-eqb (slice_index (case_components t) u) c is ∙ sym (eq-eqb (first_joined es f.one) (first_joined es u) a),
            ne_eqb (first_joined es f.other) (first_joined es u) (λ b. ends_apart (a ∙ sym b)),
          )
          | inr b ↦ inr (
            eq-eqb (slice_index (case_components t) u) c is ∙ sym (eq-eqb (first_joined es f.other) (first_joined es u) b),
            ne_eqb (first_joined es f.one) (first_joined es u) (λ a. ends_apart (a ∙ sym b)),
          )
        ]
        | inr ne ↦ inl (
          ne_eqb (slice_index (case_components t) u) c ne ∙ sym (ne_eqb (first_joined es f.one) (first_joined es u) (λ a. ne (of_sides u l (inl a)))),
          ne_eqb (first_joined es f.other) (first_joined es u) (λ b. ne (of_sides u l (inr b))),
        )
      ]) in
      omega (arith, both, size_is t c few, side_count t v e x f.row f.one f.other f.leads side f.of)

  pub short_side : length side ≤ slice_index (case_sizes t) c
  short_side = omega (arith, size_by_sides)

  -- a source of the component is on one of the sides
  pub some_fed : Fed f.one ⊎ Fed f.other
  some_fed =
      let low_a = low.0 in
      let m = lit_source t v x.a low_a (row_is_live t e x f.row).1 in
      let bus = slice_index (case_buses t) m.0 in
      elim (sides_are bus (source_low m.0 m.1) (m.2 ∙ f.component)) [
        | inl a ↦ inl (m.0, m.1, sym a)
        | inr b ↦ inr (m.0, m.1, sym b)
      ]

  pub listed_dead : (HasSource t side → ⊥) → case_needed out + length side ≡ case_needed t
  listed_dead none =
      let fed : Fed f.other = elim some_fed [ inl a ↦ absurd (none (one_fed a)) | inr b ↦ b ] in
      let falls = falls_side t v e x f.row loose apart f.other f.one (Leads-back x f.one f.other f.leads) fed (λ a. none (one_fed a)) in
      omega (arith, falls, side_count t v e x f.row f.one f.other f.leads side f.of)

  pub other_dead : (HasSourceBeside t c side → ⊥) → case_needed out + (slice_index (case_sizes t) c - length side) ≡ case_needed t
  other_dead none =
      let fed : Fed f.one = elim some_fed [ inl a ↦ a | inr b ↦ absurd (none (other_fed b)) ] in
      let falls = falls_side t v e x f.row loose apart f.one f.other f.leads fed (λ b. none (other_fed b)) in
      omega (arith, falls, size_by_sides)
