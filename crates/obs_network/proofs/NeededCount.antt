-- The needed number, counted by buses: each bus of an energised component adds one, but for the first of a component that isn't
-- absolute.
use Rattle.std.proofs.Common.{◌≡◌, ℕ, zero, suc, ◌+◌, ◌-◌, ◌<◌, Bool, true, false, not, ◌&&◌, ◌||◌, inl, inr, List, length, filter, refl, sym, ap, ◌∙◌, arith}
use Rattle.std.specs.Prelude.{cond, slice_index, ◌==◌}
use Rattle.std.specs.List.{range_with_len}
use Rattle.std.proofs.lemmas.Bool.{cases_Bool, cond-true, cond-false, eq-eqb, eqb-true, ne_eqb}
use Rattle.std.proofs.lemmas.List.Sums.{length-filter}
use Rattle.obs_graph.specs.declared.Ends.{Ends}
use Rattle.obs_graph.specs.Joined.{count_below, first_joined}
use Rattle.obs_graph.specs.Positions.{present, sum_below}
use Rattle.obs_graph.proofs.Chains.{same_first-from_Chain}
use Rattle.obs_graph.proofs.Counts.{count_below-agree, count_below-none, count_below-one_more}
use Rattle.obs_graph.proofs.First.{first_joined-first_joined, first_joined-le}
use Rattle.obs_graph.proofs.FlatParts.{sum_below-agree, sum_below-zero}
use Rattle.obs_graph.proofs.Ranks.{is_moved}
use Rattle.obs_case.specs.Tables.{Tables}
use Rattle.obs_network.specs.Switched.{case_bus_count}
use Rattle.obs_network.specs.Components.{is_first_bus}
use Rattle.obs_network.specs.Network.{case_component_count, case_components, case_live, case_need, case_needed, case_sizes}
use Rattle.obs_network.specs.Observable.{is_absolute_component, is_energised_component}
use Rattle.obs_network.proofs.Grouping.{sizes_of-at}
use Rattle.obs_network.proofs.Marked.{length-passing}
use Rattle.obs_network.proofs.Numbered.{component_at}
use Rattle.obs_network.proofs.OfCase.{case_component-below, length-case_components}
use Rattle.obs_network.proofs.OfLaws.{case_component-at, one_case_component}
use Rattle.obs_network.proofs.Sums.{one_more}
use Rattle.obs_network.proofs.Vertices.{counted_at}

-- whether the component of a bus is energised, and whether it is absolute
abbrev pub is_lit : Tables → ℕ → Bool
is_lit t b = is_energised_component t (slice_index (case_components t) b)

abbrev pub is_fixed : Tables → ℕ → Bool
is_fixed t b = is_absolute_component t (slice_index (case_components t) b)

-- the branches that are live
abbrev pub live_ends_of : Tables → List Ends
live_ends_of t = present (case_live t)

-- whether a bus adds to the needed number
abbrev pub adds_one : Tables → ℕ → Bool
adds_one t b = is_lit t b && (is_moved (live_ends_of t) b || is_fixed t b)

-- two tests
pub and_whole : (a b : Bool) → (b ≡ true → a ≡ true) → (a && b) ≡ b
and_whole true true h = refl
and_whole true false h = refl
and_whole false true h = h refl
and_whole false false h = refl

pub and_never : (a b : Bool) → (b ≡ true → a ≡ false) → (a && b) ≡ false
and_never true true h = h refl
and_never true false h = refl
and_never false b h = refl

-- what passes a test is as many as those of each number that pass
pub count_below-by : (f : ℕ → ℕ) (q : ℕ → Bool) (k n : ℕ) → ((b : ℕ) → b < n → f b < k) → count_below q n ≡ sum_below (λ c. count_below (λ b. q b && (f b == c)) n) k
count_below-by f q k zero h = sym (sum_below-zero k)
count_below-by f q k (suc n) h =
    let part : ℕ → ℕ = λ c. count_below (λ b. q b && (f b == c)) n in
    let more : ℕ → ℕ = λ c. count_below (λ b. q b && (f b == c)) (suc n) in
    let rest = count_below-by f q k n (λ b l. h b (omega (arith, l))) in
    elim (cases_Bool (q n)) [
      | inl e ↦
          let each : sum_below (λ c. cond (f n == c) (suc (part c)) (part c)) k ≡ sum_below more k =
          sum_below-agree (λ c. cond (f n == c) (suc (part c)) (part c)) more k (λ c l. rw e refl) in
          let plus = one_more part (f n) k (h n (omega arith)) in
          rw e (omega (arith, rest, each, plus))
      | inr e ↦
          let each : sum_below part k ≡ sum_below more k = sum_below-agree part more k (λ c l. rw e refl) in
          rw e (omega (arith, rest, each))
    ]

module _ (t : Tables) where
  abbrev n : ℕ
  n = case_bus_count t

  abbrev live : List Ends
  live = live_ends_of t

  abbrev pub of_component : ℕ → ℕ → Bool
  of_component c b = slice_index (case_components t) b == c

  -- as many buses as a component has
  pub size_is : (c : ℕ) → c < case_component_count t → slice_index (case_sizes t) c ≡ count_below (of_component c) n
  unfolding case_sizes
  size_is c l =
      let counted : length (filter (of_component c) (range_with_len 0 n)) ≡ length (filter (λ x. x == c) (case_components t)) =
      ap (λ i. length (filter (of_component c) (range_with_len 0 i))) (sym (length-case_components t)) ∙ counted_at (case_components t) c 0 (of_component c) (λ k low. let start : 0 + k ≡ k = omega arith in ap (of_component c) start) in
      sizes_of-at (case_component_count t) (case_components t) c 0 l ∙ sym (length-filter (λ x. x == c) (case_components t)) ∙ sym counted ∙ length-passing (of_component c) n

  -- the first bus of a component, which no bus but this one is
  first_of : (c : ℕ) → c < case_component_count t → (m : ℕ) × (m < n) × (slice_index (case_components t) m ≡ c) × (first_joined live m ≡ m)
      × ((b : ℕ) → b < n → slice_index (case_components t) b ≡ c → first_joined live b ≡ m)
  unfolding case_component_count
  first_of c l =
      let some = component_at n live c l in
      let b = some.0 in
      let m = first_joined live b in
      let low : m < n = let less = some.1 in omega (arith, less, first_joined-le live b) in
      let own = first_joined-first_joined live b in
      let here : slice_index (case_components t) m ≡ c = case_component-at t m low ∙ ap (count_below (is_first_bus live)) own ∙ some.2 in
      (m, low, here, own, λ u less is. same_first-from_Chain live ((one_case_component t u m less low).0 (is ∙ sym here)) ∙ own)

  -- what the buses of one component add
  part_of : (c : ℕ) → c < case_component_count t → count_below (λ b. adds_one t b && of_component c b) n ≡ cond (is_energised_component t c) (case_need t c) 0
  part_of c l =
      let size = size_is c l in
      let at : (b : ℕ) → of_component c b ≡ true → slice_index (case_components t) b ≡ c = λ b e. eqb-true (slice_index (case_components t) b) c e in
      elim (cases_Bool (is_energised_component t c)) [
        | inr dead ↦ rw dead (count_below-none (λ b. adds_one t b && of_component c b) n (λ b less.
            and_never (adds_one t b) (of_component c b) (λ e. let off : is_lit t b ≡ false = ap (is_energised_component t) (at b e) ∙ dead in rw off refl)))
        | inl lit ↦ elim (cases_Bool (is_absolute_component t c)) [
          | inl fixed ↦
              let all = count_below-agree (λ b. adds_one t b && of_component c b) (of_component c) n (λ b less.
              and_whole (adds_one t b) (of_component c b) (λ e.
              both (is_lit t b) (is_moved live b) (is_fixed t b) (ap (is_energised_component t) (at b e) ∙ lit) (ap (is_absolute_component t) (at b e) ∙ fixed))) in
              all ∙ sym size ∙ sym (cond-true {A = ℕ} (is_absolute_component t c) (slice_index (case_sizes t) c) (slice_index (case_sizes t) c - 1) fixed)
              ∙ sym (cond-true {A = ℕ} (is_energised_component t c) (case_need t c) 0 lit)
          | inr loose ↦
              let first = first_of c l in
              let m = first.0 in
              let low = first.1 in
              let one = count_below-one_more (λ b. adds_one t b && of_component c b) (of_component c) m n low
              (ap (λ b. b && of_component c m) (none (is_lit t m) (is_moved live m) (is_fixed t m) (ap not (eq-eqb (first_joined live m) m first.3)) (ap (is_absolute_component t) first.2 ∙ loose)))
              (eq-eqb (slice_index (case_components t) m) c first.2)
              (λ b less ne. and_whole (adds_one t b) (of_component c b) (λ e.
              moving (is_lit t b) (is_moved live b) (is_fixed t b) (ap (is_energised_component t) (at b e) ∙ lit)
              (ap not (ne_eqb (first_joined live b) b (λ own. ne (sym own ∙ first.4 b less (at b e))))))) in
              omega (
                arith,
                one,
                size,
                cond-false {A = ℕ} (is_absolute_component t c) (slice_index (case_sizes t) c) (slice_index (case_sizes t) c - 1) loose,
                cond-true {A = ℕ} (is_energised_component t c) (case_need t c) 0 lit,
              )
        ]
      ]
    where
      both : (a b c : Bool) → a ≡ true → c ≡ true → (a && (b || c)) ≡ true
      both true true c e f = refl
      both true false c e f = f
      both false b c e f = e

      moving : (a b c : Bool) → a ≡ true → b ≡ true → (a && (b || c)) ≡ true
      moving true true c e f = refl
      moving true false c e f = absurd (cc f)
      moving false b c e f = e

      none : (a b c : Bool) → b ≡ false → c ≡ false → (a && (b || c)) ≡ false
      none true true c e f = e
      none true false c e f = f
      none false b c e f = refl

  pub needed_by_buses : case_needed t ≡ count_below (adds_one t) n
  unfolding case_needed
  needed_by_buses =
      sum_below-agree (λ c. cond (is_energised_component t c) (case_need t c) 0) (λ c. count_below (λ b. adds_one t b && of_component c b) n) (case_component_count t) (λ c l. sym (part_of c l))
      ∙ sym (count_below-by (slice_index (case_components t)) (adds_one t) (case_component_count t) n (λ b l. case_component-below t b l))
