-- The sources on a side of a row that parts its component, counted, and what the needed number falls by.
use Rattle.std.proofs.Common.{◌≡◌, ◌≢◌, ℕ, ◌+◌, ◌-◌, ◌<◌, ◌≤◌, Bool, true, false, cond, ◌⊎◌, inl, inr, Some, List, [], ◌∷◌, length, refl, sym, ap, ◌∙◌, subst, arith}
use Rattle.std.specs.Prelude.{slice_index, slice_index_or, ◌==◌, count_by, sum_by}
use Rattle.std.proofs.lemmas.Bool.{cases_Bool, cases_eq, eq-eqb, eqb-true, ne_eqb, true≢false}
use Rattle.std.proofs.lemmas.List.Sums.{sum_by-cons}
use Rattle.obs_graph.proofs.Counts.{count_below-le-n}
use Rattle.obs_case.specs.Tables.{IsValid, Tables}
use Rattle.obs_matroid.specs.Lists.{In, IsDistinct}
use Rattle.obs_matroid.proofs.Lists.{is_in, is_in_at, is_in_from}
use Rattle.obs_network.specs.Switched.{case_bus_count}
use Rattle.obs_network.specs.inner.Components.{source_nodes}
use Rattle.obs_assign.specs.Assignment.{Assignment}
use Rattle.obs_assign.specs.inner.Assignment.{pairs}
use Rattle.obs_kept.specs.inner.Kept.{AreLongest}
use Rattle.obs_network.specs.Network.{Network, case_meters, case_needed, case_rows, network_of, node_component}
use Rattle.obs_network.specs.Observable.{case_live_meters}
use Rattle.obs_network.specs.Parted.{outage_case}
use Rattle.obs_network.specs.inner.Parted.{HasSource, HasSourceBeside, IsParted, IsSide}
use Rattle.obs_network.specs.inner.Located.{component_of_branch}
use Rattle.obs_network.proofs.FewLost.{alone, no_shorter}
use Rattle.obs_network.proofs.Observed.{most_pairs}
use Rattle.obs_network.proofs.OfCase.{case_bus_count-le, case_component-below, case_component_count-le}
use Rattle.obs_network.proofs.PartedNeeds.{Found, both_live, found, in_component, listed_dead, low}
use Rattle.obs_network.proofs.SideLists.{on_side, side_count, side_low}
use Rattle.obs_outage.specs.declared.outages.Outage.{Outage}
use Rattle.obs_outage.specs.inner.Feeds.{AreFeeds, Feeds, IsFall, bus_at, sources_at}
use Rattle.obs_outage.specs.Outages.{outage_of}
use Rattle.obs_outage.proofs.InOutage.{out_valid, rank_is, rank_longest}
use Rattle.obs_outage.proofs.Joined.{entry_by}

pub count_by-cons : (p : ℕ → Bool) (x : ℕ) (xs : List ℕ) → count_by p (x ∷ xs) ≡ cond (p x) 1 0 + count_by p xs
count_by-cons p x xs = sum_by-cons (λ y. cond (p y) 1 0) x xs

-- a test that passes where one or the other of two tests does, never both
count_by-either : (p q r : ℕ → Bool) (xs : List ℕ) → ((x : ℕ) → In x xs → ((p x ≡ q x) × (r x ≡ false)) ⊎ ((p x ≡ r x) × (q x ≡ false))) → count_by p xs ≡ count_by q xs + count_by r xs
count_by-either p q r [] h = refl
count_by-either p q r (x ∷ xs) h =
    let rest = count_by-either p q r xs (λ y i. h y (inr i)) in
    let here : cond (p x) 1 0 ≡ cond (q x) 1 0 + cond (r x) 1 0 = elim (h x (inl refl)) [ inl one ↦ rw (one.0, one.1) (omega arith) | inr one ↦ rw (one.0, one.1) (omega arith) ] in
    omega (arith, rest, here, count_by-cons p x xs, count_by-cons q x xs, count_by-cons r x xs)

count_by-none : (p : ℕ → Bool) (xs : List ℕ) → ((x : ℕ) → In x xs → p x ≡ false) → count_by p xs ≡ 0
count_by-none p [] h = refl
count_by-none p (x ∷ xs) h =
    let here : cond {A = ℕ} (p x) 1 0 ≡ 0 = rw (h x (inl refl)) refl in
    omega (arith, count_by-cons p x xs, here, count_by-none p xs (λ y i. h y (inr i)))

-- so many pass, and more pass another test that passes wherever this does: then one passes this one alone
more_pass : (p q : ℕ → Bool) (xs : List ℕ) → ((x : ℕ) → In x xs → p x ≡ true → q x ≡ true)
    → ((count_by p xs ≡ count_by q xs) × ((x : ℕ) → In x xs → q x ≡ true → p x ≡ true)) ⊎ ((count_by p xs < count_by q xs) × ((x : ℕ) × In x xs × (q x ≡ true) × (p x ≡ false)))
more_pass p q [] h = inl (refl, λ x i. absurd i)
more_pass p q (x ∷ xs) h =
    let cp = count_by-cons p x xs in
    let cq = count_by-cons q x xs in
    let rest = more_pass p q xs (λ y i. h y (inr i)) in
    elim (cases_Bool (p x)) [
      | inl t ↦
          let s = h x (inl refl) t in
          let up : cond {A = ℕ} (p x) 1 0 ≡ 1 = rw t refl in
          let uq : cond {A = ℕ} (q x) 1 0 ≡ 1 = rw s refl in
          elim rest [
            | inl r ↦ inl (omega (arith, cp, cq, up, uq, r.0), λ y i e. elim i [ inl same ↦ ap p same ∙ t | inr there ↦ r.1 y there e ])
            | inr r ↦ inr (omega (arith, cp, cq, up, uq, r.0), (r.1.0, inr r.1.1, r.1.2, r.1.3))
          ]
      | inr f ↦
          let up : cond {A = ℕ} (p x) 1 0 ≡ 0 = rw f refl in
          elim (cases_Bool (q x)) [
            | inl s ↦
                let uq : cond {A = ℕ} (q x) 1 0 ≡ 1 = rw s refl in
                let few : count_by p xs ≤ count_by q xs = elim rest [ inl r ↦ omega (arith, r.0) | inr r ↦ omega (arith, r.0) ] in
                inr (omega (arith, cp, cq, up, uq, few), (x, inl refl, s, f))
            | inr g ↦
                let uq : cond {A = ℕ} (q x) 1 0 ≡ 0 = rw g refl in
                elim rest [
                  | inl r ↦ inl (omega (arith, cp, cq, up, uq, r.0), λ y i e. elim i [ inl same ↦ absurd (true≢false (sym e ∙ ap q same ∙ g)) | inr there ↦ r.1 y there e ])
                  | inr r ↦ inr (omega (arith, cp, cq, up, uq, r.0), (r.1.0, inr r.1.1, r.1.2, r.1.3))
                ]
          ]
    ]

-- as many numbers have a place in a list as have each of its places, which are different
pub sum_of_places : (place : ℕ → ℕ) (sources side : List ℕ) → IsDistinct side → sum_by (sources_at place sources) side ≡ count_by (λ u. is_in side (place u)) sources
sum_of_places place sources [] d = sym (count_by-none (λ u. false) sources (λ u i. refl))
sum_of_places place sources (b ∷ side) d =
    let rest = sum_of_places place sources side d.1 in
    let both = count_by-either (λ u. is_in (b ∷ side) (place u)) (λ u. place u == b) (λ u. is_in side (place u)) sources (λ u i. elim (cases_eq (place u) b) [
      | inl same ↦
          let out : is_in side (place u) ≡ false = elim (cases_Bool (is_in side (place u))) [
            | inl there ↦ absurd (d.0 (subst (λ z. In z side) same (is_in_from side (place u) there)))
            | inr off ↦ off
          ] in
          inl (rw (eq-eqb (place u) b same) refl, out)
      | inr ne ↦ inr (rw (ne_eqb (place u) b ne) refl, ne_eqb (place u) b ne)
    ]) in
    omega (arith, rest, both, sum_by-cons (sources_at place sources) b side)

pub sum_by-agree : (f g : ℕ → ℕ) (xs : List ℕ) → ((x : ℕ) → In x xs → f x ≡ g x) → sum_by f xs ≡ sum_by g xs
sum_by-agree f g [] h = refl
sum_by-agree f g (x ∷ xs) h =
    omega (arith, sum_by-cons f x xs, sum_by-cons g x xs, h x (inl refl), sum_by-agree f g xs (λ y i. h y (inr i)))

-- a row that parts its component, one of its sides, and the numbers of sources
module _ (t : Tables) (v : IsValid t) (e c : ℕ) (side : List ℕ) (p : IsParted t e c side) where
  abbrev f : Found t e c side
  f = found t v e c side p

  pub side_buses : (b : ℕ) → In b side → b < case_bus_count t
  side_buses b i = side_low t v e f.ends f.row f.one f.other f.leads side f.of b i

  pub few_buses : length side ≤ case_bus_count t
  few_buses = omega (arith, side_count t v e f.ends f.row f.one f.other f.leads side f.of, count_below-le-n (on_side t v e f.ends f.row f.one f.other f.leads side f.of) (case_bus_count t))

  pub component_low : c < length t.nodes
  component_low =
      let l = (low t v e c side p f).0 in
      omega (arith, case_component-below t f.ends.a l, f.component, case_component_count-le t, case_bus_count-le t)

  module _ (feeds : Feeds) (are : AreFeeds t feeds) where
    abbrev sources : List ℕ
    sources = source_nodes t.nodes

    abbrev listed : ℕ → Bool
    listed u = is_in side (bus_at t u)

    abbrev within : ℕ → Bool
    within u = node_component t u == c

    abbrev pub here : ℕ
    here = sum_by (slice_index feeds.of_buses) side

    abbrev pub all : ℕ
    all = slice_index feeds.of_components c

    here_is : here ≡ count_by listed sources
    here_is =
        sum_by-agree (slice_index feeds.of_buses) (sources_at (bus_at t) sources) side (λ b i. are.at_buses b (let l = side_buses b i in omega (arith, l, case_bus_count-le t)))
        ∙ sum_of_places (bus_at t) sources side f.of.different

    all_is : all ≡ count_by within sources
    all_is = are.at_components c component_low

    lies_within : (u : ℕ) → In u sources → listed u ≡ true → within u ≡ true
    lies_within u i l = eq-eqb (node_component t u) c (in_component t v e c side p f (bus_at t u) (is_in_from side (bus_at t u) l))

    abbrev Compared : Type 0
    Compared = ((count_by listed sources ≡ count_by within sources) × ((u : ℕ) → In u sources → within u ≡ true → listed u ≡ true))
        ⊎ ((count_by listed sources < count_by within sources) × ((u : ℕ) × In u sources × (within u ≡ true) × (listed u ≡ false)))

    compared : Compared
    compared = more_pass listed within sources lies_within

    pub no_source : here ≡ 0 → HasSource t side → ⊥
    no_source zero s =
        let more = more_pass (λ u. false) listed sources (λ u i h. absurd (true≢false (sym h))) in
        let none = count_by-none (λ u. false) sources (λ u i. refl) in
        elim more [
          | inl r ↦ true≢false (sym (r.1 s.0 s.1 (is_in_at side (bus_at t s.0) s.2)))
          | inr r ↦ let l = r.0 in absurd (omega (arith, l, none, zero, here_is))
        ]

    has_source : (here ≡ 0 → ⊥) → HasSource t side
    has_source some =
        let more = more_pass (λ u. false) listed sources (λ u i h. absurd (true≢false (sym h))) in
        let none = count_by-none (λ u. false) sources (λ u i. refl) in
        elim more [
          | inl r ↦ absurd (some (omega (arith, none, here_is, r.0)))
          | inr r ↦ (r.1.0, r.1.1, is_in_from side (bus_at t r.1.0) r.1.2)
        ]

    has_beside : (here ≡ all → ⊥) → HasSourceBeside t c side
    has_beside ne =
        elim compared [
          | inl r ↦ absurd (ne (omega (arith, here_is, all_is, r.0)))
          | inr r ↦ (r.1.0, r.1.1, eqb-true (node_component t r.1.0) c r.1.2, λ i. true≢false (sym (is_in_at side (bus_at t r.1.0) i) ∙ r.1.3))
        ]

    falls : (less : ℕ) → case_needed (outage_case t e) + less ≡ case_needed t → IsFall t e less
    falls less is = record {
      needed = is;
      rank = (let short = no_shorter t v e c side p f in omega (arith, is, short));
      alone = λ one. alone t v e c side p f (omega (arith, is, one));
    }

    -- what an outage takes with which the listed side goes, and with which none goes
    pub fall_listed : here ≡ 0 → IsFall t e (length side)
    fall_listed zero = falls (length side) (listed_dead t v e c side p f (no_source zero))

    pub fall_one : here ≢ 0 → here ≢ all → IsFall t e 1
    fall_one some ne = let live = both_live t v e c side p f (has_source some) (has_beside ne) in falls 1 (omega (arith, live))

-- a row that parts its component, by the network and what stands below it
pub parted_by : (t : Tables) (n : Network) (e c : ℕ) (side : List ℕ) → n ≡ network_of t → e < length t.branches → component_of_branch n e ≡ Some c → slice_index_or n.components.absolute c false ≡ false
    → IsSide (case_rows t) e side → IsParted t e c side
parted_by t n e c side net low component loose sides = record {
  row = low;
  component = ap (λ (x : Network). component_of_branch x e) (sym net) ∙ component;
  loose = ap (λ (x : Network). slice_index_or x.components.absolute c false) (sym net) ∙ loose;
  sides = sides;
}

-- where an observable case loses a row that parts a component, it stays observable
pub observable_entry : (t : Tables) → IsValid t → (e k : ℕ) → IsFall t e k → (a : Assignment) → AreLongest t a → length (pairs a) ≡ case_needed t
    → (o : Outage) → o.branch ≡ e → o.rank ≡ case_needed t - k → o.needed ≡ case_needed t - k → o ≡ outage_of t e
observable_entry t v e k fall a h full o is rank needed =
    let out = outage_case t e in
    let r = rank_is out (out_valid t v e) in
    let most = most_pairs out (out_valid t v e) (case_meters out) (case_live_meters out) r.longest r.assigns in
    let long = r.long in
    let same = rank_longest t v a h in
    let less = fall.needed in
    let least = fall.rank in
    entry_by t e o is (omega (arith, rank, most, long, same, less, least, full)) (omega (arith, needed, less))
