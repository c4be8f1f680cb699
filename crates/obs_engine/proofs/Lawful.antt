-- What the lines of a report say.
use Rattle.std.proofs.Common.{◌≡◌, ◌≢◌, ◌↔◌, ◌⊎◌, ℕ, ◌+◌, ◌<◌, ◌≤◌, true, not, List, length, filter, sym, ap, subst, inl, inr, arith, codes, get_or, refl, ◌∙◌}
use Rattle.std.specs.Prelude.{◌==◌}
use Rattle.std.specs.List.{range_with_len}
use Rattle.std.proofs.lemmas.Bool.{and_from, and_parts, cases_Bool, eq-eqb, eqb-true, ne_eqb}
use Rattle.obs_case.specs.Tables.{Tables, IsValid}
use Rattle.obs_matroid.specs.Lists.{In, IsDistinct, IsRising}
use Rattle.obs_matroid.specs.Assignments.{Pair}
use Rattle.obs_matroid.proofs.Lists.{In-filter, In-filter_from, IsDistinct-filter, clash}
use Rattle.obs_matroid.proofs.Ranges.{range_in, range_rising, rising_filter}
use Rattle.obs_meter.specs.Assignments.{IsAssignmentAt, IsRhoAt}
use Rattle.obs_meter.specs.Touches.{every_item, is_live}
use Rattle.obs_meter.proofs.Assigned.{live_items-distinct, rho_at-is}
use Rattle.obs_exchange.specs.Critical.{IsCriticalAt, critical_at}
use Rattle.obs_exchange.proofs.Lawful.{critical_at-exactly}
use Rattle.obs_network.specs.Network.{case_branches, case_component_count, case_meters, case_need, case_needed, case_vertex_count}
use Rattle.obs_network.specs.Observable.{IsObservable, IsObservableCase, branch_component, case_live_meters, case_rank, is_energised_component, item_component}
use Rattle.obs_network.proofs.Marked.{filtered_below}
use Rattle.obs_network.proofs.Observed.{observed_by_rho}
use Rattle.obs_network.proofs.OfCase.{case_branches-are}
use Rattle.obs_files.specs.declared.status.Status.TheVariants.{Done, Short}
use Rattle.obs_report.specs.Counts.{verdict_word}
use Rattle.obs_engine.specs.Laws.{ListsNonCritical}
use Rattle.obs_repair.specs.Bounds.{bound_meters, bound_outside, bound_rank, case_critical_meters, component_meters, component_rank, is_critical_meter, is_meter_of, is_short, short_components}
use Rattle.obs_engine.specs.Asks.{report_status}
use Rattle.obs_engine.proofs.OfNetwork.{verdict_done, verdict_short}
use Rattle.obs_repair.proofs.Tight.{bound_is, most_is, observable-from, observable-to, rank_few}

pub rank_greatest : (t : Tables) → IsValid t → IsRhoAt (case_branches t) (case_meters t) (case_live_meters t) (case_rank t)
unfolding case_rank
rank_greatest t v = rho_at-is (case_vertex_count t) (case_branches t) (case_meters t) (case_live_meters t) (case_branches-are t v) (live_items-distinct (case_branches t) (case_meters t))

pub rank_observed : (t : Tables) → IsValid t → IsObservableCase t ↔ (case_rank t ≡ case_needed t)
unfolding case_rank
rank_observed t v = observed_by_rho t v

cases_rank : (t : Tables) → (case_rank t ≡ case_needed t) ⊎ (case_rank t ≢ case_needed t)
cases_rank t = elim (cases_Bool (case_rank t == case_needed t)) [
  | inl e ↦ inl (eqb-true (case_rank t) (case_needed t) e)
  | inr n ↦ inr (λ e. clash (eq-eqb (case_rank t) (case_needed t) e) n)
]

pub done_observed : (t : Tables) → IsValid t → (report_status t ≡ Done) ↔ IsObservableCase t
done_observed t v = (
  (λ done. elim (cases_rank t) [
    | inl e ↦ (rank_observed t v).1 e
    | inr n ↦ let short = verdict_short t n in absurd (cc (short, done))
  ]),
  (λ o. sym (verdict_done t ((rank_observed t v).0 o))),
)

-- the two words of the verdict
differ : codes "observable" ≡ codes "short" → ⊥
differ e = let first : 111 ≡ 115 = ap (λ (xs : List ℕ). get_or xs 0 0) e in absurd (omega (arith, first))

word_short : (t : Tables) → case_rank t ≢ case_needed t → verdict_word (case_rank t) (case_needed t) ≡ codes "short"
word_short t n = rw (ne_eqb (case_rank t) (case_needed t) n) refl

pub word_observed : (t : Tables) → IsValid t → (verdict_word (case_rank t) (case_needed t) ≡ codes "observable") ↔ IsObservableCase t
word_observed t v = (
  (λ word. elim (cases_rank t) [
    | inl e ↦ (rank_observed t v).1 e
    | inr n ↦ absurd (differ (sym word ∙ word_short t n))
  ]),
  (λ o. rw (eq-eqb (case_rank t) (case_needed t) ((rank_observed t v).0 o)) refl),
)

pub word_unobserved : (t : Tables) → IsValid t → (verdict_word (case_rank t) (case_needed t) ≡ codes "short") ↔ (IsObservableCase t → ⊥)
word_unobserved t v = (
  (λ word o. differ (sym ((word_observed t v).1 o) ∙ word)),
  (λ not_seen. elim (cases_rank t) [
    | inl e ↦ absurd (not_seen ((rank_observed t v).1 e))
    | inr n ↦ word_short t n
  ]),
)

pub short_unobserved : (t : Tables) → IsValid t → (report_status t ≡ Short) ↔ (IsObservableCase t → ⊥)
short_unobserved t v = (
  (λ short o. let done = verdict_done t ((rank_observed t v).0 o) in absurd (cc (short, done))),
  (λ not_seen. elim (cases_rank t) [
    | inl e ↦ absurd (not_seen ((rank_observed t v).1 e))
    | inr n ↦ sym (verdict_short t n)
  ]),
)

short_parts : (t : Tables) (c : ℕ) → is_short t c ≡ true → (is_energised_component t c ≡ true) × (component_rank t c ≢ case_need t c)
unfolding is_short
short_parts t c s =
    let u = and_parts (is_energised_component t c) (not (component_rank t c == case_need t c)) s in
    (u.0, λ e. clash u.1 (ap not (eq-eqb (component_rank t c) (case_need t c) e)))

short_from : (t : Tables) (c : ℕ) → is_energised_component t c ≡ true → component_rank t c ≢ case_need t c → is_short t c ≡ true
unfolding is_short
short_from t c energised n =
    and_from (is_energised_component t c) (not (component_rank t c == case_need t c)) energised (ap not (ne_eqb (component_rank t c) (case_need t c) n))

short_at : (t : Tables) (c : ℕ) → In c (short_components t) → (c < case_component_count t) × (is_short t c ≡ true)
unfolding short_components
short_at t c i = (let low = filtered_below (is_short t) 0 (case_component_count t) c i in omega (arith, low), (In-filter_from (is_short t) c (range_with_len 0 (case_component_count t)) i).1)

pub shorts_rise : (t : Tables) → IsRising (short_components t)
unfolding short_components
shorts_rise t = rising_filter (is_short t) (range_with_len 0 (case_component_count t)) (range_rising 0 (case_component_count t))

short_in : (t : Tables) (c : ℕ) → c < case_component_count t → is_short t c ≡ true → In c (short_components t)
unfolding short_components
short_in t c l s = In-filter (is_short t) c (range_with_len 0 (case_component_count t)) (range_in 0 (case_component_count t) c (omega arith) (omega (arith, l))) s

pub criticals_rise : (t : Tables) → IsRising (case_critical_meters t)
unfolding case_critical_meters
criticals_rise t =
    rising_filter (critical_at (case_vertex_count t) (case_branches t) (case_meters t)) (every_item (case_meters t)) (range_rising 0 (length (case_meters t)))

pub bounds_rise : (t : Tables) (c : ℕ) → IsRising (bound_meters t c)
unfolding bound_meters component_meters
bounds_rise t c =
    rising_filter (λ m. not (is_critical_meter t m)) (filter (is_meter_of t c) (case_live_meters t))
    (rising_filter (is_meter_of t c) (case_live_meters t)
    (rising_filter (is_live (case_branches t) (case_meters t)) (every_item (case_meters t)) (range_rising 0 (length (case_meters t)))))

components_distinct : (t : Tables) (c : ℕ) → IsDistinct (component_meters t c)
unfolding component_meters
components_distinct t c = IsDistinct-filter (is_meter_of t c) (case_live_meters t) (live_items-distinct (case_branches t) (case_meters t))

module _ (t : Tables) (v : IsValid t) (c : ℕ) where
  pub shown_short : In c (short_components t) ↔ ((c < case_component_count t) × (is_energised_component t c ≡ true) × (IsObservable t c → ⊥))
  shown_short = (
    (λ i. let u = short_at t c i in let w = short_parts t c u.1 in (u.0, w.0, λ o. w.1 (observable-to t v c u.0 o))),
    (λ h. short_in t c h.0 (short_from t c h.1 (λ e. h.2 (observable-from t v c e)))),
  )

  pub bound_below_need : In c (short_components t) → bound_rank t c + bound_outside t c < case_need t c
  bound_below_need i =
      let u = short_at t c i in
      let w = (short_parts t c u.1).1 in
      omega (arith, rank_few t v c u.0, bound_is t v c, w)

  pub bound_most : (A : List Pair) → IsAssignmentAt (case_branches t) (case_meters t) (case_live_meters t) A → length (filter (λ p. branch_component t p.1 == c) A) ≤ bound_rank t c + bound_outside t c
  bound_most A a = let most = most_is t v c A a in omega (arith, most, bound_is t v c)

  pub bound_reached : IsRhoAt (case_branches t) (case_meters t) (component_meters t c) (bound_rank t c + bound_outside t c)
  unfolding component_rank
  bound_reached = subst (λ (r : ℕ). IsRhoAt (case_branches t) (case_meters t) (component_meters t c) r) (sym (bound_is t v c))
      (rho_at-is (case_vertex_count t) (case_branches t) (case_meters t) (component_meters t c) (case_branches-are t v) (components_distinct t c))

pub critical_lines : (t : Tables) → IsValid t → (m : ℕ) → In m (case_critical_meters t) ↔ IsCriticalAt (case_branches t) (case_meters t) (case_live_meters t) m
unfolding case_critical_meters
critical_lines t v m =
    let exactly = critical_at-exactly (case_vertex_count t) (case_branches t) (case_meters t) (case_branches-are t v) m in
    let p = critical_at (case_vertex_count t) (case_branches t) (case_meters t) in (
      (λ i. (exactly.0 (In-filter_from p m (every_item (case_meters t)) i).1).1),
      (λ k.
          let u = In-filter_from (is_live (case_branches t) (case_meters t)) m (every_item (case_meters t)) k.item in
          In-filter p m (every_item (case_meters t)) u.0 (exactly.1 (u.1, k))),
    )

-- the bound of a component lists its live meters that aren't critical
pub lists_noncritical : ListsNonCritical
unfolding bound_meters component_meters is_critical_meter
lists_noncritical t v c m =
    let exactly = critical_at-exactly (case_vertex_count t) (case_branches t) (case_meters t) (case_branches-are t v) m in
    let p = critical_at (case_vertex_count t) (case_branches t) (case_meters t) in
    let live = is_live (case_branches t) (case_meters t) in (
      (λ i.
          let u = In-filter_from (λ x. not (p x)) m (filter (is_meter_of t c) (case_live_meters t)) i in
          let w = In-filter_from (is_meter_of t c) m (case_live_meters t) u.0 in
          let there = (In-filter_from live m (every_item (case_meters t)) w.0).1 in
          (w.0, eqb-true (item_component t (case_meters t) m) c w.1, λ k. clash u.1 (ap not (exactly.1 (there, k))))),
      (λ h. elim (cases_Bool (p m)) [
        | inl y ↦ absurd (h.2 (exactly.0 y).1)
        | inr n ↦ In-filter (λ x. not (p x)) m (filter (is_meter_of t c) (case_live_meters t)) (In-filter (is_meter_of t c) m (case_live_meters t) h.0 (eq-eqb (item_component t (case_meters t) m) c h.1)) (ap not n)
      ]),
    )
