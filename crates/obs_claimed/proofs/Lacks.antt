-- The shortfall of a case is a claim that holds.
use Rattle.std.proofs.Common.{◌≡◌, ℕ, ◌+◌, ◌<◌, Bool, true, false, not, List, length, filter, refl, sym, ap, subst}
use Rattle.std.proofs.lemmas.Bool.{eq-eqb, lt-ltb}
use Rattle.obs_case.specs.Tables.{IsValid, Tables}
use Rattle.obs_matroid.specs.Lists.{In, IsDistinct}
use Rattle.obs_matroid.proofs.Lists.{In-filter_from, IsDistinct-filter, filter_same}
use Rattle.obs_meter.specs.Touches.{live_items}
use Rattle.obs_meter.proofs.Assigned.{live_items-distinct}
use Rattle.obs_meter.proofs.Live.{live-from_live_items, live_low}
use Rattle.obs_exchange.specs.Laws.{noncritical_in}
use Rattle.obs_placement.specs.Placed.{ShortfallValue, shortfall_of, redundant_items}
use Rattle.obs_placement.specs.Placed.Placed.{shortfall as short_of}
use Rattle.obs_network.specs.Network.{case_branches, case_needed, case_offered, case_vertex_count}
use Rattle.obs_edit.specs.Planned.{case_placement}
use Rattle.obs_edit.proofs.CheapestPlans.{shortfalls_refute}
use Rattle.obs_edit.proofs.PlanOrShortfall.{lack_is}
use Rattle.obs_cert.specs.Claims.{shortfall}
use Rattle.obs_cert.specs.Flaws.{Holds, not_inside, outside_of, rank_of_items, twice, unknown_item}
use Rattle.obs_cert.specs.Numbered.{items_of}
use Rattle.obs_meter.specs.Lost.{is_listed}
use Rattle.obs_cert.specs.Scopes.{is_live_item}
use Rattle.obs_claimed.specs.Claimed.{lack_claim, named_items}
use Rattle.obs_claimed.proofs.ClauseTests.{all_inside_scope, has-filter, once}

module _ (t : Tables) where
  abbrev loose : List ℕ
  loose = redundant_items (case_vertex_count t) (case_branches t) (case_offered t)

  abbrev live : List ℕ
  live = live_items (case_branches t) (case_offered t)

  abbrev passes : ℕ → Bool
  passes = noncritical_in (case_vertex_count t) (case_branches t) (case_offered t) live

  loose_live : (m : ℕ) → In m loose → is_live_item t m ≡ true
  loose_live m i = live-from_live_items (case_branches t) (case_offered t) m (In-filter_from passes m live i).0

  loose_distinct : IsDistinct loose
  loose_distinct = IsDistinct-filter passes live (live_items-distinct (case_branches t) (case_offered t))

  -- the items outside the list are the critical ones
  loose_outside : outside_of t (is_live_item t) loose ≡ length (filter (λ m. not (passes m)) live)
  loose_outside = ap length (filter_same (λ m. not (is_listed loose m)) (λ m. not (passes m)) live (λ m i. ap not (has-filter passes live m i)))

  -- each listed item is one of what is offered
  pub loose_low : (m : ℕ) → In m loose → m < length (case_offered t)
  loose_low m i = live_low (case_branches t) (case_offered t) m (loose_live m i)

-- the clauses of a shortfall, one after the other
no_flaw : (t : Tables) (l : ShortfallValue) (list : List ℕ) → items_of t (named_items t l.inside) ≡ list → unknown_item t (named_items t l.inside) ≡ false → not_inside (is_live_item t) list ≡ false → twice list ≡ false
    → rank_of_items t list ≡ l.rank → outside_of t (is_live_item t) list ≡ l.outside → l.rank + l.outside < case_needed t → Holds t (shortfall (lack_claim t l))
no_flaw t l list is known inside different rank outside low =
    rw (known, is, inside, different, eq-eqb (rank_of_items t list) l.rank rank, eq-eqb (outside_of t (is_live_item t) list) l.outside outside, lt-ltb (l.rank + l.outside) (case_needed t) low) refl

pub lack_holds : (t : Tables) (l : ShortfallValue) → IsValid t → case_placement t ≡ short_of l
    → ((list : List ℕ) → ((m : ℕ) → In m list → m < length (case_offered t)) → (items_of t (named_items t list) ≡ list) × (unknown_item t (named_items t list) ≡ false))
    → Holds t (shortfall (lack_claim t l))
lack_holds t l v e names =
    let is = lack_is t l e in
    let whole = shortfall_of (case_vertex_count t) (case_branches t) (case_offered t) (case_needed t) in
    let named = names (loose t) (loose_low t) in
    let low = (shortfalls_refute t l v e).0 in
    subst (λ (x : ShortfallValue). Holds t (shortfall (lack_claim t x))) is
    (no_flaw t whole (loose t) named.0 named.1 (all_inside_scope (is_live_item t) (loose t) (loose_live t)) (once (loose t) (loose_distinct t)) refl (loose_outside t)
    (subst (λ (x : ShortfallValue). x.rank + x.outside < case_needed t) (sym is) low))
