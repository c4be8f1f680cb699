-- The sources counted one node further.
use Rattle.std.proofs.Common.{◌≡◌, ℕ, suc, ◌+◌, ◌<◌, ◌≤◌, true, false, cond, List, ◌∷◌, length, get_or, set, drop, refl, sym, ap, ◌∙◌, arith, inl, inr, add-one, get_or-set_same, get_or-set_other}
use Rattle.std.specs.Prelude.{◌==◌}
use Rattle.std.proofs.lemmas.Bool.{cases_eq, eq-eqb, ne_eqb}
use Rattle.obs_graph.specs.Positions.{positions_from}
use Rattle.obs_case.specs.declared.rows.Node.{Node}
use Rattle.obs_network.specs.Components.{is_source}
use Rattle.obs_outage.specs.inner.Feeds.{sources_at}
use Rattle.obs_outage.proofs.Parting.{count_by-cons}

module _ (place : ℕ → ℕ) (nodes : List Node) (u : ℕ) (row : Node) (at : drop u nodes ≡ row ∷ drop (suc u) nodes) where
  -- the sources from a node on
  abbrev from : ℕ → ℕ → ℕ
  from i b = sources_at place (positions_from is_source i (drop i nodes)) b

  from_source : row.source ≡ true → (b : ℕ) → from u b ≡ cond (place u == b) 1 0 + from (suc u) b
  from_source s b = rw at (rw s (count_by-cons (λ w. place w == b) u (positions_from is_source (suc u) (drop (suc u) nodes))))

  from_other : row.source ≡ false → (b : ℕ) → from u b ≡ from (suc u) b
  from_other s b = rw at (rw s refl)

  -- the counts so far and those that are left make the whole
  pub counted_source : (counts : List ℕ) (k : ℕ) (total : ℕ → ℕ) → row.source ≡ true → k ≡ place u → k < length counts → ((b : ℕ) → b < length counts → get_or counts b 0 + from u b ≡ total b)
      → (b : ℕ) → b < length counts → get_or (set counts k (get_or counts k 0 + 1)) b 0 + from (u + 1) b ≡ total b
  counted_source counts k total s is low so_far b l =
      let next : from (u + 1) b ≡ from (suc u) b = ap (λ i. from i b) (add-one u) in
      elim (cases_eq b k) [
        | inl same ↦
            let one : cond {A = ℕ} (place u == b) 1 0 ≡ 1 = rw (eq-eqb (place u) b (sym is ∙ sym same)) refl in
            let new : get_or (set counts k (get_or counts k 0 + 1)) b 0 ≡ get_or counts b 0 + 1 = rw same (get_or-set_same counts k (get_or counts k 0 + 1) 0 low) in
            omega (arith, next, one, new, so_far b l, from_source s b)
        | inr ne ↦
            let none : cond {A = ℕ} (place u == b) 1 0 ≡ 0 = rw (ne_eqb (place u) b (λ same. ne (sym same ∙ sym is))) refl in
            let new : get_or (set counts k (get_or counts k 0 + 1)) b 0 ≡ get_or counts b 0 = get_or-set_other counts k b (get_or counts k 0 + 1) 0 ne in
            omega (arith, next, none, new, so_far b l, from_source s b)
      ]

  pub counted_other : (counts : List ℕ) (total : ℕ → ℕ) → row.source ≡ false → ((b : ℕ) → b < length counts → get_or counts b 0 + from u b ≡ total b)
      → (b : ℕ) → b < length counts → get_or counts b 0 + from (u + 1) b ≡ total b
  counted_other counts total s so_far b l =
      let next : from (u + 1) b ≡ from (suc u) b = ap (λ i. from i b) (add-one u) in
      omega (arith, next, so_far b l, from_other s b)

-- each count is at most the number of the nodes so far
pub small_source : (counts : List ℕ) (k u : ℕ) → k < length counts → ((b : ℕ) → b < length counts → get_or counts b 0 ≤ u) → (b : ℕ) → b < length counts
    → get_or (set counts k (get_or counts k 0 + 1)) b 0 ≤ u + 1
small_source counts k u low small b l =
    elim (cases_eq b k) [
      | inl same ↦
          let new : get_or (set counts k (get_or counts k 0 + 1)) b 0 ≡ get_or counts k 0 + 1 = rw same (get_or-set_same counts k (get_or counts k 0 + 1) 0 low) in
          omega (arith, new, small k low)
      | inr ne ↦
          let new : get_or (set counts k (get_or counts k 0 + 1)) b 0 ≡ get_or counts b 0 = get_or-set_other counts k b (get_or counts k 0 + 1) 0 ne in
          omega (arith, new, small b l)
    ]
