-- The prices of the candidates of a case.
use Rattle.std.proofs.Common.{◌≡◌, ℕ, ◌≤◌, All, List, length, sym, ap, ◌∙◌, subst, arith}
use Rattle.std.proofs.lemmas.List.{length-map}
use Rattle.std.proofs.lemmas.List.Elements.{All-map}
use Rattle.obs_case.specs.Tables.{IsValid, Tables, prices_of}
use Rattle.obs_case.specs.declared.rows.Candidate.{Candidate}
use Rattle.obs_placement.specs.inner.Limits.{most_candidates, most_price}

-- there are no more than may be offered
pub few_prices : (t : Tables) (prices : List ℕ) → IsValid t → prices ≡ prices_of t.candidates → length prices ≤ most_candidates
few_prices t prices v same =
    let few = v.candidates.few in
    let limit = v.limit in
    let names = length-map t.candidates (λ (row : Candidate). row.name) in
    let count = ap length same ∙ length-map t.candidates (λ (row : Candidate). row.price) in
    omega (arith, few, limit, names, count)

-- and none is higher than a price may be
pub cheap_prices : (t : Tables) (prices : List ℕ) → IsValid t → prices ≡ prices_of t.candidates → All (λ p. p ≤ most_price) prices
cheap_prices t prices v same = subst (All (λ p. p ≤ most_price)) (sym same) (All-map (λ p. p ≤ most_price) (λ (row : Candidate). row.price) t.candidates v.prices)
