use Rattle.std.proofs.Common.{◌≡◌, ◌∙◌, ◌+◌, ◌<◌, ℕ, List, length, set, get_or, sym, ap, subst, arith, inl, inr}
use Rattle.std.proofs.lemmas.Bool.{cases_eq}
use Rattle.std.proofs.lemmas.List.{get_or-set_same, get_or-set_other}
use Rattle.obs_case.specs.Tables.{Tables}
use Rattle.obs_cert.specs.inner.Stars.{AreStarRanks, star_rank}
use Rattle.obs_cert.proofs.stars.keep.Goals as goal

-- one more rank is known
known_more : (t : Tables) (stars : List ℕ) (v rank : ℕ) → v < length stars → rank ≡ star_rank t v → AreStarRanks t stars → AreStarRanks t (set stars v (rank + 1))
known_more t stars v rank low is known u some =
    elim (cases_eq u v) [
      | inl same ↦
          let there : get_or (set stars v (rank + 1)) u 0 ≡ rank + 1 = ap (λ x. get_or (set stars v (rank + 1)) x 0) same ∙ get_or-set_same stars v (rank + 1) 0 low in
          let rank_u : rank ≡ star_rank t u = is ∙ ap (star_rank t) (sym same) in
          omega (arith, there, rank_u)
      | inr other ↦
          let there : get_or (set stars v (rank + 1)) u 0 ≡ get_or stars u 0 = get_or-set_other stars v u (rank + 1) 0 other in
          there ∙ known u (subst (λ (k : ℕ). 0 < k) there some)
    ]

pub returns : goal.returns
returns c = record { kept = λ t is known. known_more t c.args.stars.now c.args.v c.args.rank c.requires.v is known }
