-- The search for a line that begins with a text.
use Rattle.std.proofs.Common.{◌≡◌, ℕ, ◌+◌, ◌-◌, true, false, nat_eq, List, ◌∷◌, length, take, ap, ◌∙◌}
use Rattle.std.specs.List.{starts_with}
use Rattle.obs_text.specs.Lines.{lines_of}
use Rattle.obs_text.specs.inner.Lines.{after_line}
use Rattle.obs_bus_branch.specs.inner.Search.{IsFirstLine}
use Rattle.obs_bus_branch.proofs.SearchLemmas.{Searched, found, next_line, passed_more}
use Rattle.obs_ieee_cdf.specs.Sections.{begins}

module _ (text all left line rest : List ℕ) (passed : ℕ) where
  pub searched_on : Searched (begins text) all left passed → lines_of left ≡ line ∷ lines_of rest → rest ≡ after_line left → starts_with nat_eq line text ≡ false → Searched (begins text) all rest (passed + 1)
  searched_on so_far is after other =
      let next = next_line left line rest is after in
      passed_more (begins text) all left line rest passed next.0 so_far next.1 (ap (λ l. starts_with nat_eq l text) next.1.content ∙ other)

  pub line_found : Searched (begins text) all left passed → lines_of left ≡ line ∷ lines_of rest → rest ≡ after_line left → starts_with nat_eq line text ≡ true → IsFirstLine (begins text) all (take (length all - length left) all) rest (passed + 1)
  line_found so_far is after here =
      let next = next_line left line rest is after in
      found (begins text) all left line rest passed next.0 so_far next.1 (ap (λ l. starts_with nat_eq l text) next.1.content ∙ here)
