-- The branches that are present, counted one by one.
use Rattle.std.proofs.Common.{◌≡◌, ◌∙◌, ℕ, ◌+◌, ◌<◌, ◌≤◌, Option, Some, None, List, ◌∷◌, length, take, refl, sym, ap, arith, inl, inr}
use Rattle.std.specs.Prelude.{cond, count_by}
use Rattle.std.specs.Option.{is_some}
use Rattle.std.proofs.lemmas.Bool.{cases_lt}
use Rattle.std.proofs.lemmas.List.{take_all}
use Rattle.std.proofs.lemmas.List.Recursion.{is_count_by}
use Rattle.obs_graph.specs.declared.Ends.{Ends}
use Rattle.obs_graph.specs.Positions.{present}

one_present : (o : Option Ends) (ends : List (Option Ends)) → length (present (o ∷ ends)) ≡ cond (is_some o) (1 + length (present ends)) (length (present ends))
one_present None ends = refl
one_present (Some e) ends = omega arith

-- so many branches are present
pub length-present : (ends : List (Option Ends)) → length (present ends) ≡ count_by is_some ends
length-present ends = is_count_by (λ es. length (present es)) is_some refl one_present ends

-- those of the first so many positions, where the loop ended behind the last of these or of all
pub present_of_first : (ends : List (Option Ends)) (rows e : ℕ) → e ≤ rows → e ≤ length ends → (e < length ends → rows ≤ e) → count_by is_some (take e ends) ≡ length (present (take rows ends))
present_of_first ends rows e low within last =
    let same : take e ends ≡ take rows ends =
    elim (cases_lt e (length ends)) [
      | inl less ↦ ap (λ n. take n ends) (let few = last less in omega (arith, few, low))
      | inr all ↦ take_all e ends all ∙ sym (take_all rows ends (omega (arith, all, low)))
    ] in
    ap (count_by is_some) same ∙ sym (length-present (take rows ends))
