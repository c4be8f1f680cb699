use Rattle.std.proofs.Common.{ℕ, List, subst}
use Rattle.std.specs.List.Sorted.{IsPermutation}
use Rattle.std.proofs.lemmas.List.Sorted.{IsNonDecreasingBy-from_sort}
use Rattle.obs_cert.proofs.links.sort_links.Goals as goal

pub returns-clause-links : goal.returns-clause-links
returns-clause-links c =
    let new = c.sort_unstable.new.self in
    record {
      all = subst (λ (xs : List ℕ). IsPermutation xs new) c.write_links.ensures.links c.sort_unstable.ensures.permutation;
      rising = IsNonDecreasingBy-from_sort (λ k. k) new c.sort_unstable.ensures.sorted;
    }
