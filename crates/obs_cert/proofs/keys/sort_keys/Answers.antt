use Rattle.std.proofs.Common.{ℕ, List, subst, arith}
use Rattle.std.specs.List.Sorted.{IsPermutation}
use Rattle.std.proofs.lemmas.List.Sorted.{IsNonDecreasingBy-from_sort}
use Rattle.obs_cert.proofs.ComponentLemmas.{rows_few}
use Rattle.obs_cert.proofs.keys.sort_keys.Goals as goal

pub returns-clause-keys : goal.returns-clause-keys
returns-clause-keys c =
    let new = c.sort_unstable.new.self in
    record {
      all = subst (λ (xs : List ℕ). IsPermutation xs new) c.write_keys.ensures.keys c.sort_unstable.ensures.permutation;
      rising = IsNonDecreasingBy-from_sort (λ k. k) new c.sort_unstable.ensures.sorted;
      few = omega (arith, c.sort_unstable.ensures.len, c.write_keys.auto.keys, c.requires.room, rows_few c.args.present.now c.write_keys.ensures.valid);
    }
