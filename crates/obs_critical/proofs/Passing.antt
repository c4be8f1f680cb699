-- A pass over the meters that lists some of them.
use Rattle.std.proofs.Common.{◌≡◌, ℕ, ◌+◌, ◌<◌, ◌≤◌, Bool, true, false, List, ◌++◌, length, set, take, sym, ap, ◌∙◌, arith}
use Rattle.std.specs.Prelude.{filter}
use Rattle.std.specs.List.{range_with_len}
use Rattle.obs_matroid.proofs.Ranges.{later, later_listed, later_over, listed_more}

module _ (passes : ℕ → Bool) (n : ℕ) where
  -- of the numbers below i those that pass are listed
  pub record IsPassed (list : List ℕ) (count i : ℕ) : Type 0 where
    pub bound : count ≤ i
    pub lists : take count list ++ filter passes (later n i) ≡ filter passes (range_with_len 0 n)

  module _ (list : List ℕ) (count i : ℕ) (h : IsPassed list count i) where
    pub Passed-over : i < n → passes i ≡ false → IsPassed list count (i + 1)
    Passed-over low f = record { bound = let b = h.bound in omega arith; lists = rw (← later_over passes n i low f) h.lists }

    pub Passed-listed : i < n → n ≤ length list → passes i ≡ true → IsPassed (set list count i) (count + 1) (i + 1)
    Passed-listed low long t =
        let b = h.bound in
        record {
          bound = omega arith;
          lists = listed_more list count i (filter passes (later n (i + 1))) (filter passes (range_with_len 0 n)) (omega arith) (ap (λ xs. take count list ++ xs) (sym (later_listed passes n i low t)) ∙ h.lists);
        }
