-- Arrays that were made anew, in part or as a whole.
use Rattle.std.proofs.Common.{◌≡◌, ℕ, ◌≤◌, List, ◌++◌, length, take, ◌∙◌, subst}
use Rattle.std.proofs.Math.Seq.{take-append_seam}
use Rattle.std.proofs.lemmas.List.{length-take-le}
use Rattle.obs_switch.specs.inner.Held.{AreHeld}

-- the arrays that were written are those that are held
pub AreHeld-written : (nodes count : ℕ) (firsts numbers members starts firsts' numbers' members' starts' : List ℕ) → firsts' ≡ firsts → numbers' ≡ numbers → members' ≡ members → starts' ≡ starts
    → AreHeld nodes count firsts numbers members starts → AreHeld nodes count firsts' numbers' members' starts'
AreHeld-written nodes count firsts numbers members starts firsts' numbers' members' starts' f n m s h = rw (f, n, m, s) h

-- so many of the entries were made anew
module _ (n : ℕ) (old new rest : List ℕ) (room : n ≤ length old) (same : length new ≡ length (take n old)) where
  pub length-front : length new ≡ n
  length-front = same ∙ length-take-le n old room

  pub front_is : take n (new ++ rest) ≡ new
  front_is = subst (λ (k : ℕ). take k (new ++ rest) ≡ new) length-front (take-append_seam new rest)
