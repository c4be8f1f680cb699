-- A piece that was taken into the front of an array.
use Rattle.std.proofs.Common.{ℕ, ◌≡◌, ◌∙◌, sym, ◌≤◌, List, ◌++◌, length, Option, Some, None, Result, Ok, Err}
use Rattle.std.specs.Prelude.{IfOk}
use Rattle.std.proofs.lemmas.List.{take-append-le}
use Rattle.obs_io.specs.Bytes.{TakesFront}

pub front_takes : {E : Type 0} (before after : Option (List ℕ)) (r : Result ℕ E) (into rest : List ℕ) → IfOk r (λ n. n ≤ length into) → TakesFront before after r into → TakesFront before after r (into ++ rest)
front_takes None after r into rest low h = h
front_takes (Some x) after (Ok n) into rest low h =
    (record { bytes = take-append-le n into rest low ∙ h.0.bytes; within = h.0.within; at_end = h.0.at_end }, h.1)
front_takes (Some x) after (Err e) into rest low h = h

pub low_front : {E : Type 0} (r : Result ℕ E) (n m : ℕ) → n ≡ m → IfOk r (λ k. k ≤ n) → IfOk r (λ k. k ≤ m)
low_front r n m e h = rw (sym e) h
