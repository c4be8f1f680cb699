-- A content that is read piece by piece: what came so far is its front.
use Rattle.std.proofs.Common.{arith, ◌≡◌, ◌<◌, ◌≤◌, ◌+◌, ◌-◌, ◌∙◌, ap, sym, ℕ, List, ◌++◌, length, take, drop, vec_len, Option, Some, None, Ok, Err, Vec, length-append, length-drop, length-take-le, take_all, take-add}
use Rattle.std.specs.Prelude.{IfSome}
use Rattle.std.specs.declared.alloc.Global.{Global}
use Rattle.obs_io.specs.Bytes.{IsPiece}
use Rattle.obs_io.specs.inner.Bytes.{AddsPart}
use Rattle.obs_io.specs.inner.Whole.{IsWhole}
use Rattle.obs_io.specs.declared.whole.ReadEnd.TheVariants.{TooLong}

-- these bytes are the front of a content that is told
abbrev pub IsFront : Option (List ℕ) → Vec ℕ Global → Type 0
IsFront content bytes = IfSome content (λ c. (bytes.items ≡ take (vec_len bytes) c) × (vec_len bytes ≤ length c))

grown : (c : List ℕ) (old new : Vec ℕ Global) (into : List ℕ) (n : ℕ) → (old.items ≡ take (vec_len old) c) × (vec_len old ≤ length c) → new.items ≡ old.items ++ take n into
    → IsPiece c (length old.items) n into → (new.items ≡ take (vec_len new) c) × (vec_len new ≡ vec_len old + n) × (vec_len new ≤ length c)
grown c old new into n front added piece =
    let from : vec_len old ≡ length old.items = old.ok.0 in
    let within : n ≤ length c - vec_len old = omega (arith, piece.within, from) in
    let bytes : take n into ≡ take n (drop (vec_len old) c) = piece.bytes ∙ ap (λ k. take n (drop k c)) (sym from) in
    let long : length (take n (drop (vec_len old) c)) ≡ n = length-take-le n (drop (vec_len old) c) (rw (length-drop (vec_len old) c) within) in
    let same : new.items ≡ old.items ++ take n (drop (vec_len old) c) = added ∙ ap (λ t. old.items ++ t) bytes in
    let lengths : length new.items ≡ length old.items + length (take n (drop (vec_len old) c)) = ap length same ∙ length-append old.items (take n (drop (vec_len old) c)) in
    let to : vec_len new ≡ length new.items = new.ok.0 in
    let count : vec_len new ≡ vec_len old + n = omega (arith, lengths, long, from, to) in (
      same ∙ ap (λ t. t ++ take n (drop (vec_len old) c)) front.0 ∙ sym (take-add (vec_len old) n c) ∙ ap (λ k. take k c) (sym count),
      count,
      omega (arith, count, front.1, within),
    )

-- one piece more: a longer front
pub front_grows : (content now : Option (List ℕ)) (old new : Vec ℕ Global) (n : ℕ) → now ≡ content → IsFront content old → AddsPart now old.items new.items n → IsFront content new
front_grows None now old new n same front adds = tt
front_grows (Some c) now old new n same front adds =
    let g = grown c old new adds.0 n front adds.1 (rw same at adds.2) in
    (g.0, g.2)

-- no piece more: the front is the whole
pub front_ends : (content now : Option (List ℕ)) (old new : Vec ℕ Global) (n limit : ℕ) → now ≡ content → IsFront content old → AddsPart now old.items new.items n → n ≡ 0 → vec_len old ≤ limit
    → IsWhole content limit (Ok new)
front_ends None now old new n limit same front adds end few = tt
front_ends (Some c) now old new n limit same front adds end few =
    let piece = rw same at adds.2 in
    let g = grown c old new adds.0 n front adds.1 piece in
    let from : vec_len old ≡ length old.items = old.ok.0 in
    let all : length c ≤ length old.items = piece.at_end end in
    (g.0 ∙ take_all (vec_len new) c (omega (arith, all, from, g.1)), omega (arith, all, from, few))

-- a front that is longer than the limit
pub front_long : (content : Option (List ℕ)) (bytes : Vec ℕ Global) (limit : ℕ) → IsFront content bytes → limit < vec_len bytes → IsWhole content limit (Err TooLong)
front_long None bytes limit front long = tt
front_long (Some c) bytes limit front long = omega (arith, front.1, long)
