-- Texts that are written one behind the other.
use Rattle.std.proofs.Common.{ℕ, ◌≡◌, ◌<◌, ◌∙◌, ◌+◌, zero, suc, refl, ap, sym, subst, arith, List, [], ◌∷◌, ◌++◌, length, take, drop, Option, Some, None, Result, Ok, Err, append_assoc, append-nil, true, false, ◌-◌}
use Rattle.std.specs.Prelude.{IsOk, slice_index, ⊤}
use Rattle.std.proofs.Math.Seq.{take-length}
use Rattle.std.proofs.lemmas.List.{length-append}
use Rattle.obs_io.specs.Bytes.{Wrote, WrotePart}
use Rattle.obs_io.specs.inner.Bytes.{Writes}
use Rattle.obs_notice.specs.Notices.{byte_said, comma_said, digits_said, name_said}

wrote_then : (a b d : Option (List ℕ)) (x y : List ℕ) → Wrote a b x → Wrote b d y → Wrote a d (x ++ y)
wrote_then None b d x y first second = rw first at second
wrote_then (Some s) b d x y first second = rw first at second ∙ ap Some (append_assoc s x y)

-- a front of a text is one of a longer text
pub part_front : (a b : Option (List ℕ)) (x y : List ℕ) → WrotePart a b x → WrotePart a b (x ++ y)
part_front a b x y (part, rest, e, wrote) = (part, rest ++ y, ap (λ t. t ++ y) e ∙ append_assoc part rest y, wrote)

-- a text, and the next as far as it was written
pub writes_behind : {T E : Type 0} (a b d : Option (List ℕ)) (r : Result T E) (x y : List ℕ) → Wrote a b x → Writes b d r y → Writes a d r (x ++ y)
writes_behind a b d (Ok v) x y first second = wrote_then a b d x y first second
writes_behind a b d (Err f) x y first (part, rest, e, wrote) =
    (x ++ part, rest, ap (λ t. x ++ t) e ∙ sym (append_assoc x part rest), wrote_then a b d x part first wrote)

-- room for a text is room for its first part and then for the others
pub room_front : (p : ℕ → Type 0) (x y : List ℕ) (rest : ℕ) → p (length (x ++ y) + rest) → p (length x + (length y + rest))
room_front p x y rest has =
    let e : length (x ++ y) + rest ≡ length x + (length y + rest) = omega (arith, length-append x y) in
    subst p e has

-- what was written is a front of the text, whether the call failed or not
pub writes_part : {T E : Type 0} (a b : Option (List ℕ)) (r : Result T E) (x : List ℕ) → Writes a b r x → WrotePart a b x
writes_part a b (Ok v) x wrote = (x, [], sym (append-nil x), wrote)
writes_part a b (Err f) x part = part

-- and all of it, where the call succeeded
pub writes_whole : {T E : Type 0} (a b : Option (List ℕ)) (r : Result T E) (x : List ℕ) → IsOk r → Writes a b r x → Wrote a b x
writes_whole a b (Ok v) x good wrote = wrote
writes_whole a b (Err f) x good part = absurd cc

-- a name's front, and one byte more
said_more : (name : List ℕ) (at : ℕ) → at < length name → name_said (take (suc at) name) ≡ name_said (take at name) ++ byte_said (slice_index name at)
said_more [] at lt = absurd (omega (arith, lt))
said_more (b ∷ name) zero lt = append-nil (byte_said b)
said_more (b ∷ name) (suc at) lt = let e = said_more name at (omega (arith, lt)) in
    ap (λ t. byte_said b ++ t) e ∙ sym (append_assoc (byte_said b) (name_said (take at name)) (byte_said (slice_index name at)))

-- a name's front and the rest of it
said_cut : (name : List ℕ) (at : ℕ) → name_said (take at name) ++ name_said (drop at name) ≡ name_said name
said_cut [] zero = refl
said_cut [] (suc at) = refl
said_cut (b ∷ name) zero = refl
said_cut (b ∷ name) (suc at) = append_assoc (byte_said b) (name_said (take at name)) (name_said (drop at name)) ∙ ap (λ t. byte_said b ++ t) (said_cut name at)

-- the rest of a name from a byte on
said_rest : (name : List ℕ) (at : ℕ) → at < length name → name_said (drop at name) ≡ byte_said (slice_index name at) ++ name_said (drop (suc at) name)
said_rest [] at lt = absurd (omega (arith, lt))
said_rest (b ∷ name) zero lt = refl
said_rest (b ∷ name) (suc at) lt = said_rest name at (omega (arith, lt))

-- a name's front was written, and then the next byte
pub wrote_next : (a b d : Option (List ℕ)) (name : List ℕ) (at next : ℕ) → next ≡ suc at → at < length name → Wrote a b (name_said (take at name))
    → Wrote b d (byte_said (slice_index name at)) → Wrote a d (name_said (take next name))
wrote_next a b d name at next e lt first second =
    let wrote = wrote_then a b d (name_said (take at name)) (byte_said (slice_index name at)) first second in
    subst (λ n. Wrote a d (name_said (take n name))) (sym e) (subst (λ t. Wrote a d t) (sym (said_more name at lt)) wrote)

-- a name's front was written, and the next byte failed
pub failed_next : (a b d : Option (List ℕ)) (name : List ℕ) (at : ℕ) → at < length name → Wrote a b (name_said (take at name))
    → WrotePart b d (byte_said (slice_index name at)) → WrotePart a d (name_said name)
failed_next a b d name at lt first part =
    let front = writes_behind {T = ⊤} {E = ⊤} a b d (Err tt) (name_said (take at name)) (byte_said (slice_index name at)) first part in
    let more = subst (λ t. WrotePart a d t) (sym (said_more name at lt)) front in
    subst (λ t. WrotePart a d t) (said_cut name (suc at)) (part_front a d (name_said (take (suc at) name)) (name_said (drop (suc at) name)) more)

-- room for the rest of a name is room for its next byte and then for the others
pub room_next : (p : ℕ → Type 0) (name : List ℕ) (at next rest : ℕ) → next ≡ suc at → at < length name → p (length (name_said (drop at name)) + rest)
    → p (length (byte_said (slice_index name at)) + (length (name_said (drop next name)) + rest))
room_next p name at next rest e lt has =
    let here = room_front p (byte_said (slice_index name at)) (name_said (drop (suc at) name)) rest (subst (λ t. p (length t + rest)) (said_rest name at lt) has) in
    subst (λ n. p (length (byte_said (slice_index name at)) + (length (name_said (drop n name)) + rest))) (sym e) here

-- a call that failed didn't succeed
pub no_success : {P : Type 0} → false ≡ true → P
no_success e = absurd cc

-- the digits behind the first, as they are said
abbrev pub rest_said : List ℕ → List ℕ
rest_said digits = digits_said (take (length digits - 1) (drop 1 digits))

-- the first digit of a number, and those behind it
pub digits_first : (digits : List ℕ) → (length digits ≡ 0 → ⊥) → digits_said digits ≡ comma_said (length digits - 1) (slice_index digits 0) ++ rest_said digits
digits_first [] some = absurd (some refl)
digits_first (digit ∷ digits) some =
    let e : suc (length digits) - 1 ≡ length digits = omega arith in
    rw e (ap (λ ds. comma_said (length digits) digit ++ digits_said ds) (sym (take-length digits)))

-- room for a number is room for its first digit and then for the others
pub room_digits : (p : ℕ → Type 0) (digits : List ℕ) (rest : ℕ) → (length digits ≡ 0 → ⊥) → p (length (digits_said digits) + rest)
    → p (length (comma_said (length digits - 1) (slice_index digits 0)) + (length (rest_said digits) + rest))
room_digits p digits rest some has =
    room_front p (comma_said (length digits - 1) (slice_index digits 0)) (rest_said digits) rest (subst (λ t. p (length t + rest)) (digits_first digits some) has)
