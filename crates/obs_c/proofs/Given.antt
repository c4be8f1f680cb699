-- What is given of a reply: what a sink holds of it that takes one byte more than the caller's block, and what stands of that in the block.
use Rattle.std.proofs.Common.{◌⊎◌, ◌≡◌, ◌≢◌, ℕ, ◌+◌, ◌<◌, ◌≤◌, min, List, [], ◌∷◌, ◌++◌, length, take, Option, Some, inl, inr, refl, sym, ap, ◌∙◌, subst, arith}
use Rattle.std.proofs.lemmas.Bool.{cases_lt, le-ltb, lt-ltb}
use Rattle.std.proofs.lemmas.List.{length-append, take-append-le, take_all}
use Rattle.obs_files.specs.declared.status.Status.{Status}
use Rattle.obs_files.specs.declared.status.Status.TheVariants.{Done, Short, Usage, InputFault, ReadFault, WriteFault, NoMemory, SessionTooLong}
use Rattle.obs_files.specs.Codes.{code_of}
use Rattle.obs_files.specs.Words.{form_of}
use Rattle.obs_io.specs.Bytes.{WrotePart}
use Rattle.obs_engine.specs.Ending.{Answers, Ends}
use Rattle.obs_engine.specs.Replies.{Reply}
use Rattle.obs_engine.specs.inner.Replies.{EndsWith}
use Rattle.obs_engine.specs.Stated.{IsStated, Told}
use Rattle.obs_c.specs.Calls.{IsAnswered, IsGiven}

-- behind this status a sink that takes so many bytes holds these of a reply: all, or as many as it takes, where a write failed
abbrev pub IsHeld : Reply → Status → ℕ → List ℕ → Type 0
IsHeld reply status most bytes =
    ((status ≡ reply.status) × (bytes ≡ reply.text))
    ⊎ ((status ≡ WriteFault) × (length bytes ≡ most) × ((rest : List ℕ) × (reply.text ≡ bytes ++ rest)))

-- there was no memory, and the sink holds nothing
abbrev pub IsEmpty : Status → List ℕ → Type 0
IsEmpty status bytes = (status ≡ NoMemory) × (bytes ≡ [])

-- where the count of failed writes rose from 0 the sink is full
pub filled : (before faults most : ℕ) (bytes : List ℕ) → before ≡ 0 → (0 < faults → length bytes ≡ most) → min (before + 1) 18446744073709551615 ≤ faults → length bytes ≡ most
filled before faults most bytes none full rose = full (omega (arith, none, rose))

-- what is told of the sink's bytes behind the number of those that it takes
same_most : (now most : ℕ) (bytes text : List ℕ) → Some (now ∷ bytes) ≡ Some (most ∷ text) → now ≡ most
same_most now most bytes text e = cc

pub same_bytes : (now most : ℕ) (bytes text : List ℕ) → Some (now ∷ bytes) ≡ Some (most ∷ text) → bytes ≡ text
same_bytes now most bytes text e = cc

-- behind a run
abbrev pub IsHeldByRun : List (List ℕ) → Told → Status → ℕ → List ℕ → Type 0
IsHeldByRun words told status most bytes = ((reply : Reply) × IsStated (form_of words) told reply × IsHeld reply status most bytes) ⊎ IsEmpty status bytes

module _ (now most : ℕ) (bytes : List ℕ) where
  all_held : (words : List (List ℕ)) (told : Told) (status : Status) → Answers (form_of words) told status (Some (most ∷ [])) (Some (now ∷ bytes)) → IsHeldByRun words told status most bytes
  all_held words told status (reply, stated, same, wrote) = inl (reply, stated, inl (same, same_bytes now most bytes reply.text wrote))

  part_held : (reply : Reply) (status : Status) → status ≡ WriteFault → length bytes ≡ now → WrotePart (Some (most ∷ [])) (Some (now ∷ bytes)) reply.text → IsHeld reply status most bytes
  part_held reply status failed full (part, rest, text, wrote) =
      inr (failed, full ∙ same_most now most bytes part wrote, (rest, text ∙ ap (λ (xs : List ℕ). xs ++ rest) (sym (same_bytes now most bytes part wrote))))

  pub held_by_run : (words : List (List ℕ)) (told : Told) (left : Option (List ℕ)) (status : Status) → status ≢ ReadFault → (status ≡ WriteFault → length bytes ≡ now)
      → Ends (form_of words) told left status (Some (most ∷ [])) (Some (now ∷ bytes)) → IsHeldByRun words told status most bytes
  held_by_run words told left Done read full ends = all_held words told Done ends
  held_by_run words told left Short read full ends = all_held words told Short ends
  held_by_run words told left Usage read full ends = all_held words told Usage ends
  held_by_run words told left InputFault read full ends = all_held words told InputFault ends
  held_by_run words told left ReadFault read full ends = absurd (read refl)
  held_by_run words told left WriteFault read full (reply, stated, wrote) = inl (reply, stated, part_held reply WriteFault refl (full refl) wrote)
  held_by_run words told left NoMemory read full ends = inr (refl, same_bytes now most bytes [] ends)
  held_by_run words told left SessionTooLong read full ends = all_held words told SessionTooLong ends

  -- behind a call that has this reply
  pub held_by_reply : (reply : Reply) (status : Status) → status ≢ ReadFault → (status ≡ WriteFault → length bytes ≡ now)
      → EndsWith reply status (Some (most ∷ [])) (Some (now ∷ bytes)) → IsHeld reply status most bytes ⊎ IsEmpty status bytes
  held_by_reply reply status read full (inl (same, wrote)) = inl (inl (same, same_bytes now most bytes reply.text wrote))
  held_by_reply reply status read full (inr (inl (failed, wrote))) = inl (part_held reply status failed (full failed) wrote)
  held_by_reply reply status read full (inr (inr (inl (failed, same)))) = absurd (read failed)
  held_by_reply reply status read full (inr (inr (inr (none, same)))) = inr (none, same_bytes now most bytes [] same)

-- so much of some bytes stands in a block with this room, and this number says how it is
pub record IsDelivered (bytes stands : List ℕ) (room number : ℕ) (status : Status) : Type 0 where
  pub whole : length bytes ≤ room → (number ≡ code_of status) × (stands ≡ bytes)
  pub part : room < length bytes → (number ≡ code_of WriteFault) × (stands ≡ take room bytes)

-- a text that is longer than the room, and one that isn't
given_part : (reply : Reply) (stands : List ℕ) (room number : ℕ) → room < length reply.text → number ≡ code_of WriteFault → stands ≡ take room reply.text → IsGiven reply room number stands
given_part reply stands room number long is front = record { front = front; number_is = rw (lt-ltb room (length reply.text) long) is }

given_whole : (reply : Reply) (stands : List ℕ) (room number : ℕ) → length reply.text ≤ room → number ≡ code_of reply.status → stands ≡ reply.text → IsGiven reply room number stands
given_whole reply stands room number short is all = record {
  front = all ∙ sym (take_all room reply.text short);
  number_is = rw (le-ltb room (length reply.text) short) is;
}

module _ (reply : Reply) (bytes stands : List ℕ) (room number : ℕ) where
  pub given : (status : Status) → IsDelivered bytes stands room number status → IsHeld reply status (room + 1) bytes → IsGiven reply room number stands
  given status d (inl (same, all)) = elim (cases_lt room (length bytes)) [
    | inl long ↦
        let p = d.part long in
        given_part reply stands room number (subst (λ (xs : List ℕ). room < length xs) all long) p.0 (p.1 ∙ ap (take room) all)
    | inr short ↦
        let w = d.whole short in
        given_whole reply stands room number (subst (λ (xs : List ℕ). length xs ≤ room) all short) (w.0 ∙ ap code_of same) (w.1 ∙ all)
  ]
  given status d (inr (failed, full, (rest, text))) =
      let p = d.part (omega (arith, full)) in
      let longer : length reply.text ≡ length bytes + length rest = ap (λ (xs : List ℕ). length xs) text ∙ length-append bytes rest in
      given_part reply stands room number (omega (arith, full, longer)) p.0 (p.1 ∙ sym (ap (take room) text ∙ take-append-le room bytes rest (omega (arith, full))))

-- where there was no memory nothing stands
pub given_nothing : (status : Status) (bytes stands : List ℕ) (room number : ℕ) → IsDelivered bytes stands room number status → IsEmpty status bytes → (number ≡ code_of NoMemory) × (stands ≡ [])
given_nothing status bytes stands room number d (none, empty) =
    let w = d.whole (subst (λ (xs : List ℕ). length xs ≤ room) (sym empty) (omega arith)) in
    (w.0 ∙ ap code_of none, w.1 ∙ empty)

-- a run over blocks
pub answered : (words : List (List ℕ)) (told : Told) (status : Status) (bytes stands : List ℕ) (room number : ℕ) → IsDelivered bytes stands room number status
    → IsHeldByRun words told status (room + 1) bytes → IsAnswered words told room number stands
answered words told status bytes stands room number d (inl (reply, stated, held)) = inl (reply, stated, given reply bytes stands room number status d held)
answered words told status bytes stands room number d (inr empty) = inr (given_nothing status bytes stands room number d empty)
