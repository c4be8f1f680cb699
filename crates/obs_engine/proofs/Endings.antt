-- How runs end.
use Rattle.std.proofs.Common.{ℕ, ◌≡◌, ◌∙◌, ◌⊎◌, inl, inr, sym, refl, subst, List, [], Option, None, Result, Ok, Err, IsOk}
use Rattle.obs_io.specs.Bytes.{Wrote}
use Rattle.obs_report.specs.inner.Printed.{AppendsAt}
use Rattle.obs_report.proofs.Printing.{and_then_none}
use Rattle.obs_files.specs.declared.status.Status.{Status}
use Rattle.obs_files.specs.declared.status.Status.TheVariants.{Done, Short, Usage, InputFault, ReadFault, WriteFault, NoMemory, SessionTooLong}
use Rattle.obs_files.specs.declared.words.Form.{Form}
use Rattle.obs_engine.specs.Ending.{Answers, AnswersPart, Ends, HasRoomForText, answered_before}
use Rattle.obs_engine.specs.Replies.{Reply, usage_reply}
use Rattle.obs_engine.specs.inner.Replies.{EndsBehind, EndsWith, RepliedAt, printed_status}
use Rattle.obs_engine.specs.Stated.{Told, IsStated}

-- a reply that was written whole
pub replied_whole : {T E : Type 0} {x : T} {a b : Option (List ℕ)} {f k : ℕ} {p q : ℕ → Type 0} (reply : Reply) → (reply.status ≡ ReadFault → ⊥) → (reply.status ≡ WriteFault → ⊥)
    → AppendsAt {E = E} a b f k p q (Ok x) reply.text → RepliedAt a b f k p reply.status reply
replied_whole reply not_read not_write call =
    record { ends = inl (refl, call.writes); reads = not_read; write = λ e. absurd (not_write e); quiet = λ none. call.quiet refl; room = λ rest has. not_write }

-- a write that failed
pub replied_failed : {T E : Type 0} {e : E} {a b : Option (List ℕ)} {f k : ℕ} {p q : ℕ → Type 0} (reply : Reply) → AppendsAt {T = T} a b f k p q (Err e) reply.text → RepliedAt a b f k p WriteFault reply
replied_failed {T = T} {E = E} {e = e} reply call = record {
  ends = inr (inl (refl, call.writes));
  reads = λ s. absurd cc;
  write = λ s. call.cause.failed;
  quiet = λ none. absurd (none refl);
  room = λ rest has s. clash (call.fits rest has).0;
}
  where
    clash : IsOk {T = T} {E = E} (Err e) → ⊥
    clash ok = absurd cc

-- a reply, by whether all of it was printed
pub replied_so : {T E : Type 0} {a b : Option (List ℕ)} {f k : ℕ} {p q : ℕ → Type 0} (reply : Reply) (r : Result T E) (own status : Status) → status ≡ printed_status r own → own ≡ reply.status
    → (reply.status ≡ ReadFault → ⊥) → (reply.status ≡ WriteFault → ⊥) → AppendsAt a b f k p q r reply.text → RepliedAt a b f k p status reply
replied_so {a = a} {b = b} {f = f} {k = k} {p = p} reply (Ok x) own status e same not_read not_write call =
    subst (λ (s : Status). RepliedAt a b f k p s reply) (sym (e ∙ same)) (replied_whole reply not_read not_write call)
replied_so {a = a} {b = b} {f = f} {k = k} {p = p} reply (Err x) own status e same not_read not_write call =
    subst (λ (s : Status). RepliedAt a b f k p s reply) (sym e) (replied_failed reply call)

-- the same reply under another name
pub replied_as : {a b : Option (List ℕ)} {f k : ℕ} {p : ℕ → Type 0} {status : Status} {one two : Reply} → one ≡ two → RepliedAt a b f k p status one → RepliedAt a b f k p status two
replied_as {a = a} {b = b} {f = f} {k = k} {p = p} {status = status} e h = subst (λ (r : Reply). RepliedAt a b f k p status r) e h

-- it is its own, or says that a write failed
pub printed_either : {T E : Type 0} (r : Result T E) (own status : Status) → status ≡ printed_status r own → (status ≡ own) ⊎ (status ≡ WriteFault)
printed_either (Ok x) own status e = inl e
printed_either (Err x) own status e = inr e

-- no memory, and nothing was written
pub replied_memory : {a : Option (List ℕ)} {f : ℕ} {p : ℕ → Type 0} (reply : Reply) → RepliedAt a a f f p NoMemory reply
replied_memory reply = record { ends = inr (inr (inr (refl, refl))); reads = λ s. absurd cc; write = λ s. absurd cc; quiet = λ none. refl; room = λ rest has s. absurd cc }

-- all statuses that say that something failed
abbrev pub IsFailure : Status → Type 0
IsFailure status = (status ≡ ReadFault) ⊎ ((status ≡ WriteFault) ⊎ (status ≡ NoMemory))

-- a command that takes no input, or none yet, had answered nothing
pub behind_of : (reply : Reply) (answered : List ℕ) (status : Status) (a b : Option (List ℕ)) → answered ≡ [] → EndsWith reply status a b → EndsBehind reply answered status a b
behind_of reply answered status a b none (inl h) = inl h
behind_of reply answered status a b none (inr (inl h)) = inr (inl h)
behind_of reply answered status a b none (inr (inr (inl (e, same)))) = inr (inr (inl (e, rw none (same ∙ sym (and_then_none a)))))
behind_of reply answered status a b none (inr (inr (inr h))) = inr (inr (inr h))

-- where no read and no write fails, all is answered, or there is no memory
pub complete_stated : (form : Option Form) (told : Told) (reply : Reply) (status : Status) (a b : Option (List ℕ)) → IsStated form told reply → (status ≡ ReadFault → ⊥) → (status ≡ WriteFault → ⊥)
    → (answered : List ℕ) → EndsBehind reply answered status a b → (status ≡ NoMemory) ⊎ Answers form told status a b
complete_stated form told reply status a b is read write answered (inl (same, wrote)) = inr (reply, is, same, wrote)
complete_stated form told reply status a b is read write answered (inr (inl (e, part))) = absurd (write e)
complete_stated form told reply status a b is read write answered (inr (inr (inl (e, wrote)))) = absurd (read e)
complete_stated form told reply status a b is read write answered (inr (inr (inr (e, same)))) = inl e

-- and where memory is there too, all is answered
whole_stated : (form : Option Form) (told : Told) (reply : Reply) (status : Status) (a b : Option (List ℕ)) → IsStated form told reply → (status ≡ ReadFault → ⊥) → (status ≡ WriteFault → ⊥)
    → (status ≡ NoMemory → ⊥) → (answered : List ℕ) → EndsBehind reply answered status a b → Answers form told status a b
whole_stated form told reply status a b is read write memory answered ends =
    elim (complete_stated form told reply status a b is read write answered ends) [ inl e ↦ absurd (memory e) | inr all ↦ all ]

-- the way in which a run ends with the reply that is stated for a form
pub ends_stated : (form : Option Form) (told : Told) (left : Option (List ℕ)) (reply : Reply) (status : Status) (a b : Option (List ℕ)) → IsStated form told reply → (IsFailure reply.status → ⊥)
    → EndsBehind reply (answered_before form told left) status a b → Ends form told left status a b
ends_stated form told left reply Done a b is not ends = whole_stated form told reply Done a b is (λ e. absurd cc) (λ e. absurd cc) (λ e. absurd cc) (answered_before form told left) ends
ends_stated form told left reply Short a b is not ends = whole_stated form told reply Short a b is (λ e. absurd cc) (λ e. absurd cc) (λ e. absurd cc) (answered_before form told left) ends
ends_stated form told left reply Usage a b is not ends = whole_stated form told reply Usage a b is (λ e. absurd cc) (λ e. absurd cc) (λ e. absurd cc) (answered_before form told left) ends
ends_stated form told left reply InputFault a b is not ends = whole_stated form told reply InputFault a b is (λ e. absurd cc) (λ e. absurd cc) (λ e. absurd cc) (answered_before form told left) ends
ends_stated form told left reply SessionTooLong a b is not ends = whole_stated form told reply SessionTooLong a b is (λ e. absurd cc) (λ e. absurd cc) (λ e. absurd cc) (answered_before form told left) ends
ends_stated form told left reply ReadFault a b is not ends = by ends
  where
    by : EndsBehind reply (answered_before form told left) ReadFault a b → Wrote a b (answered_before form told left)
    by (inl (same, wrote)) = absurd (not (inl (sym same)))
    by (inr (inl (e, part))) = absurd cc
    by (inr (inr (inl (e, wrote)))) = wrote
    by (inr (inr (inr (e, same)))) = absurd cc
ends_stated form told left reply WriteFault a b is not ends = by ends
  where
    by : EndsBehind reply (answered_before form told left) WriteFault a b → AnswersPart form told a b
    by (inl (same, wrote)) = absurd (not (inr (inl (sym same))))
    by (inr (inl (e, part))) = (reply, is, part)
    by (inr (inr (inl (e, wrote)))) = absurd cc
    by (inr (inr (inr (e, same)))) = absurd cc
ends_stated form told left reply NoMemory a b is not ends = by ends
  where
    by : EndsBehind reply (answered_before form told left) NoMemory a b → Wrote a b []
    by (inl (same, wrote)) = absurd (not (inr (inr (sym same))))
    by (inr (inl (e, part))) = absurd cc
    by (inr (inr (inl (e, wrote)))) = absurd cc
    by (inr (inr (inr (e, same)))) = same ∙ sym (and_then_none a)

usage_no_failure : IsFailure usage_reply.status → ⊥
usage_no_failure (inl e) = absurd cc
usage_no_failure (inr (inl e)) = absurd cc
usage_no_failure (inr (inr e)) = absurd cc

-- words without a form
pub usage_ends : (form : Option Form) (told : Told) (left : Option (List ℕ)) (status : Status) (a b : Option (List ℕ)) → None ≡ form → EndsWith usage_reply status a b → Ends form told left status a b
usage_ends form told left status a b e ends =
    subst (λ f. Ends f told left status a b) e (ends_stated None told left usage_reply status a b refl usage_no_failure (behind_of usage_reply [] status a b refl ends))

pub usage_complete : {a b : Option (List ℕ)} {f k : ℕ} {room : ℕ → Type 0} {status : Status} (form : Option Form) (told : Told) → None ≡ form → HasRoomForText form told room → RepliedAt a b f k room status usage_reply
    → (status ≡ NoMemory) ⊎ Answers form told status a b
usage_complete {a = a} {b = b} {room = room} {status = status} form told e has replied =
    let here : HasRoomForText None told room = subst (λ f. HasRoomForText f told room) (sym e) has in
    let fits = here usage_reply refl in
    subst (λ f. (status ≡ NoMemory) ⊎ Answers f told status a b) e
    (complete_stated None told usage_reply status a b refl replied.reads (replied.room fits.0 fits.1) [] (behind_of usage_reply [] status a b refl replied.ends))

-- the statuses of a command that replies so
pub replied_statuses : (P : Status → Type 0) (reply : Reply) (status : Status) (a b : Option (List ℕ)) → P reply.status → P WriteFault → P NoMemory → (status ≡ ReadFault → ⊥) → EndsWith reply status a b → P status
replied_statuses P reply status a b own write memory read (inl (same, wrote)) = subst P (sym same) own
replied_statuses P reply status a b own write memory read (inr (inl (e, part))) = subst P (sym e) write
replied_statuses P reply status a b own write memory read (inr (inr (inl (e, same)))) = absurd (read e)
replied_statuses P reply status a b own write memory read (inr (inr (inr (e, same)))) = subst P (sym e) memory

-- for want of memory nothing is written
pub unwritten : (reply : Reply) (status : Status) (a b : Option (List ℕ)) → (reply.status ≡ NoMemory → ⊥) → EndsWith reply status a b → status ≡ NoMemory → b ≡ a
unwritten reply status a b not (inl (same, wrote)) e = absurd (not (sym same ∙ e))
unwritten reply status a b not (inr (inl (w, part))) e = absurd cc
unwritten reply status a b not (inr (inr (inl (r, same)))) e = same
unwritten reply status a b not (inr (inr (inr (m, same)))) e = same
