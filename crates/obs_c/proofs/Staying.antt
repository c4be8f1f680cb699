-- A session that stays: what stands of a reply in the caller's block, and how a begin and a line end.
use Rattle.std.proofs.Common.{◌≡◌, ◌≢◌, ℕ, ◌+◌, List, [], ◌∷◌, length, Option, None, Some, Ok, Err, inl, inr, ⊎_elim, refl, sym, ap, ◌∙◌, subst}
use Rattle.std.proofs.lemmas.List.{length-map}
use Rattle.std.specs.Prelude.{String, map, string_bytes}
use Rattle.obs_io.specs.Contents.{content_at}
use Rattle.obs_edit.specs.Sessions.{Session}
use Rattle.obs_files.specs.declared.status.Status.{Status}
use Rattle.obs_files.specs.declared.status.Status.TheVariants.{Done, NoMemory, ReadFault, WriteFault}
use Rattle.obs_files.specs.Codes.{code_of}
use Rattle.obs_files.specs.Limits.{Limits}
use Rattle.obs_files.specs.Outside.{AreFiles}
use Rattle.obs_engine.specs.Lines.{line_case}
use Rattle.obs_engine.specs.inner.Replies.{EndsWith}
use Rattle.obs_engine.specs.Stays.{IsNotBegun, line_reply}
use Rattle.obs_engine.specs.inner.Stays.{Begins}
use Rattle.obs_files.specs.Words.{form_of}
use Rattle.obs_c.specs.Blocks.{AreLengths, IsCall, malformed, words_in}
use Rattle.obs_c.specs.Stays.{IsLineAnswered, IsBeginning, out_of_turn}
use Rattle.obs_c.proofs.Blocked.{tells}
use Rattle.obs_c.proofs.Given.{IsDelivered, IsEmpty, IsHeld, given, given_nothing, held_by_reply, same_bytes}

-- a begin whose blocks are a call
module _ (limits given_limits : Limits) (held : given_limits ≡ limits) (words contents lengths : List ℕ) (room : ℕ) (list : List (List ℕ)) (content : ℕ → Option (List ℕ)) (call : IsCall words contents lengths) (same : list ≡ words_in words)
    (are : (w : ℕ) → content w ≡ Some (content_at contents lengths w)) where
  told : AreFiles limits (form_of list) content (content_at contents lengths)
  told = (tells limits list (record { limits = limits; file = content_at contents lengths; input = [] }) content (Some []) refl are refl).files

  -- a session began
  pub opened : (s : Session) (before after : Option (List ℕ)) (stands : List ℕ) (number : ℕ) (was now : Option Session) → was ≡ None → now ≡ Some s → number ≡ code_of Done → stands ≡ []
      → ((file : ℕ → List ℕ) → AreFiles given_limits (form_of list) content file → Begins given_limits (form_of list) file (Ok s) before after)
      → IsBeginning limits words contents lengths room was now number stands
  opened s before after stands number was now none is number_is silent begins =
      let begun = subst (λ (g : Limits). (file : ℕ → List ℕ) → AreFiles g (form_of list) content file → Begins g (form_of list) file (Ok s) before after) held begins in
      subst (λ (w : Option Session). IsBeginning limits words contents lengths room w now number stands) (sym none)
      (inr (inl (record {
        call = call;
        session = s;
        stays = is;
        begun = subst (λ (l : List (List ℕ)). Begins limits (form_of l) (content_at contents lengths) (Ok s) before after) same (begun (content_at contents lengths) told);
        number_is = number_is;
        silent = silent;
      })))

  refused_so : (status : Status) (now_most : ℕ) (bytes stands : List ℕ) (number : ℕ) (now : Option Session) → now ≡ None → IsDelivered bytes stands room number status → status ≢ ReadFault
      → (status ≡ WriteFault → length bytes ≡ now_most)
      → Begins limits (form_of list) (content_at contents lengths) (Err status) (Some ((room + 1) ∷ [])) (Some (now_most ∷ bytes))
      → IsBeginning limits words contents lengths room None now number stands
  refused_so status now_most bytes stands number now none d read full (inl (reply, not, ends)) =
      ⊎_elim
      (λ (held : IsHeld reply status (room + 1) bytes). inr (inr (record {
        call = call;
        none = none;
        reply = reply;
        stated = subst (λ (l : List (List ℕ)). IsNotBegun limits (form_of l) (content_at contents lengths) reply) same not;
        given = given reply bytes stands room number status d held;
      })))
      (λ (empty : IsEmpty status bytes). let n = given_nothing status bytes stands room number d empty in inl (inr (n.0, none, n.1)))
      (held_by_reply now_most (room + 1) bytes reply status read full ends)
  refused_so status now_most bytes stands number now none d read full (inr (inl failed, unwritten)) = absurd (read failed)
  refused_so status now_most bytes stands number now none d read full (inr (inr starved, unwritten)) =
      let n = given_nothing status bytes stands room number d (starved, same_bytes now_most (room + 1) bytes [] unwritten) in inl (inr (n.0, none, n.1))

  -- none did
  pub refused : (status : Status) (before after : Option (List ℕ)) (now_most : ℕ) (bytes stands : List ℕ) (number : ℕ) (was now : Option Session) → was ≡ None → now ≡ None
      → before ≡ Some ((room + 1) ∷ []) → after ≡ Some (now_most ∷ bytes) → IsDelivered bytes stands room number status → status ≢ ReadFault
      → (status ≡ WriteFault → length bytes ≡ now_most)
      → ((file : ℕ → List ℕ) → AreFiles given_limits (form_of list) content file → Begins given_limits (form_of list) file (Err status) before after)
      → IsBeginning limits words contents lengths room was now number stands
  refused status before after now_most bytes stands number was now none none_now start end d read full begins =
      let begun = subst (λ (g : Limits). (file : ℕ → List ℕ) → AreFiles g (form_of list) content file → Begins g (form_of list) file (Err status) before after) held begins in
      subst (λ (w : Option Session). IsBeginning limits words contents lengths room w now number stands) (sym none)
      (refused_so status now_most bytes stands number now none_now d read full
      (subst (λ (b : Option (List ℕ)). Begins limits (form_of list) (content_at contents lengths) (Err status) b (Some (now_most ∷ bytes))) start
      (subst (λ (a : Option (List ℕ)). Begins limits (form_of list) (content_at contents lengths) (Err status) before a) end (begun (content_at contents lengths) told))))

-- where the lengths aren't those of the words and the contents, the blocks are no call
pub no_call : {A : Type 0} (words contents lengths : List ℕ) (list : List (String A)) (count : ℕ) → map string_bytes list ≡ words_in words → count ≡ length list
    → (AreLengths count contents lengths → ⊥) → IsCall words contents lengths → ⊥
no_call words contents lengths list count same counted wrong call = wrong (record {
  one_each = call.lengths.one_each ∙ sym (counted ∙ (sym (length-map list string_bytes) ∙ ap (λ (ws : List (List ℕ)). length ws) same));
  all = call.lengths.all;
})

-- a begin that leaves all as it was
pub begun_already : (limits : Limits) (words contents lengths stands : List ℕ) (room number : ℕ) (s : Session) (was now : Option Session) → was ≡ Some s → now ≡ Some s → number ≡ out_of_turn → stands ≡ []
    → IsBeginning limits words contents lengths room was now number stands
begun_already limits words contents lengths stands room number s was now some same number_is silent =
    subst (λ (w : Option Session). IsBeginning limits words contents lengths room w now number stands) (sym some) (number_is, same, silent)

pub begun_malformed : (limits : Limits) (words contents lengths stands : List ℕ) (room number : ℕ) (was now : Option Session) → was ≡ None → now ≡ None → (IsCall words contents lengths → ⊥) → number ≡ malformed → stands ≡ []
    → IsBeginning limits words contents lengths room was now number stands
begun_malformed limits words contents lengths stands room number was now none none_now wrong number_is silent =
    subst (λ (w : Option Session). IsBeginning limits words contents lengths room w now number stands) (sym none) (inl (inl (wrong, (number_is, none_now, silent))))

pub begun_starved : (limits : Limits) (words contents lengths stands : List ℕ) (room number : ℕ) (was now : Option Session) → was ≡ None → now ≡ None → number ≡ code_of NoMemory → stands ≡ []
    → IsBeginning limits words contents lengths room was now number stands
begun_starved limits words contents lengths stands room number was now none none_now number_is silent =
    subst (λ (w : Option Session). IsBeginning limits words contents lengths room w now number stands) (sym none) (inl (inr (number_is, none_now, silent)))

-- a line of no session, one that found no memory, and one that was done
module _ (line stands : List ℕ) (room number : ℕ) (was now : Option Session) where
  pub line_unbegun : was ≡ None → now ≡ None → number ≡ out_of_turn → stands ≡ [] → IsLineAnswered line room was now number stands
  line_unbegun none none_now number_is silent = subst (λ (w : Option Session). IsLineAnswered line room w now number stands) (sym none) (number_is, none_now, silent)

  pub line_starved : (s : Session) → was ≡ Some s → now ≡ Some s → number ≡ code_of NoMemory → stands ≡ [] → IsLineAnswered line room was now number stands
  line_starved s some same number_is silent = subst (λ (w : Option Session). IsLineAnswered line room w now number stands) (sym some) (inl (number_is, same, silent))

  pub line_done : (s after : Session) (status : Status) (before_bytes after_bytes : Option (List ℕ)) (now_most : ℕ) (bytes : List ℕ) → was ≡ Some s → now ≡ Some after
      → after.offered ≡ s.offered → after.tables ≡ line_case s.offered s.tables line
      → before_bytes ≡ Some ((room + 1) ∷ []) → after_bytes ≡ Some (now_most ∷ bytes) → IsDelivered bytes stands room number status → status ≢ ReadFault → status ≢ NoMemory
      → (status ≡ WriteFault → length bytes ≡ now_most)
      → EndsWith (line_reply s.offered s.tables line) status before_bytes after_bytes
      → IsLineAnswered line room was now number stands
  line_done s after status before_bytes after_bytes now_most bytes some same offered tables start end d read memory full ends =
      let reply = line_reply s.offered s.tables line in
      subst (λ (w : Option Session). IsLineAnswered line room w now number stands) (sym some)
      (⊎_elim
      (λ (held : IsHeld reply status (room + 1) bytes). inr (record { session = after; stays = same; offered = offered; tables = tables; given = given reply bytes stands room number status d held }))
      (λ (empty : IsEmpty status bytes). absurd (memory empty.0))
      (held_by_reply now_most (room + 1) bytes reply status read full
      (subst (λ (b : Option (List ℕ)). EndsWith reply status b (Some (now_most ∷ bytes))) start (subst (λ (a : Option (List ℕ)). EndsWith reply status before_bytes a) end ends))))
