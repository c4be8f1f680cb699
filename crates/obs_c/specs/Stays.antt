-- How a session that stays between calls begins, and what one line does to it.
use Rattle.std.specs.Prelude.{ℕ, ◌≡◌, ◌⊎◌, List, [], Option, None, Some}
use Rattle.obs_io.specs.Contents.{content_at}
use Rattle.obs_edit.specs.Sessions.{Session}
use Rattle.obs_files.specs.declared.status.Status.TheVariants.{Done, NoMemory}
use Rattle.obs_files.specs.Codes.{code_of}
use Rattle.obs_engine.specs.Lines.{line_case}
use Rattle.obs_engine.specs.Replies.{Reply}
use Rattle.obs_engine.specs.Stays.{IsBegun, IsNotBegun, line_reply}
use Rattle.obs_files.specs.Limits.{Limits}
use Rattle.obs_files.specs.Words.{form_of}
use Rattle.obs_c.specs.Blocks.{IsCall, malformed, words_in}
use Rattle.obs_c.specs.Calls.{IsGiven}

-- the number that is answered where a session has begun already, and where none has whose line is to be answered
abbrev pub out_of_turn : ℕ
out_of_turn = 9

-- nothing is done and nothing written, and this is answered
abbrev pub IsLeft : Option Session → Option Session → ℕ → List ℕ → ℕ → Type 0
IsLeft before after number bytes answer = (number ≡ answer) × (after ≡ before) × (bytes ≡ [])

-- a session began with the case of these files, and stays; nothing is written
pub record IsOpened (limits : Limits) (words contents lengths : List ℕ) (after : Option Session) (number : ℕ) (bytes : List ℕ) : Type 0 where
  pub call : IsCall words contents lengths
  pub session : Session
  pub stays : after ≡ Some session
  pub begun : IsBegun limits (form_of (words_in words)) (content_at contents lengths) session.offered session.tables
  pub number_is : number ≡ code_of Done
  pub silent : bytes ≡ []

-- the words are no session's, or the files no case: none stays, and the reply to them is given
pub record IsTurnedAway (limits : Limits) (words contents lengths : List ℕ) (room : ℕ) (after : Option Session) (number : ℕ) (bytes : List ℕ) : Type 0 where
  pub call : IsCall words contents lengths
  pub none : after ≡ None
  pub reply : Reply
  pub stated : IsNotBegun limits (form_of (words_in words)) (content_at contents lengths) reply
  pub given : IsGiven reply room number bytes

-- how a begin within these limits ends: where a session stays it is left as it is, and where there is none and the blocks are no call, or there is no
-- memory, none stays
abbrev pub IsBeginning : Limits → List ℕ → List ℕ → List ℕ → ℕ → Option Session → Option Session → ℕ → List ℕ → Type 0
IsBeginning limits words contents lengths room (Some s) after number bytes = IsLeft (Some s) after number bytes out_of_turn
IsBeginning limits words contents lengths room None after number bytes =
    (((IsCall words contents lengths → ⊥) × IsLeft None after number bytes malformed) ⊎ IsLeft None after number bytes (code_of NoMemory))
    ⊎ (IsOpened limits words contents lengths after number bytes ⊎ IsTurnedAway limits words contents lengths room after number bytes)

-- a line was done: the session behind it has the case behind the line, and the line's reply is given
pub record IsLineDone (line : List ℕ) (room : ℕ) (s : Session) (after : Option Session) (number : ℕ) (bytes : List ℕ) : Type 0 where
  pub session : Session
  pub stays : after ≡ Some session
  pub offered : session.offered ≡ s.offered
  pub tables : session.tables ≡ line_case s.offered s.tables line
  pub given : IsGiven (line_reply s.offered s.tables line) room number bytes

-- what one line does: nothing where there is no session, and nothing for want of memory
abbrev pub IsLineAnswered : List ℕ → ℕ → Option Session → Option Session → ℕ → List ℕ → Type 0
IsLineAnswered line room None after number bytes = IsLeft None after number bytes out_of_turn
IsLineAnswered line room (Some s) after number bytes = IsLeft (Some s) after number bytes (code_of NoMemory) ⊎ IsLineDone line room s after number bytes
