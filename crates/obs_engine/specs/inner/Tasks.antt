-- What a session is begun for, and how that ends.
use Rattle.std.specs.Prelude.{ℕ, ◌≡◌, Bool, List, Option}
use Rattle.obs_case.specs.Tables.{Tables}
use Rattle.obs_files.specs.declared.status.Status.{Status}
use Rattle.obs_engine.specs.declared.tasks.Task.{Task}
use Rattle.obs_engine.specs.declared.tasks.Task.TheVariants.{Answer, Lines, Trial}
use Rattle.obs_engine.specs.Asks.{ask_reply}
use Rattle.obs_engine.specs.Replies.{Reply}
use Rattle.obs_engine.specs.inner.Replies.{RepliedAt}
use Rattle.obs_engine.specs.inner.Sessions.{SessionAt}
use Rattle.obs_engine.specs.Trials.{IsTrialReply}

-- a task was done for a case: an ask was answered, and the input is as it was; or the lines of the input were answered, which may
-- have so many bytes; or
-- there was a reply to a trial, and the input is as it was
abbrev pub IsTaskDone : {S W : Type 0} → (S → Option (List ℕ)) → (S → ℕ) → (S → Type 0) → (W → Option (List ℕ)) → (W → ℕ) → (W → ℕ → Type 0)
    → Task → Bool → Tables → S → S → W → W → Status → Type 0
IsTaskDone left input_faults steady written faults has_room (Answer ask) offered t input_before input_now before now status =
    (input_now ≡ input_before) × RepliedAt (written before) (written now) (faults before) (faults now) (has_room before) status (ask_reply ask t)
IsTaskDone left input_faults steady written faults has_room (Lines most) offered t input_before input_now before now status =
    SessionAt most offered t (left input_before) (left input_now) (input_faults input_before) (input_faults input_now) (steady input_before)
    (written before) (written now) (faults before) (faults now) (has_room before) status
IsTaskDone left input_faults steady written faults has_room (Trial rows seed) offered t input_before input_now before now status =
    (input_now ≡ input_before)
    × ((reply : Reply) × IsTrialReply rows seed t reply
    × RepliedAt (written before) (written now) (faults before) (faults now) (has_room before) status reply)
