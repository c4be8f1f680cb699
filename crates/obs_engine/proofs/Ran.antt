-- What is said of a run, for the form of the words, for words that have none, and for the usual limits.
use Rattle.std.proofs.Common.{ℕ, ◌≡◌, ◌⊎◌, inl, inr, refl, subst, sym, List, Option, None, Result}
use Rattle.obs_edit.specs.Sessions.{Session as Kept}
use Rattle.obs_files.specs.declared.status.Status.{Status}
use Rattle.obs_files.specs.declared.status.Status.TheVariants.{NoMemory, Usage, WriteFault}
use Rattle.obs_files.specs.declared.words.Form.{Form}
use Rattle.obs_files.specs.Limits.{Limits}
use Rattle.obs_files.specs.Outside.{AreFiles, ReadFailed}
use Rattle.obs_engine.specs.Forms.{AnyReadFailed}
use Rattle.obs_engine.specs.Replies.{Reply, usage_reply}
use Rattle.obs_engine.specs.inner.Replies.{RepliedAt}
use Rattle.obs_engine.specs.Runs.{RanAt}
use Rattle.obs_engine.specs.Sessions.{IsTakenFront}
use Rattle.obs_engine.specs.Stated.{Tells, Told}
use Rattle.obs_engine.specs.Stays.{IsNotBegun}
use Rattle.obs_engine.specs.inner.Stays.{Begins}
use Rattle.obs_engine.proofs.Endings.{usage_complete, usage_ends}

pub ran_at : {content : ℕ → Option (List ℕ)} {faults_before faults_now : ℕ → ℕ} {files_steady : ℕ → Type 0} {left left_now : Option (List ℕ)} {i j : ℕ} {is_steady : Type 0}
    {a b : Option (List ℕ)} {f k : ℕ} {room : ℕ → Type 0} {status : Status} {limits : Limits} (form other : Option Form) → other ≡ form
    → RanAt limits other content faults_before faults_now files_steady left left_now i j is_steady a b f k room status
    → RanAt limits form content faults_before faults_now files_steady left left_now i j is_steady a b f k room status
ran_at {content = content} {faults_before = faults_before} {faults_now = faults_now} {files_steady = files_steady} {left = left} {left_now = left_now} {i = i} {j = j} {is_steady = is_steady}
    {a = a} {b = b} {f = f} {k = k} {room = room} {status = status} {limits = limits} form other here ran =
    subst (λ (o : Option Form). RanAt limits o content faults_before faults_now files_steady left left_now i j is_steady a b f k room status) here ran

-- words that have no form
pub usage_ran : {content : ℕ → Option (List ℕ)} {faults : ℕ → ℕ} {files_steady : ℕ → Type 0} {left : Option (List ℕ)} {i : ℕ} {is_steady : Type 0}
    {a b : Option (List ℕ)} {f k : ℕ} {room : ℕ → Type 0} {status : Status} {limits : Limits} → (status ≡ Usage) ⊎ (status ≡ WriteFault) → RepliedAt a b f k room status usage_reply
    → RanAt limits None content faults faults files_steady left left i i is_steady a b f k room status
usage_ran {left = left} {a = a} {b = b} {status = status} statuses replied = record {
  stated = λ told tells. usage_ends None told left status a b refl replied.ends;
  complete = λ told tells files input has. usage_complete None told refl has replied;
  statuses = statuses;
  read = λ e. absurd (replied.reads e);
  write = replied.write;
  quiet_files = λ n w. refl;
  quiet_input = λ n. refl;
  quiet_output = replied.quiet;
  memory = λ e. absurd (known statuses e);
  memory_input = λ e. refl;
  taken = λ takes. absurd takes;
}
  where
    known : (status ≡ Usage) ⊎ (status ≡ WriteFault) → status ≡ NoMemory → ⊥
    known (inl s) e = absurd cc
    known (inr s) e = absurd cc

-- the same under limits that are these
module _ (limits these : Limits) (same : limits ≡ these) (form : Option Form) where
  pub tells_as : (content : ℕ → Option (List ℕ)) (left : Option (List ℕ)) (told : Told) → Tells these form content left told → Tells limits form content left told
  tells_as content left told tells = subst (λ (l : Limits). Tells l form content left told) (sym same) tells

  pub failed_as : (content : ℕ → Option (List ℕ)) (before now : ℕ → ℕ) (left left_now : Option (List ℕ)) (i j : ℕ) (a b : Option (List ℕ))
      → AnyReadFailed limits form content before now left left_now i j a b → AnyReadFailed these form content before now left left_now i j a b
  failed_as content before now left left_now i j a b failed = subst (λ (l : Limits). AnyReadFailed l form content before now left left_now i j a b) same failed

  pub front_as : (input : List ℕ) (left : Option (List ℕ)) (status : Status) → IsTakenFront limits.bytes input left status → IsTakenFront these.bytes input left status
  front_as input left status front = subst (λ (l : Limits). IsTakenFront l.bytes input left status) same front

  pub files_as : (content : ℕ → Option (List ℕ)) (file : ℕ → List ℕ) → AreFiles these form content file → AreFiles limits form content file
  files_as content file are = subst (λ (l : Limits). AreFiles l form content file) (sym same) are

  pub begins_as : (file : ℕ → List ℕ) (result : Result Kept Status) (a b : Option (List ℕ)) → Begins limits form file result a b → Begins these form file result a b
  begins_as file result a b begins = subst (λ (l : Limits). Begins l form file result a b) same begins

  pub none_as : (file : ℕ → List ℕ) (reply : Reply) → IsNotBegun these form file reply → IsNotBegun limits form file reply
  none_as file reply none = subst (λ (l : Limits). IsNotBegun l form file reply) (sym same) none

  pub unread_as : (words : List ℕ) (content : ℕ → Option (List ℕ)) (before now : ℕ → ℕ) → ReadFailed limits words content before now → ReadFailed these words content before now
  unread_as words content before now failed = subst (λ (l : Limits). ReadFailed l words content before now) same failed
