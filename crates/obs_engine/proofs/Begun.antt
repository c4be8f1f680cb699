-- A session that begins, or that finds no memory.
use Rattle.std.proofs.Common.{ℕ, ◌≡◌, ◌⊎◌, Bool, inl, inr, refl, subst, arith, List, Option}
use Rattle.obs_case.specs.Tables.{Tables}
use Rattle.obs_files.specs.declared.status.Status.{Status}
use Rattle.obs_files.specs.declared.status.Status.TheVariants.{Done, Short, NoMemory}
use Rattle.obs_engine.specs.declared.tasks.Task.{Task}
use Rattle.obs_engine.specs.declared.tasks.Task.TheVariants.{Answer, Lines, Trial}
use Rattle.obs_engine.specs.Asks.{ask_reply}
use Rattle.obs_engine.specs.Replies.{Reply}
use Rattle.obs_engine.specs.inner.Replies.{RepliedAt}
use Rattle.obs_engine.specs.inner.Sessions.{SessionAt}
use Rattle.obs_engine.specs.inner.Tasks.{IsTaskDone}
use Rattle.obs_engine.specs.Trials.{IsTrialReply, dips_of, trial_reply}
use Rattle.obs_engine.proofs.Endings.{replied_memory}
use Rattle.obs_engine.proofs.Turned.{dips_few}

pub no_memory : {most : ℕ} {o : Bool} {t : Tables} {left : Option (List ℕ)} {i : ℕ} {is_steady : Type 0} {a : Option (List ℕ)} {f : ℕ} {room : ℕ → Type 0} → SessionAt most o t left left i i is_steady a a f f room NoMemory
no_memory = record {
  ends = λ input is. inr (inr (inr (refl, refl)));
  taken = λ input is. record {
    count = 0;
    rest = is;
    within = omega arith;
    bound = omega arith;
    all = λ s. absurd (no s);
    too_long = λ s. absurd cc;
    refused = λ s. absurd cc;
  };
  statuses = inr (inr (inr refl));
  read = λ s. absurd cc;
  write = λ s. absurd cc;
  quiet_input = λ n. refl;
  quiet_output = λ n. refl;
  memory = λ s. refl;
  memory_input = λ s. refl;
  steady = λ s n. absurd cc;
  room = λ input rest is has s. absurd cc;
}
  where
    no : (NoMemory ≡ Done) ⊎ (NoMemory ≡ Short) → ⊥
    no (inl s) = absurd cc
    no (inr s) = absurd cc

pub begun : {most : ℕ} {o p : Bool} {t u : Tables} {left left_now : Option (List ℕ)} {i j : ℕ} {is_steady : Type 0} {a b : Option (List ℕ)} {f k : ℕ} {room : ℕ → Type 0} {status : Status} → o ≡ p → t ≡ u
    → SessionAt most o t left left_now i j is_steady a b f k room status → SessionAt most p u left left_now i j is_steady a b f k room status
begun {most = most} {p = p} {t = t} {left = left} {left_now = left_now} {i = i} {j = j} {is_steady = is_steady} {a = a} {b = b} {f = f} {k = k} {room = room} {status = status} o t_is ran =
    subst (λ (x : Tables). SessionAt most p x left left_now i j is_steady a b f k room status) t_is (subst (λ (x : Bool). SessionAt most x t left left_now i j is_steady a b f k room status) o ran)

module _ {S W : Type 0} (left : S → Option (List ℕ)) (input_faults : S → ℕ) (steady : S → Type 0) (written : W → Option (List ℕ)) (faults : W → ℕ) (has_room : W → ℕ → Type 0) where
  -- a session found no memory
  pub task_without_memory : (task : Task) (o : Bool) (t : Tables) (input : S) (output : W) → IsTaskDone left input_faults steady written faults has_room task o t input input output output NoMemory
  task_without_memory (Answer ask) o t input output = (refl, replied_memory (ask_reply ask t))
  task_without_memory (Lines most) o t input output = no_memory
  task_without_memory (Trial rows seed) o t input output =
      let reply = trial_reply rows seed t (dips_of t) in
      (refl, (reply, (dips_of t, omega arith, dips_few t, refl), replied_memory reply))

  -- it began with this case, with candidates or without
  pub task_begun : (task : Task) (o p : Bool) (t u : Tables) (input input_now : S) (output output_now : W) (status : Status) → o ≡ p → t ≡ u
      → IsTaskDone left input_faults steady written faults has_room task o t input input_now output output_now status
      → IsTaskDone left input_faults steady written faults has_room task p u input input_now output output_now status
  task_begun (Answer ask) o p t u input input_now output output_now status o_is t_is done =
      (done.0, subst (λ (x : Tables). RepliedAt (written output) (written output_now) (faults output) (faults output_now) (has_room output) status (ask_reply ask x)) t_is done.1)
  task_begun (Lines most) o p t u input input_now output output_now status o_is t_is done = begun o_is t_is done
  task_begun (Trial rows seed) o p t u input input_now output output_now status o_is t_is done =
      subst (λ (x : Tables). (input_now ≡ input)
      × ((reply : Reply) × IsTrialReply rows seed x reply
      × RepliedAt (written output) (written output_now) (faults output) (faults output_now) (has_room output) status reply)) t_is done
