-- A session in the middle of its input, and the ways in which it ends.
use Rattle.std.proofs.Common.{ℕ, ◌≡◌, ◌∙◌, ◌+◌, ◌-◌, ◌<◌, ◌≤◌, ◌⊎◌, Bool, inl, inr, refl, sym, ap, subst, List, [], ◌++◌, length, take, drop, Option, Some, None, Result, Ok, Err, arith}
use Rattle.std.specs.Prelude.{IsOk, min}
use Rattle.std.proofs.lemmas.Bool.{le-ltb, lt-ltb}
use Rattle.std.proofs.lemmas.List.{append-nil, drop-drop, length-drop, take-take, take_all}
use Rattle.std.proofs.Math.Seq.{take-add}
use Rattle.obs_case.specs.Tables.{Tables}
use Rattle.obs_io.specs.Bytes.{IsPiece, TakesFront, Wrote, WrotePart}
use Rattle.obs_io.specs.Causes.{HasCause, Rose}
use Rattle.obs_io.specs.declared.outside.Failed.{Failed}
use Rattle.obs_report.specs.inner.Printed.{AppendsAt}
use Rattle.obs_report.proofs.Printing.{failed_call, then_call}
use Rattle.obs_script.specs.Gathered.{content_of}
use Rattle.obs_script.specs.inner.Gathered.{Holds}
use Rattle.obs_files.specs.declared.status.Status.{Status}
use Rattle.obs_files.specs.declared.status.Status.TheVariants.{Done, Short, InputFault, ReadFault, WriteFault, SessionTooLong}
use Rattle.obs_engine.specs.Asks.{report_status}
use Rattle.obs_engine.specs.Lines.{ended_after, line_case, line_text, lines_case, lines_text}
use Rattle.obs_engine.specs.inner.Lines.{open_after}
use Rattle.obs_engine.specs.Replies.{Reply}
use Rattle.obs_engine.specs.Sessions.{IsTakenFront, answered_within, cut_reply, session_reply, taken_of, whole_reply}
use Rattle.obs_engine.specs.inner.Sessions.{SessionAt}
use Rattle.obs_engine.proofs.Folding.{IsFrontOf, case_goes_on, front_of_reply, is_cut, is_whole, open_parts, text_goes_on, whole_case, whole_text}
use Rattle.obs_engine.proofs.Replied.{IsVerdict, report_status-is, verdict_no_failure}

low_min : (n m : ℕ) → n ≤ m → min n m ≡ n
low_min n m low = omega (arith, low)

-- what was taken is the front before what is left
taken_is : (input : List ℕ) (n : ℕ) → n ≤ length input → taken_of input (Some (drop n input)) ≡ take n input
taken_is input n within =
    let e : length input - length (drop n input) ≡ n = omega (arith, length-drop n input, within) in ap (λ (k : ℕ). take k input) e

module _ (most : ℕ) (o : Bool) (t : Tables) (left : Option (List ℕ)) (i : ℕ) (is_steady : Type 0) (a : Option (List ℕ)) (f : ℕ) (room : ℕ → Type 0) where
  -- the text of the lines that these bytes end was printed, or a part of it
  abbrev pub PrintedTo : Option (List ℕ) → ℕ → (ℕ → Type 0) → Result (Unit {0}) Failed → List ℕ → Type 0
  PrintedTo b k room_now result bytes = AppendsAt a b f k room room_now result (lines_text o t (ended_after [] bytes))

  -- so many bytes were taken, and the lines are answered that end in them, as far as an input may have so many
  pub record Going (taken : ℕ) (left_now : Option (List ℕ)) (j : ℕ) (steady_now : Type 0) (b : Option (List ℕ)) (k : ℕ) (room_now : ℕ → Type 0)
      (held : List ℕ) (t_now : Tables) (o_now : Bool) : Type 0 where
    pub bound : taken ≤ most + 1
    pub offered : o_now ≡ o
    pub bytes : List ℕ
    pub told : (input : List ℕ) → left ≡ Some input
        → (left_now ≡ Some (drop taken input)) × (taken ≤ length input) × (bytes ≡ take (min taken most) input)
    pub quiet : j ≡ i
    pub calm : is_steady → steady_now
    pub holds : Holds held (open_after [] bytes)
    pub tables : t_now ≡ lines_case o t (ended_after [] bytes)
    pub printed : PrintedTo b k room_now (Ok tt) bytes

  -- a write failed: a front of the reply's text is written
  pub write_failed : {e : Failed} {left_now : Option (List ℕ)} {j : ℕ} {b : Option (List ℕ)} {k : ℕ} {room_now : ℕ → Type 0} {text : List ℕ}
      → AppendsAt {T = Unit {0}} a b f k room room_now (Err e) text → j ≡ i
      → ((input : List ℕ) → left ≡ Some input → IsFrontOf o t input text (session_reply most o t input).text)
      → ((input : List ℕ) → left ≡ Some input → IsTakenFront most input left_now WriteFault)
      → SessionAt most o t left left_now i j is_steady a b f k room WriteFault
  write_failed {e = e} {b = b} {k = k} {room_now = room_now} {text = text} call quiet front taken = record {
    ends = λ input is.
        let more = front input is in
        inr (inl (refl, subst (λ (x : List ℕ). WrotePart a b x) (sym more.1) (failed_call more.0 call).writes));
    taken = taken;
    statuses = inr (inr (inl refl));
    read = λ s. absurd cc;
    write = λ s. call.cause.failed;
    quiet_input = λ n. quiet;
    quiet_output = λ n. absurd (n refl);
    memory = λ s. absurd cc;
    memory_input = λ s. absurd cc;
    steady = λ s n. absurd cc;
    room = λ input rest is has s.
        let more = front input is in
        no ((failed_call more.0 call).fits rest (subst (λ (x : List ℕ). room (length x + rest)) more.1 has)).0;
  }
    where
      no : IsOk {T = Unit {0}} (Err e) → ⊥
      no ok = absurd cc

  module _ {taken : ℕ} {left_now : Option (List ℕ)} {j : ℕ} {steady_now : Type 0} {b : Option (List ℕ)} {k : ℕ} {room_now : ℕ → Type 0}
      {held : List ℕ} {t_now : Tables} {o_now : Bool} (g : Going taken left_now j steady_now b k room_now held t_now o_now) where
    -- more bytes than an input may have were taken
    pub too_long : most < taken → SessionAt most o t left left_now i j is_steady a b f k room SessionTooLong
    too_long long = record {
      ends = λ input is. inl (ap (λ (r : Reply). r.status) (sym (cut input is)), subst (λ (x : List ℕ). Wrote a b x) (same input is) g.printed.writes);
      taken = λ input is.
          let h = g.told input is in
          record { count = taken; rest = h.0; within = h.1; bound = g.bound; all = λ s. absurd (no s); too_long = λ s. all; refused = λ s. absurd cc };
      statuses = inl (inr (inr refl));
      read = λ s. absurd cc;
      write = λ s. absurd cc;
      quiet_input = λ n. g.quiet;
      quiet_output = λ n. g.printed.quiet refl;
      memory = λ s. absurd cc;
      memory_input = λ s. absurd cc;
      steady = λ s n. absurd cc;
      room = λ input rest is has s. absurd cc;
    }
      where
        all : taken ≡ most + 1
        all = (let m = g.bound in omega (arith, m, long))

        no : (SessionTooLong ≡ Done) ⊎ (SessionTooLong ≡ Short) → ⊥
        no (inl s) = absurd cc
        no (inr s) = absurd cc

        cut : (input : List ℕ) → left ≡ Some input → session_reply most o t input ≡ cut_reply most o t input
        cut input is = (let within = (g.told input is).1 in is_cut o t input most (lt-ltb most (length input) (omega (arith, within, long))))

        same : (input : List ℕ) → left ≡ Some input → lines_text o t (ended_after [] g.bytes) ≡ (session_reply most o t input).text
        same input is =
            let m : min taken most ≡ most = omega (arith, long) in
            ap (λ (bs : List ℕ). lines_text o t (ended_after [] bs)) ((g.told input is).2 ∙ ap (λ (n : ℕ). take n input) m)
            ∙ ap (λ (r : Reply). r.text) (sym (cut input is))

    module _ (low : taken ≤ most) where
      -- the bytes so far are what was taken
      bytes_are : (input : List ℕ) → left ≡ Some input → g.bytes ≡ take taken input
      bytes_are input is = (g.told input is).2 ∙ ap (λ (n : ℕ). take n input) (low_min taken most low)

      -- a read of the input failed
      pub read_failed : {left_next : Option (List ℕ)} {j_next : ℕ} (e : Failed) (piece : List ℕ) → TakesFront {E = Failed} left_now left_next (Err e) piece
          → HasCause {T = ℕ} {E = Failed} j j_next (Err e) → (steady_now → IsOk {T = ℕ} {E = Failed} (Err e)) → SessionAt most o t left left_next i j_next is_steady a b f k room ReadFault
      read_failed {left_next = left_next} {j_next = j_next} e piece takes cause succeeds = record {
        ends = λ input is. inr (inr (inl (refl, subst (λ (x : List ℕ). Wrote a b x) (same input is) g.printed.writes)));
        taken = λ input is.
            let h = g.told input is in
            record { count = taken; rest = stays input is; within = h.1; bound = g.bound; all = λ s. absurd (no s); too_long = λ s. absurd cc; refused = λ s. absurd cc };
        statuses = inr (inl refl);
        read = λ s. subst (λ (n : ℕ). Rose n j_next) g.quiet cause.failed;
        write = λ s. absurd cc;
        quiet_input = λ n. absurd (n refl);
        quiet_output = λ n. g.printed.quiet refl;
        memory = λ s. absurd cc;
        memory_input = λ s. absurd cc;
        steady = λ s n. failed (succeeds (g.calm s));
        room = λ input rest is has s. absurd cc;
      }
        where
          no : (ReadFault ≡ Done) ⊎ (ReadFault ≡ Short) → ⊥
          no (inl s) = absurd cc
          no (inr s) = absurd cc

          failed : IsOk {T = ℕ} {E = Failed} (Err e) → ⊥
          failed ok = absurd cc

          kept : (l : Option (List ℕ)) (rest : List ℕ) → l ≡ Some rest → TakesFront {E = Failed} l left_next (Err e) piece → left_next ≡ Some rest
          kept None rest is h = absurd (cc is)
          kept (Some x) rest is h = h ∙ is

          stays : (input : List ℕ) → left ≡ Some input → left_next ≡ Some (drop taken input)
          stays input is = kept left_now (drop taken input) (g.told input is).0 takes

          same : (input : List ℕ) → left ≡ Some input → lines_text o t (ended_after [] g.bytes) ≡ answered_within o t input left_next
          same input is =
              ap (λ (bs : List ℕ). lines_text o t (ended_after [] bs))
              (bytes_are input is ∙ (sym (taken_is input taken (g.told input is).1) ∙ ap (λ (l : Option (List ℕ)). taken_of input l) (sym (stays input is))))

      -- a piece of the input was taken
      module _ (left_next : Option (List ℕ)) {j_next : ℕ} (n : ℕ) (piece : List ℕ) (takes : TakesFront {E = Failed} left_now left_next (Ok n) piece) (still : j_next ≡ j) where
        taken_front : (l : Option (List ℕ)) (rest : List ℕ) → l ≡ Some rest → TakesFront {E = Failed} l left_next (Ok n) piece → IsPiece rest 0 n piece × (left_next ≡ Some (drop n rest))
        taken_front None rest is h = absurd (cc is)
        taken_front (Some x) rest is h =
            subst (λ (y : List ℕ). IsPiece y 0 n piece × (left_next ≡ Some (drop n y))) (let same : x ≡ rest = cc is in same) h

        here : (input : List ℕ) → left ≡ Some input → IsPiece (drop taken input) 0 n piece × (left_next ≡ Some (drop n (drop taken input)))
        here input is = taken_front left_now (drop taken input) (g.told input is).0 takes

        next_left : (input : List ℕ) → left ≡ Some input → left_next ≡ Some (drop (taken + n) input)
        next_left input is = (here input is).1 ∙ ap Some (drop-drop n taken input)

        next_within : (input : List ℕ) → left ≡ Some input → taken + n ≤ length input
        next_within input is =
            let p = (here input is).0.within in
            let within = (g.told input is).1 in
            omega (arith, p, within, length-drop taken input)

        -- nothing is left where it has no byte
        all_taken : n ≡ 0 → (input : List ℕ) → left ≡ Some input → taken ≡ length input
        all_taken none input is =
            let p = (here input is).0.at_end none in
            let within = (g.told input is).1 in
            omega (arith, p, within, length-drop taken input)

        whole_input : n ≡ 0 → (input : List ℕ) → left ≡ Some input → g.bytes ≡ input
        whole_input none input is = bytes_are input is ∙ take_all taken input (let e = all_taken none input is in omega (arith, e))

        whole_is : n ≡ 0 → (input : List ℕ) → left ≡ Some input → session_reply most o t input ≡ whole_reply o t input
        whole_is none input is = is_whole o t input most (let e = all_taken none input is in le-ltb most (length input) (omega (arith, e, low)))

        -- how much was taken, where a write failed then
        failed_front : taken + n ≤ most + 1 → (input : List ℕ) → left ≡ Some input → IsTakenFront most input left_next WriteFault
        failed_front bound input is = record {
          count = taken + n;
          rest = next_left input is;
          within = next_within input is;
          bound = bound;
          all = λ s. absurd (no s);
          too_long = λ s. absurd cc;
          refused = λ s. absurd cc;
        }
          where
            no : (WriteFault ≡ Done) ⊎ (WriteFault ≡ Short) → ⊥
            no (inl s) = absurd cc
            no (inr s) = absurd cc

        -- the last line, which is answered where nothing is left, and all text with its answer
        abbrev last_line : List ℕ
        last_line = content_of (open_after [] g.bytes)

        abbrev last_text : List ℕ
        last_text = lines_text o t (ended_after [] g.bytes) ++ line_text o (lines_case o t (ended_after [] g.bytes)) last_line

        last_of : n ≡ 0 → (input : List ℕ) → left ≡ Some input → last_text ≡ (session_reply most o t input).text
        last_of none input is =
            ap (λ (bs : List ℕ). lines_text o t (ended_after [] bs) ++ line_text o (lines_case o t (ended_after [] bs)) (content_of (open_after [] bs))) (whole_input none input is)
            ∙ (sym (whole_text o t input) ∙ ap (λ (r : Reply). r.text) (sym (whole_is none input is)))

        -- the last line was answered, or that failed
        module _ (none : n ≡ 0) {b_next : Option (List ℕ)} {k_next : ℕ} {room_next : ℕ → Type 0} where
          answered : {r : Result (Unit {0}) Failed} → AppendsAt b b_next k k_next room_now room_next r (line_text o_now t_now last_line) → AppendsAt a b_next f k_next room room_next r last_text
          answered {r = r} call =
              then_call g.printed
              (subst (λ (x : List ℕ). AppendsAt b b_next k k_next room_now room_next r x)
              (ap (λ (x : Bool). line_text x t_now last_line) g.offered ∙ ap (λ (u : Tables). line_text o u last_line) g.tables) call)

          pub ends_well : {t_next : Tables} {status : Status} → AppendsAt {T = Unit {0}} {E = Failed} b b_next k k_next room_now room_next (Ok tt) (line_text o_now t_now last_line)
              → t_next ≡ line_case o_now t_now last_line → status ≡ report_status t_next → SessionAt most o t left left_next i j_next is_steady a b_next f k_next room status
          ends_well {t_next = t_next} {status = status} call case told = record {
            ends = λ input is. inl (right input is, subst (λ (x : List ℕ). Wrote a b_next x) (last_of none input is) (answered call).writes);
            taken = λ input is. record {
              count = taken + n;
              rest = next_left input is;
              within = next_within input is;
              bound = omega (arith, none, low);
              all = λ s. (let e = all_taken none input is in omega (arith, e, none));
              too_long = λ s. absurd (long verdict s);
              refused = λ s. absurd (refuses verdict s);
            };
            statuses = inl (elim verdict [ inl s ↦ inl s | inr s ↦ inr (inl s) ]);
            read = λ s. absurd (verdict_no_failure status verdict (inl s));
            write = λ s. absurd (verdict_no_failure status verdict (inr (inl s)));
            quiet_input = λ s. still ∙ g.quiet;
            quiet_output = λ s. (answered call).quiet refl;
            memory = λ s. absurd (verdict_no_failure status verdict (inr (inr s)));
            memory_input = λ s. absurd (verdict_no_failure status verdict (inr (inr s)));
            steady = λ s e. verdict_no_failure status verdict (inl e);
            room = λ input rest is has e. verdict_no_failure status verdict (inr (inl e));
          }
            where
              verdict : IsVerdict status
              verdict = subst (λ (s : Status). IsVerdict s) (sym told) (report_status-is t_next)

              long : IsVerdict status → status ≡ SessionTooLong → ⊥
              long (inl s) e = absurd cc
              long (inr s) e = absurd cc

              refuses : IsVerdict status → status ≡ InputFault → ⊥
              refuses (inl s) e = absurd cc
              refuses (inr s) e = absurd cc

              case_is : t_next ≡ line_case o (lines_case o t (ended_after [] g.bytes)) last_line
              case_is = case ∙ (ap (λ (x : Bool). line_case x t_now last_line) g.offered ∙ ap (λ (u : Tables). line_case o u last_line) g.tables)

              right : (input : List ℕ) → left ≡ Some input → status ≡ (session_reply most o t input).status
              right input is =
                  told
                  ∙ (ap (λ (u : Tables). report_status u)
                  (case_is
                  ∙ (ap (λ (bs : List ℕ). line_case o (lines_case o t (ended_after [] bs)) (content_of (open_after [] bs))) (whole_input none input is) ∙ sym (whole_case o t input)))
                  ∙ ap (λ (r : Reply). r.status) (sym (whole_is none input is)))

          pub ends_badly : {e : Failed} → AppendsAt {T = Unit {0}} b b_next k k_next room_now room_next (Err e) (line_text o_now t_now last_line)
              → SessionAt most o t left left_next i j_next is_steady a b_next f k_next room WriteFault
          ends_badly call =
              write_failed (answered call) (still ∙ g.quiet) (λ input is. ([], sym (last_of none input is) ∙ sym (append-nil last_text)))
              (λ input is. failed_front (omega (arith, none, low)) input is)

        -- the lines were answered that it ends, or that failed; one byte more than an input may have isn't among its bytes
        module _ (kept : ℕ) (few : kept ≡ min n (most - taken)) (bound : taken + n ≤ most + 1) (more : List ℕ) (slice : more ≡ take kept piece) where
          more_are : (input : List ℕ) → left ≡ Some input → g.bytes ++ more ≡ take (taken + kept) input
          more_are input is =
              let p = (here input is).0 in
              let less : kept ≤ n = omega (arith, few) in
              let same : more ≡ take kept (drop taken input) =
              slice ∙ (sym (take-take kept n piece less) ∙ (ap (λ (xs : List ℕ). take kept xs) p.bytes ∙ take-take kept n (drop taken input) less)) in
              ap (λ (x : List ℕ). x ++ more) (bytes_are input is) ∙ (ap (λ (x : List ℕ). take taken input ++ x) same ∙ sym (take-add taken kept input))

          more_text : {b_next : Option (List ℕ)} {k_next : ℕ} {room_next : ℕ → Type 0} {r : Result (Unit {0}) Failed} → AppendsAt b b_next k k_next room_now room_next r (lines_text o_now t_now (ended_after (open_after [] g.bytes) more))
              → PrintedTo b_next k_next room_next r (g.bytes ++ more)
          more_text {b_next = b_next} {k_next = k_next} {room_next = room_next} {r = r} call =
              subst (λ (x : List ℕ). AppendsAt a b_next f k_next room room_next r x) (text_goes_on o t [] g.bytes more)
              (then_call g.printed
              (subst (λ (x : List ℕ). AppendsAt b b_next k k_next room_now room_next r x)
              (ap (λ (x : Bool). lines_text x t_now (ended_after (open_after [] g.bytes) more)) g.offered
              ∙ ap (λ (u : Tables). lines_text o u (ended_after (open_after [] g.bytes) more)) g.tables) call))

          pub goes_on : {b_next : Option (List ℕ)} {k_next : ℕ} {room_next : ℕ → Type 0} {steady_next : Type 0} {held_next : List ℕ} {t_next : Tables} {o_next : Bool} → (steady_now → steady_next) → o_next ≡ o_now
              → ((line : List ℕ) → Holds held line → Holds held_next (open_after line more))
              → ((line : List ℕ) → Holds held line → t_next ≡ lines_case o_now t_now (ended_after line more))
              → ((line : List ℕ) → Holds held line → AppendsAt {T = Unit {0}} {E = Failed} b b_next k k_next room_now room_next (Ok tt) (lines_text o_now t_now (ended_after line more)))
              → Going (taken + n) left_next j_next steady_next b_next k_next room_next held_next t_next o_next
          goes_on {held_next = held_next} calm offered holds tables call = record {
            bound = bound;
            offered = offered ∙ g.offered;
            bytes = g.bytes ++ more;
            told = λ input is.
                let m : taken + kept ≡ min (taken + n) most = omega (arith, few, low) in
                (next_left input is, next_within input is, more_are input is ∙ ap (λ (x : ℕ). take x input) m);
            quiet = still ∙ g.quiet;
            calm = λ s. calm (g.calm s);
            holds = subst (λ (x : List ℕ). Holds held_next x) (sym (open_parts [] g.bytes more)) (holds (open_after [] g.bytes) g.holds);
            tables =
                tables (open_after [] g.bytes) g.holds
                ∙ (ap (λ (x : Bool). lines_case x t_now (ended_after (open_after [] g.bytes) more)) g.offered
                ∙ (ap (λ (u : Tables). lines_case o u (ended_after (open_after [] g.bytes) more)) g.tables ∙ case_goes_on o t [] g.bytes more));
            printed = more_text (call (open_after [] g.bytes) g.holds);
          }

          pub stops : {b_next : Option (List ℕ)} {k_next : ℕ} {room_next : ℕ → Type 0} {e : Failed} → ((line : List ℕ) → Holds held line → AppendsAt {T = Unit {0}} b b_next k k_next room_now room_next (Err e) (lines_text o_now t_now (ended_after line more)))
              → SessionAt most o t left left_next i j_next is_steady a b_next f k_next room WriteFault
          stops call =
              write_failed (more_text (call (open_after [] g.bytes) g.holds)) (still ∙ g.quiet)
              (λ input is.
              let e = more_are input is in
              subst (λ (bs : List ℕ). IsFrontOf o t input (lines_text o t (ended_after [] bs)) (session_reply most o t input).text) (sym e)
              (front_of_reply o t input most (taken + kept) (omega (arith, few, low))))
              (λ input is. failed_front bound input is)
