-- One line, and the bytes of a line.
use Rattle.std.proofs.Common.{ℕ, ◌≡◌, ◌∙◌, ◌<◌, Bool, true, false, inl, inr, refl, sym, ap, subst, List, [], ◌∷◌, ◌++◌, length, take, drop, get_or, suc, Option, None, Some, Result, Ok, Err, append_assoc}
use Rattle.std.specs.Prelude.{if◌then◌else◌, nat_le}
use Rattle.std.proofs.Math.Seq.{drop-cons}
use Rattle.std.proofs.lemmas.Bool.{cases_lt, le-leb}
use Rattle.std.proofs.lemmas.List.{take-append-drop}
use Rattle.obs_case.specs.Tables.{Tables}
use Rattle.obs_io.specs.declared.outside.Failed.{Failed}
use Rattle.obs_report.specs.inner.Printed.{AppendsAt}
use Rattle.obs_report.proofs.Printing.{failed_call, then_call}
use Rattle.obs_script.specs.Commands.{most_bytes}
use Rattle.obs_script.specs.Gathered.{content_of, is_comment}
use Rattle.obs_script.specs.inner.Gathered.{Holds, fed, line_of}
use Rattle.obs_script.proofs.CommandLemmas.{too_long}
use Rattle.obs_text.specs.Lines.{is_feed}
use Rattle.obs_repair.specs.declared.edit.Refusal.TheVariants.{LineTooLong}
use Rattle.obs_repair.specs.Lines.{meant_by, meant_of}
use Rattle.obs_engine.specs.Lines.{answer_to, case_after, ended_after, line_case, line_text, lines_case, lines_text}
use Rattle.obs_engine.specs.inner.Lines.{open_after}
use Rattle.obs_engine.proofs.Asked.{appends_as}
use Rattle.obs_engine.proofs.Folding.{case_goes_on, open_parts, text_goes_on}

-- a line that is passed, and one that isn't
module _ (o : Bool) (t : Tables) (line : List ℕ) where
  pub passed_case : is_comment line ≡ true → line_case o t line ≡ t
  unfolding line_case
  passed_case e = rw e refl

  pub passed_text : is_comment line ≡ true → line_text o t line ≡ []
  unfolding line_text
  passed_text e = rw e refl

  pub said_case : is_comment line ≡ false → line_case o t line ≡ case_after t (meant_of t o line)
  unfolding line_case
  said_case e = rw e refl

  pub said_text : is_comment line ≡ false → line_text o t line ≡ answer_to t (meant_of t o line)
  unfolding line_text
  said_text e = rw e refl

-- the line that was gathered
pub line_some : (line x : List ℕ) → Some x ≡ line_of line → x ≡ content_of line
line_some line x e = by (nat_le (length (content_of line)) most_bytes) e
  where
    by : (b : Bool) → Some x ≡ (if b then Some (content_of line) else None) → x ≡ content_of line
    by true e = cc e
    by false e = absurd (cc e)

-- a line that is too long
pub line_none : (o : Bool) (t : Tables) (line : List ℕ) → None ≡ line_of line → meant_of t o (content_of line) ≡ Err LineTooLong
line_none o t line e = elim (cases_lt most_bytes (length (content_of line))) [
  | inl long ↦ ap (meant_by t o) (too_long (content_of line) long)
  | inr short ↦ absurd (by (nat_le (length (content_of line)) most_bytes) (le-leb (length (content_of line)) most_bytes short) e)
]
  where
    by : (b : Bool) → b ≡ true → None ≡ (if b then Some (content_of line) else None) → ⊥
    by true s e = absurd (cc e)
    by false s e = absurd (cc s)

-- one byte more of a line: a line feed, or another one
module _ (line : List ℕ) (byte : ℕ) where
  pub feed_fed : is_feed byte ≡ true → fed line byte ≡ line
  feed_fed e = rw e refl

  pub feed_ended : is_feed byte ≡ true → ended_after line (byte ∷ []) ≡ content_of line ∷ []
  feed_ended e = rw e refl

-- some bytes came behind a line, and the lines that they end were answered
pub record Fed (o : Bool) (t : Tables) (line bytes : List ℕ) (a b : Option (List ℕ)) (f k : ℕ) (p q : ℕ → Type 0) (held : List ℕ) (t_now : Tables) : Type 0 where
  pub holds : Holds held (open_after line bytes)
  pub tables : t_now ≡ lines_case o t (ended_after line bytes)
  pub printed : AppendsAt {T = Unit {0}} {E = Failed} a b f k p q (Ok tt) (lines_text o t (ended_after line bytes))

module _ {o : Bool} {t : Tables} {line bytes : List ℕ} {a b : Option (List ℕ)} {f k : ℕ} {p q : ℕ → Type 0} {held : List ℕ} {t_now : Tables} (so_far : Fed o t line bytes a b f k p q held t_now)
    {b_next : Option (List ℕ)} {k_next : ℕ} {q_next : ℕ → Type 0} (o_now : Bool) (same : o_now ≡ o) (more : List ℕ) where
  more_printed : {r : Result (Unit {0}) Failed} → ((line : List ℕ) → Holds held line → AppendsAt b b_next k k_next q q_next r (lines_text o_now t_now (ended_after line more)))
      → AppendsAt a b_next f k_next p q_next r (lines_text o t (ended_after line (bytes ++ more)))
  more_printed call =
      let here = open_after line bytes in
      appends_as (text_goes_on o t line bytes more)
      (then_call so_far.printed
      (appends_as (ap (λ (x : Bool). lines_text x t_now (ended_after here more)) same ∙ ap (λ (u : Tables). lines_text o u (ended_after here more)) so_far.tables)
      (call here so_far.holds)))

  pub fed_more : {held_next : List ℕ} {t_next : Tables} → ((line : List ℕ) → Holds held line → Holds held_next (open_after line more))
      → ((line : List ℕ) → Holds held line → t_next ≡ lines_case o_now t_now (ended_after line more))
      → ((line : List ℕ) → Holds held line → AppendsAt {T = Unit {0}} {E = Failed} b b_next k k_next q q_next (Ok tt) (lines_text o_now t_now (ended_after line more)))
      → (all : List ℕ) → all ≡ bytes ++ more → Fed o t line all a b_next f k_next p q_next held_next t_next
  fed_more {held_next = held_next} {t_next = t_next} holds tables call all split =
      subst (λ (bs : List ℕ). Fed o t line bs a b_next f k_next p q_next held_next t_next) (sym split) both
    where
      here : List ℕ
      here = open_after line bytes

      both : Fed o t line (bytes ++ more) a b_next f k_next p q_next held_next t_next
      both = record {
        holds = subst (λ (x : List ℕ). Holds held_next x) (sym (open_parts line bytes more)) (holds here so_far.holds);
        tables =
            tables here so_far.holds
            ∙ (ap (λ (x : Bool). lines_case x t_now (ended_after here more)) same ∙ (ap (λ (u : Tables). lines_case o u (ended_after here more)) so_far.tables ∙ case_goes_on o t line bytes more));
        printed = more_printed call;
      }

  -- answering failed, behind a front of what all the bytes ask for
  pub fed_failed : {e : Failed} → ((line : List ℕ) → Holds held line → AppendsAt {T = Unit {0}} b b_next k k_next q q_next (Err e) (lines_text o_now t_now (ended_after line more)))
      → (rest all : List ℕ) → (bytes ++ more) ++ rest ≡ all → AppendsAt {T = Unit {0}} a b_next f k_next p q_next (Err e) (lines_text o t (ended_after line all))
  fed_failed call rest all split =
      appends_as (text_goes_on o t line (bytes ++ more) rest ∙ ap (λ (bs : List ℕ). lines_text o t (ended_after line bs)) split)
      (failed_call (lines_text o (lines_case o t (ended_after line (bytes ++ more))) (ended_after (open_after line (bytes ++ more)) rest)) (more_printed call))

-- the next byte of some
pub split_at_byte : (bytes : List ℕ) (k : ℕ) → k < length bytes → (take k bytes ++ (get_or bytes k 0 ∷ [])) ++ drop (suc k) bytes ≡ bytes
split_at_byte bytes k low =
    append_assoc (take k bytes) (get_or bytes k 0 ∷ []) (drop (suc k) bytes) ∙ (ap (λ (x : List ℕ). take k bytes ++ x) (sym (drop-cons bytes k 0 low)) ∙ take-append-drop k bytes)
