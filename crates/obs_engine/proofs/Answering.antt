-- What the fold over the lines of a session implies.
use Rattle.std.proofs.Common.{ℕ, ◌≡◌, ◌≢◌, ◌∙◌, Bool, refl, sym, ap, List, [], ◌∷◌, ◌++◌, codes, Result, inl, inr}
use Rattle.std.proofs.lemmas.Bool.{cases_Bool}
use Rattle.std.proofs.lemmas.List.{append-nil}
use Rattle.obs_case.specs.Tables.{Tables}
use Rattle.obs_script.specs.Gathered.{content_of, is_comment}
use Rattle.obs_repair.specs.declared.edit.Meant.{Meant}
use Rattle.obs_repair.specs.declared.edit.Refusal.{Refusal}
use Rattle.obs_repair.specs.Lines.{meant_of}
use Rattle.obs_engine.specs.inner.Laws.{EditsAloneChange, EndedOrLast, IsAnswerTo, OrderIsForgotten, ReportsAsTheCommand}
use Rattle.obs_engine.specs.Lines.{answer_to, case_after, ended_after, line_case, lines_case, lines_text}
use Rattle.obs_engine.specs.inner.Lines.{open_after}
use Rattle.obs_engine.specs.Replies.{Reply}
use Rattle.obs_engine.proofs.Folding.{lines_are, some_line, text_parts}
use Rattle.obs_engine.proofs.Lined.{passed_case, passed_text, said_case, said_text}

-- what a line means is what it does, also where it is passed
meant_case : (o : Bool) (t : Tables) (line : List ℕ) → case_after t (meant_of t o line) ≡ t → line_case o t line ≡ t
meant_case o t line same = elim (cases_Bool (is_comment line)) [
  | inl e ↦ passed_case o t line e
  | inr e ↦ said_case o t line e ∙ same
]

pub EditsAloneChange-holds : (o : Bool) (t : Tables) (line : List ℕ) → EditsAloneChange o t line
EditsAloneChange-holds o t line = record {
  edit = λ said edit e. said_case o t line said ∙ ap (λ (m : Result Meant Refusal). case_after t m) e;
  ask = λ ask e. meant_case o t line (ap (λ (m : Result Meant Refusal). case_after t m) e);
  refused = λ why e. meant_case o t line (ap (λ (m : Result Meant Refusal). case_after t m) e);
  passed = passed_case o t line;
}

pub IsAnswerTo-holds : (o : Bool) (t : Tables) (line : List ℕ) → IsAnswerTo o t line
IsAnswerTo-holds o t line = record {
  edit = λ said edit e. said_text o t line said ∙ ap (λ (m : Result Meant Refusal). answer_to t m) e;
  ask = λ said ask e. said_text o t line said ∙ ap (λ (m : Result Meant Refusal). answer_to t m) e;
  refused = λ said why e. said_text o t line said ∙ ap (λ (m : Result Meant Refusal). answer_to t m) e;
  passed = passed_text o t line;
}

pub ReportsAsTheCommand-holds : ReportsAsTheCommand
ReportsAsTheCommand-holds most o t from input certificate reply is = said_text o t (codes "report") refl ∙ ap (λ (r : Reply). r.text) (sym is)

pub OrderIsForgotten-holds : OrderIsForgotten
OrderIsForgotten-holds o t some others more same = (
  lines_text o (lines_case o t some) more,
  text_parts o t some more,
  text_parts o t others more ∙ ap (λ (u : Tables). lines_text o t others ++ lines_text o u more) (sym same),
)

pub EndedOrLast-holds : (bytes : List ℕ) → EndedOrLast bytes
EndedOrLast-holds bytes = record {
  none = λ e. lines_are [] bytes refl ∙ (ap (λ (line : List ℕ). ended_after [] bytes ++ some_line line) e ∙ append-nil (ended_after [] bytes));
  last = λ some. lines_are [] bytes refl ∙ ap (λ (ls : List (List ℕ)). ended_after [] bytes ++ ls) (by (open_after [] bytes) some);
}
  where
    by : (line : List ℕ) → line ≢ [] → some_line line ≡ content_of line ∷ []
    by [] some = absurd (some refl)
    by (byte ∷ line) some = refl
