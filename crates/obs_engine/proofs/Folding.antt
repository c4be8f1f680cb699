-- Folds over lines, and the lines of bytes that come in parts.
use Rattle.std.proofs.Common.{ℕ, ◌≡◌, ◌∙◌, ◌≤◌, Bool, true, false, not, inl, inr, refl, sym, ap, List, [], ◌∷◌, ◌++◌, length, take, drop, append_assoc}
use Rattle.std.specs.Prelude.{nat_lt}
use Rattle.std.specs.List.{list_all}
use Rattle.std.proofs.lemmas.Bool.{and_parts, cases_Bool, eqb-true}
use Rattle.std.proofs.lemmas.List.{append-nil, take-append-drop, take-take}
use Rattle.obs_case.specs.Tables.{Tables}
use Rattle.obs_text.specs.Lines.{is_feed, lines_of}
use Rattle.obs_text.specs.Laws.{HasNoFeed}
use Rattle.obs_script.specs.Gathered.{content_of}
use Rattle.obs_script.proofs.LineLemmas.{ended_line, last_line}
use Rattle.obs_engine.specs.Lines.{ended_after, line_case, line_text, lines_case, lines_text}
use Rattle.obs_engine.specs.inner.Lines.{open_after}
use Rattle.obs_engine.specs.Replies.{Reply}
use Rattle.obs_engine.specs.Sessions.{cut_reply, session_reply, whole_reply}

-- lines and then others
pub case_parts : (o : Bool) (t : Tables) (a b : List (List ℕ)) → lines_case o t (a ++ b) ≡ lines_case o (lines_case o t a) b
case_parts o t [] b = refl
case_parts o t (line ∷ a) b = case_parts o (line_case o t line) a b

pub text_parts : (o : Bool) (t : Tables) (a b : List (List ℕ)) → lines_text o t (a ++ b) ≡ lines_text o t a ++ lines_text o (lines_case o t a) b
text_parts o t [] b = refl
text_parts o t (line ∷ a) b =
    let u = line_case o t line in
    ap (λ (x : List ℕ). line_text o t line ++ x) (text_parts o u a b) ∙ sym (append_assoc (line_text o t line) (lines_text o u a) (lines_text o (lines_case o u a) b))

-- bytes and then others
pub ended_parts : (line a b : List ℕ) → ended_after line (a ++ b) ≡ ended_after line a ++ ended_after (open_after line a) b
ended_parts line [] b = refl
ended_parts line (x ∷ a) b = elim (cases_Bool (is_feed x)) [
  | inl e ↦ rw e (ap (λ (ls : List (List ℕ)). content_of line ∷ ls) (ended_parts [] a b))
  | inr e ↦ rw e (ended_parts (line ++ (x ∷ [])) a b)
]

pub open_parts : (line a b : List ℕ) → open_after line (a ++ b) ≡ open_after (open_after line a) b
open_parts line [] b = refl
open_parts line (x ∷ a) b = elim (cases_Bool (is_feed x)) [
  | inl e ↦ rw e (open_parts [] a b)
  | inr e ↦ rw e (open_parts (line ++ (x ∷ [])) a b)
]

-- the case and the answers after bytes and then others
pub case_goes_on : (o : Bool) (t : Tables) (line a b : List ℕ)
    → lines_case o (lines_case o t (ended_after line a)) (ended_after (open_after line a) b) ≡ lines_case o t (ended_after line (a ++ b))
case_goes_on o t line a b =
    sym (case_parts o t (ended_after line a) (ended_after (open_after line a) b)) ∙ ap (λ (ls : List (List ℕ)). lines_case o t ls) (sym (ended_parts line a b))

pub text_goes_on : (o : Bool) (t : Tables) (line a b : List ℕ)
    → lines_text o t (ended_after line a) ++ lines_text o (lines_case o t (ended_after line a)) (ended_after (open_after line a) b) ≡ lines_text o t (ended_after line (a ++ b))
text_goes_on o t line a b =
    sym (text_parts o t (ended_after line a) (ended_after (open_after line a) b)) ∙ ap (λ (ls : List (List ℕ)). lines_text o t ls) (sym (ended_parts line a b))

-- a line that hasn't ended, where it has bytes
abbrev pub some_line : List ℕ → List (List ℕ)
some_line [] = []
some_line (byte ∷ bytes) = content_of (byte ∷ bytes) ∷ []

no_feed_more : (line : List ℕ) (x : ℕ) → HasNoFeed line → is_feed x ≡ false → HasNoFeed (line ++ (x ∷ []))
no_feed_more [] x none e = rw e refl
no_feed_more (b ∷ line) x none e =
    let both = and_parts (not (is_feed b)) (list_all (λ byte. not (is_feed byte)) line) none in
    rw both.0 (no_feed_more line x both.1 e)

-- the lines of bytes: those that end, and the last one
pub lines_are : (line bytes : List ℕ) → HasNoFeed line → lines_of (line ++ bytes) ≡ ended_after line bytes ++ some_line (open_after line bytes)
lines_are line [] none = ap (λ (x : List ℕ). lines_of x) (append-nil line) ∙ last line none
  where
    last : (line : List ℕ) → HasNoFeed line → lines_of line ≡ some_line line
    last [] none = refl
    last (b ∷ line) none = last_line (b ∷ line) none (λ e. absurd cc)
lines_are line (x ∷ bytes) none = elim (cases_Bool (is_feed x)) [
  | inl e ↦ rw e (ap (λ (y : ℕ). lines_of (line ++ (y ∷ bytes))) (eqb-true x 0x0A e) ∙ (ended_line line bytes none ∙ ap (λ (ls : List (List ℕ)). content_of line ∷ ls) (lines_are [] bytes refl)))
  | inr e ↦ rw e (ap (λ (bs : List ℕ). lines_of bs) (sym (append_assoc line (x ∷ []) bytes)) ∙ lines_are (line ++ (x ∷ [])) bytes (no_feed_more line x none e))
]

-- a line of no bytes at the end changes nothing and has no answer, as no line
pub last_text : (o : Bool) (t : Tables) (line : List ℕ) → lines_text o t (some_line line) ≡ line_text o t (content_of line)
unfolding line_text
last_text o t [] = refl
last_text o t (byte ∷ line) = append-nil (line_text o t (content_of (byte ∷ line)))

pub last_case : (o : Bool) (t : Tables) (line : List ℕ) → lines_case o t (some_line line) ≡ line_case o t (content_of line)
unfolding line_case
last_case o t [] = refl
last_case o t (byte ∷ line) = refl

-- the answers to a whole input, and the case at its end
module _ (o : Bool) (t : Tables) (input : List ℕ) where
  pub whole_text : lines_text o t (lines_of input)
      ≡ lines_text o t (ended_after [] input) ++ line_text o (lines_case o t (ended_after [] input)) (content_of (open_after [] input))
  whole_text =
      ap (λ (ls : List (List ℕ)). lines_text o t ls) (lines_are [] input refl)
      ∙ (text_parts o t (ended_after [] input) (some_line (open_after [] input))
      ∙ ap (λ (x : List ℕ). lines_text o t (ended_after [] input) ++ x) (last_text o (lines_case o t (ended_after [] input)) (open_after [] input)))

  pub whole_case : lines_case o t (lines_of input) ≡ line_case o (lines_case o t (ended_after [] input)) (content_of (open_after [] input))
  whole_case =
      ap (λ (ls : List (List ℕ)). lines_case o t ls) (lines_are [] input refl)
      ∙ (case_parts o t (ended_after [] input) (some_line (open_after [] input)) ∙ last_case o (lines_case o t (ended_after [] input)) (open_after [] input))

  -- which of the two replies it is
  pub is_whole : (most : ℕ) → nat_lt most (length input) ≡ false → session_reply most o t input ≡ whole_reply o t input
  is_whole most e = rw e refl

  pub is_cut : (most : ℕ) → nat_lt most (length input) ≡ true → session_reply most o t input ≡ cut_reply most o t input
  is_cut most e = rw e refl

  -- the answers within a front of bytes are a front of the answers
  abbrev pub IsFrontOf : List ℕ → List ℕ → Type 0
  IsFrontOf text whole = (more : List ℕ) × (whole ≡ text ++ more)

  front_more : (a b : List ℕ) → IsFrontOf (lines_text o t (ended_after [] a)) (lines_text o t (ended_after [] (a ++ b)))
  front_more a b = (lines_text o (lines_case o t (ended_after [] a)) (ended_after (open_after [] a) b), sym (text_goes_on o t [] a b))

  front_then : (text whole rest : List ℕ) → IsFrontOf text whole → IsFrontOf text (whole ++ rest)
  front_then text whole rest (more, e) = (more ++ rest, ap (λ (x : List ℕ). x ++ rest) e ∙ append_assoc text more rest)

  front_in : (n : ℕ) (bytes : List ℕ) → IsFrontOf (lines_text o t (ended_after [] (take n bytes))) (lines_text o t (ended_after [] bytes))
  front_in n bytes =
      let f = front_more (take n bytes) (drop n bytes) in
      (f.0, ap (λ (bs : List ℕ). lines_text o t (ended_after [] bs)) (sym (take-append-drop n bytes)) ∙ f.1)

  pub front_of_reply : (most n : ℕ) → n ≤ most → IsFrontOf (lines_text o t (ended_after [] (take n input))) (session_reply most o t input).text
  front_of_reply most n low = elim (cases_Bool (nat_lt most (length input))) [
    | inl e ↦
        (let f = front_in n (take most input) in
        (f.0, ap (λ (r : Reply). r.text) (is_cut most e) ∙ (f.1 ∙ ap (λ (bs : List ℕ). lines_text o t (ended_after [] bs) ++ f.0) (take-take n most input low))))
    | inr e ↦
        (let f = front_then _ _ (line_text o (lines_case o t (ended_after [] input)) (content_of (open_after [] input))) (front_in n input) in
        (f.0, ap (λ (r : Reply). r.text) (is_whole most e) ∙ (whole_text ∙ f.1)))
  ]
