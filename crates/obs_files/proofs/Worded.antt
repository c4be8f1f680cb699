-- Which words have which form.
use Rattle.std.proofs.Common.{◌≡◌, ◌↔◌, ◌∙◌, ◌⊎◌, inl, inr, ℕ, zero, suc, ◌+◌, ◌≤◌, Bool, true, false, ◌&&◌, Option, Some, None, List, [], ◌∷◌, ◌++◌, length, codes, refl, sym, ap, subst, arith, map, take, drop}
use Rattle.std.specs.Prelude.{◌==◌, if◌then◌else◌, nat_lt, slice_index_or}
use Rattle.std.specs.List.{find}
use Rattle.std.specs.Str.{bytes_eq}
use Rattle.std.proofs.lemmas.Bool.{and_from, and_parts, eqb-true, lt-ltb, ltb-true}
use Rattle.std.proofs.lemmas.List.{length-append, length-take-le, take-append-drop}
use Rattle.obs_text.specs.Numbers.{whole_of}
use Rattle.obs_text.proofs.ByteLemmas.{same_bytes}
use Rattle.obs_files.specs.declared.words.CaseForm.{CaseForm}
use Rattle.obs_files.specs.declared.words.CaseForm.TheVariants.{Csv, Cdf, Matpower}
use Rattle.obs_files.specs.declared.words.CaseCommand.{CaseCommand}
use Rattle.obs_files.specs.declared.words.CaseCommand.TheVariants.{Report, Place, Session, Verify, Study as StudyOf}
use Rattle.obs_files.specs.declared.words.Study.TheVariants.{Outages, Pairs, Stations}
use Rattle.obs_files.specs.declared.words.Form.{Form}
use Rattle.obs_files.specs.declared.words.Form.TheVariants.{Topology, Case, Trial}
use Rattle.obs_files.specs.inner.Laws.{IsFormOf, IsInUsage, TakesEachFile, taken_words}
use Rattle.obs_files.proofs.Filed.{parts_length}
use Rattle.obs_files.specs.Words.{HasRows, behind_case, case_commands, case_form_of, case_parts, case_word, command_word, fits, form_of, form_with, has_with, is_word, item_if, one_if, parts_behind, trial_form, word_count}

-- the first test that is met
picked : (a : Bool) (x : Form) (o : Option Form) (form : Form) → (if a then Some x else o) ≡ Some form → ((a ≡ true) × (x ≡ form)) ⊎ (o ≡ Some form)
picked true x o form e = inl (refl, cc e)
picked false x o form e = inr e

named : (a : Bool) (x : CaseForm) (o : Option CaseForm) (from : CaseForm) → (if a then Some x else o) ≡ Some from → ((a ≡ true) × (x ≡ from)) ⊎ (o ≡ Some from)
named true x o from e = inl (refl, cc e)
named false x o from e = inr e

-- what a search among commands finds passes the test
found : (test : Form → Bool) (make : CaseCommand → Form) (commands : List CaseCommand) (form : Form) → find test (map make commands) ≡ Some form
    → (command : CaseCommand) × (make command ≡ form) × (test (make command) ≡ true)
found test make [] form e = absurd (cc e)
found test make (command ∷ commands) form e = elim (picked (test (make command)) (make command) (find test (map make commands)) form e) [
  | inl h ↦ (command, h.1, h.0)
  | inr o ↦ found test make commands form o
]

-- the case's form is that of its word
names_case : (words : List (List ℕ)) (from : CaseForm) → case_form_of words ≡ Some from → is_word words 1 (case_word from) ≡ true
names_case words from e = elim (named (is_word words 1 (case_word Csv)) Csv _ from e) [
  | inl h ↦ subst (λ (f : CaseForm). is_word words 1 (case_word f) ≡ true) h.1 h.0
  | inr o ↦ elim (named (is_word words 1 (case_word Cdf)) Cdf _ from o) [
    | inl h ↦ subst (λ (f : CaseForm). is_word words 1 (case_word f) ≡ true) h.1 h.0
    | inr p ↦ elim (named (is_word words 1 (case_word Matpower)) Matpower None from p) [
      | inl h ↦ subst (λ (f : CaseForm). is_word words 1 (case_word f) ≡ true) h.1 h.0
      | inr n ↦ absurd (cc n)
    ]
  ]
]

-- the word at a place is the one that is tested
word_at : (words : List (List ℕ)) (at : ℕ) (word x : List ℕ) → is_word words at word ≡ true → slice_index_or words at [] ≡ x → x ≡ word
word_at words at word x t e =
    sym e ∙ same_bytes (slice_index_or words at []) word (and_parts (nat_lt at (length words)) (bytes_eq (slice_index_or words at []) word) t).1

-- two words before so many others
two_before : (words : List (List ℕ)) (n : ℕ) → length words ≡ 2 + n
    → (a : List ℕ) × (b : List ℕ) × (rest : List (List ℕ)) × (length rest ≡ n) × (words ≡ a ∷ b ∷ rest)
two_before [] n l = absurd (omega (arith, l))
two_before (a ∷ []) n l = absurd (omega (arith, l))
two_before (a ∷ b ∷ rest) n l = (a, b, rest, omega (arith, l), refl)

-- the word `with`, where it is tested
with_at : (b : Bool) (words : List (List ℕ)) (at : ℕ) (x : List ℕ) → (if b then is_word words at (codes "with") else true) ≡ true → slice_index_or words at [] ≡ x
    → b ≡ true → x ≡ codes "with"
with_at true words at x t e y = word_at words at (codes "with") x t e
with_at false words at x t e y = absurd cc

-- words that name a case: the command, the word for its form, and the others
words_of : (words : List (List ℕ)) (command name : List ℕ) (n : ℕ) → length words ≡ 2 + n → is_word words 0 command ≡ true → is_word words 1 name ≡ true
    → (rest : List (List ℕ)) × (length rest ≡ n) × (words ≡ command ∷ name ∷ rest)
words_of words command name n many first second =
    let t = two_before words n many in
    let a : t.0 ≡ command = word_at words 0 command t.0 first (ap (λ (ws : List (List ℕ)). slice_index_or ws 0 []) t.4) in
    let b : t.1 ≡ name = word_at words 1 name t.1 second (ap (λ (ws : List (List ℕ)). slice_index_or ws 1 []) t.4) in
    (t.2, t.3, t.4 ∙ (ap (λ (x : List ℕ). x ∷ t.1 ∷ t.2) a ∙ ap (λ (x : List ℕ). command ∷ x ∷ t.2) b))

none : (words : List (List ℕ)) → length words ≡ 0 → words ≡ []
none [] l = refl
none (a ∷ words) l = absurd (omega (arith, l))

two : (words : List (List ℕ)) → length words ≡ 2 → (a : List ℕ) × (b : List ℕ) × (words ≡ a ∷ b ∷ [])
two [] l = absurd (omega (arith, l))
two (a ∷ []) l = absurd (omega (arith, l))
two (a ∷ b ∷ []) l = (a, b, refl)
two (a ∷ b ∷ d ∷ words) l = absurd (omega (arith, l))

one : (words : List (List ℕ)) → length words ≡ 1 → (a : List ℕ) × (words ≡ a ∷ [])
one [] l = absurd (omega (arith, l))
one (a ∷ []) l = (a, refl)
one (a ∷ b ∷ words) l = absurd (omega (arith, l))

-- a word between so many words and so many more
parted : (words : List (List ℕ)) (n more : ℕ) → length words ≡ n + suc more
    → (front : List (List ℕ)) × (a : List ℕ) × (rest : List (List ℕ)) × (length front ≡ n) × (length rest ≡ more) × (words ≡ front ++ (a ∷ rest))
parted [] n more l = absurd (omega (arith, l))
parted (a ∷ rest) zero more l = ([], a, rest, refl, omega (arith, l), refl)
parted (x ∷ words) (suc n) more l =
    let t = parted words n more (omega (arith, l)) in
    (x ∷ t.0, t.1, t.2, ap suc t.3, t.4, ap (λ (ws : List (List ℕ)). x ∷ ws) t.5)

behind_front : (front : List (List ℕ)) (a : List ℕ) (rest : List (List ℕ)) (n : ℕ) → length front ≡ n → slice_index_or (front ++ (a ∷ rest)) n [] ≡ a
behind_front [] a rest n e = rw (sym e) refl
behind_front (x ∷ front) a rest zero e = absurd cc
behind_front (x ∷ front) a rest (suc n) e = behind_front front a rest n (cc e)

behind_two : (a b : List ℕ) (rest : List (List ℕ)) (n : ℕ) → slice_index_or (a ∷ b ∷ rest) (2 + n) [] ≡ slice_index_or rest n []
behind_two a b rest n = let e : 2 + n ≡ suc (suc n) = omega arith in rw e refl

-- words behind those that name a case, of which the first is `with` where it stands before candidates
rest_parted : (b : Bool) (rest : List (List ℕ)) (n more : ℕ) → length rest ≡ n + (one_if b + more) → (b ≡ true → slice_index_or rest n [] ≡ codes "with")
    → (files behind : List (List ℕ)) × (length files ≡ n) × (length behind ≡ more) × (rest ≡ files ++ (item_if b (codes "with") ++ behind))
rest_parted true rest n more l is =
    let s = parted rest n more (omega (arith, l)) in
    let word : s.1 ≡ codes "with" = sym (ap (λ (ws : List (List ℕ)). slice_index_or ws n []) s.5 ∙ behind_front s.0 s.1 s.2 n s.3) ∙ is refl in
    (s.0, s.2, s.3, s.4, s.5 ∙ ap (λ (w : List ℕ). s.0 ++ (w ∷ s.2)) word)
rest_parted false rest n more l is =
    let front = length-take-le n rest (omega (arith, l)) in
    let total = ap length (take-append-drop n rest) in
    let sum = length-append (take n rest) (drop n rest) in
    (take n rest, drop n rest, front, omega (arith, l, front, total, sum), sym (take-append-drop n rest))

-- words of which the first two are these, so many name files and so many stand behind, with the word `with` between where it is tested
words_parted : (words : List (List ℕ)) (command name : List ℕ) (b : Bool) (n more : ℕ) → length words ≡ 2 + (n + (one_if b + more)) → is_word words 0 command ≡ true → is_word words 1 name ≡ true
    → (if b then is_word words (2 + n) (codes "with") else true) ≡ true
    → (files behind : List (List ℕ)) × (length files ≡ n) × (length behind ≡ more) × (words ≡ command ∷ name ∷ (files ++ (item_if b (codes "with") ++ behind)))
words_parted words command name b n more many first second third =
    let t = words_of words command name (n + (one_if b + more)) many first second in
    let at : slice_index_or words (2 + n) [] ≡ slice_index_or t.0 n [] = ap (λ (ws : List (List ℕ)). slice_index_or ws (2 + n) []) t.2 ∙ behind_two command name t.0 n in
    let s = rest_parted b t.0 n more t.1 (with_at b words (2 + n) (slice_index_or t.0 n []) third at) in
    (s.0, s.1, s.2, s.3, t.2 ∙ ap (λ (ws : List (List ℕ)). command ∷ name ∷ ws) s.4)

-- how many words a command over a case has
case_count : (command : CaseCommand) (from : CaseForm) → word_count (Case command from)
    ≡ 2 + (length (case_parts from) + (one_if (has_with (Case command from)) + length (parts_behind (Case command from))))
case_count command from = let k = parts_length (Case command from) in omega (arith, k)

-- three tests that are met
fitted : {P : Type 0} (a b c : Bool) → ((a && b) && c) ≡ true → (a ≡ true → b ≡ true → c ≡ true → P) → P
fitted a b c h p = let q = and_parts (a && b) c h in let r = and_parts a b q.0 in p r.0 r.1 q.1

-- the words of a command over a case that they fit
case_words : (words : List (List ℕ)) (from : CaseForm) (command : CaseCommand) → is_word words 1 (case_word from) ≡ true → fits words (Case command from) ≡ true
    → IsFormOf (Case command from) words
case_words words from command second h =
    fitted (length words == word_count (Case command from)) (is_word words 0 (command_word (Case command from))) (if has_with (Case command from) then is_word words (behind_case (Case command from)) (codes "with") else true) h
    (λ many first third. words_parted words (command_word (Case command from)) (case_word from) (has_with (Case command from)) (length (case_parts from)) (length (parts_behind (Case command from)))
    (eqb-true (length words) (word_count (Case command from)) many ∙ case_count command from) first second third)

with_case : (words : List (List ℕ)) (from : CaseForm) (form : Form) → is_word words 1 (case_word from) ≡ true → form_with words (Some from) ≡ Some form → IsFormOf form words
with_case words from form second e =
    let f = found (fits words) (λ command. Case command from) case_commands form e in
    subst (λ (x : Form). IsFormOf x words) f.1 (case_words words from f.0 second f.2)

with_any : (words : List (List ℕ)) (form : Form) (o : Option CaseForm) → case_form_of words ≡ o → form_with words o ≡ Some form → IsFormOf form words
with_any words form None is e = absurd (cc e)
with_any words form (Some from) is e = with_case words from form (names_case words from is) e

three : (words : List (List ℕ)) → length words ≡ 3 → (a : List ℕ) × (b : List ℕ) × (d : List ℕ) × (words ≡ a ∷ b ∷ d ∷ [])
three [] l = absurd (omega (arith, l))
three (a ∷ []) l = absurd (omega (arith, l))
three (a ∷ b ∷ []) l = absurd (omega (arith, l))
three (a ∷ b ∷ d ∷ []) l = (a, b, d, refl)
three (a ∷ b ∷ d ∷ e ∷ words) l = absurd (omega (arith, l))

three_of : (words : List (List ℕ)) (command : List ℕ) → ((length words == 3) && is_word words 0 command) ≡ true
    → (a b : List ℕ) × (words ≡ command ∷ a ∷ b ∷ [])
three_of words command h =
    let p = and_parts (length words == 3) (is_word words 0 command) h in
    let t = three words (eqb-true (length words) 3 p.0) in
    let a : t.0 ≡ command = word_at words 0 command t.0 p.1 (ap (λ (ws : List (List ℕ)). slice_index_or ws 0 []) t.3) in
    (t.1, t.2, t.3 ∙ ap (λ (x : List ℕ). x ∷ t.1 ∷ t.2 ∷ []) a)

-- a trial's form is that of two numbers
tried : (n s : Option ℕ) (form : Form) → trial_form n s ≡ Some form
    → (rows seed : ℕ) × (n ≡ Some rows) × (1 ≤ rows) × (rows ≤ 100) × (s ≡ Some seed) × (Trial rows seed ≡ form)
tried None s form e = absurd (cc e)
tried (Some rows) None form e = absurd (cc e)
tried (Some rows) (Some seed) form e = elim (picked (nat_lt 0 rows && nat_lt rows 101) (Trial rows seed) None form e) [
  | inl h ↦
      let p = and_parts (nat_lt 0 rows) (nat_lt rows 101) h.0 in
      let low = ltb-true 0 rows p.0 in
      let high = ltb-true rows 101 p.1 in
      (rows, seed, refl, omega (arith, low), omega (arith, high), refl, h.1)
  | inr n ↦ absurd (cc n)
]

trial_words : (words : List (List ℕ)) (form : Form) → ((length words == 3) && is_word words 0 (codes "trial")) ≡ true
    → trial_form (whole_of (slice_index_or words 1 [])) (whole_of (slice_index_or words 2 [])) ≡ Some form → IsFormOf form words
trial_words words form h e =
    let t = three_of words (codes "trial") h in
    let here : trial_form (whole_of t.0) (whole_of t.1) ≡ Some form =
    subst (λ (ws : List (List ℕ)). trial_form (whole_of (slice_index_or ws 1 [])) (whole_of (slice_index_or ws 2 [])) ≡ Some form) t.2 e in
    let r = tried (whole_of t.0) (whole_of t.1) form here in
    subst (λ (f : Form). IsFormOf f words) r.6 (t.0, t.1, t.2, r.2, r.3, r.4, r.5)

-- the tests of the words without a case
picked_else : (a : Bool) (x o : Option Form) (form : Form) → (if a then x else o) ≡ Some form → ((a ≡ true) × (x ≡ Some form)) ⊎ (o ≡ Some form)
picked_else true x o form e = inl (refl, e)
picked_else false x o form e = inr e

to_form : (words : List (List ℕ)) (form : Form) → form_of words ≡ Some form → IsFormOf form words
to_form words form h = elim (picked (fits words Topology) Topology _ form h) [
  | inl t ↦ subst (λ (f : Form). IsFormOf f words) t.1 (three_of words (codes "topology") (and_parts ((length words == 3) && is_word words 0 (codes "topology")) true t.0).0)
  | inr o ↦ elim (picked_else ((length words == 3) && is_word words 0 (codes "trial")) (trial_form (whole_of (slice_index_or words 1 [])) (whole_of (slice_index_or words 2 [])))
      (form_with words (case_form_of words)) form o) [
        | inl t ↦ trial_words words form t.0 t.1
        | inr p ↦ with_any words form (case_form_of words) refl p
      ]
]

-- a trial has as many rows as it may have
rows_in : (words : List (List ℕ)) (form : Form) → IsFormOf form words → HasRows form
rows_in words Topology h = tt
rows_in words (Case command from) h = tt
rows_in words (Trial rows seed) (n, s, is, first, low, high, second) = (low, high)

pub rows_of : (words : List (List ℕ)) (form : Form) → form_of words ≡ Some form → HasRows form
rows_of words form e = rows_in words form (to_form words form e)

four : (words : List (List ℕ)) → length words ≡ 4 → (a : List ℕ) × (b : List ℕ) × (d : List ℕ) × (e : List ℕ) × (words ≡ a ∷ b ∷ d ∷ e ∷ [])
four [] l = absurd (omega (arith, l))
four (a ∷ words) l = let t = three words (omega (arith, l)) in (a, t.0, t.1, t.2, ap (λ (ws : List (List ℕ)). a ∷ ws) t.3)

-- what holds of any files of each form of a case
of_files : (P : CaseForm → List (List ℕ) → Type 0) → ((a b d e : List ℕ) → P Csv (a ∷ b ∷ d ∷ e ∷ [])) → ((a b : List ℕ) → P Cdf (a ∷ b ∷ [])) → ((a b : List ℕ) → P Matpower (a ∷ b ∷ []))
    → (from : CaseForm) (files : List (List ℕ)) → length files ≡ length (case_parts from) → P from files
of_files P csv cdf mat Csv files l = let t = four files l in subst (P Csv) (sym t.4) (csv t.0 t.1 t.2 t.3)
of_files P csv cdf mat Cdf files l = let t = two files l in subst (P Cdf) (sym t.2) (cdf t.0 t.1)
of_files P csv cdf mat Matpower files l = let t = two files l in subst (P Matpower) (sym t.2) (mat t.0 t.1)

-- words of a command that are made of any files of a case have its form, and its files are taken from them
abbrev Has : CaseCommand → (List (List ℕ) → List (List ℕ)) → List (List ℕ) → CaseForm → List (List ℕ) → Type 0
Has command rest behind from files =
    let words = command_word (Case command from) ∷ case_word from ∷ rest files in
    (form_of words ≡ Some (Case command from)) × (taken_words (Case command from) words ≡ files ++ behind)

from_case : (command : CaseCommand) (from : CaseForm) (files behind : List (List ℕ)) → length files ≡ length (case_parts from) → length behind ≡ length (parts_behind (Case command from))
    → Has command (λ fs. fs ++ (item_if (has_with (Case command from)) (codes "with") ++ behind)) behind from files
from_case Report from files behind l m = let e = none behind m in
    subst (λ bs. Has Report (λ fs. fs ++ bs) bs from files) (sym e) (of_files (Has Report (λ fs. fs ++ []) []) (λ a b d e. (refl, refl)) (λ a b. (refl, refl)) (λ a b. (refl, refl)) from files l)
from_case Place from files behind l m = let t = one behind m in
    subst (λ bs. Has Place (λ fs. fs ++ bs) bs from files) (sym t.1) (of_files (Has Place (λ fs. fs ++ (t.0 ∷ [])) (t.0 ∷ [])) (λ a b d e. (refl, refl)) (λ a b. (refl, refl)) (λ a b. (refl, refl)) from files l)
from_case (Session false) from files behind l m = let e = none behind m in
    subst (λ bs. Has (Session false) (λ fs. fs ++ bs) bs from files) (sym e) (of_files (Has (Session false) (λ fs. fs ++ []) []) (λ a b d e. (refl, refl)) (λ a b. (refl, refl)) (λ a b. (refl, refl)) from files l)
from_case (Session true) from files behind l m = let t = one behind m in
    subst (λ bs. Has (Session true) (λ fs. fs ++ (codes "with" ∷ bs)) bs from files) (sym t.1) (of_files (Has (Session true) (λ fs. fs ++ (codes "with" ∷ t.0 ∷ [])) (t.0 ∷ [])) (λ a b d e. (refl, refl)) (λ a b. (refl, refl)) (λ a b. (refl, refl)) from files l)
from_case (Verify false) from files behind l m = let t = one behind m in
    subst (λ bs. Has (Verify false) (λ fs. fs ++ bs) bs from files) (sym t.1) (of_files (Has (Verify false) (λ fs. fs ++ (t.0 ∷ [])) (t.0 ∷ [])) (λ a b d e. (refl, refl)) (λ a b. (refl, refl)) (λ a b. (refl, refl)) from files l)
from_case (Verify true) from files behind l m = let t = two behind m in
    subst (λ bs. Has (Verify true) (λ fs. fs ++ (codes "with" ∷ bs)) bs from files) (sym t.2) (of_files (Has (Verify true) (λ fs. fs ++ (codes "with" ∷ t.0 ∷ t.1 ∷ [])) (t.0 ∷ t.1 ∷ [])) (λ a b d e. (refl, refl)) (λ a b. (refl, refl)) (λ a b. (refl, refl)) from files l)
from_case (StudyOf Outages) from files behind l m = let e = none behind m in
    subst (λ bs. Has (StudyOf Outages) (λ fs. fs ++ bs) bs from files) (sym e) (of_files (Has (StudyOf Outages) (λ fs. fs ++ []) []) (λ a b d e. (refl, refl)) (λ a b. (refl, refl)) (λ a b. (refl, refl)) from files l)
from_case (StudyOf Pairs) from files behind l m = let e = none behind m in
    subst (λ bs. Has (StudyOf Pairs) (λ fs. fs ++ bs) bs from files) (sym e) (of_files (Has (StudyOf Pairs) (λ fs. fs ++ []) []) (λ a b d e. (refl, refl)) (λ a b. (refl, refl)) (λ a b. (refl, refl)) from files l)
from_case (StudyOf Stations) from files behind l m = let e = none behind m in
    subst (λ bs. Has (StudyOf Stations) (λ fs. fs ++ bs) bs from files) (sym e) (of_files (Has (StudyOf Stations) (λ fs. fs ++ []) []) (λ a b d e. (refl, refl)) (λ a b. (refl, refl)) (λ a b. (refl, refl)) from files l)

from_form : (words : List (List ℕ)) (form : Form) → IsFormOf form words → form_of words ≡ Some form
from_form words Topology h = subst (λ (ws : List (List ℕ)). form_of ws ≡ Some Topology) (sym h.2) refl
from_form words (Case command from) (files, behind, many, more, is) =
    subst (λ (ws : List (List ℕ)). form_of ws ≡ Some (Case command from)) (sym is) (from_case command from files behind many more).0
from_form words (Trial rows seed) (n, s, is, first, low, high, second) =
    subst (λ (ws : List (List ℕ)). form_of ws ≡ Some (Trial rows seed)) (sym is)
    (subst (λ (o : Option ℕ). trial_form o (whole_of s) ≡ Some (Trial rows seed)) (sym first)
    (subst (λ (o : Option ℕ). trial_form (Some rows) o ≡ Some (Trial rows seed)) (sym second)
    (rw (and_from (nat_lt 0 rows) (nat_lt rows 101) (lt-ltb 0 rows (omega (arith, low))) (lt-ltb rows 101 (omega (arith, high)))) refl)))

pub form_exactly : (words : List (List ℕ)) (form : Form) → (form_of words ≡ Some form) ↔ IsFormOf form words
form_exactly words form = (to_form words form, from_form words form)

-- each file is that of its word
pub takes_each : TakesEachFile
takes_each = record {
  topology = λ n s. refl;
  case = λ command from files behind many more. (from_case command from files behind many more).1;
}

-- the usage line names each form
pub in_usage : (form : Form) → IsInUsage form
in_usage Topology = (codes "usage: obs", codes " | report FORM | place FORM CAND | session FORM | verify FORM CERT | trial N SEED | outages FORM | pairs FORM | stations FORM\n", refl)
in_usage (Case Report from) = (codes "usage: obs topology N S |", codes " | place FORM CAND | session FORM | verify FORM CERT | trial N SEED | outages FORM | pairs FORM | stations FORM\n", refl)
in_usage (Case Place from) = (codes "usage: obs topology N S | report FORM |", codes " | session FORM | verify FORM CERT | trial N SEED | outages FORM | pairs FORM | stations FORM\n", refl)
in_usage (Case (Session false) from) = (codes "usage: obs topology N S | report FORM | place FORM CAND |", codes " | verify FORM CERT | trial N SEED | outages FORM | pairs FORM | stations FORM\n", refl)
in_usage (Case (Session true) from) = (codes "usage: obs topology N S | report FORM | place FORM CAND |", codes " | verify FORM CERT | trial N SEED | outages FORM | pairs FORM | stations FORM\n", refl)
in_usage (Case (Verify false) from) = (codes "usage: obs topology N S | report FORM | place FORM CAND | session FORM |", codes " | trial N SEED | outages FORM | pairs FORM | stations FORM\n", refl)
in_usage (Case (Verify true) from) = (codes "usage: obs topology N S | report FORM | place FORM CAND | session FORM |", codes " | trial N SEED | outages FORM | pairs FORM | stations FORM\n", refl)
in_usage (Case (StudyOf Outages) from) = (codes "usage: obs topology N S | report FORM | place FORM CAND | session FORM | verify FORM CERT | trial N SEED |", codes " | pairs FORM | stations FORM\n", refl)
in_usage (Case (StudyOf Pairs) from) = (codes "usage: obs topology N S | report FORM | place FORM CAND | session FORM | verify FORM CERT | trial N SEED | outages FORM |", codes " | stations FORM\n", refl)
in_usage (Case (StudyOf Stations) from) = (codes "usage: obs topology N S | report FORM | place FORM CAND | session FORM | verify FORM CERT | trial N SEED | outages FORM | pairs FORM |", codes "\n", refl)
in_usage (Trial rows seed) = (codes "usage: obs topology N S | report FORM | place FORM CAND | session FORM | verify FORM CERT |", codes " | outages FORM | pairs FORM | stations FORM\n", refl)
