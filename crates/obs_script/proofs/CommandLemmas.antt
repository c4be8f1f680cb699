-- Commands and their texts.
use Rattle.std.proofs.Common.{◌≡◌, ℕ, suc, ◌<◌, ◌≤◌, ◌+◌, Bool, true, false, not, cond, IsTrue, IfSome, List, [], ◌∷◌, ◌++◌, length, ltb, Option, None, Some, Result, Ok, Err, one-add, refl, sym, ap, ◌∙◌, subst, inl, inr, arith, codes}
use Rattle.std.proofs.lemmas.Bool.{cases_Bool, eqb-true, false≢true, le-ltb, lt-ltb, ltb-false}
use Rattle.std.specs.List.{list_any, position_or_len}
use Rattle.std.specs.Str.{bytes_eq}
use Rattle.obs_text.specs.Columns.{is_blank}
use Rattle.obs_text.specs.Names.{is_name}
use Rattle.obs_text.proofs.ByteLemmas.{same_bytes}
use Rattle.obs_script.specs.declared.command.Ask.{Ask}
use Rattle.obs_script.specs.declared.command.Ask.TheVariants.{Status, Tree, Bound, Islands, Critical, Report, Place, Cert}
use Rattle.obs_script.specs.declared.fault.LineFault.{LineFault}
use Rattle.obs_script.specs.declared.fault.LineFault.TheVariants.{BadName, LineTooLong, UnknownCommand, WordMissing}
use Rattle.obs_script.specs.Commands.{Said, opens, closes, trips, restores, loses, regains, asks, ask_of, ask_or_edit, command_of, command_word, edit_of, most_bytes, name_in, named}
use Rattle.obs_script.specs.inner.Commands.{ask_word, edited_name, text_of, word_and_name, word_of}

-- what is chosen by the first of some words that a word is
choice : {A : Type 0} (P : A → Type 0) (word own : List ℕ) (x : A) (others : Option A) (y : A)
    → (word ≡ own → P x) → (others ≡ Some y → P y) → cond (bytes_eq word own) (Some x) others ≡ Some y → P y
choice P word own x others y this rest is = by (bytes_eq word own) refl is
  where
    by : (b : Bool) → bytes_eq word own ≡ b → cond b (Some x) others ≡ Some y → P y
    by true e h = (let same : x ≡ y = cc in subst P same (this (same_bytes word own e)))
    by false e h = rest h

-- a line that is an ask is its word
ask_of-is : (line : List ℕ) (ask : Ask) → ask_of line ≡ Some ask → line ≡ ask_word ask
ask_of-is line ask =
    let Is : Ask → Type 0 = λ a. line ≡ ask_word a in
    (choice Is line (codes "status") Status _ ask (λ e. e)
    (choice Is line (codes "tree") Tree _ ask (λ e. e)
    (choice Is line (codes "bound") Bound _ ask (λ e. e)
    (choice Is line (codes "islands") Islands _ ask (λ e. e)
    (choice Is line (codes "critical") Critical _ ask (λ e. e)
    (choice Is line (codes "report") Report _ ask (λ e. e)
    (choice Is line (codes "place") Place _ ask (λ e. e)
    (choice Is line (codes "cert") Cert _ ask (λ e. e)
    (λ none. cc)))))))))

-- a word that is an edit's is that of the edit, and the name is its name
edit_of-is : (word name : List ℕ) (said : Said) → edit_of word name ≡ Some said → (word ≡ word_of said) × (edited_name said ≡ Some name)
edit_of-is word name said =
    let Is : Said → Type 0 = λ s. (word ≡ word_of s) × (edited_name s ≡ Some name) in
    (choice Is word (codes "open") (opens name) _ said (λ e. (e, refl))
    (choice Is word (codes "close") (closes name) _ said (λ e. (e, refl))
    (choice Is word (codes "trip") (trips name) _ said (λ e. (e, refl))
    (choice Is word (codes "restore") (restores name) _ said (λ e. (e, refl))
    (choice Is word (codes "lose") (loses name) _ said (λ e. (e, refl))
    (choice Is word (codes "regain") (regains name) _ said (λ e. (e, refl))
    (λ none. cc)))))))

-- a line with a blank is its command word, that blank and what follows it
split_at_blank : (line : List ℕ) → list_any is_blank line ≡ true → line ≡ command_word line ++ 0x20 ∷ name_in line
split_at_blank [] there = absurd (false≢true there)
split_at_blank (b ∷ bs) there =
    elim (cases_Bool (is_blank b)) [
      | inl e ↦ rw e (ap (λ byte. byte ∷ bs) (eqb-true b 0x20 e))
      | inr e ↦ (
          let later : list_any is_blank bs ≡ true = rw e at there in
          let next : suc (position_or_len is_blank bs) + 1 ≡ suc (position_or_len is_blank bs + 1) = omega arith in
          rw (e, one-add (position_or_len is_blank bs), next) (ap (λ t. b ∷ t) (split_at_blank bs later)))
    ]

-- what an edit with its name says
named-is : (line : List ℕ) (edit said : Said) → named line edit ≡ Ok said → (list_any is_blank line ≡ true) × (is_name (name_in line) ≡ true) × (edit ≡ said)
named-is line edit said is = by (list_any is_blank line) (is_name (name_in line)) is
  where
    no_word : Result Said LineFault
    no_word = Err WordMissing

    no_name : Result Said LineFault
    no_name = Err BadName

    by : (b n : Bool) → cond (not b) no_word (cond (not n) no_name (Ok edit)) ≡ Ok said → (b ≡ true) × (n ≡ true) × (edit ≡ said)
    by true true is = (refl, refl, cc)
    by true false is = cc
    by false n is = cc

-- what a line that isn't too long says
said_in : (line : List ℕ) (said : Said) → ask_or_edit line (ask_of line) (edit_of (command_word line) (name_in line)) ≡ Ok said
    → (line ≡ text_of said) × IfSome (edited_name said) (λ name. IsTrue (is_name name))
said_in line said = by (ask_of line) (edit_of (command_word line) (name_in line)) (ask_of-is line) (edit_of-is (command_word line) (name_in line))
  where
    by : (a : Option Ask) (e : Option Said) → ((ask : Ask) → a ≡ Some ask → line ≡ ask_word ask)
        → ((s : Said) → e ≡ Some s → (command_word line ≡ word_of s) × (edited_name s ≡ Some (name_in line)))
        → ask_or_edit line a e ≡ Ok said → (line ≡ text_of said) × IfSome (edited_name said) (λ name. IsTrue (is_name name))
    by (Some ask) e asked edited is =
        let same : asks ask ≡ said = cc in
        subst (λ s. (line ≡ text_of s) × IfSome (edited_name s) (λ name. IsTrue (is_name name))) same (asked ask refl, tt)
    by None None asked edited is = cc
    by None (Some edit) asked edited is =
        let parts = named-is line edit said is in
        let is_edit = edited edit refl in
        let text : line ≡ text_of edit =
        split_at_blank line parts.0 ∙ ap (λ w. w ++ 0x20 ∷ name_in line) is_edit.0
        ∙ sym (ap (word_and_name (word_of edit)) is_edit.1) in
        let good : IfSome (edited_name edit) (λ name. IsTrue (is_name name)) = rw is_edit.1 parts.1 in
        subst (λ s. (line ≡ text_of s) × IfSome (edited_name s) (λ name. IsTrue (is_name name))) parts.2 (text, good)

pub only : (line : List ℕ) (said : Said) → command_of line ≡ Ok said
    → (line ≡ text_of said) × IfSome (edited_name said) (λ name. IsTrue (is_name name)) × (length line ≤ most_bytes)
only line said is = by (ltb most_bytes (length line)) refl is
  where
    by : (long : Bool) → ltb most_bytes (length line) ≡ long
        → cond long (Err LineTooLong) (ask_or_edit line (ask_of line) (edit_of (command_word line) (name_in line))) ≡ Ok said
        → (line ≡ text_of said) × IfSome (edited_name said) (λ name. IsTrue (is_name name)) × (length line ≤ most_bytes)
    by true e h = cc
    by false e h = (let said_is = said_in line said h in (said_is.0, said_is.1, ltb-false most_bytes (length line) e))

pub too_long : (line : List ℕ) → most_bytes < length line → command_of line ≡ Err LineTooLong
too_long line long = rw (lt-ltb most_bytes (length line) long) refl

pub given : (said : Said) → IfSome (edited_name said) (λ name. IsTrue (is_name name)) → length (text_of said) ≤ most_bytes → command_of (text_of said) ≡ Ok said
given (opens name) good short = rw (le-ltb most_bytes (length (text_of (opens name))) short, good) refl
given (closes name) good short = rw (le-ltb most_bytes (length (text_of (closes name))) short, good) refl
given (trips name) good short = rw (le-ltb most_bytes (length (text_of (trips name))) short, good) refl
given (restores name) good short = rw (le-ltb most_bytes (length (text_of (restores name))) short, good) refl
given (loses name) good short = rw (le-ltb most_bytes (length (text_of (loses name))) short, good) refl
given (regains name) good short = rw (le-ltb most_bytes (length (text_of (regains name))) short, good) refl
given (asks Status) good short = refl
given (asks Tree) good short = refl
given (asks Bound) good short = refl
given (asks Islands) good short = refl
given (asks Critical) good short = refl
given (asks Report) good short = refl
given (asks Place) good short = refl
given (asks Cert) good short = refl

pub missing : (said : Said) (name : List ℕ) → edited_name said ≡ Some name → command_of (word_of said) ≡ Err WordMissing
missing (opens own) name is = refl
missing (closes own) name is = refl
missing (trips own) name is = refl
missing (restores own) name is = refl
missing (loses own) name is = refl
missing (regains own) name is = refl
missing (asks ask) name is = cc

pub bad : (said : Said) (name : List ℕ) → edited_name said ≡ Some name → is_name name ≡ false → length (text_of said) ≤ most_bytes → command_of (text_of said) ≡ Err BadName
bad (opens own) name is unfit short = (let same : own ≡ name = cc in rw (le-ltb most_bytes (length (text_of (opens own))) short, ap is_name same, unfit) refl)
bad (closes own) name is unfit short = (let same : own ≡ name = cc in rw (le-ltb most_bytes (length (text_of (closes own))) short, ap is_name same, unfit) refl)
bad (trips own) name is unfit short = (let same : own ≡ name = cc in rw (le-ltb most_bytes (length (text_of (trips own))) short, ap is_name same, unfit) refl)
bad (restores own) name is unfit short = (let same : own ≡ name = cc in rw (le-ltb most_bytes (length (text_of (restores own))) short, ap is_name same, unfit) refl)
bad (loses own) name is unfit short = (let same : own ≡ name = cc in rw (le-ltb most_bytes (length (text_of (loses own))) short, ap is_name same, unfit) refl)
bad (regains own) name is unfit short = (let same : own ≡ name = cc in rw (le-ltb most_bytes (length (text_of (regains own))) short, ap is_name same, unfit) refl)
bad (asks ask) name is unfit short = cc

pub unknown : (line : List ℕ) → length line ≤ most_bytes → ((ask : Ask) → line ≡ ask_word ask → ⊥)
    → ((said : Said) (name : List ℕ) → edited_name said ≡ Some name → command_word line ≡ word_of said → ⊥) → command_of line ≡ Err UnknownCommand
unknown line short no_ask no_edit =
    rw (le-ltb most_bytes (length line) short)
    (by (ask_of line) (edit_of (command_word line) (name_in line)) (ask_of-is line) (edit_of-is (command_word line) (name_in line)))
  where
    by : (a : Option Ask) (e : Option Said) → ((ask : Ask) → a ≡ Some ask → line ≡ ask_word ask)
        → ((s : Said) → e ≡ Some s → (command_word line ≡ word_of s) × (edited_name s ≡ Some (name_in line)))
        → ask_or_edit line a e ≡ Err UnknownCommand
    by (Some ask) e asked edited = absurd (no_ask ask (asked ask refl))
    by None (Some edit) asked edited = let is = edited edit refl in absurd (no_edit edit (name_in line) is.1 is.0)
    by None None asked edited = refl
