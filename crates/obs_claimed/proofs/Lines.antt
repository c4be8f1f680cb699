-- A printed line is read back as its words, and printed texts are read back one behind the other.
use Rattle.std.proofs.Common.{◌≡◌, ◌∙◌, ℕ, zero, suc, ◌-◌, Bool, true, false, not, List, [], ◌∷◌, ◌++◌, length, map, take, get_or, Option, Some, refl, sym, ap, inl, inr, append_assoc, append-nil, arith}
use Rattle.std.specs.Prelude.{◌==◌}
use Rattle.std.specs.List.{before_first, flat_map, list_all, position_or_len}
use Rattle.std.specs.Str.Lines.{strip_carriage_return}
use Rattle.std.proofs.Math.Numerals.{one-add}
use Rattle.std.proofs.lemmas.Bool.{and_from, and_parts, not-true}
use Rattle.std.proofs.lemmas.List.{map-append}
use Rattle.obs_text.specs.Laws.{HasNoFeed}
use Rattle.obs_text.specs.Lines.{content, is_feed, lines_of}
use Rattle.obs_text.specs.Names.{is_name_byte}
use Rattle.obs_text.proofs.LineLaws.{ended_first, parts}
use Rattle.obs_matroid.specs.Lists.{In}
use Rattle.obs_cert.specs.inner.Forms.{HasForm, with_tabs}
use Rattle.obs_cert.specs.Words.{Line, claim_line}
use Rattle.obs_cert.proofs.FormLemmas.{FormsArePlain-holds, LinesHaveForms-holds}
use Rattle.obs_cert.proofs.WordLemmas.{not_control}
use Rattle.obs_report.specs.Lines.{line_of as printed, line_feed, tab, tabbed}
use Rattle.obs_claimed.specs.inner.Laws.{AreLines}

-- no byte of a word is a control byte
abbrev pub IsPlain : List ℕ → Type 0
IsPlain word = list_all is_name_byte word ≡ true

-- and so of each word
abbrev pub ArePlain : List (List ℕ) → Type 0
ArePlain words = list_all (list_all is_name_byte) words ≡ true

-- the first of plain words, and the others
plain_parts : (word : List ℕ) (words : List (List ℕ)) → ArePlain (word ∷ words) → IsPlain word × ArePlain words
plain_parts word words plain = and_parts (list_all is_name_byte word) (list_all (list_all is_name_byte) words) plain

-- printed words have one tab between each two
tabs_between : (word : List ℕ) (words : List (List ℕ)) → word ++ tabbed words ≡ with_tabs (word ∷ words)
tabs_between word [] = append-nil word
tabs_between word (next ∷ words) = ap (λ (rest : List ℕ). word ++ tab ∷ rest) (tabs_between next words)

-- what all bytes of words and tabs pass
module _ (passes : ℕ → Bool) (in_words : (byte : ℕ) → is_name_byte byte ≡ true → passes byte ≡ true) (between : passes tab ≡ true) where
  word_passes : (word rest : List ℕ) → IsPlain word → list_all passes rest ≡ true → list_all passes (word ++ rest) ≡ true
  word_passes [] rest plain others = others
  word_passes (byte ∷ word) rest plain others =
      let both = and_parts (is_name_byte byte) (list_all is_name_byte word) plain in
      and_from (passes byte) (list_all passes (word ++ rest)) (in_words byte both.0) (word_passes word rest both.1 others)

  tabbed_passes : (words : List (List ℕ)) → ArePlain words → list_all passes (tabbed words) ≡ true
  tabbed_passes [] plain = refl
  tabbed_passes (word ∷ words) plain =
      let both = plain_parts word words plain in
      and_from (passes tab) (list_all passes (word ++ tabbed words)) between (word_passes word (tabbed words) both.0 (tabbed_passes words both.1))

  words_pass : (word : List ℕ) (words : List (List ℕ)) → ArePlain (word ∷ words) → list_all passes (word ++ tabbed words) ≡ true
  words_pass word words plain =
      let both = plain_parts word words plain in word_passes word (tabbed words) both.0 (tabbed_passes words both.1)

-- a byte passes what all do, and what 0 does
at_passes : (passes : ℕ → Bool) (bytes : List ℕ) (k : ℕ) → list_all passes bytes ≡ true → passes 0 ≡ true → passes (get_or bytes k 0) ≡ true
at_passes passes [] k all none = none
at_passes passes (byte ∷ bytes) zero all none = (and_parts (passes byte) (list_all passes bytes) all).0
at_passes passes (byte ∷ bytes) (suc k) all none = at_passes passes bytes k (and_parts (passes byte) (list_all passes bytes) all).1 none

is_no_return : ℕ → Bool
is_no_return byte = not (byte == 13)

-- bytes without a carriage return stay
strip_none : (bytes : List ℕ) → list_all is_no_return bytes ≡ true → strip_carriage_return bytes ≡ bytes
unfolding is_no_return
strip_none bytes all =
    let last = get_or bytes (length bytes - 1) 0 in
    let other : (last == 13) ≡ false = not-true (last == 13) (at_passes is_no_return bytes (length bytes - 1) all refl) in
    rw other refl

-- bytes are what stands before the first line feed after them
before_feed : (front : List ℕ) → HasNoFeed front → before_first is_feed (front ++ line_feed ∷ []) ≡ front
before_feed [] none = refl
before_feed (byte ∷ front) none =
    let first = parts byte front none in
    let other : is_feed byte ≡ false = first.0 in
    rw other (ap (λ n. take n (byte ∷ (front ++ line_feed ∷ []))) (one-add (position_or_len is_feed (front ++ line_feed ∷ []))) ∙ ap (λ (bytes : List ℕ). byte ∷ bytes) (before_feed front first.1))

-- the first line of bytes is their words
pub first_words : (word : List ℕ) (words : List (List ℕ)) (rest : List ℕ) → ArePlain (word ∷ words)
    → lines_of (printed (word ∷ words) ++ rest) ≡ (word ++ tabbed words) ∷ lines_of rest
unfolding is_no_return
first_words word words rest plain =
    let front = word ++ tabbed words in
    let no_feed : HasNoFeed front =
    words_pass (λ byte. not (is_feed byte)) (λ byte p. ap not (not_control byte 10 p (omega arith))) refl word words plain in
    let no_return = words_pass is_no_return (λ byte p. ap not (not_control byte 13 p (omega arith))) refl word words plain in
    let whole : printed (word ∷ words) ++ rest ≡ front ++ line_feed ∷ rest =
    ap (λ (bytes : List ℕ). bytes ++ rest) (sym (append_assoc word (tabbed words) (line_feed ∷ []))) ∙ append_assoc front (line_feed ∷ []) rest in
    ap lines_of whole ∙ (ap (map content) (ended_first front rest no_feed) ∙ ap (λ (line : List ℕ). line ∷ lines_of rest) (ap strip_carriage_return (before_feed front no_feed) ∙ strip_none front no_return))

-- a printed line is a line of a certificate, if its words have the form of one
pub line_back : (word : List ℕ) (words : List (List ℕ)) (line : Line) → HasForm line (word ∷ words)
    → AreLines (printed (word ∷ words)) (line ∷ [])
line_back word words line form = λ rest.
    ap (map claim_line) (first_words word words rest (FormsArePlain-holds line (word ∷ words) form))
    ∙ ap (λ (o : Option Line). o ∷ map claim_line (lines_of rest))
    ((LinesHaveForms-holds (word ++ tabbed words) line).1 (word ∷ words, form, tabs_between word words))

-- nothing is no lines
pub no_lines : AreLines [] []
no_lines rest = refl

-- lines behind lines
pub lines_then : (first second : List ℕ) (of_first of_second : List Line) → AreLines first of_first → AreLines second of_second → AreLines (first ++ second) (of_first ++ of_second)
lines_then first second of_first of_second a b = λ rest.
    let rest_lines = map claim_line (lines_of rest) in
    ap (λ (bytes : List ℕ). map claim_line (lines_of bytes)) (append_assoc first second rest)
    ∙ (a (second ++ rest)
    ∙ (ap (λ (lines : List (Option Line)). map Some of_first ++ lines) (b rest)
    ∙ (sym (append_assoc (map Some of_first) (map Some of_second) rest_lines)
    ∙ ap (λ (lines : List (Option Line)). lines ++ rest_lines) (sym (map-append Some of_first of_second)))))

-- a line for each of several
module _ {X Y : Type 0} (text : X → List ℕ) (name : X → Y) (line : Y → Line) where
  pub each_line : (xs : List X) → ((x : X) → In x xs → AreLines (text x) (line (name x) ∷ [])) → AreLines (flat_map text xs) (map line (map name xs))
  each_line [] each = no_lines
  each_line (x ∷ xs) each = lines_then (text x) (flat_map text xs) (line (name x) ∷ []) (map line (map name xs)) (each x (inl refl)) (each_line xs (λ y i. each y (inr i)))
