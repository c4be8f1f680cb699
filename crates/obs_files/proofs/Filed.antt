-- The files of a form: how many they are, and which stands where.
use Rattle.std.proofs.Common.{◌≡◌, ◌∙◌, inl, inr, ℕ, ◌+◌, ◌-◌, ◌<◌, ◌≤◌, Bool, true, false, cond, suc, add-one, Option, Some, drop, map, List, [], ◌∷◌, ◌++◌, length, get_or, refl, ap, subst, sym, arith}
use Rattle.std.specs.Prelude.{codes, nat_lt}
use Rattle.std.specs.List.{find, range_with_len}
use Rattle.std.proofs.Math.Seq.{drop-cons}
use Rattle.std.proofs.lemmas.Bool.{cases_Bool, ltb-true}
use Rattle.std.proofs.lemmas.Bool.Decides.{nat_tests}
use Rattle.std.proofs.lemmas.List.{get_or-append_right, length-append}
use Rattle.std.proofs.lemmas.List.FromFn.{length-range_with_len}
use Rattle.obs_files.specs.declared.words.CaseCommand.{CaseCommand}
use Rattle.obs_files.specs.declared.words.CaseCommand.TheVariants.{Report}
use Rattle.obs_files.specs.declared.words.CaseForm.{CaseForm}
use Rattle.obs_files.specs.declared.words.Form.{Form}
use Rattle.obs_files.specs.declared.words.Form.TheVariants.{Case}
use Rattle.obs_files.specs.Words.{candidates_at, certificate_at, first_parts, first_word, fits, is_offered, item_if, one_if, parts_behind, parts_of, takes_certificate, words_of}

if_length : {A : Type 0} (b : Bool) (x : A) → length (item_if b x) ≡ one_if b
if_length true x = refl
if_length false x = refl

-- two items, each where its test is met, and the same behind others
two_length : {A : Type 0} (a b : Bool) (x y : A) → length (item_if a x ++ item_if b y) ≡ one_if a + one_if b
two_length a b x y =
    let all = length-append (item_if a x) (item_if b y) in
    let one = if_length a x in
    let other = if_length b y in
    omega (arith, all, one, other)

behind_length : {A : Type 0} (front : List A) (a b : Bool) (x y : A) → length (front ++ (item_if a x ++ item_if b y)) ≡ length front + (one_if a + one_if b)
behind_length front a b x y =
    let all = length-append front (item_if a x ++ item_if b y) in
    let two = two_length a b x y in
    omega (arith, all, two)

pub parts_length : (form : Form) → length (parts_behind form) ≡ one_if (is_offered form) + one_if (takes_certificate form)
parts_length form = two_length (is_offered form) (takes_certificate form) (codes "candidates") (codes "certificate")

pub words_length : (form : Form) → length (words_of form) ≡ length (first_parts form) + (one_if (is_offered form) + one_if (takes_certificate form))
words_length form =
    let front = length-range_with_len (first_word form) (length (first_parts form)) in
    let all = behind_length (range_with_len (first_word form) (length (first_parts form))) (is_offered form) (takes_certificate form) (candidates_at form) (certificate_at form) in
    omega (arith, front, all)

pub as_many : (form : Form) → length (parts_of form) ≡ length (words_of form)
as_many form = behind_length (first_parts form) (is_offered form) (takes_certificate form) (codes "candidates") (codes "certificate") ∙ sym (words_length form)

above : (k n : ℕ) → (k ≡ n → true ≡ false) → n ≤ k → n < k
above k n none l = elim (cases_Bool (nat_lt n k)) [
  | inl t ↦ ltb-true n k t
  | inr f ↦ let e : k ≡ n = grind (arith, nat_tests, f, l) in absurd (clash (none e))
]
  where
    clash : true ≡ false → ⊥
    clash e = absurd cc

-- the item behind those of a list that isn't the one of the first test is that of the second
last_item : {A : Type 0} (front : List A) (a b : Bool) (x y d : A) (k n : ℕ) → length front ≡ n → k < length (front ++ (item_if a x ++ item_if b y)) → n ≤ k → (k ≡ n → a ≡ false)
    → get_or (front ++ (item_if a x ++ item_if b y)) k d ≡ y
last_item front false false x y d k n is low least none = let size = length-append front [] in absurd (omega (arith, low, size, is, least))
last_item front false true x y d k n is low least none =
    let size = length-append front (y ∷ []) in
    let at : k - n ≡ 0 = omega (arith, low, size, is, least) in
    get_or-append_right front (y ∷ []) n k d is least ∙ ap (λ i. get_or (y ∷ []) i d) at
last_item front true false x y d k n is low least none =
    let size = length-append front (x ∷ []) in
    let more = above k n none least in
    absurd (omega (arith, low, size, is, more))
last_item front true true x y d k n is low least none =
    let size = length-append front (x ∷ y ∷ []) in
    let more = above k n none least in
    let at : k - n ≡ 1 = omega (arith, low, size, is, more) in
    get_or-append_right front (x ∷ y ∷ []) n k d is least ∙ ap (λ i. get_or (x ∷ y ∷ []) i d) at

-- a file behind those of the case that isn't that of candidates is that of the certificate
module _ (form : Form) (k : ℕ) (low : k < length (words_of form)) where
  module _ (least : length (first_parts form) ≤ k) (none : k ≡ length (first_parts form) → is_offered form ≡ false) where
    pub last_word : get_or (words_of form) k 0 ≡ certificate_at form
    last_word = last_item (range_with_len (first_word form) (length (first_parts form))) (is_offered form) (takes_certificate form) (candidates_at form) (certificate_at form) 0 k (length (first_parts form))
        (length-range_with_len (first_word form) (length (first_parts form))) low least none

    pub last_part : get_or (parts_of form) k [] ≡ codes "certificate"
    last_part = last_item (first_parts form) (is_offered form) (takes_certificate form) (codes "candidates") (codes "certificate") [] k (length (first_parts form)) refl (subst (λ n. k < n) (sym (as_many form)) low) least none

  pub word_here : (w : ℕ) → w ≡ get_or (words_of form) k 0 → drop k (words_of form) ≡ w ∷ drop (suc k) (words_of form)
  word_here w is = drop-cons (words_of form) k 0 low ∙ ap (λ v. v ∷ drop (suc k) (words_of form)) (sym is)

  pub part_here : (part : List ℕ) → part ≡ get_or (parts_of form) k [] → drop k (parts_of form) ≡ part ∷ drop (suc k) (parts_of form)
  part_here part is = drop-cons (parts_of form) k [] (subst (λ n. k < n) (sym (as_many form)) low) ∙ ap (λ p. p ∷ drop (suc k) (parts_of form)) (sym is)

-- the search for a command of a case among some
abbrev pub search_among : List (List ℕ) → CaseForm → List CaseCommand → Option Form
search_among words from commands = find (fits words) (map (λ command. Case command from) commands)

-- its first command is found where the words fit it, and else the search goes on
module _ (words : List (List ℕ)) (from : CaseForm) (commands : List CaseCommand) (k : ℕ) (low : k < length commands) where
  first : (b : Bool) → fits words (Case (get_or commands k Report) from) ≡ b
      → search_among words from (drop k commands) ≡ cond b (Some (Case (get_or commands k Report) from)) (search_among words from (drop (suc k) commands))
  first b e = ap (search_among words from) (drop-cons commands k Report low) ∙ ap (λ b. cond b (Some (Case (get_or commands k Report) from)) (search_among words from (drop (suc k) commands))) e

  pub search_ends : fits words (Case (get_or commands k Report) from) ≡ true → search_among words from (drop k commands) ≡ Some (Case (get_or commands k Report) from)
  search_ends = first true

  pub search_goes_on : fits words (Case (get_or commands k Report) from) ≡ false → search_among words from (drop k commands) ≡ search_among words from (drop (k + 1) commands)
  search_goes_on e = first false e ∙ ap (λ n. search_among words from (drop n commands)) (sym (add-one k))
