-- Lines of words.
use Rattle.std.proofs.Common.{ℕ, ◌≡◌, ◌∙◌, ◌+◌, ◌<◌, ◌≤◌, sym, ap, refl, Bool, true, false, List, [], ◌∷◌, ◌++◌, length, drop, get_or, append_assoc, append-nil, add-one, arith}
use Rattle.std.specs.Prelude.{◌==◌}
use Rattle.std.proofs.Math.ListN.{drop_of_length-le}
use Rattle.std.proofs.Math.Seq.{drop-cons}
use Rattle.std.proofs.lemmas.Bool.{ne_eqb}
use Rattle.obs_report.specs.Lines.{line_of, tabbed}
use Rattle.obs_report.specs.inner.Lines.{end_text, word_text}

-- some words of a line, the first of which may be that of the line
abbrev pub words_text : Bool → List (List ℕ) → List ℕ
words_text first [] = []
words_text first (word ∷ words) = word_text first word ++ tabbed words

pub line_is : (words : List (List ℕ)) → words_text true words ++ end_text ≡ line_of words
line_is [] = refl
line_is (word ∷ words) = append_assoc word (tabbed words) end_text

others : (words : List (List ℕ)) → words_text false words ≡ tabbed words
others [] = refl
others (word ∷ words) = refl

-- one word more of a line
pub word_more : (words : List (List ℕ)) (i : ℕ) (word text whole : List ℕ) → i < length words → word ≡ get_or words i []
    → text ++ words_text (i == 0) (drop i words) ≡ whole → (text ++ word_text (i == 0) word) ++ words_text (i + 1 == 0) (drop (i + 1) words) ≡ whole
word_more words i word text whole l is all =
    let rest = drop (i + 1) words in
    let next : words_text (i + 1 == 0) rest ≡ tabbed rest = ap (λ b. words_text b rest) (ne_eqb (i + 1) 0 (λ e. absurd (omega (arith, e)))) ∙ others rest in
    let here : drop i words ≡ word ∷ rest = drop-cons words i [] l ∙ (ap (λ k. get_or words i [] ∷ drop k words) (sym (add-one i)) ∙ ap (λ w. w ∷ rest) (sym is)) in
    append_assoc text (word_text (i == 0) word) (words_text (i + 1 == 0) rest)
    ∙ (ap (λ t. text ++ (word_text (i == 0) word ++ t)) next ∙ (ap (λ ws. text ++ words_text (i == 0) ws) (sym here) ∙ all))

-- no word is left
pub word_none : (words : List (List ℕ)) (i : ℕ) (text whole : List ℕ) → length words ≤ i → text ++ words_text (i == 0) (drop i words) ≡ whole → text ≡ whole
word_none words i text whole l all = sym (append-nil text) ∙ (ap (λ ws. text ++ words_text (i == 0) ws) (sym (drop_of_length-le words l)) ∙ all)
