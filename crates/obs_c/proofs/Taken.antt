-- Words taken one after another.
use Rattle.std.proofs.Common.{◌≡◌, ℕ, List, [], ◌∷◌, ◌++◌, length, sym, ap, ◌∙◌, subst, append_assoc, arith}
use Rattle.std.proofs.lemmas.List.{append-nil}
use Rattle.std.proofs.lemmas.List.Elements.{All-append, All-cons, All-head, All-nil, All-tail}
use Rattle.std.specs.Prelude.{All, IsUtf8}
use Rattle.obs_c.specs.Blocks.{AreWords, is_ended, words_in}

-- these words are taken, and the rest is left
pub record IsTaken (block : List ℕ) (words : List (List ℕ)) (rest : List ℕ) : Type 0 where
  pub all : words_in block ≡ words ++ words_in rest
  pub ended : is_ended block ≡ is_ended rest
  pub text : All IsUtf8 words

all_behind : (words more : List (List ℕ)) → All IsUtf8 (words ++ more) → All IsUtf8 more
all_behind [] more all = all
all_behind (word ∷ words) more all = all_behind words more (All-tail IsUtf8 word (words ++ more) all)

-- a first word that is no text
pub taken-no_text : (block : List ℕ) (words : List (List ℕ)) (rest word behind : List ℕ) → IsTaken block words rest → words_in rest ≡ word ∷ words_in behind
    → (IsUtf8 word → ⊥) → AreWords block → ⊥
taken-no_text block words rest word behind taken more none well =
    none (All-head IsUtf8 word (words_in behind) (all_behind words (word ∷ words_in behind) (subst (All IsUtf8) (taken.all ∙ ap (λ ws. words ++ ws) more) well.text)))

-- one word more
pub taken-more : (block : List ℕ) (words after : List (List ℕ)) (rest word behind : List ℕ) → IsTaken block words rest → words_in rest ≡ word ∷ words_in behind
    → is_ended rest ≡ is_ended behind → IsUtf8 word → after ≡ words ++ word ∷ [] → IsTaken block after behind
taken-more block words after rest word behind taken more ended text is = record {
  all = taken.all ∙ ap (λ ws. words ++ ws) more ∙ sym (append_assoc words (word ∷ []) (words_in behind)) ∙ ap (λ ws. ws ++ words_in behind) (sym is);
  ended = taken.ended ∙ ended;
  text = subst (All IsUtf8) (sym is) (All-append IsUtf8 words (word ∷ []) taken.text (All-cons IsUtf8 word [] text (All-nil IsUtf8)));
}

-- at the end
pub taken-all : (block : List ℕ) (words : List (List ℕ)) (rest : List ℕ) → IsTaken block words rest → length rest ≡ 0 → words ≡ words_in block
unfolding words_in
taken-all block words [] taken none = sym (taken.all ∙ append-nil words)
taken-all block words (b ∷ rest) taken none = absurd (omega (arith, none))

pub taken-well : (block : List ℕ) (words : List (List ℕ)) (rest : List ℕ) → IsTaken block words rest → length rest ≡ 0 → AreWords block
unfolding is_ended
taken-well block words [] taken none = record {
  ended = taken.ended;
  text = subst (All IsUtf8) (taken-all block words [] taken none) taken.text;
}
taken-well block words (b ∷ rest) taken none = absurd (omega (arith, none))
