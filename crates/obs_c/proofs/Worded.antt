-- Words and the block that they make.
use Rattle.std.proofs.Common.{◌≡◌, ◌≢◌, ℕ, true, false, not, List, [], ◌∷◌, ◌++◌, refl, sym, ap, ◌∙◌, inl, inr}
use Rattle.std.proofs.lemmas.Bool.{and_parts, cases_Bool, eqb-true, not-true}
use Rattle.std.specs.List.{list_all, onto_first}
use Rattle.obs_c.specs.Blocks.{is_ended, is_zero, words_in}
use Rattle.obs_c.specs.Laws.{HaveNoZero, WordsAreTheBlock, block_of}

onto_first-joined : (byte : ℕ) (words : List (List ℕ)) → words ≢ [] → block_of (onto_first byte words) ≡ byte ∷ block_of words
onto_first-joined byte [] some = absurd (some refl)
onto_first-joined byte (word ∷ words) some = refl

joined : (block : List ℕ) → is_ended block ≡ true → block_of (words_in block) ≡ block
unfolding is_ended words_in
joined [] is = refl
joined (b ∷ []) is = rw is (ap (λ byte. byte ∷ []) (sym (eqb-true b 0 is)))
joined (b ∷ c ∷ rest) is =
    let later : block_of (words_in (c ∷ rest)) ≡ c ∷ rest = joined (c ∷ rest) is in
    elim (cases_Bool (is_zero b)) [
      | inl e ↦ rw e (ap (λ byte. byte ∷ block_of (words_in (c ∷ rest))) (sym (eqb-true b 0 e)) ∙ ap (λ l. b ∷ l) later)
      | inr e ↦
          rw e (onto_first-joined b (words_in (c ∷ rest)) (λ none. (let t : block_of [] ≡ c ∷ rest = sym (ap block_of none) ∙ later in cc)) ∙ ap (λ l. b ∷ l) later)
    ]

one_more : (b : ℕ) (words : List (List ℕ)) → is_zero b ≡ false → HaveNoZero words → HaveNoZero (onto_first b words)
one_more b [] other none = rw other refl
one_more b (word ∷ words) other none = rw other none

zeros : (block : List ℕ) → HaveNoZero (words_in block)
unfolding words_in
zeros [] = refl
zeros (b ∷ bytes) =
    elim (cases_Bool (is_zero b)) [
      | inl e ↦ rw e (zeros bytes)
      | inr e ↦ rw e (one_more b (words_in bytes) e (zeros bytes))
    ]

ended_behind : (word rest : List ℕ) → is_ended ((word ++ 0 ∷ []) ++ rest) ≡ is_ended rest
unfolding is_ended
ended_behind [] [] = refl
ended_behind [] (c ∷ rest) = refl
ended_behind (b ∷ []) rest = ended_behind [] rest
ended_behind (b ∷ c ∷ word) rest = ended_behind (c ∷ word) rest

ended : (words : List (List ℕ)) → is_ended (block_of words) ≡ true
unfolding is_ended
ended [] = refl
ended (word ∷ words) = ended_behind word (block_of words) ∙ ended words

first_word : (word rest : List ℕ) → list_all (λ byte. not (is_zero byte)) word ≡ true → words_in ((word ++ 0 ∷ []) ++ rest) ≡ word ∷ words_in rest
unfolding words_in
first_word [] rest none = refl
first_word (b ∷ word) rest none =
    let both = and_parts (not (is_zero b)) (list_all (λ byte. not (is_zero byte)) word) none in
    let other : is_zero b ≡ false = not-true (is_zero b) both.0 in
    rw other (ap (onto_first b) (first_word word rest both.1))

alone : (words : List (List ℕ)) → HaveNoZero words → words_in (block_of words) ≡ words
unfolding words_in
alone [] none = refl
alone (word ∷ words) none =
    let both = and_parts (list_all (λ byte. not (is_zero byte)) word) (list_all (λ one. list_all (λ byte. not (is_zero byte)) one) words) none in
    first_word word (block_of words) both.0 ∙ ap (λ ws. word ∷ ws) (alone words both.1)

pub WordsAreTheBlock-holds : WordsAreTheBlock
WordsAreTheBlock-holds = record { joined = joined; zeros = zeros; ended = ended; alone = alone }
