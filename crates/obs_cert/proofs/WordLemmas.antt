-- The words of a line, by where a tab stands.
use denote.Ref.{Bor}
use Rattle.std.proofs.Common.{◌≡◌, ℕ, codes, suc, ◌<◌, ◌≤◌, All, true, false, cond, not, List, [], ◌∷◌, ◌++◌, length, take, drop, slice_index_or, Option, None, Some, IfSome, refl, sym, ap, ◌∙◌, subst, inl, inr, arith}
use Rattle.std.specs.Prelude.{◌==◌, nat_le}
use Rattle.std.proofs.Math.Numerals.{one-add}
use Rattle.std.proofs.lemmas.Bool.{and_parts, cases_Bool, leb-true, ne_eqb}
use Rattle.std.proofs.lemmas.List.Splits.{join_with_byte-slice_split, slice_split_at, slice_split_none}
use Rattle.std.proofs.lemmas.List.Sums.{AllPass-from_list_all}
use Rattle.std.specs.List.{list_all, onto_first, position_or_len, slice_split}
use Rattle.std.specs.Str.{bytes_eq}
use Rattle.obs_text.specs.Names.{is_name, is_name_byte}
use Rattle.obs_cert.specs.inner.Forms.{with_tabs}
use Rattle.obs_cert.specs.Words.{is_tab, item_in, line_of_words, of_two, words_of}

-- the place of the first tab
abbrev tab_at : List ℕ → ℕ
tab_at bytes = position_or_len is_tab bytes

tab_at-other : (b : ℕ) (bs : List ℕ) → is_tab b ≡ false → tab_at (b ∷ bs) ≡ suc (tab_at bs)
tab_at-other b bs e = rw e (one-add (tab_at bs))

tab_at-tab : (b : ℕ) (bs : List ℕ) → is_tab b ≡ true → tab_at (b ∷ bs) ≡ 0
tab_at-tab b bs e = rw e refl

pub words_of-more : (bytes : List ℕ) → tab_at bytes < length bytes → words_of bytes ≡ take (tab_at bytes) bytes ∷ words_of (drop (suc (tab_at bytes)) bytes)
words_of-more [] less = absurd (omega arith)
words_of-more (b ∷ bs) less =
    elim (cases_Bool (is_tab b)) [
      | inl e ↦ rw e refl
      | inr e ↦
          let here : tab_at bs < length bs = omega (arith, less, tab_at-other b bs e) in
          rw e (ap (onto_first b) (words_of-more bs here) ∙ ap (λ n. take n (b ∷ bs) ∷ words_of (drop (suc n) (b ∷ bs))) (sym (one-add (tab_at bs))))
    ]

pub words_of-last : (bytes : List ℕ) → tab_at bytes ≡ length bytes → words_of bytes ≡ bytes ∷ []
words_of-last [] none = refl
words_of-last (b ∷ bs) none =
    elim (cases_Bool (is_tab b)) [
      | inl e ↦ absurd (omega (arith, none, tab_at-tab b bs e))
      | inr e ↦
          let here : tab_at bs ≡ length bs = omega (arith, none, tab_at-other b bs e) in
          rw e (ap (onto_first b) (words_of-last bs here))
    ]

-- the words are the parts between the tabs, and make the bytes again
words_of-split : (bytes : List ℕ) → words_of bytes ≡ slice_split is_tab bytes
words_of-split [] = refl
words_of-split (b ∷ bs) = ap (λ words. cond (is_tab b) ([] ∷ words) (onto_first b words)) (words_of-split bs)

pub with_tabs-words_of : (bytes : List ℕ) → with_tabs (words_of bytes) ≡ bytes
with_tabs-words_of bytes = ap with_tabs (words_of-split bytes) ∙ join_with_byte-slice_split 0x09 bytes

-- a byte of a plain word is no control byte
pub not_control : (byte control : ℕ) → is_name_byte byte ≡ true → control < 32 → (byte == control) ≡ false
not_control byte control plain low =
    let above : 32 ≤ byte = leb-true 32 byte (and_parts (nat_le 32 byte) (not (byte == 0x7F)) plain).0 in
    ne_eqb byte control (λ same. absurd (omega (arith, same, above, low)))

has_no_tab : (word : List ℕ) → list_all is_name_byte word ≡ true → All (λ byte. is_tab byte ≡ false) word
has_no_tab word plain = λ k d less.
    not_control (slice_index_or word k d) 9 (AllPass-from_list_all is_name_byte word plain k d less) (omega arith)

-- a plain word and a tab behind it, and the last word
words_of-before : (word rest : List ℕ) → list_all is_name_byte word ≡ true → words_of (word ++ 0x09 ∷ rest) ≡ word ∷ words_of rest
words_of-before word rest plain =
    words_of-split (word ++ 0x09 ∷ rest) ∙ slice_split_at is_tab word 0x09 rest (has_no_tab word plain) refl
    ∙ ap (λ words. word ∷ words) (sym (words_of-split rest))

words_of-alone : (word : List ℕ) → list_all is_name_byte word ≡ true → words_of word ≡ word ∷ []
words_of-alone word plain = words_of-split word ∙ slice_split_none is_tab word (has_no_tab word plain)

-- plain words with a tab between each two are read back
pub words_of-with_tabs : (word : List ℕ) (words : List (List ℕ)) → list_all (list_all is_name_byte) (word ∷ words) ≡ true
    → words_of (with_tabs (word ∷ words)) ≡ word ∷ words
words_of-with_tabs word [] plain = words_of-alone word (and_parts (list_all is_name_byte word) true plain).0
words_of-with_tabs word (next ∷ words) plain =
    let both = and_parts (list_all is_name_byte word) (list_all (list_all is_name_byte) (next ∷ words)) plain in
    words_of-before word (with_tabs (next ∷ words)) both.0 ∙ ap (λ others. word ∷ others) (words_of-with_tabs next words both.1)

-- there is always a word
some_word : (bytes : List ℕ) → (word : List ℕ) × (words : List (List ℕ)) × (words_of bytes ≡ word ∷ words)
some_word [] = ([], [], refl)
some_word (b ∷ bs) =
    elim (cases_Bool (is_tab b)) [
      | inl e ↦ ([], words_of bs, rw e refl)
      | inr e ↦ (let others = some_word bs in (b ∷ others.0, others.1, rw e (ap (onto_first b) others.2)))
    ]

pub six_words : (kind a b c d bytes : List ℕ) → line_of_words (kind ∷ a ∷ b ∷ c ∷ d ∷ words_of bytes) ≡ None
six_words kind a b c d bytes = let some = some_word bytes in ap (λ words. line_of_words (kind ∷ a ∷ b ∷ c ∷ d ∷ words)) some.2

-- a word that others follow
pub word_more : (bytes word : List ℕ) (o : Option (Bor (List ℕ))) (rest : Bor (List ℕ)) → IfSome o (λ (r : Bor (List ℕ)). words_of bytes ≡ word ∷ words_of r.now) → o ≡ Some rest → words_of bytes ≡ word ∷ words_of rest.now
word_more bytes word o rest more is = subst (λ o. IfSome o (λ (r : Bor (List ℕ)). words_of bytes ≡ word ∷ words_of r.now)) is more

-- bytes that are no name make no item, and with a word no line but one of a cost
pub no_item : (sort name : List ℕ) → false ≡ is_name name → item_in sort name ≡ None
no_item sort name none =
    elim (cases_Bool (bytes_eq sort (codes "meter"))) [
      | inl e ↦ rw (e, sym none) refl
      | inr e ↦
          elim (cases_Bool (bytes_eq sort (codes "candidate"))) [
            | inl d ↦ rw (e, d, sym none) refl
            | inr d ↦ rw (e, d) refl
          ]
    ]

pub no_name : (kind a : List ℕ) → bytes_eq kind (codes "cost") ≡ false → false ≡ is_name a → of_two kind a ≡ None
no_name kind a other none =
    elim (cases_Bool (bytes_eq kind (codes "tree"))) [
      | inl e ↦ rw (e, sym none) refl
      | inr e ↦
          elim (cases_Bool (bytes_eq kind (codes "chosen"))) [
            | inl d ↦ rw (e, other, d, sym none) refl
            | inr d ↦ rw (e, other, d) refl
          ]
    ]
