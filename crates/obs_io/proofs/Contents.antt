-- The content of a word's file in a block, by its first length.
use Rattle.std.proofs.Common.{◌≡◌, ◌-◌, ℕ, zero, suc, Some, None, List, [], ◌∷◌, length, take, drop, min, refl, sym, ap, ◌∙◌, arith}
use Rattle.std.specs.Prelude.{slice_get}
use Rattle.std.proofs.lemmas.List.{drop_min, take_min, take_rest}
use Rattle.std.proofs.lemmas.Option.{none-some}
use Rattle.obs_io.specs.Contents.{content_at}

pub content_none : (bytes lengths : List ℕ) (word : ℕ) → None ≡ slice_get lengths 0 → content_at bytes lengths word ≡ []
unfolding content_at
content_none bytes [] word none = refl
content_none bytes (n ∷ lengths) word none = absurd (none-some n none)

pub content_here : (bytes lengths : List ℕ) (word n : ℕ) → Some n ≡ slice_get lengths 0 → word ≡ 0 → content_at bytes lengths word ≡ take (min n (length bytes)) bytes
unfolding content_at
content_here bytes [] word n some here = absurd (none-some n (sym some))
content_here bytes (m ∷ lengths) zero n some here =
    let same : n ≡ m = cc in
    ap (λ (k : ℕ). take k bytes) (sym same) ∙ sym (take_min n bytes)
content_here bytes (m ∷ lengths) (suc word) n some here = absurd (omega (arith, here))

behind_one : (bytes lengths : List ℕ) (word n : ℕ) → Some n ≡ slice_get lengths 0 → (word ≡ 0 → ⊥)
    → content_at bytes lengths word ≡ content_at (drop (min n (length bytes)) bytes) (drop 1 lengths) (word - 1)
unfolding content_at
behind_one bytes [] word n some behind = absurd (none-some n (sym some))
behind_one bytes (m ∷ lengths) zero n some behind = absurd (behind refl)
behind_one bytes (m ∷ lengths) (suc word) n some behind =
    let same : n ≡ m = cc in
    let less : word ≡ suc word - 1 = omega arith in
    ap (λ (k : ℕ). content_at (drop k bytes) lengths word) (sym same)
    ∙ ap (λ (w : ℕ). content_at (drop n bytes) lengths w) less
    ∙ ap (λ (rest : List ℕ). content_at rest lengths (suc word - 1)) (sym (drop_min n bytes))

pub content_behind : (bytes lengths : List ℕ) (word n count : ℕ) → Some n ≡ slice_get lengths 0 → (word ≡ 0 → ⊥) → count ≡ min n (length bytes)
    → content_at bytes lengths word ≡ content_at (take (length bytes - count) (drop count bytes)) (take (length lengths - 1) (drop 1 lengths)) (word - 1)
content_behind bytes lengths word n count some behind is = rw (take_rest bytes count, take_rest lengths 1, is) (behind_one bytes lengths word n some behind)
