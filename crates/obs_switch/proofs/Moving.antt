-- One entry of an array moves, and places change one after another.
use Rattle.std.proofs.Common.{◌≡◌, ℕ, suc, ◌-◌, ◌<◌, ◌≤◌, List, [], ◌∷◌, ◌++◌, length, get_or, take, drop, sym, ap, ◌∙◌, arith, length-append}
use Rattle.std.proofs.Math.Seq.{drop-append_seam, take-append_seam}
use Rattle.std.proofs.lemmas.List.{append_assoc}
use borrow.Rule.Slice.PartMut.{put_mid, mid_of}

-- a part of an array, and the array with another part in its place
module _ (front part behind members : List ℕ) (a k : ℕ) (is : members ≡ front ++ (part ++ behind)) (at : length front ≡ a) (long : length part ≡ k) where
  mid-is : mid_of a k members ≡ part
  mid-is =
      ap (λ t. take k (drop a t)) is
      ∙ ap (λ n. take k (drop n (front ++ (part ++ behind)))) (sym at)
      ∙ ap (take k) (drop-append_seam front (part ++ behind))
      ∙ ap (λ n. take n (part ++ behind)) (sym long)
      ∙ take-append_seam part behind

  front-is : take a members ≡ front
  front-is = ap (take a) is ∙ ap (λ n. take n (front ++ (part ++ behind))) (sym at) ∙ take-append_seam front (part ++ behind)

  behind-is : drop k (drop a members) ≡ behind
  behind-is =
      ap (λ t. drop k (drop a t)) is
      ∙ ap (λ n. drop k (drop n (front ++ (part ++ behind)))) (sym at)
      ∙ ap (drop k) (drop-append_seam front (part ++ behind))
      ∙ ap (λ n. drop n (part ++ behind)) (sym long)
      ∙ drop-append_seam part behind

  put-part : (new other : List ℕ) → new ≡ other → put_mid a k members new ≡ front ++ (other ++ behind)
  put-part new other same =
      ap (λ t. t ++ (new ++ drop k (drop a members))) front-is
      ∙ ap (λ t. front ++ (t ++ drop k (drop a members))) same
      ∙ ap (λ t. front ++ (other ++ t)) behind-is

pub rotated_back : (front : List ℕ) (item : ℕ) (between behind members : List ℕ) (a k : ℕ) (new : List ℕ) → members ≡ front ++ (item ∷ (between ++ behind)) → length front ≡ a → suc (length between) ≡ k
    → new ≡ drop 1 (mid_of a k members) ++ take 1 (mid_of a k members) → put_mid a k members new ≡ front ++ (between ++ (item ∷ behind))
rotated_back front item between behind members a k new is at long made =
    let part = item ∷ between in
    let turned : new ≡ between ++ (item ∷ []) = made ∙ ap (λ t. drop 1 t ++ take 1 t) (mid-is front part behind members a k is at long) in
    put-part front part behind members a k is at long new (between ++ (item ∷ [])) turned ∙ ap (λ t. front ++ t) (append_assoc between (item ∷ []) behind)

pub rotated_front : (front : List ℕ) (item : ℕ) (between behind members : List ℕ) (a k : ℕ) (new : List ℕ) → members ≡ front ++ (between ++ (item ∷ behind)) → length front ≡ a → suc (length between) ≡ k
    → new ≡ drop (length (mid_of a k members) - 1) (mid_of a k members) ++ take (length (mid_of a k members) - 1) (mid_of a k members) → put_mid a k members new ≡ front ++ (item ∷ (between ++ behind))
rotated_front front item between behind members a k new is at long made =
    let part = between ++ (item ∷ []) in
    let size : length part ≡ suc (length between) = length-append between (item ∷ []) ∙ omega arith in
    let same = is ∙ ap (λ t. front ++ t) (sym (append_assoc between (item ∷ []) behind)) in
    let less : length part - 1 ≡ length between = omega (arith, size) in
    let turned : new ≡ item ∷ between = made
    ∙ ap (λ t. drop (length t - 1) t ++ take (length t - 1) t) (mid-is front part behind members a k same at (size ∙ long))
    ∙ ap (λ n. drop n part ++ take n part) less
    ∙ ap (λ t. t ++ take (length between) part) (drop-append_seam between (item ∷ []))
    ∙ ap (λ t. (item ∷ []) ++ t) (take-append_seam between (item ∷ [])) in
    put-part front part behind members a k same at (size ∙ long) new (item ∷ between) turned

-- of the places from `from` on those below k were changed, and no other
abbrev pub AreChanged : (ℕ → ℕ → Type 0) → List ℕ → List ℕ → ℕ → ℕ → Type 0
AreChanged R was now from k = ((j : ℕ) → from ≤ j → j < k → R (get_or now j 0) (get_or was j 0)) × ((j : ℕ) → j < from → get_or now j 0 ≡ get_or was j 0) × ((j : ℕ) → k ≤ j → get_or now j 0 ≡ get_or was j 0)
