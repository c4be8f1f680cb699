-- A list whose front was moved by one place, and one whose numbers from some place on were changed.
use borrow.Rule.Slice.PartMut.{put_mid}
use Rattle.std.proofs.Common.{◌≡◌, All, ℕ, suc, ◌+◌, ◌-◌, ◌<◌, ◌≤◌, List, [], ◌∷◌, ◌++◌, length, ltb, get_or, map, set, take, drop, refl, sym, ap, ◌∙◌, arith}
use Rattle.std.specs.List.{copy_within, insert, remove}
use Rattle.std.specs.List.Sorted.{IsNonDecreasing}
use Rattle.std.proofs.Math.Seq.{take-set-lt}
use Rattle.std.proofs.lemmas.List.{append-nil, append_assoc, drop_all, drop-take, length-drop, length-map, length-take, length-take-le, get_or-drop, get_or_default, set-append_left, take_more_set, take_rest, take-take}
use Rattle.std.proofs.lemmas.List.Edits.{paste_all, take-paste}
use Rattle.std.proofs.lemmas.List.Sums.{count_by-le-length}
use Rattle.std.proofs.lemmas.Slice.{put_mid-paste}
use Rattle.obs_graph.specs.inner.Placing.{part_of, place_of, total_of}

-- the first total numbers with one more among them
pub shifted_up : (xs ys : List ℕ) (place total i : ℕ) → place ≤ total → total < length xs → ys ≡ copy_within xs place total (place + 1) → take (suc total) (set ys place i) ≡ insert (take total xs) place i
shifted_up xs ys place total i low room is =
    let rest = take (total - place) (drop place xs) in
    let sum : place + 1 + (total - place) ≡ suc total = omega arith in
    let moved : take (suc total) ys ≡ take (place + 1) xs ++ rest = ap (λ k. take k ys) (sym sum) ∙ (ap (take (place + 1 + (total - place))) is ∙ take-paste xs (place + 1) (drop place xs) (total - place) (omega arith) (omega (arith, length-drop place xs))) in
    let front : set (take (place + 1) xs) place i ≡ take place xs ++ i ∷ [] = sym (take-set-lt (place + 1) xs place i (omega arith)) ∙ take_more_set xs place i (omega arith) in
    let behind : drop place (take total xs) ≡ rest = let e : total ≡ place + (total - place) = omega arith in ap (λ k. drop place (take k xs)) e ∙ drop-take place (total - place) xs in
    take-set-lt (suc total) ys place i (omega arith)
    ∙ (ap (λ l. set l place i) moved
    ∙ (set-append_left (take (place + 1) xs) rest place i (omega (arith, length-take-le (place + 1) xs (omega arith)))
    ∙ (ap (λ l. l ++ rest) front ∙ (append_assoc (take place xs) (i ∷ []) rest ∙ rw (take-take place total xs low, behind) refl))))

-- and with one less
pub shifted_down : (xs ys : List ℕ) (place total : ℕ) → place < total → total ≤ length xs → ys ≡ copy_within xs (place + 1) total place → take (total - 1) ys ≡ remove (take total xs) place
shifted_down xs ys place total low room is =
    let rest = take (total - (place + 1)) (drop (place + 1) xs) in
    let sum : place + (total - (place + 1)) ≡ total - 1 = omega arith in
    let moved : take (total - 1) ys ≡ take place xs ++ rest = ap (λ k. take k ys) (sym sum) ∙ (ap (take (place + (total - (place + 1)))) is ∙ take-paste xs place (drop (place + 1) xs) (total - (place + 1)) (omega arith) (omega (arith, length-drop (place + 1) xs))) in
    let next : suc place ≡ place + 1 = omega arith in
    let behind : drop (suc place) (take total xs) ≡ rest = let e : total ≡ place + 1 + (total - (place + 1)) = omega arith in rw next (ap (λ k. drop (place + 1) (take k xs)) e ∙ drop-take (place + 1) (total - (place + 1)) xs) in
    moved ∙ rw (take-take place total xs (omega arith), behind) refl

-- what is written over all from m on
pub changed_from : (f : ℕ → ℕ) (m : ℕ) (xs ys : List ℕ) → m ≤ length xs → ys ≡ map f (take (length xs - m) (drop m xs)) → put_mid m (length xs - m) xs ys ≡ take m xs ++ map f (drop m xs)
changed_from f m xs ys low is =
    let n = length xs - m in
    let zs = map f (drop m xs) in
    let size : n ≡ length zs = omega (arith, length-map (drop m xs) f, length-drop m xs) in
    put_mid-paste m n xs ys zs n (is ∙ ap (map f) (take_rest xs m)) refl size
    ∙ (paste_all xs m zs n size ∙ ap (λ l. take m xs ++ l) (ap (λ l. zs ++ l) (drop_all (m + n) xs (omega arith)) ∙ append-nil zs))

-- a place in a part is not behind it, and a part ends before the last
pub place_low : (starts at : List ℕ) (v i : ℕ) → suc v < length starts → IsNonDecreasing starts → (place_of starts at v i ≤ get_or starts (suc v) 0) × (get_or starts (suc v) 0 ≤ total_of starts)
place_low starts at v i low rise =
    let from = get_or starts v 0 in
    let to = get_or starts (suc v) 0 in
    let some = count_by-le-length (λ p. ltb p i) (part_of starts at v) in
    let up = rise v (suc v) 0 (omega arith) low in
    let size = length-take (to - from) (drop from at) in
    (omega arith, rise (suc v) (length starts - 1) 0 (omega arith) (omega arith))

-- the number k places behind m lies between that at m and the last
number_behind : (starts : List ℕ) (m k d : ℕ) → IsNonDecreasing starts → k < length (drop m starts) → (get_or starts m 0 ≤ get_or (drop m starts) k d) × (get_or (drop m starts) k d ≤ total_of starts)
number_behind starts m k d rise l =
    let low : m + k < length starts = omega (arith, length-drop m starts) in
    rw (get_or-drop m starts k d, get_or_default starts (m + k) d 0 low) (rise m (m + k) 0 (omega arith) low, rise (m + k) (length starts - 1) 0 (omega arith) (omega arith))

-- so do all from m on
pub numbers_behind : (starts : List ℕ) (m : ℕ) → IsNonDecreasing starts → All (λ n. (get_or starts m 0 ≤ n) × (n ≤ total_of starts)) (take (length starts - m) (drop m starts))
numbers_behind starts m rise = rw (take_rest starts m) (λ k d l. number_behind starts m k d rise l)
