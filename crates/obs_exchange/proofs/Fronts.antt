-- How many of the first branches at each vertex were walked, by flags and counts.
use Rattle.std.proofs.Common.{◌≡◌, ℕ, zero, suc, ◌<◌, Bool, true, false, cond, List, [], ◌∷◌, length, get_or, set, replicate, refl, sym, ap, ◌∙◌, arith}
use Rattle.obs_exchange.specs.inner.Stars.{fronts_of}

pub length-fronts_of : (bs : List Bool) (ns : List ℕ) → length (fronts_of bs ns) ≡ length bs
length-fronts_of [] ns = refl
length-fronts_of (b ∷ bs) [] = ap suc (length-fronts_of bs [])
length-fronts_of (b ∷ bs) (n ∷ ns) = ap suc (length-fronts_of bs ns)

-- a vertex of which something may be known has a flag
pub flag_low : (bs : List Bool) (ns seen : List ℕ) (v : ℕ) → fronts_of bs ns ≡ seen → v < length seen → v < length bs
flag_low bs ns seen v is l = let same : length (fronts_of bs ns) ≡ length seen = ap length is in let len = length-fronts_of bs ns in omega (arith, same, len, l)

pub get_or-fronts_of : (bs : List Bool) (ns : List ℕ) (v : ℕ) → v < length bs → length ns ≡ length bs → get_or (fronts_of bs ns) v 0 ≡ cond (get_or bs v false) (get_or ns v 0) 0
get_or-fronts_of [] ns v l e = absurd (omega (arith, l))
get_or-fronts_of (b ∷ bs) [] v l e = absurd (omega (arith, e))
get_or-fronts_of (b ∷ bs) (n ∷ ns) zero l e = refl
get_or-fronts_of (b ∷ bs) (n ∷ ns) (suc v) l e = get_or-fronts_of bs ns v (omega (arith, l)) (omega (arith, e))

-- what is known of a vertex, by its flag
pub front_at : (bs : List Bool) (ns seen : List ℕ) (v : ℕ) (b : Bool) → v < length bs → length ns ≡ length bs → fronts_of bs ns ≡ seen → get_or bs v false ≡ b
    → get_or seen v 0 ≡ cond b (get_or ns v 0) 0
front_at bs ns seen v b l e is flag = ap (λ (xs : List ℕ). get_or xs v 0) (sym is) ∙ (get_or-fronts_of bs ns v l e ∙ ap (λ t. cond t (get_or ns v 0) 0) flag)

-- a count is noted
pub fronts_of-set : (bs : List Bool) (ns : List ℕ) (v count : ℕ) → length ns ≡ length bs → fronts_of (set bs v true) (set ns v count) ≡ set (fronts_of bs ns) v count
fronts_of-set [] [] v count e = refl
fronts_of-set [] (n ∷ ns) v count e = absurd (omega (arith, e))
fronts_of-set (b ∷ bs) [] v count e = absurd (omega (arith, e))
fronts_of-set (b ∷ bs) (n ∷ ns) zero count e = refl
fronts_of-set (b ∷ bs) (n ∷ ns) (suc v) count e = ap (λ xs. cond b n 0 ∷ xs) (fronts_of-set bs ns v count (omega (arith, e)))

-- no flag is set
pub fronts_of-none : (k : ℕ) (ns : List ℕ) → fronts_of (replicate k false) ns ≡ replicate k 0
fronts_of-none zero ns = refl
fronts_of-none (suc k) [] = ap (λ xs. 0 ∷ xs) (fronts_of-none k [])
fronts_of-none (suc k) (n ∷ ns) = ap (λ xs. 0 ∷ xs) (fronts_of-none k ns)
