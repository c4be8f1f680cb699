-- Arrays that are set back to what they begin with.
use Rattle.std.proofs.Common.{◌≡◌, ℕ, zero, suc, ◌+◌, ◌<◌, ◌≤◌, Bool, true, false, List, [], ◌∷◌, length, replicate, take, get_or, set, refl, sym, ap, ◌∙◌, inl, inr, arith, length-set}
use Rattle.obs_assign.proofs.Keeping.{replicate_at}
use Rattle.std.proofs.lemmas.Bool.{cases_eq}
use Rattle.std.proofs.lemmas.List.{take-replicate, get_or-set_same, get_or-set_other}
use Rattle.obs_matroid.proofs.Lists.{clash}
use Rattle.obs_assign.specs.inner.Assignment.{has_flag}
use Rattle.obs_exchange.specs.inner.Blank.{AreClear, AreLedFrom, AreListedFrom, AreNumbers, IsEntry}
use Rattle.obs_exchange.proofs.Queued.{flag-from}

pub none_set : (n k : ℕ) (flags after : List Bool) → AreClear n flags → k ≡ n → after ≡ take k flags → after ≡ replicate n false
none_set n k flags after c same is =
    is ∙ (ap (λ (i : ℕ). take i flags) same ∙ (ap (take n) c.clear ∙ take-replicate n (length flags) false c.enough))

-- a flag that is set is one of them
pub flag_below : (flags : List Bool) (k : ℕ) → has_flag flags k ≡ true → k < length flags
flag_below [] k t = absurd (cc t)
flag_below (b ∷ bs) zero t = omega arith
flag_below (b ∷ bs) (suc k) t = let l = flag_below bs k t in omega (arith, l)

-- no flag is set
pub none_left : (flags : List Bool) → ((k : ℕ) → has_flag flags k ≡ true → ⊥) → flags ≡ replicate (length flags) false
none_left [] n = refl
none_left (true ∷ bs) n = absurd (n zero refl)
none_left (false ∷ bs) n = ap (λ (xs : List Bool). false ∷ xs) (none_left bs (λ k t. n (suc k) t))

-- an entry that isn't the i-th
pub IsEntry-next : (list : List ℕ) (i count k x : ℕ) → IsEntry list i count k → get_or list i 0 ≡ x → (k ≡ x → ⊥) → IsEntry list (suc i) count k
IsEntry-next list i count k x e is n = elim (cases_eq e.place i) [
  | inl p ↦ absurd (n (sym e.there ∙ (ap (λ j. get_or list j 0) p ∙ is)))
  | inr d ↦ record { place = e.place; from = let f = e.from in omega (arith, f, d); low = e.low; there = e.there }
]

-- no entry is left
pub IsEntry-none : (list : List ℕ) (i count k : ℕ) → count ≤ i → IsEntry list i count k → ⊥
IsEntry-none list i count k l e = let f = e.from in let b = e.low in absurd (omega (arith, f, b, l))

-- after one more entry was written
pub IsEntry-more : (list : List ℕ) (count x k : ℕ) → IsEntry list 0 count k → IsEntry (set list count x) 0 (count + 1) k
IsEntry-more list count x k e = let b = e.low in record {
  place = e.place;
  from = e.from;
  low = omega (arith, b);
  there = get_or-set_other list count e.place x 0 (λ p. omega (arith, p, b)) ∙ e.there;
}

pub IsEntry-last : (list : List ℕ) (count x : ℕ) → count < length list → IsEntry (set list count x) 0 (count + 1) x
IsEntry-last list count x l = record { place = count; from = omega arith; low = omega arith; there = get_or-set_same list count x 0 l }

-- the flag of the i-th entry was taken back
pub AreListedFrom-next : (flags : List Bool) (list : List ℕ) (i count x : ℕ) → AreListedFrom flags list i count → get_or list i 0 ≡ x → x < length flags
    → AreListedFrom (set flags x false) list (suc i) count
AreListedFrom-next flags list i count x all is l k t = elim (cases_eq k x) [
  | inl e ↦ clash t (ap (has_flag (set flags x false)) e ∙ get_or-set_same flags x false false l)
  | inr n ↦ IsEntry-next list i count k x (all k (sym (get_or-set_other flags x k false false n) ∙ t)) is n
]

-- the i-th entry has no flag
pub AreListedFrom-skip : (flags : List Bool) (list : List ℕ) (i count x : ℕ) → AreListedFrom flags list i count → get_or list i 0 ≡ x → length flags ≤ x
    → AreListedFrom flags list (suc i) count
AreListedFrom-skip flags list i count x all is l k t =
    IsEntry-next list i count k x (all k t) is (λ e. let b = flag_below flags k t in omega (arith, b, e, l))

-- all were taken back
pub AreListedFrom-end : (flags : List Bool) (list : List ℕ) (i count : ℕ) → count ≤ i → AreListedFrom flags list i count → flags ≡ replicate (length flags) false
AreListedFrom-end flags list i count l all = none_left flags (λ k t. IsEntry-none list i count k l (all k t))

-- a flag was set, and listed
pub AreListedFrom-more : (flags : List Bool) (list : List ℕ) (count x : ℕ) → count < length list → AreListedFrom flags list 0 count
    → AreListedFrom (set flags x true) (set list count x) 0 (count + 1)
AreListedFrom-more flags list count x l all k t = elim (flag-from flags x k t) [
  | inl e ↦ rw e (IsEntry-last list count x l)
  | inr o ↦ IsEntry-more list count x k (all k o.1)
]

pub AreListedFrom-none : (n : ℕ) (list : List ℕ) → AreListedFrom (replicate n false) list 0 0
AreListedFrom-none n list k t = absurd (clash t (replicate_at n k false))

-- the vertex that is the i-th entry leads to itself
pub AreLedFrom-next : (tops list : List ℕ) (i count x : ℕ) → AreLedFrom tops list i count → get_or list i 0 ≡ x → x < length tops
    → AreLedFrom (set tops x x) list (suc i) count
AreLedFrom-next tops list i count x all is l v lv n = elim (cases_eq v x) [
  | inl e ↦ absurd (n (rw e (get_or-set_same tops x x 0 l)))
  | inr d ↦ IsEntry-next list i count v x (all v (omega (arith, lv, length-set tops x x)) (λ h. n (get_or-set_other tops x v x 0 d ∙ h))) is d
]

pub AreLedFrom-skip : (tops list : List ℕ) (i count x : ℕ) → AreLedFrom tops list i count → get_or list i 0 ≡ x → length tops ≤ x
    → AreLedFrom tops list (suc i) count
AreLedFrom-skip tops list i count x all is l v lv n = IsEntry-next list i count v x (all v lv n) is (λ e. omega (arith, lv, e, l))

-- all lead to themselves
pub AreLedFrom-end : (tops list : List ℕ) (i count : ℕ) → count ≤ i → AreLedFrom tops list i count → AreNumbers tops
AreLedFrom-end tops list i count l all v lv = elim (cases_eq (get_or tops v 0) v) [
  | inl e ↦ e
  | inr n ↦ absurd (IsEntry-none list i count v l (all v lv n))
]

-- a vertex that led to itself leads on, and is listed
pub AreLedFrom-more : (tops list : List ℕ) (count x y : ℕ) → count < length list → AreLedFrom tops list 0 count
    → AreLedFrom (set tops x y) (set list count x) 0 (count + 1)
AreLedFrom-more tops list count x y l all v lv n = elim (cases_eq v x) [
  | inl e ↦ rw e (IsEntry-last list count x l)
  | inr d ↦ IsEntry-more list count x v (all v (omega (arith, lv, length-set tops x y)) (λ h. n (get_or-set_other tops x v y 0 d ∙ h)))
]

-- a vertex that is listed already leads elsewhere
pub AreLedFrom-same : (tops list : List ℕ) (count x y : ℕ) → x < length tops → (get_or tops x 0 ≡ x → ⊥) → AreLedFrom tops list 0 count
    → AreLedFrom (set tops x y) list 0 count
AreLedFrom-same tops list count x y l led all v lv n = elim (cases_eq v x) [
  | inl e ↦ rw e (all x l led)
  | inr d ↦ all v (omega (arith, lv, length-set tops x y)) (λ h. n (get_or-set_other tops x v y 0 d ∙ h))
]

pub AreLedFrom-none : (tops list : List ℕ) → AreNumbers tops → AreLedFrom tops list 0 0
AreLedFrom-none tops list own v lv n = absurd (n (own v lv))
