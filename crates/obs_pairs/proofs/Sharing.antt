-- Meters that share their class, marked by one pass over the classes.
use Rattle.std.proofs.Common.{◌≡◌, ◌≢◌, ℕ, ◌+◌, ◌<◌, ◌≤◌, Bool, true, false, not, ◌&&◌, ◌||◌, eqb, List, [], ◌∷◌, length, get_or, set, refl, sym, ap, ◌∙◌, subst, inl, inr, arith}
use Rattle.std.specs.Cmp.Derive.{one_truth}
use Rattle.std.specs.List.{list_any, range_with_len}
use Rattle.std.proofs.lemmas.Bool.{and_from, and_parts, cases_Bool, cases_eq, eq-eqb, eqb-true, ne_eqb, not-true, or_left, or_right}
use Rattle.std.proofs.lemmas.List.{get_or-set_other, get_or-set_same, length-set}
use Rattle.obs_matroid.specs.Lists.{In}
use Rattle.obs_matroid.proofs.Lists.{clash}
use Rattle.obs_matroid.proofs.Ranges.{below_from, below_in}
use Rattle.obs_assign.specs.inner.Assignment.{has_flag}
use Rattle.obs_pairs.specs.PairWork.{has_another}
use Rattle.obs_pairs.specs.inner.PairWork.{AreFirst, AreShared}

-- some entry passes
any_in : (test : ℕ → Bool) (xs : List ℕ) → list_any test xs ≡ true → (j : ℕ) × In j xs × (test j ≡ true)
any_in test [] t = clash t refl
any_in test (x ∷ xs) t = elim (cases_Bool (test x)) [
  | inl y ↦ (x, inl refl, y)
  | inr f ↦ let r = any_in test xs (ap (λ b. b || list_any test xs) (sym f) ∙ t) in (r.0, inr r.1, r.2)
]

any_from : (test : ℕ → Bool) (xs : List ℕ) (j : ℕ) → In j xs → test j ≡ true → list_any test xs ≡ true
any_from test [] j i t = absurd i
any_from test (x ∷ xs) j (inl e) t = or_left (test x) (list_any test xs) (ap test (sym e) ∙ t)
any_from test (x ∷ xs) j (inr i) t = or_right (test x) (list_any test xs) (any_from test xs j i t)

-- another entry below i is that of k
abbrev pub Another : List ℕ → ℕ → ℕ → Type 0
Another list k i = (j : ℕ) × (j < i) × (j ≢ k) × (get_or list j 0 ≡ get_or list k 0)

-- the flags below i are those of the entries below i
pub record IsSharing (list : List ℕ) (before flags : List Bool) (i : ℕ) : Type 0 where
  pub len : length flags ≡ length before
  pub marked : (k : ℕ) → k < i → has_flag flags k ≡ true → Another list k i
  pub unmarked : (k : ℕ) → k < i → has_flag flags k ≡ false → Another list k i → ⊥

module _ (list : List ℕ) (first : AreFirst list) (before : List Bool) where
  pub Sharing-none : IsSharing list before before 0
  Sharing-none = record {
    len = refl;
    marked = λ k l t. absurd (omega (arith, l));
    unmarked = λ k l f. absurd (omega (arith, l));
  }

  module _ (flags : List Bool) (i : ℕ) (low : i < length list) (room : length list ≤ length flags) (h : IsSharing list before flags i) where
    -- the first of a class has no other before it
    pub Sharing-first : get_or list i 0 ≡ i → IsSharing list before (set flags i false) (i + 1)
    Sharing-first own = record {
      len = length-set flags i false ∙ h.len;
      marked = λ k l t. elim (cases_eq k i) [
        | inl e ↦ clash (subst (λ (x : ℕ). has_flag (set flags i false) x ≡ true) e t) (get_or-set_same flags i false false (omega (arith, low, room)))
        | inr n ↦
            let a = h.marked k (omega (arith, l, n)) (sym (get_or-set_other flags i k false false n) ∙ t) in
            (a.0, omega (arith, a.1), a.2, a.3)
      ];
      unmarked = λ k l f a. elim (cases_eq k i) [
        | inl e ↦
            let j = first a.0 (omega (arith, a.1, low)) in
            let same = a.3 ∙ (ap (λ x. get_or list x 0) e ∙ own) in
            let apart = a.2 in
            absurd (omega (arith, j.0, same, a.1, apart, e))
        | inr n ↦ elim (cases_eq a.0 i) [
          | inl e ↦
              let same : i ≡ get_or list k 0 = sym own ∙ (ap (λ x. get_or list x 0) (sym e) ∙ a.3) in
              let j = first k (omega (arith, l, low)) in
              absurd (omega (arith, j.0, same, l, n))
          | inr m ↦ h.unmarked k (omega (arith, l, n)) (sym (get_or-set_other flags i k false false n) ∙ f) (a.0, omega (arith, a.1, m), a.2, a.3)
        ]
      ];
    }

    -- a later one of a class, and the first of it
    pub Sharing-later : get_or list i 0 ≢ i → IsSharing list before (set (set flags i true) (get_or list i 0) true) (i + 1)
    Sharing-later apart =
        let c = get_or list i 0 in
        let at = first i low in
        let before_i : c < i = omega (arith, at.0, apart) in
        let room_c : c < length (set flags i true) = (let e = length-set flags i true in omega (arith, e, before_i, low, room)) in
        record {
          len = length-set (set flags i true) c true ∙ (length-set flags i true ∙ h.len);
          marked = λ k l t. elim (cases_eq k i) [
            | inl e ↦ (c, omega (arith, before_i), (λ x. apart (x ∙ e)), at.1 ∙ ap (λ x. get_or list x 0) (sym e))
            | inr n ↦ elim (cases_eq k c) [
              | inl e ↦ (i, omega (arith), (λ x. n (sym x)), sym at.1 ∙ ap (λ x. get_or list x 0) (sym e))
              | inr m ↦
                  let a = h.marked k (omega (arith, l, n)) (sym (kept k n m) ∙ t) in
                  (a.0, omega (arith, a.1), a.2, a.3)
            ]
          ];
          unmarked = λ k l f a. elim (cases_eq k c) [
            | inl e ↦ clash (subst (λ (x : ℕ). has_flag (set (set flags i true) c true) x ≡ true) (sym e) (get_or-set_same (set flags i true) c true false room_c)) f
            | inr m ↦ elim (cases_eq k i) [
              | inl e ↦ clash (subst (λ (x : ℕ). has_flag (set (set flags i true) c true) x ≡ true) (sym e) (get_or-set_other (set flags i true) c i true false (λ x. apart (sym x)) ∙ get_or-set_same flags i true false (omega (arith, low, room)))) f
              | inr n ↦ h.unmarked k (omega (arith, l, n)) (sym (kept k n m) ∙ f) (elim (cases_eq a.0 i) [
                | inr o ↦ (a.0, omega (arith, a.1, o), a.2, a.3)
                | inl e ↦ (c, before_i, (λ x. m (sym x)), at.1 ∙ (ap (λ x. get_or list x 0) (sym e) ∙ a.3))
              ])
            ]
          ];
        }
      where
        kept : (k : ℕ) → (k ≡ i → ⊥) → (k ≡ get_or list i 0 → ⊥) → has_flag (set (set flags i true) (get_or list i 0) true) k ≡ has_flag flags k
        kept k n m = get_or-set_other (set flags i true) (get_or list i 0) k true false m ∙ get_or-set_other flags i k true false n

  -- in the end the flags are those of all
  pub Sharing-all : (flags : List Bool) (i : ℕ) → length list ≡ i → IsSharing list before flags i → AreShared list flags
  Sharing-all flags i e h k l =
      let test : ℕ → Bool = λ j. not (eqb j k) && eqb (get_or list j 0) (get_or list k 0) in
      one_truth (has_flag flags k) (has_another list k)
      (λ t.
      let a = h.marked k (omega (arith, l, e)) t in
      any_from test (range_with_len 0 (length list)) a.0 (below_in (length list) a.0 (omega (arith, a.1, e)))
      (and_from (not (eqb a.0 k)) (eqb (get_or list a.0 0) (get_or list k 0)) (ap not (ne_eqb a.0 k a.2)) (eq-eqb (get_or list a.0 0) (get_or list k 0) a.3)))
      (λ t. elim (cases_Bool (has_flag flags k)) [
        | inl y ↦ y
        | inr f ↦
            let a = any_in test (range_with_len 0 (length list)) t in
            let u = and_parts (not (eqb a.0 k)) (eqb (get_or list a.0 0) (get_or list k 0)) a.2 in
            let low = below_from (length list) a.0 a.1 in
            absurd (h.unmarked k (omega (arith, l, e)) f (a.0, omega (arith, low, e), (λ x. clash (eq-eqb a.0 k x) (not-true (eqb a.0 k) u.0)), eqb-true (get_or list a.0 0) (get_or list k 0) u.1))
      ])
