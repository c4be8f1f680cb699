-- Marks while numbers are seen one after the other.
use Rattle.std.proofs.Common.{◌≡◌, ℕ, zero, suc, ◌<◌, ◌||◌, Bool, true, false, eqb, List, [], ◌∷◌, length, get_or, set, replicate, refl, sym, ap, ◌∙◌, inl, inr, arith, get_or-set_same, get_or-set_other}
use Rattle.std.specs.List.{list_any}
use Rattle.std.proofs.lemmas.Bool.{cases_eq, eq-eqb, ne_eqb}
use Rattle.obs_rankcut.proofs.Marked.{number_flips}
use Rattle.obs_cert.specs.Flaws.{twice}
use Rattle.obs_cert.specs.inner.Marks.{AreBelow, is_marked}
use Rattle.obs_meter.specs.Lost.{is_listed}

fresh_case : (f m a h t : Bool) → m ≡ false → (f || ((m || a) || (h || t))) ≡ (f || ((h || a) || t))
fresh_case true false true true true e = refl
fresh_case true false true true false e = refl
fresh_case true false true false true e = refl
fresh_case true false true false false e = refl
fresh_case true false false true true e = refl
fresh_case true false false true false e = refl
fresh_case true false false false true e = refl
fresh_case true false false false false e = refl
fresh_case false false true true true e = refl
fresh_case false false true true false e = refl
fresh_case false false true false true e = refl
fresh_case false false true false false e = refl
fresh_case false false false true true e = refl
fresh_case false false false true false e = refl
fresh_case false false false false true e = refl
fresh_case false false false false false e = refl
fresh_case f true a h t e = cc

split_any : (p q : ℕ → Bool) (xs : List ℕ) → list_any (λ y. p y || q y) xs ≡ (list_any p xs || list_any q xs)
split_any p q [] = refl
split_any p q (x ∷ xs) = ap (λ (b : Bool). (p x || q x) || b) (split_any p q xs) ∙ four (p x) (q x) (list_any p xs) (list_any q xs)
  where
    four : (a b c d : Bool) → ((a || b) || (c || d)) ≡ ((a || c) || (b || d))
    four true true true true = refl
    four true true true false = refl
    four true true false true = refl
    four true true false false = refl
    four true false true true = refl
    four true false true false = refl
    four true false false true = refl
    four true false false false = refl
    four false true true true = refl
    four false true true false = refl
    four false true false true = refl
    four false true false false = refl
    four false false true true = refl
    four false false true false = refl
    four false false false true = refl
    four false false false false = refl

pub any_agree : {X : Type 0} (p q : X → Bool) (xs : List X) → ((x : X) → p x ≡ q x) → list_any p xs ≡ list_any q xs
any_agree p q [] same = refl
any_agree p q (x ∷ xs) same = ap (λ (b : Bool). b || list_any p xs) (same x) ∙ ap (λ (b : Bool). q x || b) (any_agree p q xs same)

none_any : (p : ℕ → Bool) (xs : List ℕ) → ((x : ℕ) → p x ≡ false) → list_any p xs ≡ false
none_any p [] none = refl
none_any p (x ∷ xs) none = ap (λ (b : Bool). b || list_any p xs) (none x) ∙ none_any p xs none

-- what came so far is marked
pub record Seeing (all left : List ℕ) (flag : Bool) (stamp : ℕ) (marks : List ℕ) : Type 0 where
  pub again : twice all ≡ (flag || (list_any (is_marked marks stamp) left || twice left))
  pub marked : (x : ℕ) → is_listed all x ≡ (is_marked marks stamp x || is_listed left x)
  pub below : AreBelow (suc stamp) marks

fresh : (stamp : ℕ) (marks : List ℕ) → AreBelow stamp marks → (x : ℕ) → is_marked marks stamp x ≡ false
fresh stamp marks below x = ne_eqb (get_or marks x 0) stamp (λ e. let l = below x in omega (arith, l, e))

pub seeing_none : (all : List ℕ) (stamp : ℕ) (marks : List ℕ) → AreBelow stamp marks → Seeing all all false stamp marks
seeing_none all stamp marks below = record {
  again = ap (λ (b : Bool). false || (b || twice all)) (sym (none_any (is_marked marks stamp) all (fresh stamp marks below)));
  marked = λ x. ap (λ (b : Bool). b || is_listed all x) (sym (fresh stamp marks below x));
  below = λ x. let l = below x in omega (arith, l);
}

module _ (all : List ℕ) (x : ℕ) (left : List ℕ) (flag : Bool) (stamp : ℕ) (marks : List ℕ) (so_far : Seeing all (x ∷ left) flag stamp marks) (room : x < length marks) where
  now : (y : ℕ) → is_marked (set marks x stamp) stamp y ≡ (eqb y x || is_marked marks stamp y)
  now y = elim (cases_eq y x) [
    | inl is ↦ ap (λ z. is_marked (set marks x stamp) stamp z) is ∙ eq-eqb (get_or (set marks x stamp) x 0) stamp (get_or-set_same marks x stamp 0 room) ∙ ap (λ (b : Bool). b || is_marked marks stamp y) (sym (eq-eqb y x is))
    | inr ne ↦ ap (λ (k : ℕ). eqb k stamp) (get_or-set_other marks x y stamp 0 ne) ∙ ap (λ (b : Bool). b || is_marked marks stamp y) (sym (ne_eqb y x ne))
  ]

  any_now : list_any (is_marked (set marks x stamp) stamp) left ≡ (is_listed left x || list_any (is_marked marks stamp) left)
  any_now = any_agree (is_marked (set marks x stamp) stamp) (λ y. eqb y x || is_marked marks stamp y) left now ∙ split_any (λ y. eqb y x) (is_marked marks stamp) left

  has_now : (y : ℕ) → is_listed all y ≡ (is_marked (set marks x stamp) stamp y || is_listed left y)
  has_now y = so_far.marked y ∙ three (is_marked marks stamp y) (eqb x y) (is_listed left y) ∙ ap (λ (b : Bool). (b || is_marked marks stamp y) || is_listed left y) (number_flips x y)
      ∙ ap (λ (b : Bool). b || is_listed left y) (sym (now y))
    where
      three : (a b c : Bool) → (a || (b || c)) ≡ ((b || a) || c)
      three true true true = refl
      three true true false = refl
      three true false true = refl
      three true false false = refl
      three false true true = refl
      three false true false = refl
      three false false true = refl
      three false false false = refl

  below_now : AreBelow (suc stamp) (set marks x stamp)
  below_now y = elim (cases_eq y x) [
    | inl is ↦ (let e : get_or (set marks x stamp) y 0 ≡ stamp = ap (λ z. get_or (set marks x stamp) z 0) is ∙ get_or-set_same marks x stamp 0 room in omega (arith, e))
    | inr ne ↦ (let l = so_far.below y in omega (arith, l, get_or-set_other marks x y stamp 0 ne))
  ]

  pub seeing_new : is_marked marks stamp x ≡ false → Seeing all left flag stamp (set marks x stamp)
  seeing_new m = record {
    again = so_far.again ∙ fresh_case flag (is_marked marks stamp x) (list_any (is_marked marks stamp) left) (is_listed left x) (twice left) m ∙ ap (λ (b : Bool). flag || (b || twice left)) (sym any_now);
    marked = has_now;
    below = below_now;
  }

  pub seeing_again : is_marked marks stamp x ≡ true → Seeing all left true stamp (set marks x stamp)
  seeing_again m = record {
    again = so_far.again ∙ marked_case flag (is_marked marks stamp x) (list_any (is_marked marks stamp) left) (is_listed left x || twice left) m;
    marked = has_now;
    below = below_now;
  }
    where
      marked_case : (f m a r : Bool) → m ≡ true → (f || ((m || a) || r)) ≡ true
      marked_case true m a r e = refl
      marked_case false true a r e = refl
      marked_case false false a r e = cc

-- at the end all came
module _ (all : List ℕ) (flag : Bool) (stamp : ℕ) (marks : List ℕ) (so_far : Seeing all [] flag stamp marks) where
  pub seen_twice : flag ≡ twice all
  seen_twice = sym (so_far.again ∙ alone flag)
    where
      alone : (f : Bool) → (f || (false || false)) ≡ f
      alone true = refl
      alone false = refl

  pub seen_marked : (x : ℕ) → is_marked marks stamp x ≡ is_listed all x
  seen_marked x = sym (so_far.marked x ∙ alone (is_marked marks stamp x))
    where
      alone : (m : Bool) → (m || false) ≡ m
      alone true = refl
      alone false = refl

-- where all numbers are 0, no mark is at the first stamp
zero_at : (n x : ℕ) → get_or {A = ℕ} (replicate n 0) x 0 ≡ 0
zero_at zero x = refl
zero_at (suc n) zero = refl
zero_at (suc n) (suc x) = zero_at n x

pub read_none : (n : ℕ) (marks : List ℕ) → marks ≡ replicate n 0 → (x : ℕ) → get_or marks x 0 ≡ 0
read_none n marks none x = ap (λ (xs : List ℕ). get_or xs x 0) none ∙ zero_at n x

pub below_first : (n : ℕ) (marks : List ℕ) → marks ≡ replicate n 0 → AreBelow 1 marks
below_first n marks none x = omega (arith, read_none n marks none x)
