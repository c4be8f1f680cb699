-- How many decided meters have a pair: one more with each that takes a branch, and once they have all the pairs, the further
-- meters have none.
use Rattle.std.proofs.Common.{◌≡◌, ℕ, ◌+◌, ◌<◌, ◌≤◌, Bool, true, false, not, Some, None, List, [], ◌∷◌, length, get_or, set, refl, sym, ap, ◌∙◌, inl, inr, arith, get_or-set_same, get_or-set_other}
use Rattle.std.proofs.lemmas.Bool.{cases_Bool, cases_eq}
use Rattle.obs_graph.specs.Graph.{Graph}
use Rattle.obs_matroid.specs.Lists.{In, IsDistinct}
use Rattle.obs_matroid.specs.Assignments.{Pair, items}
use Rattle.obs_matroid.specs.inner.Assignments.{part}
use Rattle.obs_matroid.proofs.Lists.{clash, In_same, length-within}
use Rattle.obs_matroid.proofs.Bounds.{length-items, length-parts}
use Rattle.obs_matroid.proofs.Order.{length-same}
use Rattle.obs_matroid.proofs.Pairs.{In-items, In-items_from, In-part, In-part_from, IsDistinct-part}
use Rattle.obs_matroid.proofs.Slots.{IsDistinct-slots, pair_from_parts, slot_at, slot_from}
use Rattle.obs_meter.specs.declared.Touch.{Touch}
use Rattle.obs_assign.specs.Assignment.{Assignment}
use Rattle.obs_assign.specs.inner.Assignment.{IsWhole, StandsOver, has_flag, is_frozen, pairs}
use Rattle.obs_first.specs.inner.Deciding.{IsDecided, KeepsFrozen, frozen_pairs}
use Rattle.obs_first.proofs.Frozen.{frozen_same}
use Rattle.obs_first.proofs.Deciding.{Decided-none}

frozen_distinct : (a : Assignment) → IsDistinct (items (frozen_pairs a))
frozen_distinct a = IsDistinct-part (is_frozen a) (pairs a) (IsDistinct-slots a.slots)

-- a frozen pair stays one
frozen_stays : (a c : Assignment) → KeepsFrozen a c → (p : Pair) → In p (frozen_pairs a) → is_frozen c p.0 ≡ true → In p (frozen_pairs c)
frozen_stays a c keeps p i t =
    let u = In-part_from (is_frozen a) (pairs a) p i in
    In-part (is_frozen c) (pairs c) p (slot_at c.slots p.0 p.1 (keeps p.0 u.1 ∙ slot_from a.slots p u.0)) t

-- and was one
frozen_was : (a c : Assignment) → KeepsFrozen a c → (p : Pair) → In p (frozen_pairs c) → is_frozen a p.0 ≡ true → In p (frozen_pairs a)
frozen_was a c keeps p i t =
    let u = In-part_from (is_frozen c) (pairs c) p i in
    In-part (is_frozen a) (pairs a) p (slot_at a.slots p.0 p.1 (sym (keeps p.0 t) ∙ slot_from c.slots p u.0)) t

-- where the same are frozen, they are as many
pub count_same : (a c : Assignment) → c.frozen ≡ a.frozen → KeepsFrozen a c → length (frozen_pairs c) ≡ length (frozen_pairs a)
count_same a c e keeps = length-same (frozen_pairs c) (frozen_pairs a) (frozen_distinct c) (frozen_distinct a) (λ p. (
  (λ i. frozen_was a c keeps p i (sym (frozen_same a c e p.0) ∙ (In-part_from (is_frozen c) (pairs c) p i).1)),
  (λ i. frozen_stays a c keeps p i (frozen_same a c e p.0 ∙ (In-part_from (is_frozen a) (pairs a) p i).1)),
))

-- the next meter to decide isn't frozen
pub next_thawed : (g : Graph) (touches : List Touch) (a : Assignment) (m long : ℕ) → IsDecided g.ends touches a m long → is_frozen a m ≡ false
next_thawed g touches a m long d = elim (cases_Bool (is_frozen a m)) [
  | inl t ↦ let u = ((d.frozen m).0 t).0 in absurd (omega (arith, u))
  | inr f ↦ f
]

-- where one more takes a branch, one more
pub count_taken : (a c : Assignment) (m e : ℕ) → m < length a.frozen → is_frozen a m ≡ false → get_or c.slots m None ≡ Some e → c.frozen ≡ set a.frozen m true → KeepsFrozen a c
    → length (frozen_pairs c) ≡ length (frozen_pairs a) + 1
count_taken a c m e low thawed has frozen keeps =
    let at : (x : ℕ) → is_frozen c x ≡ has_flag (set a.frozen m true) x = λ x. ap (λ (f : List Bool). has_flag f x) frozen in
    let on : is_frozen c m ≡ true = at m ∙ get_or-set_same a.frozen m true false low in
    let off : (x : ℕ) → (x ≡ m → ⊥) → is_frozen c x ≡ is_frozen a x = λ x n. at x ∙ get_or-set_other a.frozen m x true false n in
    let new : In m (items (frozen_pairs a)) → ⊥ = λ i.
    let v = In-items_from (frozen_pairs a) m i in clash (In-part_from (is_frozen a) (pairs a) v.0 v.1).1 (ap (is_frozen a) (sym v.2) ∙ thawed) in
    let n = length-same (frozen_pairs c) ((m, e) ∷ frozen_pairs a) (frozen_distinct c) (new, frozen_distinct a) (λ p. (
      (λ i. let u = In-part_from (is_frozen c) (pairs c) p i in
          elim (cases_eq p.0 m) [
            | inl s ↦ inl (pair_from_parts p m e s (let k : Some p.1 ≡ Some e = sym (slot_from c.slots p u.0) ∙ (ap (λ y. get_or c.slots y None) s ∙ has) in cc k))
            | inr d ↦ inr (frozen_was a c keeps p i (sym (off p.0 d) ∙ u.1))
          ]),
      (λ i. elim i [
        | inl s ↦ In_same p (m, e) (frozen_pairs c) s (In-part (is_frozen c) (pairs c) (m, e) (slot_at c.slots m e has) on)
        | inr j ↦
            let u = In-part_from (is_frozen a) (pairs a) p j in
            frozen_stays a c keeps p j (off p.0 (λ s. clash u.1 (ap (is_frozen a) s ∙ thawed)) ∙ u.1)
      ]),
    )) in
    omega (arith, n)

-- where they are all the pairs, each meter that has a pair is frozen
all_frozen : (a : Assignment) → length (pairs a) ≤ length (frozen_pairs a) → (p : Pair) → In p (pairs a) → is_frozen a p.0 ≡ true
all_frozen a l p i = elim (cases_Bool (is_frozen a p.0)) [
  | inl t ↦ t
  | inr f ↦
      let n = length-parts (is_frozen a) (pairs a) in
      absurd (some_there (part (λ x. not (is_frozen a x)) (pairs a)) p (In-part (λ x. not (is_frozen a x)) (pairs a) p i (ap not f)) (omega (arith, n, l)))
]
  where
    some_there : (A : List Pair) (q : Pair) → In q A → length A ≡ 0 → ⊥
    some_there [] q j e = j
    some_there (x ∷ A) q j e = absurd (omega (arith, e))

-- then each further meter has none
pub Decided-full : (g : Graph) (touches : List Touch) (a : Assignment) (m long : ℕ) → IsDecided g.ends touches a m long → IsWhole a → StandsOver a g touches → long ≤ length (frozen_pairs a)
    → IsDecided g.ends touches a (m + 1) long
Decided-full g touches a m long d whole stands l =
    let e = d.length_is in
    let frozen = all_frozen a (omega (arith, l, e)) in
    Decided-none g touches a m long d whole stands a whole stands (λ x f. refl) (omega (arith, e))
    (λ y i B h j.
    let bare : In m (items (pairs a)) → ⊥ = λ k.
    let v = In-items_from (pairs a) m k in
    let u = (d.frozen m).0 (ap (is_frozen a) v.2 ∙ frozen v.0 v.1) in
    let low = u.0 in omega (arith, low) in
    let n = length-within (m ∷ items (pairs a)) (items B) (bare, IsDistinct-slots a.slots)
    (λ x k. elim k [
      | inl s ↦ In_same x m (items B) s (In-items B (m, y) j)
      | inr k ↦ let v = In-items_from (pairs a) x k in In_same x v.0.0 (items B) v.2 (In-items B v.0 (h.extends v.0 v.1 (frozen v.0 v.1)))
    ]) in
    let o = d.longest B h.assigns in
    let p = length-items (pairs a) in
    let q = length-items B in
    absurd (omega (arith, n, o, p, q, e)))
    refl

-- where nothing is frozen, none
pub count_none : (a : Assignment) → ((x : ℕ) → is_frozen a x ≡ false) → length (frozen_pairs a) ≡ 0
count_none a thawed = none_there (frozen_pairs a) (λ p i. let u = In-part_from (is_frozen a) (pairs a) p i in clash u.1 (thawed p.0))
  where
    none_there : (A : List Pair) → ((p : Pair) → In p A → ⊥) → length A ≡ 0
    none_there [] h = refl
    none_there (p ∷ A) h = absurd (h p (inl refl))
