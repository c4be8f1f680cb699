-- A list from which a number was taken, whose last number came to its place.
use Rattle.std.proofs.Common.{◌≡◌, ◌≢◌, ℕ, ◌-◌, ◌<◌, ◌≤◌, List, length, get_or, set, take, sym, ap, ◌∙◌, ⊎_elim, ◌↔◌, arith, get_or-set_same, get_or-set_other, length-set}
use Rattle.std.proofs.lemmas.Bool.{cases_eq, cases_lt}
use Rattle.std.proofs.lemmas.List.{get_or-take, get_or_default, length-take-le}
use Rattle.obs_matroid.specs.Lists.{In, IsDistinct}
use Rattle.obs_matroid.proofs.Contained.{Contains-from_In, In-from_Contains, IsDistinct-from_pairs, pairs_from_IsDistinct}

-- a number of the first so many has a place there
pub place_in : (list : List ℕ) (count x : ℕ) → count ≤ length list → In x (take count list) → (j : ℕ) × (j < count) × (get_or list j 0 ≡ x)
place_in list count x room has =
    let c = Contains-from_In x (take count list) has in
    let low : c.0 < count = omega (arith, c.1, length-take-le count list room) in
    (c.0, low, sym (get_or-take count list c.0 0 low) ∙ (get_or_default (take count list) c.0 0 x c.1 ∙ c.2))

-- a number that stands in a list, and at no place before i, stands at i or behind it
pub still_ahead : (list : List ℕ) (e i : ℕ) → In e list → ((j : ℕ) → j < i → get_or list j 0 ≡ e → ⊥) → i < length list
still_ahead list e i has before =
    let c = Contains-from_In e list has in
    ⊎_elim
    (λ (less : c.0 < i). absurd (before c.0 less (get_or_default list c.0 0 e c.1 ∙ c.2)))
    (λ (more : i ≤ c.0). omega (arith, c.1))
    (cases_lt c.0 i)

in_place : (list : List ℕ) (count x j : ℕ) → count ≤ length list → j < count → get_or list j 0 ≡ x → In x (take count list)
in_place list count x j room low at =
    let inside : j < length (take count list) = omega (arith, length-take-le count list room) in
    In-from_Contains x (take count list) (j, inside, get_or_default (take count list) j x 0 inside ∙ (get_or-take count list j 0 low ∙ at))

module _ (list : List ℕ) (count i e : ℕ) (room : count ≤ length list) (different : IsDistinct (take count list)) (low : i < count) (there : get_or list i 0 ≡ e) where
  abbrev last : ℕ
  last = count - 1

  abbrev new : List ℕ
  new = set list i (get_or list last 0)

  apart : (j l : ℕ) → j < l → l < count → get_or list j 0 ≡ get_or list l 0 → ⊥
  apart j l jl lc same =
      let inside : l < length (take count list) = omega (arith, length-take-le count list room) in
      pairs_from_IsDistinct (take count list) different j l 0 jl inside (get_or-take count list j 0 (omega arith) ∙ (same ∙ sym (get_or-take count list l 0 lc)))

  -- two places have two numbers
  one_place : (j l : ℕ) → j < count → l < count → (j ≡ l → ⊥) → get_or list j 0 ≡ get_or list l 0 → ⊥
  one_place j l jc lc ne same = ⊎_elim (λ (less : j < l). apart j l less lc same) (λ (more : l ≤ j). apart l j (omega arith) jc (sym same)) (cases_lt j l)

  at_i : get_or new i 0 ≡ get_or list last 0
  at_i = get_or-set_same list i (get_or list last 0) 0 (omega arith)

  at_other : (j : ℕ) → (j ≡ i → ⊥) → get_or new j 0 ≡ get_or list j 0
  at_other j ne = get_or-set_other list i j (get_or list last 0) 0 ne

  -- where the number at a place of the new list stood
  source : (j : ℕ) → j < last → (l : ℕ) × (l < count) × (l ≡ i → ⊥) × (get_or new j 0 ≡ get_or list l 0) × ((j ≡ i → l ≡ last) × ((j ≡ i → ⊥) → l ≡ j))
  source j l =
      ⊎_elim
      (λ (at : j ≡ i). (last, omega arith, (λ same. omega arith), ap (λ x. get_or new x 0) at ∙ at_i, ((λ a. refl_last), (λ ne. absurd (ne at)))))
      (λ (ne : j ≡ i → ⊥). (j, omega arith, ne, at_other j ne, ((λ a. absurd (ne a)), (λ b. refl_j j))))
      (cases_eq j i)
    where
      refl_last : last ≡ last
      refl_last = omega arith

      refl_j : (j : ℕ) → j ≡ j
      refl_j j = omega arith

  pub unlisted-different : IsDistinct (take (count - 1) (set list i (get_or list (count - 1) 0)))
  unlisted-different =
      IsDistinct-from_pairs (take last new) (λ j l d jl inside.
      let len : length (take last new) ≡ last = length-take-le last new (omega (arith, length-set list i (get_or list last 0))) in
      let lc : l < last = omega (arith, inside) in
      let jc : j < last = omega arith in
      let a = source j jc in
      let b = source l lc in
      λ same.
      let one : get_or list a.0 0 ≡ get_or list b.0 0 =
      sym a.3 ∙ (sym (get_or-take last new j 0 jc) ∙ (get_or_default (take last new) j 0 d (omega arith) ∙ (same ∙ (get_or_default (take last new) l d 0 inside ∙ (get_or-take last new l 0 lc ∙ b.3))))) in
      one_place a.0 b.0 a.1 b.1 (two j l jl lc a.0 b.0 a.2 b.2 a.4 b.4) one)
    where
      two : (j l : ℕ) → j < l → l < last → (a b : ℕ) → (a ≡ i → ⊥) → (b ≡ i → ⊥) → (j ≡ i → a ≡ last) × ((j ≡ i → ⊥) → a ≡ j) → (l ≡ i → b ≡ last) × ((l ≡ i → ⊥) → b ≡ l) → a ≡ b → ⊥
      two j l jl lc a b na nb fa fb same =
          ⊎_elim
          (λ (at : j ≡ i). omega (arith, fa.0 at, fb.1 (λ o. omega arith)))
          (λ (ne : j ≡ i → ⊥). ⊎_elim (λ (at : l ≡ i). omega (arith, fa.1 ne, fb.0 at)) (λ (no : l ≡ i → ⊥). omega (arith, fa.1 ne, fb.1 no)) (cases_eq l i))
          (cases_eq j i)

  pub unlisted-exactly : (x : ℕ) → In x (take (count - 1) (set list i (get_or list (count - 1) 0))) ↔ (In x (take count list) × (x ≢ e))
  unlisted-exactly x = (was, is)
    where
      long : last ≤ length new
      long = omega (arith, length-set list i (get_or list last 0))

      was : In x (take last new) → In x (take count list) × (x ≢ e)
      was has =
          let p = place_in new last x long has in
          let a = source p.0 p.1 in
          let at : get_or list a.0 0 ≡ x = sym a.3 ∙ p.2 in
          (in_place list count x a.0 room a.1 at, (λ same. one_place a.0 i a.1 low a.2 (at ∙ (same ∙ sym there))))

      is : In x (take count list) × (x ≢ e) → In x (take last new)
      is (has, ne) =
          let p = place_in list count x room has in
          let off : p.0 ≡ i → ⊥ = λ same. ne (sym p.2 ∙ (ap (λ y. get_or list y 0) same ∙ there)) in
          ⊎_elim
          (λ (less : p.0 < last). in_place new last x p.0 long less (at_other p.0 off ∙ p.2))
          (λ (more : last ≤ p.0).
          let at : p.0 ≡ last = omega (arith, p.1) in
          in_place new last x i long (omega arith) (at_i ∙ (ap (λ y. get_or list y 0) (sym at) ∙ p.2)))
          (cases_lt p.0 last)
