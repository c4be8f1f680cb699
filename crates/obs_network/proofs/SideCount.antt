-- How the needed number falls where a branch goes whose ends nothing else joins: `es` are the live branches but this one, and `fs` all.
use Rattle.std.proofs.Common.{◌≡◌, ℕ, zero, suc, ◌+◌, ◌<◌, ◌≤◌, max, Bool, true, false, not, eqb, ◌&&◌, ◌||◌, ◌⊎◌, inl, inr, List, ◌∷◌, refl, sym, ap, ◌∙◌, arith}
use Rattle.std.proofs.lemmas.Bool.{cases_Bool, eq-eqb, ne_eqb}
use Rattle.std.proofs.lemmas.Bool.Decides.{nat_tests}
use Rattle.obs_graph.specs.declared.Ends.{Ends}
use Rattle.obs_graph.specs.Joined.{count_below, first_joined, merged}
use Rattle.obs_graph.proofs.Counts.{count_below-no, count_below-none, count_below-one_more, count_below-yes}
use Rattle.obs_graph.proofs.First.{first_joined-first_joined, first_joined-le, merged_cases}
use Rattle.obs_graph.proofs.Forests.{AreAmong, same_first-among}
use Rattle.obs_graph.proofs.Ranks.{is_moved}
use Rattle.obs_network.proofs.Spared.{same_firsts}

-- a test that passes where one or the other of two tests does, never both
pub count_below-either : (p q r : ℕ → Bool) (n : ℕ) → ((k : ℕ) → k < n → ((p k ≡ q k) × (r k ≡ false)) ⊎ ((p k ≡ r k) × (q k ≡ false))) → count_below p n ≡ count_below q n + count_below r n
count_below-either p q r zero h = refl
count_below-either p q r (suc n) h =
    let rest = count_below-either p q r n (λ k l. h k (omega (arith, l))) in
    elim (h n (omega arith)) [
      | inl one ↦ elim (cases_Bool (q n)) [
        | inl e ↦ omega (arith, rest, count_below-yes p n (one.0 ∙ e), count_below-yes q n e, count_below-no r n one.1)
        | inr e ↦ omega (arith, rest, count_below-no p n (one.0 ∙ e), count_below-no q n e, count_below-no r n one.1)
      ]
      | inr one ↦ elim (cases_Bool (r n)) [
        | inl e ↦ omega (arith, rest, count_below-yes p n (one.0 ∙ e), count_below-yes r n e, count_below-no q n one.1)
        | inr e ↦ omega (arith, rest, count_below-no p n (one.0 ∙ e), count_below-no r n e, count_below-no q n one.1)
      ]
    ]

-- two vertices that become one by a merge were one, or are the two that it merges
pub merged_one : (x y z w : ℕ) → merged x y z ≡ merged x y w → (z ≡ w) ⊎ (((z ≡ x) × (w ≡ y)) ⊎ ((z ≡ y) × (w ≡ x)))
merged_one x y z w e = grind (arith, merged_cases x y z, merged_cases x y w)

max_fixed : (r : ℕ → ℕ) (x y : ℕ) → r x ≡ x → r y ≡ y → r (max x y) ≡ max x y
max_fixed r x y ex ey = elim (one_of x y) [ inl e ↦ ap r e ∙ ex ∙ sym e | inr e ↦ ap r e ∙ ey ∙ sym e ]
  where
    one_of : (x y : ℕ) → (max x y ≡ x) ⊎ (max x y ≡ y)
    one_of x y = grind arith

stays_as : (x y z k : ℕ) → z ≤ k → (k ≡ max x y → ⊥) → not (eqb z k) ≡ not (eqb (merged x y z) k)
stays_as x y z k l ne = grind (arith, nat_tests, merged_cases x y z)

goes : (x y : ℕ) → (x ≡ y → ⊥) → merged x y (max x y) ≡ max x y → ⊥
goes x y ne e = grind (arith, merged_cases x y (max x y))

-- whether a bus adds to the needed number, where these components are energised and these absolute
abbrev pub adds : (ℕ → Bool) → (ℕ → Bool) → List Ends → ℕ → Bool
adds lit fixed es b = lit b && (is_moved es b || fixed b)

module _ (n : ℕ) (es fs : List Ends) (x : Ends) (low_a : x.a < n) (low_b : x.b < n) (more : AreAmong fs (x ∷ es)) (less : AreAmong (x ∷ es) fs)
    (apart : first_joined es x.a ≡ first_joined es x.b → ⊥) where
  abbrev one : ℕ
  one = first_joined es x.a

  abbrev other : ℕ
  other = first_joined es x.b

  -- the greater of the two first vertices is no longer one
  abbrev pub top : ℕ
  top = max one other

  pub top-low : top < n
  top-low = omega (arith, low_a, low_b, first_joined-le es x.a, first_joined-le es x.b)

  pub top-own : first_joined es top ≡ top
  top-own = max_fixed (first_joined es) one other (first_joined-first_joined es x.a) (first_joined-first_joined es x.b)

  pub firsts_are : (u : ℕ) → first_joined fs u ≡ merged one other (first_joined es u)
  firsts_are u = same_firsts fs (x ∷ es) (same_first-among fs (x ∷ es) more) (same_first-among (x ∷ es) fs less) u

  top_moves : is_moved fs top ≡ true
  top_moves = ap not (ne_eqb (first_joined fs top) top (λ e. goes one other apart (sym (firsts_are top ∙ ap (merged one other) top-own) ∙ e)))

  others_stay : (k : ℕ) → (k ≡ top → ⊥) → is_moved es k ≡ is_moved fs k
  others_stay k ne = stays_as one other (first_joined es k) k (first_joined-le es k) ne ∙ ap (λ z. not (eqb z k)) (sym (firsts_are k))

  -- which components are energised before (`lit`) and after (`lit_out`), and absolute; and which buses lose their source
  module _ (lit lit_out fixed fixed_out dead : ℕ → Bool)
      (kept : (u : ℕ) → u < n → lit_out u ≡ true → (lit u ≡ true) × ((fixed u ≡ fixed_out u) × (dead u ≡ false)))
      (left : (u : ℕ) → u < n → lit u ≡ true → (lit_out u ≡ true) ⊎ (dead u ≡ true))
      (gone : (u : ℕ) → u < n → dead u ≡ true → (lit u ≡ true) × (fixed u ≡ false))
      (lit_top : lit top ≡ true) (loose_top : fixed top ≡ false) where
    abbrev between : ℕ → Bool
    between u = adds lit fixed es u

    abbrev pub dead_moved : ℕ → Bool
    dead_moved u = dead u && is_moved es u

    first_step : count_below (adds lit fixed fs) n ≡ suc (count_below between n)
    first_step =
        count_below-one_more between (adds lit fixed fs) top n top-low
        (rw (ap not (eq-eqb (first_joined es top) top top-own), loose_top, lit_top) refl)
        (rw (top_moves, lit_top) refl)
        (λ k l ne. ap (λ m. lit k && (m || fixed k)) (others_stay k ne))

    second_step : count_below between n ≡ count_below (adds lit_out fixed_out es) n + count_below dead_moved n
    second_step =
        count_below-either between (adds lit_out fixed_out es) dead_moved n (λ u l. elim (cases_Bool (lit_out u)) [
          | inl e ↦ let k = kept u l e in inl (rw (k.0, k.1.0, e) refl, rw k.1.1 refl)
          | inr e ↦ elim (cases_Bool (dead u)) [
            | inl d ↦ let g = gone u l d in inr (rw (g.0, g.1, d) (or_none (is_moved es u)), rw e refl)
            | inr d ↦ inl (rw e (ap (λ b. b && (is_moved es u || fixed u)) (off u l e d)), rw d refl)
          ]
        ])
      where
        or_none : (b : Bool) → (b || false) ≡ b
        or_none true = refl
        or_none false = refl

        off : (u : ℕ) → u < n → lit_out u ≡ false → dead u ≡ false → lit u ≡ false
        off u l e d = elim (cases_Bool (lit u)) [
          | inl t ↦ elim (left u l t) [ inl k ↦ absurd (cc (sym k ∙ e)) | inr k ↦ absurd (cc (sym k ∙ d)) ]
          | inr f ↦ f
        ]

    -- the count falls by one and by the dead buses that aren't first
    pub falls : count_below (adds lit fixed fs) n ≡ suc (count_below (adds lit_out fixed_out es) n + count_below dead_moved n)
    falls = omega (arith, first_step, second_step)

    -- so by one where none is dead
    pub falls_by_one : ((u : ℕ) → u < n → dead u ≡ false) → count_below (adds lit fixed fs) n ≡ suc (count_below (adds lit_out fixed_out es) n)
    falls_by_one none = let zero_dead = count_below-none dead_moved n (λ u l. rw (none u l) refl) in omega (arith, falls, zero_dead)

    -- and by their number, where they are what the branches join with one of them
    pub falls_by_side : (d : ℕ) → d < n → ((u : ℕ) → u < n → dead u ≡ eqb (first_joined es d) (first_joined es u)) → count_below (adds lit fixed fs) n ≡ count_below (adds lit_out fixed_out es) n + count_below dead n
    falls_by_side d low are =
        let m = first_joined es d in
        let low_m : m < n = omega (arith, low, first_joined-le es d) in
        let own = first_joined-first_joined es d in
        let more_one = count_below-one_more dead_moved dead m n low_m
        (rw (ap not (eq-eqb (first_joined es m) m own)) (and_no (dead m)))
        (are m low_m ∙ eq-eqb m (first_joined es m) (sym own))
        (λ k l ne. elim (cases_Bool (dead k)) [
          | inl t ↦
              let joined : m ≡ first_joined es k = eqb_is m (first_joined es k) (sym (are k l) ∙ t) in
              rw (t, ap not (ne_eqb (first_joined es k) k (λ e. ne (sym e ∙ sym joined)))) refl
          | inr f ↦ rw f refl
        ]) in
        omega (arith, falls, more_one)
      where
        and_no : (b : Bool) → (b && false) ≡ false
        and_no true = refl
        and_no false = refl

        eqb_is : (a b : ℕ) → eqb a b ≡ true → a ≡ b
        eqb_is a b e = grind (arith, nat_tests)
