-- What a search for an exchange path reaches, and the path that it finds.
use Rattle.std.proofs.Common.{◌≡◌, ℕ, List, [], ◌∷◌, refl, inl, inr, Bool, true, false, ◌||◌, ◌⊎◌}
use Rattle.std.proofs.lemmas.Bool.{cases_Bool, or_cases}
use Rattle.obs_matroid.specs.Lists.{In, other_than}
use Rattle.obs_matroid.specs.Matroid.{Matroid}
use Rattle.obs_matroid.specs.inner.Matroid.{IsMatroid}
use Rattle.obs_matroid.specs.Assignments.{Pair, items, branches, IsAssignment}
use Rattle.obs_matroid.specs.inner.Assignments.{part, others}
use Rattle.obs_matroid.specs.inner.Closed.{IsClosed, HasFrozen, HoldsSources, IsGrown}
use Rattle.obs_matroid.specs.inner.Exchange.{LeadsTo, source, put_all}
use Rattle.obs_matroid.proofs.Lists.{clash, In_same, other_true}
use Rattle.obs_matroid.proofs.Pairs.{In-items_from, In-part, In-part_from, more_pairs}
use Rattle.obs_matroid.proofs.Exchange.{linked, exchange_path, put_all_stays}

module _ (g : Matroid) (touch : ℕ → List ℕ) (M : List ℕ) (frozen from : ℕ → Bool) (A : List Pair) where
  -- a search reaches an item: a source, or one with a pair on the cycle of a branch that a reached item touches
  pub data Reached : ℕ → Type 0 where
    start : {m : ℕ} → In m M → from m ≡ true → (In m (items A) → ⊥) → Reached m
    step : {x : ℕ} (m e : ℕ) → Reached m → In e (touch m) → g.spans (branches A) e ≡ true → g.spans (others A x) e ≡ false → frozen x ≡ false → Reached x

  -- moves without shortcuts from a source to m
  pub record Trail (m : ℕ) (back : List Pair) : Type 0 where
    pub leads : LeadsTo g A m back
    pub moves : (q : Pair) → In q back → In q.0 M × In q.1 (touch q.0) × (frozen q.0 ≡ false)
    pub begins : from (source m back) ≡ true
    pub had_none : In (source m back) (items A) → ⊥

  -- the first move of the moves whose branch the pairs without that of x do not span, with what leads to it
  pub record Found (x : ℕ) : Type 0 where
    pub move : Pair
    pub back : List Pair
    pub trail : Trail move.0 back
    pub this : In move.0 M × In move.1 (touch move.0) × (frozen move.0 ≡ false)
    pub spanned : g.spans (branches A) move.1 ≡ true
    pub bad : g.spans (others A x) move.1 ≡ false
    pub rest : (r : Pair) → In r back → g.spans (others A x) r.1 ≡ true

  pub Trail-tail : (m : ℕ) (q : Pair) (back : List Pair) → Trail m (q ∷ back) → Trail q.0 back
  Trail-tail m q back t = record { leads = t.leads.1; moves = λ r i. t.moves r (inr i); begins = t.begins; had_none = t.had_none }

  pub find_cut : (x m : ℕ) (back : List Pair) → Trail m back → ((r : Pair) → In r back → g.spans (others A x) r.1 ≡ true) ⊎ Found x
  find_cut x m [] t = inl (λ r i. absurd i)
  find_cut x m (q ∷ back) t =
      elim (find_cut x q.0 back (Trail-tail m q back t)) [
        | inr f ↦ inr f
        | inl all ↦ elim (cases_Bool (g.spans (others A x) q.1)) [
          | inl y ↦ inl (λ r i. elim i [ inl e ↦ rw e y | inr j ↦ all r j ])
          | inr n ↦ inr (record { move = q; back = back; trail = Trail-tail m q back t; this = t.moves q (inl refl); spanned = t.leads.0.spanned; bad = n; rest = all })
        ]
      ]

  pub Trail-found : (x : ℕ) → Found x → (back : List Pair) × Trail x back
  Trail-found x f = (
    f.move ∷ f.back,
    record {
      leads = (record { spanned = f.spanned; on_circuit = f.bad; no_shortcut = f.rest }, f.trail.leads);
      moves = λ q i. elim i [ inl e ↦ rw e f.this | inr j ↦ f.trail.moves q j ];
      begins = f.trail.begins;
      had_none = f.trail.had_none;
    },
  )

  module _ (laws : IsMatroid g) (a : IsAssignment g touch M A) (has : HasFrozen frozen A) where
    pub Reached-in : (m : ℕ) → Reached m → In m M × (frozen m ≡ false)
    Reached-in m (start i f n) = (i, elim (cases_Bool (frozen m)) [ inr r ↦ r | inl t ↦ absurd (n (has m t)) ])
    Reached-in x (step m e r t j n z) =
        let v = In-items_from A x (linked g laws touch M A x (m, e) [] (record { spanned = j; on_circuit = n; no_shortcut = λ q i. absurd i })) in
        (In_same x v.0.0 M v.2 (a.of_items v.0 v.1), z)

    -- moves without shortcuts lead to what is reached
    pub Trail-reached : (m : ℕ) → Reached m → (back : List Pair) × Trail m back
    Trail-reached m (start i f n) = ([], record { leads = n; moves = λ q k. absurd k; begins = f; had_none = n })
    Trail-reached x (step m e r t j n z) =
        let w = Trail-reached m r in
        let q = Reached-in m r in
        elim (find_cut x m w.0 w.1) [
          | inr f ↦ Trail-found x f
          | inl all ↦ Trail-found x (record { move = (m, e); back = w.0; trail = w.1; this = (q.0, t, q.1); spanned = j; bad = n; rest = all })
        ]

    -- moves without shortcuts to an item that touches a free branch give one more pair
    pub Trail-grows : (m e : ℕ) (back : List Pair) → Trail m back → In m M → frozen m ≡ false → In e (touch m) → g.spans (branches A) e ≡ false
        → IsGrown g touch M frozen from A (put_all ((m, e) ∷ back) A) (source m back)
    Trail-grows m e back w i f t n =
        let moves : (p : Pair) → In p ((m, e) ∷ back) → In p.0 M × In p.1 (touch p.0) × (frozen p.0 ≡ false) =
        λ p k. elim k [ inl s ↦ rw s (i, t, f) | inr j ↦ w.moves p j ] in
        let x = exchange_path g laws touch M back A (m, e) a (record { moves = λ p k. ((moves p k).0, (moves p k).1); free = n; leads = w.leads }) in
        record {
          assigns = x.assigns;
          longer = x.longer;
          is_source = w.begins;
          had_none = w.had_none;
          gains = x.gains;
          keeps = x.keeps;
          extends = λ p k z. put_all_stays ((m, e) ∷ back) A p k (λ r j s. clash (rw (← s) z) (moves r j).2);
        }

    -- so a reached item that touches a free branch does
    pub grown : (m e : ℕ) → Reached m → In e (touch m) → g.spans (branches A) e ≡ false → (B : List Pair) × (s : ℕ) × IsGrown g touch M frozen from A B s
    grown m e r t n =
        let w = Trail-reached m r in
        let q = Reached-in m r in
        (put_all ((m, e) ∷ w.0) A, source m w.0, Trail-grows m e w.0 w.1 q.0 q.1 t n)

    -- what is reached lies in every closed set that holds the sources
    pub Reached-least : (T : ℕ → Bool) → IsClosed g touch M frozen A T → HoldsSources M from A T → (m : ℕ) → Reached m → T m ≡ true
    Reached-least T c h m (start i f n) = h m i f n
    Reached-least T c h x (step m e r t j n z) =
        elim (cases_Bool (T x)) [
          | inl y ↦ y
          | inr out ↦ clash
              (more_pairs g laws (part (λ y. T y || frozen y) A) (part (other_than x) A) e
              (λ p i. let u = In-part_from (λ y. T y || frozen y) A p i in
              In-part (other_than x) A p u.0 (other_true x p.0 (λ s. elim (or_cases (T p.0) (frozen p.0) u.1) [ inl b ↦ clash b (rw s out) | inr b ↦ clash b (rw s z) ])))
              (c.spanned m e (Reached-in m r).0 (Reached-least T c h m r) t))
              n
        ]
