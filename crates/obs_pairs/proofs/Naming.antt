-- Keys of classes become their first meters.
use Rattle.std.proofs.Common.{◌≡◌, ℕ, ◌+◌, ◌<◌, ◌≤◌, Option, List, length, get_or, min, set, sym, ap, ◌∙◌, subst, inl, inr, arith}
use Rattle.std.proofs.lemmas.Bool.{cases_eq, cases_lt}
use Rattle.std.proofs.lemmas.List.{get_or-set_other, get_or-set_same, get_or_default, length-set, same_lists}
use Rattle.std.proofs.lemmas.List.FromFn.{get_or-map-range_with_len, length-map-range_with_len}
use Rattle.obs_graph.specs.declared.Ends.{Ends}
use Rattle.obs_graph.specs.Positions.{AreBranches}
use Rattle.obs_meter.specs.declared.Touch.{Touch}
use Rattle.obs_pairs.specs.Partners.{class_at, classes_of}
use Rattle.obs_pairs.specs.inner.Settled.{AreKeyed}
use Rattle.obs_pairs.proofs.Partnered.{class_again, class_low}

-- below i the list has the first meters; from i on it has keys still, and at the key of a class that begins below i its first
pub record AreNamed (n : ℕ) (ends : List (Option Ends)) (touches : List Touch) (list : List ℕ) (i : ℕ) : Type 0 where
  pub places : length list ≡ length touches
  pub done : (k : ℕ) → k < i → get_or list k 0 ≡ class_at n ends touches k
  pub keyed : (k : ℕ) → i ≤ k → k < length touches → (get_or list k 0 < length touches) × (class_at n ends touches (get_or list k 0) ≡ class_at n ends touches k)
  pub named : (k : ℕ) → i ≤ k → k < length touches → class_at n ends touches k < i → get_or list (get_or list k 0) 0 ≡ class_at n ends touches k
  pub own : (k : ℕ) → i ≤ k → k < length touches → i ≤ class_at n ends touches k → get_or list (get_or list k 0) 0 ≡ get_or list k 0
  pub same : (j k : ℕ) → i ≤ j → i ≤ k → j < length touches → k < length touches → i ≤ class_at n ends touches j → class_at n ends touches j ≡ class_at n ends touches k → get_or list j 0 ≡ get_or list k 0

module _ (n : ℕ) (ends : List (Option Ends)) (touches : List Touch) (ok : AreBranches n ends) where
  pub Named-none : (list : List ℕ) → AreKeyed n ends touches list → AreNamed n ends touches list 0
  Named-none list h = record {
    places = h.places;
    done = λ k l. absurd (omega (arith, l));
    keyed = λ k l m. h.keyed k m;
    named = λ k l m e. absurd (omega (arith, e));
    own = λ k l m e. let u = h.keyed k m in h.same (get_or list k 0) k u.0 m u.1;
    same = λ j k a b l m e s. h.same j k l m s;
  }

  module _ (list : List ℕ) (i : ℕ) (low : i < length touches) (h : AreNamed n ends touches list i) where
    first : ℕ
    first = class_at n ends touches i

    key : ℕ
    key = get_or list i 0

    key_low : get_or list i 0 < length touches
    key_low = (h.keyed i (omega arith) low).0

    key_class : class_at n ends touches (get_or list i 0) ≡ class_at n ends touches i
    key_class = (h.keyed i (omega arith) low).1

    -- what is at the key tells the first meter of the class
    pub Named-first : min (get_or list (get_or list i 0) 0) i ≡ class_at n ends touches i
    Named-first =
        let l = class_low n ends touches ok i in
        let u = class_low n ends touches ok (get_or list i 0) in
        let e = key_class in
        elim (cases_lt (class_at n ends touches i) i) [
          | inl m ↦ let v = h.named i (omega arith) low m in omega (arith, v, m)
          | inr m ↦ let v = h.own i (omega arith) low m in omega (arith, v, m, l, u, e)
        ]

    next : List ℕ
    next = set (set list (get_or list i 0) (class_at n ends touches i)) i (class_at n ends touches i)

    at_i : get_or next i 0 ≡ class_at n ends touches i
    unfolding next
    at_i =
        let p = h.places in
        let e = length-set list (get_or list i 0) (class_at n ends touches i) in
        get_or-set_same (set list (get_or list i 0) (class_at n ends touches i)) i (class_at n ends touches i) 0 (omega (arith, e, p, low))

    at_key : get_or next (get_or list i 0) 0 ≡ class_at n ends touches i
    unfolding next
    at_key = elim (cases_eq (get_or list i 0) i) [
      | inl e ↦ ap (λ x. get_or next x 0) e ∙ at_i
      | inr m ↦
          let p = h.places in
          let l = key_low in
          get_or-set_other (set list (get_or list i 0) (class_at n ends touches i)) i (get_or list i 0) (class_at n ends touches i) 0 m
          ∙ get_or-set_same list (get_or list i 0) (class_at n ends touches i) 0 (omega (arith, p, l))
    ]

    elsewhere : (x : ℕ) → (x ≡ i → ⊥) → (x ≡ get_or list i 0 → ⊥) → get_or next x 0 ≡ get_or list x 0
    unfolding next
    elsewhere x m o =
        get_or-set_other (set list (get_or list i 0) (class_at n ends touches i)) i x (class_at n ends touches i) 0 m
        ∙ get_or-set_other list (get_or list i 0) x (class_at n ends touches i) 0 o

    sizes : length next ≡ length touches
    unfolding next
    sizes = length-set (set list (get_or list i 0) (class_at n ends touches i)) i (class_at n ends touches i) ∙ (length-set list (get_or list i 0) (class_at n ends touches i) ∙ h.places)

    -- where another key's class isn't that of i
    at_other : (x : ℕ) → (class_at n ends touches x ≡ class_at n ends touches i → ⊥) → get_or next x 0 ≡ get_or list x 0
    at_other x apart = elsewhere x (λ e. apart (ap (class_at n ends touches) e)) (λ e. apart (ap (class_at n ends touches) e ∙ key_class))

    at_first : get_or next (class_at n ends touches i) 0 ≡ class_at n ends touches i
    at_first = elim (cases_eq (class_at n ends touches i) i) [
      | inl e ↦ ap (λ x. get_or next x 0) e ∙ at_i
      | inr m ↦ elim (cases_eq (class_at n ends touches i) (get_or list i 0)) [
        | inl e ↦ ap (λ x. get_or next x 0) e ∙ at_key
        | inr o ↦ let l = class_low n ends touches ok i in
            elsewhere (class_at n ends touches i) m o ∙ (h.done (class_at n ends touches i) (omega (arith, l, m)) ∙ class_again n ends touches ok i)
      ]
    ]

    -- a meter of the class of i behind it finds the first at its entry's entry, where that entry is the key or the first
    Named-more : AreNamed n ends touches next (i + 1)
    Named-more = record {
      places = sizes;
      done = λ k l. elim (cases_eq k i) [
        | inl e ↦ ap (λ x. get_or next x 0) e ∙ (at_i ∙ ap (class_at n ends touches) (sym e))
        | inr m ↦ elim (cases_eq k (get_or list i 0)) [
          | inl e ↦ ap (λ x. get_or next x 0) e ∙ (at_key ∙ (sym key_class ∙ ap (class_at n ends touches) (sym e)))
          | inr o ↦ elsewhere k m o ∙ h.done k (omega (arith, l, m))
        ]
      ];
      keyed = λ k l m. elim (cases_eq k (get_or list i 0)) [
        | inl e ↦
            let v = ap (λ x. get_or next x 0) e ∙ at_key in
            let c = class_low n ends touches ok i in
            (omega (arith, v, c, low), ap (class_at n ends touches) v ∙ (class_again n ends touches ok i ∙ (sym key_class ∙ ap (class_at n ends touches) (sym e))))
        | inr o ↦
            let v = elsewhere k (omega (arith, l)) o in
            let u = h.keyed k (omega (arith, l)) m in
            (omega (arith, v, u.0), ap (class_at n ends touches) v ∙ u.1)
      ];
      named = λ k l m c. elim (cases_eq k (get_or list i 0)) [
        | inl e ↦ ap (λ x. get_or next x 0) (ap (λ x. get_or next x 0) e ∙ at_key) ∙ (at_first ∙ (sym key_class ∙ ap (class_at n ends touches) (sym e)))
        | inr o ↦
            let u = h.keyed k (omega (arith, l)) m in
            ap (λ x. get_or next x 0) (elsewhere k (omega (arith, l)) o) ∙ (elim (cases_eq (class_at n ends touches k) (class_at n ends touches i)) [
              | inl e ↦ entry k l m u.1 e ∙ sym e
              | inr apart ↦
                  let c2 : class_at n ends touches k < i = begins k c apart in
                  at_other (get_or list k 0) (λ e. apart (sym u.1 ∙ e)) ∙ h.named k (omega (arith, l)) m c2
            ])
      ];
      own = λ k l m c.
          let u = h.keyed k (omega (arith, l)) m in
          let e = at_other k (later k c) in
          ap (λ x. get_or next x 0) e ∙ (at_other (get_or list k 0) (λ s. later k c (sym u.1 ∙ s)) ∙ (h.own k (omega (arith, l)) m (omega (arith, c)) ∙ sym e));
      same = λ j k a b l m c e.
          at_other j (later j c) ∙ (h.same j k (omega (arith, a)) (omega (arith, b)) l m (omega (arith, c)) e ∙ sym (at_other k (λ s. later j c (e ∙ s))));
    }
      where
        later : (k : ℕ) → i + 1 ≤ class_at n ends touches k → class_at n ends touches k ≡ class_at n ends touches i → ⊥
        later k c e = let l = class_low n ends touches ok i in omega (arith, c, e, l)

        -- another class that begins below i + 1 begins below i
        begins : (k : ℕ) → class_at n ends touches k < i + 1 → (class_at n ends touches k ≡ class_at n ends touches i → ⊥) → class_at n ends touches k < i
        begins k c apart = elim (cases_eq (class_at n ends touches k) i) [
          | inl e ↦ absurd (apart (sym (class_again n ends touches ok k) ∙ ap (class_at n ends touches) e))
          | inr m ↦ omega (arith, c, m)
        ]

        -- the entry of a meter of the class of i is i, the key, or has the first
        entry : (k : ℕ) → i + 1 ≤ k → k < length touches → class_at n ends touches (get_or list k 0) ≡ class_at n ends touches k → class_at n ends touches k ≡ class_at n ends touches i
            → get_or next (get_or list k 0) 0 ≡ class_at n ends touches i
        entry k l m u e = elim (cases_eq (get_or list k 0) i) [
          | inl s ↦ ap (λ x. get_or next x 0) s ∙ at_i
          | inr s ↦ elim (cases_eq (get_or list k 0) (get_or list i 0)) [
            | inl t ↦ ap (λ x. get_or next x 0) t ∙ at_key
            | inr t ↦ elim (cases_lt (class_at n ends touches i) i) [
              | inl c ↦ elsewhere (get_or list k 0) s t ∙ (h.named k (omega (arith, l)) m (omega (arith, e, c)) ∙ e)
              | inr c ↦ absurd (t (sym (h.same i k (omega arith) (omega (arith, l)) low m c (sym e))))
            ]
          ]
        ]

    pub Named-put : (x : ℕ) → x ≡ class_at n ends touches i → AreNamed n ends touches (set (set list (get_or list i 0) x) i x) (i + 1)
    unfolding next
    Named-put x e = subst (λ (y : ℕ). AreNamed n ends touches (set (set list (get_or list i 0) y) i y) (i + 1)) (sym e) Named-more

  -- in the end each has the first of its class
  pub Named-all : (list : List ℕ) (i : ℕ) → length touches ≤ i → AreNamed n ends touches list i → list ≡ classes_of n ends touches
  Named-all list i e h =
      same_lists list (classes_of n ends touches) (h.places ∙ sym (length-map-range_with_len (class_at n ends touches) 0 (length touches))) (λ k d l.
      let p = h.places in
      let low : k < length touches = omega (arith, p, l) in
      get_or_default list k d 0 l ∙ (h.done k (omega (arith, low, e)) ∙ sym (get_or-map-range_with_len (class_at n ends touches) 0 (length touches) k k d low (omega arith))))
