-- Classes that are settled one by one.
use Rattle.std.proofs.Common.{◌≡◌, ℕ, ◌+◌, ◌<◌, ◌≤◌, Bool, true, false, not, ◌&&◌, cond, Option, List, length, get_or, set, refl, sym, ap, ◌∙◌, subst, inl, inr, arith}
use Rattle.std.proofs.lemmas.Bool.{and_from, and_parts, cases_Bool, cases_eq, cases_lt, not-true}
use Rattle.std.proofs.lemmas.List.{get_or-set_other, get_or-set_same, get_or_past, length-set}
use Rattle.std.proofs.lemmas.List.FromFn.{get_or-map-range_with_len, length-map-range_with_len}
use Rattle.obs_graph.specs.declared.Ends.{Ends}
use Rattle.obs_graph.specs.Positions.{AreBranches}
use Rattle.obs_matroid.proofs.Lists.{clash}
use Rattle.obs_meter.specs.declared.Touch.{Touch}
use Rattle.obs_assign.specs.inner.Assignment.{has_flag}
use Rattle.obs_exchange.specs.inner.Blank.{AreNumbers}
use Rattle.obs_pairs.specs.inner.PairWork.{AreFirst}
use Rattle.obs_pairs.specs.Partners.{class_at, classes_of}
use Rattle.obs_pairs.specs.inner.Settled.{AreKeyed, AreSettled, LacksClass, redundant_at}
use Rattle.obs_pairs.proofs.Partnered.{class_again, class_alone, class_low, class_redundant}

module _ (n : ℕ) (ends : List (Option Ends)) (touches : List Touch) (ok : AreBranches n ends) where
  class : ℕ → ℕ
  class = class_at n ends touches

  -- at first all redundant meters are open, and each meter is its own class
  pub Settled-begun : (flags : List Bool) (list : List ℕ) → length flags ≡ length touches → length list ≡ length touches → AreNumbers list → ((k : ℕ) → has_flag flags k ≡ redundant_at n ends touches k)
      → AreSettled n ends touches flags list 0
  Settled-begun flags list len places numbers marked = record {
    flags = len;
    places = places;
    opened = λ k t. sym (marked k) ∙ t;
    whole = λ j k t e. elim (cases_Bool (redundant_at n ends touches k)) [
      | inl y ↦ marked k ∙ y
      | inr f ↦
          let first : redundant_at n ends touches (class_at n ends touches j) ≡ true = class_redundant n ends touches ok j (sym (marked j) ∙ t) in
          clash (subst (λ (x : ℕ). redundant_at n ends touches x ≡ true) (sym e ∙ class_alone n ends touches ok k f) first) f
    ];
    passed = λ k l. absurd (omega (arith, l));
    keyed = λ k l f. let own = numbers k (omega (arith, places, l)) in (omega (arith, own, l), ap (class_at n ends touches) own);
    same = λ j k l m f g e.
        let one = class_alone n ends touches ok j (sym (marked j) ∙ f) in
        let other = class_alone n ends touches ok k (sym (marked k) ∙ g) in
        ap (λ x. get_or list x 0) (sym one ∙ (e ∙ other));
  }

  -- the classes are named by their first meters
  pub first_of_classes : (list : List ℕ) → list ≡ classes_of n ends touches → AreFirst list
  first_of_classes list e k l =
      let low = class_low n ends touches ok k in
      let len = ap (λ (xs : List ℕ). length xs) e ∙ length-map-range_with_len (class_at n ends touches) 0 (length touches) in
      let at : (x : ℕ) → x < length list → get_or list x 0 ≡ class_at n ends touches x =
      λ x m. ap (λ (xs : List ℕ). get_or xs x 0) e ∙ get_or-map-range_with_len (class_at n ends touches) 0 (length touches) x x 0 (omega (arith, len, m)) (omega arith) in
      let first : class_at n ends touches k < length list = omega (arith, low, l) in
      let own = at k l in (
        omega (arith, own, low),
        ap (λ x. get_or list x 0) own ∙ (at (class_at n ends touches k) first ∙ (class_again n ends touches ok k ∙ sym own)),
      )

  module _ (flags : List Bool) (list : List ℕ) (i : ℕ) (h : AreSettled n ends touches flags list i) where
    -- where i isn't open, it is passed
    pub Settled-over : has_flag flags i ≡ false → AreSettled n ends touches flags list (i + 1)
    Settled-over f = record {
      flags = h.flags;
      places = h.places;
      opened = h.opened;
      whole = h.whole;
      passed = λ k l. elim (cases_eq k i) [ inl e ↦ ap (has_flag flags) e ∙ f | inr m ↦ h.passed k (omega (arith, l, m)) ];
      keyed = h.keyed;
      same = h.same;
    }

    -- where i is open, its class is settled
    module _ (t : has_flag flags i ≡ true) where
      pub first-redundant : redundant_at n ends touches i ≡ true
      first-redundant = h.opened i t

      place : i < length touches
      place = elim (cases_lt i (length flags)) [
        | inl l ↦ let e = h.flags in omega (arith, e, l)
        | inr l ↦ clash t (get_or_past flags i false l)
      ]

      pub Settled-more : (marks after : List Bool) (next : List ℕ) → length after ≡ length flags → length next ≡ length list → LacksClass n ends touches i (has_flag marks)
          → ((k : ℕ) → has_flag after k ≡ (has_flag flags k && has_flag marks k))
          → ((k : ℕ) → get_or next k 0 ≡ cond (has_flag flags k && not (has_flag marks k)) i (get_or list k 0))
          → AreSettled n ends touches after next (i + 1)
      Settled-more marks after next len places lacks opens lists = record {
        flags = len ∙ h.flags;
        places = places ∙ h.places;
        opened = λ k y. h.opened k (both k y).0;
        whole = λ j k y e.
            let u = both j y in
            let was = h.whole j k u.0 e in
            opens k ∙ and_from (has_flag flags k) (has_flag marks k) was (elim (cases_Bool (has_flag marks k)) [
              | inl m ↦ m
              | inr f ↦ clash u.1 ((lacks j (h.opened j u.0)).1 (sym e ∙ (lacks k (h.opened k was)).0 f))
            ]);
        passed = λ k l. opens k ∙ (elim (cases_eq k i) [
          | inl e ↦ no_mark k (ap (has_flag marks) e ∙ (lacks i first-redundant).1 refl)
          | inr m ↦ no_flag k (h.passed k (omega (arith, l, m)))
        ]);
        keyed = λ k l f. elim (cases_Bool (has_flag flags k)) [
          | inr o ↦ let e = old k o in let u = h.keyed k l o in (omega (arith, e, u.0), ap (class_at n ends touches) e ∙ u.1)
          | inl o ↦
              let e = new k o (off k o f) in
              let p = place in
              (omega (arith, e, p), ap (class_at n ends touches) e ∙ sym ((lacks k (h.opened k o)).0 (off k o f)))
        ];
        same = λ j k l m f g e. elim (cases_Bool (has_flag flags j)) [
          | inr o ↦ elim (cases_Bool (has_flag flags k)) [
            | inr q ↦ old j o ∙ (h.same j k l m o q e ∙ sym (old k q))
            | inl q ↦ clash (h.whole k j q e) o
          ]
          | inl o ↦ elim (cases_Bool (has_flag flags k)) [
            | inr q ↦ clash (h.whole j k o (sym e)) q
            | inl q ↦ new j o (off j o f) ∙ sym (new k q (off k q g))
          ]
        ];
      }
        where
          both : (k : ℕ) → has_flag after k ≡ true → (has_flag flags k ≡ true) × (has_flag marks k ≡ true)
          both k y = and_parts (has_flag flags k) (has_flag marks k) (sym (opens k) ∙ y)

          no_mark : (k : ℕ) → has_flag marks k ≡ false → (has_flag flags k && has_flag marks k) ≡ false
          no_mark k f = elim (cases_Bool (has_flag flags k)) [ inl y ↦ rw y f | inr g ↦ rw g refl ]

          no_flag : (k : ℕ) → has_flag flags k ≡ false → (has_flag flags k && has_flag marks k) ≡ false
          no_flag k f = rw f refl

          off : (k : ℕ) → has_flag flags k ≡ true → has_flag after k ≡ false → has_flag marks k ≡ false
          off k o f = elim (cases_Bool (has_flag marks k)) [
            | inr g ↦ g
            | inl y ↦ clash (opens k ∙ and_from (has_flag flags k) (has_flag marks k) o y) f
          ]

          old : (k : ℕ) → has_flag flags k ≡ false → get_or next k 0 ≡ get_or list k 0
          old k o = lists k ∙ ap (λ b. cond (b && not (has_flag marks k)) i (get_or list k 0)) o

          new : (k : ℕ) → has_flag flags k ≡ true → has_flag marks k ≡ false → get_or next k 0 ≡ i
          new k o f = lists k ∙ (ap (λ b. cond (b && not (has_flag marks k)) i (get_or list k 0)) o ∙ ap (λ b. cond (true && not b) i (get_or list k 0)) f)

    -- in the end none is open
    pub Settled-all : length touches ≤ i → AreKeyed n ends touches list
    Settled-all e = record {
      places = h.places;
      keyed = λ k l. h.keyed k l (h.passed k (omega (arith, e, l)));
      same = λ j k l m s. h.same j k l m (h.passed j (omega (arith, e, l))) (h.passed k (omega (arith, e, m))) s;
    }

-- while the open meters that aren't marked are settled, below i
pub record IsSettling (marks flags_before : List Bool) (before : List ℕ) (m : ℕ) (flags : List Bool) (list : List ℕ) (i : ℕ) : Type 0 where
  pub flags_len : length flags ≡ length flags_before
  pub list_len : length list ≡ length before
  pub flags_done : (k : ℕ) → k < i → has_flag flags k ≡ (has_flag flags_before k && has_flag marks k)
  pub flags_rest : (k : ℕ) → i ≤ k → has_flag flags k ≡ has_flag flags_before k
  pub list_done : (k : ℕ) → k < i → get_or list k 0 ≡ cond (has_flag flags_before k && not (has_flag marks k)) m (get_or before k 0)
  pub list_rest : (k : ℕ) → i ≤ k → get_or list k 0 ≡ get_or before k 0

module _ (marks flags_before : List Bool) (before : List ℕ) (m : ℕ) where
  pub Settling-none : IsSettling marks flags_before before m flags_before before 0
  Settling-none = record {
    flags_len = refl;
    list_len = refl;
    flags_done = λ k l. absurd (omega (arith, l));
    flags_rest = λ k l. refl;
    list_done = λ k l. absurd (omega (arith, l));
    list_rest = λ k l. refl;
  }

  module _ (flags : List Bool) (list : List ℕ) (i : ℕ) (h : IsSettling marks flags_before before m flags list i) where
    -- i stays as it is
    pub Settling-over : (has_flag flags i && not (has_flag marks i)) ≡ false → IsSettling marks flags_before before m flags list (i + 1)
    Settling-over f =
        let was = h.flags_rest i (omega arith) in
        let out : (has_flag flags_before i && not (has_flag marks i)) ≡ false = ap (λ b. b && not (has_flag marks i)) (sym was) ∙ f in
        record {
          flags_len = h.flags_len;
          list_len = h.list_len;
          flags_done = λ k l. elim (cases_eq k i) [
            | inl e ↦ subst (λ (x : ℕ). has_flag flags x ≡ (has_flag flags_before x && has_flag marks x)) (sym e) (was ∙ stays (has_flag flags_before i) (has_flag marks i) out)
            | inr n ↦ h.flags_done k (omega (arith, l, n))
          ];
          flags_rest = λ k l. h.flags_rest k (omega (arith, l));
          list_done = λ k l. elim (cases_eq k i) [
            | inl e ↦ subst (λ (x : ℕ). get_or list x 0 ≡ cond (has_flag flags_before x && not (has_flag marks x)) m (get_or before x 0)) (sym e)
                (h.list_rest i (omega arith) ∙ ap (λ b. cond b m (get_or before i 0)) (sym out))
            | inr n ↦ h.list_done k (omega (arith, l, n))
          ];
          list_rest = λ k l. h.list_rest k (omega (arith, l));
        }
      where
        stays : (a b : Bool) → (a && not b) ≡ false → a ≡ (a && b)
        stays true true f = refl
        stays true false f = clash refl f
        stays false b f = refl

    -- i is settled
    pub Settling-put : (has_flag flags i && not (has_flag marks i)) ≡ true → i < length flags → i < length list
        → IsSettling marks flags_before before m (set flags i false) (set list i m) (i + 1)
    Settling-put t low place =
        let was = h.flags_rest i (omega arith) in
        let u = and_parts (has_flag flags i) (not (has_flag marks i)) t in
        let off = not-true (has_flag marks i) u.1 in
        let hit : (has_flag flags_before i && not (has_flag marks i)) ≡ true = ap (λ b. b && not (has_flag marks i)) (sym was) ∙ t in
        record {
          flags_len = length-set flags i false ∙ h.flags_len;
          list_len = length-set list i m ∙ h.list_len;
          flags_done = λ k l. elim (cases_eq k i) [
            | inl e ↦ subst (λ (x : ℕ). has_flag (set flags i false) x ≡ (has_flag flags_before x && has_flag marks x)) (sym e)
                (get_or-set_same flags i false false low ∙ gone (has_flag flags_before i) (has_flag marks i) off)
            | inr n ↦ get_or-set_other flags i k false false n ∙ h.flags_done k (omega (arith, l, n))
          ];
          flags_rest = λ k l. get_or-set_other flags i k false false (omega (arith, l)) ∙ h.flags_rest k (omega (arith, l));
          list_done = λ k l. elim (cases_eq k i) [
            | inl e ↦ subst (λ (x : ℕ). get_or (set list i m) x 0 ≡ cond (has_flag flags_before x && not (has_flag marks x)) m (get_or before x 0)) (sym e)
                (get_or-set_same list i m 0 place ∙ ap (λ b. cond b m (get_or before i 0)) (sym hit))
            | inr n ↦ get_or-set_other list i k m 0 n ∙ h.list_done k (omega (arith, l, n))
          ];
          list_rest = λ k l. get_or-set_other list i k m 0 (omega (arith, l)) ∙ h.list_rest k (omega (arith, l));
        }
      where
        gone : (a b : Bool) → b ≡ false → false ≡ (a && b)
        gone true b f = sym f
        gone false b f = refl

    -- all are looked at
    pub Settling-flags : length flags_before ≤ i → (k : ℕ) → has_flag flags k ≡ (has_flag flags_before k && has_flag marks k)
    Settling-flags e k = elim (cases_lt k i) [
      | inl l ↦ h.flags_done k l
      | inr l ↦ get_or_past flags k false (omega (arith, h.flags_len, e, l)) ∙ past (has_flag flags_before k) (has_flag marks k) (get_or_past flags_before k false (omega (arith, e, l)))
    ]
      where
        past : (a b : Bool) → a ≡ false → false ≡ (a && b)
        past a b f = rw f refl

    pub Settling-list : length flags_before ≤ i → (k : ℕ) → get_or list k 0 ≡ cond (has_flag flags_before k && not (has_flag marks k)) m (get_or before k 0)
    Settling-list e k = elim (cases_lt k i) [
      | inl l ↦ h.list_done k l
      | inr l ↦ h.list_rest k l ∙ past (has_flag flags_before k) (not (has_flag marks k)) (get_or_past flags_before k false (omega (arith, e, l)))
    ]
      where
        past : (a b : Bool) → a ≡ false → get_or before k 0 ≡ cond (a && b) m (get_or before k 0)
        past a b f = rw f refl
