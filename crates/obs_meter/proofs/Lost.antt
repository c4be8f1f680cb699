-- What items touch where some are lost.
use Rattle.std.proofs.Common.{◌≡◌, ℕ, ◌<◌, ◌≤◌, Bool, true, false, not, ◌&&◌, ◌||◌, eqb, cond, Option, List, [], ◌∷◌, length, get_or, set, refl, sym, ap, ◌∙◌, subst, inl, inr, arith}
use Rattle.std.specs.Prelude.{filter}
use Rattle.std.specs.List.{range_with_len}
use Rattle.std.proofs.lemmas.Bool.{cases_Bool, cases_eq, cases_lt, eq-eqb, ne_eqb, not-true}
use Rattle.std.proofs.lemmas.List.{get_or-set_other, get_or-set_same, get_or_default, get_or_past, length-set, same_lists}
use Rattle.std.proofs.lemmas.List.FromFn.{get_or-map-range_with_len, length-map-range_with_len}
use Rattle.obs_graph.specs.declared.Ends.{Ends}
use Rattle.obs_graph.specs.Graph.{Graph}
use Rattle.obs_matroid.specs.Lists.{In}
use Rattle.obs_matroid.specs.Assignments.{Pair}
use Rattle.obs_matroid.proofs.Lists.{In-filter, In-filter_from, filter_same}
use Rattle.obs_meter.specs.declared.Touch.{Touch}
use Rattle.obs_meter.specs.declared.Touch.TheVariants.{Nothing}
use Rattle.obs_meter.specs.Assignments.{IsAssignmentAt, IsRhoAt}
use Rattle.obs_meter.specs.Lost.{losing}
use Rattle.obs_meter.specs.inner.Lost.{left_of}
use Rattle.obs_meter.specs.inner.Sizes.{HasRoomFor, Sizes}
use Rattle.obs_meter.specs.Touches.{every_item, is_live, live_items, touch_at, touched}
use Rattle.obs_meter.specs.inner.Touches.{AreInRange, IsInRange}

-- a filter after another is one of both tests
filter_both : (p q : ℕ → Bool) (xs : List ℕ) → filter q (filter p xs) ≡ filter (λ x. p x && q x) xs
filter_both p q [] = refl
filter_both p q (x ∷ xs) = elim (cases_Bool (p x)) [
  | inl t ↦ elim (cases_Bool (q x)) [ inl s ↦ rw (t, s) (ap (λ ys. x ∷ ys) (filter_both p q xs)) | inr s ↦ rw (t, s) (filter_both p q xs) ]
  | inr f ↦ rw f (filter_both p q xs)
]

module _ (lost : ℕ → Bool) (touches : List Touch) where
  pub length-losing : length (losing lost touches) ≡ length touches
  unfolding losing
  length-losing = length-map-range_with_len (λ m. cond (lost m) Nothing (get_or touches m Nothing)) 0 (length touches)

  past : (m : ℕ) → length touches ≤ m → cond (lost m) Nothing (get_or touches m Nothing) ≡ Nothing
  past m l = elim (cases_Bool (lost m)) [ inl t ↦ rw t refl | inr f ↦ rw f (get_or_past touches m Nothing l) ]

  pub losing-at : (m : ℕ) → get_or (losing lost touches) m Nothing ≡ cond (lost m) Nothing (get_or touches m Nothing)
  unfolding losing
  losing-at m = elim (cases_lt m (length touches)) [
    | inl l ↦ get_or-map-range_with_len (λ k. cond (lost k) Nothing (get_or touches k Nothing)) 0 (length touches) m m Nothing l (omega arith)
    | inr l ↦ get_or_past (losing lost touches) m Nothing (omega (arith, length-losing, l)) ∙ sym (past m l)
  ]

  pub losing-lost : (m : ℕ) → lost m ≡ true → get_or (losing lost touches) m Nothing ≡ Nothing
  losing-lost m t = losing-at m ∙ ap (λ b. cond b Nothing (get_or touches m Nothing)) t

  pub losing-left : (m : ℕ) → lost m ≡ false → get_or (losing lost touches) m Nothing ≡ get_or touches m Nothing
  losing-left m f = losing-at m ∙ ap (λ b. cond b Nothing (get_or touches m Nothing)) f

  -- a list that has at each item what it touches there
  pub losing-is : (xs : List Touch) → length xs ≡ length touches → ((m : ℕ) → m < length touches → get_or xs m Nothing ≡ cond (lost m) Nothing (get_or touches m Nothing)) → xs ≡ losing lost touches
  losing-is xs len at = same_lists xs (losing lost touches) (len ∙ sym length-losing) (λ k d l.
      get_or_default xs k d Nothing l ∙ (at k (omega (arith, len, l)) ∙ (sym (losing-at k) ∙ get_or_default (losing lost touches) k Nothing d (omega (arith, length-losing, len, l)))))

  -- what an item touches that isn't lost
  pub touch-lost : (ends : List (Option Ends)) (m e : ℕ) → In e (touch_at ends (losing lost touches) m) → (lost m ≡ false) × In e (touch_at ends touches m)
  touch-lost ends m e i = elim (cases_Bool (lost m)) [
    | inl t ↦ absurd (subst (λ (x : Touch). In e (touched ends x)) (losing-lost m t) i)
    | inr f ↦ (f, subst (λ (x : Touch). In e (touched ends x)) (losing-left m f) i)
  ]

  pub touch-left : (ends : List (Option Ends)) (m e : ℕ) → lost m ≡ false → In e (touch_at ends touches m) → In e (touch_at ends (losing lost touches) m)
  touch-left ends m e f i = subst (λ (x : Touch). In e (touched ends x)) (sym (losing-left m f)) i

  pub live-losing : (ends : List (Option Ends)) (m : ℕ) → is_live ends (losing lost touches) m ≡ (is_live ends touches m && not (lost m))
  live-losing ends m = elim (cases_Bool (lost m)) [
    | inl t ↦ rw (losing-lost m t, t) (none (is_live ends touches m))
    | inr f ↦ rw (losing-left m f, f) (all (is_live ends touches m))
  ]
    where
      none : (b : Bool) → false ≡ (b && false)
      none true = refl
      none false = refl

      all : (b : Bool) → b ≡ (b && true)
      all true = refl
      all false = refl

  -- the live ones are those of before that aren't lost
  pub live_items-losing : (ends : List (Option Ends)) → live_items ends (losing lost touches) ≡ left_of lost (live_items ends touches)
  live_items-losing ends =
      ap (λ n. filter (is_live ends (losing lost touches)) (every_item_of n)) length-losing
      ∙ (filter_same (is_live ends (losing lost touches)) (λ m. is_live ends touches m && not (lost m)) (every_item touches) (λ m i. live-losing ends m)
      ∙ sym (filter_both (is_live ends touches) (λ m. not (lost m)) (every_item touches)))
    where
      every_item_of : ℕ → List ℕ
      every_item_of n = range_with_len 0 n

  -- assignments are those of the items that aren't lost
  pub assignment-lost : (ends : List (Option Ends)) (M : List ℕ) (A : List Pair) → IsAssignmentAt ends (losing lost touches) M A → IsAssignmentAt ends touches (left_of lost M) A
  assignment-lost ends M A a = record {
    of_items = λ p i. In-filter (λ m. not (lost m)) p.0 M (a.of_items p i) (ap not (touch-lost ends p.0 p.1 (a.touched p i)).0);
    touched = λ p i. (touch-lost ends p.0 p.1 (a.touched p i)).1;
    different = a.different;
    forest = a.forest;
  }

  pub assignment-left : (ends : List (Option Ends)) (M : List ℕ) (A : List Pair) → IsAssignmentAt ends touches (left_of lost M) A → IsAssignmentAt ends (losing lost touches) M A
  assignment-left ends M A a = record {
    of_items = λ p i. (In-filter_from (λ m. not (lost m)) p.0 M (a.of_items p i)).0;
    touched = λ p i. touch-left ends p.0 p.1 (not-true (lost p.0) (In-filter_from (λ m. not (lost m)) p.0 M (a.of_items p i)).1) (a.touched p i);
    different = a.different;
    forest = a.forest;
  }

  pub rho-lost : (ends : List (Option Ends)) (M : List ℕ) (r : ℕ) → IsRhoAt ends (losing lost touches) M r → IsRhoAt ends touches (left_of lost M) r
  rho-lost ends M r h = record {
    longest = h.longest;
    assigns = assignment-lost ends M h.longest h.assigns;
    long = h.long;
    none_longer = λ B b. h.none_longer B (assignment-left ends M B b);
  }

  pub rho-left : (ends : List (Option Ends)) (M : List ℕ) (r : ℕ) → IsRhoAt ends touches (left_of lost M) r → IsRhoAt ends (losing lost touches) M r
  rho-left ends M r h = record {
    longest = h.longest;
    assigns = assignment-left ends M h.longest h.assigns;
    long = h.long;
    none_longer = λ B b. h.none_longer B (assignment-lost ends M B b);
  }

  -- lost items are within every range and room
  pub in_range-losing : (g : Graph) → AreInRange g touches → AreInRange g (losing lost touches)
  in_range-losing g h i d l =
      let low : i < length touches = omega (arith, length-losing, l) in
      let there = get_or_default (losing lost touches) i d Nothing l in
      elim (cases_Bool (lost i)) [
        | inl t ↦ subst (IsInRange g) (sym (there ∙ losing-lost i t)) tt
        | inr f ↦ subst (IsInRange g) (sym (there ∙ losing-left i f)) (h i Nothing low)
      ]

  pub room-losing : (s : Sizes) (g : Graph) → HasRoomFor s g touches → HasRoomFor s g (losing lost touches)
  room-losing s g h = record { meters = omega (arith, length-losing, h.meters); branches = h.branches; vertices = h.vertices }

-- where none is lost all is as it was
pub losing-none : (lost : ℕ → Bool) (touches : List Touch) → ((m : ℕ) → m < length touches → lost m ≡ false) → losing lost touches ≡ touches
losing-none lost touches none = sym (losing-is lost touches touches refl (λ m l. ap (λ b. cond b Nothing (get_or touches m Nothing)) (sym (none m l))))

-- the same are lost
pub losing-same : (p q : ℕ → Bool) (touches : List Touch) → ((m : ℕ) → m < length touches → p m ≡ q m) → losing p touches ≡ losing q touches
losing-same p q touches same =
    losing-is q touches (losing p touches) (length-losing p touches) (λ m l. losing-at p touches m ∙ ap (λ b. cond b Nothing (get_or touches m Nothing)) (same m l))

-- one after the other
pub losing-again : (p q : ℕ → Bool) (touches : List Touch) → losing q (losing p touches) ≡ losing (λ m. p m || q m) touches
losing-again p q touches =
    losing-is (λ m. p m || q m) touches (losing q (losing p touches)) (length-losing q (losing p touches) ∙ length-losing p touches) (λ m l.
    losing-at q (losing p touches) m ∙ (ap (λ x. cond (q m) Nothing x) (losing-at p touches m) ∙ one (p m) (q m) (get_or touches m Nothing)))
  where
    one : (a b : Bool) (x : Touch) → cond b Nothing (cond a Nothing x) ≡ cond (a || b) Nothing x
    one true true x = refl
    one true false x = refl
    one false true x = refl
    one false false x = refl

-- one item is lost
pub losing-one : (touches : List Touch) (m : ℕ) → set touches m Nothing ≡ losing (λ k. eqb m k) touches
losing-one touches m =
    losing-is (λ k. eqb m k) touches (set touches m Nothing) (length-set touches m Nothing) (λ k l. elim (cases_eq k m) [
      | inl e ↦ rw (e, eq-eqb m m refl) (get_or-set_same touches m Nothing Nothing (omega (arith, e, l)))
      | inr n ↦ get_or-set_other touches m k Nothing Nothing n ∙ ap (λ b. cond b Nothing (get_or touches k Nothing)) (sym (ne_eqb m k (λ e. n (sym e))))
    ])

-- and one has its touch again
pub losing-but : (lost : ℕ → Bool) (touches : List Touch) (m : ℕ) → set (losing lost touches) m (get_or touches m Nothing) ≡ losing (λ k. lost k && not (eqb m k)) touches
losing-but lost touches m =
    losing-is (λ k. lost k && not (eqb m k)) touches (set (losing lost touches) m (get_or touches m Nothing)) (length-set (losing lost touches) m (get_or touches m Nothing) ∙ length-losing lost touches) (λ k l.
    elim (cases_eq k m) [
      | inl e ↦ rw (e, eq-eqb m m refl) (get_or-set_same (losing lost touches) m (get_or touches m Nothing) Nothing (omega (arith, e, l, length-losing lost touches)) ∙ again (lost m) (get_or touches m Nothing))
      | inr n ↦ get_or-set_other (losing lost touches) m k (get_or touches m Nothing) Nothing n ∙ (losing-at lost touches k ∙ still (lost k) (eqb m k) (get_or touches k Nothing) (ne_eqb m k (λ e. n (sym e))))
    ])
  where
    again : (b : Bool) (x : Touch) → x ≡ cond (b && not true) Nothing x
    again true x = refl
    again false x = refl

    still : (b c : Bool) (x : Touch) → c ≡ false → cond b Nothing x ≡ cond (b && not c) Nothing x
    still true c x f = rw f refl
    still false c x f = refl
