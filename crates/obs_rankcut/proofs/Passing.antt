-- A pass over the meters.
use Rattle.std.proofs.Common.{◌≡◌, ℕ, ◌+◌, ◌-◌, ◌<◌, ◌≤◌, Bool, true, false, not, ◌&&◌, Option, List, [], ◌∷◌, ◌++◌, length, set, take, refl, sym, ap, ◌∙◌, subst, inl, inr, arith}
use Rattle.std.specs.Prelude.{filter, flat_map}
use Rattle.std.specs.List.{range_with_len}
use Rattle.std.proofs.lemmas.Bool.{cases_Bool}
use Rattle.std.proofs.lemmas.List.{append-nil, take_more_set}
use Rattle.obs_graph.specs.declared.Ends.{Ends}
use Rattle.obs_matroid.specs.Lists.{In}
use Rattle.obs_matroid.proofs.Lists.{In-append_cases, In-append_right, In-flat_map, In-flat_map_from}
use Rattle.obs_matroid.proofs.Ranges.{later, later_next, listed_more}
use Rattle.obs_meter.specs.declared.Touch.{Touch}
use Rattle.obs_meter.specs.Touches.{is_live, touch_at}
use Rattle.obs_rankcut.specs.Bounds.{listed, unlisted}
use Rattle.obs_rankcut.specs.inner.Flags.{marked}
use Rattle.obs_rankcut.specs.inner.Marks.{AreFrontsMarked, AreMarkedToo, MarksJust}

-- what is neither marked nor unmarked isn't live
pub idle : (live mark : Bool) → (live && mark) ≡ false → (live && not mark) ≡ false → live ≡ false
idle false mark a b = refl
idle true true a b = a
idle true false a b = b

module _ (ends : List (Option Ends)) (touches : List Touch) (marks scope : ℕ → Bool) where
  -- of the meters from i on the live ones of the scope
  abbrev left : ℕ → List ℕ
  left i = filter scope (filter (is_live ends touches) (later (length touches) i))

  -- the meters below i are listed or counted, and what the listed ones touch is marked
  pub record IsPassed (flags : List Bool) (fronts list : List ℕ) (count outside i : ℕ) : Type 0 where
    pub bound : count ≤ i
    pub bound_outside : outside ≤ i
    pub lists : take count list ++ filter marks (left i) ≡ listed ends touches marks scope
    pub counts : outside + length (filter (λ m. not (marks m)) (left i)) ≡ length (unlisted ends touches marks scope)
    pub adds : (m e : ℕ) → In m (take count list) → In e (touch_at ends touches m) → marked flags e ≡ true
    pub only : (e : ℕ) → marked flags e ≡ true → In e (flat_map (touch_at ends touches) (listed ends touches marks scope))
    pub fronts_done : AreFrontsMarked ends fronts flags

  module _ (i : ℕ) (low : i < length touches) where
    left_idle : is_live ends touches i ≡ false → left i ≡ left (i + 1)
    left_idle n = rw (later_next (length touches) i low, n) refl

    left_out : scope i ≡ false → left i ≡ left (i + 1)
    left_out n = elim (cases_Bool (is_live ends touches i)) [
      | inr f ↦ left_idle f
      | inl t ↦ rw (later_next (length touches) i low, t, n) refl
    ]

    left_in : is_live ends touches i ≡ true → scope i ≡ true → left i ≡ i ∷ left (i + 1)
    left_in t s = rw (later_next (length touches) i low, t, s) refl

    module _ (flags : List Bool) (fronts list : List ℕ) (count outside : ℕ) (h : IsPassed flags fronts list count outside i) where
      -- a meter that is idle, or not of the scope
      Passed-same : left i ≡ left (i + 1) → IsPassed flags fronts list count outside (i + 1)
      Passed-same e = record {
        bound = let b = h.bound in omega arith;
        bound_outside = let b = h.bound_outside in omega arith;
        lists = rw (← e) h.lists;
        counts = rw (← e) h.counts;
        adds = h.adds;
        only = h.only;
        fronts_done = h.fronts_done;
      }

      pub Passed-idle : is_live ends touches i ≡ false → IsPassed flags fronts list count outside (i + 1)
      Passed-idle n = Passed-same (left_idle n)

      pub Passed-out : scope i ≡ false → IsPassed flags fronts list count outside (i + 1)
      Passed-out n = Passed-same (left_out n)

      pub Passed-counted : is_live ends touches i ≡ true → scope i ≡ true → marks i ≡ false → IsPassed flags fronts list count (outside + 1) (i + 1)
      Passed-counted t s n =
          let all : filter (λ m. not (marks m)) (left i) ≡ i ∷ filter (λ m. not (marks m)) (left (i + 1)) = rw (left_in t s, n) refl in
          let mine : filter marks (left i) ≡ filter marks (left (i + 1)) = rw (left_in t s, n) refl in
          let len = ap length all in
          record {
            bound = let b = h.bound in omega arith;
            bound_outside = let b = h.bound_outside in omega arith;
            lists = rw (← mine) h.lists;
            counts = let c = h.counts in omega (arith, len, c);
            adds = h.adds;
            only = h.only;
            fronts_done = h.fronts_done;
          }

      pub Passed-listed : is_live ends touches i ≡ true → scope i ≡ true → marks i ≡ true → length touches ≤ length list → (after : List Bool) (fronts_after : List ℕ) → AreMarkedToo flags (touch_at ends touches i) after
          → AreFrontsMarked ends fronts_after after → IsPassed after fronts_after (set list count i) (count + 1) outside (i + 1)
      Passed-listed t s m long after fronts_after marks_more done =
          let b = h.bound in
          let more = take_more_set list count i (omega arith) in
          let mine : filter marks (left i) ≡ i ∷ filter marks (left (i + 1)) = rw (left_in t s, m) refl in
          let others : filter (λ m. not (marks m)) (left i) ≡ filter (λ m. not (marks m)) (left (i + 1)) = rw (left_in t s, m) refl in
          let whole : take count list ++ i ∷ filter marks (left (i + 1)) ≡ listed ends touches marks scope = ap (λ xs. take count list ++ xs) (sym mine) ∙ h.lists in
          let here : In i (listed ends touches marks scope) = subst (λ xs. In i xs) whole (In-append_right i (take count list) (i ∷ filter marks (left (i + 1))) (inl refl)) in
          record {
            bound = omega arith;
            bound_outside = let b = h.bound_outside in omega arith;
            lists = listed_more list count i (filter marks (left (i + 1))) (listed ends touches marks scope) (omega arith) whole;
            counts = rw (← others) h.counts;
            adds = λ x e j k. elim (In-append_cases x (take count list) (i ∷ []) (subst (λ xs. In x xs) more j)) [
              | inl l ↦ marks_more.kept e (h.adds x e l k)
              | inr l ↦ elim l [ inl y ↦ marks_more.added e (subst (λ z. In e (touch_at ends touches z)) y k) | inr z ↦ absurd z ]
            ];
            only = λ e k. elim (marks_more.only e k) [
              | inl l ↦ h.only e l
              | inr l ↦ In-flat_map (touch_at ends touches) i e (listed ends touches marks scope) here l
            ];
            fronts_done = done;
          }

  module _ (flags : List Bool) (fronts list : List ℕ) (count outside i : ℕ) (end : i ≡ length touches) (h : IsPassed flags fronts list count outside i) where
    left_none : left i ≡ []
    left_none =
        let none : length touches - length touches ≡ 0 = omega arith in
        rw end (ap (λ k. filter scope (filter (is_live ends touches) (range_with_len (length touches) k))) none)

    pub Passed-list : take count list ≡ listed ends touches marks scope
    Passed-list = sym (append-nil (take count list)) ∙ (ap (λ xs. take count list ++ filter marks xs) (sym left_none) ∙ h.lists)

    pub Passed-flags : MarksJust (flat_map (touch_at ends touches) (listed ends touches marks scope)) flags
    Passed-flags e = (
      h.only e,
      (λ j. let r = In-flat_map_from (touch_at ends touches) e (listed ends touches marks scope) j in h.adds r.0 e (subst (λ xs. In r.0 xs) (sym Passed-list) r.1) r.2),
    )
