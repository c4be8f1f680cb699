-- Flags that are set one after another.
use Rattle.std.proofs.Common.{◌≡◌, ℕ, ◌+◌, ◌-◌, ◌<◌, ◌≤◌, Bool, true, false, List, [], ◌∷◌, ◌++◌, length, eqb, get_or, set, take, drop, Option, sym, ap, ◌∙◌, subst, inl, inr, get_or-set_same, get_or-set_other, arith}
use Rattle.std.specs.Prelude.{All}
use Rattle.std.proofs.lemmas.Bool.{cases_eq}
use Rattle.std.proofs.lemmas.Bool.Decides.{nat_tests}
use Rattle.std.proofs.lemmas.List.{length-drop, take-append-drop, take-take, take_all, take_more}
use Rattle.obs_graph.specs.declared.Ends.{Ends}
use Rattle.obs_graph.specs.Positions.{branches_at}
use Rattle.obs_matroid.specs.Lists.{In}
use Rattle.obs_matroid.proofs.Contained.{All-from_In, In-from_All}
use Rattle.obs_matroid.proofs.Lists.{In-append_left, In-append_right, In-append_cases}
use Rattle.obs_meter.specs.declared.Touch.TheVariants.{Star}
use Rattle.obs_meter.proofs.Touched.{In-take, In-take_more, touched-below}
use Rattle.obs_rankcut.specs.inner.Flags.{marked}
use Rattle.obs_rankcut.specs.inner.Marks.{AreFrontsMarked, AreMarkedToo}

pub AreMarkedToo-none : (flags : List Bool) → AreMarkedToo flags [] flags
AreMarkedToo-none flags = record { added = λ e i. absurd i; kept = λ e t. t; only = λ e t. inl t }

marked_set : (flags : List Bool) (e k : ℕ) → e < length flags → marked flags k ≡ true → marked (set flags e true) k ≡ true
marked_set flags e k l t = elim (cases_eq k e) [
  | inl y ↦ ap (λ j. marked (set flags e true) j) y ∙ get_or-set_same flags e true false l
  | inr n ↦ get_or-set_other flags e k true false n ∙ t
]

-- one flag more
pub AreMarkedToo-set : (before flags : List Bool) (L : List ℕ) (e : ℕ) → e < length flags → AreMarkedToo before L flags → AreMarkedToo before (L ++ e ∷ []) (set flags e true)
AreMarkedToo-set before flags L e l h = record {
  added = λ k i. elim (In-append_cases k L (e ∷ []) i) [
    | inl j ↦ marked_set flags e k l (h.added k j)
    | inr j ↦ elim j [ inl y ↦ ap (λ j. marked (set flags e true) j) y ∙ get_or-set_same flags e true false l | inr z ↦ absurd z ]
  ];
  kept = λ k t. marked_set flags e k l (h.kept k t);
  only = λ k t. elim (cases_eq k e) [
    | inl y ↦ inr (In-append_right k L (e ∷ []) (inl y))
    | inr n ↦ elim (h.only k (sym (get_or-set_other flags e k true false n) ∙ t)) [
      | inl b ↦ inl b
      | inr i ↦ inr (In-append_left k L (e ∷ []) i)
    ]
  ];
}

pub AreMarkedToo-next : (before flags : List Bool) (L : List ℕ) (i : ℕ) → i < length L → get_or L i 0 < length flags → AreMarkedToo before (take i L) flags → AreMarkedToo before (take (i + 1) L) (set flags (get_or L i 0) true)
AreMarkedToo-next before flags L i low l h =
    subst (λ (K : List ℕ). AreMarkedToo before K (set flags (get_or L i 0) true)) (sym (take_more L i 0 low)) (AreMarkedToo-set before flags (take i L) (get_or L i 0) l h)

-- what stands behind the first so many
pub rest_is : (xs : List ℕ) (k : ℕ) → take (length xs - k) (drop k xs) ≡ drop k xs
rest_is xs k = take_all (length xs - k) (drop k xs) (let l = length-drop k xs in omega (arith, l))

-- where the first so many are marked already, the others are enough
pub AreMarkedToo-rest : (before after : List Bool) (L : List ℕ) (k : ℕ) → ((e : ℕ) → In e (take k L) → marked before e ≡ true) → AreMarkedToo before (drop k L) after → AreMarkedToo before L after
AreMarkedToo-rest before after L k done h = record {
  added = λ e i. elim (In-append_cases e (take k L) (drop k L) (subst (λ (M : List ℕ). In e M) (sym (take-append-drop k L)) i)) [
    | inl j ↦ h.kept e (done e j)
    | inr j ↦ h.added e j
  ];
  kept = h.kept;
  only = λ e t. elim (h.only e t) [
    | inl b ↦ inl b
    | inr i ↦ inr (subst (λ (M : List ℕ). In e M) (take-append-drop k L) (In-append_right e (take k L) (drop k L) i))
  ];
}

module _ (ends : List (Option Ends)) (fronts : List ℕ) (flags : List Bool) (v count : ℕ) (done : AreFrontsMarked ends fronts flags) where
  -- no more than are marked
  pub AreMarkedToo-done : count ≤ get_or fronts v 0 → AreMarkedToo flags (take count (branches_at ends v)) flags
  AreMarkedToo-done few = record {
    added = λ e i. done v e (In-take_more count (get_or fronts v 0) (branches_at ends v) e few i);
    kept = λ e t. t;
    only = λ e t. inl t;
  }

  -- those behind the ones that are marked
  pub AreMarkedToo-behind : get_or fronts v 0 ≤ count → (after : List Bool) → AreMarkedToo flags (drop (get_or fronts v 0) (take count (branches_at ends v))) after → AreMarkedToo flags (take count (branches_at ends v)) after
  AreMarkedToo-behind more after h = AreMarkedToo-rest flags after (take count (branches_at ends v)) (get_or fronts v 0)
      (λ e i. done v e (In-take_more (get_or fronts v 0) (get_or fronts v 0) (branches_at ends v) e (omega arith)
      (subst (λ (M : List ℕ). In e M) (take-take (get_or fronts v 0) count (branches_at ends v) more) i)))
      h

  -- the first so many branches at one vertex more are marked
  pub AreFrontsMarked-set : v < length fronts → (after : List Bool) → AreMarkedToo flags (take count (branches_at ends v)) after → AreFrontsMarked ends (set fronts v count) after
  AreFrontsMarked-set low after h w e i = elim (cases_eq w v) [
    | inl y ↦ h.added e (subst (λ (M : List ℕ). In e M) (ap (λ u. take (get_or (set fronts v count) u 0) (branches_at ends u)) y ∙ ap (λ k. take k (branches_at ends v)) (get_or-set_same fronts v count 0 low)) i)
    | inr n ↦ h.kept e (done w e (subst (λ k. In e (take k (branches_at ends w))) (get_or-set_other fronts v w count 0 n) i))
  ]

-- those behind have flags
pub flags_behind : (ends : List (Option Ends)) (v count k n : ℕ) (bs : List ℕ) → bs ≡ branches_at ends v → n ≡ length ends → All (λ e. e < n) (take (length (take count bs) - k) (drop k (take count bs)))
flags_behind ends v count k n bs is len = All-from_In (λ e. e < n) (take (length (take count bs) - k) (drop k (take count bs))) (λ e i.
    let j : In e (drop k (take count bs)) = subst (λ (M : List ℕ). In e M) (rest_is (take count bs) k) i in
    let f : In e (take count bs) = subst (λ (M : List ℕ). In e M) (take-append-drop k (take count bs)) (In-append_right e (take k (take count bs)) (drop k (take count bs)) j) in
    let b : In e (branches_at ends v) = subst (λ (M : List ℕ). In e M) is (In-take count bs e f) in
    rw len (In-from_All (λ x. x < length ends) (branches_at ends v) (touched-below ends (Star v)) e b))

-- the test for one number can be turned
pub number_flips : (a b : ℕ) → eqb a b ≡ eqb b a
number_flips a b = grind (arith, nat_tests)
