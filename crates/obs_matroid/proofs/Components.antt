-- A closed set bounds each component by itself.
use Rattle.std.proofs.Common.{◌≡◌, ℕ, ◌≤◌, List, [], ◌∷◌, ◌++◌, length, refl, sym, ap, ◌∙◌, inl, inr, Bool, false, eqb, ◌||◌}
use Rattle.std.specs.List.{filter}
use Rattle.std.proofs.lemmas.Bool.{cases_Bool, eqb-true, eq-eqb}
use Rattle.obs_matroid.specs.Lists.{In, IsDistinct}
use Rattle.obs_matroid.specs.Matroid.{Matroid, IsIndependent}
use Rattle.obs_matroid.specs.inner.Matroid.{IsMatroid}
use Rattle.obs_matroid.specs.Assignments.{Pair, items, branches, IsAssignment}
use Rattle.obs_matroid.specs.inner.Assignments.{part}
use Rattle.obs_matroid.specs.inner.Bounds.{bound}
use Rattle.obs_matroid.specs.inner.Closed.{IsClosed, HoldsSources, none, every}
use Rattle.obs_matroid.specs.Graphic.{graphic}
use Rattle.obs_matroid.specs.inner.Graphic.{IsJoining}
use Rattle.obs_matroid.specs.inner.Components.{IsSumOfKinds, is_of}
use Rattle.obs_matroid.proofs.Lists.{In_same, In-append_cases, In-filter, In-filter_from, IsDistinct-filter, clash}
use Rattle.obs_matroid.proofs.Spans.{spans_more}
use Rattle.obs_matroid.proofs.Pairs.{In-items, In-items_from, In-branches, In-branches_from, In-part, In-part_from}
use Rattle.obs_matroid.proofs.Critical.{longest_from_closed, closed_tight}
use Rattle.obs_matroid.proofs.Placement.{IsAssignment-items, IsAssignment-part}
use Rattle.obs_matroid.proofs.Pieces.{stays_in}

-- where no branch leads from one component to another, the branches of other components do not help to span one
pub IsSumOfKinds-graphic : (ends : ℕ → ℕ × ℕ) (joined : List ℕ → ℕ → ℕ → Bool) (rank : List ℕ → ℕ) → IsJoining ends joined
    → (component : ℕ → ℕ) → ((e : ℕ) → component (ends e).0 ≡ component (ends e).1)
    → IsSumOfKinds (graphic ends joined rank) (λ e. component (ends e).0)
IsSumOfKinds-graphic ends joined rank joining component within L e t =
    (stays_in ends joined joining (λ v. eqb (component v) (component (ends e).0)) L (λ x i. ap (λ (c : ℕ). eqb c (component (ends e).0)) (within x))
    (ends e).0 (ends e).1 (eq-eqb (component (ends e).0) (component (ends e).0) refl) t).0

module _ (g : Matroid) (laws : IsMatroid g) (kind : ℕ → ℕ) (local : IsSumOfKinds g kind) (K : ℕ) where
  -- a branch of the kind K that some branches do not span, they do not span together with branches of other kinds
  free_of_others : (e : ℕ) (L N : List ℕ) → kind e ≡ K → ((x : ℕ) → In x N → kind x ≡ K → ⊥) → g.spans L e ≡ false → g.spans (L ++ N) e ≡ false
  free_of_others e L N same other free =
      let alike : ℕ → Bool = λ x. eqb (kind x) (kind e) in
      elim (cases_Bool (g.spans (L ++ N) e)) [
        | inl s ↦
            clash (spans_more g laws (filter alike (L ++ N)) L e
            (λ x i.
            let u = In-filter_from alike x (L ++ N) i in
            elim (In-append_cases x L N u.0) [ inl j ↦ j | inr j ↦ absurd (other x j (eqb-true (kind x) (kind e) u.1 ∙ same)) ])
            (local (L ++ N) e s)) free
        | inr f ↦ f
      ]

  -- independent branches of the kind K and of other kinds are independent together
  pub free_together : (L N : List ℕ) → IsIndependent g L → IsIndependent g N → ((e : ℕ) → In e L → kind e ≡ K) → ((e : ℕ) → In e N → kind e ≡ K → ⊥) → IsIndependent g (L ++ N)
  free_together [] N i j same other = j
  free_together (e ∷ L) N i j same other = (free_of_others e L N (same e (inl refl)) other i.0, free_together L N i.1 j (λ x h. same x (inr h)) other)

module _ (g : Matroid) (laws : IsMatroid g) (touch : ℕ → List ℕ) (kind : ℕ → ℕ) (of : ℕ → ℕ)
    (local : IsSumOfKinds g kind)
    (touches_own : (m e : ℕ) → In e (touch m) → kind e ≡ of m) (K : ℕ) where
  -- the items of the component K
  abbrev pub here : ℕ → Bool
  here = is_of of K

  IsAssignment-here : (M : List ℕ) (B : List Pair) → IsAssignment g touch M B → IsAssignment g touch (filter here M) (part here B)
  IsAssignment-here M B b = IsAssignment-items g laws touch M (filter here M) (part here B) (IsAssignment-part g laws touch M here B b)
      (λ p i. let u = In-part_from here B p i in In-filter here p.0 M (b.of_items p u.0) u.1)

  -- a closed set is closed in each component
  IsClosed-here : (M : List ℕ) (A : List Pair) (S : ℕ → Bool) → IsAssignment g touch M A → IsClosed g touch M none A S → IsClosed g touch (filter here M) none (part here A) S
  IsClosed-here M A S a c = record {
    spanned = λ m e i s t.
        let u = In-filter_from here m M i in
        let D : List Pair = part (λ x. S x || none x) A in
        let E : List Pair = part (λ x. S x || none x) (part here A) in
        spans_more g laws (filter (λ x. eqb (kind x) (kind e)) (branches D)) (branches E) e
        (λ x j.
        let v = In-filter_from (λ y. eqb (kind y) (kind e)) x (branches D) j in
        let w = In-branches_from D x v.0 in
        let z = In-part_from (λ y. S y || none y) A w.0 w.1 in
        let k : kind w.0.1 ≡ kind e = ap kind (sym w.2) ∙ eqb-true (kind x) (kind e) v.1 in
        let o : of w.0.0 ≡ K = sym (touches_own w.0.0 w.0.1 (a.touched w.0 z.0)) ∙ (k ∙ (touches_own m e t ∙ eqb-true (of m) K u.1)) in
        In_same x w.0.1 (branches E) w.2 (In-branches E w.0 (In-part (λ y. S y || none y) (part here A) w.0 (In-part here A w.0 z.0 (eq-eqb (of w.0.0) K o)) z.1)))
        (local (branches D) e (c.spanned m e u.0 s t));
  }

  HoldsSources-here : (M : List ℕ) (A : List Pair) (S : ℕ → Bool) → HoldsSources M every A S → HoldsSources (filter here M) every (part here A) S
  HoldsSources-here M A S h m i f out =
      let u = In-filter_from here m M i in
      h m u.0 f (λ j. let v = In-items_from A m j in
      out (In_same m v.0.0 (items (part here A)) v.2 (In-items (part here A) v.0 (In-part here A v.0 v.1 (rw (← v.2) u.1)))))

  -- a closed set that holds all items without a pair shows, in each component, that no assignment has more pairs there
  pub component_longest : (M : List ℕ) (A : List Pair) (S : ℕ → Bool) → IsAssignment g touch M A → IsClosed g touch M none A S → HoldsSources M every A S
      → (B : List Pair) → IsAssignment g touch M B → length (part here B) ≤ length (part here A)
  component_longest M A S a c h B b = longest_from_closed g laws touch (filter here M) (part here A) S (IsAssignment-here M A a)
      (IsClosed-here M A S a c) (HoldsSources-here M A S h) (part here B) (IsAssignment-here M B b)

  -- and its bound over the items of the component is the number of pairs there
  pub component_tight : (M : List ℕ) (A : List Pair) (S : ℕ → Bool) → IsDistinct M → IsAssignment g touch M A → IsClosed g touch M none A S → HoldsSources M every A S
      → bound g touch S (filter here M) ≡ length (part here A)
  component_tight M A S d a c h = closed_tight g laws touch (filter here M) (part here A) S (IsDistinct-filter here M d) (IsAssignment-here M A a)
      (IsClosed-here M A S a c) (HoldsSources-here M A S h)
