-- An item more raises the greatest length exactly where it touches a branch between two islands.
use Rattle.std.proofs.Common.{◌≡◌, ℕ, suc, ◌+◌, ◌≤◌, subst, List, ◌∷◌, length, refl, ap, sym, ◌∙◌, inl, inr, Bool, true, false, ◌||◌, arith}
use Rattle.std.proofs.lemmas.Bool.{or_cases}
use Rattle.obs_matroid.specs.Lists.{In, IsDistinct, other_than}
use Rattle.obs_matroid.specs.Matroid.{Matroid}
use Rattle.obs_matroid.specs.inner.Matroid.{IsMatroid}
use Rattle.obs_matroid.specs.Assignments.{Pair, items, branches, IsAssignment}
use Rattle.obs_matroid.specs.inner.Assignments.{part, IsRho}
use Rattle.obs_matroid.specs.inner.Closed.{none, every}
use Rattle.obs_matroid.specs.Graphic.{graphic}
use Rattle.obs_matroid.specs.inner.Graphic.{IsJoining}
use Rattle.obs_matroid.specs.Islands.{IsIsland, IsSpanned}
use Rattle.obs_matroid.specs.inner.Laws.{BetweenIslandsRaises, HasHub, LiesBetween}
use Rattle.obs_matroid.proofs.Lists.{clash, cases_In, In_same, other_ne}
use Rattle.obs_matroid.proofs.Pairs.{In-items, In-items_from, In-part_from, IsDistinct-part, independent_part, own}
use Rattle.obs_matroid.proofs.Exchange.{length-put_in}
use Rattle.obs_matroid.proofs.Least.{grows_or_closes}
use Rattle.obs_matroid.proofs.Islands.{contained, joined_at_hub, one_piece, piece, piece_inside, piece_island, settled_exists, touched_vertices}

module _ (ends : ℕ → ℕ × ℕ) (joined : List ℕ → ℕ → ℕ → Bool) (rank : List ℕ → ℕ) (joining : IsJoining ends joined) (laws : IsMatroid (graphic ends joined rank)) (touch : ℕ → List ℕ) (vs M : List ℕ) (dv : IsDistinct vs) (dm : IsDistinct M)
    (ends_in : (m e : ℕ) → In m M → In e (touch m) → In (ends e).0 vs × In (ends e).1 vs) where
  abbrev g : Matroid
  g = graphic ends joined rank

  -- a set that is spanned from inside lies in an island
  in_island : (T : ℕ → Bool) → IsSpanned ends g touch vs M T → (u v : ℕ) → In u vs → In v vs → T u ≡ true → T v ≡ true
      → (S : ℕ → Bool) × IsIsland ends g touch vs M S × (S u ≡ true) × (S v ≡ true)
  in_island T t u v iu iv tu tv =
      let s = settled_exists ends joined rank joining laws touch vs M dv dm ends_in in
      let A = s.1 in (
        piece joined A u,
        piece_island ends joined rank joining laws touch vs M dv dm ends_in s.0 A s.2 u iu,
        joining.same (branches A) u,
        contained ends joined rank joining laws touch vs M dv dm ends_in s.0 A s.2 T t u v iu iv tu tv,
      )

  module _ (x : ℕ) (apart : In x M → ⊥) where
    -- the pairs of the other items
    abbrev rest : List Pair → List Pair
    rest B = part (other_than x) B

    rest_assigns : (B : List Pair) → IsAssignment g touch (x ∷ M) B → IsAssignment g touch M (rest B)
    rest_assigns B b = record {
      of_items = λ p i.
          let y = In-part_from (other_than x) B p i in
          elim (b.of_items p y.0) [ inl e ↦ absurd (other_ne x p.0 y.1 e) | inr k ↦ k ];
      touched = λ p i. b.touched p (In-part_from (other_than x) B p i).0;
      different = IsDistinct-part (other_than x) B b.different;
      independent = independent_part g laws (other_than x) B b.independent;
    }

    length-rest : (B : List Pair) → IsAssignment g touch (x ∷ M) B → In x (items B) → suc (length (rest B)) ≡ length B
    length-rest B b i = length-put_in (x, 0) B b.different i

    -- without a pair of x it is an assignment of the others
    others_alone : (B : List Pair) → IsAssignment g touch (x ∷ M) B → (In x (items B) → ⊥) → IsAssignment g touch M B
    others_alone B b out = record {
      of_items = λ p i. elim (b.of_items p i) [ inl e ↦ absurd (out (In_same x p.0 (items B) (sym e) (In-items B p i))) | inr k ↦ k ];
      touched = b.touched;
      different = b.different;
      independent = b.independent;
    }

    -- one item more gives one pair more at the most
    one_more : (r : ℕ) → IsRho g touch M r → (B : List Pair) → IsAssignment g touch (x ∷ M) B → length B ≤ suc r
    one_more r p B b =
        elim (cases_In x (items B)) [
          | inl i ↦ let l = p.none_longer (rest B) (rest_assigns B b) in let e = length-rest B b i in omega (arith, l, e)
          | inr out ↦ let l = p.none_longer B (others_alone B b out) in omega (arith, l)
        ]

    -- where the greatest length rises, x has a pair in a longest assignment, and no island has both ends of its branch
    pub between_from : (r : ℕ) → IsRho g touch M r → IsRho g touch (x ∷ M) (suc r) → (e : ℕ) × In e (touch x) × LiesBetween ends g touch vs M e
    between_from r p q =
        let B = q.longest in
        let b = q.assigns in
        let long = q.long in
        elim (cases_In x (items B)) [
          | inr out ↦ let l = p.none_longer B (others_alone B b out) in absurd (omega (arith, l, long))
          | inl i ↦
              let y = In-items_from B x i in
              let e = y.0.1 in
              let C = rest B in
              let longest : (D : List Pair) → IsAssignment g touch M D → length D ≤ length C = λ D d.
              let l = p.none_longer D d in
              let s = length-rest B b i in
              omega (arith, l, s, long) in
              let free : joined (branches C) (ends e).0 (ends e).1 ≡ false =
              subst (λ k. joined (branches (part (other_than k) B)) (ends e).0 (ends e).1 ≡ false) (sym y.2) (own g laws B y.0 b.independent b.different y.1) in (
                e,
                subst (λ k. In e (touch k)) (sym y.2) (b.touched y.0 y.1),
                λ S island iu iv u v. clash
                    (one_piece ends joined rank joining laws touch vs M dv dm ends_in M C S dm (rest_assigns B b) longest island.spanned
                    (λ m k. let z = In-items_from island.spanned.pairs m k in In_same m z.0.0 M z.2 (island.spanned.assigns.of_items z.0 z.1)) (ends e).0 (ends e).1 iu iv u v)
                    free,
              )
        ]

    module _ (hubs : (m : ℕ) → In m M → HasHub ends (touch m)) (e : ℕ) (touches : In e (touch x)) (first_in : In (ends e).0 vs) (second_in : In (ends e).1 vs) where
      -- where x touches a branch between two islands, a longest assignment grows
      grown : LiesBetween ends g touch vs M e → (A : List Pair) → IsAssignment g touch M A → (B : List Pair) × IsAssignment g touch (x ∷ M) B × (length B ≡ suc (length A))
      grown between A a =
          let all : IsAssignment g touch (x ∷ M) A = record {
            of_items = λ p i. inr (a.of_items p i);
            touched = a.touched;
            different = a.different;
            independent = a.independent;
          } in
          elim (grows_or_closes g laws touch (x ∷ M) none every A (apart, dm) all (λ m y. clash y refl)) [
            | inl b ↦ (b.0, b.2.assigns, b.2.longer)
            | inr s ↦
                let S : ℕ → Bool = λ m. s.0 m || none m in
                let Q = part S A in
                let sx = s.1.holds x (inl refl) refl (λ i. let y = In-items_from A x i in apart (In_same x y.0.0 M y.2 (a.of_items y.0 y.1))) in
                let q : IsAssignment g touch M Q = record {
                  of_items = λ p i. a.of_items p (In-part_from S A p i).0;
                  touched = λ p i. a.touched p (In-part_from S A p i).0;
                  different = IsDistinct-part S A a.different;
                  independent = independent_part g laws S A a.independent;
                } in
                let one : (m u v : ℕ) → In m (items Q) → In u (touched_vertices ends touch m) → In v (touched_vertices ends touch m) → joined (branches Q) u v ≡ true = λ m u v i iu iv.
                let y = In-items_from Q m i in
                let z = In-part_from S A y.0 y.1 in
                let inM = In_same m y.0.0 M y.2 (a.of_items y.0 z.0) in
                let inS : s.0 m ≡ true = rw y.2 (elim (or_cases (s.0 y.0.0) (none y.0.0) z.1) [ inl w ↦ w | inr w ↦ clash w refl ]) in
                let hub = hubs m inM in
                joined_at_hub ends joined rank joining laws touch vs M dv dm ends_in Q m hub.0 hub.1 (λ f k. s.1.closed.spanned m f (inr inM) inS k) u v iu iv in
                let inside = piece_inside ends joined rank joining laws touch vs M dv dm ends_in Q q one (ends e).0 first_in in
                let island = in_island (piece joined Q (ends e).0) inside (ends e).0 (ends e).1 first_in second_in (joining.same (branches Q) (ends e).0)
                (s.1.closed.spanned x e (inl refl) sx touches) in
                absurd (between island.0 island.1 first_in second_in island.2 island.3)
          ]

      pub raised_by : LiesBetween ends g touch vs M e → (r : ℕ) → IsRho g touch M r → IsRho g touch (x ∷ M) (suc r)
      raised_by between r p =
          let b = grown between p.longest p.assigns in
          record { longest = b.0; assigns = b.1; long = b.2 ∙ ap suc p.long; none_longer = one_more r p }

pub BetweenIslandsRaises-holds : BetweenIslandsRaises
BetweenIslandsRaises-holds ends joined rank joining laws touch vs M x dv dm ends_in hubs r p =
    let rho : ℕ → Type 0 = λ k. IsRho (graphic ends joined rank) touch (x ∷ M) k in
    let next : r + 1 ≡ suc r = omega arith in
    let within : (m e : ℕ) → In m M → In e (touch m) → In (ends e).0 vs × In (ends e).1 vs = λ m e i k. ends_in m e (inr i) k in (
      λ q. between_from ends joined rank joining laws touch vs M dv dm.1 within x dm.0 r p (subst rho next q),
      λ b.
          let at = ends_in x b.0 (inl refl) b.1 in
          subst rho (sym next) (raised_by ends joined rank joining laws touch vs M dv dm.1 within x dm.0 hubs b.0 b.1 at.0 at.1 b.2 r p),
    )
