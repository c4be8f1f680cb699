-- Forests on both sides of a branch are a forest together, also with the branch between them.
use Rattle.std.proofs.Common.{◌≡◌, ℕ, Bool, true, false, ◌⊎◌, inl, inr, Option, List, [], ◌∷◌, ◌++◌, refl, sym, ◌∙◌}
use Rattle.std.specs.List.{filter}
use Rattle.std.proofs.lemmas.Bool.{cases_Bool}
use Rattle.obs_graph.specs.declared.Ends.{Ends}
use Rattle.obs_matroid.specs.Lists.{In}
use Rattle.obs_matroid.specs.Matroid.{IsIndependent}
use Rattle.obs_matroid.proofs.Graphs.{joined_more}
use Rattle.obs_matroid.proofs.Lists.{In-append_cases, In-filter_from, clash}
use Rattle.obs_matroid.proofs.Pieces.{stays_in}
use Rattle.obs_meter.specs.Spanned.{ends_at, graph_matroid, joined_at}
use Rattle.obs_meter.proofs.Instance.{IsJoining-graph}

-- a graph, and a test of its vertices: whether one is on the side
module _ (n : ℕ) (ends : List (Option Ends)) (on : ℕ → Bool) where
  -- both ends of a branch pass so
  abbrev pub Has : Bool → ℕ → Type 0
  Has b k = (on (ends_at ends k).0 ≡ b) × (on (ends_at ends k).1 ≡ b)

  module _ (xs ys : List ℕ) (here : (k : ℕ) → In k xs → Has true k) (there : (k : ℕ) → In k ys → Has false k) where
    same : (k : ℕ) → In k (xs ++ ys) → on (ends_at ends k).0 ≡ on (ends_at ends k).1
    same k i = elim (In-append_cases k xs ys i) [
      | inl j ↦ let h = here k j in h.0 ∙ sym h.1
      | inr j ↦ let h = there k j in h.0 ∙ sym h.1
    ]

    abbrev keep : ℕ → Bool
    keep k = on (ends_at ends k).0

    -- what is joined with a vertex of the side is on it, and joined by its branches
    pub joined_here : (u w : ℕ) → on u ≡ true → joined_at ends (xs ++ ys) u w ≡ true → (joined_at ends xs u w ≡ true) × (on w ≡ true)
    joined_here u w s j =
        let r = stays_in (ends_at ends) (joined_at ends) (IsJoining-graph ends) on (xs ++ ys) same u w s j in (
          joined_more (ends_at ends) (joined_at ends) (IsJoining-graph ends) (filter keep (xs ++ ys)) xs u w (λ k i.
              let f = In-filter_from keep k (xs ++ ys) i in
              elim (In-append_cases k xs ys f.0) [ inl a ↦ a | inr b ↦ clash f.1 (there k b).0 ]) r.0,
          r.1,
        )

  pub both_sides : (xs ys : List ℕ) → ((k : ℕ) → In k xs → Has true k) → ((k : ℕ) → In k ys → Has false k)
      → IsIndependent (graph_matroid n ends) xs → IsIndependent (graph_matroid n ends) ys → IsIndependent (graph_matroid n ends) (xs ++ ys)
  both_sides [] ys here there f g = g
  both_sides (k ∷ xs) ys here there f g = (
    elim (cases_Bool (joined_at ends (xs ++ ys) (ends_at ends k).0 (ends_at ends k).1)) [
      | inl j ↦ clash (joined_here xs ys (λ x i. here x (inr i)) there (ends_at ends k).0 (ends_at ends k).1 (here k (inl refl)).0 j).0 f.0
      | inr off ↦ off
    ],
    both_sides xs ys (λ x i. here x (inr i)) there f.1 g,
  )

  -- a branch from the one side to the other
  abbrev pub Crosses : ℕ → Type 0
  Crosses k = ((on (ends_at ends k).0 ≡ true) × (on (ends_at ends k).1 ≡ false)) ⊎ ((on (ends_at ends k).1 ≡ true) × (on (ends_at ends k).0 ≡ false))

  pub with_bridge : (e : ℕ) (xs ys : List ℕ) → ((k : ℕ) → In k xs → Has true k) → ((k : ℕ) → In k ys → Has false k) → Crosses e
      → IsIndependent (graph_matroid n ends) (xs ++ ys) → IsIndependent (graph_matroid n ends) (e ∷ (xs ++ ys))
  with_bridge e xs ys here there crosses f = (
    elim (cases_Bool (joined_at ends (xs ++ ys) (ends_at ends e).0 (ends_at ends e).1)) [
      | inl j ↦ elim crosses [
        | inl c ↦ clash (joined_here xs ys here there (ends_at ends e).0 (ends_at ends e).1 c.0 j).1 c.1
        | inr c ↦ clash (joined_here xs ys here there (ends_at ends e).1 (ends_at ends e).0 c.0 ((IsJoining-graph ends).back (xs ++ ys) (ends_at ends e).0 (ends_at ends e).1 j)).1 c.1
      ]
      | inr off ↦ off
    ],
    f,
  )
