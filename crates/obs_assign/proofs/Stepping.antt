-- A path that is put in move by move: its meters lose their pairs, and then each gets the branch of its move.
use Rattle.std.proofs.Common.{◌≡◌, ℕ, ◌<◌, Option, Some, None, List, [], ◌∷◌, length, get_or, set, refl, sym, ap, ◌∙◌, subst, inl, inr, ◌⊎◌, arith, get_or-set_other, length-set}
use Rattle.std.specs.Prelude.{All}
use Rattle.std.proofs.lemmas.Bool.{cases_eq}
use Rattle.std.proofs.lemmas.List.{set-set, set_comm}
use Rattle.obs_graph.specs.declared.Ends.{Ends}
use Rattle.obs_graph.specs.Positions.{IsForestAt}
use Rattle.obs_matroid.specs.Lists.{In}
use Rattle.obs_matroid.specs.Assignments.{branches}
use Rattle.obs_matroid.specs.inner.Slots.{pairs_of}
use Rattle.obs_matroid.proofs.Contained.{In-from_All}
use Rattle.obs_assign.specs.declared.Move.{Move}
use Rattle.obs_assign.specs.inner.Moves.{moved}
use Rattle.obs_assign.proofs.Afterwards.{Differ, head_apart, moved-kept, tail_apart}
use Rattle.obs_assign.proofs.Changes.{forest_within}
use Rattle.obs_assign.proofs.Pinning.{nothing}
use Rattle.obs_assign.proofs.Slotted.{none_some}

-- what a moved meter had doesn't matter
pub moved-lost : (path : List Move) (slots : List (Option ℕ)) (x : Move) → In x path → moved path (set slots x.meter None) ≡ moved path slots
moved-lost [] slots x i = absurd i
moved-lost (y ∷ path) slots x (inl e) = ap (moved path) (rw e (set-set slots y.meter None (Some y.branch)))
moved-lost (y ∷ path) slots x (inr i) = elim (cases_eq x.meter y.meter) [
  | inl s ↦ ap (moved path) (rw s (set-set slots y.meter None (Some y.branch)))
  | inr n ↦ ap (moved path) (set_comm slots x.meter y.meter None (Some y.branch) n) ∙ moved-lost path (set slots y.meter (Some y.branch)) x i
]

-- of the meters of the path those of the moves that are left may still have pairs, and the moves put in what they did
pub record IsLosing (path : List Move) (before : List (Option ℕ)) (rest : List Move) (slots : List (Option ℕ)) : Type 0 where
  pub within : (x : Move) → In x rest → In x path
  pub bare : (x : Move) → In x path → (get_or slots x.meter None ≡ None) ⊎ In x rest
  pub moved_are : moved path slots ≡ moved path before
  pub len : length slots ≡ length before

pub Losing-begun : (path : List Move) (slots : List (Option ℕ)) → IsLosing path slots path slots
Losing-begun path slots = record { within = λ x i. i; bare = λ x i. inr i; moved_are = refl; len = refl }

pub Losing-more : (path : List Move) (before : List (Option ℕ)) (x : Move) (rest : List Move) (slots : List (Option ℕ)) → IsLosing path before (x ∷ rest) slots → IsLosing path before rest (set slots x.meter None)
Losing-more path before x rest slots h = record {
  within = λ y i. h.within y (inr i);
  bare = λ y i. elim (h.bare y i) [
    | inl b ↦ inl (still y b)
    | inr j ↦ elim j [ inl e ↦ inl (rw e (nothing slots x.meter)) | inr k ↦ inr k ]
  ];
  moved_are = moved-lost path slots x (h.within x (inl refl)) ∙ h.moved_are;
  len = length-set slots x.meter None ∙ h.len;
}
  where
    still : (y : Move) → get_or slots y.meter None ≡ None → get_or (set slots x.meter None) y.meter None ≡ None
    still y b = elim (cases_eq y.meter x.meter) [
      | inl s ↦ rw s (nothing slots x.meter)
      | inr n ↦ get_or-set_other slots x.meter y.meter None None n ∙ b
    ]

pub Losing-ended : (path : List Move) (before slots : List (Option ℕ)) → IsLosing path before [] slots → (x : Move) → In x path → get_or slots x.meter None ≡ None
Losing-ended path before slots h x i = elim (h.bare x i) [ inl b ↦ b | inr j ↦ absurd j ]

-- the moves that are left have different meters, without pairs, and put in what the path does
pub record IsAdding (path : List Move) (before : List (Option ℕ)) (rest : List Move) (slots : List (Option ℕ)) : Type 0 where
  pub low : (x : Move) → In x rest → x.meter < length slots
  pub different : Differ rest
  pub bare : (x : Move) → In x rest → get_or slots x.meter None ≡ None
  pub moved_are : moved rest slots ≡ moved path before

pub Adding-begun : (path : List Move) (slots : List (Option ℕ)) → All (λ (x : Move). x.meter < length slots) path → Differ path
    → All (λ (x : Move). get_or slots x.meter None ≡ None) path → IsAdding path slots path slots
Adding-begun path slots low different bare = record {
  low = In-from_All (λ (x : Move). x.meter < length slots) path low;
  different = different;
  bare = In-from_All (λ (x : Move). get_or slots x.meter None ≡ None) path bare;
  moved_are = refl;
}

module _ (path : List Move) (before : List (Option ℕ)) (x : Move) (rest : List Move) (slots : List (Option ℕ)) (h : IsAdding path before (x ∷ rest) slots) where
  left_bare : (y : Move) → In y rest → get_or (set slots x.meter (Some x.branch)) y.meter None ≡ None
  left_bare y i = get_or-set_other slots x.meter y.meter (Some x.branch) None (λ s. head_apart x rest h.different y i (sym s)) ∙ h.bare y (inr i)

  pub Adding-more : IsAdding path before rest (set slots x.meter (Some x.branch))
  Adding-more = record {
    low = λ y i. omega (arith, h.low y (inr i), length-set slots x.meter (Some x.branch));
    different = tail_apart x rest h.different;
    bare = left_bare;
    moved_are = h.moved_are;
  }

  -- with the next pair the branches are a part of those after the path
  pub Adding-forest : (ends : List (Option Ends)) → IsForestAt ends (branches (pairs_of (moved path before))) → IsForestAt ends (branches (pairs_of (set slots x.meter (Some x.branch))))
  Adding-forest ends f =
      let now = set slots x.meter (Some x.branch) in
      forest_within ends (moved rest now) now
      (λ k e is. moved-kept rest now k (λ y i s. none_some e (sym (left_bare y i) ∙ (ap (λ j. get_or now j None) s ∙ is))) ∙ is)
      (subst (λ (s : List (Option ℕ)). IsForestAt ends (branches (pairs_of s))) (sym h.moved_are) f)
