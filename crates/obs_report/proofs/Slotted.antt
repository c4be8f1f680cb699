-- Lines for the pairs of slots, and for the layers of a plan, one behind the other.
use Rattle.std.proofs.Common.{◌≡◌, ◌∙◌, ℕ, ◌+◌, ◌<◌, ◌≤◌, suc, Option, Some, None, List, [], ◌∷◌, ◌++◌, length, get_or, drop, refl, sym, ap, subst, append_assoc, append-nil, add-one}
use Rattle.std.specs.List.{flat_map}
use Rattle.std.proofs.Math.ListN.{drop_of_length-le}
use Rattle.std.proofs.Math.Seq.{drop-cons}
use Rattle.obs_case.specs.Tables.{Tables}
use Rattle.obs_matroid.specs.Assignments.{Pair}
use Rattle.obs_matroid.specs.inner.Slots.{pairs_from}
use Rattle.obs_placement.specs.declared.plans.Layer.{Layer}
use Rattle.obs_report.specs.Placements.{layer_line, layers_text, listed_between}
use Rattle.obs_report.specs.inner.Placements.{AreCountsOf}

module _ (f : Pair → List ℕ) where
  slot_first : (m : ℕ) (s : Option ℕ) (slots : List (Option ℕ)) → flat_map f (pairs_from m (s ∷ [])) ++ flat_map f (pairs_from (suc m) slots) ≡ flat_map f (pairs_from m (s ∷ slots))
  slot_first m None slots = refl
  slot_first m (Some e) slots = ap (λ t. t ++ flat_map f (pairs_from (suc m) slots)) (append-nil (f (m, e)))

  -- the lines of one slot more
  pub slot_more : (slots : List (Option ℕ)) (m : ℕ) (text whole : List ℕ) → m < length slots
      → text ++ flat_map f (pairs_from m (drop m slots)) ≡ whole
      → (text ++ flat_map f (pairs_from m (get_or slots m None ∷ []))) ++ flat_map f (pairs_from (m + 1) (drop (m + 1) slots)) ≡ whole
  slot_more slots m text whole l all =
      let s = get_or slots m None in
      let rest = flat_map f (pairs_from (m + 1) (drop (m + 1) slots)) in
      let one : flat_map f (pairs_from m (s ∷ [])) ++ rest ≡ flat_map f (pairs_from m (drop m slots)) =
      ap (λ k. flat_map f (pairs_from m (s ∷ [])) ++ flat_map f (pairs_from k (drop k slots))) (add-one m)
      ∙ (slot_first m s (drop (suc m) slots) ∙ ap (λ r. flat_map f (pairs_from m r)) (sym (drop-cons slots m None l))) in
      append_assoc text (flat_map f (pairs_from m (s ∷ []))) rest ∙ (ap (λ r. text ++ r) one ∙ all)

  -- no slot is left
  pub slot_none : (slots : List (Option ℕ)) (m : ℕ) (text whole : List ℕ) → length slots ≤ m → text ++ flat_map f (pairs_from m (drop m slots)) ≡ whole → text ≡ whole
  slot_none slots m text whole l all = sym (append-nil text) ∙ (ap (λ r. text ++ flat_map f (pairs_from m r)) (sym (drop_of_length-le slots l)) ∙ all)

-- what is left to print of layers: their text stands behind the text so far, and their counts don't fall
pub record AreLeft (t : Tables) (inside : List ℕ) (layers : List Layer) (k u : ℕ) (text : List ℕ) : Type 0 where
  pub whole : text ++ layers_text t inside u (drop k layers) ≡ layers_text t inside 0 layers
  pub counts : AreCountsOf (length inside) u (drop k layers)

module _ (t : Tables) (inside : List ℕ) (layers : List Layer) (k u : ℕ) (text : List ℕ) (l : Layer) (here : drop k layers ≡ l ∷ drop (suc k) layers) (left : AreLeft t inside layers k u text) where
  counts_here : AreCountsOf (length inside) u (l ∷ drop (suc k) layers)
  counts_here = subst (AreCountsOf (length inside) u) here left.counts

  pub layer_more : AreLeft t inside layers (k + 1) l.upto (text ++ (layer_line l ++ listed_between t inside u l.upto))
  layer_more =
      let piece = layer_line l ++ listed_between t inside u l.upto in
      let step : suc k ≡ k + 1 = sym (add-one k) in
      record {
        whole = ap (λ i. (text ++ piece) ++ layers_text t inside l.upto (drop i layers)) (sym step)
            ∙ (append_assoc text piece (layers_text t inside l.upto (drop (suc k) layers)) ∙ (ap (λ r. text ++ layers_text t inside u r) (sym here) ∙ left.whole));
        counts = subst (λ i. AreCountsOf (length inside) l.upto (drop i layers)) step counts_here.2;
      }

-- no layer is left
pub layer_none : (t : Tables) (inside : List ℕ) (layers : List Layer) (k u : ℕ) (text : List ℕ) → length layers ≤ k → AreLeft t inside layers k u text → text ≡ layers_text t inside 0 layers
layer_none t inside layers k u text l left =
    sym (append-nil text) ∙ (ap (λ r. text ++ layers_text t inside u r) (sym (drop_of_length-le layers l)) ∙ left.whole)
