-- A pair less, in the arrays of an assignment.
use Rattle.std.proofs.Common.{◌≡◌, ◌≢◌, ℕ, suc, ◌<◌, ◌≤◌, Option, Some, None, List, ◌∷◌, length, get_or, set, take, sym, ap, ◌∙◌, subst, inl, inr, ◌↔◌, arith, get_or-set_same, get_or-set_other, length-set}
use Rattle.std.proofs.lemmas.Bool.{cases_eq}
use Rattle.std.proofs.lemmas.List.{get_or-take, length-take-le, set-get_or, set-set}
use Rattle.std.proofs.Math.Seq.{take-set-lt}
use Rattle.obs_graph.specs.declared.Ends.{Ends}
use Rattle.obs_graph.specs.Positions.{IsForestAt}
use Rattle.obs_graph.proofs.AtPositions.{IsForestAt-among}
use Rattle.obs_matroid.specs.Lists.{In, IsDistinct}
use Rattle.obs_matroid.specs.Assignments.{branches}
use Rattle.obs_matroid.specs.inner.Slots.{pairs_of}
use Rattle.obs_matroid.proofs.Contained.{Contains-from_In, In-from_Contains, pairs_from_IsDistinct}
use Rattle.obs_graph.specs.Graph.{Graph}
use Rattle.obs_forest.specs.Forest.{Forest}
use Rattle.obs_forest.specs.inner.Forest.{StandsOver, taken}
use Rattle.obs_assign.specs.inner.Kept.{IsInverse, IsListed}
use Rattle.obs_assign.proofs.Keeping.{slot_without}
use Rattle.obs_assign.proofs.Listed.{IsForestAt-listed, taken-same}
use Rattle.obs_assign.proofs.Moving.{length-put_bare}
use Rattle.obs_assign.proofs.Slotted.{branch_slot, none_some, slot_branch, some_same}

-- what holds once the pair of m and e is gone, and its branch is out of the list
pub record IsLost (ends : List (Option Ends)) (meters : ℕ) (slots owners : List (Option ℕ)) (list less : List ℕ) (count m e : ℕ) : Type 0 where
  pub forest : IsForestAt ends (e ∷ less)
  pub same : taken ends list ≡ taken ends (e ∷ less)
  pub counted : count ≡ suc (length (pairs_of (take meters (set slots m None))))
  pub inverse : IsInverse (take meters (set slots m None)) (set owners e None)
  pub listed : IsListed (take meters (set slots m None)) less

-- the branch is listed, and within the arrays
pub record IsLosable (ends : List (Option Ends)) (meters : ℕ) (slots owners : List (Option ℕ)) (list : List ℕ) (count m e : ℕ) : Type 0 where
  pub room : e < length owners
  pub listed : In e list
  pub few : count ≤ meters
  pub some : 0 < count

module _ (ends : List (Option Ends)) (meters : ℕ) (slots owners : List (Option ℕ)) (list : List ℕ) (count m e : ℕ) (most : meters ≤ length slots) (low : m < meters) (at : get_or slots m None ≡ Some e)
    (inverse : IsInverse (take meters slots) owners) (listed : IsListed (take meters slots) list) (count_is : count ≡ length (pairs_of (take meters slots))) (f : IsForestAt ends (branches (pairs_of (take meters slots)))) where
  abbrev old : List (Option ℕ)
  old = take meters slots

  abbrev new : List (Option ℕ)
  new = set old m None

  len : length old ≡ meters
  len = length-take-le meters slots most

  at_m : get_or old m None ≡ Some e
  at_m = get_or-take meters slots m None low ∙ at

  -- nobody else has the branch
  owner_one : (k : ℕ) → get_or old k None ≡ Some e → k ≡ m
  owner_one k h = some_same k m (sym ((inverse k e).0 h) ∙ (inverse m e).0 at_m)

  counted_new : suc (length (pairs_of new)) ≡ length (pairs_of old)
  counted_new =
      let none : get_or new m None ≡ None = get_or-set_same old m None None (omega (arith, len)) in
      let back : set new m (Some e) ≡ old = set-set old m None (Some e) ∙ again in
      sym (length-put_bare new m e (omega (arith, len, length-set old m None)) none) ∙ ap (λ (s : List (Option ℕ)). length (pairs_of s)) back
    where
      again : set old m (Some e) ≡ old
      again = ap (λ (o : Option ℕ). set old m o) (sym at_m) ∙ set-get_or old m None

  first : take meters (set slots m None) ≡ new
  first = take-set-lt meters slots m None low

  pub losable : e < length owners → count ≤ meters → IsLosable ends meters slots owners list count m e
  losable room few = record {
    room = room;
    listed = (listed.exactly e).1 (slot_branch old m e at_m);
    few = few;
    some = omega (arith, counted_new, count_is);
  }

  inverse_new : e < length owners → IsInverse new (set owners e None)
  inverse_new room k g = (
    (λ h.
        let w = slot_without old m k g h in
        get_or-set_other owners e g None None (λ s. w.0 (owner_one k (w.1 ∙ ap Some s))) ∙ (inverse k g).0 w.1),
    (λ h. elim (cases_eq g e) [
      | inl y ↦ absurd (none_some k (sym (get_or-set_same owners e None None room) ∙ (ap (λ x. get_or (set owners e None) x None) (sym y) ∙ h)))
      | inr n ↦
          let was : get_or old k None ≡ Some g = (inverse k g).1 (sym (get_or-set_other owners e g None None n) ∙ h) in
          get_or-set_other old m k None None (λ s. n (some_same g e (sym was ∙ (ap (λ x. get_or old x None) s ∙ at_m)))) ∙ was
    ]),
  )

  module _ (less : List ℕ) (different : IsDistinct less) (exactly : (x : ℕ) → In x less ↔ (In x list × (x ≢ e))) where
    listed_new : IsListed new less
    listed_new = record {
      different = different;
      exactly = λ x. (
        (λ i.
            let w = (exactly x).0 i in
            let s = branch_slot old x ((listed.exactly x).0 w.0) in
            slot_branch new s.0 x (get_or-set_other old m s.0 None None (λ same. w.1 (some_same x e (sym s.1 ∙ (ap (λ y. get_or old y None) same ∙ at_m)))) ∙ s.1)),
        (λ i.
            let s = branch_slot new x i in
            let w = slot_without old m s.0 x s.1 in
            (exactly x).1 ((listed.exactly x).1 (slot_branch old s.0 x w.1), (λ same. w.0 (owner_one s.0 (w.1 ∙ ap Some same))))),
      );
    }

    pub IsLost-made : e < length owners → IsLost ends meters slots owners list less count m e
    IsLost-made room = record {
      forest = IsForestAt-among ends list (e ∷ less) (IsForestAt-listed ends old list listed f)
          (λ q c. Contains-from_In q list (back q (In-from_Contains q (e ∷ less) c))) (pairs_from_IsDistinct (e ∷ less) ((λ i. ((exactly e).0 i).1 refl_e), different));
      same = taken-same ends list (e ∷ less) (λ p. (there p, back p));
      counted = count_is ∙ (sym counted_new ∙ ap (λ (s : List (Option ℕ)). suc (length (pairs_of s))) (sym first));
      inverse = subst (λ (s : List (Option ℕ)). IsInverse s (set owners e None)) (sym first) (inverse_new room);
      listed = subst (λ (s : List (Option ℕ)). IsListed s less) (sym first) listed_new;
    }
      where
        refl_e : e ≡ e
        refl_e = omega arith

        e_in : In e list
        e_in = (listed.exactly e).1 (slot_branch old m e at_m)

        back : (p : ℕ) → In p (e ∷ less) → In p list
        back p (inl y) = subst (λ (x : ℕ). In x list) (sym y) e_in
        back p (inr i) = ((exactly p).0 i).0

        there : (p : ℕ) → In p list → In p (e ∷ less)
        there p i = elim (cases_eq p e) [ inl y ↦ inl y | inr n ↦ inr ((exactly p).1 (i, n)) ]

-- a forest that stands over the graph, by what it holds
pub held_over : (f : Forest) (g : Graph) (hs : List (Option Ends)) → StandsOver f g → f.held ≡ hs → f ≡ record { vertices = g.vertices; held = hs; most_vertices = f.most_vertices; most_branches = f.most_branches }
held_over f g hs stands is =
    ap (λ (v : ℕ). let h : Forest = record { vertices = v; held = f.held; most_vertices = f.most_vertices; most_branches = f.most_branches } in h) (sym stands.vertices)
    ∙ ap (λ (l : List (Option Ends)). let h : Forest = record { vertices = g.vertices; held = l; most_vertices = f.most_vertices; most_branches = f.most_branches } in h) is
