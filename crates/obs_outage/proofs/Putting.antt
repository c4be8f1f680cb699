-- Branches of a graph that are put into a part of it.
use Rattle.std.proofs.Common.{inl, inr, ◌≡◌, ◌≢◌, ℕ, ◌+◌, ◌<◌, Bool, true, Option, Some, None, List, [], ◌∷◌, ◌++◌, length, get_or, set, take, drop, refl, sym, ap, ◌∙◌, subst, get_or-set_same, get_or-set_other}
use Rattle.std.specs.Prelude.{All, IfSome}
use Rattle.std.proofs.lemmas.Bool.{cases_eq}
use Rattle.std.proofs.lemmas.List.{get_or_default, take-append-drop, take_more}
use Rattle.obs_graph.specs.declared.Ends.{Ends}
use Rattle.obs_graph.specs.Positions.{AreBranches, branches_at}
use Rattle.obs_matroid.specs.Lists.{In}
use Rattle.obs_matroid.proofs.Contained.{All-from_In, In-from_All}
use Rattle.obs_matroid.proofs.Lists.{In-append_left, In-append_right}
use Rattle.obs_meter.specs.declared.Touch.{Touch}
use Rattle.obs_meter.specs.declared.Touch.TheVariants.{Star}
use Rattle.obs_meter.specs.Touches.{touch_at}
use Rattle.obs_meter.proofs.Instance.{in_range}
use Rattle.obs_meter.proofs.Touched.{In-take, touched-below}
use Rattle.obs_outage.specs.inner.Sparing.{ArePut, AreTouchedBy}

module _ (ends before : List (Option Ends)) where
  pub ArePut-none : (L : List ℕ) → ArePut ends before L before
  ArePut-none L = λ e x is. inl is

  -- what is listed may stand on a longer list
  pub ArePut-among : (K L : List ℕ) (after : List (Option Ends)) → ((e : ℕ) → In e K → In e L) → ArePut ends before K after → ArePut ends before L after
  ArePut-among K L after more h = λ e x is. elim (h e x is) [ inl b ↦ inl b | inr i ↦ inr (i.0, more e i.1) ]

  -- one branch more
  ArePut-one : (part : List (Option Ends)) (L : List ℕ) (p : ℕ) (o : Option Ends) → o ≡ get_or ends p o → p < length ends → p < length part
      → ArePut ends before L part → ArePut ends before (L ++ p ∷ []) (set part p o)
  ArePut-one part L p o is low there h = λ e x at. elim (cases_eq e p) [
    | inl y ↦ (
        let here : o ≡ Some x = sym (get_or-set_same part p o None there) ∙ (ap (λ k. get_or (set part p o) k None) (sym y) ∙ at) in
        inr (ap (λ k. get_or ends k None) y ∙ (get_or_default ends p None o low ∙ (sym is ∙ here)), In-append_right e L (p ∷ []) (inl y)))
    | inr n ↦ elim (h e x (sym (get_or-set_other part p e o None n) ∙ at)) [
      | inl b ↦ inl b
      | inr i ↦ inr (i.0, In-append_left e L (p ∷ []) i.1)
    ]
  ]

  pub ArePut-next : (part : List (Option Ends)) (L : List ℕ) (i : ℕ) (o : Option Ends) → i < length L → o ≡ get_or ends (get_or L i 0) o → get_or L i 0 < length ends
      → get_or L i 0 < length part → ArePut ends before (take i L) part → ArePut ends before (take (i + 1) L) (set part (get_or L i 0) o)
  ArePut-next part L i o low is p there h =
      subst (λ (K : List ℕ). ArePut ends before K (set part (get_or L i 0) o)) (sym (take_more L i 0 low)) (ArePut-one part (take i L) (get_or L i 0) o is p there h)

-- what stands in a part of a list stands in the list
pub In-slice : (n k : ℕ) (xs : List ℕ) (e : ℕ) → In e (take n (drop k xs)) → In e xs
In-slice n k xs e i = subst (λ (ys : List ℕ). In e ys) (take-append-drop k xs) (In-append_right e (take k xs) (drop k xs) (In-take n (drop k xs) e i))

module _ (ends : List (Option Ends)) (touches : List Touch) (marks : ℕ → Bool) where
  pub AreTouchedBy-none : (part : List (Option Ends)) → ((e : ℕ) → get_or part e None ≡ None) → AreTouchedBy ends touches marks part
  AreTouchedBy-none part none = λ e x is. absurd (apart x (sym (none e) ∙ is))
    where
      apart : (x : Ends) → None ≡ Some x → ⊥
      apart x e = cc

  -- with what one marked meter touches
  pub AreTouchedBy-more : (part after : List (Option Ends)) (m : ℕ) → marks m ≡ true → ArePut ends part (touch_at ends touches m) after
      → AreTouchedBy ends touches marks part → AreTouchedBy ends touches marks after
  AreTouchedBy-more part after m marked put h = λ e x is. elim (put e x is) [ inl b ↦ h e x b | inr i ↦ (i.0, m, marked, i.1) ]

  -- they are branches of the graph
  pub AreTouchedBy-branches : (n : ℕ) (part : List (Option Ends)) → AreBranches n ends → AreTouchedBy ends touches marks part → AreBranches n part
  AreTouchedBy-branches n part ok h = λ k d l.
      let P : Option Ends → Type 0 = λ o. IfSome o (λ e. (e.a < n) × (e.b < n) × (e.a ≢ e.b)) in
      subst P (get_or_default part k None d l) (in_part k (get_or part k None) refl)
    where
      in_part : (k : ℕ) (o : Option Ends) → get_or part k None ≡ o → IfSome (get_or part k None) (λ e. (e.a < n) × (e.b < n) × (e.a ≢ e.b))
      in_part k None is = subst (λ o. IfSome o (λ e. (e.a < n) × (e.b < n) × (e.a ≢ e.b))) (sym is) tt
      in_part k (Some x) is = subst (λ o. IfSome o (λ e. (e.a < n) × (e.b < n) × (e.a ≢ e.b))) ((h k x is).0 ∙ sym is) (in_range n ends k ok)

-- the first so many branches at a vertex are the graph's
pub front_below : (ends : List (Option Ends)) (v count k n : ℕ) (bs : List ℕ) → bs ≡ branches_at ends v → All (λ e. e < length ends) (take n (drop k (take count bs)))
front_below ends v count k n bs is = All-from_In (λ e. e < length ends) (take n (drop k (take count bs))) (λ e i.
    In-from_All (λ x. x < length ends) (branches_at ends v) (touched-below ends (Star v)) e
    (subst (λ (xs : List ℕ). In e xs) is (In-take count bs e (In-slice n k (take count bs) e i))))
