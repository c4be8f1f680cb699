-- What the branches of a graph join is a matroid.
use Rattle.std.proofs.Common.{◌≡◌, ◌≢◌, ℕ, suc, ◌<◌, List, ◌∷◌, length, get_or, refl, sym, ◌∙◌, inl, inr, ◌⊎◌, ◌↔◌, true, false, ◌||◌, ◌&&◌, Option, Some, None}
use Rattle.std.specs.Prelude.{IfSome, slice_index_or}
use Rattle.std.specs.List.{cons_option}
use Rattle.std.proofs.lemmas.Bool.{or_cases, or_left, or_right, and_parts, and_from, eqb-true, cases_lt}
use Rattle.std.proofs.lemmas.List.{get_or_past}
use Rattle.std.proofs.lemmas.List.Elements.{All-get_or}
use Rattle.obs_graph.specs.declared.Ends.{Ends}
use Rattle.obs_graph.specs.Joined.{is_joined, rank}
use Rattle.obs_graph.specs.inner.Joined.{joined_by}
use Rattle.obs_graph.specs.Positions.{ends_of, AreBranches}
use Rattle.obs_graph.proofs.IsJoined.{same-from_true, true-from_same, apart-from_false}
use Rattle.obs_graph.proofs.Exchange.{joined_by-is_joined}
use Rattle.obs_graph.proofs.Ranks.{rank-add_joined, rank-add_new}
use Rattle.obs_graph.proofs.Forests.{rank-nil}
use Rattle.obs_matroid.specs.inner.Matroid.{IsMatroid}
use Rattle.obs_matroid.specs.inner.Graphic.{IsJoining}
use Rattle.obs_matroid.proofs.Graphs.{IsMatroid-graphic}
use Rattle.obs_meter.specs.Spanned.{both_ends, ends_at, joined_at, rank_at, graph_matroid}

on : (es : List Ends) (u v w : ℕ) → is_joined es u v ≡ true → is_joined es v w ≡ true → is_joined es u w ≡ true
on es u v w s t = true-from_same es u w (same-from_true es u v s ∙ same-from_true es v w t)

back : (es : List Ends) (u v : ℕ) → is_joined es u v ≡ true → is_joined es v u ≡ true
back es u v t = true-from_same es v u (sym (same-from_true es u v t))

Hangs : List Ends → ℕ × ℕ → ℕ → ℕ → Type 0
Hangs es p u v = (is_joined es u v ≡ true) ⊎ ((is_joined es u p.0 ≡ true) × (is_joined es p.1 v ≡ true) ⊎ (is_joined es u p.1 ≡ true) × (is_joined es p.0 v ≡ true))

-- one more branch joins what hangs on its ends
added : (e : Ends) (es : List Ends) (u v : ℕ) → is_joined (e ∷ es) u v ≡ true ↔ Hangs es (e.a, e.b) u v
unfolding Hangs
added e es u v =
    let j = joined_by es in
    let is : (x y : ℕ) → joined_by es x y ≡ is_joined es x y = joined_by-is_joined es in
    let to : (x y : ℕ) → joined_by es x y ≡ true → is_joined es x y ≡ true = λ x y t. sym (is x y) ∙ t in
    let of : (x y : ℕ) → is_joined es x y ≡ true → joined_by es x y ≡ true = λ x y t. is x y ∙ t in (
      (λ t. let s : joined_by (e ∷ es) u v ≡ true = joined_by-is_joined (e ∷ es) u v ∙ t in
          elim (or_cases (j u v || (j u e.a && j e.b v)) (j u e.b && j e.a v) s) [
            | inl x ↦ elim (or_cases (j u v) (j u e.a && j e.b v) x) [
              | inl y ↦ inl (to u v y)
              | inr y ↦ let p = and_parts (j u e.a) (j e.b v) y in inr (inl (to u e.a p.0, to e.b v p.1))
            ]
            | inr y ↦ let p = and_parts (j u e.b) (j e.a v) y in inr (inr (to u e.b p.0, to e.a v p.1))
          ]),
      (λ c. sym (joined_by-is_joined (e ∷ es) u v) ∙ elim c [
        | inl y ↦ or_left (j u v || (j u e.a && j e.b v)) (j u e.b && j e.a v) (or_left (j u v) (j u e.a && j e.b v) (of u v y))
        | inr d ↦ elim d [
          | inl p ↦ or_left (j u v || (j u e.a && j e.b v)) (j u e.b && j e.a v) (or_right (j u v) (j u e.a && j e.b v) (and_from (j u e.a) (j e.b v) (of u e.a p.0) (of e.b v p.1)))
          | inr p ↦ or_right (j u v || (j u e.a && j e.b v)) (j u e.b && j e.a v) (and_from (j u e.b) (j e.a v) (of u e.b p.0) (of e.a v p.1))
        ]
      ]),
    )

added_option : (o : Option Ends) (es : List Ends) (u v : ℕ) → is_joined (cons_option o es) u v ≡ true ↔ Hangs es (both_ends o) u v
unfolding Hangs
added_option None es u v = ((λ t. inl t), (λ c. elim c [ inl y ↦ y | inr d ↦ elim d [ inl p ↦ on es u 0 v p.0 p.1 | inr p ↦ on es u 0 v p.0 p.1 ] ]))
added_option (Some e) es u v = added e es u v

pub IsJoining-graph : (branches : List (Option Ends)) → IsJoining (ends_at branches) (joined_at branches)
unfolding Hangs
IsJoining-graph branches = record {
  bare = λ u v t. eqb-true u v t;
  same = λ L u. true-from_same (ends_of branches L) u u refl;
  back = λ L u v t. back (ends_of branches L) u v t;
  on = λ L u v w s t. on (ends_of branches L) u v w s t;
  added = λ e L u v. added_option (slice_index_or branches e None) (ends_of branches L) u v;
}

spanned_option : (n : ℕ) (o : Option Ends) (es : List Ends) → is_joined es (both_ends o).0 (both_ends o).1 ≡ true → rank n (cons_option o es) ≡ rank n es
spanned_option n None es t = refl
spanned_option n (Some e) es t = rank-add_joined n e es (same-from_true es e.a e.b t)

new_option : (n : ℕ) (o : Option Ends) (es : List Ends) → IfSome o (λ e. (e.a < n) × (e.b < n) × (e.a ≢ e.b)) → is_joined es (both_ends o).0 (both_ends o).1 ≡ false
    → rank n (cons_option o es) ≡ suc (rank n es)
new_option n None es r f = absurd (apart-from_false es 0 0 f refl)
new_option n (Some e) es r f = rank-add_new n e es r.0 r.1 (apart-from_false es e.a e.b f)

-- the ends of what stands at a position, and of none, are vertices
pub in_range : (n : ℕ) (branches : List (Option Ends)) (p : ℕ) → AreBranches n branches → IfSome (slice_index_or branches p None) (λ e. (e.a < n) × (e.b < n) × (e.a ≢ e.b))
in_range n branches p a =
    elim (cases_lt p (length branches)) [
      | inl l ↦ All-get_or (λ (o : Option Ends). IfSome o (λ e. (e.a < n) × (e.b < n) × (e.a ≢ e.b))) branches p None l a
      | inr l ↦ past n (get_or branches p None) (get_or_past branches p None l)
    ]
  where
    past : (n : ℕ) (o : Option Ends) → o ≡ None → IfSome o (λ e. (e.a < n) × (e.b < n) × (e.a ≢ e.b))
    past n None e = tt
    past n (Some x) e = absurd (cc e)

pub IsMatroid-graph : (n : ℕ) (branches : List (Option Ends)) → AreBranches n branches → IsMatroid (graph_matroid n branches)
IsMatroid-graph n branches a = IsMatroid-graphic (ends_at branches) (joined_at branches) (IsJoining-graph branches) (rank_at n branches)
    (rank-nil n)
    (λ L e t. spanned_option n (slice_index_or branches e None) (ends_of branches L) t)
    (λ L e f. new_option n (slice_index_or branches e None) (ends_of branches L) (in_range n branches e a) f)
