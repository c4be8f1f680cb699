-- The first so many branches at a vertex.
use Rattle.std.proofs.Common.{◌≡◌, ℕ, zero, suc, ◌≤◌, ◌==◌, inl, inr, true, false, Option, Some, None, List, [], ◌∷◌, length, take, get_or, subst, arith}
use Rattle.std.specs.List.{list_any}
use Rattle.std.proofs.lemmas.Bool.{cases_Bool}
use Rattle.obs_graph.specs.declared.Ends.{Ends}
use Rattle.obs_graph.specs.Positions.{branches_at, has_end}
use Rattle.obs_graph.proofs.AtVertex.{has_end-at_vertex}
use Rattle.obs_graph.proofs.Present.{present_low}
use Rattle.obs_matroid.specs.Lists.{In, IsRising}
use Rattle.obs_matroid.proofs.Contained.{Contains-from_In}
use Rattle.obs_meter.specs.declared.Hub.{Hub}
use Rattle.obs_meter.specs.declared.Touch.{Touch}
use Rattle.obs_meter.specs.Touches.{touched}
use Rattle.obs_meter.specs.inner.Touches.{hub_of}
use Rattle.obs_meter.proofs.Touched.{In-from_any, In-take, touched-hub, touched-present}

-- what is no position isn't touched
pub untouched_past : (ends : List (Option Ends)) (t : Touch) (e : ℕ) → length ends ≤ e → list_any (λ p. p == e) (touched ends t) ≡ false
untouched_past ends t e past = elim (cases_Bool (list_any (λ p. p == e) (touched ends t))) [
  | inl y ↦ let l = present_low ends e (touched-present ends t e (In-from_any (touched ends t) e y)) in absurd (omega (arith, l, past))
  | inr n ↦ n
]

-- of a rising list the first so many have each one that isn't above one of them
pub In-take_below : (k : ℕ) (xs : List ℕ) (x y : ℕ) → IsRising xs → In x xs → In y (take k xs) → x ≤ y → In x (take k xs)
In-take_below k [] x y r i j l = absurd i
In-take_below zero (z ∷ zs) x y r i j l = absurd j
In-take_below (suc k) (z ∷ zs) x y r (inl e) j l = inl e
In-take_below (suc k) (z ∷ zs) x y r (inr i) (inl e) l = let h = r.0 x i in absurd (omega (arith, h, e, l))
In-take_below (suc k) (z ∷ zs) x y r (inr i) (inr j) l = inr (In-take_below k zs x y r.1 i j l)

-- what is touched at a hub has an end at its vertex
pub hub-end : (ends : List (Option Ends)) (t : Touch) (h : Hub) (e : ℕ) → hub_of ends t ≡ Some h → In e (touched ends t) → has_end h.vertex (get_or ends e None) ≡ true
hub-end ends t h e is i =
    let j : In e (take h.count (branches_at ends h.vertex)) = subst (λ (xs : List ℕ). In e xs) (touched-hub ends t h is) i in
    has_end-at_vertex ends h.vertex e (Contains-from_In e (branches_at ends h.vertex) (In-take h.count (branches_at ends h.vertex) e j))
