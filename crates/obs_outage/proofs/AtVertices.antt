-- Where meters don't stand by a vertex of a row, they touch the same without it.
use Rattle.std.proofs.Common.{◌≡◌, ◌⊎◌, ℕ, ◌+◌, ◌<◌, Bool, true, false, eqb, inl, inr, Option, Some, None, List, length, get_or, map, take, ap, ◌∙◌, sym, refl, arith}
use Rattle.std.specs.Prelude.{◌==◌, ◌||◌}
use Rattle.std.specs.List.{list_any}
use Rattle.std.proofs.lemmas.Bool.{cases_Bool, cases_eq, eq-eqb, eqb-true, true≢false}
use Rattle.std.proofs.lemmas.List.{ext_get_or, get_or-map, length-map}
use Rattle.obs_graph.specs.declared.Ends.{Ends}
use Rattle.obs_graph.specs.Positions.{branches_at, has_end}
use Rattle.obs_graph.proofs.AtVertex.{has_end-at_vertex, positions_from-contains, positions_from-pass}
use Rattle.obs_matroid.specs.Lists.{In}
use Rattle.obs_matroid.proofs.Contained.{Contains-from_In, In-from_Contains}
use Rattle.obs_matroid.proofs.Lists.{In_same}
use Rattle.obs_meter.specs.declared.Touch.{Touch}
use Rattle.obs_meter.specs.declared.Touch.TheVariants.{Nothing, Edge, Star, Front}
use Rattle.obs_meter.proofs.Touched.{In-from_any, In-take}
use Rattle.obs_switch.specs.Groups.{items_with}
use Rattle.obs_network.specs.Network.{Network}
use Rattle.obs_outage.specs.inner.AtVertices.{AreVerticesOf, AtVertices, front_vertex}
use Rattle.obs_outage.specs.inner.Without.{AreTouched, left_if, left_out}

-- what stands in the list of a key has it
pub member-key : (keys : List ℕ) (v m : ℕ) → In m (items_with keys v) → (m < length keys) × (get_or keys m 0 ≡ v)
member-key keys v m i =
    let c = Contains-from_In m (items_with keys v) i in
    let p = positions_from-pass (λ k. eqb k v) 0 keys c.0 m 0 c.1 in
    let e : m ≡ p.0 = let at = c.2 in let is = p.2 in omega (arith, at, is) in
    let low = p.1 in
    (omega (arith, low, e), ap (λ k. get_or keys k 0) e ∙ eqb-true (get_or keys p.0 0) v p.3)

-- and what has it stands there
pub key-member : (keys : List ℕ) (v m : ℕ) → m < length keys → get_or keys m 0 ≡ v → In m (items_with keys v)
key-member keys v m low is = In_same m (0 + m) (items_with keys v) (omega arith) (In-from_Contains (0 + m) (items_with keys v) (positions_from-contains (λ k. eqb k v) 0 keys m 0 low (eq-eqb (get_or keys m 0) v is)))

neither : (a b v : ℕ) → (v ≡ a → ⊥) → (v ≡ b → ⊥) → ((a == v) || (b == v)) ≡ false
neither a b v x y = elim (cases_Bool (a == v)) [
  | inl t ↦ absurd (x (sym (eqb-true a v t)))
  | inr f ↦ elim (cases_Bool (b == v)) [
    | inl t ↦ absurd (y (sym (eqb-true b v t)))
    | inr g ↦ rw f g
  ]
]

-- a front of the branches at a vertex that is no end of the row
front_stays : (ends : List (Option Ends)) (e v count : ℕ) → has_end v (get_or ends e None) ≡ false → left_out ends e (Front v count) ≡ Front v count
front_stays ends e v count off = elim (cases_Bool (list_any (λ p. p == e) (take count (branches_at ends v)))) [
  | inl on ↦
      let i = In-take count (branches_at ends v) e (In-from_any (take count (branches_at ends v)) e on) in
      absurd (true≢false (sym (has_end-at_vertex ends v e (Contains-from_In e (branches_at ends v) i)) ∙ off))
  | inr none ↦ rw none refl
]

-- no row, nothing to leave out
pub absent_stays : (ends : List (Option Ends)) (e : ℕ) (t : Touch) → get_or ends e None ≡ None → left_out ends e t ≡ t
absent_stays ends e Nothing none = refl
absent_stays ends e (Edge p) none = refl
absent_stays ends e (Star v) none = refl
absent_stays ends e (Front v count) none = front_stays ends e v count (ap (has_end v) none)

-- what isn't touched at an end of the row
far_stays : (n : ℕ) (ends : List (Option Ends)) (e : ℕ) (x : Ends) (t : Touch) → get_or ends e None ≡ Some x → (front_vertex n t ≡ x.a → ⊥) → (front_vertex n t ≡ x.b → ⊥) → left_out ends e t ≡ t
far_stays n ends e x Nothing is a b = refl
far_stays n ends e x (Edge p) is a b = refl
far_stays n ends e x (Star v) is a b = refl
far_stays n ends e x (Front v count) is a b = front_stays ends e v count (ap (has_end v) is ∙ neither x.a x.b v a b)

-- what becomes of it where it is left out or isn't
either : (ends : List (Option Ends)) (out : Bool) (e : ℕ) (t s : Touch) → left_out ends e t ≡ t → (s ≡ t) ⊎ (s ≡ left_out ends e t) → s ≡ left_if ends out e t
either ends true e t s stays (inl is) = is ∙ sym stays
either ends true e t s stays (inr is) = is
either ends false e t s stays (inl is) = is
either ends false e t s stays (inr is) = is ∙ stays

-- the listed ones are meters
pub listed_low : (n : Network) (h : AtVertices) → AreVerticesOf n h → (v m : ℕ) → In m (items_with h.at v) → m < length n.meters.touches
listed_low n h of v m i =
    let l = (member-key h.at v m i).0 in
    let len = ap (λ (ks : List ℕ). length ks) of.at ∙ length-map n.meters.touches (front_vertex n.graph.vertices) in
    omega (arith, l, len)

module _ (n : Network) (h : AtVertices) (of : AreVerticesOf n h) (out : Bool) (e : ℕ) (before : List Touch) (one_each : length before ≡ length n.meters.touches)
    (known : (m : ℕ) → (get_or before m Nothing ≡ get_or n.meters.touches m Nothing) ⊎ (get_or before m Nothing ≡ left_out n.graph.ends e (get_or n.meters.touches m Nothing))) where
  abbrev ends : List (Option Ends)
  ends = n.graph.ends

  abbrev touches : List Touch
  touches = n.meters.touches

  abbrev f : Touch → Touch
  f = left_if ends out e

  all_are : (after : List Touch) → length after ≡ length before → ((m : ℕ) → m < length touches → get_or after m Nothing ≡ f (get_or touches m Nothing)) → after ≡ map f touches
  all_are after len at = ext_get_or Nothing after (map f touches) (len ∙ (one_each ∙ sym (length-map touches f)))
      (λ m l. let low : m < length touches = omega (arith, l, len, one_each) in at m low ∙ sym (get_or-map f touches m Nothing Nothing low))

  -- where there is no such row
  pub touched_nowhere : get_or ends e None ≡ None → before ≡ map f touches
  touched_nowhere none = all_are before refl (λ m l. either ends out e (get_or touches m Nothing) (get_or before m Nothing) (absent_stays ends e (get_or touches m Nothing) none) (known m))

  key_of : (m : ℕ) → m < length touches → get_or h.at m 0 ≡ front_vertex n.graph.vertices (get_or touches m Nothing)
  key_of m l = ap (λ (ks : List ℕ). get_or ks m 0) of.at ∙ get_or-map (front_vertex n.graph.vertices) touches m Nothing 0 l

  low_key : (m : ℕ) → m < length touches → m < length h.at
  low_key m l = let len = ap (λ (ks : List ℕ). length ks) of.at ∙ length-map touches (front_vertex n.graph.vertices) in omega (arith, l, len)

  -- the meters at the one end, and then those at the other
  module _ (x : Ends) (is : get_or ends e None ≡ Some x) (middle after : List Touch) (first : AreTouched f (items_with h.at x.a) touches before middle) (then : AreTouched f (items_with h.at x.b) touches middle after) where
    at_b : (m : ℕ) → m < length touches → ((get_or h.at m 0 ≡ x.b) ⊎ (get_or h.at m 0 ≡ x.b → ⊥)) → ((get_or h.at m 0 ≡ x.a) ⊎ (get_or h.at m 0 ≡ x.a → ⊥)) → get_or after m Nothing ≡ f (get_or touches m Nothing)
    at_b m l (inl b) a = then.listed m (key-member h.at x.b m (low_key m l) b)
    at_b m l (inr b) (inl a) = then.rest m (λ i. b (member-key h.at x.b m i).1) ∙ first.listed m (key-member h.at x.a m (low_key m l) a)
    at_b m l (inr b) (inr a) =
        then.rest m (λ i. b (member-key h.at x.b m i).1) ∙ (first.rest m (λ i. a (member-key h.at x.a m i).1)
        ∙ either ends out e (get_or touches m Nothing) (get_or before m Nothing)
        (far_stays n.graph.vertices ends e x (get_or touches m Nothing) is (λ k. a (key_of m l ∙ k)) (λ k. b (key_of m l ∙ k))) (known m))

    pub touched_around : after ≡ map f touches
    touched_around = all_are after (then.len ∙ first.len) (λ m l. at_b m l (cases_eq (get_or h.at m 0) x.b) (cases_eq (get_or h.at m 0) x.a))
