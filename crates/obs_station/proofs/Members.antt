-- The live meters of a station stand once each in its list.
use Rattle.std.proofs.Common.{◌≡◌, ℕ, zero, suc, ◌+◌, ◌<◌, Bool, true, eqb, List, [], ◌∷◌, length, get_or, refl, ap, ◌∙◌, inl, inr, arith}
use Rattle.std.proofs.lemmas.Bool.{cases_Bool, eq-eqb, eqb-true}
use Rattle.obs_graph.specs.Positions.{positions_from}
use Rattle.obs_graph.specs.Graph.{Graph}
use Rattle.obs_matroid.specs.Lists.{In, IsDistinct}
use Rattle.obs_matroid.proofs.Lists.{In_same}
use Rattle.obs_meter.specs.declared.Touch.{Touch}
use Rattle.obs_meter.specs.Touches.{is_live}
use Rattle.obs_switch.specs.Groups.{items_with}
use Rattle.obs_station.specs.inner.Held.{AreStationed, Stations}

module _ (test : ℕ → Bool) where
  -- what stands in the list passes
  passes : (i : ℕ) (xs : List ℕ) (x : ℕ) → In x (positions_from test i xs) → (j : ℕ) × (j < length xs) × (x ≡ i + j) × (test (get_or xs j 0) ≡ true)
  passes i [] x h = absurd h
  passes i (y ∷ xs) x h = elim (cases_Bool (test y)) [
    | inl t ↦ elim (rw t at h) [ inl e ↦ (0, omega arith, omega (arith, e), t) | inr k ↦ later (passes (suc i) xs x k) ]
    | inr f ↦ later (passes (suc i) xs x (rw f at h))
  ]
    where
      later : (j : ℕ) × (j < length xs) × (x ≡ suc i + j) × (test (get_or xs j 0) ≡ true) → (j : ℕ) × (j < suc (length xs)) × (x ≡ i + j) × (test (get_or (y ∷ xs) j 0) ≡ true)
      later v = let l = v.1 in let e = v.2 in (suc v.0, omega (arith, l), omega (arith, e), v.3)

  distinct : (i : ℕ) (xs : List ℕ) → IsDistinct (positions_from test i xs)
  distinct i [] = tt
  distinct i (y ∷ xs) = elim (cases_Bool (test y)) [
    | inl t ↦ rw t ((λ h. let v = passes (suc i) xs i h in let e = v.2 in absurd (omega (arith, e))), distinct (suc i) xs)
    | inr f ↦ rw f (distinct (suc i) xs)
  ]

  -- and what passes stands there
  stands : (i : ℕ) (xs : List ℕ) (j : ℕ) → j < length xs → test (get_or xs j 0) ≡ true → In (i + j) (positions_from test i xs)
  stands i [] j l t = absurd (omega (arith, l))
  stands i (y ∷ xs) zero l t = rw t (inl (omega arith))
  stands i (y ∷ xs) (suc j) l t =
      let rest = In_same (i + suc j) (suc i + j) (positions_from test (suc i) xs) (omega arith) (stands (suc i) xs j (omega (arith, l)) t) in
      elim (cases_Bool (test y)) [ inl s ↦ rw s (inr rest) | inr f ↦ rw f rest ]

pub members-distinct : (keys : List ℕ) (c : ℕ) → IsDistinct (items_with keys c)
members-distinct keys c = distinct (λ k. eqb k c) 0 keys

pub member-at : (keys : List ℕ) (m : ℕ) → m < length keys → In m (items_with keys (get_or keys m 0))
member-at keys m l =
    In_same m (0 + m) (items_with keys (get_or keys m 0)) (omega arith) (stands (λ k. eqb k (get_or keys m 0)) 0 keys m l (eq-eqb (get_or keys m 0) (get_or keys m 0) refl))

-- a member is one of those that have keys
pub member-low : (keys : List ℕ) (c m : ℕ) → In m (items_with keys c) → m < length keys
member-low keys c m i = let v = passes (λ k. eqb k c) 0 keys m i in let l = v.1 in let e = v.2 in omega (arith, l, e)

pub members-live : (g : Graph) (touches : List Touch) (s : Stations) (c : ℕ) → AreStationed g touches s → c < s.buses.count → (m : ℕ) → In m (items_with s.keys c) → is_live g.ends touches m ≡ true
members-live g touches s c at low m i =
    let v = passes (λ k. eqb k c) 0 s.keys m i in
    let e : m ≡ v.0 = let k = v.2 in omega (arith, k) in
    let key : get_or s.keys m 0 ≡ c = ap (λ k. get_or s.keys k 0) e ∙ eqb-true (get_or s.keys v.0 0) c v.3 in
    (at m (let l = v.1 in omega (arith, e, l))).0 (omega (arith, key, low))
