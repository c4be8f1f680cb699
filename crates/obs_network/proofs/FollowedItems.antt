-- Where one row of a graph changed, items touch what they did but at its ends.
use Rattle.std.proofs.Common.{◌≡◌, ℕ, suc, ◌+◌, Bool, true, false, inl, inr, Option, Some, None, List, [], ◌∷◌, length, map, take, get_or, set, refl, sym, ap, ◌∙◌}
use Rattle.std.specs.Prelude.{◌||◌, if◌then◌else◌, nat_lt, slice_index}
use Rattle.std.proofs.lemmas.Bool.{cases_Bool, eq-eqb, true≢false}
use Rattle.std.proofs.lemmas.List.{get_or-set_other, length-set}
use Rattle.obs_graph.specs.declared.Ends.{Ends}
use Rattle.obs_graph.specs.Graph.{itself_of}
use Rattle.obs_graph.specs.Positions.{branches_at, has_end}
use Rattle.obs_graph.proofs.SetPositions.{branches_at-set}
use Rattle.obs_case.specs.declared.rows.Candidate.{Candidate}
use Rattle.obs_case.specs.declared.rows.Kind.{Kind}
use Rattle.obs_case.specs.declared.rows.Kind.TheVariants.{Flow, Injection, Zero, Angle}
use Rattle.obs_case.specs.declared.rows.Meter.{Meter}
use Rattle.obs_meter.specs.declared.Touch.{Touch}
use Rattle.obs_meter.specs.declared.Touch.TheVariants.{Nothing, Edge, Star, Front}
use Rattle.obs_meter.specs.Spanned.{both_ends}
use Rattle.obs_network.specs.Components.{vertex_component}
use Rattle.obs_network.specs.inner.Following.{followed, is_end, is_near}
use Rattle.obs_network.specs.Located.{touch_component}
use Rattle.obs_network.specs.Touching.{candidate_touch, candidate_touches, meter_touch, meter_touches, rows_at, touch_of}

neither : (a b : Bool) → (a || b) ≡ false → (a ≡ false) × (b ≡ false)
neither true b e = absurd (true≢false e)
neither false b e = (refl, e)

-- the branches at a vertex that was no end of the changed one and is none
branches_elsewhere : (ends : List (Option Ends)) (at : ℕ) (after : Option Ends) (v : ℕ) → is_end (get_or ends at None) after v ≡ false → branches_at (set ends at after) v ≡ branches_at ends v
branches_elsewhere ends at after v e =
    let none = neither (has_end v (get_or ends at None)) (has_end v after) e in
    branches_at-set ends at after v none.0 none.1

-- what is not near the row lies where it did
pub component_far : (components : List ℕ) (ends : List (Option Ends)) (at : ℕ) (after : Option Ends) (touch : Touch) → is_near at (get_or ends at None) after touch ≡ false
    → touch_component components (set ends at after) touch ≡ touch_component components ends touch
component_far components ends at after Nothing e = refl
component_far components ends at after (Edge p) e =
    let other : p ≡ at → ⊥ = λ same. true≢false (sym (eq-eqb p at same) ∙ e) in
    ap (λ (o : Option Ends). if nat_lt 0 (length (itself_of o p)) then Some (vertex_component components (both_ends o).0) else None) (get_or-set_other ends at p after None other)
component_far components ends at after (Star v) e =
    ap (λ (l : List ℕ). if nat_lt 0 (length l) then Some (vertex_component components v) else None) (branches_elsewhere ends at after v e)
component_far components ends at after (Front v count) e =
    ap (λ (l : List ℕ). if nat_lt 0 (length (take count l)) then Some (vertex_component components v) else None) (branches_elsewhere ends at after v e)

-- and is touched as it was
pub followed_far : (rows : List (Option Ends)) (at : ℕ) (before after : Option Ends) (touch : Touch) → is_near at before after touch ≡ false → followed rows before after touch ≡ touch
followed_far rows at before after Nothing e = refl
followed_far rows at before after (Edge p) e = refl
followed_far rows at before after (Star v) e = refl
followed_far rows at before after (Front v count) e = rw e refl

-- rows, and the same with one changed
module _ (rows : List (Option Ends)) (at : ℕ) (after : Option Ends) where
  abbrev now : List (Option Ends)
  now = set rows at after

  abbrev follow : Touch → Touch
  follow = followed now (get_or rows at None) after

  at_bus : (v : ℕ) → rows_at now v ≡ follow (rows_at rows v)
  at_bus v =
      elim (cases_Bool (is_end (get_or rows at None) after v)) [
        | inl e ↦ rw e refl
        | inr e ↦ rw e (ap (λ (l : List ℕ). Front v (length l)) (branches_elsewhere rows at after v e))
      ]

  of_kind : (buses : List ℕ) (m : ℕ) (kind : Kind) (u : ℕ) → touch_of now buses m kind u ≡ follow (touch_of rows buses m kind u)
  of_kind buses m Flow u = refl
  of_kind buses m Injection u = at_bus (slice_index buses u)
  of_kind buses m Zero u = at_bus (slice_index buses u)
  of_kind buses m Angle u = ap (λ n. Edge (n + m)) (length-set rows at after)

  of_meter : (buses : List ℕ) (m : ℕ) (row : Meter) → meter_touch now buses m row ≡ follow (meter_touch rows buses m row)
  of_meter buses m row = elim (cases_Bool row.inservice) [ inl e ↦ rw e (of_kind buses m row.kind row.at) | inr e ↦ rw e refl ]

  pub meters_followed : (buses : List ℕ) (m : ℕ) (meters : List Meter) → map follow (meter_touches rows buses m meters) ≡ meter_touches now buses m meters
  meters_followed buses m [] = refl
  meters_followed buses m (row ∷ meters) =
      ap (λ (t : Touch). t ∷ map follow (meter_touches rows buses (suc m) meters)) (sym (of_meter buses m row))
      ∙ ap (λ (l : List Touch). meter_touch now buses m row ∷ l) (meters_followed buses (suc m) meters)

  pub candidates_followed : (buses : List ℕ) (m : ℕ) (candidates : List Candidate) → map follow (candidate_touches rows buses m candidates) ≡ candidate_touches now buses m candidates
  candidates_followed buses m [] = refl
  candidates_followed buses m (row ∷ candidates) =
      ap (λ (t : Touch). t ∷ map follow (candidate_touches rows buses (suc m) candidates)) (sym (of_kind buses m row.kind row.at))
      ∙ ap (λ (l : List Touch). candidate_touch now buses m row ∷ l) (candidates_followed buses (suc m) candidates)
