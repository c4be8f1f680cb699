-- What an outage spares of items: where the ends of a branch stay joined without it, each item touches what it touched, but for this branch.
use Rattle.std.proofs.Common.{◌≡◌, ℕ, ◌+◌, ◌<◌, Option, None, List, ◌++◌, length, get_or, set, refl, sym, ap, ◌∙◌, subst, arith, inl, inr, length-append, true}
use Rattle.std.specs.Prelude.{slice_index, slice_index_or, take}
use Rattle.std.proofs.lemmas.Bool.{cases_Bool, cases_lt, cond-true, cond-false}
use Rattle.std.proofs.lemmas.List.{get_or-set_other, get_or-set_same, get_or_past, length-set}
use Rattle.obs_graph.specs.declared.Ends.{Ends}
use Rattle.obs_graph.specs.Graph.{itself_of}
use Rattle.obs_graph.specs.Positions.{branches_at, has_end}
use Rattle.obs_graph.proofs.AtVertex.{branches_at-front}
use Rattle.obs_case.specs.declared.rows.Kind.{Kind}
use Rattle.obs_case.specs.declared.rows.Kind.TheVariants.{Flow, Injection, Zero, Angle}
use Rattle.obs_case.specs.declared.rows.Meter.{Meter}
use Rattle.obs_case.specs.Tables.{IsValid, Tables}
use Rattle.obs_matroid.specs.Lists.{In}
use Rattle.obs_meter.specs.declared.Touch.{Touch}
use Rattle.obs_meter.specs.declared.Touch.TheVariants.{Nothing}
use Rattle.obs_meter.specs.Touches.{touch_at, touched}
use Rattle.obs_meter.proofs.Touched.{In-from_any, any-from_In, itself_from, star_touched}
use Rattle.obs_network.specs.Switched.{case_bus_count, case_buses}
use Rattle.obs_network.specs.Touching.{meter_touch, meter_touches, touch_of}
use Rattle.obs_network.specs.Network.{case_angles, case_branches, case_meters, case_rows, network_of}
use Rattle.obs_network.specs.inner.Edited.{AreSameBut}
use Rattle.obs_network.specs.Parted.{outage_case}
use Rattle.obs_network.specs.inner.Parted.{StaysJoined}
use Rattle.obs_network.proofs.Items.{meter_touches-at, some_row}
use Rattle.obs_network.proofs.OfCase.{length-case_rows, length-meter_touches}
use Rattle.obs_network.proofs.Spared.{absolute_stay, angles_stay, branches_but_one, component_count_stays, components_stay, energised_stay, first_buses_stay, needed_stays, rows_but_one, sizes_stay}
use Rattle.obs_network.proofs.Whole.{grouped_is}

-- two lists of rows, and the same angle branches behind both: they are the same at all positions but one, which is a row
module _ (rows others angles : List (Option Ends)) (at : ℕ) (as_many : length rows ≡ length others)
    (same : (k : ℕ) → (k ≡ at → ⊥) → get_or (rows ++ angles) k None ≡ get_or (others ++ angles) k None)
    (same_rows : (k : ℕ) → (k ≡ at → ⊥) → get_or rows k None ≡ get_or others k None) where
  edge_spared : (k p : ℕ) → (p ≡ at → ⊥) → In p (itself_of (slice_index_or (rows ++ angles) k None) k) → In p (itself_of (slice_index_or (others ++ angles) k None) k)
  edge_spared k p ne i =
      let own = (itself_from (slice_index_or (rows ++ angles) k None) k p i).0 in
      subst (λ o. In p (itself_of o k)) (same k (λ here. ne (own ∙ here))) i

  front_spared : (bus p : ℕ) → (p ≡ at → ⊥) → In p (take (length (branches_at rows bus)) (branches_at (rows ++ angles) bus)) → In p (take (length (branches_at others bus)) (branches_at (others ++ angles) bus))
  front_spared bus p ne i =
      let here : In p (branches_at rows bus) = subst (λ (l : List ℕ). In p l) (branches_at-front rows angles bus) i in
      let ends = star_touched rows bus p ∙ any-from_In (branches_at rows bus) p here in
      let still : has_end bus (get_or others p None) ≡ true = ap (has_end bus) (sym (same_rows p ne)) ∙ ends in
      subst (λ (l : List ℕ). In p l) (sym (branches_at-front others angles bus)) (In-from_any (branches_at others bus) p (sym (star_touched others bus p) ∙ still))

  kind_spared : (buses : List ℕ) (m : ℕ) (kind : Kind) (u p : ℕ) → (p ≡ at → ⊥) → In p (touched (rows ++ angles) (touch_of rows buses m kind u)) → In p (touched (others ++ angles) (touch_of others buses m kind u))
  kind_spared buses m Flow u p ne i = edge_spared u p ne i
  kind_spared buses m Injection u p ne i = front_spared (slice_index buses u) p ne i
  kind_spared buses m Zero u p ne i = front_spared (slice_index buses u) p ne i
  kind_spared buses m Angle u p ne i =
      subst (λ n. In p (itself_of (slice_index_or (others ++ angles) (n + m) None) (n + m))) as_many (edge_spared (length rows + m) p ne i)

  meter_spared : (buses : List ℕ) (m : ℕ) (row : Meter) (p : ℕ) → (p ≡ at → ⊥) → In p (touched (rows ++ angles) (meter_touch rows buses m row)) → In p (touched (others ++ angles) (meter_touch others buses m row))
  meter_spared buses m row p ne i =
      let one = touch_of rows buses m row.kind row.at in
      let other = touch_of others buses m row.kind row.at in
      elim (cases_Bool row.inservice) [
        | inl e ↦ subst (λ (x : Touch). In p (touched (others ++ angles) x)) (sym (cond-true row.inservice other Nothing e))
            (kind_spared buses m row.kind row.at p ne (subst (λ (x : Touch). In p (touched (rows ++ angles) x)) (cond-true row.inservice one Nothing e) i))
        | inr e ↦ absurd (subst (λ (x : Touch). In p (touched (rows ++ angles) x)) (cond-false row.inservice one Nothing e) i)
      ]

  pub meters_spared : (buses : List ℕ) (meters : List Meter) (m p : ℕ) → (p ≡ at → ⊥)
      → In p (touch_at (rows ++ angles) (meter_touches rows buses 0 meters) m) → In p (touch_at (others ++ angles) (meter_touches others buses 0 meters) m)
  meters_spared buses meters m p ne i =
      let one = meter_touches-at rows buses 0 meters m in
      let other = meter_touches-at others buses 0 meters m in
      elim (cases_lt m (length meters)) [
        | inl l ↦
            let d = some_row meters m l in
            subst (λ (x : Touch). In p (touched (others ++ angles) x)) (sym (other d l))
            (meter_spared buses (0 + m) (get_or meters m d) p ne (subst (λ (x : Touch). In p (touched (rows ++ angles) x)) (one d l) i))
        | inr past ↦
            let none = get_or_past (meter_touches rows buses 0 meters) m Nothing (omega (arith, past, length-meter_touches rows buses 0 meters)) in
            absurd (subst (λ (x : Touch). In p (touched (rows ++ angles) x)) none i)
      ]

module _ (t : Tables) (v : IsValid t) (at : ℕ) (low : at < length t.branches) (stays : StaysJoined t at) where
  abbrev out : Tables
  out = outage_case t at

  in_rows : at < length (case_rows t)
  in_rows = omega (arith, low, length-case_rows t)

  same_rows : (k : ℕ) → (k ≡ at → ⊥) → get_or (case_rows out) k None ≡ get_or (case_rows t) k None
  same_rows k ne = ap (λ l. get_or l k None) (rows_but_one t v at stays) ∙ get_or-set_other (case_rows t) at k None None ne

  as_many : length (case_rows out) ≡ length (case_rows t)
  as_many = ap (λ (l : List (Option Ends)). length l) (rows_but_one t v at stays) ∙ length-set (case_rows t) at None

  -- the same angle branches stand behind the rows
  behind : case_branches out ≡ case_rows out ++ case_angles t
  unfolding case_branches
  behind = ap (λ l. case_rows out ++ l) (angles_stay t v at stays)

  same_branches : (k : ℕ) → (k ≡ at → ⊥) → get_or (case_rows out ++ case_angles t) k None ≡ get_or (case_rows t ++ case_angles t) k None
  unfolding case_branches
  same_branches k ne =
      ap (λ l. get_or l k None) (sym behind ∙ branches_but_one t v at stays low) ∙ get_or-set_other (case_branches t) at k None None ne

  pub touched_still : (m e : ℕ) → (e ≡ at → ⊥) → In e (touch_at (case_branches t) (case_meters t) m) → In e (touch_at (case_branches out) (case_meters out) m)
  unfolding case_branches case_meters
  touched_still m e ne i =
      subst (λ l. In e (touch_at l (meter_touches (case_rows out) (case_buses t) 0 t.meters) m)) (sym behind)
      (meters_spared (case_rows t) (case_rows out) (case_angles t) at (sym as_many) (λ k n. sym (same_branches k n)) (λ k n. sym (same_rows k n)) (case_buses t) t.meters m e ne i)

  pub touched_before : (m e : ℕ) → (e ≡ at → ⊥) → In e (touch_at (case_branches out) (case_meters out) m) → In e (touch_at (case_branches t) (case_meters t) m)
  unfolding case_branches case_meters
  touched_before m e ne i =
      meters_spared (case_rows out) (case_rows t) (case_angles t) at as_many same_branches same_rows (case_buses t) t.meters m e ne
      (subst (λ l. In e (touch_at l (meter_touches (case_rows out) (case_buses t) 0 t.meters) m)) behind i)

  pub absent_at : slice_index_or (case_branches out) at None ≡ None
  unfolding case_branches
  absent_at =
      ap (λ l. get_or l at None) (branches_but_one t v at stays low)
      ∙ get_or-set_same (case_rows t ++ case_angles t) at None None (omega (arith, in_rows, length-append (case_rows t) (case_angles t)))

  -- the outage changes nothing but this branch
  pub same_but_one : AreSameBut at (network_of t) (network_of out)
  same_but_one = record {
    vertices = ap (λ n. case_bus_count t + n) (component_count_stays t v at stays);
    components = grouped_is _ _ (components_stay t v at stays) (first_buses_stay t v at stays) (sizes_stay t v at stays) (energised_stay t v at stays) (absolute_stay t v at stays) refl;
    needed = needed_stays t v at stays;
    ends = branches_but_one t v at stays low ∙ ap (set (case_branches t) at) (sym absent_at);
    touched = λ m e ne. (touched_still m e ne, touched_before m e ne);
  }
