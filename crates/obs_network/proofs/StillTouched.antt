-- What an outage leaves to meters: of what a meter touched it touches all that is present.
use Rattle.std.proofs.Common.{◌≡◌, ℕ, ◌+◌, Option, None, List, ◌++◌, length, get_or, sym, ap, ◌∙◌, subst, arith, inl, inr, true}
use Rattle.std.specs.Prelude.{IsSome, slice_index, slice_index_or, take}
use Rattle.std.proofs.lemmas.Bool.{cases_Bool, cases_lt, cond-true, cond-false}
use Rattle.std.proofs.lemmas.List.{get_or_append_left, get_or_past}
use Rattle.obs_graph.specs.declared.Ends.{Ends}
use Rattle.obs_graph.specs.Graph.{itself_of}
use Rattle.obs_graph.specs.Positions.{branches_at, has_end}
use Rattle.obs_graph.proofs.AtVertex.{branches_at-front}
use Rattle.obs_case.specs.declared.rows.Kind.{Kind}
use Rattle.obs_case.specs.declared.rows.Kind.TheVariants.{Flow, Injection, Zero, Angle}
use Rattle.obs_case.specs.declared.rows.Meter.{Meter}
use Rattle.obs_case.specs.Tables.{IsValid, Tables}
use Rattle.obs_matroid.specs.Lists.{In}
use Rattle.obs_meter.specs.declared.Touch.{Touch}
use Rattle.obs_meter.specs.declared.Touch.TheVariants.{Nothing}
use Rattle.obs_meter.specs.Touches.{touch_at, touched}
use Rattle.obs_meter.proofs.Touched.{In-from_any, any-from_In, itself_from, itself_in, star_touched}
use Rattle.obs_network.specs.Switched.{case_buses}
use Rattle.obs_network.specs.Touching.{meter_touch, meter_touches, touch_of}
use Rattle.obs_network.specs.Network.{case_angles, case_branches, case_meters, case_rows}
use Rattle.obs_network.specs.Parted.{outage_case}
use Rattle.obs_network.proofs.Items.{meter_touches-at, some_row}
use Rattle.obs_network.proofs.OfCase.{length-meter_touches}
use Rattle.obs_network.proofs.Outed.{row_before, same_rows, some_of}

-- rows and angle branches before and after, and a branch that is present after: a row of the same ends, or none
module _ (rows others angles behind : List (Option Ends)) (as_many : length rows ≡ length others) (p : ℕ) (there : IsSome (slice_index_or (others ++ behind) p None))
    (same : get_or rows p None ≡ get_or others p None) where
  edge_still : (k : ℕ) → In p (itself_of (slice_index_or (rows ++ angles) k None) k) → In p (itself_of (slice_index_or (others ++ behind) k None) k)
  edge_still k i = subst (λ z. In p (itself_of (slice_index_or (others ++ behind) z None) z)) ((itself_from (slice_index_or (rows ++ angles) k None) k p i).0) (itself_in (slice_index_or (others ++ behind) p None) p there)

  front_still : (bus : ℕ) → In p (take (length (branches_at rows bus)) (branches_at (rows ++ angles) bus)) → In p (take (length (branches_at others bus)) (branches_at (others ++ behind) bus))
  front_still bus i =
      let here : In p (branches_at rows bus) = subst (λ (l : List ℕ). In p l) (branches_at-front rows angles bus) i in
      let ends = star_touched rows bus p ∙ any-from_In (branches_at rows bus) p here in
      let still : has_end bus (get_or others p None) ≡ true = ap (has_end bus) (sym same) ∙ ends in
      subst (λ (l : List ℕ). In p l) (sym (branches_at-front others behind bus)) (In-from_any (branches_at others bus) p (sym (star_touched others bus p) ∙ still))

  kind_still : (buses : List ℕ) (m : ℕ) (kind : Kind) (u : ℕ) → In p (touched (rows ++ angles) (touch_of rows buses m kind u)) → In p (touched (others ++ behind) (touch_of others buses m kind u))
  kind_still buses m Flow u i = edge_still u i
  kind_still buses m Injection u i = front_still (slice_index buses u) i
  kind_still buses m Zero u i = front_still (slice_index buses u) i
  kind_still buses m Angle u i = subst (λ n. In p (itself_of (slice_index_or (others ++ behind) (n + m) None) (n + m))) as_many (edge_still (length rows + m) i)

  meter_still : (buses : List ℕ) (m : ℕ) (row : Meter) → In p (touched (rows ++ angles) (meter_touch rows buses m row)) → In p (touched (others ++ behind) (meter_touch others buses m row))
  meter_still buses m row i =
      let one = touch_of rows buses m row.kind row.at in
      let other = touch_of others buses m row.kind row.at in
      elim (cases_Bool row.inservice) [
        | inl e ↦ subst (λ (x : Touch). In p (touched (others ++ behind) x)) (sym (cond-true row.inservice other Nothing e))
            (kind_still buses m row.kind row.at (subst (λ (x : Touch). In p (touched (rows ++ angles) x)) (cond-true row.inservice one Nothing e) i))
        | inr e ↦ absurd (subst (λ (x : Touch). In p (touched (rows ++ angles) x)) (cond-false row.inservice one Nothing e) i)
      ]

  meters_still : (buses : List ℕ) (meters : List Meter) (m : ℕ) → In p (touch_at (rows ++ angles) (meter_touches rows buses 0 meters) m) → In p (touch_at (others ++ behind) (meter_touches others buses 0 meters) m)
  meters_still buses meters m i =
      let one = meter_touches-at rows buses 0 meters m in
      let other = meter_touches-at others buses 0 meters m in
      elim (cases_lt m (length meters)) [
        | inl l ↦
            let d = some_row meters m l in
            subst (λ (x : Touch). In p (touched (others ++ behind) x)) (sym (other d l))
            (meter_still buses (0 + m) (get_or meters m d) (subst (λ (x : Touch). In p (touched (rows ++ angles) x)) (one d l) i))
        | inr past ↦
            let none = get_or_past (meter_touches rows buses 0 meters) m Nothing (omega (arith, past, length-meter_touches rows buses 0 meters)) in
            absurd (subst (λ (x : Touch). In p (touched (rows ++ angles) x)) none i)
      ]

-- a row that is present is the row before
row_same : (t : Tables) → IsValid t → (at p : ℕ) → IsSome (slice_index_or (case_branches (outage_case t at)) p None) → get_or (case_rows t) p None ≡ get_or (case_rows (outage_case t at)) p None
unfolding case_branches
row_same t v at p there =
    let out = outage_case t at in
    elim (cases_lt p (length (case_rows out))) [
      | inl l ↦
          let x = some_of (get_or (case_rows out) p None) (subst IsSome (get_or_append_left (case_rows out) (case_angles out) None p l) there) in
          row_before t v at p x.0 x.1 ∙ sym x.1
      | inr past ↦ get_or_past (case_rows t) p None (omega (arith, past, same_rows t v at)) ∙ sym (get_or_past (case_rows out) p None past)
    ]

-- what a meter touched it touches, where it is present
pub touched_still : (t : Tables) → IsValid t → (at m p : ℕ) → In p (touch_at (case_branches t) (case_meters t) m) → IsSome (slice_index_or (case_branches (outage_case t at)) p None)
    → In p (touch_at (case_branches (outage_case t at)) (case_meters (outage_case t at)) m)
unfolding case_branches case_meters
touched_still t v at m p i there =
    meters_still (case_rows t) (case_rows (outage_case t at)) (case_angles t) (case_angles (outage_case t at)) (sym (same_rows t v at)) p there (row_same t v at p there) (case_buses t) t.meters m i
