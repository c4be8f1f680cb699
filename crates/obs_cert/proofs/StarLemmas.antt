-- What an item touches at its hub: the rows of the branch table there.
use Rattle.std.proofs.Common.{◌≡◌, ℕ, ◌<◌, Some, None, length, get_or, sym, ap, ◌∙◌, subst, arith, inl, inr}
use Rattle.std.specs.Prelude.{slice_index_or}
use Rattle.obs_graph.specs.Positions.{branches_at}
use Rattle.obs_graph.proofs.AtVertex.{branches_at-front}
use Rattle.obs_case.specs.declared.rows.Kind.{Kind}
use Rattle.obs_case.specs.declared.rows.Kind.TheVariants.{Flow, Injection, Zero, Angle}
use Rattle.obs_case.specs.Tables.{IsValid, Tables}
use Rattle.obs_meter.specs.declared.Hub.{Hub}
use Rattle.obs_meter.specs.declared.Touch.{Touch}
use Rattle.obs_meter.specs.declared.Touch.TheVariants.{Nothing}
use Rattle.obs_meter.specs.Touches.{touch_at, touched}
use Rattle.obs_meter.specs.inner.Touches.{hub_of}
use Rattle.obs_network.specs.Network.{case_angles, case_branches, case_offered, case_rows}
use Rattle.obs_network.specs.Switched.{case_buses}
use Rattle.obs_network.specs.Touching.{rows_at, touch_of}
use Rattle.obs_network.proofs.Items.{item_at}
use Rattle.obs_network.proofs.OfCase.{length-case_offered}

none_is : {P : Type 0} (h : Hub) → None ≡ Some h → P
none_is h e = absurd (cc e)

one_hub : (a b : Hub) → Some a ≡ Some b → a ≡ b
one_hub a b e = cc e

-- the rows at a bus, as they are touched
rows_there : (t : Tables) (bus : ℕ) (h : Hub) → hub_of (case_branches t) (rows_at (case_rows t) bus) ≡ Some h → touched (case_branches t) (rows_at (case_rows t) bus) ≡ branches_at (case_rows t) h.vertex
unfolding case_branches
rows_there t bus h e =
    branches_at-front (case_rows t) (case_angles t) bus
    ∙ ap (λ (x : Hub). branches_at (case_rows t) x.vertex) (one_hub (record { vertex = bus; count = length (branches_at (case_rows t) bus) }) h e)

by_kind : (t : Tables) (m : ℕ) (kind : Kind) (at : ℕ) (h : Hub) → hub_of (case_branches t) (touch_of (case_rows t) (case_buses t) m kind at) ≡ Some h
    → touched (case_branches t) (touch_of (case_rows t) (case_buses t) m kind at) ≡ branches_at (case_rows t) h.vertex
by_kind t m Flow at h e = none_is h e
by_kind t m Injection at h e = rows_there t (get_or (case_buses t) at 0) h e
by_kind t m Zero at h e = rows_there t (get_or (case_buses t) at 0) h e
by_kind t m Angle at h e = none_is h e

pub rows_at_hub : (t : Tables) → IsValid t → (m : ℕ) → m < length (case_offered t) → (h : Hub) → hub_of (case_branches t) (slice_index_or (case_offered t) m Nothing) ≡ Some h
    → touch_at (case_branches t) (case_offered t) m ≡ branches_at (case_rows t) h.vertex
rows_at_hub t v m l h e =
    let item = item_at t v m (omega (arith, l, length-case_offered t)) in
    let holds : Touch → Type 0 = λ touch. hub_of (case_branches t) touch ≡ Some h → touched (case_branches t) touch ≡ branches_at (case_rows t) h.vertex in
    let nothing : hub_of (case_branches t) Nothing ≡ Some h → touched (case_branches t) Nothing ≡ branches_at (case_rows t) h.vertex = λ is. none_is h is in
    elim item.is [
      | inl none ↦ subst holds (sym none) nothing e
      | inr some ↦ subst holds (sym some) (by_kind t m item.kind item.at h) e
    ]
