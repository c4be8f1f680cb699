-- Pairs that stand over another network, which is the same but for a branch that none of them has.
use Rattle.std.proofs.Common.{[], ◌∷◌, zero, suc, refl, ◌≡◌, ℕ, ◌<◌, Bool, false, Option, Some, None, List, length, get_or, set, sym, ap, ◌∙◌, subst, inl, inr, get_or-set_same, get_or-set_other}
use Rattle.std.specs.Prelude.{is_some}
use Rattle.std.proofs.lemmas.Bool.{cases_eq, true≢false}
use Rattle.std.proofs.lemmas.List.{length-set}
use Rattle.obs_graph.specs.declared.Ends.{Ends}
use Rattle.obs_graph.specs.Graph.{Graph}
use Rattle.obs_case.specs.Tables.{IsValid, Tables}
use Rattle.obs_matroid.specs.Lists.{In}
use Rattle.obs_matroid.specs.Assignments.{Pair}
use Rattle.obs_matroid.proofs.Slots.{slot_at}
use Rattle.obs_meter.specs.declared.Touch.{Touch}
use Rattle.obs_meter.specs.declared.Touch.TheVariants.{Nothing}
use Rattle.obs_meter.specs.Touches.{touch_at}
use Rattle.obs_meter.proofs.Touched.{touched-present}
use Rattle.obs_assign.specs.Assignment.{Assignment}
use Rattle.obs_assign.specs.inner.Assignment.{IsWhole, StandsOver, branch_at, pairs}
use Rattle.obs_assign.proofs.Slotted.{branch_slot, none_some, slot_low, slots_apart}
use Rattle.obs_assign.proofs.Standing.{still_from}
use Rattle.obs_exchange.specs.declared.Found.{Found}
use Rattle.obs_exchange.specs.declared.Found.TheVariants.{Closed, Grown}
use Rattle.obs_exchange.specs.declared.Sources.{Sources}
use Rattle.obs_exchange.specs.inner.Found.{IsFound}
use Rattle.obs_exchange.specs.inner.Laws.{IsThawed}
use Rattle.obs_network.specs.inner.Edited.{AreSameBut}
use Rattle.obs_network.specs.Network.{Network, case_branches, case_meters}
use Rattle.obs_kept.specs.inner.Kept.{AreLongestOver}
use Rattle.obs_network.specs.Parted.{outage_case}
use Rattle.obs_outage.specs.inner.Settled.{IsMissed}
use Rattle.obs_outage.specs.Outages.{outage_rows}
use Rattle.obs_outage.specs.inner.Outages.{AllStand}
use Rattle.obs_outage.proofs.InOutage.{as_many_rows}
use Rattle.obs_outage.proofs.Restored.{row_gone, row_here, row_low}

-- a search freezes nothing
pub thawed_found : (ends : List (Option Ends)) (touches : List Touch) (from : Sources) (a b : Assignment) (flags : List Bool) (answer : Found) → IsFound ends touches from a b flags answer → IsThawed a → IsThawed b
thawed_found ends touches from a b flags (Grown m) h t = λ x. ap (λ (fs : List Bool). get_or fs x false) h.frozen ∙ t x
thawed_found ends touches from a b flags Closed h t = λ x. ap (λ (c : Assignment). get_or c.frozen x false) h.same ∙ t x

-- a flag that is cleared is clear, and the others are as they were
cleared : (flags : List Bool) (m k : ℕ) → get_or flags k false ≡ false → get_or (set flags m false) k false ≡ false
cleared [] m k h = h
cleared (f ∷ flags) zero zero h = refl
cleared (f ∷ flags) zero (suc k) h = h
cleared (f ∷ flags) (suc m) zero h = h
cleared (f ∷ flags) (suc m) (suc k) h = cleared flags m k h

-- nor does it freeze any that one is thawed
pub thawed_dropped : (a b : Assignment) (m : ℕ) → b.frozen ≡ set a.frozen m false → IsThawed a → IsThawed b
thawed_dropped a b m is t = λ k. ap (λ (flags : List Bool). get_or flags k false) is ∙ cleared a.frozen m k (t k)

crossed : (e : ℕ) (n o : Network) → o.graph.vertices ≡ n.graph.vertices → length o.graph.ends ≡ length n.graph.ends → ((p : ℕ) → (p ≡ e → ⊥) → get_or o.graph.ends p None ≡ get_or n.graph.ends p None)
    → length o.meters.touches ≡ length n.meters.touches → ((m k : ℕ) → (k ≡ e → ⊥) → In k (touch_at n.graph.ends n.meters.touches m) → In k (touch_at o.graph.ends o.meters.touches m))
    → (a : Assignment) → IsWhole a → ((m : ℕ) → branch_at a m ≡ Some e → ⊥) → StandsOver a n.graph n.meters.touches → StandsOver a o.graph o.meters.touches
crossed e n o vertices positions ends meters touched a whole free s = record {
  forest = record {
    vertices = vertices ∙ s.forest.vertices;
    positions = positions ∙ s.forest.positions;
    held = λ p x is.
        let b = branch_slot a.slots p ((whole.paired.holds.exactly p).0 (ap is_some is)) in
        ends p (λ same. free b.0 (b.1 ∙ ap Some same)) ∙ s.forest.held p x is;
  };
  meters = meters ∙ s.meters;
  touched = λ m k h. touched m k (λ same. free m (h ∙ ap Some same)) (s.touched m k h);
}

-- pairs that stand where the branch is absent don't have it
pub free_of : (g : Graph) (touches : List Touch) (e : ℕ) → get_or g.ends e None ≡ None → (a : Assignment) → StandsOver a g touches → (m : ℕ) → branch_at a m ≡ Some e → ⊥
free_of g touches e gone a s m has = true≢false (sym (touched-present g.ends (get_or touches m Nothing) e (s.touched m e has)) ∙ ap (λ (y : Option Ends). is_some y) gone)

module _ (e : ℕ) (n o : Network) (same : AreSameBut e n o) (meters : length o.meters.touches ≡ length n.meters.touches) where
  positions : length o.graph.ends ≡ length n.graph.ends
  positions = ap (λ (xs : List (Option Ends)). length xs) same.ends ∙ length-set n.graph.ends e (get_or o.graph.ends e None)

  ends_at_others : (p : ℕ) → (p ≡ e → ⊥) → get_or o.graph.ends p None ≡ get_or n.graph.ends p None
  ends_at_others p ne = ap (λ (xs : List (Option Ends)). get_or xs p None) same.ends ∙ get_or-set_other n.graph.ends e p (get_or o.graph.ends e None) None ne

  -- pairs without the branch stand over the other network where they stand over the one
  stands_there : (a : Assignment) → IsWhole a → ((m : ℕ) → branch_at a m ≡ Some e → ⊥) → StandsOver a n.graph n.meters.touches → StandsOver a o.graph o.meters.touches
  stands_there = crossed e n o same.vertices positions ends_at_others meters (λ m k ne. (same.touched m k ne).0)

  stands_here : (a : Assignment) → IsWhole a → ((m : ℕ) → branch_at a m ≡ Some e → ⊥) → StandsOver a o.graph o.meters.touches → StandsOver a n.graph n.meters.touches
  stands_here = crossed e o n (sym same.vertices) (sym positions) (λ p ne. sym (ends_at_others p ne)) (sym meters) (λ m k ne. (same.touched m k ne).1)

  -- so they do when the pair of the branch was dropped
  pub dropped_there : (a : Assignment) → AreLongestOver n a → (m : ℕ) → branch_at a m ≡ Some e → (g : Graph) → g ≡ n.graph → (b : Assignment) → b.slots ≡ set a.slots m None → IsWhole b
      → ((touches : List Touch) → StandsOver a g touches → StandsOver b g touches) → StandsOver b o.graph o.meters.touches
  dropped_there a h m has g gg b is whole keeps =
      let stands : StandsOver b n.graph n.meters.touches =
      subst (λ (x : Graph). StandsOver b x n.meters.touches) gg (keeps n.meters.touches (subst (λ (x : Graph). StandsOver a x n.meters.touches) (sym gg) h.stands)) in
      stands_there b whole (λ x k.
      let low = slot_low a.slots m e has in
      let at : get_or (set a.slots m None) x None ≡ Some e = ap (λ (s : List (Option ℕ)). get_or s x None) (sym is) ∙ k in
      elim (cases_eq x m) [
        | inl y ↦ none_some e (sym (get_or-set_same a.slots m None None low) ∙ (ap (λ j. get_or (set a.slots m None) j None) (sym y) ∙ at))
        | inr ne ↦ ne (slots_apart a.forest.held a.slots h.whole.paired.holds.forest x m e (sym (get_or-set_other a.slots m x None None ne) ∙ at) has)
      ]) stands

  -- and those that stand over the other network, where the branch is absent, stand over the one
  pub stands_here_without : get_or o.graph.ends e None ≡ None → (b : Assignment) → IsWhole b → StandsOver b o.graph o.meters.touches → StandsOver b n.graph n.meters.touches
  stands_here_without gone b whole stands = stands_here b whole (free_of o.graph o.meters.touches e gone b stands) stands

-- the outage case of a row has none there
pub gone_out : (t : Tables) → IsValid t → (e : ℕ) → In e (outage_rows t) → get_or (case_branches (outage_case t e)) e None ≡ None
gone_out t v e i =
    let low = row_low t e i in
    let many = as_many_rows t v e in
    row_here (outage_case t e) e (subst (λ k. e < k) (sym many) low) ∙ row_gone t e

-- so a pair with it doesn't stand there
held_falls : (t : Tables) → IsValid t → (a : Assignment) (m e : ℕ) → In e (outage_rows t) → branch_at a m ≡ Some e → AllStand t a e → ⊥
held_falls t v a m e i has all =
    let out = outage_case t e in
    let still = still_from (case_branches out) (case_meters out) (pairs a) (m, e) (subst (λ (l : List Pair). In (m, e) l) (sym all) (slot_at a.slots m e has)) in
    true≢false (sym (touched-present (case_branches out) (get_or (case_meters out) m Nothing) e still.1) ∙ ap (λ (y : Option Ends). is_some y) (gone_out t v e i))

-- where all pairs stand there, none has the row
pub missed_by : (t : Tables) → IsValid t → (a : Assignment) (e : ℕ) → In e (outage_rows t) → AllStand t a e → IsMissed a e
missed_by t v a e i all m has = held_falls t v a m e i has all
