-- The placement of a case is the plan or the shortfall.
use Rattle.std.proofs.Common.{◌≡◌, ◌∙◌, ℕ, refl, sym, Bool, true, false, length, cond}
use Rattle.std.specs.Prelude.{nat_lt}
use Rattle.obs_case.specs.Tables.{Tables, prices_of}
use Rattle.obs_meter.specs.Assignments.{rho_at}
use Rattle.obs_meter.specs.Touches.{live_items}
use Rattle.obs_placement.specs.Placed.{ShortfallValue, PlanValue, shortfall_of, plan_of}
use Rattle.obs_placement.specs.Placed.Placed.{cheapest, shortfall}
use Rattle.obs_network.specs.Network.{case_branches, case_needed, case_offered, case_vertex_count}
use Rattle.obs_edit.specs.Planned.{case_placement}

module _ (t : Tables) where
  -- the greatest length of all that is offered
  unfoldable pub most : ℕ
  most = rho_at (case_vertex_count t) (case_branches t) (case_offered t) (live_items (case_branches t) (case_offered t))

  unfoldable pub plan : PlanValue
  plan = plan_of (case_vertex_count t) (case_branches t) (case_offered t) (length t.meters) (prices_of t.candidates)

  unfoldable pub lack : ShortfallValue
  lack = shortfall_of (case_vertex_count t) (case_branches t) (case_offered t) (case_needed t)

  which : case_placement t ≡ cond (nat_lt most (case_needed t)) (shortfall lack) (cheapest plan)
  unfolding most plan lack
  which = refl

  pub planned : (p : PlanValue) → case_placement t ≡ cheapest p → (nat_lt most (case_needed t) ≡ false) × (plan ≡ p)
  planned p e = by (nat_lt most (case_needed t)) (sym which ∙ e)
    where
      by : (b : Bool) → cond b (shortfall lack) (cheapest plan) ≡ cheapest p → (b ≡ false) × (plan ≡ p)
      by true e = absurd (cc e)
      by false e = (refl, cc e)

  pub lacking : (b : ShortfallValue) → case_placement t ≡ shortfall b → (nat_lt most (case_needed t) ≡ true) × (lack ≡ b)
  lacking l e = by (nat_lt most (case_needed t)) (sym which ∙ e)
    where
      by : (b : Bool) → cond b (shortfall lack) (cheapest plan) ≡ shortfall l → (b ≡ true) × (lack ≡ l)
      by true e = (refl, cc e)
      by false e = absurd (cc e)

  -- the same, in words of the specs
  pub plan_is : (p : PlanValue) → case_placement t ≡ cheapest p → plan_of (case_vertex_count t) (case_branches t) (case_offered t) (length t.meters) (prices_of t.candidates) ≡ p
  unfolding plan
  plan_is p e = (planned p e).1

  pub lack_is : (l : ShortfallValue) → case_placement t ≡ shortfall l → shortfall_of (case_vertex_count t) (case_branches t) (case_offered t) (case_needed t) ≡ l
  unfolding lack
  lack_is l e = (lacking l e).1
