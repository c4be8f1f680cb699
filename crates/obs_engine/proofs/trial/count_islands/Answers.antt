use Rattle.std.proofs.Common.{◌≡◌, ◌∙◌, ◌+◌, ◌<◌, ◌≤◌, ap, arith, subst, sym, ℕ}
use Rattle.obs_switch.specs.Held.{Buses}
use Rattle.obs_network.specs.Network.{Network}
use Rattle.obs_network.specs.Switched.{case_bus_count}
use Rattle.obs_engine.specs.Trials.{is_first_of_island}
use Rattle.obs_engine.proofs.Turned.{AreCounted, counted_all, counted_no, counted_none, counted_yes, islands_are_counted}
use Rattle.obs_engine.proofs.trial.count_islands.Goals as goal
use Rattle.obs_engine.proofs.trial.count_islands.Goals.{After-count-bus-end, then-is_first_of_island, else-is_first_of_island}

-- so many buses are gone through
counted : (c : After-count-bus-end) → c.count-bus-end.result ≡ case_bus_count c.args.session.now.tables
counted c = c.count-bus-end.ensures.count ∙ (ap (λ (b : Buses). b.count) c.buses.ensures.buses ∙ ap (λ (n : Network). n.buses.count) c.network.ensures.network)

pub loop-bus-init : goal.loop-bus-init
loop-bus-init c = counted_none (is_first_of_island c.args.session.now.tables) (case_bus_count c.args.session.now.tables)

pub loop-bus-preserved : goal.loop-bus-preserved
loop-bus-preserved c =
    let t = c.args.session.now.tables in
    let p = is_first_of_island t in
    let n = case_bus_count t in
    let bus = c.loop-bus.bus in
    let low : bus < n = omega (arith, c.loop-bus-test.true, counted (goal.at.loop-bus-preserved c).After-count-bus-end) in
    elim c.if-is_first_of_island.branch [
      | then-is_first_of_island w ↦
          subst (λ (k : ℕ). AreCounted p n (bus + 1) k) (sym w.islands-is)
          (counted_yes p n bus c.loop-bus.islands c.loop-bus.invariant low (sym c.is_first_of_island.ensures.first ∙ w.if-is_first_of_island.true))
      | else-is_first_of_island w ↦
          subst (λ (k : ℕ). AreCounted p n (bus + 1) k) (sym w.islands-is)
          (counted_no p n bus c.loop-bus.islands c.loop-bus.invariant low (sym c.is_first_of_island.ensures.first ∙ w.if-is_first_of_island.false))
    ]

pub returns : goal.returns
returns c =
    let t = c.args.session.now.tables in
    let past : case_bus_count t ≤ c.loop-bus.bus = omega (arith, c.loop-bus-test.false, counted (goal.at.returns c).After-count-bus-end) in
    record { islands = counted_all (is_first_of_island t) (case_bus_count t) c.loop-bus.bus c.loop-bus.islands c.loop-bus.invariant past ∙ islands_are_counted t }
