use Rattle.std.proofs.Common.{◌≡◌, ◌∙◌, ℕ, ap}
use Rattle.obs_notice.specs.declared.summary.Summary.{Summary}
use Rattle.obs_switch.specs.Held.{Buses}
use Rattle.obs_network.specs.Network.{Network}
use Rattle.obs_report.specs.Counts.{energised_buses}
use Rattle.obs_engine.proofs.summary.sum_up.Goals as goal

as_summary : {a b x y p q : ℕ} → a ≡ b → x ≡ y → p ≡ q → ◌≡◌ {A = Summary} (record { buses = a; energised = x; crowded = p }) (record { buses = b; energised = y; crowded = q })
as_summary e f g = λ i. record { buses = e i; energised = f i; crowded = g i }

pub returns : goal.returns
returns c =
    let buses = c.count-buses.ensures.count ∙ (ap (λ (b : Buses). b.count) c.buses.ensures.buses ∙ ap (λ (n : Network). n.buses.count) c.requires.network) in
    let energised = c.count_energised.ensures.energised ∙ ap (λ (n : Network). energised_buses n) c.requires.network in
    record { summary = as_summary buses energised c.count_crowded.ensures.crowded }
