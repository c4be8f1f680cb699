use Rattle.std.proofs.Common.{◌∙◌, take, ap, inl, inr}
use Rattle.obs_network.specs.Touching.{rows_at}
use Rattle.obs_network.proofs.touching.touch_of.Goals as goal

pub returns-in-Injection : goal.returns-in-Injection
returns-in-Injection c =
    let is = c.rows_at.ensures.touch ∙ ap (λ bus. rows_at (take c.args.rows c.args.graph.now.ends) bus) c.bus.ensures.bus in
    record { touch = elim c.in-Injection.is [ inl e ↦ rw e is | inr e ↦ rw e is ] }
