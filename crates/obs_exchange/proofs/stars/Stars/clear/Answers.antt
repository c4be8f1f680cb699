use Rattle.std.proofs.Common.{Bool, List, length, ap, ◌∙◌}
use Rattle.obs_exchange.specs.inner.Stars.{fronts_of}
use Rattle.obs_exchange.proofs.Fronts.{fronts_of-none, length-fronts_of}
use Rattle.obs_exchange.proofs.stars.Stars.clear.Goals as goal

pub returns : goal.returns
returns c =
    let s = c.self.inside in
    rw (← c.self.view_is, length-fronts_of s.walked s.fronts.items)
    (record { cleared = ap (λ (bs : List Bool). fronts_of bs s.fronts.items) c.clear.ensures.cleared ∙ fronts_of-none (length s.walked) s.fronts.items })
