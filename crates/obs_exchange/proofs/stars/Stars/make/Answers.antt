use Rattle.std.proofs.Common.{Bool, List, ap, ◌∙◌}
use Rattle.obs_exchange.specs.inner.Stars.{fronts_of}
use Rattle.obs_exchange.proofs.Fronts.{fronts_of-none}
use Rattle.obs_exchange.proofs.stars.Stars.make.Goals as goal

pub returns : goal.returns
returns c =
    let counts = c.in-Ok-vec.fronts.items in
    record { made = ap (λ (bs : List Bool). fronts_of bs counts) c.in-Ok.ensures.made ∙ fronts_of-none c.args.most_vertices counts }
