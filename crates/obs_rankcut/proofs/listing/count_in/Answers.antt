use Rattle.std.proofs.Common.{◌∙◌, flat_map}
use Rattle.obs_meter.specs.Touches.{touch_at}
use Rattle.obs_rankcut.specs.Bounds.{listed}
use Rattle.obs_rankcut.specs.inner.Flags.{marked}
use Rattle.obs_rankcut.proofs.Ranked.{rank_of_marked}
use Rattle.obs_rankcut.proofs.listing.count_in.Goals as goal

pub returns-clause-rank : goal.returns-clause-rank
returns-clause-rank c =
    let g = c.args.g.now in
    let touches = c.args.ms.now.touches in
    let choice = c.args.choice.now in
    c.rank_of.ensures.rank
    ∙ rank_of_marked g.vertices g.ends c.pass-passed.new.flags
    (flat_map (touch_at g.ends touches) (listed g.ends touches (marked choice.marks.now) (marked choice.scope.now))) c.pass-passed.ensures.flags
