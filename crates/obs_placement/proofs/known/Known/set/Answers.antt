use Rattle.std.proofs.Common.{◌<◌, length, set, ap, arith, length-set}
use Rattle.std.proofs.lemmas.List.{length-take-le}
use Rattle.std.proofs.Math.Seq.{take-set-lt}
use Rattle.obs_placement.specs.inner.Holding.{Known}
use Rattle.obs_placement.proofs.known.Known.set.Goals as goal

pub returns : goal.returns
returns c =
    let k = c.self.inside in
    let view = ap (λ (x : Known). length x.since) c.self.view_is in
    let size = length-take-le k.items k.since.items c.self.invariant.items in
    let low : c.args.m < k.items = let r = c.requires.m in omega (arith, r, view, size) in
    record {
      set = rw (take-set-lt k.items k.since.items c.args.m c.args.price low, length-set k.since.items c.args.m c.args.price) (ap (λ (x : Known). record x { since = set x.since c.args.m c.args.price }) c.self.view_is);
    }
