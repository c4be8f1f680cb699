use Rattle.std.proofs.Common.{◌<◌, length, set, ap, arith, length-set}
use Rattle.std.proofs.lemmas.List.{length-take-le}
use Rattle.std.proofs.Math.Seq.{take-set-lt}
use Rattle.obs_placement.specs.inner.Holding.{Known}
use Rattle.obs_placement.proofs.known.Known.put_front.Goals as goal

pub returns : goal.returns
returns c =
    let k = c.self.inside in
    let view = ap (λ (x : Known). length x.fronts) c.self.view_is in
    let size = length-take-le k.vertices k.fronts.items c.self.invariant.vertices in
    let low : c.args.v < k.vertices = let r = c.requires.v in omega (arith, r, view, size) in
    record {
      front = rw (take-set-lt k.vertices k.fronts.items c.args.v c.args.count low, length-set k.fronts.items c.args.v c.args.count) (ap (λ (x : Known). record x { fronts = set x.fronts c.args.v c.args.count }) c.self.view_is);
    }
