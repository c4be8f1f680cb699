use Rattle.std.proofs.Common.{◌<◌, true, length, set, ap, arith, length-set}
use Rattle.std.proofs.lemmas.List.{length-take-le}
use Rattle.std.proofs.Math.Seq.{take-set-lt}
use Rattle.obs_placement.specs.inner.Holding.{Known}
use Rattle.obs_placement.proofs.known.Known.touch.Goals as goal

pub returns : goal.returns
returns c =
    let k = c.self.inside in
    let view = ap (λ (x : Known). length x.touched) c.self.view_is in
    let size = length-take-le k.branches k.touched.items c.self.invariant.branches in
    let low : c.args.e < k.branches = let r = c.requires.e in omega (arith, r, view, size) in
    record {
      touched = rw (take-set-lt k.branches k.touched.items c.args.e true low, length-set k.touched.items c.args.e true) (ap (λ (x : Known). record x { touched = set x.touched c.args.e true }) c.self.view_is);
    }
