use Rattle.std.proofs.Common.{◌∙◌, sym, ap, subst, length, Bool, List, arith}
use Rattle.obs_assign.specs.Assignment.{Assignment}
use Rattle.obs_meter.specs.Held.{Meters}
use Rattle.obs_kept.specs.inner.Kept.{AreLongest}
use Rattle.obs_repair.specs.inner.Bounds.{AreMarks}
use Rattle.obs_repair.proofs.Bounded.{critical_of_network, marks_of_network}
use Rattle.obs_network.proofs.OfCase.{length-case_meters}
use Rattle.obs_repair.proofs.bounds.find_critical.Goals as goal

pub copy_from_slice-requires : goal.copy_from_slice-requires
copy_from_slice-requires g c =
    let m = c.requires.marks in
    let r = ap (λ (xs : List Bool). length xs) c.reached-reached.ensures.reached in
    let k = c.close.ensures.closed.flags in
    let n = ap (λ (i : Meters). length i.touches) c.meters-ms.ensures.meters in
    let l = length-case_meters c.args.present.now in
    omega (arith, m, r, k, n, l)

pub returns-clause-marks : goal.returns-clause-marks
returns-clause-marks g c =
    let t = c.args.present.now in
    let h = subst (λ (a : Assignment). AreLongest t a) (sym c.close.ensures.same) c.requires.longest in
    let k = marks_of_network t c.graph-g.ensures.valid c.close.new.a h c.close.new.work.reached c.graph-g.result.now c.meters-ms.result.now c.graph-g.ensures.graph c.meters-ms.ensures.meters c.close.ensures.closed in
    subst (λ (flags : List Bool). AreMarks t flags) (sym (c.copy_from_slice.ensures.after ∙ c.reached-reached.ensures.reached)) k

pub returns-clause-critical : goal.returns-clause-critical
returns-clause-critical g c =
    c.find_critical.ensures.critical ∙ critical_of_network c.args.present.now c.graph-g.result.now c.meters-ms.result.now c.graph-g.ensures.graph c.meters-ms.ensures.meters
