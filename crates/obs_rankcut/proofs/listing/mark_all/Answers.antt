use Rattle.std.proofs.Common.{List, ℕ, subst, arith}
use Rattle.std.proofs.lemmas.List.{take_all}
use Rattle.obs_rankcut.specs.inner.Marks.{AreMarkedToo}
use Rattle.obs_rankcut.proofs.Marked.{AreMarkedToo-none, AreMarkedToo-next}
use Rattle.obs_rankcut.proofs.listing.mark_all.Goals as goal

pub loop-e-init : goal.loop-e-init
loop-e-init c = AreMarkedToo-none c.args.flags.now

pub loop-e-preserved : goal.loop-e-preserved
loop-e-preserved c =
    let l = c.loop-e in
    let low = c.requires.low l.e-index 0 c.loop-e-test.true in
    AreMarkedToo-next c.args.flags.now l.flags c.args.positions.now l.e-index c.loop-e-test.true (omega arith) l.invariant

pub returns : goal.returns
returns c = record {
  marks = subst (λ (L : List ℕ). AreMarkedToo c.args.flags.now L c.loop-e.flags) (take_all c.loop-e.e-index c.args.positions.now (omega arith)) c.loop-e.invariant;
}
