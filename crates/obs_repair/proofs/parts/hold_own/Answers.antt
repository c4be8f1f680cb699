use Rattle.std.proofs.Common.{◌+◌, ◌∙◌, List, Option, sym, subst, arith}
use Rattle.obs_graph.specs.declared.Ends.{Ends}
use Rattle.obs_matroid.proofs.Lists.{clash}
use Rattle.obs_assign.proofs.Slotted.{none_some}
use Rattle.obs_repair.proofs.HeldPairs.{HoldsBelow, HoldsBelow-more, HoldsBelow-skip, HoldsOwn-below}
use Rattle.obs_repair.proofs.parts.hold_own.Goals.{then-flags-m+in-Some, then-flags-m+in-None, else-flags-m}
use Rattle.obs_repair.proofs.parts.hold_own.Goals as goal

pub loop-m-preserved : goal.loop-m-preserved
loop-m-preserved c =
    let ends = c.args.g.now.ends in
    let a = c.args.a.now in
    let flags = c.args.flags.now in
    let l = c.loop-m in
    let many = c.if-flags-m.auto.held ∙ l.invariant.1 in
    elim c.if-flags-m.branch [
      | then-flags-m+in-Some w ↦
          let pair = sym w.in-Some.ensures.branch in
          let low = c.requires.low l.m w.in-Some.e pair in
          let one_each = c.requires.one_each in
          let was = l.invariant.1 in (
            subst (λ (xs : List (Option Ends)). HoldsBelow ends a flags (l.m + 1) xs) (sym w.held-is)
                (HoldsBelow-more ends a flags l.m l.held w.in-Some.e w.ends.result w.if-flags-m.true pair w.ends.ensures.ends low (omega (arith, low, one_each, was)) l.invariant.0),
            many,
          )
      | then-flags-m+in-None w ↦ (
        subst (λ (xs : List (Option Ends)). HoldsBelow ends a flags (l.m + 1) xs) (sym w.held-is)
            (HoldsBelow-skip ends a flags l.m l.held (λ e flag pair. none_some e (w.in-None.ensures.branch ∙ pair)) l.invariant.0),
        many,
      )
      | else-flags-m w ↦ (
        subst (λ (xs : List (Option Ends)). HoldsBelow ends a flags (l.m + 1) xs) (sym w.held-is)
            (HoldsBelow-skip ends a flags l.m l.held (λ e flag pair. clash flag w.if-flags-m.false) l.invariant.0),
        many,
      )
    ]

pub returns-clause-held : goal.returns-clause-held
returns-clause-held c =
    let l = c.loop-m in
    let past = c.loop-m-test.false in
    let within = l.auto.m-end in
    let count = c.count-m-end.ensures.count in
    let flags = c.requires.flags in
    HoldsOwn-below c.args.g.now.ends c.args.a.now c.args.flags.now l.held
    (subst (λ k. HoldsBelow c.args.g.now.ends c.args.a.now c.args.flags.now k l.held) (omega (arith, past, within, count, flags)) l.invariant.0)
