use Rattle.std.proofs.Common.{◌∙◌, get_or, sym, ap}
use Rattle.obs_matroid.proofs.Lists.{clash}
use Rattle.obs_meter.specs.declared.Touch.TheVariants.{Nothing}
use Rattle.obs_assign.proofs.Afterwards.{one_owner}
use Rattle.obs_islands.specs.inner.Left.{is_nothing}
use Rattle.obs_islands.proofs.left.left_branch.Goals as goal

pub returns-then-is_discarded : goal.returns-then-is_discarded
returns-then-is_discarded c = record {
  left = record {
    left = λ m w.
        let same = one_owner c.args.over.now.pairs.now c.requires.whole m c.in_ok-m.m c.args.e w.has c.in_ok-m.ensures.meter in
        clash (sym c.is_discarded.ensures.value ∙ c.if-is_discarded.true) (ap (λ k. is_nothing (get_or c.args.used.now.touches k Nothing)) (sym same) ∙ w.used);
    only = λ x is. absurd (cc is);
  };
}
