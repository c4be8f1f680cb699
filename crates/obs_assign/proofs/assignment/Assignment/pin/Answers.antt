use Rattle.std.proofs.Common.{◌≡◌, Option, ℕ, false, sym, subst}
use Rattle.std.specs.Prelude.{IfSome, slice_index_or}
use Rattle.obs_meter.specs.declared.Touch.TheVariants.{Nothing}
use Rattle.obs_meter.proofs.Touched.{touched-present}
use Rattle.obs_assign.specs.Assignment.{Assignment}
use Rattle.obs_assign.specs.inner.Assignment.{StandsOver, is_frozen}
use Rattle.obs_assign.specs.inner.Pins.{IsPinnedAt}
use Rattle.obs_assign.specs.inner.Spare.{IsSpare}
use Rattle.obs_assign.proofs.assignment.Assignment.pin.Goals as goal

pub spare-requires-clause-present : goal.spare-requires-clause-present
spare-requires-clause-present g c = touched-present c.args.g.now.ends (slice_index_or c.args.ms.now.touches c.args.m Nothing) c.args.e c.requires.touched

pub unwrap-x-requires : goal.unwrap-x-requires
unwrap-x-requires g c = c.spare.ensures.may.1 c.requires.may

pub pin_for-requires-clause-stands : goal.pin_for-requires-clause-stands
pin_for-requires-clause-stands g c = subst (λ (b : Assignment). StandsOver b c.args.g.now c.args.ms.now.touches) (sym c.spare.ensures.same) c.requires.stands

pub pin_for-requires-clause-thawed : goal.pin_for-requires-clause-thawed
pin_for-requires-clause-thawed g c = subst (λ (b : Assignment). is_frozen b c.args.m ≡ false) (sym c.spare.ensures.same) c.requires.may.thawed

pub pin_for-requires-clause-spare : goal.pin_for-requires-clause-spare
pin_for-requires-clause-spare g c =
    let ends = c.args.g.now.ends in
    let m = c.args.m in
    let e = c.args.e in
    subst (λ (b : Assignment). IsSpare ends b.slots b.frozen m e c.unwrap-x.result) (sym c.spare.ensures.same)
    (subst (λ (o : Option ℕ). IfSome o (λ x. IsSpare ends c.args.self.now.slots c.args.self.now.frozen m e x)) c.unwrap-x.ensures c.spare.ensures.spare)

pub returns-clause-pinned : goal.returns-clause-pinned
returns-clause-pinned g c = (c.unwrap-x.result, subst (λ (b : Assignment). IsPinnedAt b c.args.g.now.ends c.args.m c.args.e c.pin_for.new.self.slots c.unwrap-x.result) c.spare.ensures.same c.pin_for.ensures.pinned)
