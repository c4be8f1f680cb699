use Rattle.std.proofs.Common.{sym, ◌∙◌}
use Rattle.std.specs.Prelude.{slice_index_or}
use Rattle.obs_meter.specs.declared.Touch.TheVariants.{Nothing}
use Rattle.obs_meter.specs.Touches.{touch_at}
use Rattle.obs_meter.proofs.Touched.{In-from_any, touched-present}
use Rattle.obs_edit.proofs.pairing.pin_placed.Goals as goal

pub may_pin-requires-clause-present : goal.may_pin-requires-clause-present
may_pin-requires-clause-present g c =
    let ends = c.args.g.now.ends in
    let touches = c.args.items.now.touches in
    touched-present ends (slice_index_or touches c.args.m Nothing) c.in-Some.e (In-from_any (touch_at ends touches c.args.m) c.in-Some.e (sym c.is_touched.ensures.touched ∙ c.if-not-is_touched.false))

pub pin-requires-clause-touched : goal.pin-requires-clause-touched
pin-requires-clause-touched g c =
    In-from_any (touch_at c.args.g.now.ends c.args.items.now.touches c.args.m) c.in-Some.e (sym c.is_touched.ensures.touched ∙ c.if-not-is_touched.false)
