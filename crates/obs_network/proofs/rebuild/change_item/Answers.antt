use Rattle.std.proofs.Common.{◌≡◌, ◌∙◌, set, ap, get_or, length, arith}
use Rattle.std.specs.Prelude.{slice_index_or}
use Rattle.obs_meter.specs.declared.Touch.{Touch}
use Rattle.obs_meter.specs.declared.Touch.TheVariants.{Nothing}
use Rattle.obs_meter.specs.Held.{Meters}
use Rattle.obs_network.specs.Network.{case_meters, case_rows}
use Rattle.obs_network.specs.Touching.{meter_touch}
use Rattle.obs_network.proofs.OfCase.{few_branches, few_meters, length-case_branches, length-case_buses}
use Rattle.obs_network.proofs.Fronts.{row_at_node, rows_are_first, touch_at_row}
use Rattle.obs_network.proofs.rebuild.change_item.Goals as goal
use Rattle.obs_network.proofs.rebuild.change_item.Goals.{After-set-2}

pub touch_of_meter-touch-requires : goal.touch_of_meter-touch-requires
touch_of_meter-touch-requires c =
    let t = c.args.case.now in
    let valid = c.meters.ensures.valid in
    let row = c.index-meters-m.result in
    let is = c.index-meters-m.is ∙ ap (λ rows. slice_index_or rows c.args.m row) c.meters.ensures.rows in
    let rows = ap (λ l. length l) c.branches.ensures.rows in
    let all = ap (λ l. length l) c.requires.ends ∙ length-case_branches t in
    record {
      node = rw (c.requires.buses, length-case_buses t) (row_at_node t valid c.args.m c.requires.meter row is);
      buses = omega (arith, c.requires.count, c.requires.vertices);
      rows = omega (arith, rows, all);
      small = omega (arith, rows, few_branches t valid, few_meters t valid, c.requires.meter);
    }

-- what the meter touches now
touch_is : (c : After-set-2) → c.touch_of_meter-touch.result ≡ get_or (case_meters c.args.case.now) c.args.m Nothing
touch_is c =
    let t = c.args.case.now in
    let row = c.index-meters-m.result in
    let is = c.index-meters-m.is ∙ ap (λ rows. slice_index_or rows c.args.m row) c.meters.ensures.rows in
    let rows = ap (λ l. length l) c.branches.ensures.rows in
    c.touch_of_meter-touch.ensures.touch ∙ ap (λ r. meter_touch r c.args.buses.now.buses c.args.m row) (rows_are_first t c.args.graph.now.ends (length c.branches.result.now) c.requires.ends rows)
    ∙ ap (λ b. meter_touch (case_rows t) b c.args.m row) c.requires.buses ∙ touch_at_row t c.args.m row c.requires.meter is

-- a list with the meter's touch in it
with_touch : (c : After-set-2) → (before after : Meters) → after ≡ record before { touches = set before.touches c.args.m c.touch_of_meter-touch.result }
    → after ≡ record before { touches = set before.touches c.args.m (get_or (case_meters c.args.case.now) c.args.m Nothing) }
with_touch c before after is = is ∙ ap (λ (t : Touch). let i : Meters = record { touches = set before.touches c.args.m t; most = before.most } in i) (touch_is c)

pub returns : goal.returns
returns c = record {
  meters = with_touch c c.args.meters.now c.set.new.self c.set.ensures.set;
  offered = with_touch c c.args.offered.now c.set-2.new.self c.set-2.ensures.set;
  valid = c.meters.ensures.valid;
}
