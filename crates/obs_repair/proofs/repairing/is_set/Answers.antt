use Rattle.std.proofs.Common.{◌≡◌, ◌≢◌, sym, subst}
use Rattle.std.specs.Prelude.{MatchBool, slice_index_or}
use mathlib.Core.Bool.{beq}
use Rattle.obs_repair.specs.declared.edit.Edit.{Edit}
use Rattle.obs_repair.specs.Edits.{edited}
use Rattle.obs_repair.specs.inner.Edits.{HasRow}
use Rattle.obs_repair.proofs.Flagged.{set_branch, set_meter, set_switch}
use Rattle.obs_repair.proofs.repairing.is_set.Goals as goal

pub returns-in-Switch : goal.returns-in-Switch
returns-in-Switch c =
    let t = c.args.case.now in
    let e = c.in-Switch.is in
    let low = subst (λ (x : Edit). HasRow t x) e c.requires.row in
    record {
      set = subst (λ rows. MatchBool (beq (slice_index_or rows c.in-Switch.at c.index-switches-at.result).closed c.in-Switch.closed) (edited t c.args.edit ≡ t) (edited t c.args.edit ≢ t)) (sym c.switches.ensures.rows)
          (subst (λ (x : Edit). MatchBool (beq (slice_index_or t.switches c.in-Switch.at c.index-switches-at.result).closed c.in-Switch.closed) (edited t x ≡ t) (edited t x ≢ t)) (sym e)
          (set_switch t c.in-Switch.at c.in-Switch.closed c.index-switches-at.result low));
    }

pub returns-in-Branch : goal.returns-in-Branch
returns-in-Branch c =
    let t = c.args.case.now in
    let e = c.in-Branch.is in
    let low = subst (λ (x : Edit). HasRow t x) e c.requires.row in
    record {
      set = subst (λ rows. MatchBool (beq (slice_index_or rows c.in-Branch.at c.index-branches-at.result).inservice c.in-Branch.inservice) (edited t c.args.edit ≡ t) (edited t c.args.edit ≢ t)) (sym c.branches.ensures.rows)
          (subst (λ (x : Edit). MatchBool (beq (slice_index_or t.branches c.in-Branch.at c.index-branches-at.result).inservice c.in-Branch.inservice) (edited t x ≡ t) (edited t x ≢ t)) (sym e)
          (set_branch t c.in-Branch.at c.in-Branch.inservice c.index-branches-at.result low));
    }

pub returns-in-Meter : goal.returns-in-Meter
returns-in-Meter c =
    let t = c.args.case.now in
    let e = c.in-Meter.is in
    let low = subst (λ (x : Edit). HasRow t x) e c.requires.row in
    record {
      set = subst (λ rows. MatchBool (beq (slice_index_or rows c.in-Meter.at c.index-meters-at.result).inservice c.in-Meter.inservice) (edited t c.args.edit ≡ t) (edited t c.args.edit ≢ t)) (sym c.meters.ensures.rows)
          (subst (λ (x : Edit). MatchBool (beq (slice_index_or t.meters c.in-Meter.at c.index-meters-at.result).inservice c.in-Meter.inservice) (edited t x ≡ t) (edited t x ≢ t)) (sym e)
          (set_meter t c.in-Meter.at c.in-Meter.inservice c.index-meters-at.result low));
    }
