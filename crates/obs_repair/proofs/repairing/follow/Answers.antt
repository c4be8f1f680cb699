use Rattle.std.proofs.Common.{◌<◌, length, sym, ap, ◌∙◌, subst}
use Rattle.obs_case.specs.Tables.{Tables}
use Rattle.obs_network.specs.Network.{Rows}
use Rattle.obs_repair.specs.declared.edit.Edit.{Edit}
use Rattle.obs_repair.specs.Edits.{edited}
use Rattle.obs_repair.specs.inner.Edits.{HasRow}
use Rattle.obs_repair.proofs.Flagged.{rows-edited}
use Rattle.obs_repair.proofs.repairing.follow.Goals as goal

pub refresh_meter-requires : goal.refresh_meter-requires
refresh_meter-requires c =
    let b = c.requires.before in
    let is = c.in-Meter.is in
    let low = subst (λ (e : Edit). HasRow b.before e) is b.row in
    let same = b.same ∙ ap (edited b.before) is in
    record {
      meter = subst (λ n. c.in-Meter.at < n) (sym (ap (λ (t : Tables). length t.meters) b.same ∙ ap (λ (r : Rows). r.meters) (rows-edited b.before c.args.edit))) low;
      before = record { tables = b.before; inservice = c.in-Meter.inservice; network = b.network; edited = same };
    }

pub refresh_branch-requires : goal.refresh_branch-requires
refresh_branch-requires c =
    let b = c.requires.before in
    let is = c.in-Branch.is in
    let low = subst (λ (e : Edit). HasRow b.before e) is b.row in
    let same = b.same ∙ ap (edited b.before) is in
    record {
      branch = subst (λ n. c.in-Branch.at < n) (sym (ap (λ (t : Tables). length t.branches) b.same ∙ ap (λ (r : Rows). r.branches) (rows-edited b.before c.args.edit))) low;
      before = record { tables = b.before; inservice = c.in-Branch.inservice; network = b.network; edited = same };
    }

pub refresh_switch-requires : goal.refresh_switch-requires
refresh_switch-requires c =
    let b = c.requires.before in
    let is = c.in-Switch.is in
    let low = subst (λ (e : Edit). HasRow b.before e) is b.row in
    let same = b.same ∙ ap (edited b.before) is in
    record {
      switch = subst (λ n. c.in-Switch.at < n) (sym (ap (λ (t : Tables). length t.switches) b.same ∙ ap (λ (r : Rows). r.switches) (rows-edited b.before c.args.edit))) low;
      before = record { tables = b.before; closed = c.in-Switch.closed; network = b.network; edited = same };
    }
