use Rattle.std.proofs.Common.{◌∙◌, None, sym, ap, length, arith}
use Rattle.std.specs.Prelude.{slice_index_or}
use Rattle.std.proofs.lemmas.List.{get_or-map}
use Rattle.obs_case.specs.declared.rows.Branch.{Branch}
use Rattle.obs_network.specs.Live.{live_ends}
use Rattle.obs_network.specs.Switched.{case_buses}
use Rattle.obs_network.specs.Network.{case_live}
use Rattle.obs_network.proofs.OfCase.{length-case_buses}
use Rattle.obs_network.proofs.alone.live_ends_at.Goals as goal

pub ends_of-requires-clause-from : goal.ends_of-requires-clause-from
ends_of-requires-clause-from c =
    let t = c.args.case.now in
    let row = c.index-branches-at.result in
    let is = c.index-branches-at.is ∙ ap (λ rows. slice_index_or rows c.args.at row) c.branches.ensures.rows in
    let low = (c.branches.ensures.valid.branch_ends c.args.at row c.requires.branch).0 in
    omega (arith, low, ap (λ (r : Branch). r.from) is, ap (λ l. length l) c.requires.buses, length-case_buses t)

pub ends_of-requires-clause-to : goal.ends_of-requires-clause-to
ends_of-requires-clause-to c =
    let t = c.args.case.now in
    let row = c.index-branches-at.result in
    let is = c.index-branches-at.is ∙ ap (λ rows. slice_index_or rows c.args.at row) c.branches.ensures.rows in
    let low = (c.branches.ensures.valid.branch_ends c.args.at row c.requires.branch).1 in
    omega (arith, low, ap (λ (r : Branch). r.to) is, ap (λ l. length l) c.requires.buses, length-case_buses t)

pub returns : goal.returns
unfolding case_live
returns c =
    let t = c.args.case.now in
    let row = c.index-branches-at.result in
    let is = c.index-branches-at.is ∙ ap (λ rows. slice_index_or rows c.args.at row) c.branches.ensures.rows in
    record {
      ends = c.ends_of.ensures.ends
          ∙ ap (λ b. live_ends b row) c.requires.buses
          ∙ ap (live_ends (case_buses t)) is
          ∙ sym (get_or-map (live_ends (case_buses t)) t.branches c.args.at row None c.requires.branch);
    }
