use Rattle.std.proofs.Common.{◌≡◌, ◌*◌, length, ap, ◌∙◌}
use Rattle.std.specs.List.{range_with_len}
use Rattle.obs_case.specs.Tables.{node_names}
use Rattle.obs_trial.specs.inner.Named.{HasNodes}
use Rattle.obs_trial.specs.Trial.{kind_drawn, place_drawn}
use Rattle.obs_trial.proofs.RowLemmas.{length-branches, linked, names_of_nodes}
use Rattle.obs_trial.proofs.grid.add_link.Goals as goal

pub returns : goal.returns
returns c = record {
  added = λ n seed ends so_far from to.
      let k = length c.branches.result.now in
      let count : length c.branches.result.now ≡ length ends = ap length c.branches.ensures.rows ∙ ap (λ t. length t.branches) so_far.tables ∙ length-branches n seed ends in
      let has : HasNodes c.args.case.now (n * n) = ap node_names so_far.tables ∙ names_of_nodes (range_with_len 0 (n * n)) in
      linked n seed ends (c.args.from, c.args.to) c.args.case.now c.add_branch.new.case c.add_meter.new.case k c.args.state c.next_state-after.result c.kind_drawn.result c.place_drawn.result
      count so_far from to
      (c.in_ok-add_branch.ensures.added (n * n) has from to)
      c.next_state-after.ensures.state
      (c.kind_drawn.ensures.kind ∙ ap kind_drawn c.drawn-draw.ensures.drawn)
      (c.place_drawn.ensures.place ∙ ap (λ draw. place_drawn draw k (c.args.from, c.args.to)) c.drawn-draw.ensures.drawn)
      (λ many places inside. c.in_ok-add_meter.ensures.added many places inside);
}
