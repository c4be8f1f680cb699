use Rattle.std.proofs.Common.{length, ◌∙◌, ◌||◌, ap, sym, get_or, false, arith}
use Rattle.std.specs.Prelude.{slice_index, ◌==◌}
use Rattle.std.specs.List.{list_any}
use Rattle.std.proofs.lemmas.List.{drop_all}
use Rattle.obs_graph.specs.Positions.{positions_from}
use Rattle.obs_network.specs.inner.Kept.{flag_of}
use Rattle.obs_network.proofs.Marked.{marked_all, or_nothing}
use Rattle.obs_network.proofs.marks.mark_components.Goals as goal

pub returns : goal.returns
returns c =
    let nodes = c.args.nodes.now in
    let numbers = c.args.numbers.now in
    let buses = c.args.buses.now.buses in
    let u = c.loop-u.u in
    let flag = flag_of c.args.flag in
    record {
      marks = marked_all flag (length c.args.marks.now) numbers buses nodes c.loop-u.marks (omega arith)
          (λ k l.
          let rest = ap (λ xs. get_or c.loop-u.marks k false || list_any (λ v. slice_index numbers (slice_index buses v) == k) (positions_from flag u xs)) (drop_all u nodes (omega arith)) in
          sym (or_nothing (get_or c.loop-u.marks k false)) ∙ sym rest ∙ c.loop-u.invariant k l);
    }
