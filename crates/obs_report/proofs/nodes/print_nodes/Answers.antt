use Rattle.std.proofs.Common.{ℕ, ◌≡◌, ◌∙◌, ◌++◌, ◌-◌, ◌+◌, ◌<◌, ◌≤◌, suc, List, length, sym, ap, append_assoc, append-nil, arith}
use Rattle.std.specs.List.{flat_map, range_with_len}
use Rattle.obs_report.specs.Nodes.{node_line, node_lines}
use Rattle.obs_report.proofs.Printing.{then_printed, finished}
use Rattle.obs_report.proofs.nodes.print_nodes.Goals as goal

-- the lines of the nodes from one on
range_more : (i n : ℕ) → i < n → (f : ℕ → List ℕ) → flat_map f (range_with_len i (n - i)) ≡ f i ++ flat_map f (range_with_len (i + 1) (n - (i + 1)))
range_more i n l f =
    let one : n - i ≡ suc (n - (i + 1)) = omega arith in
    ap (λ k. flat_map f (range_with_len i k)) one

pub loop-node-preserved : goal.loop-node-preserved
loop-node-preserved g c =
    let inv = c.loop-node.invariant in
    let t = c.args.case.now in
    let line = node_line t c.loop-node.node in
    let rest = flat_map (node_line t) (range_with_len (c.loop-node.node + 1) (length t.nodes - (c.loop-node.node + 1))) in (
      inv.0 ++ line,
      then_printed inv.1 c.print_node.ensures.printed,
      append_assoc inv.0 line rest ∙ (ap (λ t. inv.0 ++ t) (sym (range_more c.loop-node.node (length t.nodes) (omega (arith, ap length c.nodes-node-end.ensures.rows)) (node_line t))) ∙ inv.2),
    )

-- at the end the lines are all printed
module _ (text : List ℕ) (f : ℕ → List ℕ) (lines : List ℕ) (i n : ℕ) (l : n ≤ i) (all : text ++ flat_map f (range_with_len i (n - i)) ≡ lines) where
  all_lines : text ≡ lines
  all_lines =
      let none : n - i ≡ 0 = omega arith in
      sym (append-nil text) ∙ (ap (λ k. text ++ flat_map f (range_with_len i k)) (sym none) ∙ all)

pub returns : goal.returns
returns g c =
    let t = c.args.case.now in
    let inv = c.loop-node.invariant in
    let done = all_lines inv.0 (node_line t) (node_lines t) c.loop-node.node (length t.nodes) (omega (arith, ap length c.nodes-node-end.ensures.rows)) inv.2 in
    record { appends = finished c.new-lines.ensures.empty (rw done at inv.1) c.finish.ensures.printed }
