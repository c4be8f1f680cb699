use Rattle.std.proofs.Common.{ℕ, List, ◌<◌, ◌≤◌, arith, length, map, sym}
use Rattle.std.proofs.lemmas.List.{length-map}
use Rattle.obs_case.specs.declared.rows.Node.{Node}
use Rattle.obs_case.proofs.AddLemmas.{both_known, one_unknown, other_unknown}
use Rattle.obs_case.proofs.table.find_ends.Goals as goal
use Rattle.obs_case.proofs.table.find_ends.Goals.{else-from-count-via-then-from-count+else-to-count, else-from-count-via-else-from-count}

pub returns-then-to-count-clause-fault : goal.returns-then-to-count-clause-fault
returns-then-to-count-clause-fault c =
    let names : List (List ℕ) = map (λ (row : Node). row.name) c.args.nodes.now.keys in
    let len = length-map c.args.nodes.now.keys (λ (row : Node). row.name) in
    let from : c.place_of-from.result < length names = omega (arith, c.if-from-count.true, c.len-count.ensures.len, len) in
    let to : c.place_of-to.result < length names = omega (arith, c.if-to-count.true, c.len-count.ensures.len, len) in
    sym (both_known names c.args.from.now c.args.to.now _ _ c.place_of-from.ensures.place c.place_of-to.ensures.place from to)

pub returns-else-from-count-clause-fault : goal.returns-else-from-count-clause-fault
returns-else-from-count-clause-fault c =
    let names : List (List ℕ) = map (λ (row : Node). row.name) c.args.nodes.now.keys in
    let len = length-map c.args.nodes.now.keys (λ (row : Node). row.name) in
    elim c.else-from-count.branch [
      | else-from-count-via-then-from-count+else-to-count w ↦
          let to : length names ≤ c.place_of-to.result = omega (arith, w.if-to-count.false, c.len-count.ensures.len, len) in
          sym (other_unknown names c.args.from.now c.args.to.now _ c.place_of-to.ensures.place to)
      | else-from-count-via-else-from-count w ↦
          let from : length names ≤ c.place_of-from.result = omega (arith, w.if-from-count.false, c.len-count.ensures.len, len) in
          sym (one_unknown names c.args.from.now c.args.to.now _ c.place_of-from.ensures.place from)
    ]
