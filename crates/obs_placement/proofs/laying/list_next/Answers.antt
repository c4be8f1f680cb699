use Rattle.std.proofs.Common.{◌++◌, ◌-◌, ◌≤◌, length, take, ap, ◌∙◌, arith}
use Rattle.std.proofs.lemmas.Slice.{take-put_mid}
use Rattle.obs_placement.proofs.Sorted.{AreFirstBelow-next, part_long, part_sorted}
use Rattle.obs_placement.proofs.laying.list_next.Goals as goal

pub returns-clause-listed : goal.returns-clause-listed
returns-clause-listed c = λ since from order first rise.
    let e = c.copy_below-upto.ensures in
    let inside = c.copy_below-upto.new.inside in
    let upto = c.copy_below-upto.result in
    let new = c.sort_unstable.new.self in
    let room : length c.args.keys.now ≤ length inside = omega (arith, c.requires.room, c.copy_below-upto.auto.inside) in
    let size = part_long since c.args.keys.now order c.args.listed upto from c.args.to first rise e.from e.upto e.below e.next inside room e.copied in
    take-put_mid c.args.listed (upto - c.args.listed) inside new upto (omega (arith, c.sort_unstable.ensures.len, size, e.from)) (omega (arith, e.from, e.upto, room))
    ∙ (ap (λ xs. xs ++ new) e.kept
    ∙ ap (λ xs. take c.args.listed c.args.inside.now ++ xs)
    (part_sorted since c.args.keys.now order c.args.listed upto from c.args.to first rise e.from e.upto e.below e.next inside room e.copied new
    c.sort_unstable.ensures.permutation c.sort_unstable.ensures.sorted))

pub returns-clause-below : goal.returns-clause-below
returns-clause-below c = λ since from order first rise.
    let e = c.copy_below-upto.ensures in
    AreFirstBelow-next since c.args.keys.now order c.args.listed c.copy_below-upto.result from c.args.to first rise e.from e.upto e.below e.next
