use Rattle.std.proofs.Common.{◌+◌, get_or, sym, ap, ◌∙◌}
use Rattle.std.specs.Prelude.{◌==◌}
use Rattle.std.proofs.lemmas.Bool.{eq-eqb, ne_eqb}
use Rattle.std.proofs.lemmas.List.Sums.{count_by_more_no, count_by_more_yes}
use Rattle.obs_switch.proofs.regroup.count_of.Goals.{then-k-key, else-k-key}
use Rattle.obs_switch.proofs.regroup.count_of.Goals as goal

pub loop-k-preserved : goal.loop-k-preserved
loop-k-preserved c =
    let l = c.loop-k in
    let keys = c.args.keys.now in
    let key = c.args.key in
    let at = get_or keys l.k-index 0 in
    elim c.if-k-key.branch [
      | then-k-key w ↦ rw w.count-is (ap (λ n. n + 1) l.invariant ∙ sym (count_by_more_yes (λ x. x == key) keys l.k-index 0 c.loop-k-test.true (eq-eqb at key w.if-k-key.true)))
      | else-k-key w ↦ rw w.count-is (l.invariant ∙ sym (count_by_more_no (λ x. x == key) keys l.k-index 0 c.loop-k-test.true (ne_eqb at key w.if-k-key.false)))
    ]
