use Rattle.obs_cert.proofs.LayerLemmas.{IsSeeing}
use Rattle.obs_cert.proofs.layers.see_items.Given as goal

abbrev pub invariant-loop-item : goal.invariant-loop-item
invariant-loop-item l = IsSeeing l.present l.item-iterator l.fn.items l.fn.seen l.seen
