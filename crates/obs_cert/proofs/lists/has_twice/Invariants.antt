use Rattle.obs_cert.specs.Numbered.{items_of}
use Rattle.obs_cert.proofs.MarkLemmas.{Seeing}
use Rattle.obs_cert.proofs.lists.has_twice.Given as goal

abbrev pub invariant-loop-item : goal.invariant-loop-item
invariant-loop-item l = Seeing (items_of l.case l.fn.items) (items_of l.case l.item-iterator) l.twice l.stamp l.marks
