use Rattle.std.proofs.Common.{ℕ}
use Rattle.std.specs.Prelude.{IfSome}
use Rattle.obs_matroid.specs.Lists.{In}
use Rattle.obs_cert.specs.declared.stars.Injection.{Injection}
use Rattle.obs_cert.specs.Numbered.{items_of}
use Rattle.obs_cert.specs.inner.Stars.{IsInjection}
use Rattle.obs_cert.proofs.stars.widest.Given as goal

abbrev pub invariant-loop-item : goal.invariant-loop-item
invariant-loop-item l =
    ((m : ℕ) → In m (items_of l.present l.item-iterator) → In m (items_of l.present l.fn.items)) × IfSome l.widest (IsInjection l.present)
    × IfSome l.widest (λ (i : Injection). In i.item (items_of l.present l.fn.items))
