use Rattle.std.proofs.Common.{◌≡◌, ◌<◌, ℕ, false, get_or}
use Rattle.obs_switch.specs.declared.link.Link.{Link}
use Rattle.obs_switch.specs.inner.Labels.{AreLowered}
use Rattle.obs_switch.proofs.sweep.sweep.Given as goal

abbrev pub invariant-loop-link : goal.invariant-loop-link
invariant-loop-link l = record {
  lowered : AreLowered l.links l.fn.labels l.labels l.changed;
  settled : l.changed ≡ false → (k : ℕ) (d : Link) → k < l.link-index → get_or l.labels (get_or l.links k d).from 0 ≡ get_or l.labels (get_or l.links k d).to 0;
}
