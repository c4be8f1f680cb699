use Rattle.std.proofs.Common.{arith}
use Rattle.obs_network.specs.Components.{component_count, components_of}
use Rattle.obs_network.proofs.Grouping.{size-some, sizes_of-at}
use Rattle.obs_network.proofs.laws.components_have_buses.Goals as goal

pub returns : goal.returns
returns c = record { some = λ n live k l. omega (arith, sizes_of-at (component_count n live) (components_of n live) k 0 l, size-some n live k l) }
