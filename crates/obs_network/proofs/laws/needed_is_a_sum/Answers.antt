use Rattle.std.specs.Prelude.{slice_index_or, false}
use Rattle.obs_network.specs.Components.{need_of}
use Rattle.obs_network.proofs.Marked.{sum_of_passing}
use Rattle.obs_network.proofs.laws.needed_is_a_sum.Goals as goal

pub returns : goal.returns
returns c = record { sum = λ sizes energised absolute count. sum_of_passing (λ k. slice_index_or energised k false) (need_of sizes absolute) count }
