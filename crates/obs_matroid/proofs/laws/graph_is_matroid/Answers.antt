use Rattle.std.proofs.Common.{arith}
use Rattle.obs_matroid.proofs.Graphs.{IsMatroid-graphic}
use Rattle.obs_matroid.proofs.laws.graph_is_matroid.Goals as goal

pub returns : goal.returns
returns c = record { is_matroid = λ ends joined rank j empty spanned new. IsMatroid-graphic ends joined j rank empty spanned (λ L e n. let k = new L e n in omega (arith, k)) }
