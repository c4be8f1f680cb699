use Rattle.obs_graph.specs.inner.Joined.{renamed}
use Rattle.obs_graph.proofs.IsJoined.{same-from_true, false-from_apart}
use Rattle.obs_graph.proofs.Shapes.{merging_loses_one}
use Rattle.obs_graph.proofs.laws.merging_loses_one.Goals as goal

pub returns : goal.returns
returns c =
    record {
      apart = λ n m s t h f g es one range forest joined.
          false-from_apart (renamed h es) (h g.a) (h g.b) (merging_loses_one n m s t h one f g es range forest (same-from_true (renamed h es) (h f.a) (h f.b) joined));
    }
