use Rattle.std.proofs.Common.{◌≡◌, ◌⊎◌, None}
use Rattle.std.specs.Prelude.{IsSome, slice_index_or}
use Rattle.obs_matroid.proofs.Contained.{All-from_In}
use Rattle.obs_meter.specs.Touches.{touched}
use Rattle.obs_meter.specs.Spanned.{ends_at, common_vertex}
use Rattle.obs_meter.proofs.Touched.{touched-hub, touched-vertex, touched-present, touched-rising}
use Rattle.obs_meter.proofs.laws.touched_branches.Goals as goal

pub returns-clause-rising : goal.returns-clause-rising
returns-clause-rising c = touched-rising

pub returns-clause-present : goal.returns-clause-present
returns-clause-present c = λ ends t. All-from_In (λ e. IsSome (slice_index_or ends e None)) (touched ends t) (touched-present ends t)

pub returns-clause-vertex : goal.returns-clause-vertex
returns-clause-vertex c = λ ends t. All-from_In (λ e. ((ends_at ends e).0 ≡ common_vertex ends t) ⊎ ((ends_at ends e).1 ≡ common_vertex ends t)) (touched ends t) (touched-vertex ends t)

pub returns-clause-hub : goal.returns-clause-hub
returns-clause-hub c = touched-hub
