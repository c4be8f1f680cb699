use Rattle.std.specs.Prelude.{refl}
use Rattle.obs_worked.proofs.Computed.{computed}
use Rattle.obs_worked.proofs.runs.limits.Goals as goal

pub returns : goal.returns
unfolding computed
returns c = record {
  given = (refl, refl);
  rows = (λ reply e. e, λ reply e. e, λ reply e. e, λ reply e. e);
  bytes = (λ reply e. e, λ reply e. e);
  input = (λ reply e. e, λ reply e. e);
}
