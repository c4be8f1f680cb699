use Rattle.std.proofs.Common.{arith}
use Rattle.obs_cert.proofs.JoinLemmas.{begun, own_joined}
use Rattle.obs_cert.proofs.joins.begin.Goals as goal

pub loop-v-preserved : goal.loop-v-preserved
loop-v-preserved c = begun c.loop-v.ups c.loop-v.v (omega (arith, c.loop-v-test.true, c.loop-v.auto.ups)) c.loop-v.invariant

pub returns : goal.returns
returns c = record { clear = own_joined c.loop-v.ups (λ u l. c.loop-v.invariant u (omega (arith, l, c.loop-v-test.false, c.loop-v.auto.ups))) }
