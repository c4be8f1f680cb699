use Rattle.std.proofs.Common.{ap, length, ◌∙◌, arith}
use Rattle.obs_cert.specs.inner.Walked.{parts_in}
use Rattle.obs_cert.proofs.SaidLemmas.{walked}
use Rattle.obs_cert.proofs.cert.Cert.bytes.Goals as goal

pub returns : goal.returns
returns c =
    let w = walked c.self.inside.bytes.items c.self.inside.claims c.self.invariant.claims in
    record {
      claims = ap (λ bytes. (parts_in bytes).claims) c.deref.ensures.value ∙ w.0 ∙ c.self.view_is;
      few = omega (arith, w.1, ap length c.self.view_is, c.self.invariant.few);
    }
