use Rattle.std.proofs.Common.{ℕ, List, take, ap, ◌∙◌, subst}
use Rattle.obs_matroid.specs.Lists.{In}
use Rattle.obs_cert.specs.inner.Hubs.{Hubs}
use Rattle.obs_cert.proofs.hubs.Hubs.has.Goals as goal

pub returns : goal.returns
returns c = record {
  listed = λ t. subst (λ (xs : List ℕ). In c.args.v xs) (ap (take c.self.inside.count) c.deref.ensures.value ∙ ap (λ (h : Hubs). h.list) c.self.view_is) (c.stands.ensures.listed t);
}
