use Rattle.std.proofs.Common.{◌≡◌, true, ap, sym, subst, ◌∙◌}
use Rattle.obs_graph.specs.Graph.{Graph}
use Rattle.obs_network.specs.Network.{network_of}
use Rattle.obs_repair.specs.declared.edit.Edit.TheVariants as edit
use Rattle.obs_repair.specs.inner.Parts.{BoundsNetwork, is_inside}
use Rattle.obs_repair.proofs.Limited.{limit-back, limit-back_within, limit-between, limit-branch, limit-lost}
use Rattle.obs_repair.proofs.limit.limit.Goals as goal

pub limit_back-requires-clause-more : goal.limit_back-requires-clause-more
limit_back-requires-clause-more c =
    limit-back c.args.edit c.args.alone c.args.between (network_of c.args.present.now) c.args.parts.now.first c.args.had (c.requires.before (sym c.are_known.ensures.known ∙ c.if-not-are_known.false)) c.in-Meter.at
    (c.in-Meter.is ∙ ap (edit.Meter c.in-Meter.at) c.if-inservice.true)

pub limit_back-requires-clause-within : goal.limit_back-requires-clause-within
limit_back-requires-clause-within c within =
    limit-back_within c.args.edit c.args.alone c.args.between (network_of c.args.present.now) c.args.parts.now.first c.args.had (c.requires.before (sym c.are_known.ensures.known ∙ c.if-not-are_known.false)) c.in-Meter.at
    (c.in-Meter.is ∙ ap (edit.Meter c.in-Meter.at) c.if-inservice.true) within

pub returns-then-between : goal.returns-then-between
returns-then-between c = record {
  limit = subst (λ k. BoundsNetwork (network_of c.args.present.now) c.args.parts.now.first k) (sym c.saturating_sub.ensures)
      (limit-between c.args.edit c.args.alone c.args.between (network_of c.args.present.now) c.args.parts.now.first c.args.had (c.requires.before (sym c.are_known.ensures.known ∙ c.if-not-are_known.false)) c.in-Meter.at
      (c.in-Meter.is ∙ ap (edit.Meter c.in-Meter.at) c.if-inservice.false) c.if-between.true);
}

pub returns-else-between : goal.returns-else-between
returns-else-between c = record {
  limit = limit-lost c.args.edit c.args.alone c.args.between (network_of c.args.present.now) c.args.parts.now.first c.args.had (c.requires.before (sym c.are_known.ensures.known ∙ c.if-not-are_known.false)) c.in-Meter.at
      (c.in-Meter.is ∙ ap (edit.Meter c.in-Meter.at) c.if-inservice.false);
}

pub returns-then-is_inside : goal.returns-then-is_inside
returns-then-is_inside c = record {
  limit = limit-branch c.args.edit c.args.alone c.args.between (network_of c.args.present.now) c.args.parts.now.first c.args.had (c.requires.before (sym c.are_known.ensures.known ∙ c.if-not-are_known.false)) c.in-Branch.at c.in-Branch.inservice
      c.in-Branch.is c.if-alone.true
      (subst (λ (g : Graph). is_inside c.args.parts.now.first g.ends c.in-Branch.at ≡ true) c.graph.ensures.graph (sym c.is_inside.ensures.inside ∙ c.if-is_inside.true));
}
