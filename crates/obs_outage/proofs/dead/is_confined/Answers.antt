use Rattle.std.proofs.Common.{◌≡◌, Option, sym, ap, ◌∙◌, subst}
use Rattle.std.specs.Prelude.{IfSome, slice_index_or}
use Rattle.obs_graph.specs.Graph.{Graph}
use Rattle.obs_matroid.specs.Lists.{In}
use Rattle.obs_meter.specs.declared.Hub.{Hub}
use Rattle.obs_meter.specs.declared.Touch.TheVariants.{Nothing}
use Rattle.obs_meter.specs.Held.{Meters}
use Rattle.obs_meter.specs.inner.Touches.{hub_of}
use Rattle.obs_outage.proofs.UnfedSide.{confined_by}
use Rattle.obs_outage.proofs.dead.is_confined.Goals as goal

pub returns-in-Some-hub : goal.returns-in-Some-hub
returns-in-Some-hub c =
    let g = c.args.network.now in
    let m = c.in-Some.m in
    let P : Hub → Type 0 = λ h. In h.vertex c.args.side.now in
    let is : c.hub.result ≡ hub_of g.graph.ends (slice_index_or g.meters.touches m Nothing) =
    c.hub.ensures.hub ∙ ap (λ (x : Graph). hub_of x.ends (slice_index_or c.meters.result.now.touches m Nothing)) c.graph.ensures.graph
    ∙ ap (λ (x : Meters). hub_of g.graph.ends (slice_index_or x.touches m Nothing)) c.meters.ensures.meters in
    record {
      confined = λ t. confined_by g.graph.ends g.meters.touches c.args.pairs.now c.requires.whole c.args.e m c.in-Some.ensures.meter c.hub.result is P
          (subst (λ (z : Option Hub). IfSome z P) (sym c.in-Some-hub.is) (c.is_one_of.ensures.one t));
    }

pub returns-in-None-hub : goal.returns-in-None-hub
returns-in-None-hub c =
    let g = c.args.network.now in
    let m = c.in-Some.m in
    let P : Hub → Type 0 = λ h. In h.vertex c.args.side.now in
    let is : c.hub.result ≡ hub_of g.graph.ends (slice_index_or g.meters.touches m Nothing) =
    c.hub.ensures.hub ∙ ap (λ (x : Graph). hub_of x.ends (slice_index_or c.meters.result.now.touches m Nothing)) c.graph.ensures.graph
    ∙ ap (λ (x : Meters). hub_of g.graph.ends (slice_index_or x.touches m Nothing)) c.meters.ensures.meters in
    record {
      confined = λ t. confined_by g.graph.ends g.meters.touches c.args.pairs.now c.requires.whole c.args.e m c.in-Some.ensures.meter c.hub.result is P
          (subst (λ (z : Option Hub). IfSome z P) (sym c.in-None-hub.is) tt);
    }
