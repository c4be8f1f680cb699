use Rattle.std.proofs.Common.{◌≡◌, ◌<◌, ◌∙◌, get_or, sym, take}
use Rattle.obs_graph.specs.Positions.{branches_at}
use Rattle.obs_meter.specs.declared.Hub.{Hub}
use Rattle.obs_meter.specs.declared.Touch.TheVariants.{Nothing}
use Rattle.obs_meter.specs.Touches.{touched}
use Rattle.obs_meter.proofs.Touched.{hub_low, touched-hub}
use Rattle.obs_assign.proofs.Choosing.{IfSome-by}
use Rattle.obs_exchange.proofs.setting.Setting.hub.Goals as goal

pub returns : goal.returns
returns c =
    let s = c.self.inside in
    let g = s.graph.now in
    let t = get_or s.meters.now.touches c.args.m Nothing in
    let is = c.hub.ensures.hub in
    let low = rw (← c.self.view_is) at c.requires.m in
    rw (← c.self.view_is)
    (record {
      hub = is;
      low = IfSome-by (λ (h : Hub). h.vertex < g.vertices) c.hub.result (λ h e. hub_low g t h (c.self.invariant.in_range c.args.m Nothing low) (sym is ∙ e));
      front = IfSome-by (λ (h : Hub). touched g.ends t ≡ take h.count (branches_at g.ends h.vertex)) c.hub.result (λ h e. touched-hub g.ends t h (sym is ∙ e));
    })
