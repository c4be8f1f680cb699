use Rattle.std.proofs.Common.{◌≡◌, ◌∙◌, ◌<◌, Option, Some, None, List, length, sym, ap, arith}
use Rattle.std.specs.Prelude.{IfSome, slice_index_or}
use Rattle.obs_graph.specs.Graph.{Graph}
use Rattle.obs_graph.specs.Positions.{branches_at}
use Rattle.obs_case.specs.Tables.{IsValid, Tables}
use Rattle.obs_meter.specs.declared.Hub.{Hub}
use Rattle.obs_meter.specs.declared.Touch.{Touch}
use Rattle.obs_meter.specs.declared.Touch.TheVariants.{Nothing}
use Rattle.obs_meter.specs.Held.{Meters}
use Rattle.obs_meter.specs.inner.Touches.{hub_of}
use Rattle.obs_network.specs.Network.{Network, case_branches, case_offered, case_rows}
use Rattle.obs_cert.specs.Scopes.{item_touches}
use Rattle.obs_cert.proofs.StarLemmas.{rows_at_hub}
use Rattle.obs_cert.proofs.stars.star_of.Goals as goal
use Rattle.obs_cert.proofs.stars.star_of.Goals.{After-hub}

low : (c : After-hub) → c.args.m < length (case_offered c.args.present.now)
low c =
    let items : c.offered-items.result.now.touches ≡ case_offered c.args.present.now = ap (λ (x : Meters). x.touches) (c.offered-items.ensures.offered ∙ ap (λ (n : Network). n.offered) c.network-network.ensures.network) in
    omega (arith, c.if-m-count.false, c.count.ensures.count, ap (λ (ts : List Touch). length ts) items)

rows : (t : Tables) (hub : Option Hub) → IsValid t → (m : _) → m < length (case_offered t) → hub ≡ hub_of (case_branches t) (slice_index_or (case_offered t) m Nothing)
    → IfSome hub (λ h. item_touches t m ≡ branches_at (case_rows t) h.vertex)
rows t None valid m l is = tt
rows t (Some h) valid m l is = rows_at_hub t valid m l h (sym is)

pub returns-clause-star : goal.returns-clause-star
returns-clause-star c =
    let t = c.args.present.now in
    let m = c.args.m in
    let g = c.graph.result.now in
    let ends : g.ends ≡ case_branches t = ap (λ (x : Graph). x.ends) (c.graph.ensures.graph ∙ ap (λ (n : Network). n.graph) c.network-network.ensures.network) in
    let items : c.offered-items.result.now.touches ≡ case_offered t = ap (λ (x : Meters). x.touches) (c.offered-items.ensures.offered ∙ ap (λ (n : Network). n.offered) c.network-network.ensures.network) in
    rows t c.hub.result c.network-network.ensures.valid m (low (goal.at.returns-clause-star c).After-hub)
    (c.hub.ensures.hub ∙ ap (λ es. hub_of es (slice_index_or c.offered-items.result.now.touches m Nothing)) ends ∙ ap (λ (ts : List Touch). hub_of (case_branches t) (slice_index_or ts m Nothing)) items)
