use Rattle.std.proofs.Common.{◌≡◌, ◌∙◌, List, ℕ, Option, length, take, sym, ap, subst, arith}
use Rattle.obs_graph.specs.declared.Ends.{Ends}
use Rattle.obs_graph.specs.Graph.{Graph}
use Rattle.obs_meter.specs.Held.{Meters}
use Rattle.obs_meter.specs.Touches.{touch_at}
use Rattle.obs_network.specs.Network.{Network, case_branches, case_offered}
use Rattle.obs_cert.specs.inner.Contractions.{FitsIn, contracted_ends}
use Rattle.obs_cert.specs.inner.Joins.{AreJoined, onto}
use Rattle.obs_cert.specs.Scopes.{item_touches}
use Rattle.obs_cert.proofs.ContractionLemmas.{fits_case}
use Rattle.obs_cert.proofs.lists.join_touched.Goals as goal

pub touch-touched-requires-clause-item : goal.touch-touched-requires-clause-item
touch-touched-requires-clause-item c =
    omega (arith, c.if-m-count.true, c.count.ensures.count, ap (λ (i : Meters). length i.touches) c.offered.ensures.offered, ap (λ (i : Meters). length i.touches) c.offered-then-m-count.ensures.offered)

pub join_all-requires-clause-vertices : goal.join_all-requires-clause-vertices
join_all-requires-clause-vertices c =
    omega (arith, c.requires.vertices, ap (λ (g : Graph). g.vertices) (c.graph-then-m-count.ensures.graph ∙ ap (λ (n : Network). n.graph) c.network-network.ensures.network))

pub returns-then-m-count-clause-joined : goal.returns-then-m-count-clause-joined
returns-then-m-count-clause-joined c = λ es joined.
    let t = c.args.present.now in
    let j = c.join_all in
    let graph : c.graph.result.now.ends ≡ case_branches t = ap (λ (g : Graph). g.ends) (c.graph.ensures.graph ∙ ap (λ (n : Network). n.graph) c.network-network.ensures.network) in
    let again : c.graph-then-m-count.result.now.ends ≡ case_branches t = ap (λ (g : Graph). g.ends) (c.graph-then-m-count.ensures.graph ∙ ap (λ (n : Network). n.graph) c.network-network.ensures.network) in
    let items : c.offered-then-m-count.result.now.touches ≡ case_offered t = ap (λ (i : Meters). i.touches) (c.offered-then-m-count.ensures.offered ∙ ap (λ (n : Network). n.offered) c.network-network.ensures.network) in
    let touched = c.touch-touched.ensures.touched ∙ ap (λ ends. touch_at ends c.offered-then-m-count.result.now.touches c.args.m) graph ∙ ap (λ ts. touch_at (case_branches t) ts c.args.m) items in
    let seen = contracted_ends c.args.contraction in
    subst (λ (ends : List (Option Ends)). AreJoined (onto (seen ends) (item_touches t c.args.m) es) j.new.ups (take j.result j.new.moved)) again
    (subst (λ (ts : List ℕ). AreJoined (onto (seen c.graph-then-m-count.result.now.ends) ts es) j.new.ups (take j.result j.new.moved)) touched (j.ensures.joined es joined))

pub join_all-requires-clause-fits : goal.join_all-requires-clause-fits
join_all-requires-clause-fits c =
    subst (λ n. FitsIn n c.args.contraction) (sym (ap (λ (g : Graph). g.vertices) (c.graph-then-m-count.ensures.graph ∙ ap (λ (n : Network). n.graph) c.network-network.ensures.network)))
    (fits_case c.args.present.now c.args.contraction c.requires.contraction)

pub returns-then-m-count-clause-count : goal.returns-then-m-count-clause-count
returns-then-m-count-clause-count c = c.join_all.ensures.count

pub returns-else-m-count-clause-count : goal.returns-else-m-count-clause-count
returns-else-m-count-clause-count c = c.requires.ways.fits

pub join_all-requires-clause-ways : goal.join_all-requires-clause-ways
join_all-requires-clause-ways c = c.requires.ways
