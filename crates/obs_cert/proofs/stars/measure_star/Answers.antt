use Rattle.std.proofs.Common.{◌≤◌, ◌≡◌, [], length, take, ap, ◌∙◌, subst, arith, refl}
use Rattle.obs_graph.specs.Graph.{Graph}
use Rattle.obs_meter.specs.Held.{Meters}
use Rattle.obs_meter.specs.Touches.{touch_at}
use Rattle.obs_network.specs.Network.{Network, case_branches, case_offered, network_of}
use Rattle.obs_cert.specs.declared.contraction.Contraction.TheVariants.{Nothing}
use Rattle.obs_cert.specs.inner.Contractions.{contracted_ends}
use Rattle.obs_cert.specs.Flaws.{rank_of_branches}
use Rattle.obs_cert.specs.inner.Joins.{AreJoined, onto}
use Rattle.obs_cert.specs.inner.Stars.{star_rank}
use Rattle.obs_cert.proofs.CaseLemmas.{case_rank, noted_few, vertices_fit}
use Rattle.obs_cert.proofs.ContractionLemmas.{contracted_nothing}
use Rattle.obs_cert.proofs.stars.measure_star.Goals as goal
use Rattle.obs_cert.proofs.stars.measure_star.Goals.{After-clear}

pub bounds-stars-i : goal.bounds-stars-i
bounds-stars-i c =
    let fit = vertices_fit c.args.present.now (network_of c.args.present.now) (network_of c.args.present.now).graph (length c.args.ups.now) refl refl c.requires.free.vertices in
    omega (arith, c.requires.injection.bus, fit, c.requires.stars)

pub join_all-count-requires-clause-vertices : goal.join_all-count-requires-clause-vertices
join_all-count-requires-clause-vertices c =
    vertices_fit c.args.present.now c.network-network.result.now c.graph-graph.result.now (length c.args.ups.now) c.network-network.ensures.network c.graph-graph.ensures.graph c.requires.free.vertices

few : (c : After-clear) → c.join_all-count.result ≤ length c.join_all-count.new.ups
few c =
    let j = c.join_all-count in
    noted_few (contracted_ends Nothing c.graph-graph.result.now.ends) c.touch-touched.result.now j.new.ups j.new.moved j.result j.ensures.count (j.ensures.joined [] c.requires.free.clear)

pub overflow_cast-count : goal.overflow_cast-count
overflow_cast-count c = let f = few (goal.at.overflow_cast-count c).After-clear in omega (arith, f, c.requires.free.few, c.join_all-count.auto.ups)

pub overflow_cast-result : goal.overflow_cast-result
overflow_cast-result c = let f = few (goal.at.overflow_cast-result c).After-clear in omega (arith, f, c.requires.free.few, c.join_all-count.auto.ups)

rank_is : (c : After-clear) → c.join_all-count.result ≡ star_rank c.args.present.now c.args.i.bus
rank_is c =
    let t = c.args.present.now in
    let g = c.graph-graph.result.now in
    let j = c.join_all-count in
    let ends : g.ends ≡ case_branches t = ap (λ (x : Graph). x.ends) (c.graph-graph.ensures.graph ∙ ap (λ (n : Network). n.graph) c.network-network.ensures.network) in
    let items : c.offered.result.now.touches ≡ case_offered t = ap (λ (x : Meters). x.touches) (c.offered.ensures.offered ∙ ap (λ (n : Network). n.offered) c.network-network.ensures.network) in
    case_rank t c.network-network.result.now g c.touch-touched.result.now j.new.ups j.new.moved j.result c.network-network.ensures.valid c.network-network.ensures.network c.graph-graph.ensures.graph
    (omega (arith, c.requires.free.vertices, j.auto.ups)) j.ensures.count
    (subst (λ es. AreJoined (onto es c.touch-touched.result.now []) j.new.ups (take j.result j.new.moved)) (contracted_nothing g.ends) (j.ensures.joined [] c.requires.free.clear))
    ∙ ap (rank_of_branches t) (c.touch-touched.ensures.touched ∙ ap (λ es. touch_at es c.offered.result.now.touches c.args.i.item) ends ∙ ap (λ ts. touch_at (case_branches t) ts c.args.i.item) items ∙ c.requires.injection.rows)

pub keep-requires : goal.keep-requires
keep-requires c =
    let fit = vertices_fit c.args.present.now (network_of c.args.present.now) (network_of c.args.present.now).graph (length c.args.ups.now) refl refl c.requires.free.vertices in
    record { v = omega (arith, c.requires.injection.bus, fit, c.requires.stars) }

pub returns-clause-rank : goal.returns-clause-rank
returns-clause-rank c = rank_is (goal.at.returns-clause-rank c).After-clear

pub returns-clause-kept : goal.returns-clause-kept
returns-clause-kept c = c.keep.ensures.kept c.args.present.now (rank_is (goal.at.returns-clause-kept c).After-clear) c.requires.kept

pub returns-then-known-gt0-clause-rank : goal.returns-then-known-gt0-clause-rank
returns-then-known-gt0-clause-rank c = omega (arith, c.requires.kept c.args.i.bus c.if-known-gt0.true)

pub returns-then-known-gt0-clause-kept : goal.returns-then-known-gt0-clause-kept
returns-then-known-gt0-clause-kept c = c.requires.kept

pub returns-then-known-gt0-clause-clear : goal.returns-then-known-gt0-clause-clear
returns-then-known-gt0-clause-clear c = c.requires.free.clear

pub touch-touched-requires-clause-item : goal.touch-touched-requires-clause-item
touch-touched-requires-clause-item c =
    let items : c.offered.result.now.touches ≡ case_offered c.args.present.now = ap (λ (x : Meters). x.touches) (c.offered.ensures.offered ∙ ap (λ (n : Network). n.offered) c.network-network.ensures.network) in
    rw items c.requires.injection.item

pub slice_bounds-clear-end : goal.slice_bounds-clear-end
slice_bounds-clear-end c = c.join_all-count.ensures.count

pub clear-requires : goal.clear-requires
clear-requires c = record { joined = (onto (contracted_ends Nothing c.graph-graph.result.now.ends) c.touch-touched.result.now [], c.join_all-count.ensures.joined [] c.requires.free.clear) }

pub returns-clause-clear : goal.returns-clause-clear
returns-clause-clear c = c.clear.ensures.clear

pub join_all-count-requires-clause-ways : goal.join_all-count-requires-clause-ways
join_all-count-requires-clause-ways c = record { joined = ([], c.requires.free.clear); room = c.requires.free.room; fits = omega arith }
