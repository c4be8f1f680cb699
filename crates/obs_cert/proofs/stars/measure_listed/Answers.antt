use Rattle.std.proofs.Common.{◌≡◌, ◌+◌, ◌∙◌, ap, arith}
use Rattle.std.specs.List.{flat_map}
use Rattle.obs_graph.specs.Positions.{ends_of}
use Rattle.obs_graph.proofs.Ranks.{rank-le-n}
use Rattle.obs_network.specs.Network.{case_branches, case_vertex_count}
use Rattle.obs_network.proofs.OfCase.{case_vertex_count-le}
use Rattle.obs_cert.specs.declared.contraction.Contraction.TheVariants.{Nothing, Star}
use Rattle.obs_cert.specs.inner.Contractions.{contracted_rank}
use Rattle.obs_cert.specs.Flaws.{rank_of_items}
use Rattle.obs_cert.specs.Numbered.{items_of}
use Rattle.obs_cert.specs.Scopes.{item_touches}
use Rattle.obs_cert.specs.inner.Walked.{parts_in}
use Rattle.obs_cert.proofs.CaseLemmas.{rank_nothing}
use Rattle.obs_cert.proofs.ContractionLemmas.{rank_contracted}
use Rattle.obs_cert.proofs.stars.measure_listed.Goals as goal
use Rattle.obs_cert.proofs.stars.measure_listed.Goals.{After-measure_items}

both : (c : After-measure_items) → c.measure_star-rank.result + c.measure_items.result ≡ rank_of_items c.args.present.now (items_of c.args.present.now (parts_in c.args.rest.now).inside)
both c =
    let t = c.args.present.now in
    let i = c.in-Some.i in
    let list = items_of t (parts_in c.args.rest.now).inside in
    let injection = c.in-Some.ensures.injection in
    let listed = rw c.walk_items.ensures.items at c.in-Some.ensures.listed in
    let star = c.measure_star-rank.ensures.rank in
    let others = c.measure_items.ensures.rank ∙ ap (λ items. contracted_rank t (Star i.bus c.args.links) (items_of t items)) c.walk_items-in-Some.ensures.items in
    let all = rank_contracted t c.widest.ensures.valid i.bus injection.bus c.args.links.now c.requires.links list i.item listed injection.rows in
    omega (arith, star, others, all)

pub overflow_add-result : goal.overflow_add-result
overflow_add-result c =
    let t = c.args.present.now in
    let rank = both (goal.at.overflow_add-result c).After-measure_items in
    let most = rank-le-n (case_vertex_count t) (ends_of (case_branches t) (flat_map (item_touches t) (items_of t (parts_in c.args.rest.now).inside))) in
    let room = case_vertex_count-le t in
    omega (arith, rank, most, room, c.requires.free.vertices, c.requires.free.few)

pub returns-in-Some-clause-rank : goal.returns-in-Some-clause-rank
returns-in-Some-clause-rank c = both (goal.at.returns-in-Some-clause-rank c).After-measure_items

pub returns-in-None-clause-rank : goal.returns-in-None-clause-rank
returns-in-None-clause-rank c =
    let t = c.args.present.now in
    c.measure_items-in-None.ensures.rank ∙ ap (λ items. contracted_rank t Nothing (items_of t items)) c.walk_items-items.ensures.items
    ∙ rank_nothing t (flat_map (item_touches t) (items_of t (parts_in c.args.rest.now).inside))

pub measure_items-requires-clause-free : goal.measure_items-requires-clause-free
measure_items-requires-clause-free c =
    let f = c.requires.free in
    let j = c.measure_star-rank in
    record {
      vertices = omega (arith, f.vertices, j.auto.ups);
      few = omega (arith, f.few, j.auto.ups);
      room = omega (arith, f.room, j.auto.ups, j.auto.moved);
      clear = j.ensures.clear;
    }
