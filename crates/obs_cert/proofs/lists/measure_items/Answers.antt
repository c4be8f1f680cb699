use Rattle.std.proofs.Common.{length, [], ◌∙◌, arith, refl}
use Rattle.std.specs.List.{flat_map}
use Rattle.obs_network.specs.Network.{case_branches, network_of}
use Rattle.obs_cert.specs.inner.Contractions.{contracted_ends}
use Rattle.obs_cert.specs.Numbered.{items_of}
use Rattle.obs_cert.specs.Scopes.{item_touches}
use Rattle.obs_cert.proofs.CaseLemmas.{contracted_noted, noted_few, vertices_fit}
use Rattle.obs_cert.proofs.ContractionLemmas.{fits_room, hubs_begun}
use Rattle.obs_cert.proofs.lists.measure_items.Goals as goal

pub begin-requires : goal.begin-requires
begin-requires c =
    let fit = vertices_fit c.args.present.now (network_of c.args.present.now) (network_of c.args.present.now).graph (length c.args.ups.now) refl refl c.requires.free.vertices in
    record { fits = fits_room c.args.present.now c.args.contraction c.args.hubs.now.room c.requires.contraction (omega (arith, fit, c.requires.hubs)) }

pub join_items-count-requires-clause-vertices : goal.join_items-count-requires-clause-vertices
join_items-count-requires-clause-vertices c =
    vertices_fit c.args.present.now (network_of c.args.present.now) (network_of c.args.present.now).graph (length c.args.ups.now) refl refl c.requires.free.vertices

pub overflow_cast-result : goal.overflow_cast-result
overflow_cast-result c =
    let j = c.join_items-count in
    let ends = contracted_ends c.args.contraction (case_branches c.args.present.now) in
    let few = noted_few ends (flat_map (item_touches c.args.present.now) (items_of c.args.present.now c.args.items)) j.new.ups j.new.moved j.result j.ensures.count (j.ensures.joined [] c.requires.free.clear) in
    omega (arith, few, c.requires.free.few, j.auto.ups)

pub returns-clause-rank : goal.returns-clause-rank
returns-clause-rank c =
    let j = c.join_items-count in
    contracted_noted c.args.present.now c.args.contraction (flat_map (item_touches c.args.present.now) (items_of c.args.present.now c.args.items)) j.new.ups j.new.moved j.result
    j.ensures.valid c.requires.contraction (omega (arith, c.requires.free.vertices, j.auto.ups)) j.ensures.count (j.ensures.joined [] c.requires.free.clear)

pub join_items-count-requires-clause-hubs : goal.join_items-count-requires-clause-hubs
join_items-count-requires-clause-hubs c = hubs_begun c.args.present.now c.args.contraction c.begin.new.self.list c.args.ups.now c.case.ensures.valid c.requires.contraction c.begin.ensures.contracted

pub join_items-count-requires-clause-hub_room : goal.join_items-count-requires-clause-hub_room
join_items-count-requires-clause-hub_room c = omega (arith, c.begin.ensures.room, c.requires.hubs)

pub returns-clause-hubs : goal.returns-clause-hubs
returns-clause-hubs c = c.join_items-count.ensures.hub_room ∙ c.begin.ensures.room

pub join_items-count-requires-clause-ways : goal.join_items-count-requires-clause-ways
join_items-count-requires-clause-ways c = record { joined = ([], c.requires.free.clear); room = c.requires.free.room; fits = omega arith }
