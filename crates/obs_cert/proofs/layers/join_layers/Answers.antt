use Rattle.std.proofs.Common.{◌≡◌, [], ◌∷◌, ◌++◌, List, length, refl, sym, ◌∙◌, subst, take, arith}
use Rattle.std.specs.List.{flat_map}
use Rattle.obs_graph.specs.declared.Ends.{Ends}
use Rattle.obs_network.specs.Network.{case_branches, network_of}
use Rattle.obs_cert.specs.Claims.{Layer}
use Rattle.obs_cert.specs.declared.contraction.Contraction.TheVariants.{Nothing}
use Rattle.obs_cert.specs.inner.Contractions.{contracted_ends}
use Rattle.obs_cert.specs.Flaws.{rank_of_items}
use Rattle.obs_cert.specs.inner.Given.{layer_said}
use Rattle.obs_cert.specs.inner.Joins.{AreJoined, onto}
use Rattle.obs_cert.specs.Numbered.{items_of}
use Rattle.obs_cert.specs.Scopes.{item_touches}
use Rattle.obs_cert.proofs.CaseLemmas.{contracted_noted, rank_nothing, vertices_fit}
use Rattle.obs_cert.proofs.LayerLemmas.{IsRanking, joined_now, ranking_on, ranking_wrong}
use Rattle.obs_cert.proofs.layers.join_layers.Goals as goal
use Rattle.obs_cert.proofs.layers.join_layers.Goals.{After-join_items-count}

pub join_items-count-requires-clause-vertices : goal.join_items-count-requires-clause-vertices
join_items-count-requires-clause-vertices c =
    vertices_fit c.args.present.now (network_of c.args.present.now) (network_of c.args.present.now).graph (length c.loop-layer.ups) refl refl (omega (arith, c.requires.free.vertices, c.loop-layer.auto.ups))

here : (c : After-join_items-count) → IsRanking c.args.present.now (contracted_ends Nothing (case_branches c.args.present.now)) (layer_said c.in-Some.layer ∷ c.next.new.self) c.args.layers c.loop-layer.ups c.loop-layer.moved c.loop-layer.count c.loop-layer.wrong
here c =
    let l = c.loop-layer in
    subst (λ (ls : List Layer). IsRanking c.args.present.now (contracted_ends Nothing (case_branches c.args.present.now)) ls c.args.layers l.ups l.moved l.count l.wrong) c.in-Some.ensures.steps l.invariant.0

step : (c : After-join_items-count) → (es : List Ends) → AreJoined es c.loop-layer.ups (take c.loop-layer.count c.loop-layer.moved)
    → AreJoined (onto (contracted_ends Nothing (case_branches c.args.present.now)) (flat_map (item_touches c.args.present.now) (items_of c.args.present.now (layer_said c.in-Some.layer).inside)) es)
    c.join_items-count.new.ups (take c.join_items-count.result c.join_items-count.new.moved)
step c = rw (sym c.walk_items-items.ensures.items) c.join_items-count.ensures.joined

is_rank : (c : After-join_items-count) → c.join_items-count.result ≡ rank_of_items c.args.present.now ((here c).before ++ items_of c.args.present.now (layer_said c.in-Some.layer).inside)
is_rank c =
    let l = c.loop-layer in
    let j = c.join_items-count in
    let t = c.args.present.now in
    let h = here c in
    let ps = flat_map (item_touches t) (h.before ++ items_of t (layer_said c.in-Some.layer).inside) in
    contracted_noted t Nothing ps j.new.ups j.new.moved j.result c.join_items-count.ensures.valid tt (omega (arith, c.requires.free.vertices, l.auto.ups, j.auto.ups)) j.ensures.count
    (joined_now t (contracted_ends Nothing (case_branches c.args.present.now)) (layer_said c.in-Some.layer) c.next.new.self c.args.layers l.ups l.moved l.count l.wrong j.new.ups j.new.moved j.result h j.ensures.count (step c))
    ∙ rank_nothing t ps

pub loop-layer-preserved : goal.loop-layer-preserved
loop-layer-preserved c =
    let at = (goal.at.loop-layer-preserved c).After-join_items-count in
    let l = c.loop-layer in
    let j = c.join_items-count in (
      ranking_on c.args.present.now (contracted_ends Nothing (case_branches c.args.present.now)) (layer_said c.in-Some.layer) c.next.new.self c.args.layers l.ups l.moved l.count l.wrong j.new.ups j.new.moved j.result
          (here at) j.ensures.count (step at) (is_rank at) c.if-count-layer.false,
      j.ensures.hubs,
      j.ensures.hub_room ∙ l.invariant.2,
    )

pub loop-layer-preserved-then-count-layer : goal.loop-layer-preserved-then-count-layer
loop-layer-preserved-then-count-layer c =
    let at = (goal.at.loop-layer-preserved-then-count-layer c).After-join_items-count in
    let l = c.loop-layer in
    let j = c.join_items-count in (
      ranking_wrong c.args.present.now (contracted_ends Nothing (case_branches c.args.present.now)) (layer_said c.in-Some.layer) c.next.new.self c.args.layers l.ups l.moved l.count l.wrong j.new.ups j.new.moved j.result
          (here at) j.ensures.count (step at) (is_rank at) c.if-count-layer.true,
      j.ensures.hubs,
      j.ensures.hub_room ∙ l.invariant.2,
    )

pub join_items-count-requires-clause-hubs : goal.join_items-count-requires-clause-hubs
join_items-count-requires-clause-hubs c = c.loop-layer.invariant.1

pub join_items-count-requires-clause-hub_room : goal.join_items-count-requires-clause-hub_room
join_items-count-requires-clause-hub_room c = let e = c.loop-layer.invariant.2 in omega (arith, e, c.loop-layer.auto.ups, c.requires.hubs)

pub returns-clause-hubs : goal.returns-clause-hubs
returns-clause-hubs c = c.loop-layer.invariant.2

pub loop-layer-init : goal.loop-layer-init
loop-layer-init c =
    rw c.into_iter-layer-iterator.ensures.into_iter_gives (
      record { fits = omega arith; before = []; joined = c.requires.free.clear; going = refl },
      λ v i. absurd (c.begin.ensures.contracted v i),
      c.begin.ensures.room,
    )

pub join_items-count-requires-clause-ways : goal.join_items-count-requires-clause-ways
join_items-count-requires-clause-ways c =
    let i = c.loop-layer.invariant.0 in
    record {
      joined = (onto (contracted_ends Nothing (case_branches c.args.present.now)) (flat_map (item_touches c.args.present.now) i.before) [], i.joined);
      room = omega (arith, c.requires.free.room, c.loop-layer.auto.ups, c.loop-layer.auto.moved);
      fits = i.fits;
    }
