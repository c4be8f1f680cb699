use Rattle.std.proofs.Common.{sym, ◌∙◌, subst}
use Rattle.obs_graph.specs.Graph.{Graph}
use Rattle.obs_forest.specs.inner.Forest.{StandsOver as ForestStandsOver}
use Rattle.obs_meter.specs.Held.{Meters}
use Rattle.obs_meter.specs.inner.Sizes.{HasRoomFor}
use Rattle.obs_meter.specs.inner.Touches.{AreInRange}
use Rattle.obs_assign.specs.Assignment.{Assignment}
use Rattle.obs_assign.specs.inner.Assignment.{StandsOver}
use Rattle.obs_assign.proofs.Slotted.{slot_low}
use Rattle.obs_exchange.specs.declared.Found.TheVariants.{Grown}
use Rattle.obs_exchange.specs.declared.Sources.TheVariants.{All}
use Rattle.obs_exchange.proofs.Lengthening.{rooms}
use Rattle.obs_outage.specs.inner.Alone.{HasLost}
use Rattle.obs_outage.proofs.Alone.{grown_longest}
use Rattle.obs_outage.proofs.Crossed.{dropped_there, free_of, stands_here_without, thawed_dropped, thawed_found}
use Rattle.obs_outage.proofs.WithoutRow.{gone, in_range_there, meters_there, other, room_there, same_but_row}
use Rattle.obs_outage.proofs.short_way.find_another.Goals as goal

pub drop_pair-requires : goal.drop_pair-requires
drop_pair-requires g c =
    let a = c.args.pairs.now in
    record {
      stands = subst (λ (h : Graph). ForestStandsOver a.forest h) (sym c.graph.ensures.graph) c.requires.longest.stands.forest;
      m = slot_low a.slots c.args.m c.args.e c.requires.owner;
    }

pub search-requires : goal.search-requires
search-requires g c =
    let n = c.args.network.now in
    let e = c.args.e in
    let w = c.args.without.now in
    let h = c.requires.without in
    let a = c.args.pairs.now in
    let b = c.drop_pair.new.self in
    let lost : HasLost n a c.args.m e b = record {
      longest = c.requires.longest;
      had = c.requires.owner;
      slots = c.drop_pair.ensures.dropped;
      whole = c.drop_pair.ensures.whole;
      thawed = thawed_dropped a b c.args.m c.drop_pair.ensures.thawed c.requires.longest.thawed;
    } in
    record {
      stands = dropped_there e n (other n e w h) (same_but_row n e w h) (meters_there n e w h) a c.requires.longest c.args.m c.requires.owner
          c.graph.result.now c.graph.ensures.graph b c.drop_pair.ensures.dropped c.drop_pair.ensures.whole c.drop_pair.ensures.stands;
      in_range = in_range_there n e w h
          (subst (λ (i : Meters). AreInRange n.graph i.touches) c.meters.ensures.meters c.meters.ensures.in_range);
      room = room_there n e w h c.args.work.now.sizes c.requires.room;
      begins = tt;
    }

pub give_back-requires : goal.give_back-requires
give_back-requires g c =
    let n = c.args.network.now in
    let a = c.args.pairs.now in
    let b = c.drop_pair.new.self in
    let lost : HasLost n a c.args.m c.args.e b = record {
      longest = c.requires.longest;
      had = c.requires.owner;
      slots = c.drop_pair.ensures.dropped;
      whole = c.drop_pair.ensures.whole;
      thawed = thawed_dropped a b c.args.m c.drop_pair.ensures.thawed c.requires.longest.thawed;
    } in
    let stands = subst (λ (x : Graph). StandsOver b x n.meters.touches) c.graph.ensures.graph
    (c.drop_pair.ensures.stands n.meters.touches (subst (λ (x : Graph). StandsOver a x n.meters.touches) (sym c.graph.ensures.graph) c.requires.longest.stands)) in
    record {
      lost = (a, c.args.e, subst (λ (x : Assignment). HasLost n a c.args.m c.args.e x) (sym c.in-Closed.ensures.found.same) lost);
      stands = subst (λ (x : Assignment). StandsOver x n.graph n.meters.touches) (sym c.in-Closed.ensures.found.same) stands;
      room = subst (λ s. HasRoomFor s n.graph n.meters.touches) (sym c.search.ensures.same_sizes) c.requires.room;
    }

pub returns-in-Grown : goal.returns-in-Grown
returns-in-Grown g c =
    let n = c.args.network.now in
    let e = c.args.e in
    let w = c.args.without.now in
    let h = c.requires.without in
    let o = other n e w h in
    let a = c.args.pairs.now in
    let b = c.drop_pair.new.self in
    let thawed = thawed_dropped a b c.args.m c.drop_pair.ensures.thawed c.requires.longest.thawed in
    let lost : HasLost n a c.args.m e b = record {
      longest = c.requires.longest;
      had = c.requires.owner;
      slots = c.drop_pair.ensures.dropped;
      whole = c.drop_pair.ensures.whole;
      thawed = thawed;
    } in
    record {
      missed = λ yes m. free_of w.graph w.meters.touches e (gone n e w h) c.search.new.a c.search.ensures.stands m;
      longest = grown_longest n a b c.args.m e lost c.search.new.a c.in-Grown.ensures.found.longer
          (stands_here_without e n o (same_but_row n e w h) (meters_there n e w h) (gone n e w h) c.search.new.a c.search.ensures.whole c.search.ensures.stands)
          c.search.ensures.whole
          (thawed_found w.graph.ends w.meters.touches All b c.search.new.a c.search.new.work.reached (Grown c.in-Grown.field-0) c.in-Grown.ensures.found thawed);
      same_room = rooms a b c.search.new.a c.drop_pair.ensures.same_room c.search.ensures.same_room;
      same_sizes = c.search.ensures.same_sizes;
    }

pub returns-in-Closed : goal.returns-in-Closed
returns-in-Closed g c =
    let a = c.args.pairs.now in
    let b = c.drop_pair.new.self in
    record {
      missed = λ yes. absurd (cc yes);
      longest = c.give_back.ensures.longest;
      same_room = rooms a b c.give_back.new.pairs c.drop_pair.ensures.same_room (rooms b c.search.new.a c.give_back.new.pairs c.search.ensures.same_room c.give_back.ensures.same_room);
      same_sizes = c.give_back.ensures.same_sizes ∙ c.search.ensures.same_sizes;
    }
