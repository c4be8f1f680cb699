use Rattle.std.proofs.Common.{◌≡◌, ◌++◌, length, take, drop, ap, ◌∙◌}
use Rattle.obs_graph.proofs.Stored.{written_back}
use Rattle.obs_station.proofs.Ordering.{order_back}
use Rattle.obs_station.proofs.rounds.Rounds.reach.Goals as goal

pub close_in_order-requires-then-both-clause-order : goal.close_in_order-requires-then-both-clause-order
close_in_order-requires-then-both-clause-order g c =
    let s = c.args.over.now.stations.now in
    let ins = c.self.inside.list in
    let back : take ins.len (c.write_back.new.list ++ drop (length c.write_back.new.list) ins.items) ≡ c.write_back.new.list =
    written_back ins.len c.write_back.new.list ins.items (c.write_back.ensures.same_length ∙ ap length c.deref_mut-then-both.ensures.value) ins.ok.0 in
    rw (← c.requires.paired.grouped.keys, c.deref.ensures.value, back)
    (order_back s.keys s.buses.count c.members-order.result.now (take (length c.members-order.result.now) c.write_back.new.list) c.members-order.ensures.by_station c.write_back.ensures.back)
