use Rattle.std.proofs.Common.{◌≡◌, ◌++◌, length, take, drop, ap, ◌∙◌, arith}
use Rattle.obs_graph.proofs.Stored.{written_back}
use Rattle.obs_station.specs.inner.Rounds.{Rounds}
use Rattle.obs_station.proofs.rounds.Rounds.settle.Goals as goal

pub returns-clause-known : goal.returns-clause-known
returns-clause-known c =
    let ins = c.self.inside.ranks in
    let same = c.settle.ensures.same_length ∙ ap length c.deref_mut.ensures.value in
    let back : take ins.len (c.settle.new.ranks ++ drop (length c.settle.new.ranks) ins.items) ≡ c.settle.new.ranks = written_back ins.len c.settle.new.ranks ins.items same ins.ok.0 in
    let was = ap (λ (r : Rounds). length r.ranks) c.self.view_is in
    let nodes = c.requires.known.places.nodes in
    rw (back)
    (record {
      places = record { meters = ap (λ (r : Rounds). length r.firsts) c.self.view_is ∙ c.requires.known.places.meters; nodes = omega (arith, same, was, nodes) };
      ranked = c.settle.ensures.ranked;
    })
