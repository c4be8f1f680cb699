use Rattle.std.proofs.Common.{List, ℕ, ◌-◌, drop, get_or, length, take, subst, arith}
use Rattle.obs_graph.specs.Positions.{branches_at}
use Rattle.obs_matroid.specs.Lists.{In}
use Rattle.obs_outage.specs.inner.Sparing.{HasPut}
use Rattle.obs_outage.proofs.Putting.{ArePut-among, ArePut-none, In-slice, front_below}
use Rattle.obs_outage.proofs.PutWhole.{HasFronts-set, HasPut-behind, HasPut-known, rest_is}
use Rattle.obs_outage.proofs.spared.put_hub.Goals as goal

pub put_all-requires-clause-low : goal.put_all-requires-clause-low
put_all-requires-clause-low c =
    let k = get_or c.args.fronts.now c.args.hub.vertex 0 in
    let bs = c.branches_at.result.now in
    front_below c.args.g.now.ends c.args.hub.vertex c.args.hub.count k (length (take c.args.hub.count bs) - k) bs c.branches_at.ensures.branches

pub returns-then-known-hub : goal.returns-then-known-hub
returns-then-known-hub c =
    let ends = c.args.g.now.ends in
    let v = c.args.hub.vertex in
    let count = c.args.hub.count in
    let k = get_or c.args.fronts.now v 0 in
    let bs = c.branches_at.result.now in
    let n = length (take count bs) - k in
    let behind = subst (λ (xs : List ℕ). HasPut ends c.args.part.now (drop k (take count xs)) c.put_all.new.part) c.branches_at.ensures.branches
    (subst (λ (xs : List ℕ). HasPut ends c.args.part.now xs c.put_all.new.part) (rest_is (take count bs) k) c.put_all.ensures.whole) in
    let test = c.if-known-hub.true in
    let whole = HasPut-behind ends c.args.fronts.now v count c.args.part.now c.requires.known (omega (arith, test)) c.put_all.new.part behind in
    let vertex = c.requires.vertex in
    let room = c.requires.fronts in
    record {
      put = ArePut-among ends c.args.part.now (take n (drop k (take count bs))) (take count (branches_at ends v)) c.put_all.new.part
          (λ e i. subst (λ (xs : List ℕ). In e (take count xs)) c.branches_at.ensures.branches (In-slice n k (take count bs) e i)) c.put_all.ensures.put;
      whole = whole;
      known = HasFronts-set ends c.args.fronts.now v count c.args.part.now c.requires.known (omega (arith, vertex, room)) c.put_all.new.part whole;
    }

pub returns-else-known-hub : goal.returns-else-known-hub
returns-else-known-hub c =
    let test = c.if-known-hub.false in
    record {
      put = ArePut-none c.args.g.now.ends c.args.part.now (take c.args.hub.count (branches_at c.args.g.now.ends c.args.hub.vertex));
      whole = HasPut-known c.args.g.now.ends c.args.fronts.now c.args.hub.vertex c.args.hub.count c.args.part.now c.requires.known (omega (arith, test));
      known = c.requires.known;
    }
