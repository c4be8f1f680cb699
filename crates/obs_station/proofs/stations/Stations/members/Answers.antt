use Rattle.std.proofs.Common.{◌≡◌, ℕ, suc, List, length, take, sym, ap, subst, arith}
use Rattle.std.proofs.lemmas.List.{length-take-le}
use Rattle.obs_switch.specs.inner.Groups.{AreGroups, group_start}
use Rattle.obs_switch.proofs.Grouping.{group_start-le}
use Rattle.obs_station.specs.inner.Held.{Stations}
use Rattle.obs_station.proofs.Ordering.{by_station}
use Rattle.obs_station.proofs.stations.Stations.members.Goals as goal

pub slice_bounds-result-end : goal.slice_bounds-result-end
slice_bounds-result-end c =
    let keys : length (take c.self.inside.meters c.self.inside.keys.items) ≡ length c.args.self.now.keys = ap (λ (s : Stations). length s.keys) c.self.view_is in
    let size = length-take-le c.self.inside.meters c.self.inside.keys.items c.self.invariant.fits in
    let few = group_start-le c.args.self.now.keys c.args.self.now.buses.count in
    let all = ap (λ (xs : List ℕ). length xs) c.deref.ensures.value in
    sym (length-take-le c.live.result c.deref.result.now (omega (arith, keys, size, few, c.live.ensures.live, all, c.self.invariant.members_len, c.self.invariant.fits)))

pub returns-clause-by_station : goal.returns-clause-by_station
returns-clause-by_station c =
    let s = c.args.self.now in
    let keys : length (take c.self.inside.meters c.self.inside.keys.items) ≡ length c.args.self.now.keys = ap (λ (s : Stations). length s.keys) c.self.view_is in
    let size = length-take-le c.self.inside.meters c.self.inside.keys.items c.self.invariant.fits in
    let groups =
    subst (λ (s : Stations). AreGroups s.keys c.self.inside.members.items c.self.inside.starts.items (suc s.buses.count)) c.self.view_is c.self.invariant.groups in
    rw (c.live.ensures.live, c.deref.ensures.value)
    (by_station s.keys c.self.inside.members.items c.self.inside.starts.items s.buses.count groups (omega (arith, keys, size, c.self.invariant.members_len, c.self.invariant.fits)))

pub returns-clause-few : goal.returns-clause-few
returns-clause-few c =
    let s = c.args.self.now in
    let keys : length (take c.self.inside.meters c.self.inside.keys.items) ≡ length c.args.self.now.keys = ap (λ (s : Stations). length s.keys) c.self.view_is in
    let size = length-take-le c.self.inside.meters c.self.inside.keys.items c.self.invariant.fits in
    let few = group_start-le s.keys s.buses.count in
    rw (c.live.ensures.live, c.deref.ensures.value)
    (let cut = length-take-le (group_start s.keys s.buses.count) c.self.inside.members.items (omega (arith, keys, size, few, c.self.invariant.members_len, c.self.invariant.fits)) in omega (arith, cut, few))
