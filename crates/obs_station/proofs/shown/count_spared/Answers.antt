use Rattle.std.proofs.Common.{ℕ, ◌+◌, List, length, get_or, ap, ◌∙◌, inl, arith}
use Rattle.std.specs.Prelude.{filter, nat_lt}
use Rattle.obs_switch.specs.inner.Groups.{group_start}
use Rattle.obs_station.proofs.Ordering.{starts_rise}
use Rattle.obs_station.proofs.shown.count_spared.Goals as goal

pub returns-then-reached-le1 : goal.returns-then-reached-le1
returns-then-reached-le1 c =
    let s = c.args.stations.now in
    let firsts = c.args.reach.now.firsts.now in
    let end = c.start-all.ensures.start ∙ ap (group_start s.keys) c.count-count.ensures.count in
    let all = ap (λ (n : ℕ). length (filter (λ m. nat_lt (get_or firsts m 0) n) c.meters-list.result.now)) end in
    let list = ap (λ (xs : List ℕ). length (filter (λ m. nat_lt (get_or firsts m 0) (group_start s.keys s.buses.count)) xs)) c.meters-list.ensures.meters in
    record { spared = record { shown = inl (c.if-reached-le1.true, c.count_reached-reached.ensures.count ∙ (all ∙ list)) } }

pub overflow_sub-behind : goal.overflow_sub-behind
overflow_sub-behind c =
    let s = c.args.stations.now in
    let low = c.requires.station in
    let rise = starts_rise s.keys (c.args.c + 1) s.buses.count (omega (arith, low)) in
    let end = ap (group_start s.keys) c.count-count.ensures.count in
    omega (arith, rise, c.start-end.ensures.start, c.start-all.ensures.start, end)
