use Rattle.std.proofs.Common.{◌≡◌, ℕ, List, None, length, get_or, ap, arith}
use Rattle.obs_station.proofs.Allowed.{allowance-put, ranked-put}
use Rattle.obs_station.proofs.rounds.settle_one.Goals as goal

pub returns-in-Some-clause-ranked : goal.returns-in-Some-clause-ranked
returns-in-Some-clause-ranked c =
    let shown = c.in-Some.ensures.rank in
    let low = c.requires.station in
    let nodes = c.requires.ranks in
    ranked-put c.args.over.now c.args.ranks.now c.args.c c.in-Some.rank (omega (arith, low, nodes)) c.requires.ranked shown.0 shown.1

pub returns-in-Some-clause-saved : goal.returns-in-Some-clause-saved
returns-in-Some-clause-saved c =
    let none : get_or c.args.ranks.now c.args.c None ≡ None = c.waits.ensures.waits c.if-not-waits.false in
    let low = c.requires.station in
    let nodes = c.requires.ranks in
    let put = allowance-put c.args.over.now.stations.now c.args.ranks.now c.args.c c.in-Some.rank low (omega (arith, low, nodes)) none in
    let long = ap (λ (xs : List ℕ). length xs) c.meters-list.ensures.meters in
    let most = c.saturating_add.ensures in
    omega (arith, put, long, most)
