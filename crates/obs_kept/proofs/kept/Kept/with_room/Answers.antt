use Rattle.std.proofs.Common.{List, length, ap}
use Rattle.obs_assign.specs.Assignment.{Assignment}
use Rattle.obs_case.specs.declared.rows.Meter.{Meter}
use Rattle.obs_exchange.specs.inner.Found.{Work}
use Rattle.obs_kept.proofs.OfNetwork.{room_made}
use Rattle.obs_kept.proofs.kept.Kept.with_room.Goals as goal

pub returns-clause-room : goal.returns-clause-room
returns-clause-room c =
    let made = c.in_ok-pairs.ensures.empty in
    let work = c.in_ok-work.ensures.empty in
    room_made c.args.case.now c.in_ok-network.network c.in_ok-pairs.pairs c.in_ok-work.work (length c.meters.result.now) c.position_count-positions.result c.vertex_room-vertices.result
    c.in_ok-network.ensures.whole (ap (λ (rows : List Meter). length rows) c.meters.ensures.rows) c.position_count-positions.ensures.count c.vertex_room-vertices.ensures.room
    (ap (λ (a : Assignment). a.most_meters) made) (ap (λ (a : Assignment). a.forest.most_branches) made) (ap (λ (a : Assignment). a.forest.most_vertices) made) (ap (λ (w : Work). w.sizes) work)

pub returns-clause-valid : goal.returns-clause-valid
returns-clause-valid c = c.meters.ensures.valid
