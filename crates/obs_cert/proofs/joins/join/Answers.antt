use Rattle.std.proofs.Common.{List, take, sym, ◌∙◌, arith, add-one}
use Rattle.obs_graph.specs.declared.Ends.{Ends}
use Rattle.obs_cert.specs.inner.Joins.{AreJoined}
use Rattle.obs_cert.proofs.JoinLemmas.{AreFound, found, joined_already, joined_new, room_left}
use Rattle.obs_cert.proofs.joins.join.Goals as goal
use Rattle.obs_cert.proofs.joins.join.Goals.{After-first-y}

both : (c : After-first-y) (es : List Ends) → AreJoined es c.args.ups.now (take c.args.count c.args.moved.now)
    → AreFound es c.first-y.new.ups (take c.args.count c.args.moved.now) c.args.ends.a c.args.ends.b c.first-x.result c.first-y.result
both c es j =
    let s = c.first-x.ensures in
    let t = c.first-y.ensures in
    found es c.args.ups.now c.first-x.new.ups c.first-y.new.ups (take c.args.count c.args.moved.now) c.args.ends.a c.args.ends.b c.first-x.result c.first-y.result j c.requires.a c.requires.b
    (record { len = c.first-x.auto.ups; low = s.low; under = s.below; back = λ u. (s.same_tops u).0; on = λ u. (s.same_tops u).1; firsts = s.first; joined = s.joined }) s.top
    (record { len = omega (arith, c.first-y.auto.ups); low = t.low; under = t.below; back = λ u. (t.same_tops u).0; on = λ u. (t.same_tops u).1; firsts = t.first; joined = t.joined }) t.top

pub returns-then-x-y-clause-joined : goal.returns-then-x-y-clause-joined
returns-then-x-y-clause-joined c es j =
    let f = both (goal.at.returns-then-x-y-clause-joined c).After-first-y es j in
    joined_already es c.args.ends c.first-y.new.ups (take c.args.count c.args.moved.now) (sym f.x_is ∙ c.if-x-y.true ∙ f.y_is) f.joined

pub lead-requires-clause-room : goal.lead-requires-clause-room
lead-requires-clause-room c =
    let q = c.requires.ways.joined in
    let f = both (goal.at.lead-requires-clause-room c).After-first-y q.0 q.1 in
    room_left q.0 c.args.ends c.args.ups.now c.args.moved.now c.args.count q.1 c.requires.ways.fits c.requires.ways.room c.requires.a c.requires.b
    (λ s. c.if-x-y.false (f.x_is ∙ s ∙ sym f.y_is))

pub returns-clause-joined : goal.returns-clause-joined
returns-clause-joined c es j =
    let f = both (goal.at.returns-clause-joined c).After-first-y es j in
    let q = c.requires.ways.joined in
    let room = room_left es c.args.ends c.args.ups.now c.args.moved.now c.args.count j c.requires.ways.fits c.requires.ways.room c.requires.a c.requires.b
    (λ s. c.if-x-y.false (f.x_is ∙ s ∙ sym f.y_is)) in
    rw (c.lead.ensures.led, c.lead.ensures.noted, c.max.ensures, c.min.ensures, add-one c.args.count)
    (joined_new es c.args.ends c.first-y.new.ups c.args.moved.now c.args.count c.first-x.result c.first-y.result f room
    (omega (arith, c.requires.a, c.first-x.auto.ups, c.first-y.auto.ups)) (omega (arith, c.requires.b, c.first-x.auto.ups, c.first-y.auto.ups)) c.if-x-y.false)

pub returns-clause-count : goal.returns-clause-count
returns-clause-count c =
    let q = c.requires.ways.joined in
    let f = both (goal.at.returns-clause-count c).After-first-y q.0 q.1 in
    let room = room_left q.0 c.args.ends c.args.ups.now c.args.moved.now c.args.count q.1 c.requires.ways.fits c.requires.ways.room c.requires.a c.requires.b
    (λ s. c.if-x-y.false (f.x_is ∙ s ∙ sym f.y_is)) in
    omega (arith, room, c.lead.auto.moved)
