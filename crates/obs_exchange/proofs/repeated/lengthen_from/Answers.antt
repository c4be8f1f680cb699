use Rattle.std.proofs.Common.{refl, ◌∙◌, arith}
use Rattle.obs_exchange.proofs.Lengthening.{Closed-again, HasLengthened-closed, HasLengthened-enough, IsLengthening-grown, IsLengthening-none, room_again, rooms}
use Rattle.obs_exchange.proofs.repeated.lengthen_from.Goals as goal

pub search_noted-requires : goal.search_noted-requires
search_noted-requires g c =
    let i = c.loop-a.invariant in
    record {
      can = record {
        in_range = c.requires.in_range;
        stands = i.0.stands;
        room = room_again c.args.g.now c.args.ms.now.touches c.args.work.now.sizes c.loop-a.work.sizes i.1 c.requires.room;
        begins = tt;
        noted = i.4;
      };
    }

pub returns-in-Closed : goal.returns-in-Closed
returns-in-Closed g c =
    let graph = c.args.g.now in
    let touches = c.args.ms.now.touches in
    let l = c.loop-a in
    let i = l.invariant in
    let n = c.search_noted.new in
    let e = c.in-Closed.ensures in
    let ended = Closed-again graph touches l.a n.a n.work.reached e.found in
    let same = e.found.same in
    record {
      lengthened = HasLengthened-closed graph touches c.args.a.now l.a n.a l.searches i.0 n.work.reached e.found;
      ended = ended;
      short = λ closed. rw same (omega (arith, c.loop-a-test.true, c.length.ensures.length));
      noted = e.noted;
      stands = e.stands;
      whole = e.whole;
      bound = omega (arith, i.3, c.loop-a-test.true, c.length.ensures.length, i.0.longer);
      ticks = omega (arith, e.tick, i.2);
      same_room = rooms c.args.a.now l.a n.a i.0.same_room e.same_room;
      same_sizes = e.same_sizes ∙ i.1;
    }

pub returns-clause-lengthened : goal.returns-clause-lengthened
returns-clause-lengthened g c = HasLengthened-enough c.args.g.now c.args.ms.now.touches c.args.a.now c.loop-a.a c.loop-a.a c.loop-a.searches c.loop-a.invariant.0

pub returns-clause-ended : goal.returns-clause-ended
returns-clause-ended g c = omega (arith, c.loop-a-test.false, c.length.ensures.length)

pub loop-a-init : goal.loop-a-init
loop-a-init g c = (IsLengthening-none c.args.g.now c.args.ms.now.touches c.args.a.now c.requires.stands, refl, omega arith, omega arith, c.requires.noted)

pub loop-a-preserved : goal.loop-a-preserved
loop-a-preserved g c = let l = c.loop-a in let e = c.in_default.ensures in (
  IsLengthening-grown c.args.g.now c.args.ms.now.touches c.args.a.now l.a c.search_noted.new.a l.searches l.invariant.0 c.in_default.field-0 (omega (arith, c.turns.type_inv, c.turns.ensures.turns)) e.found e.stands e.same_room,
  e.same_sizes ∙ l.invariant.1,
  omega (arith, e.tick, l.invariant.2),
  omega (arith, l.invariant.3, c.loop-a-test.true, c.length.ensures.length, l.invariant.0.longer),
  e.noted,
)
