use Rattle.std.proofs.Common.{◌≡◌, ℕ, ◌<◌, List, length, sym, ap, ◌∙◌, subst, arith}
use Rattle.std.specs.Prelude.{All}
use Rattle.obs_meter.specs.declared.Touch.{Touch}
use Rattle.obs_meter.specs.Held.{Meters}
use Rattle.obs_meter.specs.Lost.{is_listed, losing}
use Rattle.obs_assign.specs.inner.Assignment.{StandsOver}
use Rattle.obs_exchange.specs.inner.Longest.{IsLongest, IsMost}
use Rattle.obs_exchange.proofs.Lengthening.{room_again, rooms}
use Rattle.obs_exchange.proofs.Losing.{most-longest, stands-all}
use Rattle.obs_station.proofs.Pairs.{fewer_lost}
use Rattle.obs_station.proofs.Regaining.{MayRegrow, left_again, left_is, may_regrow, rank_left}
use Rattle.obs_station.proofs.without.rank_without.Given.{Over}
use Rattle.obs_station.proofs.without.rank_without.Goals as goal
use Rattle.obs_station.proofs.without.rank_without.Goals.{After-lose, After-regrow}

pub lose-requires : goal.lose-requires
lose-requires g c =
    let ready = c.requires.ready in
    let back = sym ready.left in
    record {
      stands = subst (λ (t : List Touch). StandsOver c.args.a.now c.args.over.now.graph.now t) back ready.paired.longest.stands;
      thawed = ready.paired.longest.thawed;
      low = subst (λ (t : List Touch). All (λ m. m < length t) c.args.list.now) back c.requires.low;
    }

-- what the meters touch while the listed ones are lost
is : (g : Over) (c : After-lose g) → c.lose.new.left.touches ≡ losing (is_listed c.args.list.now) c.args.over.now.meters.now.touches
is g c = left_is c.args.list.now c.args.room.now.left c.lose.new.left c.args.over.now.meters.now.touches c.requires.ready.left c.lose.ensures.left

may : (g : Over) (c : After-lose g) → MayRegrow c.args.over.now c.lose.new.left.touches c.args.room.now.exchange c.length-most.result
may g c = may_regrow c.args.list.now c.lose.new.left.touches (is g c) c.length-most.ensures.length c.requires.ready

-- the pairs that are longest then
without : (g : Over) (c : After-regrow g) → c.lose.new.left.touches ≡ losing (is_listed c.args.list.now) c.args.over.now.meters.now.touches
    → IsLongest c.args.over.now.graph.now (losing (is_listed c.args.list.now) c.args.over.now.meters.now.touches) c.regrow.new.a
without g c e = subst (λ (t : List Touch). IsLongest c.args.over.now.graph.now t c.regrow.new.a) e c.regrow.ensures.longest

pub regrow-requires : goal.regrow-requires
regrow-requires g c =
    let o = may g (goal.at.regrow-requires g c).After-lose in
    record { stands = c.lose.ensures.stands; thawed = c.lose.ensures.thawed; in_range = o.in_range; room = o.room; most = o.most }

pub regain-requires : goal.regain-requires
regain-requires g c = record { count = (may g (goal.at.regain-requires g c).After-lose).count; low = c.requires.low }

pub regrow-requires-2 : goal.regrow-requires-2
regrow-requires-2 g c =
    let over = c.args.over.now in
    let touches = over.meters.now.touches in
    let ready = c.requires.ready in
    record {
      stands = stands-all (is_listed c.args.list.now) over.graph.now touches c.regrow.new.a (without g (goal.at.regrow-requires-2 g c).After-regrow (is g (goal.at.regrow-requires-2 g c).After-lose)).stands;
      thawed = c.regrow.ensures.longest.thawed;
      in_range = ready.paired.grouped.in_range;
      room = room_again over.graph.now touches c.args.room.now.exchange.sizes c.regrow.new.work.sizes c.regrow.ensures.same_sizes ready.room;
      most = subst (λ (most : ℕ). IsMost over.graph.now.ends touches most) (sym c.length-most.ensures.length) (most-longest over.graph.now touches c.args.a.now ready.paired.longest);
    }

pub returns : goal.returns
returns g c =
    let over = c.args.over.now in
    let touches = over.meters.now.touches in
    let list = c.args.list.now in
    let ready = c.requires.ready in
    let lost = is g (goal.at.returns g c).After-lose in
    let one = c.regrow.ensures in
    let two = c.regrow-2.ensures in
    let most = c.length-most.ensures.length in
    let few = c.lose.ensures.few in
    let all_but_one = one.lengthened.all_but_one in
    let b1 = one.bound in
    let b2 = two.bound in
    let t0 = c.lose.ensures.turns in
    let t1 = one.ticks in
    let t2 = two.ticks in
    let rise = one.lengthened.turns_rise in
    let rise_again = two.lengthened.turns_rise in
    let turns = one.lengthened.turns_found in
    let turns_again = two.lengthened.turns_found in
    let grown = one.lengthened.grown in
    let grown_again = two.lengthened.grown in
    let sizes = two.same_sizes ∙ one.same_sizes in
    let back =
    left_again list c.args.room.now.left c.lose.new.left c.regain.new.left touches ready.left c.lose.ensures.left (c.regain.ensures.left (is_listed list) lost) in
    record {
      rank = c.length-rank.ensures.length ∙ rank_left over.graph.now touches list c.regrow.new.a ready.paired.grouped.branches (without g (goal.at.returns g c).After-regrow lost);
      ticks = omega (arith, most, few, all_but_one, b1, b2, t1, t2);
      vacant = λ m i bare. let fewer = fewer_lost c.args.a.now c.lose.new.a list m c.lose.ensures.slots i bare in omega (arith, most, fewer, all_but_one, b1, b2, t1, t2);
      goes_on = record {
        ready = record {
          paired = record { grouped = ready.paired.grouped; longest = two.longest };
          room = room_again over.graph.now touches c.args.room.now.exchange.sizes c.regrow-2.new.work.sizes sizes ready.room;
          left = ap (λ (m : Meters). m.touches) back ∙ ready.left;
        };
        left = back;
        turns_rise = omega (arith, t0, rise, rise_again);
        ticks_rise = omega (arith, t1, t2);
        turns_most = omega (arith, t0, turns, turns_again, grown, grown_again, t1, t2);
        same_room = rooms c.args.a.now c.regrow.new.a c.regrow-2.new.a (rooms c.args.a.now c.lose.new.a c.regrow.new.a c.lose.ensures.same_room one.same_room) two.same_room;
        same_sizes = sizes;
      };
    }
