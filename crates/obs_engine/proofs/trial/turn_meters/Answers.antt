use Rattle.std.proofs.Common.{◌∙◌, ◌<◌, ◌≤◌, ap, arith, length, refl, subst, sym}
use Rattle.std.specs.Prelude.{if◌then◌else◌}
use Rattle.obs_case.specs.Tables.{IsValid, Tables}
use Rattle.obs_network.specs.Observable.{case_rank}
use Rattle.obs_network.proofs.OfCase.{few_meters}
use Rattle.obs_engine.specs.Trials.{is_dip}
use Rattle.obs_engine.specs.inner.Trials.{AreInService}
use Rattle.obs_engine.proofs.Turned.{dips_are_counted, turned_all, turned_few, turned_none, turned_one, turns_all, turns_more}
use Rattle.obs_engine.proofs.trial.turn_meters.Goals as goal

pub overflow_cast-count : goal.overflow_cast-count
overflow_cast-count g c =
    let t = c.args.session.now.tables in
    let few = few_meters t (subst IsValid c.present.ensures.case c.meters.ensures.valid) in
    omega (arith, few, ap (λ xs. length xs) c.meters.ensures.rows, ap (λ (x : Tables). length x.meters) c.present.ensures.case)

pub loop-at-init : goal.loop-at-init
loop-at-init g c = record { tables = refl; turns = (refl, refl); turned = turned_none (is_dip c.args.session.now.tables) (length c.args.session.now.tables.meters); ticks = omega arith }

pub turn_meter-turn-requires-clause-meter : goal.turn_meter-turn-requires-clause-meter
turn_meter-turn-requires-clause-meter g c =
    omega (arith, c.loop-at-test.true, ap (λ xs. length xs) c.meters.ensures.rows, ap (λ (x : Tables). length x.meters) (c.present.ensures.case ∙ sym c.loop-at.invariant.tables))

pub turn_meter-turn-requires-clause-inservice : goal.turn_meter-turn-requires-clause-inservice
turn_meter-turn-requires-clause-inservice g c = subst AreInService (sym c.loop-at.invariant.tables) c.requires.inservice

pub turn_meter-turn-requires-clause-first : goal.turn_meter-turn-requires-clause-first
turn_meter-turn-requires-clause-first g c = c.state-first.ensures.computed ∙ ap case_rank (sym c.loop-at.invariant.tables)

pub overflow_add-turns : goal.overflow_add-turns
overflow_add-turns g c =
    let t = c.args.session.now.tables in
    let v = subst IsValid c.present.ensures.case c.meters.ensures.valid in
    let few =
    turned_few t (is_dip t) c.loop-at.at c.loop-at.turns.dips c.loop-at.turns.searches c.turn_meter-turn.result.dips c.turn_meter-turn.result.searches v c.loop-at.invariant.turned
    c.turn_meter-turn.ensures.least c.turn_meter-turn.ensures.most in
    omega (arith, few.0)

pub overflow_add-turns-in-loop-at : goal.overflow_add-turns-in-loop-at
overflow_add-turns-in-loop-at g c =
    let t = c.args.session.now.tables in
    let v = subst IsValid c.present.ensures.case c.meters.ensures.valid in
    let few =
    turned_few t (is_dip t) c.loop-at.at c.loop-at.turns.dips c.loop-at.turns.searches c.turn_meter-turn.result.dips c.turn_meter-turn.result.searches v c.loop-at.invariant.turned
    c.turn_meter-turn.ensures.least c.turn_meter-turn.ensures.most in
    omega (arith, few.1)

pub loop-at-preserved : goal.loop-at-preserved
loop-at-preserved g c =
    let t = c.args.session.now.tables in
    let same = c.loop-at.invariant.tables in
    let low : c.loop-at.at < length t.meters = omega (arith, c.loop-at-test.true, ap (λ xs. length xs) c.meters.ensures.rows, ap (λ (x : Tables). length x.meters) c.present.ensures.case) in
    record {
      tables = c.turn_meter-turn.ensures.tables ∙ same;
      turns = turns_more c.args.session.now c.loop-at.session c.turn_meter-turn.new.session c.loop-at.at c.loop-at.turns.searches c.turn_meter-turn.result.searches c.loop-at.invariant.turns c.turn_meter-turn.ensures.turn;
      turned =
          turned_one (is_dip t) (length t.meters) c.loop-at.at c.loop-at.turns.dips c.loop-at.turns.searches c.turn_meter-turn.result.dips c.turn_meter-turn.result.searches c.loop-at.invariant.turned low
          (c.turn_meter-turn.ensures.dips ∙ ap (λ (x : Tables). if is_dip x c.loop-at.at then 1 else 0) same) c.turn_meter-turn.ensures.least c.turn_meter-turn.ensures.most;
      ticks = omega (arith, c.loop-at.invariant.ticks, c.turn_meter-turn.ensures.ticks);
    }

pub returns : goal.returns
returns g c =
    let t = c.args.session.now.tables in
    let past : length t.meters ≤ c.loop-at.at = omega (arith, c.loop-at-test.false, ap (λ xs. length xs) c.meters.ensures.rows, ap (λ (x : Tables). length x.meters) c.present.ensures.case) in
    let all = turned_all (is_dip t) (length t.meters) c.loop-at.at c.loop-at.turns.dips c.loop-at.turns.searches c.loop-at.invariant.turned past in
    record { tables = c.loop-at.invariant.tables; turns = turns_all c.args.session.now c.loop-at.session c.loop-at.at (length t.meters) c.loop-at.turns.searches c.loop-at.invariant.turns c.loop-at.invariant.turned.few past; dips = all.0 ∙ dips_are_counted t; least = all.1; most = all.2; ticks = c.loop-at.invariant.ticks }
