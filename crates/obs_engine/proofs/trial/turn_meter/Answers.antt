use Rattle.std.proofs.Common.{◌≡◌, ◌∙◌, ◌<◌, ap, length, true, refl, sym, arith}
use Rattle.obs_case.specs.Tables.{Tables}
use Rattle.obs_network.specs.Observable.{case_rank}
use Rattle.obs_repair.specs.declared.edit.Edit.TheVariants.{Meter}
use Rattle.obs_repair.specs.Edits.{edited}
use Rattle.obs_engine.proofs.Turned.{regained_case, rows_lost, turn_searched}
use Rattle.obs_engine.proofs.trial.turn_meter.Given.{Over}
use Rattle.obs_engine.proofs.trial.turn_meter.Goals as goal
use Rattle.obs_engine.proofs.trial.turn_meter.Goals.{Joined-lost-first, then-lost-first, else-lost-first}

pub set-regained-requires : goal.set-regained-requires
set-regained-requires g c =
    let many = ap (λ (x : Tables). length x.meters) c.set-lost.ensures.edited.tables ∙ rows_lost c.args.session.now.tables c.args.at in
    let low = c.requires.meter in
    record { row = omega (arith, many, low) }

-- the case is as it was
back : (g : Over) (c : Joined-lost-first g) → c.set-regained.new.self.tables ≡ c.args.session.now.tables
back g c =
    c.set-regained.ensures.edited.tables
    ∙ (ap (λ (x : Tables). edited x (Meter c.args.at true)) c.set-lost.ensures.edited.tables ∙ regained_case c.args.session.now.tables c.args.at c.requires.inservice)

pub returns-clause-tables : goal.returns-clause-tables
returns-clause-tables g c = back g c

pub returns-clause-turn : goal.returns-clause-turn
returns-clause-turn g c = record {
  between = c.set-lost.new.self;
  lost = c.set-lost.result;
  regained = c.set-regained.result;
  loses = c.set-lost.ensures.edited;
  regains = c.set-regained.ensures.edited;
  taken = refl;
}

pub returns-clause-least : goal.returns-clause-least
returns-clause-least g c =
    let first = c.args.first in
    let lost = c.set-lost.ensures.edited in
    let regained = c.set-regained.ensures.edited in
    let same = regained.computed ∙ (ap (λ (x : Tables). case_rank x) (back g c) ∙ sym c.requires.first) in
    elim c.if-lost-first.branch [
      | then-lost-first w ↦
          let is = w.result-is in
          let fell = w.if-lost-first.true in
          let below : c.set-lost.result.rank < c.set-regained.result.rank = omega (arith, fell, same) in
          let one = turn_searched c.set-lost.new.self.tables c.set-regained.new.self.tables c.set-lost.new.self.pairs c.set-regained.new.self.pairs c.set-lost.result.rank c.set-regained.result.rank c.set-regained.result.searches
          c.pairs.ensures.longest lost.rank regained.repaired below in
          omega (arith, is, one)
      | else-lost-first w ↦ let is = w.result-is in omega (arith, is)
    ]
