use Rattle.std.proofs.Common.{arith, ◌∙◌, sym, true, false}
use Rattle.std.proofs.lemmas.List.{get_or_default}
use Rattle.obs_exchange.proofs.Fronts.{flag_low, front_at}
use Rattle.obs_exchange.proofs.stars.Stars.walked.Goals as goal

pub at-requires : goal.at-requires
at-requires c =
    let s = c.self.inside in
    record { k = flag_low s.walked s.fronts.items c.args.self.now c.args.v c.self.view_is c.requires.v }

pub index-requires : goal.index-requires
index-requires c =
    let s = c.self.inside in
    let low = flag_low s.walked s.fronts.items c.args.self.now c.args.v c.self.view_is c.requires.v in
    omega (arith, low, s.fronts.ok.0, c.self.invariant.0)

pub returns-then-at : goal.returns-then-at
returns-then-at c =
    let s = c.self.inside in
    let low = flag_low s.walked s.fronts.items c.args.self.now c.args.v c.self.view_is c.requires.v in
    let flag = sym c.at.ensures.flag ∙ c.if-at.true in
    record {
      walked = c.index.ensures
          ∙ (get_or_default s.fronts.items c.args.v c.index.result.now 0 (omega (arith, low, c.self.invariant.0))
          ∙ sym (front_at s.walked s.fronts.items c.args.self.now c.args.v true low c.self.invariant.0 c.self.view_is flag));
    }

pub returns-else-at : goal.returns-else-at
returns-else-at c =
    let s = c.self.inside in
    let low = flag_low s.walked s.fronts.items c.args.self.now c.args.v c.self.view_is c.requires.v in
    let flag = sym c.at.ensures.flag ∙ c.if-at.false in
    record { walked = sym (front_at s.walked s.fronts.items c.args.self.now c.args.v false low c.self.invariant.0 c.self.view_is flag) }
