use Rattle.std.proofs.Common.{arith, ap, ◌∙◌, set, Bool, List, ℕ}
use Rattle.obs_exchange.specs.inner.Stars.{fronts_of}
use Rattle.obs_exchange.proofs.Fronts.{flag_low, fronts_of-set}
use Rattle.obs_exchange.proofs.stars.Stars.set_walked.Goals as goal

pub set-requires : goal.set-requires
set-requires c =
    let s = c.self.inside in
    record { k = flag_low s.walked s.fronts.items c.args.self.now c.args.v c.self.view_is c.requires.v }

pub index_mut-requires : goal.index_mut-requires
index_mut-requires c =
    let s = c.self.inside in
    let low = flag_low s.walked s.fronts.items c.args.self.now c.args.v c.self.view_is c.requires.v in
    omega (arith, low, s.fronts.ok.0, c.self.invariant.0)

pub returns : goal.returns
returns c =
    let s = c.self.inside in
    record {
      walked = ap (λ (bs : List Bool). fronts_of bs (set s.fronts.items c.args.v c.args.count)) c.set.ensures.set
          ∙ (fronts_of-set s.walked s.fronts.items c.args.v c.args.count c.self.invariant.0 ∙ ap (λ (xs : List ℕ). set xs c.args.v c.args.count) c.self.view_is);
    }
