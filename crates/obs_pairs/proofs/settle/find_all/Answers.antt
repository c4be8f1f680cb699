use Rattle.std.proofs.Common.{◌≡◌, ◌<◌, ◌^◌, ℕ, Bool, List, length, refl, ap, sym, ◌∙◌, subst}
use Rattle.obs_assign.specs.inner.Assignment.{has_flag}
use Rattle.obs_pairs.specs.inner.Moved.{IsMoved}
use Rattle.obs_pairs.proofs.Moving.{IsMoved-on, IsMoved-same}
use Rattle.obs_pairs.proofs.Settling.{Settled-begun}
use Rattle.obs_pairs.proofs.Unreached.{closed_redundant}
use Rattle.obs_pairs.proofs.settle.find_all.Given.{Over}
use Rattle.obs_pairs.proofs.settle.find_all.Goals as goal
use Rattle.obs_pairs.proofs.settle.find_all.Goals.{After-close}

-- the search that shows the redundant meters adds no pair
closed : (g : Over) (c : After-close g) → IsMoved c.args.over.now c.args.a.now c.close.new.a c.args.room.now (record c.args.room.now { exchange = c.close.new.work })
closed g c = let e = c.close.ensures in IsMoved-same e.same refl e.same_sizes refl c.requires.may

pub close-requires : goal.close-requires
close-requires g c = let may = c.requires.may.search in record { longest = may.longest; in_range = may.in_range; room = may.room }

pub begin-requires : goal.begin-requires
begin-requires g c = record {
  waiting = c.requires.waiting ∙ sym (ap length c.reached.ensures.reached ∙ c.close.ensures.closed.flags);
  few = subst (λ (n : ℕ). n < 2 ^ 32) (sym c.requires.list) c.requires.may.search.few;
}

pub split_in_rounds-requires : goal.split_in_rounds-requires
split_in_rounds-requires g c =
    let graph = c.args.over.now.graph.now in
    let touches = c.args.over.now.meters.now.touches in
    let may = (closed g (goal.at.split_in_rounds-requires g c).After-close).may in
    let ok = may.search.branches in
    let b = c.begin.new in
    let same : b.waiting ≡ c.close.new.work.reached = c.begin.ensures.waiting ∙ c.reached.ensures.reached in
    record {
      may = may;
      settled = Settled-begun graph.vertices graph.ends touches ok b.waiting b.list (c.begin.auto.waiting ∙ c.requires.waiting) (c.begin.auto.list ∙ c.requires.list) c.begin.ensures.list
          (λ k. ap (λ (flags : List Bool). has_flag flags k) same ∙ closed_redundant graph touches c.close.new.a c.close.new.work.reached ok may.search.longest c.close.ensures.closed k);
    }

pub settle_all-requires : goal.settle_all-requires
settle_all-requires g c = record { may = c.split_in_rounds.ensures.moved.may; settled = c.split_in_rounds.ensures.settled }

pub name_all-requires : goal.name_all-requires
name_all-requires g c = record { branches = c.requires.may.search.branches; keyed = c.settle_all.ensures.keyed }

pub returns : goal.returns
returns g c = record {
  classes = c.name_all.ensures.classes;
  moved = IsMoved-on (IsMoved-on (closed g (goal.at.returns g c).After-close) c.split_in_rounds.ensures.moved) c.settle_all.ensures.moved;
}
